-- The steps of renaming a text.
use Rattle.std.proofs.Common.{◌≡◌, ℕ, ◌+◌, ◌<◌, ◌≤◌, Bool, true, false, cond, not, ltb, leb, List, [], ◌∷◌, ◌++◌, length, take, Some, None, Ok, Err, Decides, Option, Result, sym, refl, ap, ◌∙◌, arith}
use Rattle.std.specs.Str.{bytes_eq}
use Rattle.std.proofs.lemmas.Slice.Eq.{bytes_eq-Decides}
use Rattle.std.proofs.lemmas.List.{append_assoc, append-nil}
use Rattle.std.proofs.lemmas.Bool.{cond-true, cond-false, le-leb, lt-leb, ltb-false}
use Rattle.std.proofs.lemmas.Bool.Decides.{same_from_decides}
use Rattle.names.specs.declared.Fault.{Fault}
use Rattle.names.specs.declared.Naming.{Naming}
use Rattle.names.specs.declared.Refusal.{Refusal}
use Rattle.names.specs.declared.Refusal.TheVariants.{TextTooLong}
use Rattle.names.specs.declared.Token.{Token}
use Rattle.names.specs.declared.Token.TheVariants as token
use Rattle.names.specs.Buffers.{fits, laid}
use Rattle.names.specs.Heard.{said}
use Rattle.names.specs.Lines.{line, spaced, is_word, words_of}
use Rattle.names.specs.Pitches.{naming_word}
use Rattle.names.specs.Reader.{opening}
use Rattle.names.specs.Texts.{Told, Telling, first_of, later_than_first, later, pieces, told, stopped, text_told}
use Rattle.names.specs.Tokens.{Said, malformed, spelled, placed, buffered}
use Rattle.names.proofs.Cuts.{first_some, first_none}
use Rattle.names.proofs.Laying.{laid_front}
use Rattle.names.proofs.Lines.{spelled_short, line_laws, text_few}
use Rattle.renaming.specs.declared.Tally.{Tally}
use Rattle.renaming.specs.Renaming.{one, none, is_note, is_syllable, is_rest, is_frame, added, appended, Appends, tallied, renamed, unless_faulty, unless_long, Renews, Room, Sofar}

-- a token that is no naming word is a word
pub word_unless : (k : Token) → ((n : Naming) → k ≡ token.Naming n → ⊥) → is_word (said k) ≡ true
word_unless (token.Naming n) h = absurd (h n refl)
word_unless (token.Syllable s) h = refl
word_unless (token.Note x) h = refl
word_unless (token.Rest l) h = refl
word_unless (token.Frame k r) h = refl

module _ (to : Naming) (t : Said) (out : List ℕ) (e : malformed t ≡ None) (size : length out ≡ 64) where
  fits_it : fits out 0 (spelled to t) ≡ true
  fits_it = let h = spelled_short to t e in le-leb (0 + length (spelled to t)) (length out) (omega arith)

  pub place_is : placed (malformed t) out 0 (spelled to t) ≡ Ok (0 + length (spelled to t))
  place_is = ap (λ m. placed m out 0 (spelled to t)) e ∙ cond-true (fits out 0 (spelled to t)) _ _ fits_it

  pub buffer_is : buffered (malformed t) out 0 (spelled to t) ≡ laid out 0 (spelled to t)
  buffer_is = ap (λ m. buffered m out 0 (spelled to t)) e ∙ cond-true (fits out 0 (spelled to t)) _ _ fits_it

  -- the front of the buffer is the token
  pub front_is : (end : ℕ) (after : List ℕ) → Ok end ≡ placed (malformed t) out 0 (spelled to t) → after ≡ buffered (malformed t) out 0 (spelled to t) → take end after ≡ spelled to t
  front_is end after p b =
      let q : ◌≡◌ {A = Result ℕ Refusal} (Ok end) (Ok (0 + length (spelled to t))) = p ∙ place_is in
      let k : end ≡ 0 + length (spelled to t) = cc in
      let n : end ≡ length (spelled to t) = omega arith in
      ap (λ k. take k after) n ∙ ap (take (length (spelled to t))) (b ∙ buffer_is) ∙ laid_front out (spelled to t)

pub appends : (old mid new word typed : List ℕ) (to : Naming) (t : Told) (same : Bool) → is_word t.says ≡ true → word ≡ spelled to t.says → mid ≡ old ++ 32 ∷ [] → new ≡ mid ++ word → t.typed ≡ typed → Decides same (word ≡ typed) → Appends old new to t (not same)
appends old mid new word typed to t same w e m n y d =
    record {
      line = n ∙ ap (λ xs. xs ++ word) m ∙ append_assoc old (32 ∷ []) word ∙ ap (λ xs. old ++ 32 ∷ xs) e ∙ ap (λ xs. old ++ xs) (sym (cond-true (is_word t.says) (32 ∷ spelled to t.says) [] w));
      tells =
          ap not (same_from_decides same (bytes_eq word typed) d (bytes_eq-Decides word typed))
          ∙ ap (λ xs. not (bytes_eq xs typed)) e
          ∙ ap (λ xs. not (bytes_eq (spelled to t.says) xs)) (sym y)
          ∙ sym (cond-true (is_word t.says) (not (bytes_eq (spelled to t.says) t.typed)) false w);
    }

-- a reader that was opened tells what the text tells
pub opens : (text : List ℕ) (x : Telling) → Ok x ≡ opening text → (x ≡ text_told text) × (length text ≤ 65536)
opens text x e = by (ltb 65536 (length text)) refl e
  where
    by : (b : Bool) → ltb 65536 (length text) ≡ b → ◌≡◌ {A = Result Telling Fault} (Ok x) (cond b (Err (record { refusal = TextTooLong; byte = 0 })) (Ok (told None (pieces 0 text)))) → (x ≡ cond b (stopped TextTooLong 0) (told None (pieces 0 text))) × (length text ≤ 65536)
    by true l e = absurd (grind arith)
    by false l e = ((cc), ltb-false 65536 (length text) l)

pub sofar_start : (text : List ℕ) (to : Naming) (done : List ℕ) (x : Telling) → Ok x ≡ opening text → done ≡ naming_word to → Sofar text to done none x
sofar_start text to done x e d =
    let o = opens text x e in
    let f = text_few text o.1 in
    let n = ap (λ y. length y.tokens) o.0 in
    record {
      words = ap (λ xs. xs ++ spaced to (words_of x.tokens)) d ∙ ap (λ y. line to (words_of y.tokens)) o.0;
      fault = ap (λ y. y.fault) o.0;
      seen = ap (λ y. tallied to none y.tokens) o.0;
      room = record { tokens = omega arith; notes = omega arith; syllables = omega arith; rests = omega arith; frames = omega arith; changed = omega arith };
    }

one_small : (b : Bool) → one b ≤ 1
one_small true = omega arith
one_small false = omega arith

room_more : (y : Tally) (t : Said) (b : Bool) (n m : ℕ) → Room y n → n ≡ m + 1 → Room (added y t b) m
room_more y t b n m r e =
    let k1 = one_small (is_note t) in
    let k2 = one_small (is_syllable t) in
    let k3 = one_small (is_rest t) in
    let k4 = one_small (is_frame t) in
    let k5 = one_small b in
    let h1 = r.tokens in
    let h2 = r.notes in
    let h3 = r.syllables in
    let h4 = r.rests in
    let h5 = r.frames in
    let h6 = r.changed in
    record { tokens = omega arith; notes = omega arith; syllables = omega arith; rests = omega arith; frames = omega arith; changed = omega arith }

words_more : (to : Naming) (done : List ℕ) (t : Told) (ts : List Told) → (done ++ appended to t.says) ++ spaced to (words_of ts) ≡ done ++ spaced to (words_of (t ∷ ts))
unfolding spaced
words_more to done t ts = by (is_word t.says)
  where
    by : (b : Bool) → (done ++ cond b (32 ∷ spelled to t.says) []) ++ spaced to (words_of ts) ≡ done ++ spaced to (cond b (t.says ∷ words_of ts) (words_of ts))
    by true = append_assoc done (32 ∷ spelled to t.says) (spaced to (words_of ts))
    by false = ap (λ xs. xs ++ spaced to (words_of ts)) (append-nil done)

pub sofar_more : (text : List ℕ) (to : Naming) (done done' : List ℕ) (y y' : Tally) (x x' : Telling) (t : Told) (b : Bool) → Sofar text to done y x → x.tokens ≡ t ∷ later_than_first x.tokens → x' ≡ later x → Appends done done' to t b → y' ≡ added y t.says b → Sofar text to done' y' x'
unfolding tallied
sofar_more text to done done' y y' x x' t b s e l a g =
    let ts = later_than_first x.tokens in
    let tokens : x'.tokens ≡ ts = ap (λ z. z.tokens) l in
    let n = ap length e in
    let m = ap length tokens in
    record {
      words = ap (λ xs. xs ++ spaced to (words_of x'.tokens)) a.line ∙ ap (λ us. (done ++ appended to t.says) ++ spaced to (words_of us)) tokens ∙ words_more to done t ts ∙ ap (λ us. done ++ spaced to (words_of us)) (sym e) ∙ s.words;
      fault = ap (λ z. z.fault) l ∙ s.fault;
      seen = ap (λ us. tallied to y' us) tokens ∙ ap (λ z. tallied to z ts) g ∙ ap (λ c. tallied to (added y t.says c) ts) a.tells ∙ ap (tallied to y) (sym e) ∙ s.seen;
      room = let r = room_more y t.says b (length x.tokens) (length x'.tokens) s.room (omega arith) in rw g r;
    }

module _ (text : List ℕ) (to : Naming) (done new : List ℕ) (y : Tally) (x : Telling) (s : Sofar text to done y x) (e : x.tokens ≡ []) (f : x.fault ≡ None) (n : new ≡ done ++ 10 ∷ []) where
  whole_line : new ≡ line to (words_of (text_told text).tokens)
  unfolding spaced
  whole_line = n ∙ ap (λ us. done ++ spaced to (words_of us)) (sym e) ∙ s.words

  faultless : (text_told text).fault ≡ None
  faultless = sym s.fault ∙ f

  renamed_is : renamed to text ≡ unless_long new
  renamed_is = ap (λ o. unless_faulty o (line to (words_of (text_told text).tokens))) faultless ∙ ap unless_long (sym whole_line)

  pub too_long : 65536 < length new → renamed to text ≡ Err (record { refusal = TextTooLong; byte = 0 })
  too_long h = renamed_is ∙ cond-false (leb (length new) 65536) _ _ (lt-leb (length new) 65536 h)

  pub renews : length new ≤ 65536 → Renews text to new y
  unfolding tallied
  renews h =
      let l : length (line to (words_of (text_told text).tokens)) ≤ 65536 = let k = ap length whole_line in omega arith in
      let b = line_laws.back to (words_of (text_told text).tokens) (line_laws.typable text) l in
      record {
        made = renamed_is ∙ cond-true (leb (length new) 65536) _ _ (le-leb (length new) 65536 h);
        seen = ap (tallied to y) (sym e) ∙ s.seen;
        same = ap (λ bs. words_of (text_told bs).tokens) whole_line ∙ b.0;
        whole = ap (λ bs. (text_told bs).fault) whole_line ∙ b.1;
      }
