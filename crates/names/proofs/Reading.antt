-- The steps of reading tokens.
use Rattle.std.proofs.Common.{◌≡◌, ℕ, ◌+◌, ◌-◌, ◌<◌, ◌≤◌, true, false, not, ◌&&◌, ltb, List, [], ◌∷◌, length, get_or, take, drop, Some, None, Ok, Err, Option, Result, sym, ap, ◌∙◌, arith}
use Rattle.std.proofs.lemmas.List.{drop-drop}
use Rattle.std.proofs.lemmas.Bool.{cond-true, cond-false, lt-ltb, le-ltb, and_left, and_right, and_from}
use Rattle.std.specs.Char.{is_ascii_digit}
use Rattle.std.proofs.lemmas.List.Sums.{prefix_len-le-length}
use Rattle.names.specs.declared.keywords.Keyword.{Keyword}
use Rattle.names.specs.declared.notes.NoteReader.{NoteReader}
use Rattle.names.specs.declared.pitches.Naming.{Naming}
use Rattle.names.specs.declared.pitches.Pitch.{Pitch}
use Rattle.names.specs.declared.refusals.Refusal.{Refusal}
use Rattle.names.specs.declared.refusals.Refusal.TheVariants.{TokenTooLong, NotOfForm, BadOctaveOrLength}
use Rattle.names.specs.declared.tokens.Kind.{Kind}
use Rattle.names.specs.declared.tokens.Token.{Token}
use Rattle.names.specs.Heard.{Hears}
use Rattle.names.specs.Keywords.{keyword_named}
use Rattle.names.specs.Names.{pitch_read}
use Rattle.names.specs.Pitches.{naming_named}
use Rattle.names.specs.Scanned.{start, scanned, struck}
use Rattle.names.specs.Tokens.{Said, naming, syllable, note, quoted, inside, syllabled, syllable_read, run, colon, note_name, note_tail, tailed, note_read, of_pitch, of_length, length_read, rank_read, framed, frame_read, begun, read_by_kind, worded, token_read}
use Rattle.names.proofs.Scanning.{scan_parts}

-- what the note reader found, as the note's definition has it
module _ (bs : List ℕ) (r : NoteReader) (e : r ≡ scanned start bs) where
  pub name_is : r.name ≡ run (λ b. not (is_ascii_digit b)) bs
  name_is = ap (λ x. x.name) e ∙ (scan_parts bs).name

  pub name_within : r.name ≤ length bs
  name_within = let n = name_is in let w = prefix_len-le-length (λ b. not (is_ascii_digit b)) bs in omega arith

  pub front_is : take r.name bs ≡ note_name bs
  front_is = ap (λ k. take k bs) name_is

  pub back_is : drop r.name bs ≡ note_tail bs
  back_is = ap (λ k. drop k bs) name_is

  pub struck_is : struck r.part ≡ tailed (note_tail bs)
  struck_is = ap (λ x. struck x.part) e ∙ (scan_parts bs).struck

  pub octave_is : tailed (note_tail bs) ≡ true → r.octave ≡ get_or (note_tail bs) 0 0 - 48
  octave_is t = ap (λ x. x.octave) e ∙ (scan_parts bs).octave t

pub tail_long : (bs : List ℕ) → tailed bs ≡ true → 2 ≤ length bs
tail_long [] t = absurd (grind arith)
tail_long (a ∷ []) t = absurd (grind arith)
tail_long (a ∷ b ∷ bs) t = omega arith

pub note_nameless : (n : Naming) (bs : List ℕ) (f : Refusal) → pitch_read n (note_name bs) ≡ Err f → note_read (Some n) bs ≡ Err f
unfolding note_read
note_nameless n bs f e = ap (λ p. of_pitch p (note_tail bs)) e

pub note_tailless : (n : Naming) (bs : List ℕ) (p : Pitch) → pitch_read n (note_name bs) ≡ Ok p → tailed (note_tail bs) ≡ false → note_read (Some n) bs ≡ Err BadOctaveOrLength
unfolding note_read
note_tailless n bs p e t = ap (λ p. of_pitch p (note_tail bs)) e ∙ cond-false (tailed (note_tail bs)) _ _ t

pub note_tailed : (n : Naming) (bs : List ℕ) (p : Pitch) (o : Option ℕ) → pitch_read n (note_name bs) ≡ Ok p → tailed (note_tail bs) ≡ true → length_read (drop 2 (note_tail bs)) ≡ o → note_read (Some n) bs ≡ of_length o (note p (get_or (note_tail bs) 0 0 - 48))
unfolding note_read
note_tailed n bs p o e t l = ap (λ p. of_pitch p (note_tail bs)) e ∙ cond-true (tailed (note_tail bs)) _ _ t ∙ ap (λ x. of_length x (note p (get_or (note_tail bs) 0 0 - 48))) l

-- the brackets of a slice's inner part
cut_is : (bs : List ℕ) → take (length bs - 1 - 1) (drop 1 bs) ≡ inside bs
cut_is bs = let n : length bs - 1 - 1 ≡ length bs - 2 = omega arith in ap (λ k. take k (drop 1 bs)) n

pub unquoted : (bs : List ℕ) → quoted bs ≡ false → syllable_read bs ≡ Err NotOfForm
unfolding syllable_read
unquoted bs q = cond-false (quoted bs && syllabled (inside bs)) _ _ (and_left (quoted bs) (syllabled (inside bs)) q)

pub unsyllabled : (bs : List ℕ) → syllabled (take (length bs - 1 - 1) (drop 1 bs)) ≡ false → syllable_read bs ≡ Err NotOfForm
unfolding syllable_read
unsyllabled bs q = cond-false (quoted bs && syllabled (inside bs)) _ _ (and_right (quoted bs) (syllabled (inside bs)) (ap syllabled (sym (cut_is bs)) ∙ q))

pub syllable_is : (bs s : List ℕ) → s ≡ take (length bs - 1 - 1) (drop 1 bs) → quoted bs ≡ true → syllabled s ≡ true → syllable_read bs ≡ Ok (syllable s)
unfolding syllable_read
syllable_is bs s e q t =
    let i : s ≡ inside bs = e ∙ cut_is bs in
    cond-true (quoted bs && syllabled (inside bs)) _ _ (and_from (quoted bs) (syllabled (inside bs)) q (ap syllabled (sym i) ∙ t)) ∙ ap (λ x. Ok (syllable x)) (sym i)

pub frame_parts : (bs : List ℕ) (k : ℕ) (o : Option Keyword) (rank : Option ℕ) → k ≡ colon bs → keyword_named (take k bs) ≡ o → rank_read (drop 1 (drop k bs)) ≡ rank → frame_read bs ≡ framed o rank
unfolding frame_read
frame_parts bs k o rank e f g =
    ap (λ x. framed (keyword_named (take x bs)) (rank_read (drop (x + 1) bs))) (sym e)
    ∙ ap (λ xs. framed (keyword_named (take k bs)) (rank_read xs)) (sym (drop-drop 1 k bs))
    ∙ ap (λ x. framed x (rank_read (drop 1 (drop k bs)))) f
    ∙ ap (framed o) g

pub token_long : (n : Option Naming) (bs : List ℕ) → 64 < length bs → token_read n bs ≡ Err TokenTooLong
unfolding token_read
token_long n bs h = cond-true (ltb 64 (length bs)) _ _ (lt-ltb 64 (length bs) h)

pub token_naming : (n : Option Naming) (bs : List ℕ) (m : Naming) → length bs ≤ 64 → naming_named bs ≡ Some m → token_read n bs ≡ Ok (naming m)
unfolding token_read
token_naming n bs m h e = cond-false (ltb 64 (length bs)) _ _ (le-ltb 64 (length bs) h) ∙ ap (λ x. worded x (read_by_kind (begun bs) n bs)) e

pub token_kind : (n : Option Naming) (bs : List ℕ) (k : Kind) → length bs ≤ 64 → naming_named bs ≡ None → begun bs ≡ k → token_read n bs ≡ read_by_kind k n bs
unfolding token_read
token_kind n bs k h e b =
    cond-false (ltb 64 (length bs)) _ _ (le-ltb 64 (length bs) h) ∙ ap (λ x. worded x (read_by_kind (begun bs) n bs)) e ∙ ap (λ x. read_by_kind x n bs) b

pub hears : {bs : List ℕ} {r : Result Token Refusal} {x y : Result Said Refusal} → Hears bs r x → y ≡ x → Hears bs r y
hears h e = record { value = h.value ∙ sym e; borrows = h.borrows }
