-- Reading and writing tokens undo each other.
use Rattle.std.proofs.Common.{◌≡◌, ℕ, suc, ◌+◌, ◌-◌, ◌<◌, ◌≤◌, Bool, true, false, cond, not, ◌&&◌, eqb, ltb, leb, List, [], ◌∷◌, ◌++◌, length, get_or, take, drop, Some, None, Ok, Err, codes, decimal, Option, Result, sym, refl, ap, ◌∙◌, arith, length-append, length-drop}
use Rattle.std.specs.Char.{is_ascii_digit, is_ascii_uppercase}
use Rattle.std.specs.Str.{bytes_eq}
use Rattle.std.proofs.lemmas.Fmt.{length-decimal-le, decimal_nonempty}
use Rattle.std.proofs.lemmas.Slice.Eq.{bytes_eq-Decides}
use Rattle.std.proofs.lemmas.List.{append_assoc, take_at, drop_at, take-append-drop, get_or_at, take_more, take_all, drop_more}
use Rattle.std.proofs.lemmas.Bool.{cond-true, and_parts, and_from, eqb-true, leb-true, le-leb, eq-eqb}
use Rattle.std.proofs.lemmas.List.Sums.{prefix_len_stops}
use Rattle.names.specs.declared.keywords.Keyword.{Keyword}
use Rattle.names.specs.declared.pitches.Naming.{Naming}
use Rattle.names.specs.declared.pitches.Naming.TheVariants.{English, German}
use Rattle.names.specs.declared.pitches.Pitch.{Pitch}
use Rattle.names.specs.declared.refusals.Refusal.{Refusal}
use Rattle.names.specs.declared.refusals.Refusal.TheVariants.{TokenTooLong, NotOfForm, BadOctaveOrLength}
use Rattle.names.specs.declared.tokens.Kind.{Kind}
use Rattle.names.specs.declared.tokens.Kind.TheVariants.{Syllable, Note, Rest, Frame}
use Rattle.names.specs.Keywords.{keyword_word, keyword_named}
use Rattle.names.specs.Names.{name, pitch_read}
use Rattle.names.specs.Pitches.{naming_word, naming_named, namings}
use Rattle.names.specs.TokenLaws.{TokenLaws}
use Rattle.names.specs.Tokens.{Said, naming, syllable, note, rest, frame, each, run, colon, plain, quoted, quotes, marked, inside, syllabled, lasting, sung, unless, malformed, spelled, syllable_read, note_name, note_tail, tailed, note_read, of_pitch, of_length, length_read, rank_read, rest_read, rest_begun, framed, frame_read, begun, read_by_kind, worded, token_read}
use Rattle.names.proofs.Scanning.{digitless}
use Rattle.names.proofs.NameFacts.{capital, name_lists, no_digit, short, that_name, whole}
use Rattle.names.proofs.Numbers.{reads_some, some_read}
use Rattle.names.proofs.Picks.{pick_passes}
use Rattle.names.proofs.Words.{word_named, word_is}
use Rattle.names.proofs.Reading.{note_tailed, frame_parts, token_kind}

pub formed : (t : Bool) (r : Refusal) → unless t r ≡ None → t ≡ true
formed true r e = refl
formed false r e = absurd (grind arith)

-- a front that passes, up to a byte that does not
run_stops : (test : ℕ → Bool) (xs : List ℕ) (b : ℕ) (ys : List ℕ) → each test xs ≡ true → test b ≡ false → run test (xs ++ b ∷ ys) ≡ length xs
run_stops test [] b ys e f = rw f refl
run_stops test (x ∷ xs) b ys e f =
    let p = and_parts (test x) (each test xs) e in
    let i = run_stops test xs b ys p.1 f in
    cond-true (test x) (1 + run test (xs ++ b ∷ ys)) 0 p.0 ∙ omega arith

-- a capital letter begins a note
capital_named : (b : ℕ) (bs : List ℕ) → is_ascii_uppercase b ≡ true → naming_named (b ∷ bs) ≡ None
capital_named b bs u = grind arith

capital_note : (b : ℕ) (bs : List ℕ) → is_ascii_uppercase b ≡ true → begun (b ∷ bs) ≡ Note
capital_note b bs u = grind arith

-- lengths and ranks that are written read back
length_back : (l : ℕ) → lasting l ≡ true → length_read (decimal l) ≡ Some l
length_back l t = let p = and_parts (leb 1 l) (leb l 64) t in reads_some 1 64 (omega arith) (decimal l) l refl (leb-true 1 l p.0) (leb-true l 64 p.1)

rank_back : (r : ℕ) → leb r 255 ≡ true → rank_read (decimal r) ≡ Some r
rank_back r t = reads_some 0 255 (omega arith) (decimal r) r refl (omega arith) (leb-true r 255 t)

length_short : (l : ℕ) → lasting l ≡ true → length (decimal l) ≤ 2
length_short l t = let p = and_parts (leb 1 l) (leb l 64) t in let h = leb-true l 64 p.1 in length-decimal-le 2 l (omega arith) (omega arith) (omega arith)

rank_short : (r : ℕ) → leb r 255 ≡ true → length (decimal r) ≤ 3
rank_short r t = let h = leb-true r 255 t in length-decimal-le 3 r (omega arith) (omega arith) (omega arith)

pub naming_back : (n : Option Naming) (m : Naming) → token_read n (naming_word m) ≡ Ok (naming m)
unfolding token_read
naming_back n English = refl
naming_back n German = refl

module _ (s : List ℕ) (t : syllabled s ≡ true) where
  quotes_length : length (quotes s) ≡ length s + 2
  quotes_length = let e = length-append s (34 ∷ []) in omega arith

  syllable_short : length s ≤ 30
  syllable_short =
      let p = and_parts (leb 1 (length s)) (leb (length s) 30 && each plain s) t in
      leb-true (length s) 30 (and_parts (leb (length s) 30) (each plain s) p.1).0

  quotes_inside : inside (quotes s) ≡ s
  quotes_inside =
      let n = quotes_length in
      let k : length (quotes s) - 2 ≡ length s = omega arith in
      ap (λ x. take x (s ++ 34 ∷ [])) k ∙ take_at s (34 ∷ []) (length s) refl

  quotes_quoted : quoted (quotes s) ≡ true
  quotes_quoted =
      let n = quotes_length in
      let k : length (quotes s) - 1 ≡ suc (length s) = omega arith in
      let g : get_or (quotes s) (length (quotes s) - 1) 0 ≡ 34 = ap (λ x. get_or (quotes s) x 0) k ∙ get_or_at s 34 [] 0 (length s) refl in
      and_from (leb 2 (length (quotes s))) (eqb 34 34 && eqb (get_or (quotes s) (length (quotes s) - 1) 0) 34) (le-leb 2 (length (quotes s)) (omega arith)) (eq-eqb (get_or (quotes s) (length (quotes s) - 1) 0) 34 g)

  syllable_back : (n : Option Naming) → token_read n (quotes s) ≡ Ok (syllable s)
  unfolding syllable_read
  syllable_back n =
      let l = quotes_length in
      let h = syllable_short in
      token_kind n (quotes s) Syllable (omega arith) refl refl
      ∙ cond-true (quoted (quotes s) && syllabled (inside (quotes s))) _ _ (and_from (quoted (quotes s)) (syllabled (inside (quotes s))) quotes_quoted (ap syllabled quotes_inside ∙ t))
      ∙ ap (λ x. Ok (syllable x)) quotes_inside

rest_back : (n : Option Naming) (l : ℕ) → lasting l ≡ true → token_read n (marked (codes "r") 47 l) ≡ Ok (rest l)
unfolding rest_read
rest_back n l t =
    let h = length_short l t in
    token_kind n (marked (codes "r") 47 l) Rest (omega arith) refl (grind arith) ∙ ap (λ o. of_length o rest) (length_back l t)

-- keywords have no colon, and begin neither a naming word nor another kind of token
word_plain : (k : Keyword) → each (λ b. not (eqb b 58)) (keyword_word k) ≡ true
word_plain k = grind arith

word_short : (k : Keyword) → leb (length (keyword_word k)) 7 ≡ true
word_short k = grind arith

word_unset : (k : Keyword) (bs : List ℕ) → naming_named (keyword_word k ++ bs) ≡ None
word_unset k bs = grind arith

word_frame : (k : Keyword) (bs : List ℕ) → begun (keyword_word k ++ bs) ≡ Frame
word_frame k bs = grind arith

frame_back : (n : Option Naming) (k : Keyword) (r : ℕ) → leb r 255 ≡ true → token_read n (marked (keyword_word k) 58 r) ≡ Ok (frame k r)
frame_back n k r t =
    let w = keyword_word k in
    let bs = marked w 58 r in
    let l = length-append w (58 ∷ decimal r) in
    let a = leb-true (length w) 7 (word_short k) in
    let b = rank_short r t in
    let c : length w ≡ colon bs = sym (run_stops (λ x. not (eqb x 58)) w 58 (decimal r) (word_plain k) refl) in
    token_kind n bs Frame (omega arith) (word_unset k (58 ∷ decimal r)) (word_frame k (58 ∷ decimal r))
    ∙ frame_parts bs (length w) (Some k) (Some r) c (ap keyword_named (take_at w (58 ∷ decimal r) (length w) refl) ∙ word_named k) (ap (λ xs. rank_read (drop 1 xs)) (drop_at w (58 ∷ decimal r) (length w) refl) ∙ rank_back r t)

module _ (n : Naming) (p : Pitch) (o l : ℕ) (t : sung o l ≡ true) where
  abbrev note_bytes : List ℕ
  note_bytes = marked (name n p ++ ((48 + o) ∷ [])) 47 l

  abbrev note_end : List ℕ
  note_end = (48 + o) ∷ 47 ∷ decimal l

  note_split : note_bytes ≡ name n p ++ note_end
  note_split = append_assoc (name n p) ((48 + o) ∷ []) (47 ∷ decimal l)

  octave_digit : is_ascii_digit (48 + o) ≡ true
  octave_digit = let h = leb-true o 9 (and_parts (leb o 9) (lasting l) t).0 in grind arith

  name_run : run digitless note_bytes ≡ length (name n p)
  name_run = ap (run digitless) note_split ∙ run_stops digitless (name n p) (48 + o) (47 ∷ decimal l) (no_digit n p) (ap not octave_digit)

  note_front : note_name note_bytes ≡ name n p
  note_front = ap (λ k. take k note_bytes) name_run ∙ ap (take (length (name n p))) note_split ∙ take_at (name n p) note_end (length (name n p)) refl

  note_behind : note_tail note_bytes ≡ note_end
  note_behind = ap (λ k. drop k note_bytes) name_run ∙ ap (drop (length (name n p))) note_split ∙ drop_at (name n p) note_end (length (name n p)) refl

  note_kind : (naming_named note_bytes ≡ None) × (begun note_bytes ≡ Note)
  note_kind =
      let w = whole n p in
      let u = capital n p in
      let e : note_bytes ≡ get_or (name n p) 0 0 ∷ (drop 1 (name n p) ++ note_end) = note_split ∙ ap (λ xs. xs ++ note_end) w in
      (ap naming_named e ∙ capital_named (get_or (name n p) 0 0) (drop 1 (name n p) ++ note_end) u, ap begun e ∙ capital_note (get_or (name n p) 0 0) (drop 1 (name n p) ++ note_end) u)

  note_back : token_read (Some n) note_bytes ≡ Ok (note p o l)
  note_back =
      let last = (and_parts (leb o 9) (lasting l) t).1 in
      let s = length_short l last in
      let a = leb-true (length (name n p)) 5 (short n p) in
      let m = ap length note_split ∙ length-append (name n p) note_end in
      let d : 48 + o - 48 ≡ o = omega arith in
      let tail : tailed (note_tail note_bytes) ≡ true = ap tailed note_behind ∙ and_from (is_ascii_digit (48 + o)) (eqb 47 47) octave_digit refl in
      token_kind (Some n) note_bytes Note (omega arith) note_kind.0 note_kind.1
      ∙ note_tailed n note_bytes p (Some l) (ap (pitch_read n) note_front ∙ that_name n p (name n p) refl) tail (ap (λ xs. length_read (drop 2 xs)) note_behind ∙ length_back l last)
      ∙ ap (λ xs. Ok (note p (get_or xs 0 0 - 48) l)) note_behind
      ∙ ap (λ x. Ok (note p x l)) d

pub back : (n : Naming) (t : Said) → malformed t ≡ None → token_read (Some n) (spelled n t) ≡ Ok t
unfolding spelled
back n (naming m) e = naming_back (Some n) m
back n (syllable s) e = syllable_back s (formed (syllabled s) NotOfForm e) (Some n)
back n (note p o l) e = note_back n p o l (formed (sung o l) BadOctaveOrLength e)
back n (rest l) e = rest_back (Some n) l (formed (lasting l) BadOctaveOrLength e)
back n (frame k r) e = frame_back (Some n) k r (formed (leb r 255) NotOfForm e)

-- what a reading that answered was made of
module _ (bs : List ℕ) where
  quoted_whole : quoted bs ≡ true → quotes (inside bs) ≡ bs
  quoted_whole q = by bs refl q
    where
      by : (xs : List ℕ) → bs ≡ xs → quoted xs ≡ true → quotes (inside xs) ≡ xs
      by [] e q = absurd (grind arith)
      by (b ∷ xs) e q =
          let p = and_parts (leb 2 (length (b ∷ xs))) (eqb b 34 && eqb (get_or (b ∷ xs) (length (b ∷ xs) - 1) 0) 34) q in
          let r = and_parts (eqb b 34) (eqb (get_or (b ∷ xs) (length (b ∷ xs) - 1) 0) 34) p.1 in
          let l = leb-true 2 (length (b ∷ xs)) p.0 in
          let first = eqb-true b 34 r.0 in
          let last = eqb-true (get_or (b ∷ xs) (length (b ∷ xs) - 1) 0) 34 r.1 in
          let k : length (b ∷ xs) - 1 ≡ suc (length (b ∷ xs) - 2) = omega arith in
          let end : get_or xs (length (b ∷ xs) - 2) 0 ≡ 34 = ap (λ i. get_or (b ∷ xs) i 0) (sym k) ∙ last in
          let m = take_more xs (length (b ∷ xs) - 2) 0 (omega arith) in
          let all = take_all (length (b ∷ xs) - 2 + 1) xs (omega arith) in
          ap (λ y. y ∷ (inside (b ∷ xs) ++ 34 ∷ [])) (sym first) ∙ ap (λ y. b ∷ (inside (b ∷ xs) ++ y ∷ [])) (sym end) ∙ ap (λ ys. b ∷ ys) (sym m ∙ all)

abbrev pub Typed : Naming → List ℕ → Said → Type 0
Typed n bs t = (malformed t ≡ None) × (spelled n t ≡ bs)

typed_at : (n : Naming) (bs : List ℕ) (t u : Said) → ◌≡◌ {A = Result Said Refusal} (Ok u) (Ok t) → Typed n bs u → Typed n bs t
typed_at n bs t u e h = let s : u ≡ t = cc in rw s at h

same_syllable : (n : Naming) (bs : List ℕ) (t : Said) → syllable_read bs ≡ Ok t → Typed n bs t
unfolding syllable_read spelled
same_syllable n bs t e = by (quoted bs && syllabled (inside bs)) refl e
  where
    by : (c : Bool) → (quoted bs && syllabled (inside bs)) ≡ c → cond c (Ok (syllable (inside bs))) (Err NotOfForm) ≡ Ok t → Typed n bs t
    by true q e =
        let p = and_parts (quoted bs) (syllabled (inside bs)) q in
        typed_at n bs t (syllable (inside bs)) e (ap (λ x. unless x NotOfForm) p.1, quoted_whole bs p.0)
    by false q e = absurd (grind arith)

tail_whole : (bs : List ℕ) → tailed bs ≡ true → (48 + (get_or bs 0 0 - 48)) ∷ 47 ∷ drop 2 bs ≡ bs
tail_whole [] e = absurd (grind arith)
tail_whole (a ∷ []) e = absurd (grind arith)
tail_whole (a ∷ b ∷ bs) e =
    let p = and_parts (is_ascii_digit a) (eqb b 47) e in
    let d : 48 + (a - 48) ≡ a = let q = p.0 in grind arith in
    let s = eqb-true b 47 p.1 in
    ap (λ x. x ∷ 47 ∷ bs) d ∙ ap (λ x. a ∷ x ∷ bs) (sym s)

octave_small : (bs : List ℕ) → tailed bs ≡ true → leb (get_or bs 0 0 - 48) 9 ≡ true
octave_small bs e = let p = (and_parts (is_ascii_digit (get_or bs 0 0)) (eqb (get_or bs 1 0) 47) e).0 in grind arith

length_is : (bs : List ℕ) (l : ℕ) → length_read bs ≡ Some l → (decimal l ≡ bs) × (lasting l ≡ true)
length_is bs l e =
    let r = some_read 1 64 (omega arith) bs l e in
    (r.0, and_from (leb 1 l) (leb l 64) (le-leb 1 l r.1) (le-leb l 64 r.2))

same_note : (n : Naming) (bs : List ℕ) (t : Said) → note_read (Some n) bs ≡ Ok t → Typed n bs t
unfolding note_read spelled
same_note n bs t e = by (pitch_read n (note_name bs)) refl e
  where
    at_length : (p : Pitch) → name n p ≡ note_name bs → tailed (note_tail bs) ≡ true → (o : Option ℕ) → length_read (drop 2 (note_tail bs)) ≡ o → of_length o (note p (get_or (note_tail bs) 0 0 - 48)) ≡ Ok t → Typed n bs t
    at_length p f d None g e = absurd (grind arith)
    at_length p f d (Some l) g e =
        let r = length_is (drop 2 (note_tail bs)) l g in
        let o = get_or (note_tail bs) 0 0 - 48 in
        let back : spelled n (note p o l) ≡ bs =
        append_assoc (name n p) ((48 + o) ∷ []) (47 ∷ decimal l)
        ∙ ap (λ xs. name n p ++ ((48 + o) ∷ 47 ∷ xs)) r.0
        ∙ ap (λ xs. name n p ++ xs) (tail_whole (note_tail bs) d)
        ∙ ap (λ xs. xs ++ note_tail bs) f
        ∙ take-append-drop (run digitless bs) bs in
        typed_at n bs t (note p o l) e (ap (λ x. unless x BadOctaveOrLength) (and_from (leb o 9) (lasting l) (octave_small (note_tail bs) d) r.1), back)

    at_tail : (p : Pitch) → name n p ≡ note_name bs → (c : Bool) → tailed (note_tail bs) ≡ c → cond c (of_length (length_read (drop 2 (note_tail bs))) (note p (get_or (note_tail bs) 0 0 - 48))) (Err BadOctaveOrLength) ≡ Ok t → Typed n bs t
    at_tail p f true d e = at_length p f d (length_read (drop 2 (note_tail bs))) refl e
    at_tail p f false d e = absurd (grind arith)

    by : (r : Result Pitch Refusal) → pitch_read n (note_name bs) ≡ r → of_pitch r (note_tail bs) ≡ Ok t → Typed n bs t
    by (Err f) g e = absurd (grind arith)
    by (Ok p) g e = at_tail p (name_lists.same n (note_name bs) p g) (tailed (note_tail bs)) refl e

rest_whole : (bs : List ℕ) → rest_begun bs ≡ true → 114 ∷ 47 ∷ drop 2 bs ≡ bs
rest_whole [] e = absurd (grind arith)
rest_whole (a ∷ []) e = absurd (grind arith)
rest_whole (a ∷ b ∷ bs) e =
    let p = (and_parts (leb 2 (length (a ∷ b ∷ bs))) (eqb a 114 && eqb b 47) e).1 in
    let q = and_parts (eqb a 114) (eqb b 47) p in
    ap (λ x. x ∷ 47 ∷ bs) (sym (eqb-true a 114 q.0)) ∙ ap (λ x. a ∷ x ∷ bs) (sym (eqb-true b 47 q.1))

same_rest : (n : Naming) (bs : List ℕ) (t : Said) → rest_begun bs ≡ true → rest_read bs ≡ Ok t → Typed n bs t
unfolding rest_read spelled
same_rest n bs t b e = by (length_read (drop 2 bs)) refl e
  where
    by : (o : Option ℕ) → length_read (drop 2 bs) ≡ o → of_length o rest ≡ Ok t → Typed n bs t
    by None g e = absurd (grind arith)
    by (Some l) g e =
        let r = length_is (drop 2 bs) l g in
        typed_at n bs t (rest l) e (ap (λ x. unless x BadOctaveOrLength) r.1, ap (λ xs. 114 ∷ 47 ∷ xs) r.0 ∙ rest_whole bs b)

-- a keyword's word and a rank's digits leave just the colon between them
colon_whole : (bs : List ℕ) (r : ℕ) → decimal r ≡ drop (colon bs + 1) bs → r < 256 → 58 ∷ decimal r ≡ drop (colon bs) bs
colon_whole bs r d h =
    let s = decimal_nonempty r (omega arith) in
    let l = ap length d ∙ length-drop (colon bs + 1) bs in
    let c = prefix_len_stops (λ b. not (eqb b 58)) bs 0 (omega arith) in
    let e : 58 ≡ get_or bs (colon bs) 0 = grind arith in
    ap (λ xs. 58 ∷ xs) d ∙ ap (λ x. x ∷ drop (colon bs + 1) bs) e ∙ sym (drop_more bs (colon bs) 0 (omega arith))

same_frame : (n : Naming) (bs : List ℕ) (t : Said) → frame_read bs ≡ Ok t → Typed n bs t
unfolding frame_read spelled
same_frame n bs t e = by (keyword_named (take (colon bs) bs)) (rank_read (drop (colon bs + 1) bs)) refl refl e
  where
    by : (k : Option Keyword) (r : Option ℕ) → keyword_named (take (colon bs) bs) ≡ k → rank_read (drop (colon bs + 1) bs) ≡ r → framed k r ≡ Ok t → Typed n bs t
    by None r f g e = absurd (grind arith)
    by (Some k) None f g e = absurd (grind arith)
    by (Some k) (Some r) f g e =
        let w = word_is (take (colon bs) bs) k f in
        let d = some_read 0 255 (omega arith) (drop (colon bs + 1) bs) r g in
        let h = d.2 in
        typed_at n bs t (frame k r) e
        (ap (λ x. unless x NotOfForm) (le-leb r 255 h), ap (λ xs. xs ++ (58 ∷ decimal r)) w ∙ ap (λ xs. take (colon bs) bs ++ xs) (colon_whole bs r d.0 (omega arith)) ∙ take-append-drop (colon bs) bs)

begun_rest : (bs : List ℕ) → begun bs ≡ Rest → rest_begun bs ≡ true
begun_rest bs e = by (eqb (get_or bs 0 0) 34) (is_ascii_uppercase (get_or bs 0 0)) (rest_begun bs) e
  where
    by : (x y z : Bool) → cond x Syllable (cond y Note (cond z Rest Frame)) ≡ Rest → z ≡ true
    by true y z e = absurd (grind arith)
    by false true z e = absurd (grind arith)
    by false false true e = refl
    by false false false e = absurd (grind arith)

pub same : (n : Naming) (bs : List ℕ) (t : Said) → token_read (Some n) bs ≡ Ok t → Typed n bs t
unfolding token_read spelled
same n bs t e = by (ltb 64 (length bs)) e
  where
    as_kind : (k : Kind) → begun bs ≡ k → read_by_kind k (Some n) bs ≡ Ok t → Typed n bs t
    as_kind Syllable b e = same_syllable n bs t e
    as_kind Note b e = same_note n bs t e
    as_kind Rest b e = same_rest n bs t (begun_rest bs b) e
    as_kind Frame b e = same_frame n bs t e

    as_word : (m : Option Naming) → naming_named bs ≡ m → worded m (read_by_kind (begun bs) (Some n) bs) ≡ Ok t → Typed n bs t
    as_word None f e = as_kind (begun bs) refl e
    as_word (Some m) f e =
        typed_at n bs t (naming m) e (refl, (bytes_eq-Decides (naming_word m) bs).0 (pick_passes (λ x. bytes_eq (naming_word x) bs) namings m f))

    by : (c : Bool) → cond c (Err TokenTooLong) (worded (naming_named bs) (read_by_kind (begun bs) (Some n) bs)) ≡ Ok t → Typed n bs t
    by true e = absurd (grind arith)
    by false e = as_word (naming_named bs) refl e

pub unset : (n : Naming) (bs : List ℕ) (t : Said) → token_read None bs ≡ Ok t → token_read (Some n) bs ≡ Ok t
unfolding token_read note_read
unset n bs t e = by (ltb 64 (length bs)) e
  where
    as_kind : (k : Kind) → read_by_kind k None bs ≡ Ok t → read_by_kind k (Some n) bs ≡ Ok t
    as_kind Syllable e = e
    as_kind Note e = absurd (grind arith)
    as_kind Rest e = e
    as_kind Frame e = e

    as_word : (m : Option Naming) → worded m (read_by_kind (begun bs) None bs) ≡ Ok t → worded m (read_by_kind (begun bs) (Some n) bs) ≡ Ok t
    as_word None e = as_kind (begun bs) e
    as_word (Some m) e = e

    by : (c : Bool) → cond c (Err TokenTooLong) (worded (naming_named bs) (read_by_kind (begun bs) None bs)) ≡ Ok t → cond c (Err TokenTooLong) (worded (naming_named bs) (read_by_kind (begun bs) (Some n) bs)) ≡ Ok t
    by true e = absurd (grind arith)
    by false e = as_word (naming_named bs) e

pub token_laws : TokenLaws
token_laws =
    record {
      back = back;
      same = same;
      once = λ n t u f g e. let r = sym (back n t f) ∙ ap (token_read (Some n)) e ∙ back n u g in ok_same t u r;
      unset = unset;
    }
  where
    ok_same : (t u : Said) → ◌≡◌ {A = Result Said Refusal} (Ok t) (Ok u) → t ≡ u
    ok_same t u e = cc
