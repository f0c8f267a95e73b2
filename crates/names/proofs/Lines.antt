-- A line of words reads back as its words.
use Rattle.std.proofs.Common.{◌≡◌, ℕ, ◌+◌, ◌<◌, ◌≤◌, Bool, true, false, cond, ◌&&◌, ltb, leb, List, [], ◌∷◌, ◌++◌, length, Some, None, Ok, Err, codes, decimal, Option, Result, refl, ap, ◌∙◌, arith, length-append}
use Rattle.std.specs.List.{AllByRecursion}
use Rattle.std.specs.Char.{is_ascii_digit}
use Rattle.std.proofs.lemmas.Fmt.{digits_decimal}
use Rattle.std.proofs.lemmas.Bool.{cond-true, cond-false, and_parts, and_from, le-ltb, leb-true}
use Rattle.names.specs.declared.keywords.Keyword.{Keyword}
use Rattle.names.specs.declared.pitches.Alteration.{Alteration}
use Rattle.names.specs.declared.pitches.Naming.{Naming}
use Rattle.names.specs.declared.pitches.Naming.TheVariants.{English, German}
use Rattle.names.specs.declared.pitches.Step.{Step}
use Rattle.names.specs.declared.refusals.Refusal.{Refusal}
use Rattle.names.specs.declared.refusals.Refusal.TheVariants.{TextTooLong, NotOfForm, BadOctaveOrLength}
use Rattle.std.specs.Str.{all_ascii_digits}
use Rattle.names.specs.Keywords.{keyword_word}
use Rattle.names.specs.Lines.{spaced, line, is_word, words_of, Typable, LineLaws}
use Rattle.names.specs.Names.{name}
use Rattle.names.specs.Pitches.{naming_word}
use Rattle.names.specs.Texts.{Piece, Told, Telling, goes_on, before, pieces, told, telling, stopped, naming_after, text_told}
use Rattle.names.specs.Tokens.{Said, naming, syllable, note, rest, frame, gap, plain, each, syllabled, lasting, sung, malformed, marked, spelled, token_read}
use Rattle.names.proofs.Cuts.{solid, piece_token, piece_gap, told_token}
use Rattle.names.proofs.Numbers.{own}
use Rattle.names.proofs.TokenFacts.{formed, back, same, unset, naming_back}

each_append : (test : ℕ → Bool) (xs ys : List ℕ) → each test xs ≡ true → each test ys ≡ true → each test (xs ++ ys) ≡ true
each_append test [] ys e f = f
each_append test (x ∷ xs) ys e f = let p = and_parts (test x) (each test xs) e in and_from (test x) (each test (xs ++ ys)) p.0 (each_append test xs ys p.1 f)

each_weaker : (test more : ℕ → Bool) → ((b : ℕ) → test b ≡ true → more b ≡ true) → (xs : List ℕ) → each test xs ≡ true → each more xs ≡ true
each_weaker test more w [] e = refl
each_weaker test more w (x ∷ xs) e = let p = and_parts (test x) (each test xs) e in and_from (more x) (each more xs) (w x p.0) (each_weaker test more w xs p.1)

digits_solid : (ds : List ℕ) → all_ascii_digits ds ≡ true → each solid ds ≡ true
digits_solid [] e = refl
digits_solid (d ∷ ds) e = let p = and_parts (is_ascii_digit d) (all_ascii_digits ds) e in let q = p.0 in and_from (solid d) (each solid ds) (grind arith) (digits_solid ds p.1)

decimal_solid : (n : ℕ) → n < 256 → each solid (decimal n) ≡ true
decimal_solid n h = digits_solid (decimal n) (digits_decimal own n (omega arith))

name_solid : (n : Naming) (s : Step) (a : Alteration) → each solid (name n (record { step = s; alteration = a })) ≡ true
name_solid English s a = grind arith
name_solid German s a = grind arith

word_solid : (k : Keyword) → each solid (keyword_word k) ≡ true
word_solid k = grind arith

marked_solid : (bs : List ℕ) (mark n : ℕ) → each solid bs ≡ true → solid mark ≡ true → n < 256 → each solid (marked bs mark n) ≡ true
marked_solid bs mark n e m h = each_append solid bs (mark ∷ decimal n) e (and_from (solid mark) (each solid (decimal n)) m (decimal_solid n h))

lasting_small : (l : ℕ) → lasting l ≡ true → l < 256
lasting_small l e = grind arith

-- a token that can be written has no gap in it
spelled_solid : (n : Naming) (t : Said) → malformed t ≡ None → each solid (spelled n t) ≡ true
unfolding spelled
spelled_solid n (naming English) e = refl
spelled_solid n (naming German) e = refl
spelled_solid n (syllable s) e =
    let t = formed (syllabled s) NotOfForm e in
    let p = (and_parts (leb 1 (length s)) (leb (length s) 30 && each plain s) t).1 in
    let q = (and_parts (leb (length s) 30) (each plain s) p).1 in
    each_append solid s (34 ∷ []) (each_weaker plain solid (λ b h. grind arith) s q) refl
spelled_solid n (note p o l) e =
    let t = formed (sung o l) BadOctaveOrLength e in
    let q = and_parts (leb o 9) (lasting l) t in
    let h = leb-true o 9 q.0 in
    marked_solid (name n p ++ ((48 + o) ∷ [])) 47 l (each_append solid (name n p) ((48 + o) ∷ []) (name_solid n p.step p.alteration) (grind arith)) refl (lasting_small l q.1)
spelled_solid n (rest l) e = marked_solid (codes "r") 47 l refl refl (lasting_small l (formed (lasting l) BadOctaveOrLength e))
spelled_solid n (frame k r) e = let h = leb-true r 255 (formed (leb r 255) NotOfForm e) in marked_solid (keyword_word k) 58 r (word_solid k) refl (omega arith)

some_bytes : (bs : List ℕ) (mark n : ℕ) → 0 < length (marked bs mark n)
some_bytes bs mark n = let e = length-append bs (mark ∷ decimal n) in omega arith

spelled_some : (n : Naming) (t : Said) → 0 < length (spelled n t)
unfolding spelled
spelled_some n (naming English) = omega arith
spelled_some n (naming German) = omega arith
spelled_some n (syllable s) = omega arith
spelled_some n (note p o l) = some_bytes (name n p ++ ((48 + o) ∷ [])) 47 l
spelled_some n (rest l) = some_bytes (codes "r") 47 l
spelled_some n (frame k r) = some_bytes (keyword_word k) 58 r

spaced_ends : (n : Naming) (ts : List Said) → goes_on (spaced n ts) ≡ false
unfolding spaced
spaced_ends n [] = refl
spaced_ends n (t ∷ ts) = refl

word_keeps : (n : Option Naming) (t : Said) → is_word t ≡ true → n ≡ naming_after n t
word_keeps n (naming m) e = absurd (grind arith)
word_keeps n (syllable s) e = refl
word_keeps n (note p o l) e = refl
word_keeps n (rest l) e = refl
word_keeps n (frame k r) e = refl

-- a token that can be written is short
read_short : (n : Option Naming) (bs : List ℕ) (t : Said) → token_read n bs ≡ Ok t → length bs ≤ 64
unfolding token_read
read_short n bs t e = grind arith

pub spelled_short : (n : Naming) (t : Said) → malformed t ≡ None → length (spelled n t) ≤ 64
spelled_short n t e = read_short (Some n) (spelled n t) t (back n t e)

-- what a telling of just these words has
abbrev Tells : Telling → List Said → Type 0
Tells x ts = (words_of x.tokens ≡ ts) × (x.fault ≡ None)

tells_word : (x later : Telling) (ts : List Said) (t : Said) (u : Told) → x ≡ record { tokens = u ∷ later.tokens; fault = later.fault } → u.says ≡ t → is_word t ≡ true → Tells later ts → Tells x (t ∷ ts)
tells_word x later ts t u e s w h =
    (ap (λ y. words_of y.tokens) e ∙ cond-true (is_word u.says) _ _ (ap is_word s ∙ w) ∙ ap (λ y. y ∷ words_of later.tokens) s ∙ ap (λ ys. t ∷ ys) h.0, ap (λ y. y.fault) e ∙ h.1)

spaced_told : (n : Naming) (ts : List Said) (at : ℕ) → AllByRecursion Typable ts → Tells (told (Some n) (pieces at (spaced n ts))) ts
unfolding spaced pieces told
spaced_told n [] at h = (refl, refl)
spaced_told n (t ∷ ts) at h =
    let s = spelled n t in
    let cut = piece_gap at 32 (s ++ spaced n ts) refl ∙ piece_token (at + 1) s (spaced n ts) (spelled_some n t) (spelled_solid n t h.0.formed) (spaced_ends n ts) in
    let rest = pieces (at + 1 + length s) (spaced n ts) in
    let e = told_token (Some n) (Some n) (pieces at (spaced n (t ∷ ts))) rest (record { byte = at + 1; bytes = s }) t cut (back n t h.0.formed) (word_keeps (Some n) t h.0.word) in
    tells_word (told (Some n) (pieces at (spaced n (t ∷ ts)))) (told (Some n) rest) ts t (record { byte = at + 1; typed = s; says = t }) e refl h.0.word (spaced_told n ts (at + 1 + length s) h.1)

naming_solid : (n : Naming) → each solid (naming_word n) ≡ true
naming_solid English = refl
naming_solid German = refl

naming_some : (n : Naming) → 0 < length (naming_word n)
naming_some English = omega arith
naming_some German = omega arith

line_told : (n : Naming) (ts : List Said) → AllByRecursion Typable ts → Tells (told None (pieces 0 (line n ts))) ts
line_told n ts h =
    let w = naming_word n in
    let rest = pieces (0 + length w) (spaced n ts) in
    let cut = piece_token 0 w (spaced n ts) (naming_some n) (naming_solid n) (spaced_ends n ts) in
    let e = told_token None (Some n) (pieces 0 (line n ts)) rest (record { byte = 0; bytes = w }) (naming n) cut (naming_back None n) refl in
    let i = spaced_told n ts (0 + length w) h in
    (ap (λ y. words_of y.tokens) e ∙ i.0, ap (λ y. y.fault) e ∙ i.1)

pub typable_token : (n : Option Naming) (bs : List ℕ) (t : Said) → token_read n bs ≡ Ok t → malformed t ≡ None
typable_token None bs t e = (same English bs t (unset English bs t e)).0
typable_token (Some n) bs t e = (same n bs t e).0

pub told_typable : (ps : List Piece) (n : Option Naming) → AllByRecursion Typable (words_of (told n ps).tokens)
unfolding told
told_typable [] n = tt
told_typable (p ∷ ps) n = by (token_read n p.bytes) refl (λ m. told_typable ps m)
  where
    as_word : (t : Said) (b : Bool) → is_word t ≡ b → malformed t ≡ None → (ws : List Said) → AllByRecursion Typable ws → AllByRecursion Typable (cond b (t ∷ ws) ws)
    as_word t true w f ws h = (record { word = w; formed = f }, h)
    as_word t false w f ws h = h

    by : (r : Result Said Refusal) → token_read n p.bytes ≡ r → ((m : Option Naming) → AllByRecursion Typable (words_of (told m ps).tokens)) → AllByRecursion Typable (words_of (telling p n r (λ m. told m ps)).tokens)
    by (Err f) e h = tt
    by (Ok t) e h = as_word t (is_word t) refl (typable_token n p.bytes t e) (words_of (told (naming_after n t) ps).tokens) (h (naming_after n t))

-- whatever is told could be written
pub told_formed : (ps : List Piece) (n : Option Naming) → AllByRecursion (λ t. malformed t.says ≡ None) (told n ps).tokens
unfolding told
told_formed [] n = tt
told_formed (p ∷ ps) n = by (token_read n p.bytes) refl (λ m. told_formed ps m)
  where
    by : (r : Result Said Refusal) → token_read n p.bytes ≡ r → ((m : Option Naming) → AllByRecursion (λ t. malformed t.says ≡ None) (told m ps).tokens) → AllByRecursion (λ t. malformed t.says ≡ None) (telling p n r (λ m. told m ps)).tokens
    by (Err f) e h = tt
    by (Ok t) e h = (typable_token n p.bytes t e, h (naming_after n t))

text_typable : (text : List ℕ) → AllByRecursion Typable (words_of (text_told text).tokens)
text_typable text = by (ltb 65536 (length text))
  where
    by : (b : Bool) → AllByRecursion Typable (words_of (cond b (stopped TextTooLong 0) (told None (pieces 0 text))).tokens)
    by true = tt
    by false = told_typable (pieces 0 text) None

pub text_short : (bs : List ℕ) → length bs ≤ 65536 → text_told bs ≡ told None (pieces 0 bs)
text_short bs h = cond-false (ltb 65536 (length bs)) _ _ (le-ltb 65536 (length bs) h)

pub line_laws : LineLaws
line_laws =
    record {
      back = λ n ts h l. let e = text_short (line n ts) l in let t = line_told n ts h in (ap (λ x. words_of x.tokens) e ∙ t.0, ap (λ x. x.fault) e ∙ t.1);
      typable = text_typable;
    }

-- a text has no more tokens than bytes
before_few : (t : Bool) (at b : ℕ) (ps : List Piece) → length (before t at b ps) ≤ length ps + 1
before_few false at b ps = omega arith
before_few true at b [] = omega arith
before_few true at b (p ∷ ps) = omega arith

pieces_few : (bs : List ℕ) (at : ℕ) → length (pieces at bs) ≤ length bs
unfolding pieces
pieces_few [] at = omega arith
pieces_few (b ∷ bs) at = by (gap b) (pieces_few bs (at + 1)) (before_few (goes_on bs) at b (pieces (at + 1) bs))
  where
    by : (g : Bool) → length (pieces (at + 1) bs) ≤ length bs → length (before (goes_on bs) at b (pieces (at + 1) bs)) ≤ length (pieces (at + 1) bs) + 1 → length (cond g (pieces (at + 1) bs) (before (goes_on bs) at b (pieces (at + 1) bs))) ≤ length (b ∷ bs)
    by true h k = omega arith
    by false h k = omega arith

told_few : (ps : List Piece) (n : Option Naming) → length (told n ps).tokens ≤ length ps
unfolding told
told_few [] n = omega arith
told_few (p ∷ ps) n = by (token_read n p.bytes) (λ m. told_few ps m)
  where
    by : (r : Result Said Refusal) → ((m : Option Naming) → length (told m ps).tokens ≤ length ps) → length (telling p n r (λ m. told m ps)).tokens ≤ length (p ∷ ps)
    by (Err f) h = omega arith
    by (Ok t) h = let k = h (naming_after n t) in omega arith

pub text_few : (bs : List ℕ) → length bs ≤ 65536 → length (text_told bs).tokens ≤ 65536
text_few bs h =
    let e = ap (λ x. length x.tokens) (text_short bs h) in
    let a = told_few (pieces 0 bs) None in
    let b = pieces_few bs 0 in
    omega arith
