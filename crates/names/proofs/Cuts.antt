-- Texts cut into their tokens.
use Rattle.std.proofs.Common.{◌≡◌, ℕ, zero, suc, ◌+◌, ◌-◌, ◌<◌, ◌≤◌, Bool, true, false, not, ◌⊎◌, List, [], ◌∷◌, ◌++◌, length, get_or, take, drop, Some, None, Ok, Err, Option, sym, refl, ap, ◌∙◌, inl, inr, arith}
use Rattle.std.proofs.lemmas.List.{drop_more, drop_all, drop-drop, take-append-drop, length-drop, get_or-take, get_or-drop, length-take-le}
use Rattle.std.proofs.lemmas.Bool.{cond-true, cond-false, and_parts, and_from, cases_lt}
use Rattle.std.proofs.lemmas.List.Sums.{prefix_len-le-length, prefix_len_passes, prefix_len_stops}
use Rattle.names.specs.declared.pitches.Naming.{Naming}
use Rattle.names.specs.declared.refusals.Refusal.{Refusal}
use Rattle.names.specs.declared.refusals.Fault.{Fault}
use Rattle.names.specs.Cutting.{Stretch, Skipped, Ended, same_answer}
use Rattle.names.specs.Texts.{Told, first_of, later_than_first, Piece, goes_on, before, pieces, told, telling, silent, stopped, naming_after}
use Rattle.names.specs.Tokens.{Said, gap, each, run, token_read}

abbrev pub solid : ℕ → Bool
solid b = not (gap b)

pub each_from : (test : ℕ → Bool) (xs : List ℕ) → ((j : ℕ) → j < length xs → test (get_or xs j 0) ≡ true) → each test xs ≡ true
each_from test [] h = refl
each_from test (x ∷ xs) h = and_from (test x) (each test xs) (h 0 (omega arith)) (each_from test xs (λ j l. h (suc j) (omega arith)))

abbrev piece : ℕ → List ℕ → Piece
piece at bs = record { byte = at; bytes = bs }

-- a token that a gap or the end follows
pub piece_first : (at b : ℕ) (tok rest : List ℕ) → each solid (b ∷ tok) ≡ true → goes_on rest ≡ false → pieces at ((b ∷ tok) ++ rest) ≡ piece at (b ∷ tok) ∷ pieces (at + length (b ∷ tok)) rest
unfolding pieces
piece_first at b [] rest e g =
    let s = (and_parts (solid b) true e).0 in
    let n : at + 1 ≡ at + length (b ∷ []) = omega arith in
    cond-false (gap b) _ _ (grind arith) ∙ ap (λ t. before t at b (pieces (at + 1) rest)) g ∙ ap (λ k. piece at (b ∷ []) ∷ pieces k rest) n
piece_first at b (c ∷ tok) rest e g =
    let p = and_parts (solid b) (each solid (c ∷ tok)) e in
    let q = and_parts (solid c) (each solid tok) p.1 in
    let i = piece_first (at + 1) c tok rest p.1 g in
    let n : at + 1 + length (c ∷ tok) ≡ at + length (b ∷ c ∷ tok) = omega arith in
    cond-false (gap b) _ _ (let s = p.0 in grind arith)
    ∙ ap (λ t. before t at b (pieces (at + 1) ((c ∷ tok) ++ rest))) q.0
    ∙ ap (before true at b) i
    ∙ ap (λ k. piece at (b ∷ c ∷ tok) ∷ pieces k rest) n

pub piece_token : (at : ℕ) (tok rest : List ℕ) → 0 < length tok → each solid tok ≡ true → goes_on rest ≡ false → pieces at (tok ++ rest) ≡ piece at tok ∷ pieces (at + length tok) rest
piece_token at [] rest h e g = absurd (omega arith)
piece_token at (b ∷ tok) rest h e g = piece_first at b tok rest e g

pub piece_gap : (at b : ℕ) (rest : List ℕ) → gap b ≡ true → pieces at (b ∷ rest) ≡ pieces (at + 1) rest
unfolding pieces
piece_gap at b rest g = cond-true (gap b) _ _ g

skipping : (text : List ℕ) (k from : ℕ) → ((j : ℕ) → from ≤ j → j < from + k → (j < length text) × (gap (get_or text j 0) ≡ true)) → pieces from (drop from text) ≡ pieces (from + k) (drop (from + k) text)
skipping text zero from h = let n : from ≡ from + 0 = omega arith in ap (λ i. pieces i (drop i text)) n
skipping text (suc k) from h =
    let here = h from (omega arith) (omega arith) in
    let n : from + 1 + k ≡ from + suc k = omega arith in
    ap (pieces from) (drop_more text from 0 here.0)
    ∙ piece_gap from (get_or text from 0) (drop (from + 1) text) here.1
    ∙ skipping text k (from + 1) (λ j l u. h j (omega arith) (omega arith))
    ∙ ap (λ i. pieces i (drop i text)) n

pub pieces_skip : (text : List ℕ) (from to : ℕ) → Skipped text from to → pieces from (drop from text) ≡ pieces to (drop to text)
pieces_skip text from to s =
    let f = s.forth in
    let n : from + (to - from) ≡ to = omega arith in
    skipping text (to - from) from (λ j l u. s.all j l (omega arith)) ∙ ap (λ i. pieces i (drop i text)) n

behind : (text : List ℕ) (from to : ℕ) → Ended text from to → goes_on (drop to text) ≡ false
behind text from to s = by (drop to text) refl
  where
    by : (xs : List ℕ) → drop to text ≡ xs → goes_on xs ≡ false
    by [] e = refl
    by (x ∷ xs) e =
        let l = ap length e in
        let m = length-drop to text in
        let d = drop_more text to 0 (omega arith) in
        let same : get_or text to 0 ≡ x = cc in
        let g = s.ends (omega arith) in
        ap (λ y. not (gap y)) (sym same) ∙ ap not g

pub pieces_token : (text : List ℕ) (from to : ℕ) → Ended text from to → from < to → pieces from (drop from text) ≡ piece from (take (to - from) (drop from text)) ∷ pieces to (drop to text)
pieces_token text from to s h =
    let last = (s.all (to - 1) (omega arith) (omega arith)).0 in
    let d = length-drop from text in
    let n : length (take (to - from) (drop from text)) ≡ to - from = length-take-le (to - from) (drop from text) (omega arith) in
    let k : from + (to - from) ≡ to = omega arith in
    let split : drop from text ≡ take (to - from) (drop from text) ++ drop to text = sym (take-append-drop (to - from) (drop from text)) ∙ ap (λ xs. take (to - from) (drop from text) ++ xs) (drop-drop (to - from) from text ∙ ap (λ i. drop i text) k) in
    let all : each solid (take (to - from) (drop from text)) ≡ true =
    each_from solid (take (to - from) (drop from text))
    (λ j l.
    let e = get_or-take (to - from) (drop from text) j 0 (omega arith) ∙ get_or-drop from text j 0 in
    ap solid e ∙ ap not (s.all (from + j) (omega arith) (omega arith)).1) in
    let m : from + length (take (to - from) (drop from text)) ≡ to = omega arith in
    ap (pieces from) split
    ∙ piece_token from (take (to - from) (drop from text)) (drop to text) (omega arith) all (behind text from to s)
    ∙ ap (λ i. piece from (take (to - from) (drop from text)) ∷ pieces i (drop to text)) m

pub token_ends : (text : List ℕ) (from to : ℕ) → Ended text from to → from < to → to ≡ from + length (take (to - from) (drop from text))
token_ends text from to s h =
    let last = (s.all (to - 1) (omega arith) (omega arith)).0 in
    let d = length-drop from text in
    let n : length (take (to - from) (drop from text)) ≡ to - from = length-take-le (to - from) (drop from text) (omega arith) in
    omega arith

-- neither a gap nor a token begins behind the last
pub pieces_none : (text : List ℕ) (from to : ℕ) → Skipped text from to → Ended text to to → pieces from (drop from text) ≡ []
unfolding pieces
pieces_none text from to s e = pieces_skip text from to s ∙ by (cases_lt to (length text))
  where
    by : (to < length text) ⊎ (length text ≤ to) → pieces to (drop to text) ≡ []
    by (inl l) = let a = s.ends l in let b = e.ends l in absurd (grind arith)
    by (inr l) = ap (pieces to) (drop_all to text l)

-- one token of a text told
pub told_none : (n : Option Naming) (ps : List Piece) → ps ≡ [] → told n ps ≡ silent
unfolding told
told_none n ps e = ap (told n) e

pub told_fault : (n : Option Naming) (ps rest : List Piece) (p : Piece) (r : Refusal) → ps ≡ p ∷ rest → token_read n p.bytes ≡ Err r → told n ps ≡ stopped r p.byte
unfolding told
told_fault n ps rest p r e f = ap (told n) e ∙ ap (λ x. telling p n x (λ m. told m rest)) f

pub told_token : (n m : Option Naming) (ps rest : List Piece) (p : Piece) (t : Said) → ps ≡ p ∷ rest → token_read n p.bytes ≡ Ok t → m ≡ naming_after n t → told n ps ≡ record { tokens = record { byte = p.byte; typed = p.bytes; says = t } ∷ (told m rest).tokens; fault = (told m rest).fault }
unfolding told
told_token n m ps rest p t e f g =
    ap (told n) e ∙ ap (λ x. telling p n x (λ m. told m rest)) f ∙ ap (λ k. record { tokens = record { byte = p.byte; typed = p.bytes; says = t } ∷ (told k rest).tokens; fault = (told k rest).fault }) (sym g)

-- a run from a place on is a stretch
module _ (g : Bool) (text : List ℕ) (at : ℕ) where
  abbrev answers : ℕ → Bool
  answers b = same_answer (gap b) g

  answered : (a h : Bool) → same_answer a h ≡ true → a ≡ h
  answered a true e = e
  answered true false e = absurd (cc)
  answered false false e = refl

  unanswered : (a h : Bool) → same_answer a h ≡ false → a ≡ not h
  unanswered a true e = e
  unanswered true false e = refl
  unanswered false false e = absurd (cc)

  pub stretch_from : (n : ℕ) → at ≤ length text → n ≡ run answers (drop at text) → Stretch g (not g) text at (at + n)
  stretch_from n h e =
      let rest = drop at text in
      let l = length-drop at text in
      let w = prefix_len-le-length answers rest in
      record {
        forth = omega arith;
        within = λ _. omega arith;
        all =
            λ k low high.
            let p = prefix_len_passes answers rest (k - at) 0 (omega arith) in
            let i : at + (k - at) ≡ k = omega arith in
            let b : get_or rest (k - at) 0 ≡ get_or text k 0 = get_or-drop at text (k - at) 0 ∙ ap (λ j. get_or text j 0) i in
            (omega arith, answered _ g (ap answers (sym b) ∙ p));
        ends =
            λ low.
            let p = prefix_len_stops answers rest 0 (omega arith) in
            let b : get_or rest (run answers rest) 0 ≡ get_or text (at + n) 0 = get_or-drop at text (run answers rest) 0 ∙ ap (λ j. get_or text (at + j) 0) (sym e) in
            unanswered _ g (ap answers (sym b) ∙ p);
      }

-- what a first token, an end and a fault say of what is left to tell
pub first_some : (ts : List Told) (f : Option Fault) (t : Told) → Ok (Some t) ≡ first_of ts f → ts ≡ t ∷ later_than_first ts
first_some [] None t e = absurd (grind arith)
first_some [] (Some f) t e = absurd (grind arith)
first_some (u ∷ ts) f t e = let s : t ≡ u = cc in ap (λ y. y ∷ ts) (sym s)

pub first_none : (ts : List Told) (f : Option Fault) → Ok None ≡ first_of ts f → (ts ≡ []) × (f ≡ None)
first_none [] None e = (refl, refl)
first_none [] (Some f) e = absurd (grind arith)
first_none (u ∷ ts) f e = absurd (grind arith)

pub first_fails : (ts : List Told) (f : Option Fault) (g : Fault) → Err g ≡ first_of ts f → (ts ≡ []) × (f ≡ Some g)
first_fails [] None g e = absurd (grind arith)
first_fails [] (Some f) g e = (refl, cc)
first_fails (u ∷ ts) f g e = absurd (grind arith)
