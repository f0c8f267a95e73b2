-- A text's tokens are its longest runs without a gap.
use Rattle.std.proofs.Common.{◌≡◌, ℕ, ◌+◌, Bool, true, false, cond, not, List, [], ◌∷◌, length, refl, ap, ◌∙◌, arith}
use Rattle.std.proofs.lemmas.Bool.{and_parts, and_from}
use Rattle.names.specs.Parted.{Parted, last, next}
use Rattle.names.specs.Texts.{Piece, goes_on, before, pieces}
use Rattle.names.specs.Tokens.{gap, each}
use Rattle.names.proofs.Cuts.{solid}

moved : {at at' : ℕ} {text : List ℕ} {ps : List Piece} → at ≡ at' → Parted at text ps → Parted at' text ps
moved {text = text} {ps = ps} e h = rw e at h

gap_first : (b : ℕ) {at : ℕ} {text : List ℕ} {ps : List Piece} → gap b ≡ true → Parted (at + 1) text ps → Parted at (b ∷ text) ps
gap_first b {at} {text} g (last e) = last (and_from (gap b) (each gap text) g e)
gap_first b {at} g (next gaps token rest e all some whole ends more) =
    let n : at + 1 + length gaps ≡ at + length (b ∷ gaps) = omega arith in
    let m : at + 1 + length gaps + length token ≡ at + length (b ∷ gaps) + length token = omega arith in
    rw n (next (b ∷ gaps) token rest (ap (λ xs. b ∷ xs) e) (and_from (gap b) (each gap gaps) g all) some whole ends (moved m more))

token_first : (at b : ℕ) (bs : List ℕ) (ps : List Piece) → gap b ≡ false → goes_on bs ≡ true → Parted (at + 1) bs ps → Parted at (b ∷ bs) (before true at b ps)
token_first at b [] ps g o h = absurd (grind arith)
token_first at b (c ∷ bs) [] g o (last e) = let p = (and_parts (gap c) (each gap bs) e).0 in absurd (grind arith)
token_first at b (c ∷ bs) (p ∷ ps) g o (next [] token rest e all some whole ends more) =
    let n : at + length {A = ℕ} [] ≡ at = omega arith in
    let m : at + 1 + length {A = ℕ} [] + length token ≡ at + length {A = ℕ} [] + length (b ∷ token) = omega arith in
    let h : Parted at (b ∷ c ∷ bs) (record { byte = at + length {A = ℕ} []; bytes = b ∷ token } ∷ ps) =
    next [] (b ∷ token) rest (ap (λ xs. b ∷ xs) e) refl (omega arith) (and_from (solid b) (each solid token) (ap not g) whole) ends (moved m more) in
    rw n at h
token_first at b (c ∷ bs) (p ∷ ps) g o (next (x ∷ gaps) token rest e all some whole ends more) =
    let q = (and_parts (gap x) (each gap gaps) all).0 in
    let s : c ≡ x = cc in
    let f : gap c ≡ true = ap gap s ∙ q in
    absurd (grind arith)

token_alone : (at b : ℕ) (bs : List ℕ) (ps : List Piece) → gap b ≡ false → goes_on bs ≡ false → Parted (at + 1) bs ps → Parted at (b ∷ bs) (before false at b ps)
token_alone at b bs ps g o h =
    let n : at + length {A = ℕ} [] ≡ at = omega arith in
    let m : at + 1 ≡ at + length {A = ℕ} [] + length (b ∷ []) = omega arith in
    let h : Parted at (b ∷ bs) (record { byte = at + length {A = ℕ} []; bytes = b ∷ [] } ∷ ps) =
    next [] (b ∷ []) bs refl refl (omega arith) (and_from (solid b) true (ap not g) refl) o (moved m h) in
    rw n at h

pub parted : (bs : List ℕ) (at : ℕ) → Parted at bs (pieces at bs)
unfolding pieces
parted [] at = last refl
parted (b ∷ bs) at = by (gap b) (goes_on bs) refl refl (parted bs (at + 1))
  where
    by : (g o : Bool) → gap b ≡ g → goes_on bs ≡ o → Parted (at + 1) bs (pieces (at + 1) bs) → Parted at (b ∷ bs) (cond g (pieces (at + 1) bs) (before o at b (pieces (at + 1) bs)))
    by true o e f h = gap_first b e h
    by false true e f h = token_first at b bs (pieces (at + 1) bs) e f h
    by false false e f h = token_alone at b bs (pieces (at + 1) bs) e f h
