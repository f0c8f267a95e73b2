-- The steps of reading a number and of looking for a space. Assumes nothing.
use Rattle.std.proofs.Common.{◌≡◌, ℕ, ◌+◌, ◌<◌, true, false, eqb, not, List, [], ◌∷◌, length, get_or, drop, Some, None, sym, refl, ap, ◌∙◌, arith}
use Rattle.std.proofs.lemmas.List.{at_drop_more}
use Rattle.std.proofs.lemmas.Bool.{cond-true, cond-false}
use Rattle.typed.specs.Typed.{with_digit, value_after, space_place}

value_none : (cs : List ℕ) → value_after cs None ≡ None
value_none [] = refl
value_none (c ∷ cs) = refl

pub value_off : (cs : List ℕ) (i n : ℕ) → i < length cs → None ≡ with_digit n (get_or cs i 0) → value_after (drop i cs) (Some n) ≡ None
value_off cs i n l e = at_drop_more (λ ds. value_after ds (Some n)) cs i 0 l ∙ (ap (value_after (drop (i + 1) cs)) (sym e) ∙ value_none (drop (i + 1) cs))

-- one more byte: a digit that fits
pub value_on : (cs : List ℕ) (i n m : ℕ) → i < length cs → Some m ≡ with_digit n (get_or cs i 0) → value_after (drop (i + 1) cs) (Some m) ≡ value_after (drop i cs) (Some n)
value_on cs i n m l e = ap (value_after (drop (i + 1) cs)) e ∙ sym (at_drop_more (λ ds. value_after ds (Some n)) cs i 0 l)

-- one more byte: the space, or none
pub space_more : (cs : List ℕ) (i : ℕ) → i < length cs → eqb (get_or cs i 0) 32 ≡ false → space_place (drop i cs) ≡ space_place (drop (i + 1) cs) + 1
space_more cs i l n =
    let rest = space_place (drop (i + 1) cs) in
    at_drop_more space_place cs i 0 l ∙ (cond-true (not (eqb (get_or cs i 0) 32)) (1 + rest) 0 (ap not n) ∙ omega arith)

pub space_here : (cs : List ℕ) (i : ℕ) → i < length cs → eqb (get_or cs i 0) 32 ≡ true → space_place (drop i cs) ≡ 0
space_here cs i l e = at_drop_more space_place cs i 0 l ∙ cond-false (not (eqb (get_or cs i 0) 32)) (1 + space_place (drop (i + 1) cs)) 0 (ap not e)
