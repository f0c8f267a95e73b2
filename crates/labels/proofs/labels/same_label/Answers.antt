use Rattle.std.proofs.Common.{rules, ◌≡◌, ℕ, ◌<◌, true, false, Bool, List, length, get_or, refl, ap, subst, arith}
use Rattle.std.specs.Bool.{MatchBool}
use Rattle.std.specs.List.{range_with_len, AllWithin, HoldsAt}
use Rattle.std.proofs.lemmas.Iterator.{cases_from_all, YieldsList-from_range}
use Rattle.std.proofs.lemmas.List.{ext_get_or}
use Rattle.std.proofs.lemmas.List.FromFn.{length-range_with_len, get_or-range_with_len}
use borrow.Author.Tests.{tests}
use Rattle.labels.proofs.labels.same_label.Goals as goal

-- lists of one length are the same where they agree at each place
agree : (s t : List ℕ) (n : ℕ) (r : Bool) → length s ≡ n → length t ≡ n → MatchBool r (AllWithin (λ k. get_or s k 0 ≡ get_or t k 0) (range_with_len 0 n) 0 (length (range_with_len 0 n))) ((k : ℕ) × (k < length (range_with_len 0 n)) × HoldsAt (λ k. get_or s k 0 ≡ get_or t k 0 → ⊥) (range_with_len 0 n) k) → (r ≡ true → s ≡ t) × (s ≡ t → r ≡ true)
agree s t n true a b all =
    (λ _. ext_get_or 0 s t (omega arith) (λ k h. let at : get_or (range_with_len 0 n) k 0 ≡ k = omega (arith, get_or-range_with_len 0 n k 0 (omega arith)) in subst (λ i. get_or s i 0 ≡ get_or t i 0) at (all k 0 (omega arith) (omega (arith, length-range_with_len 0 n)))), λ _. refl)
agree s t n false a b (k, below, differ) = (λ e. cc, λ e. absurd (differ 0 (ap (λ xs. get_or xs (get_or (range_with_len 0 n) k 0) 0) e)))

pub returns-then-spelled_len-len : goal.returns-then-spelled_len-len
returns-then-spelled_len-len g c =
    let s = g.L.Label.spelling c.args.left.now in
    let t = g.M.Label.spelling c.args.right.now in
    let n = c.spelled_len-len.result in
    agree s t n _ (omega arith) (omega arith) (cases_from_all _ _ _ (λ k. get_or s k 0 ≡ get_or t k 0) (λ k. get_or s k 0 ≡ get_or t k 0 → ⊥) c.all.ensures.ran (YieldsList-from_range 0 n n refl (omega arith)) (λ x q k. search (rules, tests)) (λ x q k. search (rules, tests)))
