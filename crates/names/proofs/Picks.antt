-- What a list's first that passes a test tells.
use Rattle.std.proofs.Common.{◌≡◌, Bool, true, false, cond, List, [], ◌∷◌, Some, sym, refl, ap, ◌∙◌, arith}
use Rattle.names.specs.Choice.{pick}

pub pick_passes : {X : Type 0} (test : X → Bool) (xs : List X) (x : X) → pick test xs ≡ Some x → test x ≡ true
pick_passes test [] x e = let z : ◌≡◌ {A = Bool} true false = cc in absurd (grind arith)
pick_passes test (y ∷ ys) x e = by (test y) refl e (pick_passes test ys x)
  where
    by : (t : Bool) → test y ≡ t → cond t (Some y) (pick test ys) ≡ Some x → (pick test ys ≡ Some x → test x ≡ true) → test x ≡ true
    by true h e more = let same : y ≡ x = cc in ap test (sym same) ∙ h
    by false h e more = more e
