-- The positions of one group, from a place on. Assumes nothing.
use Rattle.std.proofs.Common.{◌≡◌, ℕ, zero, suc, ◌+◌, ◌-◌, ◌<◌, ◌≤◌, cond, eqb, ◌⊎◌, [], ◌∷◌, ◌∙◌, inl, inr, ⊎_elim, arith}
use Rattle.std.proofs.lemmas.Bool.{cases_eq, cases_lt, cond-true, cond-false, eq-eqb, ne_eqb}
use Rattle.book.specs.Repeats.{ends}
use Rattle.book.specs.Linking.{ends_from}

module _ (number : ℕ → ℕ) (n : ℕ) where
  -- all of them are those from 0 on
  pub from_start : (g : ℕ) → ends number n g ≡ ends_from number 0 n g
  from_start g = let e : n - 0 ≡ n = omega arith in rw e

  pub from_past : (p g : ℕ) → n ≤ p → ends_from number p n g ≡ []
  from_past p g h = let e : n - p ≡ 0 = omega arith in rw e

  from_more : (p g : ℕ) → p < n → ends_from number p n g ≡ cond (eqb (number p) g) (p ∷ ends_from number (p + 1) n g) (ends_from number (p + 1) n g)
  from_more p g h = let e : n - p ≡ suc (n - (p + 1)) = omega arith in rw e

  pub from_here : (p g : ℕ) → p < n → number p ≡ g → ends_from number p n g ≡ p ∷ ends_from number (p + 1) n g
  from_here p g h e = from_more p g h ∙ cond-true (eqb (number p) g) _ _ (eq-eqb _ _ e)

  pub from_next : (p g : ℕ) → p < n → (number p ≡ g → ⊥) → ends_from number p n g ≡ ends_from number (p + 1) n g
  from_next p g h e = from_more p g h ∙ cond-false (eqb (number p) g) _ _ (ne_eqb _ _ e)

  -- none from p on has the number g
  abbrev pub None : ℕ → ℕ → Type 0
  None p g = (q : ℕ) → p ≤ q → q < n → number q ≡ g → ⊥

  -- q is the first from p on that has it
  pub record Front (p g q : ℕ) : Type 0 where
    pub low : p ≤ q
    pub below : q < n
    pub has : number q ≡ g
    pub list : ends_from number p n g ≡ q ∷ ends_from number (q + 1) n g

  CasesFrom : ℕ → ℕ → Type 0
  CasesFrom p g = ((ends_from number p n g ≡ []) × None p g) ⊎ ((q : ℕ) × Front p g q)

  cases_by : (m p g : ℕ) → n ≤ p + m → CasesFrom p g
  unfolding CasesFrom
  cases_by zero p g h = inl (from_past p g (omega arith), λ q a b e. omega arith)
  cases_by (suc m) p g h = ⊎_elim
      (λ b. ⊎_elim
      (λ e. inr (p, record { low = omega arith; below = b; has = e; list = from_here p g b e }))
      (λ d.
      let f = from_next p g b d in
      ⊎_elim
      (λ a. inl (f ∙ a.0, λ q l u e. ⊎_elim (λ (i : q ≡ p). d (rw (← i) e)) (λ i. a.1 q (omega arith) u e) (cases_eq q p)))
      (λ a. let r = a.1 in inr (a.0, record { low = omega (arith, r.low); below = r.below; has = r.has; list = f ∙ r.list }))
      (cases_by m (p + 1) g (omega arith)))
      (cases_eq (number p) g))
      (λ b. inl (from_past p g b, λ q l u e. omega arith))
      (cases_lt p n)

  pub cases_from : (p g : ℕ) → ((ends_from number p n g ≡ []) × None p g) ⊎ ((q : ℕ) × Front p g q)
  unfolding CasesFrom
  cases_from p g = cases_by n p g (omega arith)
