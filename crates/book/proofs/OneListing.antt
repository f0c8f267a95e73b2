-- There is only one listing. Assumes nothing.
use Rattle.std.proofs.Common.{◌≡◌, ℕ, ◌<◌, ◌≤◌, List, [], ◌∷◌, map, length, sym, refl, ap, ◌∙◌, inl, inr, ⊎_elim, arith}
use Rattle.std.specs.List.{AllByRecursion}
use Rattle.book.specs.Repeats.{◌among◌, Rising, first, Repeat, Listing}

all_among : {A : Type 0} (P : A → Type 0) (x : A) (xs : List A) → AllByRecursion P xs → x among xs → P x
all_among P x [] a h = absurd h
all_among P x (y ∷ ys) a h = ⊎_elim (λ e. rw e a.0) (λ k. all_among P x ys a.1 k) h

-- The first of a rising list is at most each in it.
least : (x : ℕ) (xs : List ℕ) → Rising xs → x among xs → first xs ≤ x
least x [] r h = absurd h
least x (y ∷ ys) r h = ⊎_elim (λ e. omega arith) (λ k. omega (arith, all_among (λ z. y < z) x ys r.0 k)) h

-- Two rising lists with the same members are the same.
rising_same : (xs ys : List ℕ) → Rising xs → Rising ys → ((x : ℕ) → x among xs → x among ys) → ((y : ℕ) → y among ys → y among xs) → xs ≡ ys
rising_same [] [] r s f g = refl
rising_same [] (y ∷ ys) r s f g = absurd (g y (inl refl))
rising_same (x ∷ xs) [] r s f g = absurd (f x (inl refl))
rising_same (x ∷ xs) (y ∷ ys) r s f g =
    let low : x ≤ y = least y (x ∷ xs) r (g y (inl refl)) in
    let high : y ≤ x = least x (y ∷ ys) s (f x (inl refl)) in
    let heads : x ≡ y = omega arith in
    let tails : xs ≡ ys = rising_same xs ys r.1 s.1
    (λ z h. ⊎_elim (λ e. absurd (omega (arith, all_among (λ a. x < a) z xs r.0 h))) (λ k. k) (f z (inr h)))
    (λ z h. ⊎_elim (λ e. absurd (omega (arith, all_among (λ a. y < a) z ys s.0 h))) (λ k. k) (g z (inr h))) in
    cc

head_among : (xs : List ℕ) → 2 ≤ length xs → first xs among xs
head_among [] h = absurd (omega arith)
head_among (x ∷ xs) h = inl refl

among_map : (es : List ℕ) (ls : List (List ℕ)) → es among ls → first es among map first ls
among_map es [] h = absurd h
among_map es (fs ∷ ls) h = ⊎_elim (λ e. inl (ap first e)) (λ k. inr (among_map es ls k)) h

module _ (Same : ℕ → ℕ → Type 0) (n : ℕ) (back : (p q : ℕ) → Same p q → Same q p) (on : (p q r : ℕ) → Same p q → Same q r → Same p r) where
  repeat_same : (es fs : List ℕ) → Repeat Same n es → Repeat Same n fs → first es ≡ first fs → es ≡ fs
  repeat_same es fs a b e = rising_same es fs a.rising b.rising
      (λ x h. (b.exactly x).1 (rw e at ((a.exactly x).0 h)))
      (λ x h. (a.exactly x).1 (rw (sym e) at ((b.exactly x).0 h)))

  second : (es : List ℕ) → Repeat Same n es → (y : ℕ) × (y among es) × (first es < y)
  second es a = go es a.two a.rising
    where
      go : (xs : List ℕ) → 2 ≤ length xs → Rising xs → (y : ℕ) × (y among xs) × (first xs < y)
      go [] h r = absurd (omega arith)
      go (x ∷ []) h r = absurd (omega arith)
      go (x ∷ y ∷ xs) h r = (y, inr (inl refl), r.0.0)

  -- A first end in one listing is one in the other.
  first_in_other : (ls ms : List (List ℕ)) → Listing Same n ms → (es : List ℕ) → Repeat Same n es → (fs : List ℕ) × (fs among ms) × (first fs ≡ first es)
  first_in_other ls ms m es a =
      let two = second es a in
      let y = (a.exactly two.0).0 two.1 in
      let x-in : first es among es = head_among es a.two in
      let x = (a.exactly (first es)).0 x-in in
      let found = m.complete (first es) two.0 x.0 y.0 (omega arith) (back two.0 (first es) y.1) in
      let fs : List ℕ = found.0 in
      let b : Repeat Same n fs = all_among (Repeat Same n) fs ms m.each found.1 in
      let low : first fs ≤ first es = least (first es) fs b.rising found.2 in
      let f = (b.exactly (first fs)).0 (head_among fs b.two) in
      let x-same = (b.exactly (first es)).0 found.2 in
      let high : first es ≤ first fs = least (first fs) es a.rising ((a.exactly (first fs)).1 (f.0, back (first es) (first fs) x-same.1)) in
      (fs, found.1, omega arith)

  firsts_in_other : (ls ms : List (List ℕ)) → AllByRecursion (Repeat Same n) ls → Listing Same n ms → (x : ℕ) → x among map first ls → x among map first ms
  firsts_in_other [] ms a m x h = absurd h
  firsts_in_other (es ∷ ls) ms a m x h = ⊎_elim
      (λ e. let found = first_in_other ls ms m es a.0 in let f : x ≡ first found.0 = e ∙ sym found.2 in rw f (among_map found.0 ms found.1))
      (λ k. firsts_in_other ls ms a.1 m x k) h

  by_firsts : (ls ms : List (List ℕ)) → AllByRecursion (Repeat Same n) ls → AllByRecursion (Repeat Same n) ms → map first ls ≡ map first ms → ls ≡ ms
  by_firsts [] [] a b e = refl
  by_firsts [] (fs ∷ ms) a b e = absurd (omega (arith, ap length e))
  by_firsts (es ∷ ls) [] a b e = absurd (omega (arith, ap length e))
  by_firsts (es ∷ ls) (fs ∷ ms) a b e =
      let here : first es ≡ first fs = cc in
      let rest : map first ls ≡ map first ms = cc in
      let heads : es ≡ fs = repeat_same es fs a.0 b.0 here in
      let tails : ls ≡ ms = by_firsts ls ms a.1 b.1 rest in
      cc

  pub one_listing : (ls ms : List (List ℕ)) → Listing Same n ls → Listing Same n ms → ls ≡ ms
  one_listing ls ms l m = by_firsts ls ms l.each m.each
      (rising_same (map first ls) (map first ms) l.ordered m.ordered (firsts_in_other ls ms l.each m) (firsts_in_other ms ls m.each l))
