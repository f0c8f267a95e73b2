-- The repeats by numbers are a listing. Assumes nothing.
use Rattle.std.proofs.Common.{◌≡◌, ℕ, zero, suc, ◌+◌, ◌<◌, ◌≤◌, Bool, true, false, cond, eqb, ◌⊎◌, ◌↔◌, List, [], ◌∷◌, ◌++◌, map, length, filter, sym, refl, ap, ◌∙◌, inl, inr, ⊎_elim, arith}
use Rattle.std.specs.List.{flat_map, AllByRecursion, range_with_len}
use Rattle.std.proofs.ByRecursion.{all_kept_by, All-append}
use Rattle.std.proofs.lemmas.Bool.{eq-eqb, eqb-true, true≢false, cases_eq, cond_both}
use Rattle.book.specs.Repeats.{◌among◌, Rising, first, Repeat, Listing, ends, listed_at, repeats}

among_kept : {A : Type 0} (t : A → Bool) (x : A) (xs : List A) → (x among filter t xs) ↔ ((x among xs) × (t x ≡ true))
among_kept t x [] = (λ h. absurd h, λ h. absurd h.0)
among_kept t x (y ∷ ys) = go (t y) refl (among_kept t x ys)
  where
    go : (b : Bool) → t y ≡ b → ((x among filter t ys) ↔ ((x among ys) × (t x ≡ true))) → (x among cond b (y ∷ filter t ys) (filter t ys)) ↔ (((x ≡ y) ⊎ (x among ys)) × (t x ≡ true))
    go true e ih = (⊎_elim (λ s. (inl s, ap t s ∙ e)) (λ h. (inr (ih.0 h).0, (ih.0 h).1)), λ h. ⊎_elim (λ s. inl s) (λ k. inr (ih.1 (k, h.1))) h.0)
    go false e ih = (λ h. (inr (ih.0 h).0, (ih.0 h).1), λ h. ⊎_elim (λ s. absurd (true≢false (sym h.1 ∙ ap t s ∙ e))) (λ k. ih.1 (k, h.1)) h.0)

pub among_counting : (a n x : ℕ) → (x among range_with_len a n) ↔ ((a ≤ x) × (x < a + n))
among_counting a zero x = (λ h. absurd h, λ h. omega arith)
among_counting a (suc n) x = (
  ⊎_elim (λ s. omega arith) (λ h. let ih = (among_counting (a + 1) n x).0 h in omega arith),
  λ h. ⊎_elim (λ s. inl s) (λ d. inr ((among_counting (a + 1) n x).1 (omega arith))) (cases_eq x a),
)

all_counting : (a b n : ℕ) → a < b → AllByRecursion (λ y. a < y) (range_with_len b n)
all_counting a b zero h = tt
all_counting a b (suc n) h = (h, all_counting a (b + 1) n (omega arith))

pub rising_counting : (a n : ℕ) → Rising (range_with_len a n)
rising_counting a zero = tt
rising_counting a (suc n) = (all_counting a (a + 1) n (omega arith), rising_counting (a + 1) n)

pub rising_kept : (t : ℕ → Bool) (xs : List ℕ) → Rising xs → Rising (filter t xs)
rising_kept t [] h = tt
rising_kept t (x ∷ xs) h = cond_both (t x) (x ∷ filter t xs) (filter t xs) Rising (λ _. (all_kept_by t (λ y. x < y) xs h.0, rising_kept t xs h.1)) (λ _. rising_kept t xs h.1)

among_append : {A : Type 0} (x : A) (xs ys : List A) → (x among xs) ⊎ (x among ys) → x among xs ++ ys
among_append x [] ys h = ⊎_elim (λ k. absurd k) (λ k. k) h
among_append x (z ∷ xs) ys h = ⊎_elim (⊎_elim (λ k. inl k) (λ k. inr (among_append x xs ys (inl k)))) (λ k. inr (among_append x xs ys (inr k))) h

among_joined : {A B : Type 0} (f : A → List B) (x : A) (y : B) (xs : List A) → x among xs → y among f x → y among flat_map f xs
among_joined f x y [] h k = absurd h
among_joined f x y (z ∷ xs) h k = among_append y (f z) (flat_map f xs) (⊎_elim (λ s. inl (rw s at k)) (λ m. inr (among_joined f x y xs m k)) h)

pub all_joined : {A B : Type 0} (P : B → Type 0) (f : A → List B) (xs : List A) → ((x : A) → x among xs → AllByRecursion P (f x)) → AllByRecursion P (flat_map f xs)
all_joined P f [] h = tt
all_joined P f (x ∷ xs) h = All-append P (f x) (flat_map f xs) (h x (inl refl)) (all_joined P f xs (λ y k. h y (inr k)))

-- What is listed at p is nothing, or the ends, of which p is the first.
unfoldable pub Opens : ℕ → List ℕ → Type 0
Opens p es = (listed_at p es ≡ es ∷ []) × (2 ≤ length es) × (first es ≡ p)

pub opens_or_not : (p : ℕ) (es : List ℕ) → (listed_at p es ≡ []) ⊎ Opens p es
unfolding Opens
opens_or_not p [] = inl refl
opens_or_not p (q ∷ []) = inl refl
opens_or_not p (q ∷ r ∷ es) = go (eqb p q) refl
  where
    go : (b : Bool) → eqb p q ≡ b → (cond b ((q ∷ r ∷ es) ∷ []) [] ≡ []) ⊎ ((cond b ((q ∷ r ∷ es) ∷ []) [] ≡ (q ∷ r ∷ es) ∷ []) × (2 ≤ length (q ∷ r ∷ es)) × (q ≡ p))
    go true e = inr (refl, omega arith, sym (eqb-true p q e))
    go false e = inl refl

opens : (es : List ℕ) → 2 ≤ length es → listed_at (first es) es ≡ es ∷ []
opens [] h = absurd (omega arith)
opens (q ∷ []) h = absurd (omega arith)
opens (q ∷ r ∷ es) h = rw (eq-eqb q q refl)

first_among : (es : List ℕ) → 2 ≤ length es → first es among es
first_among [] h = absurd (omega arith)
first_among (q ∷ es) h = inl refl

two_among : (p q : ℕ) (es : List ℕ) → p among es → q among es → (p ≡ q → ⊥) → 2 ≤ length es
two_among p q [] h k d = absurd h
two_among p q (x ∷ []) h k d = ⊎_elim (λ a. ⊎_elim (λ b. absurd (d (a ∙ sym b))) (λ b. absurd b) k) (λ a. absurd a) h
two_among p q (x ∷ y ∷ es) h k d = omega arith

module _ (E : ℕ → List ℕ) where
  listed_by : ℕ → List (List ℕ)
  listed_by p = listed_at p (E p)

  firsts_after : (x : ℕ) (ps : List ℕ) → AllByRecursion (λ y. x < y) ps → AllByRecursion (λ y. x < y) (map first (flat_map listed_by ps))
  unfolding Opens listed_by
  firsts_after x [] h = tt
  firsts_after x (p ∷ ps) h = ⊎_elim (λ e. rw e (firsts_after x ps h.1)) (λ o. rw (o.0, o.2) (h.0, firsts_after x ps h.1)) (opens_or_not p (E p))

  rising_firsts : (ps : List ℕ) → Rising ps → Rising (map first (flat_map listed_by ps))
  unfolding Opens listed_by
  rising_firsts [] h = tt
  rising_firsts (p ∷ ps) h = ⊎_elim (λ e. rw e (rising_firsts ps h.1)) (λ o. rw (o.0, o.2) (firsts_after p ps h.0, rising_firsts ps h.1)) (opens_or_not p (E p))

module _ (number : ℕ → ℕ) (n : ℕ) (Same : ℕ → ℕ → Type 0) (exact : (p q : ℕ) → p < n → q < n → (number p ≡ number q) ↔ Same p q) where
  among_ends : (g q : ℕ) → (q among ends number n g) ↔ ((q < n) × (number q ≡ g))
  among_ends g q =
      let kept = among_kept (λ p. eqb (number p) g) q (range_with_len 0 n) in
      let counted = among_counting 0 n q in (
        λ h. (omega (arith, counted.0 (kept.0 h).0), eqb-true (number q) g (kept.0 h).1),
        λ h. kept.1 (counted.1 (omega arith), eq-eqb (number q) g h.1),
      )

  is_repeat : (p : ℕ) → p < n → Opens p (ends number n (number p)) → Repeat Same n (ends number n (number p))
  unfolding Opens
  is_repeat p h o = record {
    two = o.1;
    rising = rising_kept (λ q. eqb (number q) (number p)) (range_with_len 0 n) (rising_counting 0 n);
    exactly = λ q. rw o.2 (
      λ m. let k = (among_ends (number p) q).0 m in (k.0, (exact q p k.0 h).0 k.1),
      λ k. (among_ends (number p) q).1 (k.0, (exact q p k.0 h).1 k.1),
    );
  }

  each_repeat : (p : ℕ) → p < n → AllByRecursion (Repeat Same n) (listed_at p (ends number n (number p)))
  unfolding Opens
  each_repeat p h = ⊎_elim (λ e. rw e tt) (λ o. rw o.0 (is_repeat p h o, tt)) (opens_or_not p (ends number n (number p)))

  both_listed : (p q : ℕ) → p < n → q < n → (p ≡ q → ⊥) → Same p q → (es : List ℕ) × (es among repeats number n) × (p among es) × (q among es)
  both_listed p q hp hq d s =
      let es : List ℕ = ends number n (number p) in
      let pin : p among es = (among_ends (number p) p).1 (hp, refl) in
      let qin : q among es = (among_ends (number p) q).1 (hq, sym ((exact p q hp hq).1 s)) in
      let two : 2 ≤ length es = two_among p q es pin qin d in
      let m = (among_ends (number p) (first es)).0 (first_among es two) in
      let here : es among listed_at (first es) (ends number n (number (first es))) = rw (m.1, opens es two) (inl refl) in
      (es, among_joined (λ r. listed_at r (ends number n (number r))) (first es) es (range_with_len 0 n) ((among_counting 0 n (first es)).1 (omega arith)) here, pin, qin)

  pub listing_of_repeats : Listing Same n (repeats number n)
  unfolding listed_by
  listing_of_repeats = record {
    each = all_joined (Repeat Same n) (λ p. listed_at p (ends number n (number p))) (range_with_len 0 n) (λ p h. each_repeat p (omega (arith, (among_counting 0 n p).0 h)));
    ordered = rising_firsts (λ p. ends number n (number p)) (range_with_len 0 n) (rising_counting 0 n);
    complete = both_listed;
  }
