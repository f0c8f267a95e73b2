-- Facts on lists of pairs, a pair's place and number in them, and the list with a pair held. Assumes nothing.
use Rattle.std.proofs.Common.{◌≡◌, ℕ, zero, suc, ◌+◌, ◌-◌, ◌<◌, ◌≤◌, true, false, leb, ◌⊎◌, List, [], ◌∷◌, ◌++◌, length, Some, None, sym, refl, ap, ◌∙◌, inl, inr, ⊎_elim, one-add, arith}
use Rattle.std.proofs.lemmas.List.{length_push, get_or_append_left, get_or_push}
use Rattle.std.proofs.lemmas.Bool.{lt-ltb, le-ltb, le-leb, lt-leb, and_parts, and_from, and_left, and_right, or_left, or_right, or_from, or_parts, eqb-true, eq-eqb, cases_Bool, cases_lt, true≢false, cond-true, cond-false}
use Rattle.registers.specs.declared.pairs.Pair.{Pair}
use Rattle.registers.specs.Pairs.{pair, at, same, holds, place, place_in, from_place, number_in, pair_at, Apart}
use Rattle.registers.specs.Holding.{holding}

-- Two pairs.

pub same_eq : (p q : Pair) → same p q ≡ true → p ≡ q
same_eq p q h =
    let a = and_parts _ _ h in
    ap (λ n. pair n p.second) (eqb-true _ _ a.0) ∙ ap (λ n. pair q.first n) (eqb-true _ _ a.1)

pub same_self : (p : Pair) → same p p ≡ true
same_self p = and_from _ _ (eq-eqb p.first p.first refl) (eq-eqb p.second p.second refl)

pub same_as : (p q : Pair) → p ≡ q → same p q ≡ true
same_as p q e = rw e (same_self q)

-- A pair's place.

pub place_new : (qs : List Pair) (p : Pair) → holds qs p ≡ false → place qs p ≡ length qs
place_new [] p h = refl
place_new (q ∷ qs) p h =
    let a = or_parts (same q p) (holds qs p) h in
    cond-false (same q p) 0 (1 + place qs p) a.0 ∙ (ap (λ n. 1 + n) (place_new qs p a.1) ∙ one-add (length qs))

pub place_old : (qs : List Pair) (p : Pair) → holds qs p ≡ true → place qs p < length qs
place_old [] p h = absurd (true≢false (sym h))
place_old (q ∷ qs) p h =
    ⊎_elim (λ e. omega (arith, cond-true (same q p) 0 (1 + place qs p) e))
    (λ e. let k : holds qs p ≡ true = grind arith in omega (arith, place_old qs p k, cond-false (same q p) 0 (1 + place qs p) e))
    (cases_Bool (same q p))

-- what holds of the first place that has the pair, and of no place before it
pub place_first : (qs : List Pair) (p : Pair) (i : ℕ) → i < length qs → same (at qs i) p ≡ true → ((k : ℕ) → k < i → same (at qs k) p ≡ false) → (holds qs p ≡ true) × (place qs p ≡ i)
place_first [] p i l h n = absurd (omega arith)
place_first (q ∷ qs) p zero l h n = (or_left (same q p) (holds qs p) h, cond-true (same q p) 0 (1 + place qs p) h)
place_first (q ∷ qs) p (suc i) l h n =
    let k = place_first qs p i (omega arith) h (λ j b. n (suc j) (omega arith)) in
    (or_right (same q p) (holds qs p) k.0, cond-false (same q p) 0 (1 + place qs p) (n 0 (omega arith)) ∙ (ap (λ m. 1 + m) k.1 ∙ one-add i))

pub holds_none : (qs : List Pair) (p : Pair) → ((k : ℕ) → k < length qs → same (at qs k) p ≡ false) → holds qs p ≡ false
holds_none [] p n = refl
holds_none (q ∷ qs) p n = or_from (same q p) (holds qs p) (n 0 (omega arith)) (holds_none qs p (λ k l. n (suc k) (omega arith)))

pub at_place : (qs : List Pair) (p : Pair) → holds qs p ≡ true → at qs (place qs p) ≡ p
at_place [] p h = absurd (true≢false (sym h))
at_place (q ∷ qs) p h =
    ⊎_elim (λ e. rw (cond-true (same q p) 0 (1 + place qs p) e) (same_eq q p e))
    (λ e. let k : holds qs p ≡ true = grind arith in rw (cond-false (same q p) 0 (1 + place qs p) e, one-add (place qs p)) (at_place qs p k))
    (cases_Bool (same q p))

-- where no two are the same, a pair's place is the only one that has it
pub place_at : (qs : List Pair) (i : ℕ) (p : Pair) → Apart qs → i < length qs → same (at qs i) p ≡ true → (holds qs p ≡ true) × (place qs p ≡ i)
place_at qs i p a l h = place_first qs p i l h (λ k b. rw (← same_eq (at qs i) p h) (a k i (b, l)))

-- One more pair at the end.

pub holds_append : (qs rs : List Pair) (p : Pair) → holds qs p ≡ true → holds (qs ++ rs) p ≡ true
holds_append [] rs p h = absurd (true≢false (sym h))
holds_append (q ∷ qs) rs p h =
    ⊎_elim (λ e. or_left (same q p) (holds (qs ++ rs) p) e)
    (λ e. let k : holds qs p ≡ true = grind arith in or_right (same q p) (holds (qs ++ rs) p) (holds_append qs rs p k))
    (cases_Bool (same q p))

pub place_append : (qs rs : List Pair) (p : Pair) → holds qs p ≡ true → place (qs ++ rs) p ≡ place qs p
place_append [] rs p h = absurd (true≢false (sym h))
place_append (q ∷ qs) rs p h =
    ⊎_elim (λ e. cond-true (same q p) 0 (1 + place (qs ++ rs) p) e ∙ sym (cond-true (same q p) 0 (1 + place qs p) e))
    (λ e. let k : holds qs p ≡ true = grind arith in
    cond-false (same q p) 0 (1 + place (qs ++ rs) p) e ∙ (ap (λ n. 1 + n) (place_append qs rs p k) ∙ sym (cond-false (same q p) 0 (1 + place qs p) e)))
    (cases_Bool (same q p))

pub holds_push : (qs : List Pair) (p : Pair) → holds (qs ++ p ∷ []) p ≡ true
holds_push [] p = or_left (same p p) false (same_self p)
holds_push (q ∷ qs) p = or_right (same q p) (holds (qs ++ p ∷ []) p) (holds_push qs p)

pub place_push : (qs : List Pair) (p : Pair) → holds qs p ≡ false → place (qs ++ p ∷ []) p ≡ length qs
place_push [] p h = cond-true (same p p) 0 (1 + 0) (same_self p)
place_push (q ∷ qs) p h =
    let a = or_parts (same q p) (holds qs p) h in
    cond-false (same q p) 0 (1 + place (qs ++ p ∷ []) p) a.0 ∙ (ap (λ n. 1 + n) (place_push qs p a.1) ∙ one-add (length qs))

-- a pair that is not held is no one's
pub holds_not : (qs : List Pair) (p : Pair) (i : ℕ) → holds qs p ≡ false → i < length qs → same (at qs i) p ≡ false
holds_not [] p i h l = absurd (omega arith)
holds_not (q ∷ qs) p zero h l = (or_parts (same q p) (holds qs p) h).0
holds_not (q ∷ qs) p (suc i) h l = holds_not qs p i (or_parts (same q p) (holds qs p) h).1 (omega arith)

pub apart_push : (qs : List Pair) (p : Pair) → Apart qs → holds qs p ≡ false → Apart (qs ++ p ∷ [])
apart_push qs p a h i j b =
    let n = length_push qs p in
    let l : i < length qs = omega (arith, n, b.0, b.1) in
    let x : at (qs ++ p ∷ []) i ≡ at qs i = get_or_append_left qs (p ∷ []) (pair 0 0) i l in
    ⊎_elim (λ m. rw (x, get_or_append_left qs (p ∷ []) (pair 0 0) j m) (a i j (b.0, m)))
    (λ m. let e : length qs ≡ j = omega (arith, n, b.1, m) in rw (x, get_or_push qs p (pair 0 0) j e) (holds_not qs p i h l))
    (cases_lt j (length qs))

-- A pair's number in a list, by cases.

pub place_in_some : (qs : List Pair) (p : Pair) (i : ℕ) → holds qs p ≡ true → place qs p ≡ i → place_in qs p ≡ Some i
unfolding place_in
place_in_some qs p i h e = cond-true _ _ _ h ∙ ap Some e

pub place_in_none : (qs : List Pair) (p : Pair) → holds qs p ≡ false → place_in qs p ≡ None
unfolding place_in
place_in_none qs p h = cond-false _ _ _ h

-- what a look through the list from the first on finds
pub place_in_first : (qs : List Pair) (p : Pair) (i : ℕ) → i < length qs → same (at qs i) p ≡ true → ((k : ℕ) → k < i → same (at qs k) p ≡ false) → place_in qs p ≡ Some i
place_in_first qs p i l h n = let f = place_first qs p i l h n in place_in_some qs p i f.0 f.1

pub place_in_passed : (qs : List Pair) (p : Pair) → ((k : ℕ) → k < length qs → same (at qs k) p ≡ false) → place_in qs p ≡ None
place_in_passed qs p n = place_in_none qs p (holds_none qs p n)

pub number_some : (qs : List Pair) (p : Pair) (i : ℕ) → holds qs p ≡ true → place qs p ≡ i → number_in qs p ≡ Some (i + 1)
number_some qs p i h e = ap from_place (place_in_some qs p i h e)

pub number_none : (qs : List Pair) (p : Pair) → holds qs p ≡ false → number_in qs p ≡ None
number_none qs p h = ap from_place (place_in_none qs p h)

some_not_none : {X : Type 0} (x : X) → Some x ≡ None → ⊥
some_not_none x e = let z : ◌≡◌ {A = ℕ} 0 1 = cc in omega arith

pub some_number : (qs : List Pair) (p : Pair) (n : ℕ) → number_in qs p ≡ Some n → (holds qs p ≡ true) × (place qs p + 1 ≡ n)
some_number qs p n e =
    ⊎_elim (λ h. let k = sym (number_some qs p (place qs p) h refl) ∙ e in (h, cc))
    (λ h. absurd (some_not_none n (sym e ∙ number_none qs p h)))
    (cases_Bool (holds qs p))

-- The pair at a number, by cases.

pub pair_at_in : (qs : List Pair) (n : ℕ) → 1 ≤ n → n ≤ length qs → pair_at qs n ≡ Some (at qs (n - 1))
pair_at_in qs n a b = cond-true _ _ _ (and_from _ _ (le-leb _ _ a) (le-leb _ _ b))

pub pair_at_out : (qs : List Pair) (n : ℕ) → (n < 1) ⊎ (length qs < n) → pair_at qs n ≡ None
pair_at_out qs n o =
    cond-false _ _ _ (⊎_elim (λ a. and_left (leb 1 n) (leb n (length qs)) (lt-leb 1 n a)) (λ b. and_right (leb 1 n) (leb n (length qs)) (lt-leb n (length qs) b)) o)

pub pair_at_some : (qs : List Pair) (n : ℕ) (p : Pair) → pair_at qs n ≡ Some p → (1 ≤ n) × (n ≤ length qs) × (at qs (n - 1) ≡ p)
pair_at_some qs n p e =
    ⊎_elim (λ l. absurd (some_not_none p (sym e ∙ pair_at_out qs n (inl l))))
    (λ l. ⊎_elim (λ m. absurd (some_not_none p (sym e ∙ pair_at_out qs n (inr m))))
    (λ m. let f = sym (pair_at_in qs n l m) ∙ e in (l, m, cc))
    (cases_lt (length qs) n))
    (cases_lt n 1)

-- a pair's number and the pair at a number undo each other
pub pair_at_number : (qs : List Pair) (p : Pair) (n : ℕ) → number_in qs p ≡ Some n → pair_at qs n ≡ Some p
pair_at_number qs p n e =
    let s = some_number qs p n e in
    let k : n - 1 ≡ place qs p = omega (arith, s.1) in
    pair_at_in qs n (omega (arith, s.1)) (omega (arith, s.1, place_old qs p s.0)) ∙ ap Some (ap (at qs) k ∙ at_place qs p s.0)

pub number_of_pair_at : (qs : List Pair) (p : Pair) (n : ℕ) → Apart qs → pair_at qs n ≡ Some p → number_in qs p ≡ Some n
number_of_pair_at qs p n a e =
    let s = pair_at_some qs n p e in
    let f = place_at qs (n - 1) p a (omega (arith, s.0, s.1)) (same_as _ _ s.2) in
    let k : n - 1 + 1 ≡ n = omega (arith, s.0) in
    number_some qs p (n - 1) f.0 f.1 ∙ ap Some k

-- The list with a pair held, and the pair's number in it, by cases.
module _ (room : ℕ) (qs : List Pair) (p : Pair) where
  pub holding_old : holds qs p ≡ true → holding room qs p ≡ qs
  unfolding holding
  holding_old h = cond-true _ _ _ h

  pub holding_new : holds qs p ≡ false → length qs < room → holding room qs p ≡ qs ++ p ∷ []
  unfolding holding
  holding_new h l = cond-false _ _ _ h ∙ cond-true _ _ _ (lt-ltb _ _ l)

  pub holding_full : holds qs p ≡ false → room ≤ length qs → holding room qs p ≡ qs
  unfolding holding
  holding_full h l = cond-false _ _ _ h ∙ cond-false _ _ _ (le-ltb _ _ l)

  pub numbered_old : holds qs p ≡ true → number_in (holding room qs p) p ≡ Some (place qs p + 1)
  numbered_old h = ap (λ rs. number_in rs p) (holding_old h) ∙ number_some qs p (place qs p) h refl

  pub numbered_new : holds qs p ≡ false → length qs < room → number_in (holding room qs p) p ≡ Some (length qs + 1)
  numbered_new h l = ap (λ rs. number_in rs p) (holding_new h l) ∙ number_some (qs ++ p ∷ []) p (length qs) (holds_push qs p) (place_push qs p h)

  pub numbered_full : holds qs p ≡ false → room ≤ length qs → number_in (holding room qs p) p ≡ None
  numbered_full h l = ap (λ rs. number_in rs p) (holding_full h l) ∙ number_none qs p h

-- what a look before appending says
pub number_held : (qs : List Pair) (p : Pair) (n : ℕ) → Some n ≡ number_in qs p → holds qs p ≡ true
number_held qs p n e = (some_number qs p n (sym e)).0

pub number_not_held : (qs : List Pair) (p : Pair) → None ≡ number_in qs p → holds qs p ≡ false
number_not_held qs p e =
    ⊎_elim (λ h. absurd (some_not_none (place qs p + 1) (sym (number_some qs p (place qs p) h refl) ∙ sym e))) (λ h. h) (cases_Bool (holds qs p))

-- The list with a pair held, by what a look before it found.
module _ (room : ℕ) (qs : List Pair) (p : Pair) where
  pub kept_held : (n : ℕ) → Some n ≡ number_in qs p → holding room qs p ≡ qs
  kept_held n e = holding_old room qs p (number_held qs p n e)

  pub kept_full : None ≡ number_in qs p → room ≤ length qs → holding room qs p ≡ qs
  kept_full e l = holding_full room qs p (number_not_held qs p e) l

  pub kept_new : None ≡ number_in qs p → length qs < room → holding room qs p ≡ qs ++ p ∷ []
  kept_new e l = holding_new room qs p (number_not_held qs p e) l

pub number_push : (qs : List Pair) (p : Pair) → None ≡ number_in qs p → number_in (qs ++ p ∷ []) p ≡ Some (length qs + 1)
number_push qs p e = number_some (qs ++ p ∷ []) p (length qs) (holds_push qs p) (place_push qs p (number_not_held qs p e))

pub apart_new : (qs : List Pair) (p : Pair) → Apart qs → None ≡ number_in qs p → Apart (qs ++ p ∷ [])
apart_new qs p a e = apart_push qs p a (number_not_held qs p e)

-- what asking for a pair's number comes to, by what the look before it found
pub ruleset looked_up = (kept_held, kept_full, kept_new, number_push, apart_new)
