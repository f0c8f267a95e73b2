-- Chains: what the last of a bucket is, how a walk along a chain goes, and what a new pair at a chain's head leaves.
-- Of the bucket function only this is used: it is a function of the pair. Assumes nothing.
use Rattle.std.proofs.Common.{◌≡◌, ℕ, zero, suc, ◌+◌, ◌-◌, ◌<◌, ◌≤◌, false, Bool, take, count_by, eqb, List, [], ◌∷◌, ◌++◌, length, set, sym, refl, ap, ◌∙◌, ⊎_elim, add-one, arith}
use Rattle.std.proofs.lemmas.List.{take_all, length_push, get_or_append_left, get_or_push, get_or-set_same, get_or-set_other}
use Rattle.std.proofs.lemmas.List.Sums.{count_by-le-length, count_by_more_yes, count_by_more_no}
use Rattle.std.proofs.lemmas.Bool.{cases_Bool, cases_eq, cases_lt, eqb-true, eqb-false, eq-eqb, ne_eqb, cond-true, cond-false}
use Rattle.registers.specs.declared.pairs.Pair.{Pair}
use Rattle.registers.specs.declared.slots.Slot.{Slot}
use Rattle.registers.specs.Pairs.{pair, at, same, holds}
use Rattle.registers.specs.Mixing.{bucket_index}
use Rattle.registers.specs.Chains.{last_in, next_at, chain_length, Headed, Linked}
use Rattle.registers.proofs.Listed.{same_eq, holds_none}

module _ (n : ℕ) (qs : List Pair) (b : ℕ) where
  pub last_le : (k : ℕ) → last_in n qs b k ≤ k
  last_le zero = omega arith
  last_le (suc k) =
      ⊎_elim (λ e. omega (arith, cond-true (eqb (bucket_index n (at qs k)) b) (suc k) (last_in n qs b k) e))
      (λ e. omega (arith, cond-false (eqb (bucket_index n (at qs k)) b) (suc k) (last_in n qs b k) e, last_le k))
      (cases_Bool (eqb (bucket_index n (at qs k)) b))

  -- the last is in the bucket
  pub last_is : (k : ℕ) → 0 < last_in n qs b k → bucket_index n (at qs (last_in n qs b k - 1)) ≡ b
  last_is zero h = absurd (omega arith)
  last_is (suc k) h =
      ⊎_elim (λ e. let c = cond-true (eqb (bucket_index n (at qs k)) b) (suc k) (last_in n qs b k) e in
      let d : last_in n qs b (suc k) - 1 ≡ k = omega (arith, c) in rw d (eqb-true _ _ e))
      (λ e. let c = cond-false (eqb (bucket_index n (at qs k)) b) (suc k) (last_in n qs b k) e in rw c (last_is k (omega (arith, h, c))))
      (cases_Bool (eqb (bucket_index n (at qs k)) b))

  -- no pair after it is
  pub last_after : (k j : ℕ) → last_in n qs b k ≤ j → j < k → bucket_index n (at qs j) ≡ b → ⊥
  last_after zero j l m e = omega arith
  last_after (suc k) j l m e =
      ⊎_elim (λ t. omega (arith, l, m, cond-true (eqb (bucket_index n (at qs k)) b) (suc k) (last_in n qs b k) t))
      (λ f. let c = cond-false (eqb (bucket_index n (at qs k)) b) (suc k) (last_in n qs b k) f in
      ⊎_elim (λ (i : j ≡ k). eqb-false _ _ f (rw (← i) e)) (λ i. last_after k j (omega (arith, l, c)) (omega (arith, m, i)) e) (cases_eq j k))
      (cases_Bool (eqb (bucket_index n (at qs k)) b))

-- A walk along the chain of the pair p has come to a number: the pair at it is in p's bucket, and no pair from there on is p.
pub record Come (n : ℕ) (qs : List Pair) (p : Pair) (number : ℕ) : Type 0 where
  pub low : number ≤ length qs
  pub belongs : 0 < number → bucket_index n (at qs (number - 1)) ≡ bucket_index n p
  pub passed : (k : ℕ) → number ≤ k → k < length qs → same (at qs k) p ≡ false

-- a pair of another bucket is another pair
other_bucket : (n : ℕ) (q p : Pair) → (bucket_index n q ≡ bucket_index n p → ⊥) → same q p ≡ false
other_bucket n q p h = ⊎_elim (λ e. absurd (h (ap (bucket_index n) (same_eq q p e)))) (λ e. e) (cases_Bool (same q p))

-- it goes on from any place that the walk has passed
come_to : (n : ℕ) (qs : List Pair) (p : Pair) (k : ℕ) → k ≤ length qs → ((j : ℕ) → k ≤ j → j < length qs → same (at qs j) p ≡ false) → Come n qs p (last_in n qs (bucket_index n p) k)
come_to n qs p k l h =
    let b = bucket_index n p in
    record {
      low = omega (arith, last_le n qs b k);
      belongs = last_is n qs b k;
      passed = λ j a m. ⊎_elim (λ i. other_bucket n (at qs j) p (last_after n qs b k j a i)) (λ i. h j i m) (cases_lt j k);
    }

pub come_first : (n : ℕ) (qs : List Pair) (p : Pair) (number : ℕ) → number ≡ last_in n qs (bucket_index n p) (length qs) → Come n qs p number
come_first n qs p number e = rw e (come_to n qs p (length qs) (omega arith) (λ j a m. absurd (omega (arith, a, m))))

pub come_next : (n : ℕ) (qs : List Pair) (p : Pair) (number next : ℕ) → Come n qs p number → 0 < number → next ≡ last_in n qs (bucket_index n (at qs (number - 1))) (number - 1) → same (at qs (number - 1)) p ≡ false → Come n qs p next
come_next n qs p number next c h e f =
    let past : (j : ℕ) → number - 1 ≤ j → j < length qs → same (at qs j) p ≡ false =
    λ j a m. ⊎_elim (λ (i : j ≡ number - 1). rw i f) (λ i. c.passed j (omega (arith, a, i)) m) (cases_eq j (number - 1)) in
    rw (e, c.belongs h) (come_to n qs p (number - 1) (omega (arith, c.low)) past)

pub come_less : (n : ℕ) (qs : List Pair) (number next b : ℕ) → 0 < number → next ≡ last_in n qs b (number - 1) → next < number
come_less n qs number next b h e = omega (arith, h, e, last_le n qs b (number - 1))

pub come_none : (n : ℕ) (qs : List Pair) (p : Pair) (number : ℕ) → Come n qs p number → number ≡ 0 → holds qs p ≡ false
come_none n qs p number c e = holds_none qs p (λ k l. c.passed k (omega (arith, e)) l)

-- One more pair.

last_push : (n : ℕ) (qs : List Pair) (p : Pair) (b k : ℕ) → k ≤ length qs → last_in n (qs ++ p ∷ []) b k ≡ last_in n qs b k
last_push n qs p b zero h = refl
last_push n qs p b (suc k) h =
    let e : at (qs ++ p ∷ []) k ≡ at qs k = get_or_append_left qs (p ∷ []) (pair 0 0) k (omega arith) in
    rw (e, last_push n qs p b k (omega arith))

-- its number is the bucket's head
pub headed_push : (n : ℕ) (heads : List ℕ) (qs : List Pair) (p : Pair) (number : ℕ) → n ≡ length heads → bucket_index n p < n → number ≡ length qs + 1 → Headed heads n qs → Headed (set heads (bucket_index n p) number) n (qs ++ p ∷ [])
headed_push n heads qs p number len w is h b l =
    let k = length_push qs p ∙ add-one (length qs) in
    let last : at (qs ++ p ∷ []) (length qs) ≡ p = get_or_push qs p (pair 0 0) (length qs) refl in
    let before = last_push n qs p b (length qs) (omega arith) in
    rw (k, last, before)
    (⊎_elim (λ (e : b ≡ bucket_index n p).
    let c = cond-true (eqb (bucket_index n p) b) (suc (length qs)) (last_in n qs b (length qs)) (eq-eqb _ _ (sym e)) in
    rw (c, e) (get_or-set_same heads (bucket_index n p) number 0 (omega (arith, len, w)) ∙ (is ∙ add-one (length qs))))
    (λ e.
    let c = cond-false (eqb (bucket_index n p) b) (suc (length qs)) (last_in n qs b (length qs)) (ne_eqb _ _ (λ d. e (sym d))) in
    rw c (get_or-set_other heads (bucket_index n p) b number 0 e ∙ h b l))
    (cases_eq b (bucket_index n p)))

-- given by what stands in the table's links before and after
pub linked_push : (n : ℕ) (table more : List Slot) (qs : List Pair) (p : Pair) → ((i : ℕ) → i < length qs → next_at more i ≡ next_at table i) → next_at more (length qs) ≡ last_in n qs (bucket_index n p) (length qs) → Linked table n qs → Linked more n (qs ++ p ∷ [])
linked_push n table more qs p old new h i l =
    let k = length_push qs p in
    ⊎_elim (λ m.
    let e : at (qs ++ p ∷ []) i ≡ at qs i = get_or_append_left qs (p ∷ []) (pair 0 0) i m in
    rw (e, last_push n qs p (bucket_index n (at qs i)) i (omega arith)) (old i m ∙ h i m))
    (λ m.
    let f : i ≡ length qs = omega (arith, k, l, m) in
    let last : at (qs ++ p ∷ []) (length qs) ≡ p = get_or_push qs p (pair 0 0) (length qs) refl in
    rw (f, last, last_push n qs p (bucket_index n p) (length qs) (omega arith)) new)
    (cases_lt i (length qs))

-- How long a chain is.

module _ (n : ℕ) (qs : List Pair) (b : ℕ) where
  abbrev belonging : Pair → Bool
  belonging q = eqb (bucket_index n q) b

  abbrev members : ℕ → ℕ
  members k = count_by belonging (take k qs)

  -- none comes after the last
  members_last : (k : ℕ) → k ≤ length qs → members k ≡ members (last_in n qs b k)
  members_last zero l = refl
  members_last (suc k) l =
      ⊎_elim (λ e. rw (cond-true (belonging (at qs k)) (suc k) (last_in n qs b k) e))
      (λ e. rw (← add-one k) (count_by_more_no belonging qs k (pair 0 0) (omega arith) e)
      ∙ (members_last k (omega arith) ∙ ap members (sym (cond-false (belonging (at qs k)) (suc k) (last_in n qs b k) e))))
      (cases_Bool (belonging (at qs k)))

  members_here : (number : ℕ) → 0 < number → number ≤ length qs → bucket_index n (at qs (number - 1)) ≡ b → members number ≡ members (number - 1) + 1
  members_here number h l e =
      let d : number ≡ number - 1 + 1 = omega arith in
      ap members d ∙ count_by_more_yes belonging qs (number - 1) (pair 0 0) (omega arith) (eq-eqb _ _ e)

  members_all : members (length qs) ≡ chain_length n qs b
  members_all = ap (count_by belonging) (take_all (length qs) qs (omega arith))

  -- A walk along the bucket's chain has come to a number, and counted those from there on.
  pub record Counted (number counted : ℕ) : Type 0 where
    pub low : number ≤ length qs
    pub belongs : 0 < number → bucket_index n (at qs (number - 1)) ≡ b
    pub rest : counted + members number ≡ chain_length n qs b

  pub counted_first : (number : ℕ) → number ≡ last_in n qs b (length qs) → Counted number 0
  counted_first number e =
      record {
        low = omega (arith, e, last_le n qs b (length qs));
        belongs = λ h. rw e (last_is n qs b (length qs) (rw (← e) h));
        rest = omega (arith, members_all, members_last (length qs) (omega arith), ap members e);
      }

  pub counted_next : (number counted next : ℕ) → Counted number counted → 0 < number → next ≡ last_in n qs (bucket_index n (at qs (number - 1))) (number - 1) → Counted next (counted + 1)
  counted_next number counted next c h f =
      let e : next ≡ last_in n qs b (number - 1) = f ∙ ap (λ m. last_in n qs m (number - 1)) (c.belongs h) in
      record {
        low = omega (arith, e, last_le n qs b (number - 1), c.low);
        belongs = λ k. rw e (last_is n qs b (number - 1) (rw (← e) k));
        rest = omega (arith, c.rest, members_here number h c.low (c.belongs h), members_last (number - 1) (omega (arith, c.low)), ap members e);
      }

  pub counted_below : (number counted : ℕ) → Counted number counted → 0 < number → counted < length qs
  counted_below number counted c h = omega (arith, c.rest, members_here number h c.low (c.belongs h), count_by-le-length belonging qs)
