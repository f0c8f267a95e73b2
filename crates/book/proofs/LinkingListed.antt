-- A walk along the links passes the ends of a repeat, each of which is written. Assumes nothing.
use Rattle.std.proofs.Common.{◌≡◌, ℕ, zero, suc, ◌+◌, ◌-◌, ◌<◌, ◌≤◌, Bool, true, false, cond, eqb, ltb, List, [], ◌∷◌, ◌++◌, length, get_or, drop, set, filter, Some, None, Option, sym, refl, ap, ◌∙◌, ⊎_elim, arith, length-append}
use Rattle.std.specs.List.{range_with_len}
use Rattle.std.proofs.lemmas.List.{get_or_past, drop_more, set_at, append_assoc, length_push}
use Rattle.std.proofs.lemmas.Bool.{cond_both, cond-true, cond-false, lt-ltb, le-ltb, ltb-true}
use Rattle.book.specs.declared.entries.Entry.{Entry}
use Rattle.book.specs.Repeats.{first}
use Rattle.book.specs.Entries.{entry}
use Rattle.book.specs.Linking.{number_at, ends_from, ends_with, Linked, OpensGroup, next_along, walk, along, listing_from}
use Rattle.book.proofs.LinkingEnds.{from_here, cases_from}
use Rattle.book.proofs.LinkingFirsts.{opened_list}

-- what the test passes, among m positions from a on
abbrev kept : (ℕ → Bool) → ℕ → ℕ → List ℕ
kept t a m = filter t (range_with_len a m)

length_kept : (t : ℕ → Bool) (a m : ℕ) → length (kept t a m) ≤ m
length_kept t a zero = omega arith
length_kept t a (suc m) =
    let h = length_kept t (a + 1) m in
    cond_both (t a) (a ∷ filter t (range_with_len (a + 1) m)) (filter t (range_with_len (a + 1) m)) (λ x. length x ≤ suc m) (λ _. omega arith) (λ _. omega arith)

pub ends_few : (es : List Entry) (p : ℕ) → length (ends_with es p) ≤ length es
ends_few es p = length_kept (λ q. eqb (number_at es q) (number_at es p)) 0 (length es)

-- what is told of the repeat whose first end is p
pub told_from : (es read : List Entry) → read ≡ es → (p size count : ℕ) → size ≡ p + 1 - (get_or read p (entry 0 0)).start → count ≡ length (ends_with es p) → record { group = (get_or read p (entry 0 0)).group; size = size; count = count } ≡ listing_from es p
unfolding listing_from
told_from es read e p size count s c = rw (s, c, e)

-- The links are so many that a walk along them comes to its end.
Enough : ℕ → List ℕ → Option ℕ → Type 0
Enough n later None = Unit {0}
Enough n later (Some p) = length later ≤ p + n

no_link : (later : List ℕ) (p : ℕ) → length later ≤ p → next_along later p ≡ None
no_link later p h = cond-false _ _ _ (le-ltb p (get_or later p 0) (omega (arith, get_or_past later p 0 h)))

walk_none : (n : ℕ) (later : List ℕ) → walk n later None ≡ []
walk_none zero later = refl
walk_none (suc n) later = refl

enough_next : (n : ℕ) (later : List ℕ) (p : ℕ) → length later ≤ p + suc n → Enough n later (next_along later p)
unfolding Enough
enough_next n later p h = by (ltb p (get_or later p 0)) refl
  where
    by : (b : Bool) → ltb p (get_or later p 0) ≡ b → Enough n later (cond b (Some (get_or later p 0)) None)
    by true t = omega (arith, ltb-true _ _ t, h)
    by false t = tt

walk_enough : (n m : ℕ) (later : List ℕ) (at : Option ℕ) → Enough n later at → Enough m later at → walk n later at ≡ walk m later at
unfolding Enough
walk_enough n m later None a b = walk_none n later ∙ sym (walk_none m later)
walk_enough zero zero later (Some p) a b = refl
walk_enough zero (suc m) later (Some p) a b = ap (λ x. p ∷ x) (sym (ap (walk m later) (no_link later p (omega arith)) ∙ walk_none m later))
walk_enough (suc n) zero later (Some p) a b = ap (λ x. p ∷ x) (ap (walk n later) (no_link later p (omega arith)) ∙ walk_none n later)
walk_enough (suc n) (suc m) later (Some p) a b = ap (λ x. p ∷ x) (walk_enough n m later (next_along later p) (enough_next n later p a) (enough_next m later p b))

-- one step of the walk
pub walk_step : (n : ℕ) (later : List ℕ) (p : ℕ) → length later ≤ p + n → walk n later (Some p) ≡ p ∷ walk n later (next_along later p)
unfolding Enough
walk_step zero later p h = ap (λ x. p ∷ x) (sym (ap (walk zero later) (no_link later p (omega arith))))
walk_step (suc n) later p h =
    let next = enough_next n later p h in
    ap (λ x. p ∷ x) (walk_enough n (suc n) later (next_along later p) next (more (next_along later p) next))
  where
    more : (at : Option ℕ) → Enough n later at → Enough (suc n) later at
    more None a = tt
    more (Some q) a = omega arith

-- The links lead through the ends of a group, from its first on.
module _ (es : List Entry) (later : List ℕ) (linked : Linked es later) where
  abbrev number : ℕ → ℕ
  number = number_at es

  abbrev n : ℕ
  n = length es

  walk_by : (m p g : ℕ) → n ≤ p + m → p < n → number p ≡ g → walk m later (Some p) ≡ ends_from number p n g
  walk_by zero p g h l e = absurd (omega arith)
  walk_by (suc m) p g h l e =
      let link : get_or later p 0 ≡ first (ends_from number (p + 1) n g) = linked.each p l ∙ ap (λ x. first (ends_from number (p + 1) n x)) e in
      let tail : walk m later (next_along later p) ≡ ends_from number (p + 1) n g = ⊎_elim
      (λ a.
      let over : next_along later p ≡ None = cond-false _ _ _ (le-ltb p (get_or later p 0) (omega (arith, link, ap first a.0))) in
      ap (walk m later) over ∙ (walk_none m later ∙ sym a.0))
      (λ a.
      let q = a.0 in
      let f = a.1 in
      let to : get_or later p 0 ≡ q = link ∙ ap first f.list in
      let on : next_along later p ≡ Some q = cond-true _ _ _ (lt-ltb p (get_or later p 0) (omega (arith, to, f.low))) ∙ ap (λ x. Some x) to in
      let same : ends_from number (p + 1) n g ≡ ends_from number q n g = f.list ∙ sym (from_here number n q g f.below f.has) in
      ap (walk m later) on ∙ (walk_by m q g (omega (arith, f.low, h)) f.below f.has ∙ sym same))
      (cases_from number n (p + 1) g) in
      ap (λ x. p ∷ x) tail ∙ sym (from_here number n p g l e)

  pub along_ends : (p : ℕ) → OpensGroup es p → along later p ≡ ends_with es p
  along_ends p o =
      let same : ends_with es p ≡ ends_from number p n (number p) = opened_list number n p o.below o.opens ∙ sym (from_here number n p (number p) o.below refl) in
      walk_by (length later) p (number p) (omega (arith, linked.long)) o.below refl ∙ sym same

-- The first n places of a table have been written, and the rest is what goes into the next.
pub record Filling (all before rest : List ℕ) (n : ℕ) (table : List ℕ) : Type 0 where
  pub done : List ℕ
  pub whole : done ++ rest ≡ all
  pub count : length done ≡ n
  pub now_is : table ≡ done ++ drop n before

module _ (all before : List ℕ) where
  module _ (rest rest' : List ℕ) (n x : ℕ) (table : List ℕ) (next : rest ≡ x ∷ rest') (f : Filling all before rest n table) (room : length all ≤ length before) where
    pub filling_below : n < length before
    filling_below = omega (arith, room, ap length f.whole, length-append f.done rest, ap length next, f.count)

    pub filling_more : Filling all before rest' (n + 1) (set table n x)
    filling_more =
        let back = drop_more before n 0 filling_below in
        record {
          done = f.done ++ x ∷ [];
          whole = append_assoc f.done (x ∷ []) rest' ∙ (ap (λ r. f.done ++ r) (sym next) ∙ f.whole);
          count = omega (arith, length_push f.done x, f.count);
          now_is =
              ap (λ t. set t n x) (f.now_is ∙ ap (λ b. f.done ++ b) back)
              ∙ (set_at f.done (get_or before n 0) (drop (n + 1) before) x n f.count
              ∙ sym (append_assoc f.done (x ∷ []) (drop (n + 1) before)));
        }
