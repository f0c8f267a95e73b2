-- Rows of items entered one after another, as loops do it. Assumes nothing.
use Rattle.std.proofs.Common.{◌≡◌, ℕ, ◌+◌, ◌<◌, ◌≤◌, List, [], ◌∷◌, ◌++◌, length, get_or, drop, Some, sym, refl, ap, ◌∙◌, arith}
use Rattle.std.proofs.lemmas.List.{at_drop_more, at_drop_all}
use Rattle.registers.specs.declared.pairs.Pair.{Pair}
use Rattle.registers.specs.Pairs.{pair, number_in}
use Rattle.registers.specs.Holding.{holding}
use Rattle.book.specs.Groups.{number_of, hold, entered, reached, Enters}
use Rattle.book.proofs.Numbered.{length_hold, hold_in_room, holds_hold, number_answered, number_within}
use Rattle.book.proofs.Counts.{length_entered}

-- Where a loop over the items is, from the number n₀ in the list qs₀ on, before the item at i: at the number n in the list qs.
pub record Along (qs₀ : List Pair) (room₀ n₀ : ℕ) (is : List ℕ) (qs : List Pair) (room n i : ℕ) : Type 0 where
  pub list : entered qs n (drop i is) ≡ entered qs₀ n₀ is
  pub number : reached qs n (drop i is) ≡ reached qs₀ n₀ is
  pub fits : length qs + length is ≤ room₀ + i
  pub same : room ≡ room₀

pub along_none : (qs : List Pair) (room n : ℕ) (is : List ℕ) → length qs + length is ≤ room → Along qs room n is qs room n 0
along_none qs room n is h = record { list = refl; number = refl; fits = omega arith; same = refl }

module _ {qs₀ : List Pair} {room₀ n₀ : ℕ} {is : List ℕ} {qs : List Pair} {room n i : ℕ} (a : Along qs₀ room₀ n₀ is qs room n i) where
  pub along_more : {rs : List Pair} {room' m x j : ℕ} → i < length is → x ≡ get_or is i 0 → j ≡ i + 1 → rs ≡ hold qs (pair n x) → m ≡ number_of (hold qs (pair n x)) (pair n x) → room' ≡ room → Along qs₀ room₀ n₀ is rs room' m j
  along_more {rs} {room'} {m} {x} {j} below item at grown next r =
      let g : rs ≡ hold qs (pair n (get_or is i 0)) = grown ∙ ap (λ k. hold qs (pair n k)) item in
      let e : m ≡ number_of (hold qs (pair n (get_or is i 0))) (pair n (get_or is i 0)) = next ∙ ap (λ k. number_of (hold qs (pair n k)) (pair n k)) item in
      let l : length rs ≤ length qs + 1 = rw g (length_hold qs (pair n (get_or is i 0))) in
      record {
        list = ap (λ k. entered rs m (drop k is)) at ∙ ap (λ ys. entered ys m (drop (i + 1) is)) g ∙ (ap (λ k. entered (hold qs (pair n (get_or is i 0))) k (drop (i + 1) is)) e ∙ (sym (at_drop_more (entered qs n) is i 0 below) ∙ a.list));
        number = ap (λ k. reached rs m (drop k is)) at ∙ ap (λ ys. reached ys m (drop (i + 1) is)) g ∙ (ap (λ k. reached (hold qs (pair n (get_or is i 0))) k (drop (i + 1) is)) e ∙ (sym (at_drop_more (reached qs n) is i 0 below) ∙ a.number));
        fits = omega (arith, l, at, a.fits);
        same = r ∙ a.same;
      }

  pub along_all : length is ≤ i → Enters qs₀ n₀ is qs n
  along_all all = record { list = sym (at_drop_all (entered qs n) is i all) ∙ a.list; number = sym (at_drop_all (reached qs n) is i all) ∙ a.number }

-- one row after another
pub enters_append : {qs rs more : List Pair} {n m k : ℕ} {is js : List ℕ} → Enters qs n is rs m → Enters rs m js more k → Enters qs n (is ++ js) more k
enters_append {is = []} a b = rw (sym a.list, sym a.number) b
enters_append {qs} {rs} {more} {n} {m} {k} {is = i ∷ is} a b =
    let rest = enters_append {qs = hold qs (pair n i)} {n = number_of (hold qs (pair n i)) (pair n i)} {is = is} (record { list = a.list; number = a.number }) b in
    record { list = rest.list; number = rest.number }

pub enters_one : {qs rs : List Pair} {n m i : ℕ} → rs ≡ hold qs (pair n i) → m ≡ number_of (hold qs (pair n i)) (pair n i) → Enters qs n (i ∷ []) rs m
enters_one l e = record { list = l; number = e }

-- a row from its first item on
pub enters_first : {qs rs more : List Pair} {n m k : ℕ} {is : List ℕ} → 1 ≤ length is → Enters qs n (get_or is 0 0 ∷ []) rs m → Enters rs m (drop 1 is) more k → Enters qs n is more k
enters_first {is = []} h a b = absurd (omega arith)
enters_first {is = i ∷ is} h a b = enters_append a b

-- how long the list can be then
pub enters_length : {qs rs : List Pair} {n m : ℕ} {is : List ℕ} → Enters qs n is rs m → length rs ≤ length qs + length is
enters_length {qs} {n = n} {is = is} a = rw a.list (length_entered qs n is)

pub numbered_in_room : (room : ℕ) (qs : List Pair) (p : Pair) → length qs < room → number_in (holding room qs p) p ≡ Some (number_of (hold qs p) p)
numbered_in_room room qs p h = ap (λ rs. number_in rs p) (hold_in_room room qs p h) ∙ number_answered (hold qs p) p (holds_hold qs p)

-- a number that is reached is that of a pair in the list then
reached_within : (qs : List Pair) (n : ℕ) (is : List ℕ) → n ≤ length qs → reached qs n is ≤ length (entered qs n is)
reached_within qs n [] h = h
reached_within qs n (i ∷ is) h = reached_within (hold qs (pair n i)) (number_of (hold qs (pair n i)) (pair n i)) is (number_within (hold qs (pair n i)) (pair n i) (holds_hold qs (pair n i))).1

pub enters_within : {qs rs : List Pair} {m : ℕ} {is : List ℕ} → Enters qs 0 is rs m → m ≤ length rs
enters_within {qs} {is = is} a = rw (a.list, a.number) (reached_within qs 0 is (omega arith))
