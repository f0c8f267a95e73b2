-- A pair's number in a list, and the list with a pair held. Assumes nothing.
use Rattle.std.proofs.Common.{◌≡◌, ℕ, suc, ◌+◌, ◌<◌, ◌≤◌, true, false, List, [], ◌∷◌, ◌++◌, length, Some, sym, refl, ap, ◌∙◌, ⊎_elim, arith}
use Rattle.std.proofs.lemmas.List.{append-nil, length_push}
use Rattle.std.proofs.lemmas.Bool.{cases_Bool}
use Rattle.registers.specs.declared.pairs.Pair.{Pair}
use Rattle.registers.specs.Pairs.{at, holds, place, number_in, Apart}
use Rattle.registers.specs.Holding.{holding}
use Rattle.registers.proofs.Listed.{at_place, place_old, holds_append, place_append, holds_push, apart_push, number_some, holding_old, holding_new}
use Rattle.book.specs.Groups.{or_zero, number_of, hold}

-- the number of a pair that is held is its place from 1
pub number_held : (qs : List Pair) (p : Pair) → holds qs p ≡ true → number_of qs p ≡ place qs p + 1
number_held qs p h = ap or_zero (number_some qs p (place qs p) h refl)

pub number_within : (qs : List Pair) (p : Pair) → holds qs p ≡ true → (0 < number_of qs p) × (number_of qs p ≤ length qs)
number_within qs p h = (omega (arith, number_held qs p h), omega (arith, number_held qs p h, place_old qs p h))

-- what a register answers for a pair that is held
pub number_answered : (qs : List Pair) (p : Pair) → holds qs p ≡ true → number_in qs p ≡ Some (number_of qs p)
number_answered qs p h = number_some qs p (place qs p) h refl ∙ ap Some (sym (number_held qs p h))

-- pairs with one number are the same pair
pub number_apart : (qs : List Pair) (p q : Pair) → holds qs p ≡ true → holds qs q ≡ true → number_of qs p ≡ number_of qs q → p ≡ q
number_apart qs p q h k e =
    let places : place qs p ≡ place qs q = omega (arith, number_held qs p h, number_held qs q k) in
    sym (at_place qs p h) ∙ ap (at qs) places ∙ at_place qs q k

-- appending pairs changes no number of a pair that is held
pub number_stands : (qs rs : List Pair) (p : Pair) → holds qs p ≡ true → number_of (qs ++ rs) p ≡ number_of qs p
number_stands qs rs p h = number_held (qs ++ rs) p (holds_append qs rs p h) ∙ (ap (λ n. n + 1) (place_append qs rs p h) ∙ sym (number_held qs p h))

-- The list with a pair held, by cases.

pub hold_old : (qs : List Pair) (p : Pair) → holds qs p ≡ true → hold qs p ≡ qs
hold_old qs p h = holding_old (suc (length qs)) qs p h

pub hold_new : (qs : List Pair) (p : Pair) → holds qs p ≡ false → hold qs p ≡ qs ++ p ∷ []
hold_new qs p h = holding_new (suc (length qs)) qs p h (omega arith)

-- a register with a place left holds the same
pub hold_in_room : (room : ℕ) (qs : List Pair) (p : Pair) → length qs < room → holding room qs p ≡ hold qs p
hold_in_room room qs p l =
    ⊎_elim (λ h. holding_old room qs p h ∙ sym (hold_old qs p h)) (λ h. holding_new room qs p h l ∙ sym (hold_new qs p h)) (cases_Bool (holds qs p))

pub holds_hold : (qs : List Pair) (p : Pair) → holds (hold qs p) p ≡ true
holds_hold qs p =
    ⊎_elim (λ h. rw (hold_old qs p h) h) (λ h. rw (hold_new qs p h) (holds_push qs p)) (cases_Bool (holds qs p))

pub length_hold : (qs : List Pair) (p : Pair) → length (hold qs p) ≤ length qs + 1
length_hold qs p =
    ⊎_elim (λ h. rw (hold_old qs p h) (omega arith)) (λ h. rw (hold_new qs p h) (omega (arith, length_push qs p))) (cases_Bool (holds qs p))

pub apart_hold : (qs : List Pair) (p : Pair) → Apart qs → Apart (hold qs p)
apart_hold qs p a =
    ⊎_elim (λ h. rw (hold_old qs p h) a) (λ h. rw (hold_new qs p h) (apart_push qs p a h)) (cases_Bool (holds qs p))

-- rs is qs with pairs appended
abbrev pub Grows : List Pair → List Pair → Type 0
Grows qs rs = (more : List Pair) × (rs ≡ qs ++ more)

pub grows_hold : (qs : List Pair) (p : Pair) → Grows qs (hold qs p)
grows_hold qs p =
    ⊎_elim (λ h. ([], hold_old qs p h ∙ sym (append-nil qs))) (λ h. (p ∷ [], hold_new qs p h)) (cases_Bool (holds qs p))
