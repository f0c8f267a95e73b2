-- Repeats, and the listing of all repeats. Assumes nothing.
use Rattle.std.specs.Prelude.{◌≡◌, ℕ, ◌<◌, ◌≤◌, cond, ◌⊎◌, ◌↔◌, List, [], ◌∷◌, map, length, filter, ◌==◌, ◌≢◌, nat_eq, slice_index}
use Rattle.std.specs.List.{flat_map, AllByRecursion, range_with_len}
use Rattle.book.specs.Words.{Word}
use Rattle.book.specs.Tops.{passage_at}

abbrev pub ◌among◌ : {X : Type 0} → X → List X → Type 0
x among [] = ⊥
x among (y ∷ ys) = (x ≡ y) ⊎ (x among ys)

infix 40 ◌among◌
abbrev pub Rising : List ℕ → Type 0
Rising [] = Unit {0}
Rising (x ∷ xs) = AllByRecursion (λ y. x < y) xs × Rising xs

abbrev pub first : List ℕ → ℕ
first es = slice_index es 0

-- Positions whose passages are equal.
abbrev pub SamePassage : List Word → ℕ → ℕ → Type 0
SamePassage ws p q = passage_at ws p ≡ passage_at ws q

-- The ends of a repeat among n positions: two or more, rising, exactly the positions that are the same as the first end.
pub record Repeat (Same : ℕ → ℕ → Type 0) (n : ℕ) (es : List ℕ) : Type 0 where
  pub two : 2 ≤ length es
  pub rising : Rising es
  pub exactly : (q : ℕ) → (q among es) ↔ ((q < n) × Same q (first es))

-- A listing: each listed one is a repeat, first ends rise, and any two different positions that are the same lie in one that is listed.
pub record Listing (Same : ℕ → ℕ → Type 0) (n : ℕ) (listed : List (List ℕ)) : Type 0 where
  pub each : AllByRecursion (Repeat Same n) listed
  pub ordered : Rising (map first listed)
  pub complete : (p q : ℕ) → p < n → q < n → (p ≢ q) → Same p q → (es : List ℕ) × (es among listed) × (p among es) × (q among es)

-- The listing by numbers of the positions, each of which tells what its position is the same as.

-- the positions below n that have the number g
abbrev pub ends : (ℕ → ℕ) → ℕ → ℕ → List ℕ
ends number n g = filter (λ q. nat_eq (number q) g) (range_with_len 0 n)

-- the ends, if they are two or more and p is the first
abbrev pub listed_at : ℕ → List ℕ → List (List ℕ)
listed_at p [] = []
listed_at p (q ∷ []) = []
listed_at p (q ∷ r ∷ es) = cond (p == q) ((q ∷ r ∷ es) ∷ []) []

abbrev pub repeats : (ℕ → ℕ) → ℕ → List (List ℕ)
repeats number n = flat_map (λ p. listed_at p (ends number n (number p))) (range_with_len 0 n)
