-- How many top passages words leave, and how many pairs they add. Assumes nothing.
use Rattle.std.proofs.Common.{◌≡◌, ℕ, zero, suc, ◌+◌, ◌*◌, ◌≤◌, List, [], ◌∷◌, length, refl, arith}
use Rattle.std.proofs.lemmas.List.{length-append}
use Rattle.book.specs.Words.{Word, ranks, spelled}
use Rattle.registers.specs.declared.pairs.Pair.{Pair}
use Rattle.registers.specs.Pairs.{pair, Apart}
use Rattle.registers.specs.Holding.{holding}
use Rattle.book.specs.Passages.{Row, none, ◌▹◌, count, last, without_last}
use Rattle.book.specs.Tops.{push, reading, tops, FormedOn, Formed}
use Rattle.book.specs.Groups.{number_of, items, groups, hold, entered, reached, entered_in, reached_in, with_word, registering, registered}
use Rattle.book.proofs.Numbered.{length_hold, apart_hold, hold_in_room}
use Rattle.book.proofs.Notations.{count_last}

-- a word enters at most as many pairs as it has items
pub length_entered : (qs : List Pair) (k : ℕ) (is : List ℕ) → length (entered qs k is) ≤ length qs + length is
length_entered qs k [] = omega arith
length_entered qs k (i ∷ is) =
    let more = length_entered (hold qs (pair k i)) (number_of (hold qs (pair k i)) (pair k i)) is in
    omega (arith, more, length_hold qs (pair k i))

apart_entered : (qs : List Pair) (k : ℕ) (is : List ℕ) → Apart qs → Apart (entered qs k is)
apart_entered qs k [] n = n
apart_entered qs k (i ∷ is) n = apart_entered (hold qs (pair k i)) (number_of (hold qs (pair k i)) (pair k i)) is (apart_hold qs (pair k i) n)

-- a register with a place for each item leaves the same list, and reaches the same number
pub entered_in_room : (room : ℕ) (qs : List Pair) (k : ℕ) (is : List ℕ) → length qs + length is ≤ room → (entered_in room qs k is ≡ entered qs k is) × (reached_in room qs k is ≡ reached qs k is)
entered_in_room room qs k [] h = (refl, refl)
entered_in_room room qs k (i ∷ is) h =
    let first : holding room qs (pair k i) ≡ hold qs (pair k i) = hold_in_room room qs (pair k i) (omega arith) in
    let rest = entered_in_room room (hold qs (pair k i)) (number_of (hold qs (pair k i)) (pair k i)) is (omega (arith, length_hold qs (pair k i))) in
    (rw first rest.0, rw first rest.1)

count_without_last : (n : ℕ) (row : Row) → n ≤ count row → count (without_last n row) + n ≡ count row
count_without_last zero row h = omega arith
count_without_last (suc n) none h = omega arith
count_without_last (suc n) (row ▹ t) h = omega (arith, count_without_last n row (omega arith))

count_reading : (row : Row) (ws : List Word) → FormedOn row ws → count (reading row ws) + ranks ws ≡ count row + length ws
count_reading row [] f = refl
count_reading row (w ∷ ws) f = omega (arith, count_reading (push row w) ws f.1, count_without_last w.rank row f.0)

-- Each passage but the top ones is a child of one.
pub count_tops : (ws : List Word) → Formed ws → count (tops ws) + ranks ws ≡ length ws
count_tops ws f = omega (arith, count_reading none ws f)

length_groups : (qs : List Pair) (ts : Row) → length (groups qs ts) ≡ count ts
length_groups qs none = refl
length_groups qs (ts ▹ t) = simp length-append (omega (arith, length_groups qs ts))

length_word : (qs : List Pair) (row : Row) (w : Word) → w.rank ≤ count row → length (with_word qs row w) ≤ length qs + (2 + length w.spelling + w.rank)
length_word qs row w h =
    let ts : Row = last w.rank row in
    omega (arith, length_entered qs 0 (items w (groups qs ts)), length-append w.spelling (groups qs ts), length_groups qs ts, count_last w.rank row h)

length_registering : (qs : List Pair) (row : Row) (ws : List Word) → FormedOn row ws → length (registering qs row ws) ≤ length qs + (2 * length ws + spelled ws + ranks ws)
length_registering qs row [] f = omega arith
length_registering qs row (w ∷ ws) f = omega (arith, length_registering (with_word qs row w) (push row w) ws f.1, length_word qs row w f.0)

pub length_registered : (qs : List Pair) (ws : List Word) → Formed ws → length (registered qs ws) + count (tops ws) ≤ length qs + 3 * length ws + spelled ws
length_registered qs ws f = omega (arith, length_registering qs none ws f, count_tops ws f)

apart_registering : (qs : List Pair) (row : Row) (ws : List Word) → Apart qs → Apart (registering qs row ws)
apart_registering qs row [] n = n
apart_registering qs row (w ∷ ws) n = apart_registering (with_word qs row w) (push row w) ws (apart_entered qs 0 (items w (groups qs (last w.rank row))) n)

pub apart_registered : (qs : List Pair) (ws : List Word) → Apart qs → Apart (registered qs ws)
apart_registered qs ws n = apart_registering qs none ws n
