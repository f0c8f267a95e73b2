-- Rows as lists, as code holds them. Assumes nothing.
use Rattle.std.proofs.Common.{◌≡◌, ℕ, zero, suc, ◌+◌, ◌-◌, ◌<◌, ◌≤◌, List, [], ◌∷◌, ◌++◌, map, length, get_or, take, drop, sym, refl, ap, ◌∙◌, arith}
use Rattle.std.proofs.lemmas.List.{length_push, map_push, take-append-le, drop-append-le, take_all, drop_all, take-map, drop-map, length-take}
use Rattle.book.specs.Words.{Word}
use Rattle.registers.specs.declared.pairs.Pair.{Pair}
use Rattle.book.specs.Passages.{Passage, Row, none, ◌▹◌, count, last, without_last, size, sizes}
use Rattle.book.specs.Tops.{made, push, reading, tops, top, passage_at, start_at}
use Rattle.book.specs.Groups.{group, groups}
use Rattle.book.proofs.Notations.{standing}

abbrev pub in_order : Row → List Passage
in_order none = []
in_order (row ▹ t) = in_order row ++ t ∷ []

pub length_in_order : (row : Row) → length (in_order row) ≡ count row
length_in_order none = refl
length_in_order (row ▹ t) = omega (arith, length_push (in_order row) t, length_in_order row)

pub groups_in_order : (qs : List Pair) (row : Row) → groups qs row ≡ map (group qs) (in_order row)
groups_in_order qs none = refl
groups_in_order qs (row ▹ t) = rw (groups_in_order qs row) (sym (map_push (group qs) (in_order row) t))

pub last_in_order : (n : ℕ) (row : Row) → n ≤ count row → in_order (last n row) ≡ drop (count row - n) (in_order row)
last_in_order zero row h = sym (drop_all (count row - 0) (in_order row) (omega (arith, length_in_order row)))
last_in_order (suc n) none h = absurd (omega arith)
last_in_order (suc n) (row ▹ t) h =
    let less : suc (count row) - suc n ≡ count row - n = omega arith in
    let fits : count row - n ≤ length (in_order row) = omega (arith, length_in_order row) in
    rw (last_in_order n row (omega arith), less) (sym (drop-append-le (count row - n) (in_order row) (t ∷ []) fits))

pub without_last_in_order : (n : ℕ) (row : Row) → n ≤ count row → in_order (without_last n row) ≡ take (count row - n) (in_order row)
without_last_in_order zero row h = sym (take_all (count row - 0) (in_order row) (omega (arith, length_in_order row)))
without_last_in_order (suc n) none h = absurd (omega arith)
without_last_in_order (suc n) (row ▹ t) h =
    let less : suc (count row) - suc n ≡ count row - n = omega arith in
    let fits : count row - n ≤ length (in_order row) = omega (arith, length_in_order row) in
    rw (without_last_in_order n row (omega arith), less) (sym (take-append-le (count row - n) (in_order row) (t ∷ []) fits))

-- The numbers of a word's children, in the list of the tops' numbers.
pub groups_last : (qs : List Pair) (n : ℕ) (row : Row) → n ≤ count row → groups qs (last n row) ≡ drop (count row - n) (groups qs row)
groups_last qs n row h = simp groups_in_order (ap (map (group qs)) (last_in_order n row h) ∙ sym (drop-map (group qs) (count row - n) (in_order row)))

groups_without_last : (qs : List Pair) (n : ℕ) (row : Row) → n ≤ count row → groups qs (without_last n row) ≡ take (count row - n) (groups qs row)
groups_without_last qs n row h = groups_in_order qs (without_last n row) ∙ ap (map (group qs)) (without_last_in_order n row h) ∙ sym (take-map (group qs) (count row - n) (in_order row)) ∙ ap (take (count row - n)) (sym (groups_in_order qs row))

pub groups_push : (qs : List Pair) (row : Row) (w : Word) → w.rank ≤ count row → groups qs (push row w) ≡ take (count row - w.rank) (groups qs row) ++ group qs (made row w) ∷ []
groups_push qs row w h = ap (λ l. l ++ group qs (made row w) ∷ []) (groups_without_last qs w.rank row h)

-- every passage of the words, in the order of their ends
abbrev pub passages : Row → List Word → List Passage
passages row [] = []
passages row (w ∷ ws) = made row w ∷ passages (push row w) ws

pub get_or_passages : (row : Row) (ws : List Word) (p : ℕ) (d : Passage) → p < length ws → get_or (passages row ws) p d ≡ top (reading row (take (suc p) ws))
get_or_passages row [] p d h = absurd (omega arith)
get_or_passages row (w ∷ ws) zero d h = refl
get_or_passages row (w ∷ ws) (suc p) d h = get_or_passages (push row w) ws p d (omega arith)

pub passages_push : (row : Row) (ws : List Word) (w : Word) → passages row (ws ++ w ∷ []) ≡ passages row ws ++ made (reading row ws) w ∷ []
passages_push row [] w = refl
passages_push row (v ∷ ws) w = ap (λ l. made row v ∷ l) (passages_push (push row v) ws w)

-- Where each passage of a row starts.
abbrev pub starts : Row → List ℕ
starts none = []
starts (row ▹ t) = starts row ++ sizes row ∷ []

sizes_split : (n : ℕ) (row : Row) → sizes (without_last n row) + sizes (last n row) ≡ sizes row
sizes_split zero row = omega arith
sizes_split (suc n) none = refl
sizes_split (suc n) (row ▹ t) = omega (arith, sizes_split n row)

pub sizes_push : (row : Row) (w : Word) → sizes (push row w) ≡ suc (sizes row)
sizes_push row w = omega (arith, sizes_split w.rank row)

pub sizes_reading : (row : Row) (ws : List Word) → sizes (reading row ws) ≡ sizes row + length ws
sizes_reading row [] = omega arith
sizes_reading row (w ∷ ws) = omega (arith, sizes_reading (push row w) ws, sizes_push row w)

-- The first child's start is the word's; a word with no child starts at itself.
pub start_of_made : (row : Row) (w : Word) → suc (sizes row) - size (made row w) ≡ sizes (without_last w.rank row)
start_of_made row w = omega (arith, sizes_split w.rank row)

pub length_starts : (row : Row) → length (starts row) ≡ count row
length_starts none = refl
length_starts (row ▹ t) = omega (arith, length_push (starts row) (sizes row), length_starts row)

-- a passage's start and its size lead to its end
size_top : (row : Row) → 0 < count row → size (top row) ≤ sizes row
size_top none h = absurd (omega arith)
size_top (row ▹ t) h = omega arith

pub start_and_size : (ws : List Word) (p : ℕ) → p < length ws → start_at ws p + size (passage_at ws p) ≡ suc p
start_and_size ws p h =
    let us : List Word = take (suc p) ws in
    let long : length us ≡ suc p = length-take (suc p) ws ∙ omega arith in
    let fits = size_top (tops us) (standing none us (omega arith)) in
    omega (arith, fits, sizes_reading none us)
