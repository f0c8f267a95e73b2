-- What a list of pairs holds after words were entered. Assumes nothing.
use Rattle.std.proofs.Common.{◌≡◌, ℕ, zero, suc, ◌<◌, ◌≤◌, true, List, [], ◌∷◌, ◌++◌, length, take, sym, ap, ◌∙◌, arith}
use Rattle.std.proofs.lemmas.List.{append_assoc, append-nil}
use Rattle.book.specs.Words.{Word}
use Rattle.registers.specs.declared.pairs.Pair.{Pair}
use Rattle.registers.specs.Pairs.{pair, holds}
use Rattle.book.specs.Passages.{Passage, Row, none, ◌▹◌, count, last, without_last}
use Rattle.book.specs.Tops.{made, push, reading, FormedOn, Formed, top, passage_at}
use Rattle.book.specs.Groups.{number_of, Links, items, groups, Held, HeldAll, hold, entered, with_word, registering, registered}
use Rattle.book.proofs.Numbered.{number_stands, holds_hold, Grows, grows_hold}
use Rattle.book.proofs.Notations.{count_last}
use Rattle.book.proofs.Exactness.{groups_stand, held_stands, held_all_stands}
use Rattle.registers.proofs.Listed.{holds_append}

pub grows_trans : (qs rs more : List Pair) → Grows qs rs → Grows rs more → Grows qs more
grows_trans qs rs more a b = (a.0 ++ b.0, b.1 ∙ ap (λ l. l ++ b.0) a.1 ∙ append_assoc qs a.0 b.0)

pub grows_entered : (qs : List Pair) (n : ℕ) (is : List ℕ) → Grows qs (entered qs n is)
grows_entered qs n [] = ([], sym (append-nil qs))
grows_entered qs n (i ∷ is) = grows_trans qs (hold qs (pair n i)) _ (grows_hold qs (pair n i)) (grows_entered (hold qs (pair n i)) (number_of (hold qs (pair n i)) (pair n i)) is)

-- A list that grew has what it had.
pub number_grown : (qs rs : List Pair) (p : Pair) → Grows qs rs → holds qs p ≡ true → number_of rs p ≡ number_of qs p
number_grown qs rs p g h = rw g.1 (number_stands qs g.0 p h)

pub holds_grown : (qs rs : List Pair) (p : Pair) → Grows qs rs → holds qs p ≡ true → holds rs p ≡ true
holds_grown qs rs p g h = rw g.1 (holds_append qs g.0 p h)

pub groups_grown : (qs rs : List Pair) (ts : Row) → Grows qs rs → HeldAll qs ts → groups rs ts ≡ groups qs ts
groups_grown qs rs ts g h = rw g.1 (groups_stand qs g.0 ts h)

pub held_grown : (qs rs : List Pair) (t : Passage) → Grows qs rs → Held qs t → Held rs t
held_grown qs rs t g h = rw g.1 (held_stands qs g.0 t h)

pub held_all_grown : (qs rs : List Pair) (ts : Row) → Grows qs rs → HeldAll qs ts → HeldAll rs ts
held_all_grown qs rs ts g h = rw g.1 (held_all_stands qs g.0 ts h)

links_entered : (qs : List Pair) (n : ℕ) (is : List ℕ) → Links (entered qs n is) n is
links_entered qs n [] = tt
links_entered qs n (i ∷ is) =
    let rs : List Pair = hold qs (pair n i) in
    let m : ℕ = number_of rs (pair n i) in
    let e : number_of (entered rs m is) (pair n i) ≡ m = number_grown rs (entered rs m is) (pair n i) (grows_entered rs m is) (holds_hold qs (pair n i)) in
    rw e (holds_grown rs (entered rs m is) (pair n i) (grows_entered rs m is) (holds_hold qs (pair n i)), links_entered rs m is)

pub held_last : (qs : List Pair) (n : ℕ) (row : Row) → HeldAll qs row → HeldAll qs (last n row)
held_last qs zero row h = tt
held_last qs (suc n) none h = tt
held_last qs (suc n) (row ▹ t) h = (held_last qs n row h.0, h.1)

held_without_last : (qs : List Pair) (n : ℕ) (row : Row) → HeldAll qs row → HeldAll qs (without_last n row)
held_without_last qs zero row h = h
held_without_last qs (suc n) none h = tt
held_without_last qs (suc n) (row ▹ t) h = held_without_last qs n row h.0

pub grows_word : (qs : List Pair) (row : Row) (w : Word) → Grows qs (with_word qs row w)
grows_word qs row w = grows_entered qs 0 (items w (groups qs (last w.rank row)))

pub held_made : (qs : List Pair) (row : Row) (w : Word) → w.rank ≤ count row → HeldAll qs row → Held (with_word qs row w) (made row w)
held_made qs row w h k =
    let ts : Row = last w.rank row in
    let g = grows_word qs row w in
    let below : HeldAll qs ts = held_last qs w.rank row k in
    (rw (count_last w.rank row h, groups_grown qs (with_word qs row w) ts g below) (links_entered qs 0 (items w (groups qs ts))), held_all_grown qs (with_word qs row w) ts g below)

pub held_push : (qs : List Pair) (row : Row) (w : Word) → w.rank ≤ count row → HeldAll qs row → HeldAll (with_word qs row w) (push row w)
held_push qs row w h k = (held_all_grown qs (with_word qs row w) _ (grows_word qs row w) (held_without_last qs w.rank row k), held_made qs row w h k)

pub grows_registering : (qs : List Pair) (row : Row) (ws : List Word) → Grows qs (registering qs row ws)
grows_registering qs row [] = ([], sym (append-nil qs))
grows_registering qs row (w ∷ ws) = grows_trans qs (with_word qs row w) _ (grows_word qs row w) (grows_registering (with_word qs row w) (push row w) ws)

held_registering : (qs : List Pair) (row : Row) (ws : List Word) (p : ℕ) → HeldAll qs row → FormedOn row ws → p < length ws → Held (registering qs row ws) (top (reading row (take (suc p) ws)))
held_registering qs row [] p k f h = absurd (omega arith)
held_registering qs row (w ∷ ws) zero k f h = held_grown (with_word qs row w) _ (made row w) (grows_registering (with_word qs row w) (push row w) ws) (held_made qs row w f.0 k)
held_registering qs row (w ∷ ws) (suc p) k f h = held_registering (with_word qs row w) (push row w) ws p (held_push qs row w f.0 k) f.1 (omega arith)

-- every passage of the words is held
pub held_registered : (qs : List Pair) (ws : List Word) (p : ℕ) → Formed ws → p < length ws → Held (registered qs ws) (passage_at ws p)
held_registered qs ws p f h = held_registering qs none ws p tt f h
