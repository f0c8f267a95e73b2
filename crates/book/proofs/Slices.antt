-- The passages of words: their group numbers and their repeats. Assumes nothing.
use Rattle.std.proofs.Common.{◌≡◌, ℕ, ◌<◌, ◌≤◌, ◌↔◌, List, [], ◌∷◌, length, sym, refl, ap, ◌∙◌}
use Rattle.book.specs.Words.{Word}
use Rattle.registers.specs.declared.pairs.Pair.{Pair}
use Rattle.registers.specs.Pairs.{pair}
use Rattle.book.specs.Passages.{Row, count, last, postfix}
use Rattle.book.specs.Tops.{made, Formed, passage_at, words_at}
use Rattle.book.specs.Groups.{number_of, chain, items, group, groups, group_at, HeldAll, hold, entered, reached, with_word, registered, Held}
use Rattle.book.specs.Repeats.{Listing, SamePassage, repeats}
use Rattle.book.proofs.Numbered.{holds_hold}
use Rattle.book.proofs.Notations.{words_of_passage, same_notation, count_last}
use Rattle.book.proofs.Exactness.{group_exact}
use Rattle.book.proofs.Entering.{number_grown, grows_entered, grows_word, groups_grown, held_last, held_registered}
use Rattle.book.proofs.Listings.{listing_of_repeats}
use Rattle.book.proofs.OneListing.{one_listing}

pub same_words : (ws : List Word) (p q : ℕ) → Formed ws → p < length ws → q < length ws → (words_at ws p ≡ words_at ws q) ↔ (passage_at ws p ≡ passage_at ws q)
same_words ws p q f hp hq =
    let a = words_of_passage ws p f hp in
    let b = words_of_passage ws q f hq in
    (λ e. same_notation (passage_at ws p) (passage_at ws q) (sym a ∙ e ∙ b), λ e. a ∙ ap postfix e ∙ sym b)

-- two passages have one number exactly where they are the same words
pub numbers_tell_words : (qs : List Pair) (ws : List Word) (p q : ℕ) → Formed ws → p < length ws → q < length ws → (group (registered qs ws) (passage_at ws p) ≡ group (registered qs ws) (passage_at ws q)) ↔ (words_at ws p ≡ words_at ws q)
numbers_tell_words qs ws p q f hp hq =
    let x = group_exact (registered qs ws) (passage_at ws p) (passage_at ws q) (held_registered qs ws p f hp) (held_registered qs ws q f hq) in
    let y = same_words ws p q f hp hq in
    (λ e. y.1 (x.0 e), λ e. x.1 (y.0 e))

-- the number that is reached item by item is the chain of the list that is left
pub reached_is_chain : (qs : List Pair) (n : ℕ) (is : List ℕ) → reached qs n is ≡ chain (entered qs n is) n is
reached_is_chain qs n [] = refl
reached_is_chain qs n (i ∷ is) =
    let rs : List Pair = hold qs (pair n i) in
    let m : ℕ = number_of rs (pair n i) in
    let e : number_of (entered rs m is) (pair n i) ≡ m = number_grown rs (entered rs m is) (pair n i) (grows_entered rs m is) (holds_hold qs (pair n i)) in
    rw e (reached_is_chain rs m is)

pub reached_is_group : (qs : List Pair) (row : Row) (w : Word) → w.rank ≤ count row → HeldAll qs row → reached qs 0 (items w (groups qs (last w.rank row))) ≡ group (with_word qs row w) (made row w)
reached_is_group qs row w h k =
    let ts : Row = last w.rank row in
    rw (count_last w.rank row h, groups_grown qs (with_word qs row w) ts (grows_word qs row w) (held_last qs w.rank row k)) (reached_is_chain qs 0 (items w (groups qs ts)))

-- the group numbers give a listing, over any pairs that hold every passage
pub repeats_where_held : (qs : List Pair) (ws : List Word) → ((p : ℕ) → p < length ws → Held qs (passage_at ws p)) → Listing (SamePassage ws) (length ws) (repeats (group_at qs ws) (length ws))
repeats_where_held qs ws held = listing_of_repeats (group_at qs ws) (length ws) (SamePassage ws) (λ p q hp hq. group_exact qs (passage_at ws p) (passage_at ws q) (held p hp) (held q hq))

pub repeats_listed : (qs : List Pair) (ws : List Word) → Formed ws → Listing (SamePassage ws) (length ws) (repeats (group_at (registered qs ws) ws) (length ws))
repeats_listed qs ws f = repeats_where_held (registered qs ws) ws (λ p h. held_registered qs ws p f h)

-- words have one listing of their repeats
pub one_listing_of_words : (ws : List Word) (ls ms : List (List ℕ)) → Listing (SamePassage ws) (length ws) ls → Listing (SamePassage ws) (length ws) ms → ls ≡ ms
one_listing_of_words ws = one_listing (SamePassage ws) (length ws) (λ p q e. sym e) (λ p q r e f. e ∙ f)
