-- Words read back from their group numbers. Assumes nothing.
use Rattle.std.proofs.Common.{◌≡◌, ℕ, zero, suc, ◌≤◌, List, [], ◌∷◌, reverse, length, Some, refl, ap, ◌∙◌, arith}
use mathlib.Core.List.{reverse_aux}
use Rattle.std.proofs.lemmas.List.{length-append, take_at, drop_at, reverse-reverse, length-reverse}
use Rattle.registers.specs.declared.pairs.Pair.{Pair}
use Rattle.registers.specs.Pairs.{pair, pair_at}
use Rattle.registers.proofs.Listed.{pair_at_number}
use Rattle.book.specs.Groups.{number_of, chain, Links, items, group, groups, Held}
use Rattle.book.specs.Passages.{Row, none, ◌▹◌, over, count, node}
use Rattle.book.specs.Words.{word}
use Rattle.book.proofs.Numbered.{number_answered}
use Rattle.book.proofs.Exactness.{back, BackLinks, chain_back, links_back}
use Rattle.sheets.specs.Back.{items_back, all_items, word_in, children_in}
use Rattle.sheets.specs.SheetLaws.{ReadsBack}

-- a chain by its items from the last to the first is read back from its number
from_back : (qs : List Pair) (is : List ℕ) (most : ℕ) (read : List ℕ) → BackLinks qs is → length is ≤ most → items_back most qs (back qs is) read ≡ reverse_aux is read
from_back qs [] zero read l h = refl
from_back qs [] (suc most) read l h = refl
from_back qs (i ∷ is) zero read l h = absurd (omega arith)
from_back qs (i ∷ is) (suc most) read l h =
    let found : pair_at qs (number_of qs (pair (back qs is) i)) ≡ Some (pair (back qs is) i) = pair_at_number qs (pair (back qs is) i) (number_of qs (pair (back qs is) i)) (number_answered qs (pair (back qs is) i) l.0) in
    rw found (from_back qs is most (i ∷ read) l.1 (omega arith))

pub items_read : (qs : List Pair) (is : List ℕ) (most : ℕ) → Links qs 0 is → length is ≤ most → items_back most qs (chain qs 0 is) [] ≡ is
items_read qs is most l h =
    ap (λ n. items_back most qs n []) (chain_back qs is [])
    ∙ (from_back qs (reverse is) most [] (links_back qs is [] tt l) (omega (arith, length-reverse is)) ∙ reverse-reverse is)

length_groups : (qs : List Pair) (ts : Row) → length (groups qs ts) ≡ count ts
length_groups qs none = refl
length_groups qs (ts ▹ t) = omega (arith, length-append (groups qs ts) (group qs t ∷ []), length_groups qs ts)

module _ (qs : List Pair) (s : List ℕ) (ts : Row) (held : Held qs (over s ts)) (short : length s ≤ 32) (few : count ts ≤ 255) where
  all : all_items qs (group qs (over s ts)) ≡ items (node s ts) (groups qs ts)
  all = items_read qs (items (node s ts) (groups qs ts)) 289 held.0 (omega (arith, length-append s (groups qs ts), length_groups qs ts))

  word_back : word_in (all_items qs (group qs (over s ts))) ≡ node s ts
  word_back = ap word_in all ∙ ap (word (count ts)) (take_at s (groups qs ts) (length s) refl)

  children_back : children_in (all_items qs (group qs (over s ts))) ≡ groups qs ts
  children_back = ap children_in all ∙ drop_at s (groups qs ts) (length s) refl

pub reads_back : ReadsBack
reads_back = record { word = word_back; children = children_back }
