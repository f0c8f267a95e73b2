-- The children of a passage. Assumes nothing.
use Rattle.std.proofs.Common.{◌≡◌, ℕ, zero, suc, ◌+◌, ◌-◌, ◌<◌, ◌≤◌, List, [], ◌∷◌, ◌++◌, map, length, get_or, take, sym, refl, ap, ◌∙◌, add-one, arith}
use Rattle.std.proofs.lemmas.List.{append-nil, append_assoc, take-take, take_at, length-take-le, take_more}
use Rattle.book.specs.Passages.{Passage, Row, none, ◌▹◌, over, count, last, size, sizes, postfix, postfixes}
use Rattle.book.specs.Tops.{push, reading, tops, FormedOn, Formed, top, passage_at, start_at}
use Rattle.book.specs.Words.{Word, word}
use Rattle.book.proofs.Notations.{postfix_tops, tops_postfixes, formed_take, count_last}
use Rattle.book.proofs.Growing.{reading_push}
use Rattle.book.proofs.Rows.{sizes_reading}
use Rattle.sheets.specs.Children.{in_order, ends_down, child_ends}
use Rattle.sheets.specs.SheetLaws.{Children}

long : (row : Row) → length (postfixes row) ≡ sizes row
long row = let s = sizes_reading none (postfixes row) in omega (arith, s, ap sizes (tops_postfixes row))

size_some : (t : Passage) → 0 < size t
size_some (over s ts) = omega arith

-- the words before the last top passage give the others
before_top : (ws : List Word) (row : Row) (t : Passage) → Formed ws → tops ws ≡ row ▹ t → (length ws ≡ sizes row + size t) × (tops (take (sizes row) ws) ≡ row)
before_top ws row t f e =
    let whole : postfixes row ++ postfix t ≡ ws = ap postfixes (sym e) ∙ postfix_tops ws f in
    let n = sizes_reading none ws in
    let cut : take (sizes row) ws ≡ postfixes row = ap (take (sizes row)) (sym whole) ∙ take_at (postfixes row) (postfix t) (sizes row) (long row) in
    (omega (arith, n, ap sizes e), ap tops cut ∙ tops_postfixes row)

-- the ends found going down from position p, where the top passages are the row
down : (ws : List Word) (n p : ℕ) (row : Row) (found : List ℕ) → Formed ws → p ≤ length ws → tops (take p ws) ≡ row → n ≤ count row →
    map (passage_at ws) (ends_down (start_at ws) n p found) ≡ in_order (last n row) ++ map (passage_at ws) found
down ws zero p row found f h e k = refl
down ws (suc n) p none found f h e k = absurd (omega arith)
down ws (suc n) p (row ▹ t) found f h e k =
    let cut : length (take p ws) ≡ p = length-take-le p ws h in
    let parts = before_top (take p ws) row t (formed_take p none ws f) e in
    let some = size_some t in
    let next : suc (p - 1) ≡ p = omega (arith, cut, parts.0, some) in
    let here : passage_at ws (p - 1) ≡ t = ap (λ m. top (tops (take m ws))) next ∙ ap top e in
    let start : start_at ws (p - 1) ≡ sizes row = ap (λ u. suc (p - 1) - size u) here ∙ omega (arith, cut, parts.0, next) in
    let less : sizes row ≤ p = omega (arith, cut, parts.0) in
    let rest : tops (take (sizes row) ws) ≡ row = ap tops (sym (take-take (sizes row) p ws less)) ∙ parts.1 in
    ap (λ m. map (passage_at ws) (ends_down (start_at ws) n m ((p - 1) ∷ found))) start
    ∙ (down ws n (sizes row) row ((p - 1) ∷ found) f (omega (arith, less)) rest (omega arith)
    ∙ (ap (λ u. in_order (last n row) ++ u ∷ map (passage_at ws) found) here ∙ sym (append_assoc (in_order (last n row)) (t ∷ []) (map (passage_at ws) found))))

formed_last : (row : Row) (ws : List Word) (w : Word) → FormedOn row (ws ++ w ∷ []) → w.rank ≤ count (reading row ws)
formed_last row [] w f = f.0
formed_last row (v ∷ ws) w f = formed_last (push row v) ws w f.1

row_of : Passage → Row
row_of (over s ts) = ts

children_of : (ws : List Word) (p : ℕ) (s : List ℕ) (ts : Row) → Formed ws → p < length ws → passage_at ws p ≡ over s ts → map (passage_at ws) (child_ends (start_at ws) (count ts) p) ≡ in_order ts
unfolding row_of
children_of ws p s ts f h e =
    let d : Word = word 0 [] in
    let w : Word = get_or ws p d in
    let row : Row = tops (take p ws) in
    let more : take (suc p) ws ≡ take p ws ++ w ∷ [] = ap (λ m. take m ws) (sym (add-one p)) ∙ take_more ws p d h in
    let fits : w.rank ≤ count row = formed_last none (take p ws) w (rw more at (formed_take (suc p) none ws f)) in
    let is : last w.rank row ≡ ts = ap (λ us. row_of (top us)) (sym (ap tops more ∙ reading_push none (take p ws) w)) ∙ ap row_of e in
    let many : count ts ≡ w.rank = ap count (sym is) ∙ count_last w.rank row fits in
    down ws (count ts) p row [] f (omega arith) refl (omega (arith, many, fits))
    ∙ (append-nil (in_order (last (count ts) row)) ∙ ap in_order (ap (λ n. last n row) many ∙ is))

pub children : Children
children = record { are = children_of }
