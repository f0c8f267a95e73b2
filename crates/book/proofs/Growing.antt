-- What a book holds, one word on. Assumes nothing.
use Rattle.std.proofs.Common.{◌≡◌, ℕ, zero, suc, ◌-◌, ◌<◌, ◌≤◌, List, [], ◌∷◌, ◌++◌, map, length, get_or, take, drop, sym, refl, ap, ◌∙◌, arith}
use Rattle.std.specs.List.{range_with_len}
use Rattle.std.proofs.lemmas.List.FromFn.{length-map-range_with_len, get_or-map-range_with_len, map-range_with_len_more, fill_by_all}
use Rattle.std.proofs.lemmas.List.{length_push, map_push, take-append-le, drop-append-le, take_all, drop_all, drop-map}
use Rattle.registers.specs.declared.pairs.Pair.{Pair}
use Rattle.book.specs.declared.entries.Entry.{Entry}
use Rattle.book.specs.Words.{Word}
use Rattle.book.specs.Passages.{Row, none, ◌▹◌, count, last, without_last, size, sizes}
use Rattle.book.specs.Tops.{made, push, reading, tops, FormedOn, Formed, top, passage_at, start_at}
use Rattle.book.specs.Groups.{items, entered, reached, group, groups, group_at, HeldAll, with_word, registering, registered}
use Rattle.book.specs.Entries.{entry, group_of, groups_of}
use Rattle.book.specs.States.{state, children, start_over, taken, grown}
use Rattle.book.specs.Taken.{entry_at, entries_of, entries_on, state_of}
use Rattle.book.proofs.Numbered.{Grows}
use Rattle.book.proofs.Rows.{groups_last, sizes_reading, start_of_made}
use Rattle.book.proofs.Exactness.{group_stands}
use Rattle.book.proofs.Entering.{grows_word, held_push, held_registered}
use Rattle.book.proofs.Slices.{reached_is_group}

-- words and one more
pub reading_push : (row : Row) (ws : List Word) (w : Word) → reading row (ws ++ w ∷ []) ≡ push (reading row ws) w
reading_push row [] w = refl
reading_push row (v ∷ ws) w = reading_push (push row v) ws w

pub registering_push : (qs : List Pair) (row : Row) (ws : List Word) (w : Word) → registering qs row (ws ++ w ∷ []) ≡ with_word (registering qs row ws) (reading row ws) w
registering_push qs row [] w = refl
registering_push qs row (v ∷ ws) w = registering_push (with_word qs row v) (push row v) ws w

pub formed_push : (row : Row) (ws : List Word) (w : Word) → FormedOn row ws → w.rank ≤ count (reading row ws) → FormedOn row (ws ++ w ∷ [])
formed_push row [] w f h = (h, tt)
formed_push row (v ∷ ws) w f h = (f.0, formed_push (push row v) ws w f.1 h)

held_reading : (qs : List Pair) (row : Row) (ws : List Word) → HeldAll qs row → FormedOn row ws → HeldAll (registering qs row ws) (reading row ws)
held_reading qs row [] k f = k
held_reading qs row (w ∷ ws) k f = held_reading (with_word qs row w) (push row w) ws (held_push qs row w f.0 k) f.1

pub passage_before : (ws : List Word) (w : Word) (p : ℕ) → p < length ws → passage_at (ws ++ w ∷ []) p ≡ passage_at ws p
passage_before ws w p h = ap (λ us. top (tops us)) (take-append-le (suc p) ws (w ∷ []) (omega arith))

pub passage_new : (ws : List Word) (w : Word) → passage_at (ws ++ w ∷ []) (length ws) ≡ made (tops ws) w
passage_new ws w = ap (λ us. top (tops us)) (take_all (suc (length ws)) (ws ++ w ∷ []) (omega (arith, length_push ws w))) ∙ ap top (reading_push none ws w)

-- the entries of rows
length_on : (qs : List Pair) (row : Row) → length (entries_on qs row) ≡ count row
length_on qs none = refl
length_on qs (row ▹ t) = omega (arith, length_push (entries_on qs row) (entry (group qs t) (sizes row)), length_on qs row)

groups_on : (qs : List Pair) (row : Row) → groups_of (entries_on qs row) ≡ groups qs row
groups_on qs none = refl
groups_on qs (row ▹ t) = map_push group_of (entries_on qs row) (entry (group qs t) (sizes row)) ∙ ap (λ l. l ++ group qs t ∷ []) (groups_on qs row)

groups_on_last : (qs : List Pair) (n : ℕ) (row : Row) → n ≤ count row → groups_of (drop (count row - n) (entries_on qs row)) ≡ groups qs (last n row)
groups_on_last qs n row h = sym (drop-map group_of (count row - n) (entries_on qs row)) ∙ ap (drop (count row - n)) (groups_on qs row) ∙ sym (groups_last qs n row h)

on_without_last : (qs : List Pair) (n : ℕ) (row : Row) → n ≤ count row → entries_on qs (without_last n row) ≡ take (count row - n) (entries_on qs row)
on_without_last qs zero row h = sym (take_all (count row - 0) (entries_on qs row) (omega (arith, length_on qs row)))
on_without_last qs (suc n) none h = absurd (omega arith)
on_without_last qs (suc n) (row ▹ t) h =
    let less : suc (count row) - suc n ≡ count row - n = omega arith in
    let fits : count row - n ≤ length (entries_on qs row) = omega (arith, length_on qs row) in
    rw (on_without_last qs n row (omega arith), less) (sym (take-append-le (count row - n) (entries_on qs row) (entry (group qs t) (sizes row) ∷ []) fits))

on_stands : (qs rs : List Pair) (row : Row) → Grows qs rs → HeldAll qs row → entries_on rs row ≡ entries_on qs row
on_stands qs rs none g h = refl
on_stands qs rs (row ▹ t) g h = rw (on_stands qs rs row g h.0, g.1) (ap (λ n. entries_on qs row ++ entry n (sizes row) ∷ []) (group_stands qs g.0 t h.1))

start_over_push : (es : List Entry) (e : Entry) (p : ℕ) → start_over (es ++ e ∷ []) p ≡ start_over es e.start
start_over_push [] e p = refl
start_over_push (x ∷ es) e p = refl

start_over_last : (qs : List Pair) (n : ℕ) (row : Row) → n ≤ count row → start_over (drop (count row - n) (entries_on qs row)) (sizes row) ≡ sizes (without_last n row)
start_over_last qs zero row h = ap (λ es. start_over es (sizes row)) (drop_all (count row - 0) (entries_on qs row) (omega (arith, length_on qs row)))
start_over_last qs (suc n) none h = absurd (omega arith)
start_over_last qs (suc n) (row ▹ t) h =
    let less : suc (count row) - suc n ≡ count row - n = omega arith in
    let fits : count row - n ≤ length (entries_on qs row) = omega (arith, length_on qs row) in
    rw (less, drop-append-le (count row - n) (entries_on qs row) (entry (group qs t) (sizes row) ∷ []) fits) (start_over_push (drop (count row - n) (entries_on qs row)) (entry (group qs t) (sizes row)) (sizes (row ▹ t)) ∙ start_over_last qs n row (omega arith))

pub same_state : (qs qs' : List Pair) (room : ℕ) (es es' ts ts' : List Entry) → qs ≡ qs' → es ≡ es' → ts ≡ ts' → state qs room es ts ≡ state qs' room es' ts'
same_state qs qs' room es es' ts ts' a b c = cc

-- how much a book holds
module _ (qs : List Pair) (ws : List Word) where
  pub tops_long : length (entries_on (registered qs ws) (tops ws)) ≡ count (tops ws)
  tops_long = length_on (registered qs ws) (tops ws)

  pub entries_long : length (entries_of (registered qs ws) ws) ≡ length ws
  unfolding entries_of
  entries_long = length-map-range_with_len (entry_at (registered qs ws) ws) 0 (length ws)

  pub entry_read : (p : ℕ) → p < length ws → get_or (entries_of (registered qs ws) ws) p (entry 0 0) ≡ entry_at (registered qs ws) ws p
  unfolding entries_of
  entry_read p h = get_or-map-range_with_len (entry_at (registered qs ws) ws) 0 (length ws) p p (entry 0 0) h (omega arith)

-- one word taken over words that are formed
module _ (qs : List Pair) (room : ℕ) (ws : List Word) (w : Word) (f : Formed ws) (h : w.rank ≤ count (tops ws)) where
  held : HeldAll (registered qs ws) (tops ws)
  held = held_reading qs none ws tt f

  long : sizes (tops ws) ≡ length ws
  long = sizes_reading none ws ∙ omega arith

  pub pairs_push : registered qs (ws ++ w ∷ []) ≡ with_word (registered qs ws) (tops ws) w
  pairs_push = registering_push qs none ws w

  grows : Grows (registered qs ws) (registered qs (ws ++ w ∷ []))
  grows = rw pairs_push (grows_word (registered qs ws) (tops ws) w)

  items_push : groups_of (children (state_of qs room ws) w) ≡ groups (registered qs ws) (last w.rank (tops ws))
  items_push = ap (λ n. groups_of (drop (n - w.rank) (entries_on (registered qs ws) (tops ws)))) (tops_long qs ws) ∙ groups_on_last (registered qs ws) w.rank (tops ws) h

  entered_push : entered (registered qs ws) 0 (items w (groups_of (children (state_of qs room ws) w))) ≡ registered qs (ws ++ w ∷ [])
  entered_push = ap (λ gs. entered (registered qs ws) 0 (items w gs)) items_push ∙ sym pairs_push

  group_push : reached (registered qs ws) 0 (items w (groups_of (children (state_of qs room ws) w))) ≡ group_at (registered qs (ws ++ w ∷ [])) (ws ++ w ∷ []) (length ws)
  group_push =
      ap (λ gs. reached (registered qs ws) 0 (items w gs)) items_push
      ∙ (reached_is_group (registered qs ws) (tops ws) w h held
      ∙ (ap (λ rs. group rs (made (tops ws) w)) (sym pairs_push) ∙ ap (group (registered qs (ws ++ w ∷ []))) (sym (passage_new ws w))))

  start_is : start_at (ws ++ w ∷ []) (length ws) ≡ sizes (without_last w.rank (tops ws))
  start_is = ap (λ t. suc (length ws) - size t) (passage_new ws w) ∙ (ap (λ n. suc n - size (made (tops ws) w)) (sym long) ∙ start_of_made (tops ws) w)

  start_push : start_over (children (state_of qs room ws) w) (length (entries_of (registered qs ws) ws)) ≡ start_at (ws ++ w ∷ []) (length ws)
  start_push =
      ap (λ n. start_over (children (state_of qs room ws) w) n) (entries_long qs ws ∙ sym long)
      ∙ (ap (λ n. start_over (drop (n - w.rank) (entries_on (registered qs ws) (tops ws))) (sizes (tops ws))) (tops_long qs ws)
      ∙ (start_over_last (registered qs ws) w.rank (tops ws) h ∙ sym start_is))

  pub taken_push : taken (state_of qs room ws) w ≡ entry_at (registered qs (ws ++ w ∷ [])) (ws ++ w ∷ []) (length ws)
  taken_push = ap (λ n. entry n (start_over (children (state_of qs room ws) w) (length (entries_of (registered qs ws) ws)))) group_push ∙ ap (entry (group_at (registered qs (ws ++ w ∷ [])) (ws ++ w ∷ []) (length ws))) start_push

  entry_before : (p : ℕ) → p < length ws → entry_at (registered qs ws) ws p ≡ entry_at (registered qs (ws ++ w ∷ [])) (ws ++ w ∷ []) p
  entry_before p b =
      let same = passage_before ws w p b in
      let stands : group (registered qs (ws ++ w ∷ [])) (passage_at ws p) ≡ group (registered qs ws) (passage_at ws p) = rw grows.1 (group_stands (registered qs ws) grows.0 (passage_at ws p) (held_registered qs ws p f b)) in
      ap (λ n. entry n (start_at ws p)) (sym stands) ∙ ap (λ t. entry (group (registered qs (ws ++ w ∷ [])) t) (suc p - size t)) (sym same)

  entries_push : entries_of (registered qs ws) ws ++ taken (state_of qs room ws) w ∷ [] ≡ entries_of (registered qs (ws ++ w ∷ [])) (ws ++ w ∷ [])
  unfolding entries_of
  entries_push =
      let e = entry_at (registered qs (ws ++ w ∷ [])) (ws ++ w ∷ []) in
      let old : map (entry_at (registered qs ws) ws) (range_with_len 0 (length ws)) ≡ map e (range_with_len 0 (length ws)) =
      fill_by_all e (map (entry_at (registered qs ws) ws) (range_with_len 0 (length ws))) (length ws) (entry 0 0) (entries_long qs ws)
      (λ k b. get_or-map-range_with_len (entry_at (registered qs ws) ws) 0 (length ws) k k (entry 0 0) b (omega arith) ∙ entry_before k b) in
      ap (λ l. l ++ taken (state_of qs room ws) w ∷ []) old
      ∙ (ap (λ x. map e (range_with_len 0 (length ws)) ++ x ∷ []) taken_push
      ∙ (sym (map-range_with_len_more e 0 (length ws) (length ws) (omega arith)) ∙ ap (λ n. map e (range_with_len 0 n)) (sym (length_push ws w))))

  tops_push : take (length (entries_on (registered qs ws) (tops ws)) - w.rank) (entries_on (registered qs ws) (tops ws)) ++ taken (state_of qs room ws) w ∷ [] ≡ entries_on (registered qs (ws ++ w ∷ [])) (tops (ws ++ w ∷ []))
  tops_push =
      let stay = on_stands (registered qs ws) (registered qs (ws ++ w ∷ [])) (tops ws) grows held in
      let front : take (length (entries_on (registered qs ws) (tops ws)) - w.rank) (entries_on (registered qs ws) (tops ws)) ≡ entries_on (registered qs (ws ++ w ∷ [])) (without_last w.rank (tops ws)) =
      ap (λ n. take (n - w.rank) (entries_on (registered qs ws) (tops ws))) (tops_long qs ws)
      ∙ (ap (take (count (tops ws) - w.rank)) (sym stay) ∙ sym (on_without_last (registered qs (ws ++ w ∷ [])) w.rank (tops ws) h)) in
      ap (λ l. l ++ taken (state_of qs room ws) w ∷ []) front
      ∙ (ap (λ x. entries_on (registered qs (ws ++ w ∷ [])) (without_last w.rank (tops ws)) ++ x ∷ [])
      (taken_push ∙ (ap (λ t. entry (group (registered qs (ws ++ w ∷ [])) t) (start_at (ws ++ w ∷ []) (length ws))) (passage_new ws w) ∙ ap (entry (group (registered qs (ws ++ w ∷ [])) (made (tops ws) w))) start_is))
      ∙ ap (entries_on (registered qs (ws ++ w ∷ []))) (sym (reading_push none ws w)))

  pub grown_push : grown (state_of qs room ws) w ≡ state_of qs room (ws ++ w ∷ [])
  grown_push = same_state _ _ room _ _ _ _ entered_push entries_push tops_push
