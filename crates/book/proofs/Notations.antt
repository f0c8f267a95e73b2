-- Postfix notations and the words that are read. Assumes nothing.
use Rattle.std.proofs.Common.{◌≡◌, ℕ, zero, suc, ◌+◌, ◌<◌, ◌≤◌, List, [], ◌∷◌, ◌++◌, length, get_or, take, drop, sym, refl, ap, ◌∙◌, arith}
use Rattle.std.proofs.lemmas.List.{append_assoc, append-nil, length-append, length-take, drop_at}
use Rattle.book.specs.Words.{Word}
use Rattle.book.specs.Passages.{Passage, Row, over, none, ◌▹◌, count, last, without_last, node, postfix, postfixes, size, sizes}
use Rattle.book.specs.Tops.{push, reading, tops, FormedOn, Formed, top, passage_at, start_at, words_at}

pub count_last : (n : ℕ) (row : Row) → n ≤ count row → count (last n row) ≡ n
count_last zero row h = refl
count_last (suc n) none h = omega arith
count_last (suc n) (row ▹ t) h = ap suc (count_last n row (omega arith))

split_last : (n : ℕ) (row : Row) → postfixes (without_last n row) ++ postfixes (last n row) ≡ postfixes row
split_last zero row = append-nil (postfixes row)
split_last (suc n) none = refl
split_last (suc n) (row ▹ t) = sym (append_assoc (postfixes (without_last n row)) (postfixes (last n row)) (postfix t)) ∙ ap (λ l. l ++ postfix t) (split_last n row)

pub made_word : (row : Row) (w : Word) → w.rank ≤ count row → node w.spelling (last w.rank row) ≡ w
made_word row w h = ap (λ r. record { rank = r; spelling = w.spelling }) (count_last w.rank row h)

postfix_push : (row : Row) (w : Word) → w.rank ≤ count row → postfixes (push row w) ≡ postfixes row ++ w ∷ []
postfix_push row w h = sym (append_assoc (postfixes (without_last w.rank row)) (postfixes (last w.rank row)) _) ∙ rw (split_last, made_word row w h)

pub postfix_reading : (row : Row) (ws : List Word) → FormedOn row ws → postfixes (reading row ws) ≡ postfixes row ++ ws
postfix_reading row [] f = sym (append-nil (postfixes row))
postfix_reading row (w ∷ ws) f = postfix_reading (push row w) ws f.1 ∙ rw (postfix_push row w f.0) (append_assoc (postfixes row) (w ∷ []) ws)

-- the notations of the top passages, joined, are the words
pub postfix_tops : (ws : List Word) → Formed ws → postfixes (tops ws) ≡ ws
postfix_tops ws f = postfix_reading none ws f

mutual
  length_postfix : (t : Passage) → length (postfix t) ≡ size t
  length_postfix (over s ts) = simp length-append (omega (arith, length_postfixes ts))

  length_postfixes : (ts : Row) → length (postfixes ts) ≡ sizes ts
  length_postfixes none = refl
  length_postfixes (ts ▹ t) = simp length-append (omega (arith, length_postfixes ts, length_postfix t))

pub formed_take : (n : ℕ) (row : Row) (ws : List Word) → FormedOn row ws → FormedOn row (take n ws)
formed_take zero row ws f = tt
formed_take (suc n) row [] f = tt
formed_take (suc n) row (w ∷ ws) f = (f.0, formed_take n (push row w) ws f.1)

pub standing : (row : Row) (ws : List Word) → 0 < count row + length ws → 0 < count (reading row ws)
standing row [] h = omega arith
standing row (w ∷ ws) h = standing (push row w) ws (omega arith)

ends_in_top : (row : Row) → 0 < count row → postfixes row ≡ postfixes (without_last 1 row) ++ postfix (top row)
ends_in_top none h = absurd (omega arith)
ends_in_top (row ▹ t) h = refl

-- the words from the start to the end of a passage are its notation
pub words_of_passage : (ws : List Word) (p : ℕ) → Formed ws → p < length ws → words_at ws p ≡ postfix (passage_at ws p)
words_of_passage ws p f h =
    let us : List Word = take (suc p) ws in
    let long : length us ≡ suc p = length-take (suc p) ws ∙ omega arith in
    let before : List Word = postfixes (without_last 1 (tops us)) in
    let split : before ++ postfix (top (tops us)) ≡ us = sym (ends_in_top (tops us) (standing none us (omega arith))) ∙ postfix_tops us (formed_take (suc p) none ws f) in
    let starts : length before ≡ start_at ws p = omega (arith, simp length-append at (ap length split), length_postfix (top (tops us))) in
    sym (ap (drop (start_at ws p)) split) ∙ drop_at before (postfix (top (tops us))) (start_at ws p) starts

-- a passage begins with a leaf, a word without children
mutual
  leaf_first : (t : Passage) (more : List Word) (d : Word) → (get_or (postfix t ++ more) 0 d).rank ≡ 0
  leaf_first (over s ts) more d = simp append_assoc (leaf_below ts (node s ts ∷ more) d (λ e. e))

  leaf_below : (ts : Row) (more : List Word) (d : Word) → (count ts ≡ 0 → (get_or more 0 d).rank ≡ 0) → (get_or (postfixes ts ++ more) 0 d).rank ≡ 0
  leaf_below none more d h = h refl
  leaf_below (ts ▹ t) more d h = simp append_assoc (leaf_below ts (postfix t ++ more) d (λ _. leaf_first t more d))

pub leaf_at_start : (ws : List Word) (p : ℕ) (d : Word) → Formed ws → p < length ws → (get_or (words_at ws p) 0 d).rank ≡ 0
leaf_at_start ws p d f h =
    let whole : words_at ws p ≡ postfix (passage_at ws p) ++ [] = words_of_passage ws p f h ∙ sym (append-nil (postfix (passage_at ws p))) in
    rw whole (leaf_first (passage_at ws p) [] d)

abbrev ◌⧺◌ : Row → Row → Row
row ⧺ none = row
row ⧺ (ts ▹ t) = (row ⧺ ts) ▹ t

infixl 50 ◌⧺◌
last_of_joined : (row ts : Row) → last (count ts) (row ⧺ ts) ≡ ts
last_of_joined row none = refl
last_of_joined row (ts ▹ t) = ap (λ r. r ▹ t) (last_of_joined row ts)

rest_of_joined : (row ts : Row) → without_last (count ts) (row ⧺ ts) ≡ row
rest_of_joined row none = refl
rest_of_joined row (ts ▹ t) = rest_of_joined row ts

none_joined : (ts : Row) → none ⧺ ts ≡ ts
none_joined none = refl
none_joined (ts ▹ t) = ap (λ r. r ▹ t) (none_joined ts)

mutual
  read_back : (t : Passage) (row : Row) (ws : List Word) → reading row (postfix t ++ ws) ≡ reading (row ▹ t) ws
  read_back (over s ts) row ws = simp append_assoc (read_back_row ts row (node s ts ∷ ws) ∙ simp (last_of_joined, rest_of_joined))

  read_back_row : (ts : Row) (row : Row) (ws : List Word) → reading row (postfixes ts ++ ws) ≡ reading (row ⧺ ts) ws
  read_back_row none row ws = refl
  read_back_row (ts ▹ t) row ws = simp append_assoc (read_back_row ts row (postfix t ++ ws) ∙ read_back t (row ⧺ ts) ws)

-- reading a passage's notation gives the passage back
pub tops_postfix : (t : Passage) → tops (postfix t) ≡ none ▹ t
tops_postfix t = ap tops (sym (append-nil (postfix t))) ∙ read_back t none []

pub same_notation : (t u : Passage) → postfix t ≡ postfix u → t ≡ u
same_notation t u e = ap top (sym (tops_postfix t) ∙ ap tops e ∙ tops_postfix u)

pub tops_postfixes : (row : Row) → tops (postfixes row) ≡ row
tops_postfixes row = ap tops (sym (append-nil (postfixes row))) ∙ (read_back_row row none [] ∙ none_joined row)
