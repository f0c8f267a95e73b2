-- Questions, said of the words. Assumes nothing.
use Rattle.std.proofs.Common.{◌≡◌, ℕ, zero, suc, ◌+◌, ◌-◌, ◌<◌, ◌≤◌, Bool, true, false, cond, ◌&&◌, eqb, ltb, leb, List, [], ◌∷◌, ◌++◌, map, length, get_or, drop, Ok, Err, filter, Result, sym, refl, ap, ◌∙◌, arith}
use Rattle.std.specs.List.{flat_map, AllByRecursion, range_with_len}
use Rattle.std.proofs.lemmas.Bool.{cond_both, ltb-true}
use Rattle.std.proofs.lemmas.List.{length-append, length-map}
use Rattle.std.proofs.ByRecursion.{All-get_or}
use Rattle.names.specs.declared.refusals.Refusal.{Refusal}
use Rattle.names.specs.declared.refusals.Refusal.TheVariants.{NoSuchPosition, NoSuchRepeat, TableTooShort}
use Rattle.registers.specs.declared.pairs.Pair.{Pair}
use Rattle.book.specs.declared.entries.Entry.{Entry}
use Rattle.book.specs.declared.linking.Listed.{Listed}
use Rattle.book.specs.Words.{Word}
use Rattle.book.specs.Passages.{size}
use Rattle.book.specs.Tops.{Formed, passage_at}
use Rattle.book.specs.Groups.{group_at, registered}
use Rattle.book.specs.Repeats.{first, ends, listed_at, repeats}
use Rattle.book.specs.Entries.{entry}
use Rattle.book.specs.States.{State}
use Rattle.book.specs.Taken.{entries_of, state_of}
use Rattle.book.specs.Linking.{number_at, repeats_of, ends_with, ends_of, listing_from, listed_answer, listed_table}
use Rattle.book.specs.Questions.{at_position, group_answer, start_answer, word_count, top_count, word_group, word_start, listing, repeat_count, listed_by, word_listed, word_table, Tells}
use Rattle.book.proofs.Growing.{tops_long, entries_long, entry_read}
use Rattle.book.proofs.LinkingRepeats.{IsRepeat, each_repeat}
use Rattle.book.proofs.Rows.{start_and_size}

-- what is told by the state of a book is so of its words
tells_by : {X : Type 0} (s : State) (told : X) (of : State → X) (so : List Pair → List Word → X) → told ≡ of s → ((qs : List Pair) (room : ℕ) (ws : List Word) → Formed ws → of (state_of qs room ws) ≡ so qs ws) → Tells s told so
tells_by s told of so e same = record { law = λ qs ws h. e ∙ (ap of h.is ∙ same qs s.room ws h.formed) }

pub tells_words : (s : State) (n : ℕ) → n ≡ length s.entries → Tells s n word_count
tells_words s n e = tells_by s n (λ t. length t.entries) word_count e (λ qs room ws f. entries_long qs ws)

pub tells_tops : (s : State) (n : ℕ) → n ≡ length s.tops → Tells s n top_count
tells_tops s n e = tells_by s n (λ t. length t.tops) top_count e (λ qs room ws f. tops_long qs ws)

-- an answer about a position depends on it only below the words
at_position_same : (n m p x y : ℕ) → n ≡ m → (p < m → x ≡ y) → at_position n p x ≡ at_position m p y
at_position_same n m p x y e same = ap (λ k. cond (ltb p k) (Ok x) (Err NoSuchPosition)) e ∙ by (ltb p m) refl
  where
    by : (b : Bool) → ltb p m ≡ b → cond b (Ok x) (Err NoSuchPosition) ≡ cond b (Ok y) (Err NoSuchPosition)
    by true t = ap (λ k. Ok k) (same (ltb-true p m t))
    by false t = refl

pub tells_group : (s : State) (p : ℕ) (r : Result ℕ Refusal) → r ≡ group_answer s p → Tells s r (word_group p)
tells_group s p r e = tells_by s r (λ t. group_answer t p) (word_group p) e (λ qs room ws f. at_position_same _ _ p _ _ (entries_long qs ws) (λ h. ap (λ (x : Entry). x.group) (entry_read qs ws p h)))

pub tells_start : (s : State) (p : ℕ) (r : Result ℕ Refusal) → r ≡ start_answer s p → Tells s r (word_start p)
tells_start s p r e = tells_by s r (λ t. start_answer t p) (word_start p) e (λ qs room ws f. at_position_same _ _ p _ _ (entries_long qs ws) (λ h. ap (λ (x : Entry). x.start) (entry_read qs ws p h)))

-- the repeats by numbers that are the same below n
all_counting : (P : ℕ → Type 0) (a n : ℕ) → ((p : ℕ) → p < a + n → P p) → AllByRecursion P (range_with_len a n)
all_counting P a zero h = tt
all_counting P a (suc n) h = (h a (omega arith), all_counting P (a + 1) n (λ p l. h p (omega arith)))

kept_same : (f g : ℕ → Bool) (xs : List ℕ) → AllByRecursion (λ x. f x ≡ g x) xs → filter f xs ≡ filter g xs
kept_same f g [] h = refl
kept_same f g (x ∷ xs) h = ap (λ b. cond b (x ∷ filter f xs) (filter f xs)) h.0 ∙ ap (λ ys. cond (g x) (x ∷ ys) ys) (kept_same f g xs h.1)

joined_same : {X : Type 0} (f g : ℕ → List X) (xs : List ℕ) → AllByRecursion (λ x. f x ≡ g x) xs → flat_map f xs ≡ flat_map g xs
joined_same f g [] h = refl
joined_same f g (x ∷ xs) h = ap (λ l. l ++ flat_map f xs) h.0 ∙ ap (λ l. g x ++ l) (joined_same f g xs h.1)

repeats_same : (f g : ℕ → ℕ) (n : ℕ) → ((p : ℕ) → p < n → f p ≡ g p) → repeats f n ≡ repeats g n
repeats_same f g n h =
    joined_same (λ p. listed_at p (ends f n (f p))) (λ p. listed_at p (ends g n (g p))) (range_with_len 0 n)
    (all_counting (λ p. listed_at p (ends f n (f p)) ≡ listed_at p (ends g n (g p))) 0 n
    (λ p l. ap (λ x. listed_at p (ends f n x)) (h p (omega arith))
    ∙ ap (listed_at p) (kept_same (λ q. eqb (f q) (g p)) (λ q. eqb (g q) (g p)) (range_with_len 0 n) (all_counting (λ q. eqb (f q) (g p) ≡ eqb (g q) (g p)) 0 n (λ q m. ap (λ x. eqb x (g p)) (h q (omega arith)))))))

-- no more repeats than positions
listed_one : (p : ℕ) (es : List ℕ) → length (listed_at p es) ≤ 1
listed_one p [] = omega arith
listed_one p (q ∷ []) = omega arith
listed_one p (q ∷ r ∷ es) = cond_both (eqb p q) ((q ∷ r ∷ es) ∷ []) [] (λ l. length l ≤ 1) (λ _. omega arith) (λ _. omega arith)

joined_few : (f : ℕ → List (List ℕ)) → ((p : ℕ) → length (f p) ≤ 1) → (a n : ℕ) → length (flat_map f (range_with_len a n)) ≤ n
joined_few f h a zero = omega arith
joined_few f h a (suc n) = omega (arith, h a, joined_few f h (a + 1) n, length-append (f a) (flat_map f (range_with_len (a + 1) n)))

pub repeats_few : (es : List Entry) → length (repeats_of es) ≤ length es
repeats_few es = joined_few (λ p. listed_at p (ends (number_at es) (length es) (number_at es p))) (λ p. listed_one p (ends (number_at es) (length es) (number_at es p))) 0 (length es)

-- the first ends are as many as the repeats
pub count_repeats : (es : List Entry) (firsts : List ℕ) → firsts ≡ map first (repeats_of es) → length firsts ≡ length (repeats_of es)
count_repeats es firsts is = ap length is ∙ length-map (repeats_of es) first

-- the listing of a book that took the words
module _ (qs : List Pair) (ws : List Word) where
  pub repeats_held : repeats_of (entries_of (registered qs ws) ws) ≡ listing qs ws
  unfolding listing
  repeats_held =
      ap (repeats (number_at (entries_of (registered qs ws) ws))) (entries_long qs ws)
      ∙ repeats_same (number_at (entries_of (registered qs ws) ws)) (group_at (registered qs ws) ws) (length ws) (λ p h. ap (λ (e : Entry). e.group) (entry_read qs ws p h))

  listed_held : (xs : List ℕ) → IsRepeat (entries_of (registered qs ws) ws) xs → listing_from (entries_of (registered qs ws) ws) (first xs) ≡ listed_by qs ws xs
  unfolding listing_from
  listed_held xs a =
      let below : first xs < length ws = omega (arith, entries_long qs ws, a.opens.below) in
      let e = entry_read qs ws (first xs) below in
      let g : number_at (entries_of (registered qs ws) ws) (first xs) ≡ group_at (registered qs ws) ws (first xs) = ap (λ (x : Entry). x.group) e in
      let z : first xs + 1 - (get_or (entries_of (registered qs ws) ws) (first xs) (entry 0 0)).start ≡ size (passage_at ws (first xs)) = ap (λ (x : Entry). first xs + 1 - x.start) e ∙ omega (arith, start_and_size ws (first xs) below) in
      let c : length (ends_with (entries_of (registered qs ws) ws) (first xs)) ≡ length xs = ap length (sym a.all) in
      cc

  answer_held : (k places : ℕ) → listed_answer (entries_of (registered qs ws) ws) k places ≡ word_listed k places qs ws
  unfolding listed_answer word_listed
  answer_held k places =
      by (ltb k (length (repeats_of (entries_of (registered qs ws) ws)))) refl
      ∙ ap (λ ls. cond (ltb k (length ls)) (cond (leb (length (get_or ls k [])) places) (Ok (listed_by qs ws (get_or ls k []))) (Err TableTooShort)) (Err NoSuchRepeat)) repeats_held
    where
      by : (b : Bool) → ltb k (length (repeats_of (entries_of (registered qs ws) ws))) ≡ b →
          cond b (cond (leb (length (ends_of (entries_of (registered qs ws) ws) k)) places) (Ok (listing_from (entries_of (registered qs ws) ws) (first (ends_of (entries_of (registered qs ws) ws) k)))) (Err TableTooShort)) (Err NoSuchRepeat)
          ≡ cond b (cond (leb (length (ends_of (entries_of (registered qs ws) ws) k)) places) (Ok (listed_by qs ws (ends_of (entries_of (registered qs ws) ws) k))) (Err TableTooShort)) (Err NoSuchRepeat)
      by true t = ap (λ x. cond (leb (length (ends_of (entries_of (registered qs ws) ws) k)) places) (Ok x) (Err TableTooShort)) (listed_held (ends_of (entries_of (registered qs ws) ws) k) (All-get_or (IsRepeat (entries_of (registered qs ws) ws)) (repeats_of (entries_of (registered qs ws) ws)) k [] (ltb-true _ _ t) (each_repeat (entries_of (registered qs ws) ws))))
      by false t = refl

  table_held : (k : ℕ) (table : List ℕ) → listed_table (entries_of (registered qs ws) ws) k table ≡ word_table k table qs ws
  unfolding listed_table word_table
  table_held k table = ap (λ ls. cond (ltb k (length ls) && leb (length (get_or ls k [])) (length table)) (get_or ls k [] ++ drop (length (get_or ls k [])) table) table) repeats_held

pub tells_repeats : (s : State) (n : ℕ) → n ≡ length (repeats_of s.entries) → Tells s n repeat_count
tells_repeats s n e = tells_by s n (λ t. length (repeats_of t.entries)) repeat_count e (λ qs room ws f. ap length (repeats_held qs ws))

pub tells_listed : (s : State) (k places : ℕ) (r : Result Listed Refusal) → r ≡ listed_answer s.entries k places → Tells s r (word_listed k places)
tells_listed s k places r e = tells_by s r (λ t. listed_answer t.entries k places) (word_listed k places) e (λ qs room ws f. answer_held qs ws k places)

pub tells_table : (s : State) (k : ℕ) (table after : List ℕ) → after ≡ listed_table s.entries k table → Tells s after (word_table k table)
tells_table s k table after e = tells_by s after (λ t. listed_table t.entries k table) (word_table k table) e (λ qs room ws f. table_held qs ws k table)
