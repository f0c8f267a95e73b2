-- What is proved of passages, group numbers and repeats. Assumes nothing.
use Rattle.std.specs.Prelude.{◌≡◌, ℕ, suc, ◌+◌, ◌*◌, ◌<◌, ◌≤◌, ◌↔◌, List, ◌++◌, length, slice_index_or}
use Rattle.registers.specs.declared.pairs.Pair.{Pair}
use Rattle.registers.specs.Pairs.{Apart}
use Rattle.book.specs.Words.{Word, spelled}
use Rattle.book.specs.Passages.{Passage, count, size, postfix, postfixes}
use Rattle.book.specs.Tops.{tops, Formed, passage_at, start_at, words_at}
use Rattle.book.specs.Groups.{group, group_at, Held, registered}
use Rattle.book.specs.Repeats.{Listing, SamePassage, repeats}

-- The words taken are the notations of the top passages, joined; those from a passage's start to its end are its notation,
-- as many as its size, the first of them a leaf; and equal notations mean equal passages.
pub record Notation : Type 0 where
  pub of_words : (ws : List Word) → Formed ws → postfixes (tops ws) ≡ ws
  pub of_passage : (ws : List Word) (p : ℕ) → Formed ws → p < length ws → words_at ws p ≡ postfix (passage_at ws p)
  pub of_size : (ws : List Word) (p : ℕ) → p < length ws → start_at ws p + size (passage_at ws p) ≡ suc p
  pub from_leaf : (ws : List Word) (p : ℕ) (d : Word) → Formed ws → p < length ws → (slice_index_or (words_at ws p) 0 d).rank ≡ 0
  pub unique : (t u : Passage) → postfix t ≡ postfix u → t ≡ u

-- A group number stands whatever pairs are appended, and two of them are equal exactly where the passages are,
-- over any pairs that were held already.
pub record Grouping : Type 0 where
  pub stands : (qs rs : List Pair) (t : Passage) → Held qs t → group (qs ++ rs) t ≡ group qs t
  pub exact : (qs : List Pair) (t u : Passage) → Held qs t → Held qs u → (group qs t ≡ group qs u) ↔ (t ≡ u)
  pub held : (qs : List Pair) (ws : List Word) (p : ℕ) → Formed ws → p < length ws → Held (registered qs ws) (passage_at ws p)
  pub words : (qs : List Pair) (ws : List Word) (p q : ℕ) → Formed ws → p < length ws → q < length ws → (group_at (registered qs ws) ws p ≡ group_at (registered qs ws) ws q) ↔ (words_at ws p ≡ words_at ws q)

-- The pairs added are at most 3 × words + numbers spelled − top passages, and no two pairs become the same.
pub record Adding : Type 0 where
  pub few : (qs : List Pair) (ws : List Word) → Formed ws → length (registered qs ws) + count (tops ws) ≤ length qs + 3 * length ws + spelled ws
  pub apart : (qs : List Pair) (ws : List Word) → Apart qs → Apart (registered qs ws)

-- Words have one listing of their repeats, and the group numbers give it.
pub record Listed : Type 0 where
  pub by_groups : (qs : List Pair) (ws : List Word) → Formed ws → Listing (SamePassage ws) (length ws) (repeats (group_at (registered qs ws) ws) (length ws))
  pub only : (ws : List Word) (ls ms : List (List ℕ)) → Listing (SamePassage ws) (length ws) ls → Listing (SamePassage ws) (length ws) ms → ls ≡ ms

pub record PassageLaws : Type 0 where
  pub notation : Notation
  pub grouping : Grouping
  pub adding : Adding
  pub listing : Listed
