-- What is proved of words that are read back and typed. Assumes nothing.
use Rattle.std.specs.Prelude.{◌≡◌, ℕ, ◌<◌, ◌≤◌, List, map, length, Some, None}
use Rattle.names.specs.declared.pitches.Naming.{Naming}
use Rattle.names.specs.Lines.{Typable, line}
use Rattle.names.specs.Texts.{text_told}
use Rattle.names.specs.Tokens.{Said}
use Rattle.registers.specs.declared.pairs.Pair.{Pair}
use Rattle.book.specs.declared.readings.Reading.TheVariants.{Written}
use Rattle.book.specs.Groups.{group, groups, Held}
use Rattle.book.specs.Passages.{Row, over, count, node}
use Rattle.book.specs.Readings.{word_of, said_of, text_words}
use Rattle.book.specs.Tops.{Formed, passage_at, start_at}
use Rattle.book.specs.Words.{Word}
use Rattle.sheets.specs.Back.{all_items, word_in, children_in}
use Rattle.sheets.specs.Children.{in_order, child_ends}
use Rattle.sheets.specs.Typing.{token_of, Bytes, tokens_of}

-- the group number of a passage that is held tells its last word and its children's group numbers
pub record ReadsBack : Type 0 where
  pub word : (qs : List Pair) (s : List ℕ) (ts : Row) → Held qs (over s ts) → length s ≤ 32 → count ts ≤ 255 → word_in (all_items qs (group qs (over s ts))) ≡ node s ts
  pub children : (qs : List Pair) (s : List ℕ) (ts : Row) → Held qs (over s ts) → length s ≤ 32 → count ts ≤ 255 → children_in (all_items qs (group qs (over s ts))) ≡ groups qs ts

-- the token of a word can be typed, and gives the word in the written reading
pub record Types : Type 0 where
  pub typable : (w : Word) (t : Said) → token_of w ≡ Some t → Typable t
  pub gives : (w : Word) (t : Said) → token_of w ≡ Some t → word_of Written t ≡ Some w
  -- and every token of bytes that can be typed is that of its word
  pub all : (t : Said) (w : Word) → Typable t → Bytes t → word_of Written t ≡ Some w → token_of w ≡ Some t

-- a line of the tokens of words is a text whose words in the written reading are just these, and nothing in it is at fault
pub record LinesBack : Type 0 where
  pub same : (n : Naming) (ws : List Word) (ts : List Said) → tokens_of ws ≡ Some ts → length (line n ts) ≤ 65536 → map said_of (text_words Written (line n ts)) ≡ ws
  pub fine : (n : Naming) (ws : List Word) (ts : List Said) → tokens_of ws ≡ Some ts → length (line n ts) ≤ 65536 → (text_told (line n ts)).fault ≡ None

-- the children of the passage that ends at p are the passages that end where child_ends says
pub record Children : Type 0 where
  pub are : (ws : List Word) (p : ℕ) (s : List ℕ) (ts : Row) → Formed ws → p < length ws → passage_at ws p ≡ over s ts → map (passage_at ws) (child_ends (start_at ws) (count ts) p) ≡ in_order ts
