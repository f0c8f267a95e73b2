-- The law of arrangements: whatever calls are made of a book, over whatever pairs its register held, and whatever labels the words have.
-- Calls and answers, and the words taken as they follow from these, are defined in Arrangements.antt; passages in Passages.antt and Tops.antt;
-- a repeat and a listing in Repeats.antt; a register's numbers of pairs in Groups.antt.
use Rattle.std.specs.Prelude.{◌≡◌, ℕ, ◌+◌, ◌*◌, ◌<◌, ◌≤◌, ◌⊎◌, ◌↔◌, List, [], ◌∷◌, ◌++◌, length, drop, Ok, Err, slice_index_or}
use Rattle.std.proofs.Math.ListN as list_of
use Rattle.names.specs.declared.refusals.Refusal.TheVariants.{NoSuchRepeat, TableTooShort}
use Rattle.registers.specs.declared.pairs.Pair.{Pair}
use Rattle.book.specs.declared.linking.Listed.{Listed}
use Rattle.book.specs.Words.{Word, spelled}
use Rattle.book.specs.Passages.{count, size}
use Rattle.book.specs.Tops as top
use Rattle.book.specs.Groups.{registered}
use Rattle.book.specs.Repeats.{◌among◌, first, SamePassage, Listing}
use Rattle.book.specs.Arrangements.{Asked, take, group, repeats, list, Said, taken, counted, told, listed, not_allowed, words_of, words_taken, answers}

-- A group number g is given out at position p by the taking of its word, which stands behind the n words taken before,
-- by a question at p, and by listing a repeat that ends there.

abbrev pub ByTaking : ℕ → Said → ℕ → ℕ → Type 0
ByTaking n (taken (Ok x)) p g = (p ≡ n) × (g ≡ x.0)
ByTaking n a p g = ⊥

abbrev pub ByQuestion : ℕ → Said → ℕ → ℕ → Type 0
ByQuestion q (told (Ok h)) p g = (p ≡ q) × (g ≡ h)
ByQuestion q a p g = ⊥

abbrev pub ByListing : Said → ℕ → ℕ → Type 0
ByListing (listed (Ok l) table) p g = (p among list_of.take l.count table) × (g ≡ l.group)
ByListing a p g = ⊥

abbrev pub Gives : ℕ → Asked → Said → ℕ → ℕ → Type 0
Gives n (take w) a p g = ByTaking n a p g
Gives n (group q) a p g = ByQuestion q a p g
Gives n (list k table) a p g = ByListing a p g
Gives n c a p g = ⊥

-- somewhere in the arrangement, the first call of which finds n words
abbrev pub GivenOut : ℕ → List Asked → List Said → ℕ → ℕ → Type 0
GivenOut n [] said p g = ⊥
GivenOut n (c ∷ cs) [] p g = ⊥
GivenOut n (c ∷ cs) (a ∷ said) p g = Gives n c a p g ⊎ GivenOut (n + length (words_of c a)) cs said p g

-- What a closed book tells of its repeats, if ls are their ends: how many there are, and for repeat k its size and all its ends,
-- with which the table then begins, and nothing else of it changes. It is refused where there is no repeat k, or the table is too short, and then the table is as it was.

pub record Lists (ws : List Word) (es before : List ℕ) (l : Listed) (after : List ℕ) : Type 0 where
  pub ends : after ≡ es ++ drop (length es) before
  pub count : l.count ≡ length es
  pub size : l.size ≡ size (top.passage_at ws (first es))

abbrev pub OnRepeats : List (List ℕ) → Said → Type 0
OnRepeats ls (counted m) = m ≡ length ls
OnRepeats ls not_allowed = Unit {0}
OnRepeats ls a = ⊥

abbrev pub OnList : List Word → List (List ℕ) → ℕ → List ℕ → Said → Type 0
OnList ws ls k before (listed (Ok l) after) = (k < length ls) × Lists ws (slice_index_or ls k []) before l after
OnList ws ls k before (listed (Err r) after) = (after ≡ before) × (((r ≡ NoSuchRepeat) × (length ls ≤ k)) ⊎ ((r ≡ TableTooShort) × (k < length ls) × (length before < length (slice_index_or ls k []))))
OnList ws ls k before not_allowed = Unit {0}
OnList ws ls k before a = ⊥

abbrev pub TellsRepeats : List Word → List (List ℕ) → Asked → Said → Type 0
TellsRepeats ws ls repeats a = OnRepeats ls a
TellsRepeats ws ls (list k table) a = OnList ws ls k table a
TellsRepeats ws ls c a = Unit {0}

-- At each call: the words taken before it, ws, have a listing, and that is what the call tells of.
abbrev pub ListedThroughout : List Word → List Asked → List Said → Type 0
ListedThroughout ws [] said = Unit {0}
ListedThroughout ws (c ∷ cs) [] = Unit {0}
ListedThroughout ws (c ∷ cs) (a ∷ said) =
    ((ls : List (List ℕ)) × Listing (SamePassage ws) (length ws) ls × TellsRepeats ws ls c a)
    × ListedThroughout (ws ++ words_of c a) cs said

-- The law of the calls cs, made of a book over a register that had the pairs qs and the capacity room, with the answers said, where the register has the pairs rs then.
pub record Law (qs : List Pair) (room : ℕ) (cs : List Asked) (said : List Said) (rs : List Pair) : Type 0 where
  -- each call is answered as defined, and the register has the pairs of the words taken
  pub answered : said ≡ answers qs room cs
  pub pairs : rs ≡ registered qs (words_taken cs said)
  -- every word found its children
  pub formed : top.Formed (words_taken cs said)
  -- any two group numbers given out are equal exactly when the passages ending there are
  pub exact : (p q g h : ℕ) → GivenOut 0 cs said p g → GivenOut 0 cs said q h → (g ≡ h) ↔ SamePassage (words_taken cs said) p q
  -- whenever the book is closed, it lists each repeat of the words taken once, and nothing else
  pub listed : ListedThroughout [] cs said
  -- the pairs added are at most 3 × words taken + numbers spelled − top passages
  pub few : length rs + count (top.tops (words_taken cs said)) ≤ length qs + 3 * length (words_taken cs said) + spelled (words_taken cs said)
