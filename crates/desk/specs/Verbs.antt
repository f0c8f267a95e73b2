-- The first words of calls. Assumes nothing.
use Rattle.std.specs.Prelude.{ℕ, List, [], ◌∷◌, codes, Option}
use Rattle.std.specs.List.{find}
use Rattle.std.specs.Str.{bytes_eq}
use Rattle.desk.specs.declared.verbs.Verb.{Verb}
use Rattle.desk.specs.declared.verbs.Verb.TheVariants.{Read, Written, Sounding, Bare, Take, Close, Reopen, Words, Tops, Group, Start, Repeats, List as Lists}

-- the word that begins a verb's calls
abbrev pub verb_word : Verb → List ℕ
verb_word Read = codes "read"
verb_word Written = codes "written"
verb_word Sounding = codes "sounding"
verb_word Bare = codes "bare"
verb_word Take = codes "take"
verb_word Close = codes "close"
verb_word Reopen = codes "reopen"
verb_word Words = codes "words"
verb_word Tops = codes "tops"
verb_word Group = codes "group"
verb_word Start = codes "start"
verb_word Repeats = codes "repeats"
verb_word Lists = codes "list"

abbrev pub verbs : List Verb
verbs = Read ∷ Written ∷ Sounding ∷ Bare ∷ Take ∷ Close ∷ Reopen ∷ Words ∷ Tops ∷ Group ∷ Start ∷ Repeats ∷ Lists ∷ []

-- the verb that a word is, if any
unfoldable pub verb_named : List ℕ → Option Verb
verb_named w = find (λ v. bytes_eq (verb_word v) w) verbs
