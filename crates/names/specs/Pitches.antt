-- The numbers of namings, steps and alterations. Assumes nothing.
use Rattle.std.specs.Prelude.{ℕ, Bool, false, List, [], ◌∷◌, map, ℤ, pos, negsuc, codes, Option, ◌==◌, nat_eq}
use Rattle.std.specs.List.{flat_map}
use Rattle.std.specs.Str.{bytes_eq}
use Rattle.names.specs.declared.pitches.Naming.{Naming}
use Rattle.names.specs.declared.pitches.Naming.TheVariants.{English, German}
use Rattle.names.specs.declared.pitches.Step.{Step}
use Rattle.names.specs.declared.pitches.Step.TheVariants.{C, D, E, F, G, A, B}
use Rattle.names.specs.declared.pitches.Alteration.{Alteration}
use Rattle.names.specs.declared.pitches.Alteration.TheVariants.{DoubleFlat, Flat, Natural, Sharp, DoubleSharp}
use Rattle.names.specs.declared.pitches.Pitch.{Pitch}
use Rattle.names.specs.Choice.{pick}

abbrev pub naming_number : Naming → ℕ
naming_number English = 0
naming_number German = 1

-- the word that sets the naming in a text
abbrev pub naming_word : Naming → List ℕ
naming_word English = codes "english"
naming_word German = codes "german"

abbrev pub step_number : Step → ℕ
step_number C = 0
step_number D = 1
step_number E = 2
step_number F = 3
step_number G = 4
step_number A = 5
step_number B = 6

-- in half tones up from the step
abbrev pub alteration_number : Alteration → ℤ
alteration_number DoubleFlat = negsuc 1
alteration_number Flat = negsuc 0
alteration_number Natural = pos 0
alteration_number Sharp = pos 1
alteration_number DoubleSharp = pos 2

abbrev pub namings : List Naming
namings = English ∷ German ∷ []

abbrev pub steps : List Step
steps = C ∷ D ∷ E ∷ F ∷ G ∷ A ∷ B ∷ []

abbrev pub alterations : List Alteration
alterations = DoubleFlat ∷ Flat ∷ Natural ∷ Sharp ∷ DoubleSharp ∷ []

abbrev pub pitches : List Pitch
pitches = flat_map (λ s. map (λ a. record { step = s; alteration = a }) alterations) steps

abbrev pub sameℤ : ℤ → ℤ → Bool
sameℤ (pos m) (pos n) = m == n
sameℤ (pos m) (negsuc n) = false
sameℤ (negsuc m) (pos n) = false
sameℤ (negsuc m) (negsuc n) = m == n

-- the naming that a word sets, if any
abbrev pub naming_named : List ℕ → Option Naming
naming_named bs = pick (λ n. bytes_eq (naming_word n) bs) namings

-- the naming, step and alteration that have a number, if any
abbrev pub naming_numbered : ℕ → Option Naming
naming_numbered n = pick (λ x. nat_eq (naming_number x) n) namings

abbrev pub step_numbered : ℕ → Option Step
step_numbered n = pick (λ x. nat_eq (step_number x) n) steps

abbrev pub alteration_numbered : ℤ → Option Alteration
alteration_numbered z = pick (λ x. sameℤ (alteration_number x) z) alterations
