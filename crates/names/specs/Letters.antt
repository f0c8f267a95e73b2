-- What the parts of a name point to: its first letter to a step, its ending to an alteration. Assumes nothing.
use Rattle.std.specs.Prelude.{ℕ, cond, List, length, Some, None, Option, ◌==◌, slice_index}
use Rattle.names.specs.declared.pitches.Naming.{Naming}
use Rattle.names.specs.declared.pitches.Naming.TheVariants.{English, German}
use Rattle.names.specs.declared.pitches.Step.{Step}
use Rattle.names.specs.declared.pitches.Step.TheVariants.{C, D, E, F, G, A, B}
use Rattle.names.specs.declared.pitches.Alteration.{Alteration}
use Rattle.names.specs.declared.pitches.Alteration.TheVariants.{DoubleFlat, Flat, Natural, Sharp, DoubleSharp}

-- H is a letter of the German names alone, and stands for the step B
abbrev pub step_h : Naming → Option Step
step_h English = None
step_h German = Some B

abbrev pub lettered_step : Naming → ℕ → Option Step
lettered_step n b =
    cond (b == 67) (Some C)
    (cond (b == 68) (Some D)
    (cond (b == 69) (Some E)
    (cond (b == 70) (Some F)
    (cond (b == 71) (Some G)
    (cond (b == 65) (Some A)
    (cond (b == 66) (Some B)
    (cond (b == 72) (step_h n) None)))))))

-- the alteration that an ending points to by its first byte and its length
abbrev pub ended : List ℕ → Alteration
ended bs =
    cond (length bs == 0) Natural
    (cond (slice_index bs 0 == 35) (cond (length bs == 1) Sharp DoubleSharp)
    (cond (slice_index bs 0 == 105) (cond (length bs == 2) Sharp DoubleSharp)
    (cond (slice_index bs 0 == 101) (cond (length bs == 2) Flat DoubleFlat) (cond (length bs == 1) Flat DoubleFlat))))

-- the German B is flat by itself
abbrev pub alteration_at : Naming → ℕ → List ℕ → Alteration
alteration_at English b bs = ended bs
alteration_at German b bs = cond (b == 66) Flat (ended bs)
