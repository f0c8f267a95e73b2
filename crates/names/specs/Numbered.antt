-- Names read and written by plain numbers: what a program in C gets. Assumes nothing.
use Rattle.std.specs.Prelude.{ℕ, List, ℤ, Some, None, Ok, Err, Option, Result}
use Rattle.names.specs.declared.pitches.Naming.{Naming}
use Rattle.names.specs.declared.pitches.Step.{Step}
use Rattle.names.specs.declared.pitches.Alteration.{Alteration}
use Rattle.names.specs.declared.pitches.Pitch.{Pitch}
use Rattle.names.specs.declared.refusals.Refusal.{Refusal}
use Rattle.names.specs.declared.refusals.Refusal.TheVariants.{OutOfRange}
use Rattle.names.specs.Buffers.{written}
use Rattle.names.specs.Names.{name, pitch_read, name_written}
use Rattle.names.specs.Pitches.{step_number, alteration_number}
use Rattle.names.specs.Refusals.{number}

-- 0 for an answer, and else the refusal's number
abbrev pub code : {X : Type 0} → Result X Refusal → ℕ
code (Ok x) = 0
code (Err r) = number r

-- what an answer puts into the caller's variables; a refusal leaves them
abbrev pub step_or : Result Pitch Refusal → ℕ → ℕ
step_or (Ok p) old = step_number p.step
step_or (Err r) old = old

abbrev pub alteration_or : Result Pitch Refusal → ℤ → ℤ
alteration_or (Ok p) old = alteration_number p.alteration
alteration_or (Err r) old = old

abbrev pub count_or : Result ℕ Refusal → ℕ → ℕ
count_or (Ok n) old = n
count_or (Err r) old = old

abbrev pub read_in : Option Naming → List ℕ → Result Pitch Refusal
read_in None bs = Err OutOfRange
read_in (Some n) bs = pitch_read n bs

abbrev pub pitch_of : Option Step → Option Alteration → Option Pitch
pitch_of None a = None
pitch_of (Some s) None = None
pitch_of (Some s) (Some a) = Some (record { step = s; alteration = a })

abbrev pub written_in : Option Naming → Option Pitch → List ℕ → Result ℕ Refusal
written_in None p out = Err OutOfRange
written_in (Some n) None out = Err OutOfRange
written_in (Some n) (Some p) out = name_written n p out

abbrev pub buffer_in : Option Naming → Option Pitch → List ℕ → List ℕ
buffer_in None p out = out
buffer_in (Some n) None out = out
buffer_in (Some n) (Some p) out = written out 0 (name n p)
