-- What the two lists of names keep.
use Rattle.std.specs.Prelude.{◌≡◌, ℕ, List, length, Ok, codes, ◌≢◌}
use Rattle.names.specs.declared.pitches.Naming.{Naming}
use Rattle.names.specs.declared.pitches.Step.TheVariants.{B}
use Rattle.names.specs.declared.pitches.Alteration.TheVariants.{Flat}
use Rattle.names.specs.declared.pitches.Pitch.{Pitch}
use Rattle.names.specs.Pitches.{pitches}
use Rattle.names.specs.Names.{name, pitch_read}

pub record NameLists : Type 0 where
  -- there are thirty-five steps and alterations to be named
  pub count : length pitches ≡ 35
  -- no name stands in it twice
  pub once : (n : Naming) (p q : Pitch) → name n p ≡ name n q → p ≡ q
  -- each step and alteration has a name that is read back as it
  pub back : (n : Naming) (p : Pitch) → pitch_read n (name n p) ≡ Ok p
  -- what is read is written back byte for byte, so a pitch has no second name
  pub same : (n : Naming) (bs : List ℕ) (p : Pitch) → pitch_read n bs ≡ Ok p → name n p ≡ bs
  -- H is never B flat
  pub h : (n : Naming) → pitch_read n (codes "H") ≢ Ok (record { step = B; alteration = Flat })
