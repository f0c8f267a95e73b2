-- The note reader finds a note's name, octave and stroke.
use Rattle.std.proofs.Common.{◌≡◌, ℕ, ◌+◌, ◌-◌, ◌<◌, ◌≤◌, Bool, true, false, cond, not, ◌&&◌, eqb, List, [], ◌∷◌, length, get_or, drop, sym, refl, ap, ◌∙◌, one-add, arith}
use Rattle.std.specs.Char.{is_ascii_digit}
use Rattle.std.proofs.lemmas.List.{at_drop_more}
use Rattle.names.specs.declared.notes.Part.{Part}
use Rattle.names.specs.declared.notes.Part.TheVariants.{Name, Octave, Stroke, Length, Amiss}
use Rattle.names.specs.declared.notes.NoteReader.{NoteReader}
use Rattle.names.specs.Scanned.{start, onward, stepped, stepped_at, scanned, struck}
use Rattle.names.specs.Tokens.{run, tailed}

pub scan_more : (r : NoteReader) (bs : List ℕ) (i : ℕ) → i < length bs → scanned r (drop i bs) ≡ scanned (stepped r (get_or bs i 0)) (drop (i + 1) bs)
unfolding scanned
scan_more r bs i h = at_drop_more (scanned r) bs i 0 h

named_at : (p : Part) (r : NoteReader) (b : ℕ) → (stepped_at p r b).name ≤ r.name + 1
named_at Name r b = by (is_ascii_digit b)
  where
    by : (t : Bool) → (cond {A = NoteReader} t (record { part = Octave; name = r.name; octave = b - 48 }) (record { part = Name; name = r.name + 1; octave = r.octave })).name ≤ r.name + 1
    by true = omega arith
    by false = omega arith
named_at Octave r b = by (eqb b 47)
  where
    by : (t : Bool) → (cond t (onward Stroke r) (onward Amiss r)).name ≤ r.name + 1
    by true = omega arith
    by false = omega arith
named_at Stroke r b = omega arith
named_at Length r b = omega arith
named_at Amiss r b = omega arith

pub named_more : (r : NoteReader) (b : ℕ) → (stepped r b).name ≤ r.name + 1
named_more r b = named_at r.part r b

abbrev reader : Part → ℕ → ℕ → NoteReader
reader p k o = record { part = p; name = k; octave = o }

after_length : (bs : List ℕ) (k o : ℕ) → scanned (reader Length k o) bs ≡ reader Length k o
unfolding scanned
after_length [] k o = refl
after_length (b ∷ bs) k o = after_length bs k o

after_amiss : (bs : List ℕ) (k o : ℕ) → scanned (reader Amiss k o) bs ≡ reader Amiss k o
unfolding scanned
after_amiss [] k o = refl
after_amiss (b ∷ bs) k o = after_amiss bs k o

-- what the reader knows at the end: k bytes of name, the octave o if the stroke was read
pub record Parted (r : NoteReader) (k o : ℕ) (t : Bool) : Type 0 where
  pub name : r.name ≡ k
  pub struck : struck r.part ≡ t
  pub octave : r.octave ≡ o

after_stroke : (bs : List ℕ) (k o : ℕ) → Parted (scanned (reader Stroke k o) bs) k o true
unfolding scanned
after_stroke [] k o = record { name = refl; struck = refl; octave = refl }
after_stroke (b ∷ bs) k o = rw (after_length bs k o) (record { name = refl; struck = refl; octave = refl })

after_octave : (bs : List ℕ) (k o : ℕ) → Parted (scanned (reader Octave k o) bs) k o (eqb (get_or bs 0 0) 47)
unfolding scanned
after_octave [] k o = record { name = refl; struck = refl; octave = refl }
after_octave (b ∷ bs) k o = by (eqb b 47)
  where
    by : (t : Bool) → Parted (scanned (cond t (reader Stroke k o) (reader Amiss k o)) bs) k o t
    by true = after_stroke bs k o
    by false = rw (after_amiss bs k o) (record { name = refl; struck = refl; octave = refl })

abbrev pub digitless : ℕ → Bool
digitless b = not (is_ascii_digit b)

-- the octave counts only behind a name that is followed by a digit
pub record Apart (r : NoteReader) (k : ℕ) (tail : List ℕ) : Type 0 where
  pub name : r.name ≡ k
  pub struck : struck r.part ≡ tailed tail
  pub octave : tailed tail ≡ true → r.octave ≡ get_or tail 0 0 - 48

scan_from : (bs : List ℕ) (k : ℕ) → Apart (scanned (reader Name k 0) bs) (k + run digitless bs) (drop (run digitless bs) bs)
unfolding scanned
scan_from [] k = record { name = omega arith; struck = refl; octave = λ t. absurd (grind arith) }
scan_from (b ∷ bs) k = by (is_ascii_digit b) refl (after_octave bs k (b - 48)) (scan_from bs (k + 1))
  where
    by : (t : Bool) → is_ascii_digit b ≡ t → Parted (scanned (reader Octave k (b - 48)) bs) k (b - 48) (eqb (get_or bs 0 0) 47) → Apart (scanned (reader Name (k + 1) 0) bs) (k + 1 + run digitless bs) (drop (run digitless bs) bs) → Apart (scanned (cond t (reader Octave k (b - 48)) (reader Name (k + 1) 0)) bs) (k + cond (not t) (1 + run digitless bs) 0) (drop (cond (not t) (1 + run digitless bs) 0) (b ∷ bs))
    by true e p more = record { name = let n = p.name in omega arith; struck = p.struck ∙ ap (λ t. t && eqb (get_or bs 0 0) 47) (sym e); octave = λ t. p.octave }
    by false e p more =
        let n : k + 1 + run digitless bs ≡ k + (1 + run digitless bs) = omega arith in
        let d : drop (1 + run digitless bs) (b ∷ bs) ≡ drop (run digitless bs) bs = rw one-add refl in
        rw (← n, d) more

pub scan_parts : (bs : List ℕ) → Apart (scanned start bs) (run digitless bs) (drop (run digitless bs) bs)
scan_parts bs = let n : 0 + run digitless bs ≡ run digitless bs = omega arith in rw n at (scan_from bs 0)
