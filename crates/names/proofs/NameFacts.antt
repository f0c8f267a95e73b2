-- What the two lists of names keep.
use Rattle.std.proofs.Common.{◌≡◌, ℕ, Bool, true, not, leb, List, [], ◌∷◌, length, get_or, drop, Some, None, Ok, Err, codes, Option, sym, refl, ap, ◌∙◌, arith}
use Rattle.std.proofs.lemmas.Slice.Eq.{bytes_eq-Decides}
use Rattle.std.specs.Option.{ok_or}
use Rattle.std.specs.Char.{is_ascii_digit, is_ascii_uppercase}
use Rattle.std.specs.Str.{bytes_eq}
use Rattle.names.specs.declared.refusals.Refusal.TheVariants.{UnknownName}
use Rattle.names.specs.NameLaws.{NameLists}
use Rattle.names.specs.Pitches.{pitches}
use Rattle.names.proofs.Picks.{pick_passes}
use Rattle.names.specs.declared.pitches.Naming.{Naming}
use Rattle.names.specs.declared.pitches.Naming.TheVariants.{English, German}
use Rattle.names.specs.declared.pitches.Step.{Step}
use Rattle.names.specs.declared.pitches.Step.TheVariants.{C, D, E, F, G, A, B}
use Rattle.names.specs.declared.pitches.Alteration.{Alteration}
use Rattle.names.specs.declared.pitches.Alteration.TheVariants.{DoubleFlat, Flat, Natural, Sharp, DoubleSharp}
use Rattle.names.specs.declared.pitches.Pitch.{Pitch}
use Rattle.names.specs.Names.{name, pitch_named, pitch_read}
use Rattle.names.specs.Tokens.{each}
use Rattle.names.specs.Letters.{lettered_step, alteration_at}

-- what is found of a pitch's name: the pitch that the list gives back, the step and the alteration that its parts
-- point to, its bytes, and whether it has no digit, begins with a capital letter and is short
abbrev Found : Type 0
Found = Option Pitch × Option Step × Alteration × List ℕ × Bool × Bool × Bool

abbrev found : Naming → Pitch → Found
found n p = (
  pitch_named n (name n p),
  lettered_step n (get_or (name n p) 0 0),
  alteration_at n (get_or (name n p) 0 0) (drop 1 (name n p)),
  name n p,
  each (λ b. not (is_ascii_digit b)) (name n p),
  is_ascii_uppercase (get_or (name n p) 0 0),
  leb (length (name n p)) 5,
)

abbrev due : Naming → Pitch → Found
due n p = (Some p, Some p.step, p.alteration, get_or (name n p) 0 0 ∷ drop 1 (name n p), true, true, true)

abbrev Kept : Naming → Step → Alteration → Type 0
Kept n s a = found n (record { step = s; alteration = a }) ≡ due n (record { step = s; alteration = a })

five : (n : Naming) (s : Step) → Kept n s DoubleFlat → Kept n s Flat → Kept n s Natural → Kept n s Sharp → Kept n s DoubleSharp → (a : Alteration) → Kept n s a
five n s p q r t u DoubleFlat = p
five n s p q r t u Flat = q
five n s p q r t u Natural = r
five n s p q r t u Sharp = t
five n s p q r t u DoubleSharp = u

-- each by computing
kept_at : (n : Naming) (s : Step) (a : Alteration) → Kept n s a
unfolding pitch_named
kept_at English C = five English C refl refl refl refl refl
kept_at English D = five English D refl refl refl refl refl
kept_at English E = five English E refl refl refl refl refl
kept_at English F = five English F refl refl refl refl refl
kept_at English G = five English G refl refl refl refl refl
kept_at English A = five English A refl refl refl refl refl
kept_at English B = five English B refl refl refl refl refl
kept_at German C = five German C refl refl refl refl refl
kept_at German D = five German D refl refl refl refl refl
kept_at German E = five German E refl refl refl refl refl
kept_at German F = five German F refl refl refl refl refl
kept_at German G = five German G refl refl refl refl refl
kept_at German A = five German A refl refl refl refl refl
kept_at German B = five German B refl refl refl refl refl

kept : (n : Naming) (p : Pitch) → found n p ≡ due n p
kept n p = kept_at n p.step p.alteration

pub named : (n : Naming) (p : Pitch) → pitch_named n (name n p) ≡ Some p
named n p = ap (λ x. x.0) (kept n p)

pub lettered : (n : Naming) (p : Pitch) → lettered_step n (get_or (name n p) 0 0) ≡ Some p.step
lettered n p = ap (λ x. x.1) (kept n p)

pub altered : (n : Naming) (p : Pitch) → alteration_at n (get_or (name n p) 0 0) (drop 1 (name n p)) ≡ p.alteration
altered n p = ap (λ x. x.2) (kept n p)

pub whole : (n : Naming) (p : Pitch) → name n p ≡ get_or (name n p) 0 0 ∷ drop 1 (name n p)
whole n p = ap (λ x. x.3) (kept n p)

pub no_digit : (n : Naming) (p : Pitch) → each (λ b. not (is_ascii_digit b)) (name n p) ≡ true
no_digit n p = ap (λ x. x.4) (kept n p)

pub capital : (n : Naming) (p : Pitch) → is_ascii_uppercase (get_or (name n p) 0 0) ≡ true
capital n p = ap (λ x. x.5) (kept n p)

pub short : (n : Naming) (p : Pitch) → leb (length (name n p)) 5 ≡ true
short n p = ap (λ x. x.6) (kept n p)

-- a pitch that the list gives has the name
pub names_it : (n : Naming) (bs : List ℕ) (p : Pitch) → pitch_named n bs ≡ Some p → name n p ≡ bs
unfolding pitch_named
names_it n bs p e = (bytes_eq-Decides (name n p) bs).0 (pick_passes (λ q. bytes_eq (name n q) bs) pitches p e)

pub that_name : (n : Naming) (p : Pitch) (bs : List ℕ) → name n p ≡ bs → pitch_read n bs ≡ Ok p
that_name n p bs e = ap (λ o. ok_or o UnknownName) (ap (pitch_named n) (sym e) ∙ named n p)

pub nameless : (n : Naming) (bs : List ℕ) → ((p : Pitch) → name n p ≡ bs → ⊥) → pitch_read n bs ≡ Err UnknownName
nameless n bs none = by (pitch_named n bs) refl
  where
    by : (o : Option Pitch) → pitch_named n bs ≡ o → ok_or o UnknownName ≡ Err UnknownName
    by None e = refl
    by (Some p) e = absurd (none p (names_it n bs p e))

module _ (n : Naming) (b : ℕ) (bs : List ℕ) where
  first_is : (p : Pitch) → name n p ≡ b ∷ bs → lettered_step n b ≡ Some p.step
  first_is p e = ap (λ xs. lettered_step n (get_or xs 0 0)) (sym e) ∙ lettered n p

  ending_is : (p : Pitch) → name n p ≡ b ∷ bs → alteration_at n b bs ≡ p.alteration
  ending_is p e = ap (λ xs. alteration_at n (get_or xs 0 0) (drop 1 xs)) (sym e) ∙ altered n p

  pub no_step : lettered_step n b ≡ None → pitch_read n (b ∷ bs) ≡ Err UnknownName
  no_step h = nameless n (b ∷ bs) (λ p e. let f = first_is p e in grind arith)

  -- only the pitch that the parts point to can have the name
  pub other_name : (p : Pitch) → lettered_step n b ≡ Some p.step → alteration_at n b bs ≡ p.alteration → (name n p ≡ b ∷ bs → ⊥) → pitch_read n (b ∷ bs) ≡ Err UnknownName
  other_name p s a none =
      nameless n (b ∷ bs)
      (λ q e.
      let f = first_is q e in
      let g = ending_is q e in
      let st : q.step ≡ p.step = cc in
      let al : q.alteration ≡ p.alteration = cc in
      none (ap (λ x. name n (record { step = x; alteration = p.alteration })) (sym st) ∙ ap (λ x. name n (record { step = q.step; alteration = x })) (sym al) ∙ e))

pub nameless_empty : (n : Naming) → pitch_read n [] ≡ Err UnknownName
unfolding pitch_named
nameless_empty English = refl
nameless_empty German = refl

some_same : (p q : Pitch) → ◌≡◌ {A = Option Pitch} (Some p) (Some q) → p ≡ q
some_same p q e = cc

read_named : (n : Naming) (bs : List ℕ) (p : Pitch) → pitch_read n bs ≡ Ok p → pitch_named n bs ≡ Some p
read_named n bs p e = by (pitch_named n bs) e
  where
    by : (o : Option Pitch) → ok_or o UnknownName ≡ Ok p → o ≡ Some p
    by None e = absurd (grind arith)
    by (Some q) e = cc

no_h : (n : Naming) → pitch_read n (codes "H") ≡ Ok (record { step = B; alteration = Flat }) → ⊥
unfolding pitch_named
no_h English e = grind arith
no_h German e = grind arith

pub name_lists : NameLists
name_lists =
    record {
      count = refl;
      once = λ n p q e. let f = sym (named n p) ∙ ap (pitch_named n) e ∙ named n q in some_same p q f;
      back = λ n p. that_name n p (name n p) refl;
      same = λ n bs p e. names_it n bs p (read_named n bs p e);
      h = no_h;
    }
