-- Tokens of words. Assumes nothing.
use Rattle.std.proofs.Common.{◌≡◌, ℕ, Bool, true, false, cond, ◌&&◌, eqb, leb, List, [], ◌∷◌, Some, None, Option, refl, ap, ◌∙◌, arith}
use Rattle.std.proofs.lemmas.Bool.{and_parts, and_from, eqb-true}
use Rattle.names.specs.declared.keywords.Keyword.{Keyword}
use Rattle.names.specs.declared.keywords.Keyword.TheVariants.{Bar, Verse, Chord, Sung, Score, Soprano, Alto1, Alto2, Tenor, Bass1, Bass2, Organ}
use Rattle.names.specs.declared.pitches.Alteration.{Alteration}
use Rattle.names.specs.declared.pitches.Alteration.TheVariants.{DoubleFlat, Flat, Natural, Sharp, DoubleSharp}
use Rattle.names.specs.declared.pitches.Step.{Step}
use Rattle.names.specs.declared.pitches.Step.TheVariants.{C, D, E, F, G, A, B}
use Rattle.names.specs.Keywords.{keywords, keyword_number, keyword_numbered}
use Rattle.names.specs.Lines.{Typable}
use Rattle.names.specs.Pitches.{alterations, steps, step_number, step_numbered}
use Rattle.names.specs.Tokens.{Said, naming, syllable, note, rest, frame, lasting, sung, syllabled, unless}
use Rattle.names.specs.declared.refusals.Refusal.{Refusal}
use Rattle.names.specs.declared.refusals.Refusal.TheVariants.{NotOfForm, BadOctaveOrLength}
use Rattle.names.proofs.Picks.{pick_passes}
use Rattle.labels.specs.Spellings.{raised}
use Rattle.book.specs.declared.readings.Reading.TheVariants.{Written}
use Rattle.book.specs.Readings.{word_of}
use Rattle.book.specs.Words.{Word, word}
use Rattle.sheets.specs.Typing.{only, lowered, noted, framed, small, as_note, as_rest, as_syllable, as_frame, by_kind, token_of, Bytes}
use Rattle.sheets.specs.SheetLaws.{Types}

-- What is shown of each kind: the token can be typed and gives the word.
record Good (w : Word) (t : Said) : Type 0 where
  typable : Typable t
  gives : word_of Written t ≡ Some w

only_some : {X : Type 0} (b : Bool) (o : Option X) (x : X) → only b o ≡ Some x → (b ≡ true) × (o ≡ Some x)
only_some true o x e = (refl, e)
only_some false o x e = let z : ◌≡◌ {A = ℕ} 0 1 = cc in absurd (omega arith)

never : {X : Type 0} {P : Type 0} (x : X) → None ≡ Some x → P
never x e = let z : ◌≡◌ {A = ℕ} 0 1 = cc in absurd (omega arith)

formed : (b : Bool) (r : Refusal) → b ≡ true → unless b r ≡ None
formed true r e = refl
formed false r e = let z : ◌≡◌ {A = ℕ} 0 1 = cc in absurd (omega arith)

note_good : (s a octave lasts : ℕ) (t : Said) (o : Option Step) (p : Option Alteration) → step_numbered s ≡ o → lowered a ≡ p → sung octave lasts ≡ true → noted o p octave lasts ≡ Some t → Good (word 0 (1 ∷ s ∷ a ∷ octave ∷ lasts ∷ [])) t
note_good s a octave lasts t None p e f h k = never t k
note_good s a octave lasts t (Some step) None e f h k = never t k
note_good s a octave lasts t (Some step) (Some alteration) e f h k =
    let is : note (record { step = step; alteration = alteration }) octave lasts ≡ t = cc in
    let n : step_number step ≡ s = eqb-true _ _ (pick_passes (λ x. eqb (step_number x) s) steps step e) in
    let m : raised alteration ≡ a = eqb-true _ _ (pick_passes (λ x. eqb (raised x) a) alterations alteration f) in
    rw (← is, ← n, ← m) (record { typable = record { word = refl; formed = formed (sung octave lasts) BadOctaveOrLength h }; gives = refl })

rest_good : (rank : ℕ) (ns : List ℕ) (t : Said) → rank ≡ 0 → as_rest ns ≡ Some t → Good (word rank (2 ∷ ns)) t
rest_good rank [] t z k = never t k
rest_good rank (lasts ∷ []) t z k =
    let o = only_some (lasting lasts) (Some (rest lasts)) t k in
    let is : rest lasts ≡ t = cc o.1 in
    rw (z, ← is) (record { typable = record { word = refl; formed = formed (lasting lasts) BadOctaveOrLength o.0 }; gives = refl })
rest_good rank (lasts ∷ n ∷ ns) t z k = never t k

written_good : (rank : ℕ) (ns : List ℕ) (t : Said) → rank ≡ 0 → as_note ns ≡ Some t → Good (word rank (1 ∷ ns)) t
written_good rank [] t z k = never t k
written_good rank (s ∷ []) t z k = never t k
written_good rank (s ∷ a ∷ []) t z k = never t k
written_good rank (s ∷ a ∷ octave ∷ []) t z k = never t k
written_good rank (s ∷ a ∷ octave ∷ lasts ∷ []) t z k =
    let o = only_some (sung octave lasts) (noted (step_numbered s) (lowered a) octave lasts) t k in
    rw z (note_good s a octave lasts t (step_numbered s) (lowered a) refl refl o.0 o.1)
written_good rank (s ∷ a ∷ octave ∷ lasts ∷ n ∷ ns) t z k = never t k

syllable_good : (rank : ℕ) (ns : List ℕ) (t : Said) → rank ≡ 0 → as_syllable ns ≡ Some t → Good (word rank (3 ∷ ns)) t
syllable_good rank ns t z k =
    let o = only_some (syllabled ns && small ns) (Some (syllable ns)) t k in
    let is : syllable ns ≡ t = cc o.1 in
    rw (z, ← is) (record { typable = record { word = refl; formed = formed (syllabled ns) NotOfForm (and_parts (syllabled ns) (small ns) o.0).0 }; gives = refl })

frame_good : (rank k : ℕ) (t : Said) (o : Option Keyword) → keyword_numbered k ≡ o → leb rank 255 ≡ true → framed o rank ≡ Some t → Good (word rank (4 ∷ k ∷ [])) t
frame_good rank k t None e h f = never t f
frame_good rank k t (Some w) e h f =
    let is : frame w rank ≡ t = cc in
    let n : keyword_number w ≡ k = eqb-true _ _ (pick_passes (λ x. eqb (keyword_number x) k) keywords w e) in
    rw (← is, ← n) (record { typable = record { word = refl; formed = formed (leb rank 255) NotOfForm h }; gives = refl })

framed_good : (rank : ℕ) (ns : List ℕ) (t : Said) → as_frame rank ns ≡ Some t → Good (word rank (4 ∷ ns)) t
framed_good rank [] t k = never t k
framed_good rank (n ∷ []) t k =
    let o = only_some (leb rank 255) (framed (keyword_numbered n) rank) t k in
    frame_good rank n t (keyword_numbered n) refl o.0 o.1
framed_good rank (n ∷ m ∷ ns) t k = never t k

kind_good : (rank kind : ℕ) (ns : List ℕ) (t : Said) → by_kind rank (kind ∷ ns) ≡ Some t → Good (word rank (kind ∷ ns)) t
kind_good rank kind ns t e = one (eqb kind 1) refl e
  where
    zero_rank : {x : Option Said} → only (eqb rank 0) x ≡ Some t → (rank ≡ 0) × (x ≡ Some t)
    zero_rank {x} k = let o = only_some (eqb rank 0) x t k in (eqb-true rank 0 o.0, o.1)

    four : (b : Bool) → eqb kind 4 ≡ b → cond b (as_frame rank ns) None ≡ Some t → Good (word rank (kind ∷ ns)) t
    four true is k = rw (eqb-true kind 4 is) (framed_good rank ns t k)
    four false is k = never t k

    three : (b : Bool) → eqb kind 3 ≡ b → cond b (only (eqb rank 0) (as_syllable ns)) (cond (eqb kind 4) (as_frame rank ns) None) ≡ Some t → Good (word rank (kind ∷ ns)) t
    three true is k = let o = zero_rank k in rw (eqb-true kind 3 is) (syllable_good rank ns t o.0 o.1)
    three false is k = four (eqb kind 4) refl k

    two : (b : Bool) → eqb kind 2 ≡ b → cond b (only (eqb rank 0) (as_rest ns)) (cond (eqb kind 3) (only (eqb rank 0) (as_syllable ns)) (cond (eqb kind 4) (as_frame rank ns) None)) ≡ Some t → Good (word rank (kind ∷ ns)) t
    two true is k = let o = zero_rank k in rw (eqb-true kind 2 is) (rest_good rank ns t o.0 o.1)
    two false is k = three (eqb kind 3) refl k

    one : (b : Bool) → eqb kind 1 ≡ b → cond b (only (eqb rank 0) (as_note ns)) (cond (eqb kind 2) (only (eqb rank 0) (as_rest ns)) (cond (eqb kind 3) (only (eqb rank 0) (as_syllable ns)) (cond (eqb kind 4) (as_frame rank ns) None))) ≡ Some t → Good (word rank (kind ∷ ns)) t
    one true is k = let o = zero_rank k in rw (eqb-true kind 1 is) (written_good rank ns t o.0 o.1)
    one false is k = two (eqb kind 2) refl k

spelled_good : (rank : ℕ) (sp : List ℕ) (t : Said) → by_kind rank sp ≡ Some t → Good (word rank sp) t
spelled_good rank [] t e = never t e
spelled_good rank (kind ∷ ns) t e = kind_good rank kind ns t e

word_good : (w : Word) (t : Said) → token_of w ≡ Some t → Good w t
unfolding token_of
word_good w t e = spelled_good w.rank w.spelling t e

-- every token that can be typed is that of its word
unformed : (b : Bool) (r : Refusal) → unless b r ≡ None → b ≡ true
unformed true r e = refl
unformed false r e = let z : ◌≡◌ {A = ℕ} 0 1 = cc in absurd (omega arith)

step_again : (s : Step) → step_numbered (step_number s) ≡ Some s
step_again C = refl
step_again D = refl
step_again E = refl
step_again F = refl
step_again G = refl
step_again A = refl
step_again B = refl

alteration_again : (a : Alteration) → lowered (raised a) ≡ Some a
alteration_again DoubleFlat = refl
alteration_again Flat = refl
alteration_again Natural = refl
alteration_again Sharp = refl
alteration_again DoubleSharp = refl

keyword_again : (k : Keyword) → keyword_numbered (keyword_number k) ≡ Some k
keyword_again Bar = refl
keyword_again Verse = refl
keyword_again Chord = refl
keyword_again Sung = refl
keyword_again Score = refl
keyword_again Soprano = refl
keyword_again Alto1 = refl
keyword_again Alto2 = refl
keyword_again Tenor = refl
keyword_again Bass1 = refl
keyword_again Bass2 = refl
keyword_again Organ = refl

all_tokens : (t : Said) (w : Word) → Typable t → Bytes t → word_of Written t ≡ Some w → token_of w ≡ Some t
unfolding token_of
all_tokens (naming n) w h b e = never w e
all_tokens (syllable s) w h b e =
    let is : word 0 (3 ∷ s) ≡ w = cc in
    let fits : (syllabled s && small s) ≡ true = and_from (syllabled s) (small s) (unformed (syllabled s) NotOfForm h.formed) b in
    rw (← is) (ap (λ x. only x (Some (syllable s))) fits)
all_tokens (note p octave lasts) w h b e =
    let is : word 0 (1 ∷ step_number p.step ∷ raised p.alteration ∷ octave ∷ lasts ∷ []) ≡ w = cc in
    rw (← is) (ap (λ x. only x (noted (step_numbered (step_number p.step)) (lowered (raised p.alteration)) octave lasts)) (unformed (sung octave lasts) BadOctaveOrLength h.formed)
    ∙ (ap (λ o. noted o (lowered (raised p.alteration)) octave lasts) (step_again p.step) ∙ ap (λ o. noted (Some p.step) o octave lasts) (alteration_again p.alteration)))
all_tokens (rest lasts) w h b e =
    let is : word 0 (2 ∷ lasts ∷ []) ≡ w = cc in
    rw (← is) (ap (λ x. only x (Some (rest lasts))) (unformed (lasting lasts) BadOctaveOrLength h.formed))
all_tokens (frame k rank) w h b e =
    let is : word rank (4 ∷ keyword_number k ∷ []) ≡ w = cc in
    rw (← is) (ap (λ x. only x (framed (keyword_numbered (keyword_number k)) rank)) (unformed (leb rank 255) NotOfForm h.formed) ∙ ap (λ o. framed o rank) (keyword_again k))

pub types : Types
types = record { typable = λ w t e. (word_good w t e).typable; gives = λ w t e. (word_good w t e).gives; all = all_tokens }
