use Rattle.std.proofs.Common.{◌≡◌, ◌≤◌, ℕ, List, [], ◌∷◌, ◌-◌, length, get_or, take, drop, sym, ap, ◌∙◌, arith}
use Rattle.std.proofs.lemmas.Slice.Eq.{bytes_eq-Decides}
use Rattle.std.proofs.lemmas.List.{nil_from_length, take_all}
use Rattle.std.proofs.lemmas.Bool.Decides.{not_from_Decides}
use Rattle.std.specs.Str.{bytes_eq}
use Rattle.names.specs.Names.{pitch_read}
use Rattle.names.proofs.NameFacts.{that_name, no_step, other_name, nameless_empty, name_lists}
use Rattle.names.proofs.Refusing.{had, lacked_and}
use Rattle.names.proofs.spellings.read_name.Goals as goal

parted : (s : List ℕ) → 1 ≤ length s → s ≡ get_or s 0 0 ∷ take (length s - 1) (drop 1 s)
parted [] h = absurd (omega arith)
parted (b ∷ bs) h = ap (λ xs. b ∷ xs) (sym (take_all (length (b ∷ bs) - 1) bs (omega arith)))

pub returns-in_default : goal.returns-in_default
returns-in_default c = record { value = sym (ap (pitch_read c.args.naming) (nil_from_length c.args.name.now (omega arith)) ∙ nameless_empty c.args.naming); lists = name_lists }

pub returns-in_err-step : goal.returns-in_err-step
returns-in_err-step c =
    let l = lacked_and _ _ _ _ c.from_residual.result c.ok_or.ensures.value c.in_err-step.was c.from_residual.ensures.1 in
    record {
      value = l.1 ∙ sym (ap (pitch_read c.args.naming) (parted c.args.name.now (omega arith)) ∙ no_step c.args.naming _ _ (sym c.lettered.ensures ∙ l.0));
      lists = name_lists;
    }

pub returns-then-eq : goal.returns-then-eq
returns-then-eq c =
    let spelled = c.spelling.result.now in
    let typed = c.args.name.now in
    let same : spelled ≡ typed = (bytes_eq-Decides spelled typed).0 (sym c.eq.ensures ∙ c.if-eq.true) in
    record { value = sym (that_name c.args.naming (record { step = c.in_ok-step.step; alteration = c.altered.result }) typed (sym c.spelling.ensures ∙ same)); lists = name_lists }

pub returns-else-eq : goal.returns-else-eq
returns-else-eq c =
    let spelled = c.spelling.result.now in
    let typed = c.args.name.now in
    let e = parted typed (omega arith) in
    record {
      value =
          sym
          (ap (pitch_read c.args.naming) e
          ∙ other_name c.args.naming _ _ (record { step = c.in_ok-step.step; alteration = c.altered.result })
          (sym c.lettered.ensures ∙ had _ _ _ _ c.ok_or.ensures.value c.in_ok-step.was) (sym c.altered.ensures)
          (λ n. not_from_Decides {P = spelled ≡ typed} (bytes_eq spelled typed) (bytes_eq-Decides spelled typed) (sym c.eq.ensures ∙ c.if-eq.false) (c.spelling.ensures ∙ n ∙ sym e)));
      lists = name_lists;
    }
