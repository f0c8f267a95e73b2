use Rattle.std.proofs.Common.{◌≡◌, drop, ap, ◌∙◌, arith}
use Rattle.std.proofs.lemmas.List.{take_all, length-drop}
use Rattle.names.specs.Cutting.{same_answer}
use Rattle.names.specs.Tokens.{gap, run}
use Rattle.names.proofs.Cuts.{stretch_from}
use Rattle.names.proofs.texts.stretch_end.Goals as goal

pub returns-in-Some : goal.returns-in-Some
returns-in-Some c =
    let text = c.args.text.now in
    let at = c.args.at in
    let got = c.in-Some.ensures.lookup.0 in
    let rest : c.in-Some.rest.now ≡ drop at text = got.2 ∙ take_all _ (drop at text) (omega (arith, length-drop at text)) in
    stretch_from c.args.gaps text at c.run_len.result got.0 (c.run_len.ensures.value ∙ ap (run (λ b. same_answer (gap b) c.args.gaps)) rest)
