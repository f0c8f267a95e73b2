use Rattle.std.proofs.Common.{◌∙◌, subst, arith}
use Rattle.names.specs.Cutting.{Ended}
use Rattle.names.proofs.Cuts.{pieces_skip, pieces_token, pieces_none, token_ends}
use Rattle.names.proofs.texts.next_cut.Goals as goal

pub returns-then-end-byte : goal.returns-then-end-byte
returns-then-end-byte c =
    pieces_none c.args.text.now c.args.at c.stretch_end-byte.result c.stretch_end-byte.ensures
    (subst (λ e. Ended c.args.text.now c.stretch_end-byte.result e) c.if-end-byte.true c.stretch_end-end.ensures)

pub returns : goal.returns
returns c =
    let text = c.args.text.now in
    let from = c.stretch_end-byte.result in
    let to = c.stretch_end-end.result in
    let f = c.stretch_end-end.ensures.forth in
    let n = c.if-end-byte.false in (
      pieces_skip text c.args.at from c.stretch_end-byte.ensures ∙ pieces_token text from to c.stretch_end-end.ensures (omega arith),
      token_ends text from to c.stretch_end-end.ensures (omega arith),
    )
