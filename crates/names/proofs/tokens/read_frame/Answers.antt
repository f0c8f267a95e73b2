use Rattle.std.proofs.Common.{drop, Some, None, sym, refl, ap, ◌∙◌}
use Rattle.names.specs.Keywords.{keyword_named}
use Rattle.names.specs.Tokens.{rank_read}
use Rattle.names.proofs.Reading.{frame_parts}
use Rattle.names.proofs.Refusing.{had, lacked_and}
use Rattle.names.proofs.tokens.read_frame.Goals as goal

pub returns-in_err-keyword : goal.returns-in_err-keyword
returns-in_err-keyword c =
    let bs = c.args.bytes.now in
    let k = c.before_colon.result in
    let l = lacked_and _ _ _ _ c.from_residual.result c.ok_or.ensures.value c.in_err-keyword.was c.from_residual.ensures.1 in
    let f = ap keyword_named (sym c.split_at.ensures.front) ∙ sym c.named.ensures ∙ l.0 in
    rw l.1 (record { value = sym (frame_parts bs k None (rank_read (drop 1 (drop k bs))) c.before_colon.ensures.value f refl); borrows = tt })

pub returns-in_err-rank : goal.returns-in_err-rank
returns-in_err-rank c =
    let bs = c.args.bytes.now in
    let k = c.before_colon.result in
    let l = lacked_and _ _ _ _ c.from_residual-in_err-rank.result c.ok_or-2.ensures.value c.in_err-rank.was c.from_residual-in_err-rank.ensures.1 in
    let f = ap keyword_named (sym c.split_at.ensures.front) ∙ sym c.named.ensures ∙ had _ _ _ _ c.ok_or.ensures.value c.in_ok-keyword.was in
    let g = ap rank_read (ap (drop 1) (sym c.split_at.ensures.back) ∙ sym c.after_first.ensures) ∙ sym c.read_number.ensures ∙ l.0 in
    rw l.1 (record { value = sym (frame_parts bs k (Some c.in_ok-keyword.keyword) None c.before_colon.ensures.value f g); borrows = tt })

pub returns : goal.returns
returns c =
    let bs = c.args.bytes.now in
    let k = c.before_colon.result in
    let f = ap keyword_named (sym c.split_at.ensures.front) ∙ sym c.named.ensures ∙ had _ _ _ _ c.ok_or.ensures.value c.in_ok-keyword.was in
    let g = ap rank_read (ap (drop 1) (sym c.split_at.ensures.back) ∙ sym c.after_first.ensures) ∙ sym c.read_number.ensures ∙ had _ _ _ _ c.ok_or-2.ensures.value c.in_ok-rank.was in
    record { value = sym (frame_parts bs k (Some c.in_ok-keyword.keyword) (Some c.in_ok-rank.rank) c.before_colon.ensures.value f g); borrows = tt }
