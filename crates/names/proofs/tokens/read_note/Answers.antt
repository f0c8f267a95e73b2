use Rattle.std.proofs.Common.{length, drop, Some, None, Ok, sym, ap, ◌∙◌, arith}
use Rattle.std.proofs.lemmas.Result.{err_from_is_err_and}
use Rattle.names.specs.Names.{pitch_read}
use Rattle.names.specs.Tokens.{note, note_tail, note_read, length_read}
use Rattle.names.proofs.Reading.{name_within, front_is, back_is, struck_is, octave_is, tail_long, note_nameless, note_tailless, note_tailed}
use Rattle.names.proofs.Refusing.{had, lacked_and}
use Rattle.names.proofs.tokens.read_note.Goals as goal

pub returns-in_err-naming : goal.returns-in_err-naming
unfolding note_read
returns-in_err-naming c =
    let l = lacked_and _ _ _ _ c.from_residual.result c.ok_or.ensures.value c.in_err-naming.was c.from_residual.ensures.1 in
    rw l.1 (record { value = ap (λ n. note_read n c.args.bytes.now) (sym l.0); borrows = tt })

pub split_at-requires : goal.split_at-requires
split_at-requires c = name_within c.args.bytes.now c.scan-reader.result c.scan-reader.ensures

pub returns-in_err-pitch : goal.returns-in_err-pitch
returns-in_err-pitch c =
    let p = err_from_is_err_and c.from_residual-in_err-pitch.result c.from_residual-in_err-pitch.ensures.1 in
    let i = had _ _ _ _ c.ok_or.ensures.value c.in_ok-naming.was in
    let n = ap (pitch_read c.in_ok-naming.naming) (sym (c.split_at.ensures.front ∙ front_is c.args.bytes.now c.scan-reader.result c.scan-reader.ensures)) ∙ sym c.read_name.ensures.value ∙ c.in_err-pitch.was in
    rw (p.1, p.2) (record { value = sym (ap (λ x. note_read x c.args.bytes.now) i ∙ note_nameless c.in_ok-naming.naming c.args.bytes.now c.in_err-pitch.field-0.0 n); borrows = tt })

pub returns-then-not-is_struck : goal.returns-then-not-is_struck
returns-then-not-is_struck c =
    let bs = c.args.bytes.now in
    let i = had _ _ _ _ c.ok_or.ensures.value c.in_ok-naming.was in
    let n = ap (pitch_read c.in_ok-naming.naming) (sym (c.split_at.ensures.front ∙ front_is bs c.scan-reader.result c.scan-reader.ensures)) ∙ sym c.read_name.ensures.value ∙ c.in_ok-pitch.was in
    let t = sym (struck_is bs c.scan-reader.result c.scan-reader.ensures) ∙ sym c.is_struck.ensures ∙ c.if-not-is_struck.true in
    record { value = sym (ap (λ x. note_read x bs) i ∙ note_tailless c.in_ok-naming.naming bs c.in_ok-pitch.pitch n t); borrows = tt }

pub split_at-requires-2 : goal.split_at-requires-2
split_at-requires-2 c =
    let bs = c.args.bytes.now in
    let t = sym (struck_is bs c.scan-reader.result c.scan-reader.ensures) ∙ sym c.is_struck.ensures ∙ c.if-not-is_struck.false in
    let l = tail_long (note_tail bs) t in
    let e = ap length (c.split_at.ensures.back ∙ back_is bs c.scan-reader.result c.scan-reader.ensures) in
    omega arith

pub returns-in_err-length : goal.returns-in_err-length
returns-in_err-length c =
    let bs = c.args.bytes.now in
    let x = lacked_and _ _ _ _ c.from_residual-in_err-length.result c.ok_or-2.ensures.value c.in_err-length.was c.from_residual-in_err-length.ensures.1 in
    let i = had _ _ _ _ c.ok_or.ensures.value c.in_ok-naming.was in
    let n = ap (pitch_read c.in_ok-naming.naming) (sym (c.split_at.ensures.front ∙ front_is bs c.scan-reader.result c.scan-reader.ensures)) ∙ sym c.read_name.ensures.value ∙ c.in_ok-pitch.was in
    let t = sym (struck_is bs c.scan-reader.result c.scan-reader.ensures) ∙ sym c.is_struck.ensures ∙ c.if-not-is_struck.false in
    let b = c.split_at.ensures.back ∙ back_is bs c.scan-reader.result c.scan-reader.ensures in
    let l = ap length_read (ap (drop 2) (sym b) ∙ sym c.split_at-2.ensures.back) ∙ sym c.read_number.ensures ∙ x.0 in
    rw x.1 (record { value = sym (ap (λ x. note_read x bs) i ∙ note_tailed c.in_ok-naming.naming bs c.in_ok-pitch.pitch None n t l); borrows = tt })

pub returns : goal.returns
returns c =
    let bs = c.args.bytes.now in
    let i = had _ _ _ _ c.ok_or.ensures.value c.in_ok-naming.was in
    let f = c.split_at.ensures.front ∙ front_is bs c.scan-reader.result c.scan-reader.ensures in
    let n = ap (pitch_read c.in_ok-naming.naming) (sym f) ∙ sym c.read_name.ensures.value ∙ c.in_ok-pitch.was in
    let t = sym (struck_is bs c.scan-reader.result c.scan-reader.ensures) ∙ sym c.is_struck.ensures ∙ c.if-not-is_struck.false in
    let b = c.split_at.ensures.back ∙ back_is bs c.scan-reader.result c.scan-reader.ensures in
    let l = ap length_read (ap (drop 2) (sym b) ∙ sym c.split_at-2.ensures.back) ∙ sym c.read_number.ensures ∙ had _ _ _ _ c.ok_or-2.ensures.value c.in_ok-length.was in
    let o = octave_is bs c.scan-reader.result c.scan-reader.ensures t in
    record {
      value = ap (λ x. Ok (note c.in_ok-pitch.pitch x c.in_ok-length.length)) o ∙ sym (ap (λ x. note_read x bs) i ∙ note_tailed c.in_ok-naming.naming bs c.in_ok-pitch.pitch (Some c.in_ok-length.length) n t l);
      borrows = f;
    }
