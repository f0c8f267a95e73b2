use Rattle.std.proofs.Common.{drop, sym, ap, ◌∙◌}
use Rattle.names.specs.Heard.{said}
use Rattle.names.specs.Reader.{piece_of}
use Rattle.names.specs.Texts.{first_of, later, pieces}
use Rattle.names.proofs.Cuts.{told_none, told_fault, told_token}
use Rattle.names.proofs.texts.Reader.next_token.Goals as goal

pub returns-in_default : goal.returns-in_default
returns-in_default c =
    let self = c.args.self.now in
    let e = told_none self.naming (pieces self.at (drop self.at self.text.now)) c.in_default.ensures in
    record { value = sym (ap (λ x. first_of x.tokens x.fault) e); borrows = tt; left = e ∙ sym (ap later e) }

pub returns-in-Ok : goal.returns-in-Ok
returns-in-Ok c =
    let self = c.args.self.now in
    let cut = c.in-Some.cut in
    let e = told_token self.naming c.naming_after-self.result (pieces self.at (drop self.at self.text.now)) (pieces cut.end (drop cut.end self.text.now)) (piece_of cut) (said c.in-Ok.token) c.in-Some.ensures.0 (sym c.in-Ok.ensures.value.value) c.naming_after-self.ensures in
    record { value = sym (ap (λ x. first_of x.tokens x.fault) e); borrows = c.in-Ok.ensures.value.borrows; left = sym (ap later e) }

pub returns-in-Err : goal.returns-in-Err
returns-in-Err c =
    let self = c.args.self.now in
    let cut = c.in-Some.cut in
    let e = told_fault self.naming (pieces self.at (drop self.at self.text.now)) (pieces cut.end (drop cut.end self.text.now)) (piece_of cut) c.in-Err.refusal c.in-Some.ensures.0 (sym c.in-Err.ensures.value.value) in
    record { value = sym (ap (λ x. first_of x.tokens x.fault) e); borrows = tt; left = e ∙ sym (ap later e) }
