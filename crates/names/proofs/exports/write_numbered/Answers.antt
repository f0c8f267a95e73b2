use Rattle.std.proofs.Common.{◌≡◌, Some, w8, ap, ◌∙◌, sym}
use mir.Val.{to_z, of_z}
use Rattle.std.proofs.lemmas.Int.{to_z-of_z}
use Rattle.names.specs.Numbered.{pitch_of, written_in, buffer_in}
use Rattle.names.specs.Pitches.{step_numbered, alteration_numbered}
use Rattle.names.proofs.Refusing.{had}
use Rattle.names.proofs.exports.write_numbered.Goals as goal

pub returns : goal.returns
returns c =
    let n = had _ _ _ _ c.try_from.ensures c.in_ok-naming.was in
    let q = pitch_of (step_numbered c.args.step) (alteration_numbered c.args.alteration) in
    let same : to_z w8 (of_z w8 c.args.alteration) ≡ c.args.alteration = to_z-of_z w8 c.args.alteration c.ranges.alteration in
    let p : q ≡ Some c.in_ok-pitch.pitch = ap (λ a. pitch_of (step_numbered c.args.step) (alteration_numbered a)) (sym same) ∙ had _ _ _ _ c.pitch_numbered.ensures c.in_ok-pitch.was in
    record {
      count = c.write_name.ensures.count ∙ sym (ap (λ x. written_in x q c.args.out.now) n ∙ ap (λ x. written_in (Some c.in_ok-naming.naming) x c.args.out.now) p);
      after = c.write_name.ensures.after ∙ sym (ap (λ x. buffer_in x q c.args.out.now) n ∙ ap (λ x. buffer_in (Some c.in_ok-naming.naming) x c.args.out.now) p);
    }
