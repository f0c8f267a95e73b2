use Rattle.std.proofs.Common.{◌≡◌, eqb, take, vec_items, sym, refl, subst, ◌∙◌, rules}
use Rattle.std.proofs.lemmas.Slice.Eq.{slice_eq-Decides}
use lib.Pointwise.{pointwise}
use Rattle.names.specs.Heard.{said}
use Rattle.names.specs.Reader.{told_of_placed}
use Rattle.renaming.specs.Renaming.{Appends}
use Rattle.renaming.proofs.Renewing.{word_unless, place_is, front_is, appends}
use Rattle.renaming.proofs.append.Goals as goal
use Rattle.std.proofs.lemmas.Bool.Decides.{Decides-eqb}

pub unwrap-end-requires : goal.unwrap-end-requires
unwrap-end-requires c =
    let e = c.write_token.ensures.place ∙ place_is c.args.to (said c.args.placed.now.token) _ c.requires refl in
    rw e (search rules)

pub returns : goal.returns
returns c =
    let t = told_of_placed c.args.placed.now in
    let after = c.write_token.new.out in
    let end = c.unwrap-end.result in
    let word = take end after in
    let front = front_is c.args.to t.says _ c.requires refl end after (sym c.unwrap-end.ensures ∙ c.write_token.ensures.place) c.write_token.ensures.after in
    let same = pointwise eqb word c.args.placed.now.bytes.now in
    subst (Appends (vec_items c.args.line.now) (vec_items c.extend_from_slice.new.self) c.args.to t) (sym c.ne.ensures)
    (appends (vec_items c.args.line.now) (vec_items c.push.new.self) (vec_items c.extend_from_slice.new.self) word c.args.placed.now.bytes.now c.args.to t same
    (word_unless c.args.placed.now.token c.in_default.not-Naming) front c.in_ok-push.ensures.items c.in_ok-extend_from_slice.ensures.items refl
    (slice_eq-Decides Decides-eqb word c.args.placed.now.bytes.now same refl))
