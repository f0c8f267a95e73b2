use Rattle.std.proofs.Common.{◌≡◌, ℕ, drop, Ok, vec_items, sym, ap, subst, ◌∙◌, rules}
use Rattle.names.specs.Reader.{unread, told_of_placed, told_next}
use Rattle.names.specs.Texts.{pieces}
use Rattle.names.proofs.Lines.{told_formed}
use Rattle.renaming.specs.declared.Tally.{Tally}
use Rattle.renaming.specs.Renaming.{none, Sofar}
use Rattle.names.proofs.Cuts.{first_some, first_none}
use Rattle.renaming.proofs.Renewing.{sofar_start, sofar_more, too_long, renews}
use Rattle.renaming.proofs.rewrite.Goals as goal

tally : ℕ → ℕ → ℕ → ℕ → ℕ → ℕ → Tally
tally a b c d e f = record { tokens = a; notes = b; syllables = c; rests = d; frames = e; changed = f }

zeros : (t : Tally) → t.tokens ≡ 0 → t.notes ≡ 0 → t.syllables ≡ 0 → t.rests ≡ 0 → t.frames ≡ 0 → t.changed ≡ 0 → tally 0 0 0 0 0 0 ≡ tally t.tokens t.notes t.syllables t.rests t.frames t.changed
zeros t a b c d e f = cc

begun : (t : Tally) → t.tokens ≡ 0 → t.notes ≡ 0 → t.syllables ≡ 0 → t.rests ≡ 0 → t.frames ≡ 0 → t.changed ≡ 0 → none ≡ t
unfolding tally
begun t a b c d e f = zeros t a b c d e f

pub loop-line-init : goal.loop-line-init
loop-line-init c =
    let start = sofar_start c.args.text.now c.args.to (vec_items c.in_ok-line.line) (unread c.in_ok-reader.reader) c.in_ok-reader.ensures.value (c.in_ok-line.ensures.items ∙ c.word.ensures) in
    let d = c.default-tally.ensures in
    let e = begun c.default-tally.result d.0 d.1.0 d.1.1.0 d.1.1.1.0 d.1.1.1.1.0 d.1.1.1.1.1 in
    subst (λ t. Sofar c.args.text.now c.args.to (vec_items c.in_ok-line.line) t (unread c.in_ok-reader.reader)) e start

pub append-requires : goal.append-requires
append-requires c =
    let r = c.loop-line.reader in
    let e = first_some (unread r).tokens (unread r).fault (told_of_placed c.in-Some.placed) (ap (λ o. told_next (Ok o)) (sym c.in-Some.is) ∙ c.in_ok-placed.ensures.value) in
    (rw e at (told_formed (pieces r.at (drop r.at r.text.now)) r.naming)).0

pub loop-line-preserved : goal.loop-line-preserved
loop-line-preserved c =
    let x = unread c.loop-line.reader in
    let t = told_of_placed c.in-Some.placed in
    let e = first_some x.tokens x.fault t (ap (λ o. told_next (Ok o)) (sym c.in-Some.is) ∙ c.in_ok-placed.ensures.value) in
    sofar_more c.args.text.now c.args.to (vec_items c.loop-line.line) (vec_items c.append.new.line) c.loop-line.tally c.add.new.self x (unread c.next_token.new.self) t c.in_ok-changed.changed c.loop-line.invariant e c.next_token.ensures.left c.in_ok-changed.ensures c.add.ensures

pub returns : goal.returns
returns c =
    let x = unread c.loop-line.reader in
    let z = first_none x.tokens x.fault (ap (λ o. told_next (Ok o)) (sym c.in_default.is) ∙ c.in_ok-placed.ensures.value) in
    let new = c.push.new.self in
    let n = new.ok.0 in
    record {
      short = λ h. renews c.args.text.now c.args.to (vec_items c.loop-line.line) (vec_items new) c.loop-line.tally x c.loop-line.invariant z.0 z.1 c.in_ok-push.ensures.items (search rules);
      long = λ h. too_long c.args.text.now c.args.to (vec_items c.loop-line.line) (vec_items new) c.loop-line.tally x c.loop-line.invariant z.0 z.1 c.in_ok-push.ensures.items (search rules);
    }
