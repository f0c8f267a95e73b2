use Rattle.std.proofs.Common.{◌≡◌, ◌+◌, ◌-◌, ◌≤◌, [], ◌∷◌, ◌++◌, length, take, drop, vec_items, ap, ◌∙◌, arith}
use Rattle.std.proofs.lemmas.List.{take_rest, length_push}
use Rattle.book.specs.Entries.{entry}
use Rattle.book.specs.States.{start_over}
use Rattle.book.proofs.Placing.{within_push, start_within}
use Rattle.book.proofs.taking.Book+R+Taking.grow.Goals as goal
use Rattle.book.proofs.taking.Book+R+Taking.grow.Given.{Over}
use Rattle.book.proofs.taking.Book+R+Taking.grow.Goals.{After-start_of-start}

-- no passage starts behind its end
starts : (g : Over) (c : After-start_of-start g) → c.start_of-start.result ≤ length c.args.self.now.entries
starts g c =
    let s = c.args.self.now in
    let ts = vec_items s.tops in
    let first = c.len.result - c.from.result in
    let at = c.words-position.ensures.value in
    let rest : start_over (take (length c.as_slice.result.now - first) (drop first c.as_slice.result.now)) c.words-position.result ≡ start_over (drop first ts) (length s.entries) =
    ap (λ l. start_over l c.words-position.result) (take_rest c.as_slice.result.now first ∙ ap (drop first) c.as_slice.ensures.value) ∙ ap (start_over (drop first ts)) at in
    omega (arith, c.start_of-start.ensures, rest, start_within ts (length s.entries) first s.within)

pub push-requires : goal.push-requires
push-requires g c = record { few = c.requires.few; group = c.number_word-group.ensures.low; start = starts g (goal.at.push-requires g c).After-start_of-start }

pub invariant_of-self : goal.invariant_of-self
invariant_of-self g c =
    let s = c.args.self.now in
    let ts = vec_items s.tops in
    let es = s.entries in
    let first = c.len.result - c.from.result in
    let e = entry c.number_word-group.result c.start_of-start.result in
    let pushed : length c.push.new.self ≡ length es + 1 = ap length c.push.ensures ∙ length_push es e in
    let topped = c.push_reserved.ensures in
    let cut = c.truncate.ensures in
    let tops = topped.items ∙ ap (λ l. l ++ e ∷ []) cut.items in
    record {
      few = omega (arith, pushed, c.requires.few);
      fewer = omega (arith, pushed, topped.len, cut.len, s.fewer);
      stacked = omega (arith, topped.capacity, cut.capacity, s.stacked);
      within = within_push ts _ e (length es) _ first (omega (arith, s.tops.ok.0)) s.within (starts g (goal.at.invariant_of-self g c).After-start_of-start) pushed tops;
      staged = tt;
    }
