use Rattle.std.proofs.Common.{vec_items}
use Rattle.std.proofs.lemmas.Result.{err_from_is_err_and}
use Rattle.book.proofs.LinkingRepeats.{no_repeat, opens_first, too_short, places_fit, all_listed}
use Rattle.book.proofs.linking.Index.list.Goals as goal

pub returns-in_err-first : goal.returns-in_err-first
returns-in_err-first c =
    let p = err_from_is_err_and c.from_residual.result c.from_residual.ensures.1 in
    let a = no_repeat c.args.entries.now (vec_items c.args.self.now.firsts) c.requires.listed c.args.k c.args.table.now _ c.in_err-first.ensures in
    rw (p.1, p.2) (record { answer = a.0; table = a.1 })

pub listed_from-listed-requires : goal.listed_from-listed-requires
listed_from-listed-requires c =
    record {
      linked = c.requires.linked;
      opens = opens_first c.args.entries.now (vec_items c.args.self.now.firsts) c.requires.listed c.args.k _ c.in_ok-first.ensures;
    }

pub returns-in_err-check_places : goal.returns-in_err-check_places
returns-in_err-check_places c =
    let p = err_from_is_err_and c.from_residual-in_err-check_places.result c.from_residual-in_err-check_places.ensures.1 in
    let a = too_short c.args.entries.now (vec_items c.args.self.now.firsts) c.requires.listed c.args.k _ c.in_ok-first.ensures c.listed_from-listed.result
    c.listed_from-listed.ensures c.args.table.now _ c.in_err-check_places.ensures in
    rw (p.1, p.2) (record { answer = a.0; table = a.1 })

pub write_ends-requires : goal.write_ends-requires
write_ends-requires c =
    places_fit c.args.entries.now (vec_items c.args.self.now.firsts) c.requires.listed c.args.k _ c.in_ok-first.ensures c.listed_from-listed.result
    c.listed_from-listed.ensures c.args.table.now (vec_items c.args.self.now.later) c.requires.linked c.in_ok-check_places.ensures

pub returns : goal.returns
returns c =
    let a = all_listed c.args.entries.now (vec_items c.args.self.now.firsts) c.requires.listed c.args.k _ c.in_ok-first.ensures c.listed_from-listed.result
    c.listed_from-listed.ensures c.args.table.now (vec_items c.args.self.now.later) c.requires.linked c.in_ok-check_places.ensures _ c.write_ends.ensures in
    record { answer = a.0; table = a.1 }
