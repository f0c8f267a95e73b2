use Rattle.std.proofs.Common.{vec_len, sym, ap, cond, Some, eqb, arith}
use Rattle.std.proofs.lemmas.List.{length_push}
use Rattle.registers.specs.Places.{places_of}
use Rattle.registers.specs.Bucketed.{pairs_of, room_of}
use Rattle.registers.proofs.Listed.{kept_new, number_push, apart_new}
use Rattle.registers.proofs.Kept.{count_is, pairs_after, headed_after, linked_after}
use Rattle.registers.proofs.by_buckets.Buckets.append.Goals as goal

pub invariant_of-self : goal.invariant_of-self
invariant_of-self c =
    let s = c.args.self.now in
    let p = c.args.pair in
    let next = c.args.head in
    let free = c.requires.free in
    record {
      within = rw (c.push-number.ensures.after, ap (λ n. cond (eqb (vec_len s.heads) 0) 0 n) c.push-number.ensures.same) (omega (arith, length_push (places_of s.held) (record { pair = p; next = next }), count_is s, free));
      apart = rw (c.push-number.ensures.after, pairs_after s p next free) (apart_new (pairs_of s) p s.apart (sym c.requires.new));
      headed = rw (c.push-number.ensures.after, c.push-number.ensures.number, c.bucket_of-bucket.ensures.value, c.len.ensures) (headed_after s p next free);
      linked = rw c.push-number.ensures.after (linked_after s p next free c.requires.linked);
    }

pub returns : goal.returns
returns c =
    let s = c.args.self.now in
    let k = kept_new (room_of s) (pairs_of s) c.args.pair (sym c.requires.new) c.requires.free in
    record {
      answer = rw (k, number_push (pairs_of s) c.args.pair (sym c.requires.new), count_is s) (ap Some c.push-number.ensures.number);
      after = rw (c.push-number.ensures.after, k) (pairs_after s c.args.pair c.args.head c.requires.free);
      same = ap (λ n. cond (eqb (vec_len s.heads) 0) 0 n) c.push-number.ensures.same;
    }
