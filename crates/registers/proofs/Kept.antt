-- What the invariants of a bucket register say of what is read from its tables. Assumes nothing.
use Rattle.std.proofs.Common.{◌≡◌, ℕ, ◌+◌, ◌-◌, ◌<◌, ◌≤◌, true, false, List, [], ◌∷◌, ◌++◌, length, get_or, set, vec_items, vec_len, Some, None, sym, ap, ◌∙◌, arith}
use Rattle.std.proofs.lemmas.List.{get_or_read, get_or-map, length-map, length-take, map_push, get_or_append_left, get_or_push}
use Rattle.registers.specs.declared.pairs.Pair.{Pair}
use Rattle.registers.specs.declared.slots.Slot.{Slot}
use Rattle.registers.specs.declared.by_buckets.Buckets.{Buckets}
use Rattle.registers.specs.Pairs.{pair, at, same, number_in}
use Rattle.registers.specs.Places.{places_of, item_at}
use Rattle.registers.specs.Mixing.{bucket_index}
use Rattle.registers.specs.Chains.{pairs_in, last_in, Headed, Linked, chain_length}
use Rattle.registers.specs.Bucketed.{pairs_of, room_of, head_of}
use Rattle.registers.proofs.Slotted.{item_some, item_none, room_some}
use Rattle.registers.proofs.Listed.{place_at, number_some, number_none}
use Rattle.registers.proofs.Chained.{Come, come_next, come_less, come_none, counted_next, counted_below, Counted, headed_push, linked_push}
use Rattle.registers.proofs.Mixed.{bucket_within}

abbrev no_slot : Slot
no_slot = record { pair = pair 0 0; next = 0 }

module _ (s : Buckets) where
  abbrev slots : List Slot
  slots = places_of s.held

  abbrev pub buckets : ℕ
  buckets = vec_len s.heads

  pub count_is : length (pairs_of s) ≡ length slots
  count_is = length-map slots (λ (x : Slot). x.pair)

  pub few : length (pairs_of s) ≤ 32768
  few = omega (arith, count_is, length-take s.held.count (vec_items s.held.table), s.held.most)

  pub head_read : (b x : ℕ) → b < buckets → x ≡ get_or (vec_items s.heads) b x → x ≡ last_in buckets (pairs_of s) b (length (pairs_of s))
  head_read b x l e = get_or_read (vec_items s.heads) b x (omega (arith, s.heads.ok.0)) e 0 ∙ s.headed b l

  -- What the place with a number holds: a pair, and the number of the next in its chain.
  record Read (n : ℕ) (x : Slot) : Type 0 where
    pub some : 0 < n
    pub within : n ≤ length (pairs_of s)
    pub pair : at (pairs_of s) (n - 1) ≡ x.pair
    pub link : x.next ≡ last_in buckets (pairs_of s) (bucket_index buckets (at (pairs_of s) (n - 1))) (n - 1)

  read : (n : ℕ) (x : Slot) → Some x ≡ item_at slots n → Read n x
  read n x e =
      let i = item_some slots n x e in
      record {
        some = i.0;
        within = omega (arith, count_is, i.1);
        pair = get_or-map (λ (y : Slot). y.pair) slots (n - 1) no_slot (pair 0 0) (omega (arith, i.0, i.1)) ∙ ap (λ (y : Slot). y.pair) (i.2 no_slot);
        link = sym (ap (λ (y : Slot). y.next) (i.2 no_slot)) ∙ s.linked (n - 1) (omega (arith, count_is, i.0, i.1));
      }

  ended : (n : ℕ) → None ≡ item_at slots n → n ≤ length (pairs_of s) → n ≡ 0
  ended n e l = item_none slots n e (omega (arith, count_is, l))

  -- A walk along a chain, at a place that it reads.
  module _ (n : ℕ) (x : Slot) (e : Some x ≡ item_at slots n) where
    pub links_back : x.next < n
    links_back = let r = read n x e in come_less buckets (pairs_of s) n x.next _ r.some r.link

    pub come_on : (p : Pair) → Come buckets (pairs_of s) p n → same x.pair p ≡ false → Come buckets (pairs_of s) p x.next
    come_on p w other = let r = read n x e in come_next buckets (pairs_of s) p n x.next w r.some r.link (rw r.pair other)

    pub found : (p : Pair) → same x.pair p ≡ true → number_in (pairs_of s) p ≡ Some n
    found p is =
        let r = read n x e in
        let f = place_at (pairs_of s) (n - 1) p s.apart (omega (arith, r.some, r.within)) (rw r.pair is) in
        number_some (pairs_of s) p (n - 1) f.0 f.1 ∙ ap Some (omega (arith, r.some))

    pub counted_on : (b k : ℕ) → Counted buckets (pairs_of s) b n k → Counted buckets (pairs_of s) b x.next (k + 1)
    counted_on b k w = let r = read n x e in counted_next buckets (pairs_of s) b n k x.next w r.some r.link

    pub counted_few : (b k : ℕ) → Counted buckets (pairs_of s) b n k → k < 32768
    counted_few b k w = let r = read n x e in omega (arith, counted_below buckets (pairs_of s) b n k w r.some, few)

  -- and at its end
  module _ (n : ℕ) (e : None ≡ item_at slots n) where
    pub found_none : (p : Pair) → Come buckets (pairs_of s) p n → number_in (pairs_of s) p ≡ None
    found_none p w = number_none (pairs_of s) p (come_none buckets (pairs_of s) p n w (ended n e w.low))

    pub counted_all : (b k : ℕ) → Counted buckets (pairs_of s) b n k → k ≡ chain_length buckets (pairs_of s) b
    counted_all b k w = let f = rw (ended n e w.low) at w.rest in omega (arith, f)

  -- A new pair at the head of its chain.
  module _ (p : Pair) (next : ℕ) (free : length (pairs_of s) < room_of s) where
    abbrev slots_after : List Slot
    slots_after = slots ++ record { pair = p; next = next } ∷ []

    pub pairs_after : pairs_in slots_after ≡ pairs_of s ++ p ∷ []
    pairs_after = map_push (λ (x : Slot). x.pair) slots (record { pair = p; next = next })

    pub headed_after : Headed (set (vec_items s.heads) (bucket_index buckets p) (length slots + 1)) buckets (pairs_in slots_after)
    headed_after =
        rw pairs_after
        (headed_push buckets (vec_items s.heads) (pairs_of s) p (length slots + 1) s.heads.ok.0
        (bucket_within buckets p (room_some (length (pairs_of s)) (vec_len s.held.table) buckets free)) (ap (λ m. m + 1) (sym count_is)) s.headed)

    pub linked_after : next ≡ head_of s p → Linked slots_after buckets (pairs_in slots_after)
    linked_after is =
        rw pairs_after
        (linked_push buckets slots slots_after (pairs_of s) p
        (λ i l. ap (λ (x : Slot). x.next) (get_or_append_left slots (record { pair = p; next = next } ∷ []) no_slot i (omega (arith, count_is, l))))
        (ap (λ (x : Slot). x.next) (get_or_push slots (record { pair = p; next = next }) no_slot (length (pairs_of s)) (sym count_is)) ∙ is)
        s.linked)
