-- Group numbers stand as pairs are appended, and tell passages apart. Assumes nothing.
use Rattle.std.proofs.Common.{◌≡◌, ℕ, true, ◌↔◌, List, [], ◌∷◌, ◌++◌, reverse, length, take, drop, sym, refl, ap, ◌∙◌, arith}
use mathlib.Core.List.{reverse_aux}
use Rattle.std.proofs.lemmas.List.{length-append, take_at, drop_at, reverse-reverse, same_from_push}
use Rattle.book.proofs.Numbered.{number_within, number_apart, number_stands}
use Rattle.registers.proofs.Listed.{holds_append}
use Rattle.registers.specs.declared.pairs.Pair.{Pair}
use Rattle.registers.specs.Pairs.{pair, holds}
use Rattle.book.specs.Passages.{Passage, Row, over, none, ◌▹◌, node}
use Rattle.book.specs.Groups.{number_of, chain, Links, items, group, groups, Held, HeldAll}

pub chain_stands : (qs rs : List Pair) (n : ℕ) (is : List ℕ) → Links qs n is → chain (qs ++ rs) n is ≡ chain qs n is
chain_stands qs rs n [] l = refl
chain_stands qs rs n (i ∷ is) l = rw (number_stands qs rs (pair n i) l.0) (chain_stands qs rs (number_of qs (pair n i)) is l.1)

pub links_stand : (qs rs : List Pair) (n : ℕ) (is : List ℕ) → Links qs n is → Links (qs ++ rs) n is
links_stand qs rs n [] l = tt
links_stand qs rs n (i ∷ is) l = rw (number_stands qs rs (pair n i) l.0) (holds_append qs rs (pair n i) l.0, links_stand qs rs (number_of qs (pair n i)) is l.1)

-- A group number stands.
mutual
  pub group_stands : (qs rs : List Pair) (t : Passage) → Held qs t → group (qs ++ rs) t ≡ group qs t
  group_stands qs rs (over s ts) h = rw (groups_stand qs rs ts h.1) (chain_stands qs rs 0 (items (node s ts) (groups qs ts)) h.0)

  pub groups_stand : (qs rs : List Pair) (ts : Row) → HeldAll qs ts → groups (qs ++ rs) ts ≡ groups qs ts
  groups_stand qs rs none h = refl
  groups_stand qs rs (ts ▹ t) h = rw (groups_stand qs rs ts h.0, group_stands qs rs t h.1)

mutual
  pub held_stands : (qs rs : List Pair) (t : Passage) → Held qs t → Held (qs ++ rs) t
  held_stands qs rs (over s ts) h = (rw (groups_stand qs rs ts h.1) (links_stand qs rs 0 (items (node s ts) (groups qs ts)) h.0), held_all_stands qs rs ts h.1)

  pub held_all_stands : (qs rs : List Pair) (ts : Row) → HeldAll qs ts → HeldAll (qs ++ rs) ts
  held_all_stands qs rs none h = tt
  held_all_stands qs rs (ts ▹ t) h = (held_all_stands qs rs ts h.0, held_stands qs rs t h.1)

-- A chain by its items from the last to the first.
abbrev pub back : List Pair → List ℕ → ℕ
back qs [] = 0
back qs (i ∷ is) = number_of qs (pair (back qs is) i)

abbrev pub BackLinks : List Pair → List ℕ → Type 0
BackLinks qs [] = Unit {0}
BackLinks qs (i ∷ is) = (holds qs (pair (back qs is) i) ≡ true) × BackLinks qs is

back_exact : (qs : List Pair) (is js : List ℕ) → BackLinks qs is → BackLinks qs js → back qs is ≡ back qs js → is ≡ js
back_exact qs [] [] l m e = refl
back_exact qs [] (j ∷ js) l m e = absurd (omega (arith, number_within qs _ m.0))
back_exact qs (i ∷ is) [] l m e = absurd (omega (arith, number_within qs _ l.0))
back_exact qs (i ∷ is) (j ∷ js) l m e =
    let p : pair (back qs is) i ≡ pair (back qs js) j = number_apart qs _ _ l.0 m.0 e in
    let ih : is ≡ js = back_exact qs is js l.1 m.1 (ap (λ q. q.first) p) in
    let k : i ≡ j = ap (λ q. q.second) p in
    cc

pub chain_back : (qs : List Pair) (is done : List ℕ) → chain qs (back qs done) is ≡ back qs (reverse_aux is done)
chain_back qs [] done = refl
chain_back qs (i ∷ is) done = chain_back qs is (i ∷ done)

pub links_back : (qs : List Pair) (is done : List ℕ) → BackLinks qs done → Links qs (back qs done) is → BackLinks qs (reverse_aux is done)
links_back qs [] done d l = d
links_back qs (i ∷ is) done d l = links_back qs is (i ∷ done) (l.0, d) l.1

-- Two rows of items that come to one number are the same.
pub chain_exact : (qs : List Pair) (is js : List ℕ) → Links qs 0 is → Links qs 0 js → chain qs 0 is ≡ chain qs 0 js → is ≡ js
chain_exact qs is js l m e =
    let r : reverse is ≡ reverse js = back_exact qs (reverse is) (reverse js) (links_back qs is [] tt l) (links_back qs js [] tt m) (sym (chain_back qs is []) ∙ e ∙ chain_back qs js []) in
    sym (reverse-reverse is) ∙ ap reverse r ∙ reverse-reverse js

parts_same : (s r a b : List ℕ) → length s ≡ length r → s ++ a ≡ r ++ b → (s ≡ r) × (a ≡ b)
parts_same s r a b h e = (
  sym (take_at s a (length s) refl) ∙ ap (take (length s)) e ∙ take_at r b (length s) (sym h),
  sym (drop_at s a (length s) refl) ∙ ap (drop (length s)) e ∙ drop_at r b (length s) (sym h),
)

-- Passages with one group number are equal.
mutual
  pub same_from_group : (qs : List Pair) (t u : Passage) → Held qs t → Held qs u → group qs t ≡ group qs u → t ≡ u
  same_from_group qs (over s ts) (over r us) h k e =
      let both = chain_exact qs (items (node s ts) (groups qs ts)) (items (node r us) (groups qs us)) h.0 k.0 e in
      let long : length s ≡ length r = cc in
      let rest : s ++ groups qs ts ≡ r ++ groups qs us = cc in
      let parts = parts_same s r (groups qs ts) (groups qs us) long rest in
      let spelled : s ≡ r = parts.0 in
      let below : ts ≡ us = same_from_groups qs ts us h.1 k.1 parts.1 in
      cc

  pub same_from_groups : (qs : List Pair) (ts us : Row) → HeldAll qs ts → HeldAll qs us → groups qs ts ≡ groups qs us → ts ≡ us
  same_from_groups qs none none h k e = refl
  same_from_groups qs none (us ▹ u) h k e = absurd (omega (arith, simp length-append at (ap length e)))
  same_from_groups qs (ts ▹ t) none h k e = absurd (omega (arith, simp length-append at (ap length e)))
  same_from_groups qs (ts ▹ t) (us ▹ u) h k e =
      let parts = same_from_push (groups qs ts) (groups qs us) (group qs t) (group qs u) e in
      let rest : ts ≡ us = same_from_groups qs ts us h.0 k.0 parts.0 in
      let here : t ≡ u = same_from_group qs t u h.1 k.1 parts.1 in
      cc

pub group_exact : (qs : List Pair) (t u : Passage) → Held qs t → Held qs u → (group qs t ≡ group qs u) ↔ (t ≡ u)
group_exact qs t u h k = (same_from_group qs t u h k, ap (group qs))
