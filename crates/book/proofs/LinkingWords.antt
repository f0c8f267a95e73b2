-- Words linked back from the last: what holds after each step. Assumes nothing.
use Rattle.std.proofs.Common.{◌≡◌, ℕ, ◌+◌, ◌<◌, ◌≤◌, ◌&&◌, eqb, ltb, List, length, get_or, set, sym, refl, ap, ◌∙◌, ⊎_elim, arith}
use Rattle.std.proofs.lemmas.List.{length-set, get_or-set_same, get_or-set_other}
use Rattle.std.proofs.lemmas.Bool.{cases_eq, cases_Bool, cond-true, cond-false, eq-eqb, lt-ltb, eqb-true, ltb-true, and_from, and_parts}
use Rattle.book.specs.declared.entries.Entry.{Entry}
use Rattle.book.specs.Repeats.{first}
use Rattle.book.specs.Linking.{number_at, ends_from, later_of, if_later}
use Rattle.book.proofs.LinkingEnds.{from_here, from_next, cases_from}

-- The words from p on are linked, and the table has the first position from p on of each group that occurs there.
pub record Back (es : List Entry) (p : ℕ) (table later : List ℕ) : Type 0 where
  pub long : length later ≡ length es
  pub linked : (q : ℕ) → p ≤ q → q < length es → get_or later q 0 ≡ later_of es q
  pub opened : (q : ℕ) → p ≤ q → q < length es → get_or table (number_at es q) 0 ≡ first (ends_from (number_at es) p (length es) (number_at es q))

module _ (es : List Entry) (p : ℕ) (table later : List ℕ) (b : Back es (p + 1) table later) where
  -- A value that was in the table before counts for nothing: no later position has the group.
  link_is : (q : ℕ) → q ≡ get_or table (number_at es p) 0 → if_later es p q ≡ later_of es p
  link_is q is = ⊎_elim
      (λ a. rw a.0 (⊎_elim
      (λ t. let x = and_parts (ltb p q) _ t in let y = and_parts (ltb q (length es)) _ x.1 in
      absurd (a.1 q (omega (arith, ltb-true p q x.0)) (ltb-true q (length es) y.0) (eqb-true _ _ y.1)))
      (λ f. cond-false _ q 0 f)
      (cases_Bool (ltb p q && (ltb q (length es) && eqb (number_at es q) (number_at es p))))))
      (λ a.
      let r = a.0 in
      let f = a.1 in
      let o : get_or table (number_at es p) 0 ≡ r = rw (f.has, f.list) at (b.opened r f.low f.below) in
      let e : q ≡ r = is ∙ o in
      rw (f.list, e) (cond-true _ r 0 (and_from _ _ (lt-ltb p r (omega (arith, f.low))) (and_from _ _ (lt-ltb r (length es) f.below) (eq-eqb _ _ f.has)))))
      (cases_from (number_at es) (length es) (p + 1) (number_at es p))

  pub back_more : (table' later' : List ℕ) → p < length es → number_at es p < length table → table' ≡ set table (number_at es p) p → later' ≡ set later p (if_later es p (get_or table (number_at es p) 0)) → Back es p table' later'
  back_more table' later' l w t e =
      let g = number_at es p in
      let v = if_later es p (get_or table g 0) in
      rw (t, e) (record {
        long = length-set later p v ∙ b.long;
        linked = λ k a u. ⊎_elim
            (λ (i : k ≡ p). rw i (get_or-set_same later p v 0 (omega (arith, b.long)) ∙ link_is (get_or table g 0) refl))
            (λ i. get_or-set_other later p k v 0 i ∙ b.linked k (omega arith) u)
            (cases_eq k p);
        opened = λ k a u. ⊎_elim
            (λ (i : number_at es k ≡ g). rw (i, from_here (number_at es) (length es) p g l refl) (get_or-set_same table g p 0 w))
            (λ i.
            let after : p + 1 ≤ k = ⊎_elim (λ (j : k ≡ p). absurd (i (ap (number_at es) j))) (λ j. omega arith) (cases_eq k p) in
            get_or-set_other table g (number_at es k) p 0 i ∙ (b.opened k after u ∙ ap first (sym (from_next (number_at es) (length es) p (number_at es k) l (λ d. i (sym d))))))
            (cases_eq (number_at es k) g);
      })
