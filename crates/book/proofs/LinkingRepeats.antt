-- What is listed of the repeat of a number, by the first ends that were gathered. Assumes nothing.
use Rattle.std.proofs.Common.{◌≡◌, ℕ, ◌<◌, ◌≤◌, Bool, true, false, cond, ltb, leb, List, [], ◌++◌, map, length, get_or, drop, Ok, Err, Result, sym, refl, ap, ◌∙◌, ⊎_elim, arith}
use Rattle.std.specs.List.{AllByRecursion, range_with_len}
use Rattle.std.proofs.lemmas.List.{length-map, get_or-map}
use Rattle.std.proofs.ByRecursion.{All-get_or}
use Rattle.std.proofs.lemmas.Bool.{cond-true, cond-false, lt-ltb, le-ltb, le-leb, ltb-true, ltb-false, leb-true, and_from, and_left, and_right}
use Rattle.names.specs.declared.refusals.Refusal.{Refusal}
use Rattle.names.specs.declared.refusals.Refusal.TheVariants.{NoSuchRepeat, TableTooShort}
use Rattle.book.specs.declared.entries.Entry.{Entry}
use Rattle.book.specs.declared.linking.Listed.{Listed}
use Rattle.book.specs.Repeats.{first, listed_at}
use Rattle.book.specs.Linking.{repeats_of, ends_with, ends_of, Linked, OpensGroup, along, listing_from, listed_answer, listed_table}
use Rattle.book.proofs.Listings.{among_counting, all_joined, Opens, opens_or_not}
use Rattle.book.proofs.LinkingListed.{along_ends}

-- The repeat of number k is the group of the k-th first end.

pub record IsRepeat (es : List Entry) (xs : List ℕ) : Type 0 where
  pub two : 2 ≤ length xs
  pub opens : OpensGroup es (first xs)
  pub all : xs ≡ ends_with es (first xs)

is_repeat : (es : List Entry) (p : ℕ) → p < length es → 2 ≤ length (ends_with es p) → first (ends_with es p) ≡ p → IsRepeat es (ends_with es p)
is_repeat es p l two e = record {
  two = two;
  opens = record { below = omega arith; opens = ap (λ q. first (ends_with es q)) e };
  all = ap (ends_with es) (sym e);
}

pub each_repeat : (es : List Entry) → AllByRecursion (IsRepeat es) (repeats_of es)
unfolding Opens
each_repeat es = all_joined (IsRepeat es) (λ p. listed_at p (ends_with es p)) (range_with_len 0 (length es))
    (λ p m. ⊎_elim
    (λ e. rw e tt)
    (λ o. rw o.0 (is_repeat es p (omega (arith, (among_counting 0 (length es) p).0 m)) o.1 o.2, tt))
    (opens_or_not p (ends_with es p)))

module _ (es : List Entry) (firsts : List ℕ) (is : firsts ≡ map first (repeats_of es)) (k : ℕ) where
  pub repeats_count : length firsts ≡ length (repeats_of es)
  repeats_count = ap length is ∙ length-map (repeats_of es) first

  module _ (l : k < length firsts) where
    first_at : get_or firsts k 0 ≡ first (ends_of es k)
    first_at = ap (λ fs. get_or fs k 0) is ∙ get_or-map first (repeats_of es) k [] 0 (omega (arith, repeats_count))

    at_k : IsRepeat es (ends_of es k)
    at_k = All-get_or (IsRepeat es) (repeats_of es) k [] (omega (arith, repeats_count)) (each_repeat es)

    pub opens_at : OpensGroup es (get_or firsts k 0)
    opens_at = rw first_at at_k.opens

    pub ends_at : ends_of es k ≡ ends_with es (get_or firsts k 0)
    ends_at = at_k.all ∙ ap (ends_with es) (sym first_at)

-- What a result that is chosen by a test tells of the test.
cond_ok : {X Y : Type 0} (b : Bool) (x y : X) (f : Y) → ◌≡◌ {A = Result X Y} (Ok x) (cond b (Ok y) (Err f)) → (b ≡ true) × (x ≡ y)
cond_ok true x y f e = (refl, cc)
cond_ok false x y f e = absurd (let z : ◌≡◌ {A = ℕ} 0 1 = cc in omega arith)

cond_err : {X Y : Type 0} (b : Bool) (y : X) (f g : Y) → ◌≡◌ {A = Result X Y} (Err g) (cond b (Ok y) (Err f)) → (b ≡ false) × (g ≡ f)
cond_err true y f g e = absurd (let z : ◌≡◌ {A = ℕ} 0 1 = cc in omega arith)
cond_err false y f g e = (refl, cc)

-- The three answers, by what the first end and the places came to.
module _ (es : List Entry) (firsts : List ℕ) (is : firsts ≡ map first (repeats_of es)) (k : ℕ) where
  abbrev chosen : Result ℕ Refusal
  chosen = cond (ltb k (length firsts)) (Ok (get_or firsts k 0)) (Err NoSuchRepeat)

  count_of : length firsts ≡ length (repeats_of es)
  count_of = repeats_count es firsts is k

  pub no_repeat : (table : List ℕ) (f : Refusal) → Err f ≡ chosen → (Err f ≡ listed_answer es k (length table)) × (table ≡ listed_table es k table)
  unfolding listed_answer listed_table
  no_repeat table f e =
      let d = cond_err (ltb k (length firsts)) (get_or firsts k 0) NoSuchRepeat f e in
      let t = le-ltb k (length (repeats_of es)) (omega (arith, ltb-false k (length firsts) d.0, count_of)) in
      (ap Err d.1 ∙ sym (cond-false _ _ _ t), sym (cond-false _ _ _ (and_left _ _ t)))

  module _ (p : ℕ) (read : Ok p ≡ chosen) where
    below : k < length firsts
    below = ltb-true k (length firsts) (cond_ok (ltb k (length firsts)) p (get_or firsts k 0) NoSuchRepeat read).0

    p_is : p ≡ get_or firsts k 0
    p_is = (cond_ok (ltb k (length firsts)) p (get_or firsts k 0) NoSuchRepeat read).1

    pub opens_first : OpensGroup es p
    opens_first = rw p_is (opens_at es firsts is k below)

    module _ (t : Listed) (told : t ≡ listing_from es p) (table : List ℕ) where
      ends_are : ends_of es k ≡ ends_with es p
      ends_are = ends_at es firsts is k below ∙ ap (ends_with es) (sym p_is)

      count_is : t.count ≡ length (ends_of es k)
      unfolding listing_from
      count_is = ap (λ (x : Listed). x.count) told ∙ ap length (sym ends_are)

      here : ltb k (length (repeats_of es)) ≡ true
      here = lt-ltb k (length (repeats_of es)) (omega (arith, below, count_of))

      abbrev placed : Result (Unit {0}) Refusal
      placed = cond (leb t.count (length table)) (Ok tt) (Err TableTooShort)

      pub too_short : (f : Refusal) → Err f ≡ placed → (Err f ≡ listed_answer es k (length table)) × (table ≡ listed_table es k table)
      unfolding listed_answer listed_table
      too_short f e =
          let d = cond_err (leb t.count (length table)) tt TableTooShort f e in
          let n : leb (length (ends_of es k)) (length table) ≡ false = rw (← count_is) d.0 in
          (ap Err d.1 ∙ sym (cond-true _ _ _ here ∙ cond-false _ _ _ n), sym (cond-false _ _ _ (and_right _ _ n)))

      module _ (later : List ℕ) (linked : Linked es later) (fits : Ok tt ≡ placed) where
        pub ends_walked : along later p ≡ ends_of es k
        ends_walked = along_ends es later linked p opens_first ∙ sym ends_are

        pub places_fit : length (along later p) ≤ length table
        places_fit = omega (arith, leb-true t.count (length table) (cond_ok (leb t.count (length table)) tt tt TableTooShort fits).0, count_is, ap length ends_walked)

        pub all_listed : (after : List ℕ) → after ≡ along later p ++ drop (length (along later p)) table → (Ok t ≡ listed_answer es k (length table)) × (after ≡ listed_table es k table)
        unfolding listed_answer listed_table
        all_listed after e =
            let y = le-leb (length (ends_of es k)) (length table) (omega (arith, places_fit, ap length ends_walked)) in (
              ap Ok (told ∙ ap (listing_from es) (p_is ∙ first_at es firsts is k below)) ∙ sym (cond-true _ _ _ here ∙ cond-true _ _ _ y),
              e ∙ (ap (λ x. x ++ drop (length x) table) ends_walked ∙ sym (cond-true _ _ _ (and_from _ _ here y))),
            )
