-- First ends of repeats, gathered from the links. Assumes nothing.
use Rattle.std.proofs.Common.{◌≡◌, ℕ, suc, ◌+◌, ◌-◌, ◌<◌, ◌≤◌, true, false, ◌&&◌, eqb, ltb, ◌⊎◌, List, [], ◌∷◌, ◌++◌, map, length, sym, refl, ap, ◌∙◌, inl, inr, ⊎_elim, append_assoc, append-nil, arith}
use Rattle.std.specs.List.{flat_map, range_with_len}
use Rattle.std.proofs.lemmas.List.{length_push}
use Rattle.std.proofs.lemmas.Bool.{cases_eq, eq-eqb, ne_eqb, eqb-true, eqb-false, ltb-true, ltb-false, and_parts, and_cases}
use Rattle.book.specs.declared.entries.Entry.{Entry}
use Rattle.book.specs.Repeats.{first, ends, listed_at}
use Rattle.book.specs.Linking.{number_at, repeats_of, ends_from, later_of, ends_with}
use Rattle.book.proofs.LinkingEnds.{from_start, cases_from}

module _ (number : ℕ → ℕ) (n : ℕ) where
  -- the ends of a group from its first on
  pub opened_list : (p : ℕ) → p < n → first (ends number n (number p)) ≡ p → ends number n (number p) ≡ p ∷ ends_from number (p + 1) n (number p)
  opened_list p l e = ⊎_elim
      (λ a. absurd (a.1 p (omega arith) l refl))
      (λ a.
      let w = from_start number n (number p) ∙ a.1.list in
      let i : a.0 ≡ p = sym (ap first w) ∙ e in
      w ∙ ap (λ r. r ∷ ends_from number (r + 1) n (number p)) i)
      (cases_from number n 0 (number p))

  later_none : (p g : ℕ) → first (ends_from number (p + 1) n g) ≡ 0 → ends_from number (p + 1) n g ≡ []
  later_none p g e = ⊎_elim
      (λ a. a.0)
      (λ a. absurd (omega (arith, a.1.low, ap first a.1.list, e)))
      (cases_from number n (p + 1) g)

  pub listed_yes : (p : ℕ) → p < n → first (ends number n (number p)) ≡ p → (first (ends_from number (p + 1) n (number p)) ≡ 0 → ⊥) → listed_at p (ends number n (number p)) ≡ ends number n (number p) ∷ []
  listed_yes p l e d = rw (opened_list p l e) (go (ends_from number (p + 1) n (number p)) d)
    where
      go : (es : List ℕ) → (first es ≡ 0 → ⊥) → listed_at p (p ∷ es) ≡ (p ∷ es) ∷ []
      go [] h = absurd (h refl)
      go (q ∷ es) h = rw (eq-eqb p p refl)

  not_first : (p : ℕ) (es : List ℕ) → (first es ≡ p → ⊥) → listed_at p es ≡ []
  not_first p [] h = refl
  not_first p (q ∷ []) h = refl
  not_first p (q ∷ r ∷ es) h = rw (ne_eqb p q (λ e. h (sym e)))

  pub listed_no : (p : ℕ) → p < n → (first (ends number n (number p)) ≡ p → ⊥) ⊎ (first (ends_from number (p + 1) n (number p)) ≡ 0) → listed_at p (ends number n (number p)) ≡ []
  listed_no p l = ⊎_elim
      (λ d. not_first p (ends number n (number p)) d)
      (λ z. ⊎_elim
      (λ e. rw (opened_list p l e, later_none p (number p) z))
      (λ d. not_first p (ends number n (number p)) d)
      (cases_eq (first (ends number n (number p))) p))

-- the repeats whose first end is p or later
unfoldable pub repeats_from : List Entry → ℕ → List (List ℕ)
repeats_from es p = flat_map (λ q. listed_at q (ends (number_at es) (length es) (number_at es q))) (range_with_len p (length es - p))

-- Before position p the first ends are gathered.
pub record Gathered (es : List Entry) (p : ℕ) (firsts : List ℕ) : Type 0 where
  pub rest : firsts ++ map first (repeats_from es p) ≡ map first (repeats_of es)
  pub low : length firsts ≤ p

module _ (es : List Entry) where
  from_all : repeats_from es 0 ≡ repeats_of es
  unfolding repeats_from
  from_all = let e : length es - 0 ≡ length es = omega arith in rw e

  from_more : (p : ℕ) → p < length es → repeats_from es p ≡ listed_at p (ends_with es p) ++ repeats_from es (p + 1)
  unfolding repeats_from
  from_more p l = let e : length es - p ≡ suc (length es - (p + 1)) = omega arith in rw e

  from_none : (p : ℕ) → length es ≤ p → repeats_from es p ≡ []
  unfolding repeats_from
  from_none p l = let e : length es - p ≡ 0 = omega arith in rw e

  pub gathered_none : Gathered es 0 []
  gathered_none = record { rest = ap (map first) from_all; low = omega arith }

  -- x and y are what was read: the first position of p's group, and the link from p
  module _ (p : ℕ) (firsts : List ℕ) (x y : ℕ) (l : p < length es) (opening : x ≡ first (ends_with es p)) (link : y ≡ later_of es p) (g : Gathered es p firsts) where
    pub gathered_more : true ≡ (eqb x p && ltb 0 y) → Gathered es (p + 1) (firsts ++ p ∷ [])
    gathered_more t =
        let both = and_parts (eqb x p) (ltb 0 y) (sym t) in
        let e : first (ends_with es p) ≡ p = sym opening ∙ eqb-true x p both.0 in
        let d : later_of es p ≡ 0 → ⊥ = λ z. omega (arith, ltb-true 0 y both.1, link, z) in
        let w : repeats_from es p ≡ ends_with es p ∷ repeats_from es (p + 1) = from_more p l ∙ ap (λ a. a ++ repeats_from es (p + 1)) (listed_yes (number_at es) (length es) p l e d) in
        let m : map first (repeats_from es p) ≡ p ∷ map first (repeats_from es (p + 1)) = ap (map first) w ∙ ap (λ q. q ∷ map first (repeats_from es (p + 1))) e in
        record {
          rest = append_assoc firsts (p ∷ []) _ ∙ (ap (λ a. firsts ++ a) (sym m) ∙ g.rest);
          low = omega (arith, length_push firsts p, g.low);
        }

    pub gathered_pass : false ≡ (eqb x p && ltb 0 y) → Gathered es (p + 1) firsts
    gathered_pass t =
        let no : (first (ends_with es p) ≡ p → ⊥) ⊎ (later_of es p ≡ 0) = ⊎_elim
        (λ f. inl (λ e. eqb-false x p f (opening ∙ e)))
        (λ f. inr (omega (arith, ltb-false 0 y f, link)))
        (and_cases (eqb x p) (ltb 0 y) (sym t)) in
        let w : repeats_from es p ≡ repeats_from es (p + 1) = from_more p l ∙ ap (λ a. a ++ repeats_from es (p + 1)) (listed_no (number_at es) (length es) p l no) in
        record { rest = ap (λ a. firsts ++ map first a) (sym w) ∙ g.rest; low = omega (arith, g.low) }

  pub gathered_all : (p : ℕ) (firsts : List ℕ) → length es ≤ p → Gathered es p firsts → firsts ≡ map first (repeats_of es)
  gathered_all p firsts l g = sym (append-nil firsts) ∙ (ap (λ x. firsts ++ map first x) (sym (from_none p l)) ∙ g.rest)
