-- Taking a word, said of the words. Assumes nothing.
use Rattle.std.proofs.Common.{◌≡◌, ℕ, ◌-◌, ◌<◌, ◌≤◌, List, [], ◌∷◌, ◌++◌, length, Some, None, Ok, Err, Option, Result, sym, refl, ap, ◌∙◌, ⊎_elim, arith}
use Rattle.std.proofs.lemmas.Bool.{cond-true, cond-false, lt-ltb, le-ltb, le-leb, lt-leb, cases_lt}
use Rattle.std.proofs.lemmas.List.{append-nil}
use Rattle.names.specs.declared.refusals.Refusal.{Refusal}
use Rattle.names.specs.declared.refusals.Refusal.TheVariants.{RankAboveTops, BookFull, RegisterFull}
use Rattle.registers.specs.declared.pairs.Pair.{Pair}
use Rattle.book.specs.Words.{Word}
use Rattle.book.specs.Passages.{none, count}
use Rattle.book.specs.Tops.{tops}
use Rattle.book.specs.declared.entries.Entry.{Entry}
use Rattle.book.specs.Groups.{registered}
use Rattle.book.specs.States.{State, state, fresh, needs, refusal, refused, allowed, taken, grown, answered, unless, take_answer, after_take}
use Rattle.book.specs.Taken.{entry_at, entries_of, state_of, Holds, word_refusal, added_by, Takes}
use Rattle.book.proofs.Growing.{tops_long, entries_long, formed_push, taken_push, grown_push}

-- when a word is refused
module _ (tops words free : ℕ) (w : Word) where
  pub refused_rank : tops < w.rank → refusal tops words free w ≡ Some RankAboveTops
  unfolding refusal
  refused_rank a = cond-true _ _ _ (lt-ltb _ _ a)

  pub refused_words : w.rank ≤ tops → 4096 ≤ words → refusal tops words free w ≡ Some BookFull
  unfolding refusal
  refused_words a b = cond-false _ _ _ (le-ltb _ _ a) ∙ cond-true _ _ _ (le-leb _ _ b)

  pub refused_room : w.rank ≤ tops → words < 4096 → free < needs w → refusal tops words free w ≡ Some RegisterFull
  unfolding refusal
  refused_room a b c = cond-false _ _ _ (le-ltb _ _ a) ∙ (cond-false _ _ _ (lt-leb _ _ b) ∙ cond-true _ _ _ (lt-ltb _ _ c))

  pub not_refused : refusal tops words free w ≡ None → (w.rank ≤ tops) × (words < 4096) × (needs w ≤ free)
  not_refused e =
      let a : w.rank ≤ tops = ⊎_elim (λ h. let f = refused_rank h in let z : ◌≡◌ {A = ℕ} 0 1 = cc in absurd (omega arith)) (λ h. h) (cases_lt tops w.rank) in
      let b : words < 4096 = ⊎_elim (λ h. h) (λ h. let f = refused_words a h in let z : ◌≡◌ {A = ℕ} 0 1 = cc in absurd (omega arith)) (cases_lt words 4096) in
      (a, b, ⊎_elim (λ h. let f = refused_room a b h in let z : ◌≡◌ {A = ℕ} 0 1 = cc in absurd (omega arith)) (λ h. h) (cases_lt free (needs w)))

  pub rank_within : refusal tops words free w ≡ None → w.rank ≤ tops
  rank_within e = (not_refused e).0

module _ (qs : List Pair) (room : ℕ) (ws : List Word) (w : Word) where
  pub refused_same : refused (state_of qs room ws) w ≡ word_refusal qs room ws w
  refused_same =
      ap (λ n. refusal n (length (entries_of (registered qs ws) ws)) (room - length (registered qs ws)) w) (tops_long qs ws)
      ∙ ap (λ n. refusal (count (tops ws)) n (room - length (registered qs ws)) w) (entries_long qs ws)

-- what a word does to a book that holds the words, by why it is refused
module _ (qs : List Pair) (ws : List Word) (s : State) (w : Word) (h : Holds qs ws s) where
  pub refused_as : refused s w ≡ word_refusal qs s.room ws w
  refused_as = ap (λ t. refused t w) h.is ∙ refused_same qs s.room ws w

  taken_as : (o : Option Refusal) → word_refusal qs s.room ws w ≡ o → answered o (taken s w) ≡ answered o (entry_at (registered qs (ws ++ w ∷ [])) (ws ++ w ∷ []) (length ws))
  taken_as None e = ap (λ x. answered None x) (ap (λ t. taken t w) h.is ∙ taken_push qs s.room ws w h.formed (rank_within _ _ _ w e))
  taken_as (Some r) e = refl

  pub grown_as : (o : Option Refusal) → word_refusal qs s.room ws w ≡ o → Holds qs (ws ++ added_by w (answered o (taken s w))) (unless o (grown s w) s)
  grown_as None e =
      let within = rank_within _ _ _ w e in
      record { formed = formed_push none ws w h.formed within; is = ap (λ t. grown t w) h.is ∙ grown_push qs s.room ws w h.formed within }
  grown_as (Some r) e = rw append-nil h

pub takes : (s t : State) (w : Word) (r : Result (ℕ × ℕ) Refusal) → r ≡ take_answer s w → t ≡ after_take s w → Takes s t w r
unfolding take_answer after_take
takes s t w r a b =
    record {
      answers = λ qs ws h. let e = refused_as qs ws s w h in a ∙ (ap (λ o. answered o (taken s w)) e ∙ taken_as qs ws s w h (word_refusal qs s.room ws w) refl);
      holds = λ qs ws h. rw (a, b) (grown_as qs ws s w h (refused s w) (sym (refused_as qs ws s w h)));
    }

-- what a taking comes to, by what the check of the word says
refused_as_said : (o : Option Refusal) (r : Refusal) → Err r ≡ allowed o → o ≡ Some r
refused_as_said None r e = let z : ◌≡◌ {A = ℕ} 0 1 = cc in absurd (omega arith)
refused_as_said (Some q) r e = cc

pub fine_as_said : (o : Option Refusal) → Ok tt ≡ allowed o → o ≡ None
fine_as_said None e = refl
fine_as_said (Some r) e = let z : ◌≡◌ {A = ℕ} 0 1 = cc in absurd (omega arith)

pub take_refused : (s : State) (w : Word) (r : Refusal) → Err r ≡ allowed (refused s w) → (Err r ≡ take_answer s w) × (s ≡ after_take s w)
unfolding take_answer after_take
take_refused s w r e =
    let o = sym (refused_as_said (refused s w) r e) in
    (ap (λ o. answered o (taken s w)) o, ap (λ o. unless o (grown s w) s) o)

pub take_fine : (s t : State) (w : Word) (e : Entry) → refused s w ≡ None → e ≡ taken s w → t ≡ grown s w → (Ok (e.group, e.start) ≡ take_answer s w) × (t ≡ after_take s w)
unfolding take_answer after_take
take_fine s t w e fine a b = (ap (λ x. answered None x) a ∙ ap (λ o. answered o (taken s w)) (sym fine), b ∙ ap (λ o. unless o (grown s w) s) (sym fine))

-- a book just made
pub fresh_is : (qs : List Pair) (room : ℕ) (es ts : List Entry) → es ≡ [] → ts ≡ [] → state qs room es ts ≡ fresh qs room
fresh_is qs room es ts a b = cc

pub fresh_holds : (qs : List Pair) (room : ℕ) (s : State) → s ≡ fresh qs room → Holds qs [] s
unfolding entries_of
fresh_holds qs room s e = rw e (record { formed = tt; is = refl })
