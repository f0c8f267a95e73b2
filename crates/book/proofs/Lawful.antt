-- The law of arrangements. Assumes nothing.
use Rattle.std.proofs.Common.{◌≡◌, ℕ, suc, ◌<◌, ◌≤◌, Bool, true, false, cond, ◌&&◌, ltb, leb, ◌⊎◌, List, [], ◌∷◌, ◌++◌, length, drop, Some, None, Ok, Err, Option, sym, refl, ap, ◌∙◌, inl, inr, ⊎_elim, arith}
use Rattle.std.proofs.lemmas.Bool.{ltb-true, ltb-false, leb-true, leb-false}
use Rattle.std.proofs.lemmas.List.{append-nil, append_assoc, length-append, length_push, take-append-le, take_at}
use Rattle.std.proofs.ByRecursion.{All-get_or}
use Rattle.names.specs.declared.refusals.Refusal.{Refusal}
use Rattle.names.specs.declared.refusals.Refusal.TheVariants.{NoSuchPosition, NoSuchRepeat, TableTooShort}
use Rattle.registers.specs.declared.pairs.Pair.{Pair}
use Rattle.book.specs.Words.{Word}
use Rattle.book.specs.Passages.{Row, none}
use Rattle.book.specs.Tops.{push, reading, FormedOn, Formed, top, passage_at}
use Rattle.book.specs.Tops as top_of
use Rattle.book.specs.Groups.{group, group_at, with_word, registering, registered}
use Rattle.book.specs.Repeats.{◌among◌, first, Repeat, SamePassage, Listing}
use Rattle.book.specs.States.{State, fresh, answered}
use Rattle.book.specs.Taken.{entry_at, Holds, word_refusal}
use Rattle.book.specs.Questions.{word_group, listing, repeat_count, ends_at, listed_by, word_listed, word_table}
use Rattle.book.specs.Arrangements.{Asked, take, group as group', repeats, list, Said, taken, told, listed, answer_to, taking_after, words_of, words_taken, answers_on, answers}
use Rattle.book.specs.Performed.{Stand, standing, Performs}
use Rattle.book.specs.Law.{Gives, GivenOut, TellsRepeats, ListedThroughout, Law}
use Rattle.book.proofs.Numbered.{Grows}
use Rattle.book.proofs.Exactness.{group_stands, group_exact}
use Rattle.book.proofs.Entering.{grows_registering, held_registered}
use Rattle.book.proofs.Counts.{length_registered}
use Rattle.book.proofs.Slices.{repeats_listed}

-- Where the loop over the calls is: what is left leads on to what the whole leads to.
pub record Going (s₀ : Stand) (cs : List Asked) (s : Stand) (rest : List Asked) (given : List Said) : Type 0 where
  pub sofar : List Word
  pub holds : Holds s₀.held.pairs sofar s.held
  pub room : s.held.room ≡ s₀.held.room
  pub replies : given ++ answers_on s₀.held.pairs s₀.held.room sofar s.taking rest ≡ answers_on s₀.held.pairs s₀.held.room [] s₀.taking cs
  pub gained : sofar ++ words_taken rest (answers_on s₀.held.pairs s₀.held.room sofar s.taking rest) ≡ words_taken cs (answers_on s₀.held.pairs s₀.held.room [] s₀.taking cs)

pub going_more : (s₀ : Stand) (cs : List Asked) (s t : Stand) (rest later : List Asked) (given more : List Said) (c : Asked) (a : Said) →
    Going s₀ cs s rest given → rest ≡ c ∷ later → more ≡ given ++ a ∷ [] → Performs s t c a → Going s₀ cs t later more
going_more s₀ cs s t rest later given more c a g first pushed p =
    let qs = s₀.held.pairs in
    let room = s₀.held.room in
    let ws = g.sofar in
    let reply : a ≡ answer_to qs room ws s.taking c = p.answers qs ws g.holds ∙ ap (λ n. answer_to qs n ws s.taking c) g.room in
    let on : answers_on qs room (ws ++ words_of c a) t.taking later ≡ answers_on qs room (ws ++ words_of c (answer_to qs room ws s.taking c)) (taking_after s.taking c) later =
    ap (λ b. answers_on qs room (ws ++ words_of c a) b later) p.taking ∙ ap (λ x. answers_on qs room (ws ++ words_of c x) (taking_after s.taking c) later) reply in
    record {
      sofar = ws ++ words_of c a;
      holds = p.holds qs ws g.holds;
      room = p.room ∙ g.room;
      replies =
          ap (λ l. l ++ answers_on qs room (ws ++ words_of c a) t.taking later) pushed
          ∙ (append_assoc given (a ∷ []) (answers_on qs room (ws ++ words_of c a) t.taking later)
          ∙ (ap (λ l. given ++ (a ∷ l)) on
          ∙ (ap (λ x. given ++ (x ∷ answers_on qs room (ws ++ words_of c (answer_to qs room ws s.taking c)) (taking_after s.taking c) later)) reply
          ∙ (ap (λ l. given ++ answers_on qs room ws s.taking l) (sym first) ∙ g.replies))));
      gained =
          append_assoc ws (words_of c a) (words_taken later (answers_on qs room (ws ++ words_of c a) t.taking later))
          ∙ (ap (λ l. ws ++ (words_of c a ++ words_taken later l)) on
          ∙ (ap (λ x. ws ++ (words_of c x ++ words_taken later (answers_on qs room (ws ++ words_of c (answer_to qs room ws s.taking c)) (taking_after s.taking c) later))) reply
          ∙ (ap (λ l. ws ++ words_taken l (answers_on qs room ws s.taking l)) (sym first) ∙ g.gained)));
    }

-- words and more words
formed_front : (row : Row) (ws vs : List Word) → FormedOn row (ws ++ vs) → FormedOn row ws
formed_front row [] vs f = tt
formed_front row (w ∷ ws) vs f = (f.0, formed_front (push row w) ws vs f.1)

registering_more : (qs : List Pair) (row : Row) (ws vs : List Word) → registering qs row (ws ++ vs) ≡ registering (registering qs row ws) (reading row ws) vs
registering_more qs row [] vs = refl
registering_more qs row (w ∷ ws) vs = registering_more (with_word qs row w) (push row w) ws vs

-- a group number stays that of its passage, whatever words come after
group_later : (qs : List Pair) (ws vs : List Word) (p : ℕ) → Formed (ws ++ vs) → p < length ws → group_at (registered qs ws) ws p ≡ group_at (registered qs (ws ++ vs)) (ws ++ vs) p
group_later qs ws vs p f h =
    let held = held_registered qs ws p (formed_front none ws vs f) h in
    let grows : Grows (registered qs ws) (registered qs (ws ++ vs)) = rw (registering_more qs none ws vs) (grows_registering (registered qs ws) (reading none ws) vs) in
    let stands : group (registered qs (ws ++ vs)) (passage_at ws p) ≡ group (registered qs ws) (passage_at ws p) = rw grows.1 (group_stands (registered qs ws) grows.0 (passage_at ws p) held) in
    let same : passage_at (ws ++ vs) p ≡ passage_at ws p = ap (λ us. top (top_of.tops us)) (take-append-le (suc p) ws vs (omega arith)) in
    sym stands ∙ ap (group (registered qs (ws ++ vs))) (sym same)

-- that a number is the group number at a position below the words
At : List Pair → List Word → ℕ → ℕ → Type 0
At qs ws p g = (p < length ws) × (g ≡ group_at (registered qs ws) ws p)

at_later : (qs : List Pair) (ws vs : List Word) (p g : ℕ) → Formed (ws ++ vs) → At qs ws p g → At qs (ws ++ vs) p g
unfolding At
at_later qs ws vs p g f a = (omega (arith, a.0, length-append ws vs), a.1 ∙ group_later qs ws vs p f a.0)

-- the two tests of a listing
Kinds : List Pair → List Word → ℕ → List ℕ → Type 0
Kinds qs ws k table =
    ((k < repeat_count qs ws) × (length (ends_at k qs ws) ≤ length table) × (word_listed k (length table) qs ws ≡ Ok (listed_by qs ws (ends_at k qs ws))) × (word_table k table qs ws ≡ ends_at k qs ws ++ drop (length (ends_at k qs ws)) table))
    ⊎ (((k < repeat_count qs ws) × (length table < length (ends_at k qs ws)) × (word_listed k (length table) qs ws ≡ Err TableTooShort) × (word_table k table qs ws ≡ table))
    ⊎ ((repeat_count qs ws ≤ k) × (word_listed k (length table) qs ws ≡ Err NoSuchRepeat) × (word_table k table qs ws ≡ table)))

kinds : (qs : List Pair) (ws : List Word) (k : ℕ) (table : List ℕ) → Kinds qs ws k table
unfolding Kinds word_listed word_table
kinds qs ws k table = by (ltb k (repeat_count qs ws)) (leb (length (ends_at k qs ws)) (length table)) refl refl
  where
    by : (b d : Bool) → ltb k (repeat_count qs ws) ≡ b → leb (length (ends_at k qs ws)) (length table) ≡ d →
        ((k < repeat_count qs ws) × (length (ends_at k qs ws) ≤ length table) × (cond (ltb k (repeat_count qs ws)) (cond (leb (length (ends_at k qs ws)) (length table)) (Ok (listed_by qs ws (ends_at k qs ws))) (Err TableTooShort)) (Err NoSuchRepeat) ≡ Ok (listed_by qs ws (ends_at k qs ws))) × (cond (ltb k (repeat_count qs ws) && leb (length (ends_at k qs ws)) (length table)) (ends_at k qs ws ++ drop (length (ends_at k qs ws)) table) table ≡ ends_at k qs ws ++ drop (length (ends_at k qs ws)) table))
        ⊎ (((k < repeat_count qs ws) × (length table < length (ends_at k qs ws)) × (cond (ltb k (repeat_count qs ws)) (cond (leb (length (ends_at k qs ws)) (length table)) (Ok (listed_by qs ws (ends_at k qs ws))) (Err TableTooShort)) (Err NoSuchRepeat) ≡ Err TableTooShort) × (cond (ltb k (repeat_count qs ws) && leb (length (ends_at k qs ws)) (length table)) (ends_at k qs ws ++ drop (length (ends_at k qs ws)) table) table ≡ table))
        ⊎ ((repeat_count qs ws ≤ k) × (cond (ltb k (repeat_count qs ws)) (cond (leb (length (ends_at k qs ws)) (length table)) (Ok (listed_by qs ws (ends_at k qs ws))) (Err TableTooShort)) (Err NoSuchRepeat) ≡ Err NoSuchRepeat) × (cond (ltb k (repeat_count qs ws) && leb (length (ends_at k qs ws)) (length table)) (ends_at k qs ws ++ drop (length (ends_at k qs ws)) table) table ≡ table)))
    by true true s t = inl (ltb-true _ _ s, leb-true _ _ t, simp (s, t), simp (s, t))
    by true false s t = inr (inl (ltb-true _ _ s, leb-false _ _ t, simp (s, t), simp (s, t)))
    by false d s t = inr (inr (ltb-false _ _ s, simp s, simp s))

listing_of : (qs : List Pair) (ws : List Word) → Formed ws → Listing (SamePassage ws) (length ws) (listing qs ws)
unfolding listing
listing_of qs ws f = repeats_listed qs ws f

-- what a call tells of the repeats
tells_so : (qs : List Pair) (room : ℕ) (ws : List Word) (b : Bool) (c : Asked) → TellsRepeats ws (listing qs ws) c (answer_to qs room ws b c)
unfolding Kinds
tells_so qs room ws true repeats = tt
tells_so qs room ws false repeats = refl
tells_so qs room ws true (list k table) = tt
tells_so qs room ws false (list k table) =
    ⊎_elim
    (λ y. rw (y.2, y.3) (y.0, record { ends = refl; count = refl; size = refl }))
    (⊎_elim
    (λ y. rw (y.2, y.3) (refl, inr (refl, y.0, y.1)))
    (λ y. rw (y.1, y.2) (refl, inl (refl, y.0))))
    (kinds qs ws k table)
tells_so qs room ws b c = tt

all_listed : (qs : List Pair) (room : ℕ) (cs : List Asked) (ws : List Word) (b : Bool) → Formed (ws ++ words_taken cs (answers_on qs room ws b cs)) → ListedThroughout ws cs (answers_on qs room ws b cs)
all_listed qs room [] ws b f = tt
all_listed qs room (c ∷ cs) ws b f =
    let a = answer_to qs room ws b c in
    let more = words_of c a in
    let rest = words_taken cs (answers_on qs room (ws ++ more) (taking_after b c) cs) in (
      (listing qs ws, listing_of qs ws (formed_front none ws (more ++ rest) f), tells_so qs room ws b c),
      all_listed qs room cs (ws ++ more) (taking_after b c) (rw (append_assoc ws more rest) f),
    )

-- a number that a call gives out is the group number at its position
taking_gives : (qs : List Pair) (room : ℕ) (ws : List Word) (w : Word) (p g : ℕ) → Gives (length ws) (take w) (answer_to qs room ws true (take w)) p g → At qs (ws ++ words_of (take w) (answer_to qs room ws true (take w))) p g
unfolding At
taking_gives qs room ws w p g h = by (word_refusal qs room ws w) h
  where
    by : (o : Option Refusal) → Gives (length ws) (take w) (taken (answered o (entry_at (registered qs (ws ++ w ∷ [])) (ws ++ w ∷ []) (length ws)))) p g →
        (p < length (ws ++ words_of (take w) (taken (answered o (entry_at (registered qs (ws ++ w ∷ [])) (ws ++ w ∷ []) (length ws)))))) × (g ≡ group_at (registered qs (ws ++ words_of (take w) (taken (answered o (entry_at (registered qs (ws ++ w ∷ [])) (ws ++ w ∷ []) (length ws)))))) (ws ++ words_of (take w) (taken (answered o (entry_at (registered qs (ws ++ w ∷ [])) (ws ++ w ∷ []) (length ws))))) p)
    by None k = (omega (arith, k.0, length_push ws w), k.1 ∙ ap (group_at (registered qs (ws ++ w ∷ [])) (ws ++ w ∷ [])) (sym k.0))
    by (Some r) k = absurd k

question_gives : (qs : List Pair) (ws : List Word) (q p g : ℕ) → Gives (length ws) (group' q) (told (word_group q qs ws)) p g → At qs ws p g
unfolding At
question_gives qs ws q p g h = by (ltb q (length ws)) refl h
  where
    by : (b : Bool) → ltb q (length ws) ≡ b → Gives (length ws) (group' q) (told (cond b (Ok (group_at (registered qs ws) ws q)) (Err NoSuchPosition))) p g → (p < length ws) × (g ≡ group_at (registered qs ws) ws p)
    by true t k = (let l = ltb-true q (length ws) t in omega (arith, l, k.0), k.1 ∙ ap (group_at (registered qs ws) ws) (sym k.0))
    by false t k = absurd k

listing_gives : (qs : List Pair) (ws : List Word) (k : ℕ) (table : List ℕ) (p g : ℕ) → Formed ws → Gives (length ws) (list k table) (listed (word_listed k (length table) qs ws) (word_table k table qs ws)) p g → At qs ws p g
unfolding At Kinds
listing_gives qs ws k table p g f h =
    ⊎_elim
    (λ y.
    let given : Gives (length ws) (list k table) (listed (Ok (listed_by qs ws (ends_at k qs ws))) (ends_at k qs ws ++ drop (length (ends_at k qs ws)) table)) p g = rw (y.2, y.3) at h in
    let listed-end : p among ends_at k qs ws = rw (take_at (ends_at k qs ws) (drop (length (ends_at k qs ws)) table) (length (ends_at k qs ws)) refl) at given.0 in
    let one = All-get_or (Repeat (SamePassage ws) (length ws)) (listing qs ws) k [] y.0 (listing_of qs ws f).each in
    let so = (one.exactly p).0 listed-end in
    (so.0, given.1 ∙ ap (group (registered qs ws)) (sym so.1)))
    (⊎_elim
    (λ y. let never : ⊥ = rw y.2 at h in absurd never)
    (λ y. let never : ⊥ = rw y.1 at h in absurd never))
    (kinds qs ws k table)

still : (qs : List Pair) (ws : List Word) (p g : ℕ) → At qs ws p g → At qs (ws ++ []) p g
still qs ws p g a = rw append-nil a

gives_at : (qs : List Pair) (room : ℕ) (ws : List Word) (b : Bool) (c : Asked) (p g : ℕ) → Formed ws → Gives (length ws) c (answer_to qs room ws b c) p g → At qs (ws ++ words_of c (answer_to qs room ws b c)) p g
gives_at qs room ws true (take w) p g f h = taking_gives qs room ws w p g h
gives_at qs room ws false (take w) p g f h = absurd h
gives_at qs room ws true (group' q) p g f h = still qs ws p g (question_gives qs ws q p g h)
gives_at qs room ws false (group' q) p g f h = still qs ws p g (question_gives qs ws q p g h)
gives_at qs room ws true (list k table) p g f h = absurd h
gives_at qs room ws false (list k table) p g f h = still qs ws p g (listing_gives qs ws k table p g f h)
gives_at qs room ws b c p g f h = absurd h

given_at : (qs : List Pair) (room : ℕ) (cs : List Asked) (ws : List Word) (b : Bool) (p g : ℕ) → Formed (ws ++ words_taken cs (answers_on qs room ws b cs)) → GivenOut (length ws) cs (answers_on qs room ws b cs) p g → At qs (ws ++ words_taken cs (answers_on qs room ws b cs)) p g
given_at qs room [] ws b p g f h = absurd h
given_at qs room (c ∷ cs) ws b p g f h =
    let a = answer_to qs room ws b c in
    let more = words_of c a in
    let rest = words_taken cs (answers_on qs room (ws ++ more) (taking_after b c) cs) in
    let all : Formed ((ws ++ more) ++ rest) = rw (append_assoc ws more rest) f in
    ⊎_elim
    (λ k. rw (append_assoc ws more rest) at (at_later qs (ws ++ more) rest p g all (gives_at qs room ws b c p g (formed_front none ws (more ++ rest) f) k)))
    (λ k. rw (append_assoc ws more rest) at (given_at qs room cs (ws ++ more) (taking_after b c) p g all (rw (length-append ws more) k)))
    h

pub lawful : (qs : List Pair) (room : ℕ) (cs : List Asked) (said : List Said) (ws : List Word) (rs : List Pair) → said ≡ answers qs room cs → ws ≡ words_taken cs (answers qs room cs) → Formed ws → rs ≡ registered qs ws → Law qs room cs said rs
unfolding At
lawful qs room cs said ws rs a w f r =
    let same : words_taken cs said ≡ ws = ap (words_taken cs) a ∙ sym w in
    let all : Formed (words_taken cs (answers qs room cs)) = rw (sym w) f in
    let at : (p g : ℕ) → GivenOut 0 cs said p g → (p < length ws) × (g ≡ group_at (registered qs ws) ws p) = λ p g h. rw w (given_at qs room cs [] true p g all (rw a at h)) in
    record {
      answered = a;
      pairs = r ∙ ap (registered qs) (sym same);
      formed = rw same f;
      exact = λ p q g h x y.
          let i = at p g x in
          let j = at q h y in
          let e = group_exact (registered qs ws) (passage_at ws p) (passage_at ws q) (held_registered qs ws p f i.0) (held_registered qs ws q f j.0) in
          rw same (λ k. e.0 (sym i.1 ∙ (k ∙ j.1)), λ k. i.1 ∙ (e.1 k ∙ sym j.1));
      listed = rw a (all_listed qs room cs [] true all);
      few = rw (same, r) (length_registered qs ws f);
    }

pub going_end : (qs : List Pair) (room : ℕ) (s₀ s : Stand) (cs rest : List Asked) (given : List Said) (rs : List Pair) → s₀ ≡ standing (fresh qs room) true → Going s₀ cs s rest given → rest ≡ [] → rs ≡ s.held.pairs → Law qs room cs given rs × (s.held.room ≡ room)
going_end qs room s₀ s cs rest given rs new going over now =
    let g : Going (standing (fresh qs room) true) cs s [] given = rw (new, over) at going in (
      lawful qs room cs given g.sofar rs (sym (append-nil given) ∙ g.replies) (sym (append-nil g.sofar) ∙ g.gained) g.holds.formed (now ∙ ap (λ (x : State). x.pairs) g.holds.is),
      g.room,
    )
