-- Reading a text, said of the words. Assumes nothing.
use Rattle.std.proofs.Common.{◌≡◌, ℕ, suc, ◌+◌, ◌≤◌, Bool, true, false, cond, ltb, List, [], ◌∷◌, ◌++◌, map, length, Some, None, Ok, Err, filter, Option, Result, sym, refl, ap, ◌∙◌, arith}
use Rattle.std.proofs.lemmas.Bool.{cond-true, cond-false, lt-ltb, le-ltb}
use Rattle.std.proofs.lemmas.List.{append-nil, append_assoc, length_push}
use Rattle.names.specs.declared.pitches.Naming.{Naming}
use Rattle.names.specs.declared.refusals.Fault.{Fault}
use Rattle.names.specs.declared.refusals.Refusal.{Refusal}
use Rattle.names.specs.declared.refusals.Refusal.TheVariants.{TextTooLong}
use Rattle.names.specs.Tokens.{Said, token_read}
use Rattle.names.specs.Texts.{Piece, Told, Telling, pieces, told, telling, text_told, naming_after, stopped, later_than_first, later}
use Rattle.names.specs.Reader.{opening}
use Rattle.names.specs.Parted.{Parted, last, next}
use Rattle.names.proofs.Parting.{parted}
use Rattle.registers.specs.declared.pairs.Pair.{Pair}
use Rattle.book.specs.declared.readings.Reading.{Reading}
use Rattle.book.specs.Words.{Word}
use Rattle.book.specs.States.{State, refused, grown, take_answer, after_take, answered, unless, taken}
use Rattle.book.specs.Taken.{Holds, word_refusal}
use Rattle.book.specs.Readings.{word_of, Placed, placing, placed, said_of, text_words, words_added, fault_at, faulting, first_fault, read_as, told_as, told_answer, untold, faulted, after_told, stops, grown_by, takes_all, read_answer, after_read, Reads}
use Rattle.book.proofs.Takings.{refused_as, grown_as}

-- Tokens begin one behind another, and the fault that stops them behind them all.
Ascending : ℕ → List Placed → Option Fault → Type 0
Ascending at [] None = Unit {0}
Ascending at [] (Some f) = at ≤ f.byte
Ascending at (p ∷ ps) f = (at ≤ p.byte) × Ascending (p.byte + 1) ps f

Rise : ℕ → List Piece → Type 0
Rise at [] = Unit {0}
Rise at (p ∷ ps) = (at ≤ p.byte) × Rise (p.byte + 1) ps

lower : (at to : ℕ) (ps : List Placed) (f : Option Fault) → at ≤ to → Ascending to ps f → Ascending at ps f
unfolding Ascending
lower at to [] None h a = tt
lower at to [] (Some f) h a = omega arith
lower at to (p ∷ ps) f h a = (omega (arith, a.0), a.1)

rise_lower : (at to : ℕ) (ps : List Piece) → at ≤ to → Rise to ps → Rise at ps
unfolding Rise
rise_lower at to [] h a = tt
rise_lower at to (p ∷ ps) h a = (omega (arith, a.0), a.1)

parted_rise : {at : ℕ} {text : List ℕ} {ps : List Piece} → Parted at text ps → Rise at ps
unfolding Rise
parted_rise (last e) = tt
parted_rise {at} (next {ps = ps} gaps token rest e all some whole ends more) =
    (omega arith, rise_lower (at + length gaps + 1) (at + length gaps + length token) ps (omega arith) (parted_rise more))

told_ascends : (r : Reading) (ps : List Piece) (at : ℕ) (n : Option Naming) → Rise at ps → Ascending at (placed r (told n ps).tokens) (told n ps).fault
unfolding told Rise Ascending
told_ascends r [] at n h = tt
told_ascends r (p ∷ ps) at n h = by (token_read n p.bytes) (λ m. told_ascends r ps (p.byte + 1) m h.1)
  where
    put : (w : Option Word) (qs : List Placed) (f : Option Fault) → Ascending (p.byte + 1) qs f → Ascending at (placing p.byte w qs) f
    put None qs f a = lower at (p.byte + 1) qs f (omega (arith, h.0)) a
    put (Some w) qs f a = (h.0, a)

    by : (x : Result Said Refusal) → ((m : Option Naming) → Ascending (p.byte + 1) (placed r (told m ps).tokens) (told m ps).fault) → Ascending at (placed r (telling p n x (λ m. told m ps)).tokens) (telling p n x (λ m. told m ps)).fault
    by (Err e) rest = h.0
    by (Ok t) rest = put (word_of r t) (placed r (told (naming_after n t) ps).tokens) (told (naming_after n t) ps).fault (rest (naming_after n t))

text_ascends : (r : Reading) (text : List ℕ) → Ascending 0 (text_words r text) (text_told text).fault
unfolding Ascending
text_ascends r text = by (ltb 65536 (length text))
  where
    by : (b : Bool) → Ascending 0 (placed r (cond b (stopped TextTooLong 0) (told None (pieces 0 text))).tokens) (cond b (stopped TextTooLong 0) (told None (pieces 0 text))).fault
    by true = omega arith
    by false = told_ascends r (pieces 0 text) 0 None (parted_rise (parted text 0))

-- no word behind the byte is kept
kept_none : (at : ℕ) (ps : List Placed) (f : Option Fault) → Ascending at ps f → filter (λ p. ltb p.byte at) ps ≡ []
unfolding Ascending
kept_none at ps f a = go at ps f (omega arith) a
  where
    go : (to : ℕ) (qs : List Placed) (g : Option Fault) → at ≤ to → Ascending to qs g → filter (λ p. ltb p.byte at) qs ≡ []
    go to [] g h b = refl
    go to (q ∷ qs) g h b = cond-false (ltb q.byte at) _ _ (le-ltb _ _ (omega (arith, b.0))) ∙ go (q.byte + 1) qs g (omega (arith, b.0)) b.1

stop_behind : (s : State) (at : ℕ) (ps : List Placed) (f : Option Fault) (g : Fault) → Ascending at ps f → stops s ps f ≡ Some g → at ≤ g.byte
unfolding Ascending
stop_behind s at [] None g a e = let z : ◌≡◌ {A = ℕ} 0 1 = cc in absurd (omega arith)
stop_behind s at [] (Some f) g a e = let same : f ≡ g = cc in rw same at a
stop_behind s at (p ∷ ps) f g a e = by (refused s p.said) e (stop_behind (grown s p.said) (p.byte + 1) ps f g a.1)
  where
    by : (o : Option Refusal) → faulting p.byte o (stops (grown s p.said) ps f) ≡ Some g → (stops (grown s p.said) ps f ≡ Some g → p.byte + 1 ≤ g.byte) → at ≤ g.byte
    by None e' ih = let h = ih e' in omega (arith, h, a.0)
    by (Some x) e' ih = let same : fault_at p.byte x ≡ g = cc in let b : p.byte ≡ g.byte = ap (λ (y : Fault). y.byte) same in omega (arith, a.0, b)

-- the words that are taken, by where the taking stops
taken_of : List Placed → Option Fault → List Word
taken_of ps f = words_added ps (read_as ps f)

module _ (qs : List Pair) where
  same_fault : (ps : List Placed) (f : Option Fault) (ws : List Word) (s : State) → Holds qs ws s → stops s ps f ≡ first_fault qs s.room ws ps f
  same_fault [] f ws s h = refl
  same_fault (p ∷ ps) f ws s h = ap (λ o. faulting p.byte o (stops (grown s p.said) ps f)) (refused_as qs ws s p.said h) ∙ by (word_refusal qs s.room ws p.said) refl (same_fault ps f (ws ++ p.said ∷ []) (grown s p.said))
    where
      by : (o : Option Refusal) → word_refusal qs s.room ws p.said ≡ o → (Holds qs (ws ++ p.said ∷ []) (grown s p.said) → stops (grown s p.said) ps f ≡ first_fault qs s.room (ws ++ p.said ∷ []) ps f) → faulting p.byte o (stops (grown s p.said) ps f) ≡ faulting p.byte o (first_fault qs s.room (ws ++ p.said ∷ []) ps f)
      by None e ih = ih (grown_as qs ws s p.said h None e)
      by (Some x) e ih = refl

  holds_all : (ps : List Placed) (at : ℕ) (f : Option Fault) (ws : List Word) (s : State) → Ascending at ps f → Holds qs ws s → Holds qs (ws ++ taken_of ps (stops s ps f)) (takes_all s ps)
  unfolding taken_of Ascending
  holds_all [] at None ws s a h = rw append-nil h
  holds_all [] at (Some f) ws s a h = rw append-nil h
  holds_all (p ∷ ps) at f ws s a h = by (refused s p.said) refl (holds_all ps (p.byte + 1) f (ws ++ p.said ∷ []) (grown s p.said) a.1)
    where
      one : (g : Option Fault) → stops (grown s p.said) ps f ≡ g → words_added (p ∷ ps) (read_as (p ∷ ps) g) ≡ p.said ∷ words_added ps (read_as ps g)
      one None e = refl
      one (Some g) e =
          let b = stop_behind (grown s p.said) (p.byte + 1) ps f g a.1 e in
          ap (map said_of) (cond-true (ltb p.byte g.byte) _ _ (lt-ltb _ _ (omega (arith, b))))

      by : (o : Option Refusal) → refused s p.said ≡ o → (Holds qs (ws ++ p.said ∷ []) (grown s p.said) → Holds qs ((ws ++ p.said ∷ []) ++ words_added ps (read_as ps (stops (grown s p.said) ps f))) (takes_all (grown s p.said) ps)) → Holds qs (ws ++ words_added (p ∷ ps) (read_as (p ∷ ps) (faulting p.byte o (stops (grown s p.said) ps f)))) (grown_by o (takes_all (grown s p.said) ps) s)
      by None e ih =
          let g = stops (grown s p.said) ps f in
          let all = ih (grown_as qs ws s p.said h None (sym (refused_as qs ws s p.said h) ∙ e)) in
          rw (one g refl, ← append_assoc ws (p.said ∷ []) (words_added ps (read_as ps g))) all
      by (Some x) e ih =
          let none : filter (λ q. ltb q.byte p.byte) (p ∷ ps) ≡ [] = cond-false (ltb p.byte p.byte) _ _ (le-ltb _ _ (omega arith)) ∙ kept_none p.byte ps f (lower p.byte (p.byte + 1) ps f (omega arith) a.1) in
          rw (none, append-nil) h

pub reads : (s t : State) (r : Reading) (text : List ℕ) (answer : Result ℕ Fault) → answer ≡ read_answer s r text → t ≡ after_read s r text → Reads s t r text answer
unfolding taken_of
reads s t r text answer a b =
    record {
      answers = λ qs ws h. a ∙ ap (read_as (text_words r text)) (same_fault qs (text_words r text) (text_told text).fault ws s h);
      holds = λ qs ws h. rw (a, b) (holds_all qs (text_words r text) 0 (text_told text).fault ws s (text_ascends r text) h);
    }

-- Where the loop over a text's tokens is: what is left to tell leads on to where the whole leads.
pub record Going (r : Reading) (s₀ : State) (x₀ : Telling) (s : State) (x : Telling) : Type 0 where
  pub fault : stops s (placed r x.tokens) x.fault ≡ stops s₀ (placed r x₀.tokens) x₀.fault
  pub after : takes_all s (placed r x.tokens) ≡ takes_all s₀ (placed r x₀.tokens)

-- a taking that is answered, and one that is refused
answered_fine : (o : Option Refusal) (s : State) (w : Word) (y : Option (ℕ × ℕ)) → Ok y ≡ told_as (answered o (taken s w)) → o ≡ None
answered_fine None s w y e = refl
answered_fine (Some r) s w y e = let z : ◌≡◌ {A = ℕ} 0 1 = cc in absurd (omega arith)

answered_refused : (o : Option Refusal) (s : State) (w : Word) (r : Refusal) → Err r ≡ told_as (answered o (taken s w)) → o ≡ Some r
answered_refused None s w r e = let z : ◌≡◌ {A = ℕ} 0 1 = cc in absurd (omega arith)
answered_refused (Some x) s w r e = cc

-- what an answer without its group and start says of the answer
untold_fine : {X : Type 0} (x : Result X Refusal) → Ok tt ≡ untold x → (y : X) × (Ok y ≡ x)
untold_fine (Ok y) e = (y, refl)
untold_fine (Err r) e = let z : ◌≡◌ {A = ℕ} 0 1 = cc in absurd (omega arith)

untold_refused : {X : Type 0} (x : Result X Refusal) (r : Refusal) → Err r ≡ untold x → Err r ≡ x
untold_refused (Ok y) r e = let z : ◌≡◌ {A = ℕ} 0 1 = cc in absurd (omega arith)
untold_refused (Err q) r e = cc

-- what an answer with its byte says of the answer
faulted_fine : {X : Type 0} (at : ℕ) (x : Result X Refusal) (y : X) → Ok y ≡ faulted at x → Ok y ≡ x
faulted_fine at (Ok z) y e = cc
faulted_fine at (Err r) y e = let z : ◌≡◌ {A = ℕ} 0 1 = cc in absurd (omega arith)

faulted_refused : {X : Type 0} (at : ℕ) (x : Result X Refusal) (f : Fault) → Err f ≡ faulted at x → (r : Refusal) × (Err r ≡ x) × (f ≡ fault_at at r)
faulted_refused at (Ok z) f e = let z : ◌≡◌ {A = ℕ} 0 1 = cc in absurd (omega arith)
faulted_refused at (Err r) f e = (r, refl, cc)

module _ (r : Reading) (s₀ : State) (x₀ : Telling) (s : State) (x : Telling) (t : Told) (going : Going r s₀ x₀ s x) (first : x.tokens ≡ t ∷ later_than_first x.tokens) where
  fault_first : stops s (placing t.byte (word_of r t.says) (placed r (later_than_first x.tokens))) x.fault ≡ stops s₀ (placed r x₀.tokens) x₀.fault
  fault_first = ap (λ ts. stops s (placed r ts) x.fault) (sym first) ∙ going.fault

  after_first : takes_all s (placing t.byte (word_of r t.says) (placed r (later_than_first x.tokens))) ≡ takes_all s₀ (placed r x₀.tokens)
  after_first = ap (λ ts. takes_all s (placed r ts)) (sym first) ∙ going.after

  pub going_more : (s' : State) (x' : Telling) → Ok tt ≡ faulted t.byte (untold (told_answer s (word_of r t.says))) → s' ≡ after_told s (word_of r t.says) → x' ≡ later x → Going r s₀ x₀ s' x'
  unfolding take_answer after_take
  going_more s' x' a b l = let fine = untold_fine _ (faulted_fine _ _ _ a) in rw l (by (word_of r t.says) fine.0 fine.1 b fault_first after_first)
    where
      by : (w : Option Word) (y : Option (ℕ × ℕ)) → Ok y ≡ told_answer s w → s' ≡ after_told s w → stops s (placing t.byte w (placed r (later_than_first x.tokens))) x.fault ≡ stops s₀ (placed r x₀.tokens) x₀.fault → takes_all s (placing t.byte w (placed r (later_than_first x.tokens))) ≡ takes_all s₀ (placed r x₀.tokens) → Going r s₀ x₀ s' (later x)
      by None y a' b' f g = record { fault = ap (λ u. stops u (placed r (later_than_first x.tokens)) x.fault) b' ∙ f; after = ap (λ u. takes_all u (placed r (later_than_first x.tokens))) b' ∙ g }
      by (Some w) y a' b' f g =
          let fine = answered_fine (refused s w) s w y a' in
          let to : s' ≡ grown s w = b' ∙ ap (λ o. unless o (grown s w) s) fine in
          record {
            fault = ap (λ u. stops u (placed r (later_than_first x.tokens)) x.fault) to ∙ (ap (λ o. faulting t.byte o (stops (grown s w) (placed r (later_than_first x.tokens)) x.fault)) (sym fine) ∙ f);
            after = ap (λ u. takes_all u (placed r (later_than_first x.tokens))) to ∙ (ap (λ o. grown_by o (takes_all (grown s w) (placed r (later_than_first x.tokens))) s) (sym fine) ∙ g);
          }

  stopped_there : (s' : State) (e : Refusal) → Err e ≡ told_answer s (word_of r t.says) → s' ≡ after_told s (word_of r t.says) → (Some (fault_at t.byte e) ≡ stops s₀ (placed r x₀.tokens) x₀.fault) × (s' ≡ takes_all s₀ (placed r x₀.tokens))
  unfolding take_answer after_take
  stopped_there s' e a b = by (word_of r t.says) a b fault_first after_first
    where
      by : (w : Option Word) → Err e ≡ told_answer s w → s' ≡ after_told s w → stops s (placing t.byte w (placed r (later_than_first x.tokens))) x.fault ≡ stops s₀ (placed r x₀.tokens) x₀.fault → takes_all s (placing t.byte w (placed r (later_than_first x.tokens))) ≡ takes_all s₀ (placed r x₀.tokens) → (Some (fault_at t.byte e) ≡ stops s₀ (placed r x₀.tokens) x₀.fault) × (s' ≡ takes_all s₀ (placed r x₀.tokens))
      by None a' b' f g = let z : ◌≡◌ {A = ℕ} 0 1 = cc in absurd (omega arith)
      by (Some w) a' b' f g =
          let why = answered_refused (refused s w) s w e a' in (
            ap (λ o. faulting t.byte o (stops (grown s w) (placed r (later_than_first x.tokens)) x.fault)) (sym why) ∙ f,
            b' ∙ (ap (λ o. unless o (grown s w) s) why ∙ (ap (λ o. grown_by o (takes_all (grown s w) (placed r (later_than_first x.tokens))) s) (sym why) ∙ g)),
          )

  pub going_refused : (s' : State) (f : Fault) → Err f ≡ faulted t.byte (untold (told_answer s (word_of r t.says))) → s' ≡ after_told s (word_of r t.says) → (Some f ≡ stops s₀ (placed r x₀.tokens) x₀.fault) × (s' ≡ takes_all s₀ (placed r x₀.tokens))
  going_refused s' f a b =
      let h = faulted_refused t.byte (untold (told_answer s (word_of r t.says))) f a in
      let there = stopped_there s' h.0 (untold_refused _ h.0 h.1) b in
      (ap Some h.2 ∙ there.0, there.1)

module _ (r : Reading) (s₀ : State) (x₀ : Telling) (s : State) (x : Telling) (going : Going r s₀ x₀ s x) (none : x.tokens ≡ []) where
  pub going_end : (f : Option Fault) → x.fault ≡ f → (f ≡ stops s₀ (placed r x₀.tokens) x₀.fault) × (s ≡ takes_all s₀ (placed r x₀.tokens))
  going_end f e = (
    sym e ∙ (ap (λ ts. stops s (placed r ts) x.fault) (sym none) ∙ going.fault),
    ap (λ ts. takes_all s (placed r ts)) (sym none) ∙ going.after,
  )

-- where nothing stops the taking, each word is held
pub all_held : (ps : List Placed) (f : Option Fault) (s : State) → None ≡ stops s ps f → length (takes_all s ps).entries ≡ length s.entries + length ps
all_held [] f s e = omega arith
all_held (p ∷ ps) f s e = by (refused s p.said) e (all_held ps f (grown s p.said))
  where
    by : (o : Option Refusal) → None ≡ faulting p.byte o (stops (grown s p.said) ps f) → (None ≡ stops (grown s p.said) ps f → length (takes_all (grown s p.said) ps).entries ≡ length (grown s p.said).entries + length ps) → length (grown_by o (takes_all (grown s p.said) ps) s).entries ≡ length s.entries + suc (length ps)
    by None e' ih = let h = ih e' in omega (arith, h, length_push s.entries (taken s p.said))
    by (Some x) e' ih = let z : ◌≡◌ {A = ℕ} 0 1 = cc in absurd (omega arith)

-- a text that is opened is told whole, and one that is not is too long
pub opened_fine : (text : List ℕ) (x : Telling) → Ok x ≡ opening text → x ≡ text_told text
opened_fine text x e = by (ltb 65536 (length text)) e
  where
    by : (b : Bool) → Ok x ≡ cond b (Err (fault_at 0 TextTooLong)) (Ok (told None (pieces 0 text))) → x ≡ cond b (stopped TextTooLong 0) (told None (pieces 0 text))
    by true e' = let z : ◌≡◌ {A = ℕ} 0 1 = cc in absurd (omega arith)
    by false e' = cc

-- a reading that comes to its end
module _ (s t : State) (r : Reading) (text : List ℕ) (x₀ : Telling) (whole : x₀ ≡ text_told text) (after : t ≡ takes_all s (placed r x₀.tokens)) where
  pub read_after : t ≡ after_read s r text
  read_after = after ∙ ap (λ (x : Telling). takes_all s (placed r x.tokens)) whole

  pub read_ended : (f : Option Fault) → f ≡ stops s (placed r x₀.tokens) x₀.fault → read_as (text_words r text) f ≡ read_answer s r text
  read_ended f e = ap (read_as (text_words r text)) (e ∙ ap (λ (x : Telling). stops s (placed r x.tokens) x.fault) whole)

  pub read_counted : None ≡ stops s (placed r x₀.tokens) x₀.fault → length t.entries ≡ length s.entries + length (text_words r text)
  read_counted e = ap (λ (u : State). length u.entries) after ∙ (all_held (placed r x₀.tokens) x₀.fault s e ∙ ap (λ (x : Telling). length s.entries + length (placed r x.tokens)) whole)
