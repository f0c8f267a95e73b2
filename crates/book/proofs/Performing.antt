-- One call on a book, said of the words. Assumes nothing.
use Rattle.std.proofs.Common.{◌≡◌, ℕ, true, List, [], ◌∷◌, Some, None, Option, Result, refl, ap, ◌∙◌}
use Rattle.names.specs.declared.refusals.Fault.{Fault}
use Rattle.names.specs.declared.refusals.Refusal.{Refusal}
use Rattle.book.specs.declared.readings.Reading.{Reading}
use Rattle.book.specs.Words.{Word}
use Rattle.book.specs.States.{State, refused, grown, unless, after_take}
use Rattle.book.specs.Taken.{Takes}
use Rattle.book.specs.Readings.{Placed, text_words, grown_by, takes_all, after_read, Reads}
use Rattle.book.specs.Arrangements.{Asked, take, read, Said, taken, took}
use Rattle.book.specs.Performed.{Stand, standing, Performs}

-- no call changes the capacity
unless_room : (o : Option Refusal) (s t : State) → t.room ≡ s.room → (unless o t s).room ≡ s.room
unless_room None s t e = e
unless_room (Some r) s t e = refl

take_room : (s : State) (w : Word) → (after_take s w).room ≡ s.room
unfolding after_take
take_room s w = unless_room (refused s w) s (grown s w) refl

takes_room : (ps : List Placed) (s : State) → (takes_all s ps).room ≡ s.room
takes_room [] s = refl
takes_room (p ∷ ps) s = by (refused s p.said) (takes_room ps (grown s p.said))
  where
    by : (o : Option Refusal) → (takes_all (grown s p.said) ps).room ≡ s.room → (grown_by o (takes_all (grown s p.said) ps) s).room ≡ s.room
    by None h = h
    by (Some r) h = refl

pub performs_take : (s t : State) (w : Word) (r : Result (ℕ × ℕ) Refusal) → t ≡ after_take s w → Takes s t w r → Performs (standing s true) (standing t true) (take w) (taken r)
performs_take s t w r after k =
    record {
      room = ap (λ (x : State). x.room) after ∙ take_room s w;
      taking = refl;
      answers = λ qs ws h. ap (λ x. taken x) (k.answers qs ws h);
      holds = k.holds;
    }

pub performs_read : (s t : State) (r : Reading) (text : List ℕ) (x : Result ℕ Fault) → t ≡ after_read s r text → Reads s t r text x → Performs (standing s true) (standing t true) (read r text) (took x)
performs_read s t r text x after k =
    record {
      room = ap (λ (y : State). y.room) after ∙ takes_room (text_words r text) s;
      taking = refl;
      answers = λ qs ws h. ap (λ y. took y) (k.answers qs ws h);
      holds = k.holds;
    }

pub performs_as : {s t : Stand} {c c' : Asked} {a : Said} → c ≡ c' → Performs s t c' a → Performs s t c a
performs_as e p = rw e p
