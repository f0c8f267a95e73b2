-- The law of numbers, and the steps of asking for one pair after another. Assumes nothing.
use Rattle.std.proofs.Common.{◌≡◌, ℕ, zero, suc, ◌<◌, ◌≤◌, true, List, [], ◌∷◌, ◌++◌, length, get_or, take, drop, Some, None, Option, sym, refl, ap, ◌∙◌, ⊎_elim, arith}
use Rattle.std.proofs.lemmas.List.{drop_all}
use Rattle.std.proofs.lemmas.Bool.{cases_Bool, cases_lt}
use Rattle.std.specs.Cmp.{nat_eq_equiv}
use Rattle.std.specs.Cmp.Lexicographic.{options_equiv}
use Rattle.std.proofs.lemmas.Cmp.{lists_equiv}
use Rattle.registers.specs.declared.pairs.Pair.{Pair}
use Rattle.registers.specs.Pairs.{at, holds, place, number_in, Apart, Sound}
use Rattle.registers.specs.Holding.{holding}
use Rattle.registers.specs.Asking.{holding_all, numbers, Law, same_numbers}
use Rattle.registers.proofs.Listed.{at_place, holds_append, place_append, number_some, some_number, pair_at_number, number_of_pair_at, holding_old, holding_new, holding_full}

-- A number stays.

pub holding_stays : (room : ℕ) (qs : List Pair) (q p : Pair) (n : ℕ) → number_in qs p ≡ Some n → number_in (holding room qs q) p ≡ Some n
holding_stays room qs q p n e =
    let s = some_number qs p n e in
    ⊎_elim (λ h. rw (holding_old room qs q h) e)
    (λ h. ⊎_elim
    (λ l. rw (holding_new room qs q h l)
    (number_some (qs ++ q ∷ []) p (place qs p) (holds_append qs (q ∷ []) p s.0) (place_append qs (q ∷ []) p s.0) ∙ ap Some s.1))
    (λ l. rw (holding_full room qs q h l) e)
    (cases_lt (length qs) room))
    (cases_Bool (holds qs q))

pub numbers_stay : (room : ℕ) (qs : List Pair) (p : Pair) (n : ℕ) (later : List Pair) → number_in qs p ≡ Some n → number_in (holding_all room qs later) p ≡ Some n
numbers_stay room qs p n [] e = e
numbers_stay room qs p n (q ∷ later) e = numbers_stay room (holding room qs q) p n later (holding_stays room qs q p n e)

numbers_last : (room : ℕ) (qs asked : List Pair) (i n : ℕ) → i < length asked → get_or (numbers room qs asked) i None ≡ Some n → number_in (holding_all room qs asked) (at asked i) ≡ Some n
numbers_last room qs [] i n l e = absurd (omega arith)
numbers_last room qs (p ∷ asked) zero n l e = numbers_stay room (holding room qs p) p n asked e
numbers_last room qs (p ∷ asked) (suc i) n l e = numbers_last room (holding room qs p) asked i n (omega arith) e

-- a number is one pair's
pub one_pair : (qs : List Pair) (p q : Pair) (m n : ℕ) → number_in qs p ≡ Some m → number_in qs q ≡ Some n → m ≡ n → p ≡ q
one_pair qs p q m n e f g =
    let a = some_number qs p m e in
    let b = some_number qs q n f in
    let k : place qs p ≡ place qs q = omega (arith, a.1, b.1, g) in
    sym (at_place qs p a.0) ∙ (ap (at qs) k ∙ at_place qs q b.0)

pub one_number : (qs : List Pair) (p q : Pair) (m n : ℕ) → number_in qs p ≡ Some m → number_in qs q ≡ Some n → p ≡ q → m ≡ n
one_number qs p q m n e f g = let h = sym e ∙ (ap (number_in qs) g ∙ f) in cc

pub law : (room : ℕ) (start asked qs : List Pair) → qs ≡ holding_all room start asked → Apart qs → Law room asked (numbers room start asked) qs
law room start asked qs is apart =
    let last : (i n : ℕ) → i < length asked → get_or (numbers room start asked) i None ≡ Some n → number_in qs (at asked i) ≡ Some n =
    λ i n l e. rw is (numbers_last room start asked i n l e) in
    record {
      lasting = last;
      stays = numbers_stay room qs;
      back = λ p m. (pair_at_number qs p m, number_of_pair_at qs p m apart);
      exact = λ i j m n l k e f. (one_pair _ _ _ m n (last i m l e) (last j n k f), one_number _ _ _ m n (last i m l e) (last j n k f));
    }

-- Asking in a loop: i pairs were asked for.
pub record Going (room : ℕ) (start asked : List Pair) (old : List (Option ℕ)) (room-now : ℕ) (qs : List Pair) (given : List (Option ℕ)) (i : ℕ) : Type 0 where
  pub same : room-now ≡ room
  pub list : holding_all room qs (drop i asked) ≡ holding_all room start asked
  pub row : take i given ++ numbers room qs (drop i asked) ≡ numbers room start asked
  pub beyond : drop i given ≡ drop i old

-- where all were asked for, the law holds of what was given
pub asked_law : {room : ℕ} {start asked : List Pair} {old : List (Option ℕ)} {room-now : ℕ} {qs : List Pair} {given : List (Option ℕ)} {i : ℕ} →
    Going room start asked old room-now qs given i → length asked ≤ i → Sound room-now qs → Law room asked (numbers room start asked) qs
asked_law {room} {start} {asked} {i = i} g end sound =
    law room start asked _ (sym (ap (holding_all room _) (drop_all i asked end)) ∙ g.list) sound.apart

-- Rows that agree.

pub same_numbers_self : (xs : List (Option ℕ)) → same_numbers xs xs ≡ true
same_numbers_self xs = (lists_equiv (options_equiv nat_eq_equiv)).refl xs
