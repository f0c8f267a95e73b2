-- Decimal notation, read and written.
use Rattle.std.proofs.Common.{◌≡◌, ℕ, zero, suc, ◌+◌, ◌-◌, ◌*◌, ◌/◌, ◌%◌, ◌^◌, ◌<◌, ◌≤◌, Bool, true, false, cond, ◌&&◌, ◌⊎◌, List, [], ◌∷◌, length, get_or, drop, Some, None, decimal, Option, sym, refl, ap, ◌∙◌, inl, inr, arith, rules}
use Rattle.std.specs.Char.{is_ascii_digit}
use Rattle.std.specs.Str.{bytes_eq, all_ascii_digits}
use Rattle.std.proofs.lemmas.Fmt.{decimal_digit, decimal_step, decimal_nonempty, first_decimal, digits_decimal, digits_value-decimal, decimal-digits_value, decimal_injective}
use Rattle.std.proofs.lemmas.Slice.Eq.{bytes_eq-Decides}
use Rattle.std.proofs.lemmas.List.{at_drop_more, length_push}
use Rattle.std.proofs.lemmas.Str.Parse.{IsNumeralModel, numerals_by_fold, tells_all_ascii_digits}
use Rattle.names.specs.Choice.{pick}
use Rattle.names.specs.Decimals.{up_from, number_read, value_from, ill_led}
use Rattle.names.proofs.Picks.{pick_passes}

pub own : IsNumeralModel (λ ds. all_ascii_digits ds ≡ true) (value_from 0)
own = numerals_by_fold _ tells_all_ascii_digits value_from (search rules)

pub grows : (v : ℕ) (bs : List ℕ) → v ≤ value_from v bs
grows v [] = omega arith
grows v (b ∷ bs) = let h = grows (v * 10 + (b - 48)) bs in omega arith

-- one digit more
pub digit_value : (ds : List ℕ) (i v : ℕ) → i < length ds → value_from v (drop i ds) ≡ value_from (v * 10 + (get_or ds i 0 - 48)) (drop (i + 1) ds)
digit_value ds i v h = at_drop_more (value_from v) ds i 0 h

pub length_digit : (n : ℕ) → n < 10 → length (decimal n) ≡ 1
length_digit n h = ap length (decimal_digit n h)

-- every number of a stretch is found in it, if no other passes the test
pub up_finds : (test : ℕ → Bool) (low k n : ℕ) → low ≤ n → n < low + k → test n ≡ true → ((m : ℕ) → m < low + k → test m ≡ true → m ≡ n) → pick test (up_from low k) ≡ Some n
up_finds test low zero n h l t u = absurd (omega arith)
up_finds test low (suc k) n h l t u =
    by (test low) refl (λ ne. up_finds test (low + 1) k n (omega arith) (omega arith) t (λ m s. u m (omega arith)))
  where
    by : (b : Bool) → test low ≡ b → ((low ≡ n → ⊥) → pick test (up_from (low + 1) k) ≡ Some n) → cond b (Some low) (pick test (up_from (low + 1) k)) ≡ Some n
    by true e more = ap Some (u low (omega arith) e)
    by false e more = more (λ s. let f : test low ≡ true = ap test s ∙ t in grind arith)

pub up_within : (test : ℕ → Bool) (low k n : ℕ) → pick test (up_from low k) ≡ Some n → (low ≤ n) × (n < low + k)
up_within test low zero n e = absurd (grind arith)
up_within test low (suc k) n e = by (test low) e (up_within test (low + 1) k n)
  where
    by : (b : Bool) → cond b (Some low) (pick test (up_from (low + 1) k)) ≡ Some n → (pick test (up_from (low + 1) k) ≡ Some n → (low + 1 ≤ n) × (n < low + 1 + k)) → (low ≤ n) × (n < low + suc k)
    by true e more = let s : low ≡ n = cc in (omega arith, omega arith)
    by false e more = let h = more e in (omega arith, omega arith)

module _ (least most : ℕ) (small : most < 256) (bs : List ℕ) where
  pub reads_some : (n : ℕ) → decimal n ≡ bs → least ≤ n → n ≤ most → number_read least most bs ≡ Some n
  unfolding number_read
  reads_some n e l h =
      up_finds (λ m. bytes_eq (decimal m) bs) least (most + 1 - least) n l (omega arith) ((bytes_eq-Decides (decimal n) bs).1 e)
      (λ m s t. decimal_injective m n (omega arith) (omega arith) ((bytes_eq-Decides (decimal m) bs).0 t ∙ sym e))

  pub some_read : (n : ℕ) → number_read least most bs ≡ Some n → (decimal n ≡ bs) × (least ≤ n) × (n ≤ most)
  unfolding number_read
  some_read n e =
      let w = up_within (λ m. bytes_eq (decimal m) bs) least (most + 1 - least) n e in
      ((bytes_eq-Decides (decimal n) bs).0 (pick_passes (λ m. bytes_eq (decimal m) bs) (up_from least (most + 1 - least)) n e), w.0, omega arith)

  pub reads_none : ((n : ℕ) → decimal n ≡ bs → least ≤ n → n ≤ most → ⊥) → number_read least most bs ≡ None
  reads_none none = by (number_read least most bs) refl
    where
      by : (o : Option ℕ) → number_read least most bs ≡ o → o ≡ None
      by None e = refl
      by (Some n) e = let r = some_read n e in absurd (none n r.0 r.1 r.2)

  pub value_reads : ill_led bs ≡ false → all_ascii_digits bs ≡ true → least ≤ value_from 0 bs → value_from 0 bs ≤ most → number_read least most bs ≡ Some (value_from 0 bs)
  value_reads led d l h = reads_some (value_from 0 bs) (decimal-digits_value own bs d (grind arith) (λ z. grind arith) (omega arith)) l h

  pub value_none : (all_ascii_digits bs ≡ true → (least ≤ value_from 0 bs) → (value_from 0 bs ≤ most) → ⊥) → number_read least most bs ≡ None
  value_none none =
      reads_none
      (λ n e l h.
      let d : all_ascii_digits bs ≡ true = rw e at (digits_decimal own n (omega arith)) in
      let v : value_from 0 bs ≡ n = rw e at (digits_value-decimal own n (omega arith)) in
      none d (omega arith) (omega arith))

  -- a decimal notation is not empty, and begins with 0 only if it is 0
  pub none_ill_led : ill_led bs ≡ true → number_read least most bs ≡ None
  none_ill_led z = reads_none (λ n e l h. by n (omega arith) (rw (sym e) at z))
    where
      by : (n : ℕ) → n < 2 ^ 64 → ill_led (decimal n) ≡ true → ⊥
      by zero s z = let o = length_digit 0 (omega arith) in grind arith
      by (suc n) s z = let o = first_decimal (suc n) (omega arith) s in let q = decimal_nonempty (suc n) s in grind arith
