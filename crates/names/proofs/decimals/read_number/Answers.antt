use Rattle.std.proofs.Common.{◌≡◌, ℕ, ◌<◌, ◌≤◌, Bool, true, false, leb, List, Some, refl, sym, ap, ◌∙◌, arith, rules}
use Rattle.std.specs.Bool.{then_some}
use Rattle.std.specs.Str.{all_ascii_digits}
use Rattle.std.proofs.lemmas.Bool.{leb-true, leb-false}
use Rattle.names.specs.Decimals.{number_read, value_from, ill_led}
use Rattle.names.proofs.Numbers.{none_ill_led, value_reads, value_none}
use Rattle.names.proofs.decimals.read_number.Goals as goal

module _ (least most : ℕ) (small : most < 256) (bs : List ℕ) (n : ℕ) (led : ill_led bs ≡ false) (all : all_ascii_digits bs ≡ true) (v : n ≡ value_from 0 bs) (low : n ≤ most) where
  from_least : (b : Bool) → leb least n ≡ b → then_some b n ≡ number_read least most bs
  from_least true e = let l = leb-true least n e in ap Some v ∙ sym (value_reads least most small bs led all (omega arith) (omega arith))
  from_least false e = let m = leb-false least n e in sym (value_none least most small bs (λ a l h. omega arith))

pub returns-then-ill_led : goal.returns-then-ill_led
returns-then-ill_led c =
    sym (none_ill_led c.args.least c.args.most (search rules) c.args.digits.now (sym c.ill_led.ensures ∙ c.if-ill_led.true))

pub returns-in_err-number : goal.returns-in_err-number
returns-in_err-number c =
    c.from_residual.ensures ∙ sym (value_none c.args.least c.args.most (search rules) c.args.digits.now (λ a l h. let m = c.in_err-number.ensures a in omega arith))

pub returns : goal.returns
returns c =
    let v = c.in_ok-number.ensures in
    c.then_some.ensures ∙ from_least c.args.least c.args.most (search rules) c.args.digits.now c.in_ok-number.number (sym c.ill_led.ensures ∙ c.if-ill_led.false) v.0 v.1 v.2 _ refl
