-- The word and the count by a pair's number are those by the list that holds the pair. Assumes nothing.
use Rattle.std.proofs.Common.{◌≡◌, ℕ, List, length, Option, ◌∙◌, arith}
use Rattle.std.proofs.lemmas.Grind.{common_steps}
use Rattle.std.proofs.lemmas.List.{length_push}
use Rattle.registers.specs.declared.pairs.Pair.{Pair}
use Rattle.registers.specs.Pairs.{number_in}
use Rattle.registers.specs.Holding.{holding}
use Rattle.registers.proofs.Listed.{place_old, holding_old, holding_new, holding_full, numbered_old, numbered_new, numbered_full}
use Rattle.numbers_text.specs.declared.telling.Word.{Word}
use Rattle.numbers_text.specs.Told.{told, told_of, counted}

-- what a register answered, with the count of its pairs before
module _ (room : ℕ) (qs : List Pair) (p : Pair) (number : Option ℕ) (count : ℕ) (e : length qs ≡ count) (f : number ≡ number_in (holding room qs p) p) where
  told_as : told number count ≡ told_of room qs p
  told_as = grind (arith, common_steps, place_old qs p, numbered_old room qs p, numbered_new room qs p, numbered_full room qs p)

  counted_as : counted number count ≡ length (holding room qs p)
  counted_as =
      grind (arith, common_steps, length_push qs p, place_old qs p, numbered_old room qs p, numbered_new room qs p, numbered_full room qs p, holding_old room qs p, holding_new room qs p, holding_full room qs p)

  pub told_right : (word : Word) → word ≡ told number count → word ≡ told_of room qs p
  told_right word is = is ∙ told_as

  pub counted_right : (n : ℕ) → n ≡ counted number count → n ≡ length (holding room qs p)
  counted_right n is = is ∙ counted_as
