-- Keywords found by their words.
use Rattle.std.proofs.Common.{◌≡◌, List, ℕ, ◌<◌, eqb, Option, Some, sym, ap, ◌∙◌, arith}
use Rattle.std.specs.Str.{bytes_eq}
use Rattle.std.proofs.lemmas.Slice.Eq.{bytes_eq-Decides}
use Rattle.std.proofs.lemmas.Bool.{eqb-true}
use Rattle.names.specs.declared.keywords.Keyword.{Keyword}
use Rattle.names.specs.Keywords.{keyword_number, keyword_numbered, keyword_word, keyword_named, keywords}
use Rattle.names.proofs.Picks.{pick_passes}

numbered_back : (k : Keyword) → keyword_numbered (keyword_number k) ≡ Some k
numbered_back k = grind arith

number_small : (k : Keyword) → keyword_number k < 12
number_small k = grind arith

pub word_named : (k : Keyword) → keyword_named (keyword_word k) ≡ Some k
unfolding keyword_named
word_named k = grind arith

pub word_is : (bs : List ℕ) (k : Keyword) → keyword_named bs ≡ Some k → keyword_word k ≡ bs
unfolding keyword_named
word_is bs k e = (bytes_eq-Decides (keyword_word k) bs).0 (pick_passes (λ x. bytes_eq (keyword_word x) bs) keywords k e)

-- two keywords never share a number
pub same_number : (j k : Keyword) → keyword_number j ≡ keyword_number k → j ≡ k
same_number j k e = let b : ◌≡◌ {A = Option Keyword} (Some j) (Some k) = sym (numbered_back j) ∙ ap keyword_numbered e ∙ numbered_back k in (cc)

pub number_is : (n : ℕ) (k : Keyword) → keyword_numbered n ≡ Some k → keyword_number k ≡ n
number_is n k e = eqb-true (keyword_number k) n (pick_passes (λ x. eqb (keyword_number x) n) keywords k e)
