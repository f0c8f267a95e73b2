-- What a book keeps of its entries, one word on. Assumes nothing.
use Rattle.std.proofs.Common.{◌≡◌, ℕ, ◌+◌, ◌<◌, ◌≤◌, List, [], ◌∷◌, ◌++◌, length, get_or, take, drop, sym, ap, ◌∙◌, subst, ⊎_elim, arith}
use Rattle.std.proofs.lemmas.Bool.{cases_lt}
use Rattle.std.proofs.lemmas.List.{length_push, length-take-le, get_or_append_left, get_or_push, get_or-take, drop_more, drop_all}
use Rattle.book.specs.declared.entries.Entry.{Entry}
use Rattle.book.specs.Entries.{entry}
use Rattle.book.specs.Kept.{LowTops}
use Rattle.book.specs.States.{start_over}

each_push : (P : ℕ → Entry → Type 0) (es more : List Entry) (e : Entry) → ((p : ℕ) → p < length es → P p (get_or es p (entry 0 0))) → P (length es) e → more ≡ es ++ e ∷ [] → (p : ℕ) → p < length more → P p (get_or more p (entry 0 0))
each_push P es more e old new is p h =
    let long : length more ≡ length es + 1 = ap length is ∙ length_push es e in
    ⊎_elim
    (λ (b : p < length es). subst (P p) (sym (ap (λ l. get_or l p (entry 0 0)) is ∙ get_or_append_left es (e ∷ []) (entry 0 0) p b)) (old p b))
    (λ (b : length es ≤ p).
    let at : length es ≡ p = omega (arith, long, h, b) in
    subst (P p) (sym (ap (λ l. get_or l p (entry 0 0)) is ∙ get_or_push es e (entry 0 0) p at)) (subst (λ (n : ℕ). P n e) at new))
    (cases_lt p (length es))

within_take : (ts : List Entry) (n k : ℕ) → k ≤ length ts → LowTops ts n → LowTops (take k ts) n
within_take ts n k fits old p h =
    let long = length-take-le k ts fits in
    subst (λ (e : Entry). e.start ≤ n) (sym (get_or-take k ts p (entry 0 0) (omega (arith, long, h)))) (old p (omega (arith, long, h)))

pub within_push : (ts more : List Entry) (e : Entry) (n m k : ℕ) → k ≤ length ts → LowTops ts n → e.start ≤ n → m ≡ n + 1 → more ≡ take k ts ++ e ∷ [] → LowTops more m
within_push ts more e n m k fits old new at is =
    let wider : (p : ℕ) → p < length (take k ts) → (get_or (take k ts) p (entry 0 0)).start ≤ m = λ p h. let l = within_take ts n k fits old p h in omega (arith, l, at) in
    each_push (λ p x. x.start ≤ m) (take k ts) more e wider (omega (arith, new, at)) is

pub start_within : (ts : List Entry) (n k : ℕ) → LowTops ts n → start_over (drop k ts) n ≤ n
start_within ts n k old =
    ⊎_elim
    (λ (b : k < length ts). subst (λ (l : List Entry). start_over l n ≤ n) (sym (drop_more ts k (entry 0 0) b)) (old k b))
    (λ (b : length ts ≤ k). subst (λ (l : List Entry). start_over l n ≤ n) (sym (drop_all k ts b)) (omega arith))
    (cases_lt k (length ts))
