-- Bytes laid over a part of a buffer, one piece after another, by a pen.
use Rattle.std.proofs.Common.{◌≡◌, ℕ, ◌+◌, ◌≤◌, List, [], ◌∷◌, ◌++◌, length, take, drop, decimal, sym, refl, ap, subst, ◌∙◌, arith, length-append, length-drop, length-take}
use Rattle.std.proofs.lemmas.List.{append_assoc, drop-drop, take_at, drop_at}
use Rattle.names.specs.declared.pen.Pen.{Pen}
use Rattle.names.specs.Buffers.{laid}
use Rattle.names.specs.Pens.{HasRoom, Lays}
use Rattle.names.specs.Tokens.{quotes, marked}

pub length_laid : (out bs : List ℕ) (at : ℕ) → at + length bs ≤ length out → length (laid out at bs) ≡ length out
length_laid out bs at h = simp (length-append, length-take, length-drop) (omega arith)

-- what is laid behind what was laid is laid with it
pub laid_more : (out xs ys : List ℕ) (at : ℕ) → at + length (xs ++ ys) ≤ length out → laid (laid out at xs) (at + length xs) ys ≡ laid out at (xs ++ ys)
laid_more out xs ys at h =
    let n = length-append xs ys in
    let total : at + length xs + length ys ≡ at + length (xs ++ ys) = omega arith in
    let front : length (take at out ++ xs) ≡ at + length xs = simp (length-append, length-take) (omega arith) in
    let split : laid out at xs ≡ (take at out ++ xs) ++ drop (at + length xs) out = sym (append_assoc (take at out) xs (drop (at + length xs) out)) in
    let taken : take (at + length xs) (laid out at xs) ≡ take at out ++ xs = ap (take (at + length xs)) split ∙ take_at (take at out ++ xs) (drop (at + length xs) out) (at + length xs) front in
    let dropped : drop (at + length xs + length ys) (laid out at xs) ≡ drop (at + length (xs ++ ys)) out =
    sym (drop-drop (length ys) (at + length xs) (laid out at xs))
    ∙ ap (λ zs. drop (length ys) (drop (at + length xs) zs)) split
    ∙ ap (drop (length ys)) (drop_at (take at out ++ xs) (drop (at + length xs) out) (at + length xs) front)
    ∙ drop-drop (length ys) (at + length xs) out
    ∙ ap (λ k. drop k out) total in
    ap (λ zs. zs ++ (ys ++ drop (at + length xs + length ys) (laid out at xs))) taken
    ∙ ap (λ zs. (take at out ++ xs) ++ (ys ++ zs)) dropped
    ∙ append_assoc (take at out) xs (ys ++ drop (at + length (xs ++ ys)) out)
    ∙ ap (λ zs. take at out ++ zs) (sym (append_assoc xs ys (drop (at + length (xs ++ ys)) out)))

-- two layings of a pen, one behind the other, and the room for the second
pub lays_then : {p q r : Pen} {xs ys : List ℕ} (zs : List ℕ) → Lays p q xs → Lays q r ys → xs ++ ys ≡ zs → HasRoom p zs → Lays p r zs
lays_then {p} {q} {r} {xs} {ys} zs a b e h =
    let room : p.at + length (xs ++ ys) ≤ length p.out.now = rw e h.fits in
    let n = length-append xs ys in
    let m = ap length e in
    record {
      same = b.same ∙ a.same;
      place = let u = a.place in let v = b.place in omega arith;
      after = b.after ∙ ap (λ j. laid q.out.now j ys) a.place ∙ ap (λ o. laid o (p.at + length xs) ys) a.after ∙ laid_more p.out.now xs ys p.at room ∙ ap (laid p.out.now p.at) e;
    }

pub room_behind : {p q : Pen} {xs : List ℕ} (ys zs : List ℕ) → Lays p q xs → xs ++ ys ≡ zs → HasRoom p zs → HasRoom q ys
room_behind {p} {q} {xs} ys zs a e h =
    let n = length-append xs ys in
    let m = ap length e in
    let l = ap length a.after ∙ length_laid p.out.now xs p.at (omega arith) in
    let u = a.place in
    record { fits = omega arith }

-- the room for a front part
pub room_front : {p : Pen} (xs ys zs : List ℕ) → xs ++ ys ≡ zs → HasRoom p zs → HasRoom p xs
room_front xs ys zs e h = let n = length-append xs ys in let m = ap length e in record { fits = omega arith }

pub lays_as : {p q : Pen} {xs ys : List ℕ} → Lays p q xs → xs ≡ ys → Lays p q ys
lays_as {p} {q} a e = subst (Lays p q) e a

pub room_as : {p : Pen} {xs ys : List ℕ} → HasRoom p ys → xs ≡ ys → HasRoom p xs
room_as h e = let n = ap length e in record { fits = omega arith }

pub length_marked : (bs : List ℕ) (mark n : ℕ) → length (marked bs mark n) ≡ length bs + 1 + length (decimal n)
length_marked bs mark n = let e = length-append bs (mark ∷ decimal n) in omega arith

pub length_quotes : (s : List ℕ) → length (quotes s) ≡ length s + 2
length_quotes s = let e = length-append s (34 ∷ []) in omega arith

pub laid_front : (out bs : List ℕ) → take (length bs) (laid out 0 bs) ≡ bs
laid_front out bs = take_at bs (drop (0 + length bs) out) (length bs) refl
