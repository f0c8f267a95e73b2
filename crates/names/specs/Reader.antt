-- What a reader of the code has yet to tell. Assumes nothing.
use Rattle.std.specs.Prelude.{◌≡◌, ℕ, ◌+◌, cond, List, [], ◌∷◌, length, drop, Some, None, Ok, Err, Option, Result, nat_lt}
use Rattle.names.specs.declared.refusals.Fault.{Fault}
use Rattle.names.specs.declared.refusals.Refusal.TheVariants.{TextTooLong}
use Rattle.names.specs.declared.texts.Cut.{Cut}
use Rattle.names.specs.declared.texts.Placed.{Placed}
use Rattle.names.specs.declared.texts.Reader.{Reader}
use Rattle.names.specs.Heard.{said, Borrows}
use Rattle.names.specs.Texts.{Piece, Told, Telling, pieces, told}

abbrev pub piece_of : Cut → Piece
piece_of c = record { byte = c.byte; bytes = c.bytes.now }

-- the first of the tokens from a place on, and where the others begin
abbrev pub CutsFirst : List ℕ → ℕ → Option Cut → Type 0
CutsFirst text at None = pieces at (drop at text) ≡ []
CutsFirst text at (Some c) =
    (pieces at (drop at text) ≡ piece_of c ∷ pieces c.end (drop c.end text)) × (c.end ≡ c.byte + length c.bytes.now)

abbrev pub unread : Reader → Telling
unread r = told r.naming (pieces r.at (drop r.at r.text.now))

abbrev pub told_of_placed : Placed → Told
told_of_placed p = record { byte = p.byte; typed = p.bytes.now; says = said p.token }

abbrev pub told_next : Result (Option Placed) Fault → Result (Option Told) Fault
told_next (Ok (Some p)) = Ok (Some (told_of_placed p))
told_next (Ok None) = Ok None
told_next (Err f) = Err f

-- a note's name is borrowed from the bytes of its token
abbrev pub Lends : Result (Option Placed) Fault → Type 0
Lends (Ok (Some p)) = Borrows p.bytes.now p.token
Lends (Ok None) = Unit {0}
Lends (Err f) = Unit {0}

abbrev pub opened : Result Reader Fault → Result Telling Fault
opened (Ok r) = Ok (unread r)
opened (Err f) = Err f

abbrev pub opening : List ℕ → Result Telling Fault
opening bs = cond (nat_lt 65536 (length bs)) (Err (record { refusal = TextTooLong; byte = 0 })) (Ok (told None (pieces 0 bs)))
