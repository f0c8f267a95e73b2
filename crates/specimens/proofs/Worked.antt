-- The worked examples, by computing. Assumes nothing.
use Rattle.std.proofs.Common.{◌≡◌, [], ◌∷◌, Ok, Err, codes, sym, refl, ◌∙◌}
use Rattle.names.specs.declared.refusals.Refusal.TheVariants.{NoNaming, UnknownName}
use Rattle.names.specs.Texts.{pieces, told as text-told}
use Rattle.names.specs.Tokens.{token_read, note_read, frame_read}
use Rattle.std.specs.Fmt.{digits}
use Rattle.names.specs.Decimals.{number_read}
use Rattle.names.specs.Keywords.{keyword_named}
use Rattle.names.specs.Names.{pitch_named}
use Rattle.registers.specs.Pairs.{place_in}
use Rattle.registers.specs.Holding.{holding}
use Rattle.book.specs.declared.readings.Reading.TheVariants.{Written, Sounding}
use Rattle.book.specs.States.{refusal}
use Rattle.book.specs.Taken.{entries_of}
use Rattle.book.specs.Questions.{listing, word_listed, word_table}
use Rattle.book.specs.Arrangements.{tops, close, repeats, list, group, took, counted, done, told, listed}
use Rattle.book.specs.Readings.{fault_at}
use Rattle.book.proofs.Asking.{repeats_held}
use Rattle.specimens.specs.Specimens.{answers_behind, ranked, Specimens}

no_name : answers_behind Written (codes "german Hes4/4") [] ≡ took (Err (fault_at 7 UnknownName)) ∷ []
unfolding pieces text-told token_read note_read pitch_named number_read
no_name = refl

not_english : answers_behind Written (codes "english H4/4") [] ≡ took (Err (fault_at 8 UnknownName)) ∷ []
unfolding pieces text-told token_read note_read pitch_named number_read
not_english = refl

unnamed : answers_behind Written (codes "H4/4") [] ≡ took (Err (fault_at 0 NoNaming)) ∷ []
unfolding pieces text-told token_read note_read pitch_named number_read
unnamed = refl

two_bars : answers_behind Written (codes "bar:0 bar:0") (tops ∷ close ∷ repeats ∷ list 0 (9 ∷ 9 ∷ 9 ∷ []) ∷ []) ≡ took (Ok 2) ∷ counted 2 ∷ done ∷ counted 1 ∷ listed (Ok (record { group = 4; size = 1; count = 2 })) (0 ∷ 1 ∷ 9 ∷ []) ∷ []
unfolding pieces text-told token_read frame_read keyword_named number_read digits place_in holding refusal listing word_listed word_table
two_bars = refl

alike : answers_behind Sounding (codes "german His4/4 C5/4") (group 0 ∷ group 1 ∷ []) ≡ took (Ok 2) ∷ told (Ok 5) ∷ told (Ok 5) ∷ []
unfolding pieces text-told token_read note_read pitch_named number_read digits place_in holding refusal
alike = refl

unlike : answers_behind Written (codes "german His4/4 C5/4") (group 0 ∷ group 1 ∷ []) ≡ took (Ok 2) ∷ told (Ok 7) ∷ told (Ok 11) ∷ []
unfolding pieces text-told token_read note_read pitch_named number_read digits place_in holding refusal
unlike = refl

-- the numbers of the passages first, and then where they are the same
tree : listing [] ranked ≡ (0 ∷ 1 ∷ 2 ∷ 5 ∷ 8 ∷ 12 ∷ 13 ∷ 17 ∷ 18 ∷ 20 ∷ 21 ∷ []) ∷ (3 ∷ 6 ∷ 9 ∷ 14 ∷ 22 ∷ []) ∷ (4 ∷ 15 ∷ 23 ∷ []) ∷ []
unfolding place_in holding entries_of
tree = sym (repeats_held [] ranked) ∙ refl

pub specimens : Specimens
unfolding pieces text-told listing
specimens =
    record {
      empty = refl;
      unnamed = unnamed;
      no_name = no_name;
      not_english = not_english;
      two_bars = two_bars;
      alike = alike;
      sixty = (refl, refl);
      unlike = unlike;
      tree = tree;
    }
