-- What is proved of passages, group numbers and repeats, put together. Assumes nothing.
use Rattle.book.specs.PassageLaws.{Notation, Grouping, Adding, Listed, PassageLaws}
use Rattle.book.proofs.Notations.{postfix_tops, words_of_passage, leaf_at_start, same_notation}
use Rattle.book.proofs.Rows.{start_and_size}
use Rattle.book.proofs.Exactness.{group_stands, group_exact}
use Rattle.book.proofs.Entering.{held_registered}
use Rattle.book.proofs.Counts.{length_registered, apart_registered}
use Rattle.book.proofs.Slices.{numbers_tell_words, repeats_listed, one_listing_of_words}

pub notation : Notation
notation = record { of_words = postfix_tops; of_passage = words_of_passage; of_size = start_and_size; from_leaf = leaf_at_start; unique = same_notation }

pub grouping : Grouping
grouping = record { stands = group_stands; exact = group_exact; held = held_registered; words = numbers_tell_words }

pub adding : Adding
adding = record { few = length_registered; apart = apart_registered }

pub listed : Listed
listed = record { by_groups = repeats_listed; only = one_listing_of_words }

pub passage_laws : PassageLaws
passage_laws = record { notation = notation; grouping = grouping; adding = adding; listing = listed }
