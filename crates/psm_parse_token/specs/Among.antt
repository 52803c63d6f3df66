-- One of some words.
use Rattle.std.specs.Prelude.{List}
use Rattle.psm_token.specs.declared.place.Place.{Place}
use Rattle.psm_token.specs.declared.token.Placed.{Placed}
use Rattle.psm_token.specs.declared.word.Word.{Word}
use Rattle.psm_token.specs.declared.word.Word.TheVariants as w
use Rattle.psm_grammar.specs.Language.{Test}
use Rattle.psm_token.specs.Kinds.{kinds_of}
use Rattle.psm_tree.specs.Tests.{one_word, place_of}

-- One of the words, with its place. Readers do not ask for the example of a test, so that this reads as
-- each test of these words does.
abbrev pub among : List Word → Test Placed Place
among words = one_word w.And (kinds_of words) place_of
