use Rattle.std.proofs.Common.{◌≡◌, [], drop, string_bytes}
use Rattle.std.specs.Str.{chars}
use Rattle.psm_words.specs.declared.quoting.Within.TheVariants as within
use Rattle.psm_words.specs.Reading.{text_on}
use Rattle.psm_words.proofs.quoting.unquoted.Given as goal

abbrev pub invariant-loop-at : goal.invariant-loop-at
invariant-loop-at l = text_on (chars (string_bytes l.characters)) l.within (drop l.at l.text) ≡ text_on [] within.Text l.text
