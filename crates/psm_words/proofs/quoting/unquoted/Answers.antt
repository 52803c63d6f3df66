use Rattle.std.proofs.Common.{List, ℕ, ap, drop, string_bytes}
use Rattle.psm_words.specs.declared.quoting.Within.TheVariants as within
use Rattle.psm_words.specs.Reading.{text_on}
use Rattle.psm_words.proofs.Characters.{chars_none}
use Rattle.psm_words.proofs.quoting.unquoted.Goals as goal

pub loop-at-init : goal.loop-at-init
loop-at-init c = ap (λ (u : List ℕ). text_on u within.Text (drop 0 c.args.text.now)) (chars_none (string_bytes c.new-characters.result) c.new-characters.ensures.bytes)
