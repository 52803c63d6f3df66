use Rattle.std.proofs.Common.{◌≡◌, take}
use Rattle.std.specs.Prelude.{map}
use Rattle.psm_exprcode.specs.Kinds.{letter_of}
use Rattle.psm_table.specs.Definition.{kinds_of}
use Rattle.psm_tablecode.proofs.typing.column_letters.Given as goal

abbrev pub invariant-loop-column : goal.invariant-loop-column
invariant-loop-column l = l.letters.items ≡ map letter_of (kinds_of (take l.column-index l.def.columns))
