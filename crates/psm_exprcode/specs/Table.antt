-- A row of the table of operations as the code of the checks holds it.
use Rattle.std.specs.Prelude.{ℕ, List, [], ◌∷◌, ◌++◌, replicate, Option, Some, None, option_map}
use Rattle.psm_exprcode.specs.declared.op.Letter.{Letter}
use Rattle.psm_exprcode.specs.declared.table.Letters.{Letters}
use Rattle.psm_exprcode.specs.declared.table.Entry.{Entry}
use Rattle.psm_exprcode.specs.Operations.{Effect}

abbrev pub alone : Option Letter → List Letter
alone None = []
alone (Some k) = k ∷ []

-- the letters, the last one first
abbrev pub letters_of : Letters → List Letter
letters_of l = replicate l.count l.letter ++ alone l.below

abbrev pub jump_of : ℕ × Letters → ℕ × List Letter
jump_of j = (j.0, letters_of j.1)

abbrev pub effect_of : Entry → Effect
effect_of e = record { mnemonic = e.mnemonic.now; takes = letters_of e.takes; fall_through = option_map letters_of e.fall_through; branching = option_map jump_of e.branching }
