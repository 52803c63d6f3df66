use Rattle.std.proofs.Common.{◌≡◌, [], drop, map, take}
use Rattle.psm_code.specs.Rules.{each_after}
use Rattle.psm_code.specs.TableRules.{column_fault}
use Rattle.psm_verify.specs.Checked.{checked}
use Rattle.psm_verify.proofs.tables.columns.Given as goal

abbrev pub invariant-loop-at : goal.invariant-loop-at
invariant-loop-at l =
    (checked l.fn.line (each_after column_fault [] l.def.columns) ≡ checked l.line (each_after column_fault (take l.at l.def.columns) (drop l.at l.def.columns))) × (l.names ≡ map (λ c. c.name) (take l.at l.def.columns))
