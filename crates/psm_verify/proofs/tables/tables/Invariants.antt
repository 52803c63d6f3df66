use Rattle.std.proofs.Common.{◌≡◌, [], drop, map, take}
use Rattle.psm_code.specs.Rules.{each_after}
use Rattle.psm_code.specs.TableRules.{table_faults}
use Rattle.psm_verify.specs.Checked.{checked}
use Rattle.psm_verify.specs.InTurn.{left_at}
use Rattle.psm_verify.proofs.tables.tables.Given as goal

abbrev pub invariant-loop-at : goal.invariant-loop-at
invariant-loop-at l =
    (checked l.fn.line (each_after (table_faults l.keys) [] l.tables) ≡ checked l.line (each_after (table_faults l.keys) (take l.at l.tables) (drop l.at l.tables))) × (l.names ≡ map (λ t. t.definition.name) (take l.at l.tables)) × (l.left ≡ left_at l.keys l.at)
