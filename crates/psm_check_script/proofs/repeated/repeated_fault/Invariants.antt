use Rattle.std.proofs.Common.{drop}
use Rattle.std.specs.Prelude.{Bool}
use Rattle.psm_rules.specs.declared.rule.Rule.TheVariants.{ColumnRepeated}
use Rattle.psm_rules.specs.StatementFaults.{repeated, several}
use Rattle.psm_check_script.proofs.NamesBefore.{FaultSoFar}
use Rattle.psm_check_script.proofs.repeated.repeated_fault.Given as goal

abbrev pub invariant-loop-name : goal.invariant-loop-name
invariant-loop-name l = FaultSoFar Bool l.seen l.fault (drop l.name-index l.names.rest) (repeated ColumnRepeated (several l.names))
