use Rattle.std.proofs.Common.{◌≡◌, [], drop}
use Rattle.std.specs.List.{flat_map}
use Rattle.psm_exprcode.specs.Kinds.{is_letter}
use Rattle.psm_exprcode.specs.declared.op.Letter.TheVariants.{B}
use Rattle.psm_code.specs.TableRules.{expr_faults}
use Rattle.psm_verify.specs.Checked.{checked}
use Rattle.psm_verify.proofs.tables.checks.Given as goal

abbrev pub invariant-loop-check : goal.invariant-loop-check
invariant-loop-check l = checked l.fn.line (flat_map (expr_faults l.letters [] (is_letter B)) l.table.checks) ≡ checked l.line (flat_map (expr_faults l.letters [] (is_letter B)) (drop l.check-index l.table.checks))
