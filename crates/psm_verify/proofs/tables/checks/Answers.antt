use Rattle.std.proofs.Common.{[], rules, arith}
use Rattle.psm_exprcode.specs.Kinds.{is_letter}
use Rattle.psm_exprcode.specs.declared.op.Letter.TheVariants.{B}
use Rattle.psm_code.specs.TableRules.{expr_faults}
use Rattle.psm_verify.proofs.Each.{flat_go, flat_stop}
use Rattle.psm_verify.proofs.tables.checks.Goals as goal

pub returns-in_err-line : goal.returns-in_err-line
returns-in_err-line c =
    flat_stop c.args.table.now.checks c.items-check-items.result.now c.loop-check.check-index c.check-item.result c.args.line c.loop-check.line (expr_faults c.args.letters.now [] (is_letter B))
    c.in_err-line.field-0.0 c.from_residual.result (search rules) c.items-check-items.ensures (omega arith) c.check-item.is c.loop-check.invariant c.in_err-line.ensures

pub loop-check-preserved : goal.loop-check-preserved
loop-check-preserved c =
    flat_go c.args.table.now.checks c.items-check-items.result.now c.loop-check.check-index c.check-item.result c.args.line c.loop-check.line (expr_faults c.args.letters.now [] (is_letter B))
    c.in_ok-line.line c.items-check-items.ensures (omega arith) c.check-item.is c.loop-check.invariant c.in_ok-line.ensures
