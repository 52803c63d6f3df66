use Rattle.std.proofs.Common.{◌-◌, arith}
use Rattle.psm_load.proofs.TableTexts.{tables_stopped}
use Rattle.psm_load.proofs.tables.tables.Goals as goal

pub returns-in_err-table : goal.returns-in_err-table
returns-in_err-table c =
    tables_stopped c.args.n (c.args.n - c.loop-number.number) c.args.lines.now c.loop-number.lines c.read.new.lines c.loop-number.tables.items c.loop-number.keys.items c.in_err-table.field-0.0 c.from_residual.result
    c.from_residual.ensures.1 c.loop-number.invariant (omega (arith, c.loop-number-test.true)) c.in_err-table.ensures
