use Rattle.psm_rules.specs.BlockFaults.{with_columns}
use Rattle.psm_check_stmt.specs.ForItems.{variables_here, with_variables_here}
use Rattle.psm_check_stmt.proofs.ForItems.{columns_next}
use Rattle.psm_check_stmt.proofs.loops.declare_all_columns.Goals as goal

pub loop-number-preserved : goal.loop-number-preserved
loop-number-preserved c = (
  c.in_ok-declare_variable.ensures.«open»,
  columns_next (with_variables_here c.args.scopes.now (with_columns (variables_here c.args.scopes.now) c.args.columns.now)) c.loop-number.scopes c.declare_variable.new.scopes
      c.args.columns.now c.loop-number.number c.name.result.now c.at.result.now c.loop-number.invariant.0 c.name.ensures c.at.ensures c.in_ok-declare_variable.ensures.scopes c.loop-number.invariant.1,
)
