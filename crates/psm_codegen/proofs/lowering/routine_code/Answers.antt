use Rattle.psm_codegen.proofs.RoutineForms.{routine_written}
use Rattle.psm_codegen.proofs.lowering.routine_code.Goals as goal

pub returns-clause-written : goal.returns-clause-written
returns-clause-written c = routine_written c.args.routine.now c.get.result.now c.finished.result c.in_ok-declared.ensures c.new-parts.ensures c.get.ensures c.in_ok-statement.ensures c.last_instruction.ensures c.in_ok-plain.ensures
    c.finished.ensures.name c.finished.ensures.kind c.finished.ensures.parameters c.finished.ensures.returns c.finished.ensures.variables c.finished.ensures.lines c.finished.ensures.queries c.finished.ensures.cursors
    c.finished.ensures.plans c.finished.ensures.declared c.finished.ensures.contexts c.finished.ensures.handlers
