use Rattle.std.proofs.Common.{List, [], ◌∷◌, Option, length, rules}
use Rattle.psm_code.specs.declared.code.RawCode.{RawCode}
use Rattle.psm_code.specs.declared.rule.CodeRule.{CodeRule}
use Rattle.psm_code.specs.declared.rule.CodeRule.TheVariants.{Definition}
use Rattle.psm_code.specs.Rules.{each_after, unless}
use Rattle.psm_code.specs.RoutineRules.{routine_faults}
use Rattle.psm_code.specs.TableRules.{are_in_turn, table_faults}
use Rattle.psm_verify.proofs.LinesInOrder.{go, stop}
use Rattle.psm_verify.proofs.verify.code_lines.Goals as goal

abbrev of_tables : RawCode → List (Option CodeRule)
of_tables code = unless (are_in_turn 0 (length code.tables) code.keys) Definition ∷ each_after (table_faults code.keys) [] code.tables

pub returns-in_err-line : goal.returns-in_err-line
returns-in_err-line c = stop (of_tables c.args.code.now) (each_after (routine_faults c.args.code.now) [] c.args.code.now.routines) 1 (search rules) c.in_err-line.ensures

pub returns : goal.returns
returns c = go (of_tables c.args.code.now) (each_after (routine_faults c.args.code.now) [] c.args.code.now.routines) 1 c.routines.result c.in_ok-line.ensures c.routines.ensures
