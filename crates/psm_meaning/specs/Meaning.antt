-- What expressions and statements mean (ISO/IEC 9075-4:1996): one step, where it is known what parts mean, and then all steps
-- with some fuel. Fuel that is enough for a file, its turns and a statement is in Fuel; a greater one changes nothing.
use Rattle.std.specs.Prelude.{ℕ, zero, suc}
use Rattle.psm_resolved.specs.declared.expr.ResolvedExpr.{out-ResolvedExpr}
use Rattle.psm_resolved.specs.declared.file.ResolvedFile.{ResolvedFile}
use Rattle.psm_resolved.specs.declared.statement.ResolvedBlock.{ResolvedBlock, out-ResolvedBlock}
use Rattle.psm_resolved.specs.declared.statement.ResolvedBranch.{ResolvedBranch}
use Rattle.psm_resolved.specs.declared.statement.ResolvedHandler.{ResolvedHandler}
use Rattle.psm_resolved.specs.declared.statement.ResolvedStatement.{ResolvedStatement, out-ResolvedStatement}
use Rattle.psm_resolved.specs.declared.statement.ResolvedStatement.TheOpen.{ResolvedStatement-F}
use Rattle.psm_resolved.specs.declared.statement.ResolvedStatement.TheOpen as layers
use Rattle.psm_meaning.specs.State.{EvalContext}
use Rattle.psm_meaning.specs.Acts.{Stopped, OutOfFuel, Ends, Task, Do, Round, Meaning, Deed, all, part}
use Rattle.psm_meaning.specs.Values.{evaluated}
use Rattle.psm_meaning.specs.Statements.{simple}
use Rattle.psm_meaning.specs.Blocks.{compound}
use Rattle.psm_meaning.specs.Flow.{branched, cased, else_of, for_each, looped, round, rounds, until_true, while_true}
use Rattle.psm_meaning.specs.Acts.{truth_of}

-- a statement; a loop is the statement that is done again
abbrev pub statement : ResolvedFile → EvalContext → Deed → ResolvedStatement-F ResolvedStatement ResolvedBlock ResolvedBranch ResolvedHandler → Deed
statement file eval_context again (layers.Compound level block) = compound level (out-ResolvedBlock block) eval_context
statement file eval_context again (layers.Loop level statements) = looped level eval_context statements again
statement file eval_context again (layers.While level test statements) = while_true level eval_context test statements again
statement file eval_context again (layers.Repeat level statements until) = until_true level eval_context statements until again
statement file eval_context again (layers.For level head statements) = for_each level eval_context head statements
statement file eval_context again (layers.If branches otherwise) = branched eval_context truth_of branches (all eval_context otherwise)
statement file eval_context again (layers.Case operand branches otherwise) = cased eval_context operand branches (else_of eval_context otherwise)
statement file eval_context again (layers.Simple s) = simple file eval_context s

abbrev pub task : ResolvedFile → Task → EvalContext → Deed
task file (Do s) eval_context = statement file eval_context (part eval_context s) (out-ResolvedStatement s)
task file (Round level head statements) eval_context = round level eval_context head statements (rounds level eval_context head statements)

abbrev pub step : ResolvedFile → Meaning → Meaning
step file m = record { value = λ e st. evaluated file (out-ResolvedExpr e) m st; done = λ t eval_context st. task file t eval_context m st }

-- without fuel nothing is known
abbrev pub nothing : Meaning
nothing = record { value = λ e st. record { given = Ends OutOfFuel; state = st }; done = λ t eval_context st. record { outcome = Stopped OutOfFuel; state = st } }

abbrev pub meaning : ResolvedFile → ℕ → Meaning
meaning file zero = nothing
meaning file (suc h) = step file (meaning file h)
