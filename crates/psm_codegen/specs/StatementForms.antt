-- What is written for a form of statement, where the label of the line after it stands for a line.
use Rattle.std.specs.Prelude.{◌≡◌, ℕ, List}
use Rattle.psm_resolved.specs.declared.statement.ResolvedBlock.{ResolvedBlock}
use Rattle.psm_resolved.specs.declared.statement.ResolvedBranch.{ResolvedBranch}
use Rattle.psm_resolved.specs.declared.statement.ResolvedHandler.{ResolvedHandler}
use Rattle.psm_resolved.specs.declared.statement.ResolvedStatement.{ResolvedStatement, out-ResolvedStatement}
use Rattle.psm_resolved.specs.declared.statement.ResolvedStatement.TheOpen.{ResolvedStatement-F}
use Rattle.psm_exprgen.specs.declared.known.Known.{Known}
use Rattle.psm_codegen.specs.declared.enclosing.EnclosingBlock.{EnclosingBlock}
use Rattle.psm_codegen.specs.FunctionBuilder.{FunctionBuilder, at}
use Rattle.psm_codegen.specs.Statements.{WritesStatement}

abbrev pub WritesForm : Known → ℕ → ℕ → List EnclosingBlock → ResolvedStatement-F ResolvedStatement ResolvedBlock ResolvedBranch ResolvedHandler → FunctionBuilder → FunctionBuilder → Type 0
WritesForm known context end enclosing form p q = (s : ResolvedStatement) → out-ResolvedStatement s ≡ form → end ≡ at q → WritesStatement known context enclosing s p q
