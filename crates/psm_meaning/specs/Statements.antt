-- Simple statements (ISO/IEC 9075-4:1996): each is an evaluation, or ends otherwise than normally.
use Rattle.psm_value.specs.declared.datum.Datum.{Datum}
use Rattle.psm_value.specs.Stored.{stored}
use Rattle.psm_resolved.specs.declared.expr.ResolvedExpr.{ResolvedExpr}
use Rattle.psm_resolved.specs.declared.file.ResolvedFile.{ResolvedFile}
use Rattle.psm_resolved.specs.declared.statement.ResolvedSimple.{ResolvedSimple}
use Rattle.psm_resolved.specs.declared.statement.ResolvedSimple.TheVariants as simples
use Rattle.psm_meaning.specs.State.{EvalContext}
use Rattle.psm_meaning.specs.Acts.{Leave, Iterate, Return, Act, Deed, ends_as, present, tried, value_of, ◌>>=◌}
use Rattle.psm_meaning.specs.Raising.{after, stated}
use Rattle.psm_meaning.specs.Assigning.{call, set}
use Rattle.psm_meaning.specs.Cursors.{close, fetch, «open», select_into}
use Rattle.psm_meaning.specs.Data.{delete, insert, update}
use Rattle.psm_meaning.specs.Signalling.{get_diagnostics, resignal, signal}

-- the value of RETURN is stored in the type of the function's result
abbrev pub returned : EvalContext → ResolvedExpr → Act Datum
returned eval_context e = do
  d ← value_of e
  t ← present eval_context.routine.returns
  tried (stored t d)

abbrev pub simple : ResolvedFile → EvalContext → ResolvedSimple → Deed
simple file eval_context (simples.Set slot source) = stated eval_context (set eval_context slot source)
simple file eval_context (simples.Call procedure arguments) = stated eval_context (call file eval_context procedure arguments)
simple file eval_context (simples.Return e) = after eval_context (returned eval_context e) (λ d. ends_as (Return d))
simple file eval_context (simples.Leave level) = ends_as (Leave level)
simple file eval_context (simples.Iterate level) = ends_as (Iterate level)
simple file eval_context (simples.Signal s) = stated eval_context (signal eval_context s)
simple file eval_context (simples.Resignal s) = stated eval_context (resignal eval_context s)
simple file eval_context (simples.GetDiagnostics d) = stated eval_context (get_diagnostics eval_context d)
simple file eval_context (simples.SelectInto query slots) = stated eval_context (select_into eval_context query slots)
simple file eval_context (simples.Insert table columns rows) = stated eval_context (insert file table columns rows)
simple file eval_context (simples.Update table sets which) = stated eval_context (update file eval_context table sets which)
simple file eval_context (simples.Delete table which) = stated eval_context (delete file eval_context table which)
simple file eval_context (simples.Open cursor) = stated eval_context («open» eval_context cursor)
simple file eval_context (simples.Fetch cursor slots) = stated eval_context (fetch eval_context cursor slots)
simple file eval_context (simples.Close cursor) = stated eval_context (close eval_context cursor)
