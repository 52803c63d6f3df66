-- The code of a routine, from what was written of it.
use Rattle.std.proofs.Common.{◌≡◌, ◌<◌, ◌^◌, ℕ, List, [], drop, length, map, Option, None, Some, ap, refl, subst, ◌∙◌, arith}
use Rattle.std.specs.Prelude.{IsTrue, Result, Ok, Err, IfOk}
use Rattle.std.specs.declared.alloc.AllocError.{AllocError}
use Rattle.psm_value.specs.declared.sqltype.SqlType.{SqlType}
use Rattle.psm_cond.specs.declared.handlers.Declared.{Declared}
use Rattle.psm_cond.specs.declared.handlers.Declared.TheVariants as declares
use Rattle.psm_cond.specs.Tables.{HandlerTable}
use Rattle.psm_cond.specs.WellFormed.{is_numbered}
use Rattle.psm_code.specs.declared.code.RawRoutine.{RawRoutine}
use Rattle.psm_code.specs.declared.instruction.Instruction.{Instruction}
use Rattle.psm_resolved.specs.declared.file.ResolvedRoutine.{ResolvedRoutine}
use Rattle.psm_resolved.specs.declared.statement.ResolvedStatement.{ResolvedStatement}
use Rattle.psm_simulation.specs.Simulation.{last_instruction, parameter_of}
use Rattle.psm_exprgen.specs.declared.known.Known.{Known}
use Rattle.psm_exprgen.specs.Labels.{Respects, patched, patched_instruction, patched_line}
use Rattle.psm_exprgen.specs.Written.{plain}
use Rattle.psm_exprgen.proofs.Patches.{patched-plain}
use Rattle.psm_codegen.specs.Files.{RoutineWritten, is_function}
use Rattle.psm_codegen.specs.FunctionBuilder.{FunctionBuilder, with_plain}
use Rattle.psm_codegen.specs.Labels.{DraftedParts, line_of, line_or, patched_context, patched_parts}
use Rattle.psm_codegen.specs.Statements.{WritesStatement}

-- nothing is written yet
abbrev pub only_declared : List Declared → FunctionBuilder
only_declared ds = record { code = record { lines = []; stack = []; queries = []; labels = [] }; contexts = []; handlers = []; declared = ds; plans = []; cursors = []; letters = [] }

-- the numbers of all conditions, contexts and handlers have 32 bits
pub table_numbered : (t : HandlerTable) → length t.declared < 2 ^ 32 → length t.contexts < 2 ^ 32 → length t.handlers < 2 ^ 32 → IsTrue (is_numbered t)
table_numbered t d c h = grind (arith, d, c, h)

respects-labels : (labels : List (Option ℕ)) → Respects (line_of labels) labels
respects-labels labels = record { bound_at = λ label line h. ap line_or h }

last-patched : (σ : ℕ → ℕ) (returns : Option SqlType) → patched_instruction σ (last_instruction returns) ≡ last_instruction returns
last-patched σ None = refl
last-patched σ (Some kind) = refl

pub routine_written : {known : Known} {p a b : FunctionBuilder} {ds : List Declared} {i : Instruction} (routine : ResolvedRoutine) (body : ResolvedStatement) (res : Result RawRoutine AllocError)
    → ds ≡ map (λ name. declares.Named name) routine.conditions → p ≡ only_declared ds → body ≡ routine.body → DraftedParts (λ σ. WritesStatement known 0 [] body) p a → i ≡ last_instruction routine.returns → b ≡ with_plain 0 i a
    → IfOk res (λ r. r.name ≡ routine.name) → IfOk res (λ r. r.is_function ≡ is_function routine) → IfOk res (λ r. r.parameters ≡ map parameter_of routine.parameters) → IfOk res (λ r. r.returns ≡ routine.returns)
    → IfOk res (λ r. r.variables ≡ drop (length routine.parameters) routine.slots) → IfOk res (λ r. r.lines ≡ map (patched_line (line_of b.code.labels)) b.code.lines) → IfOk res (λ r. r.queries ≡ b.code.queries) → IfOk res (λ r. r.cursors ≡ b.cursors)
    → IfOk res (λ r. r.plans ≡ b.plans) → IfOk res (λ r. r.handlers.declared ≡ b.declared) → IfOk res (λ r. r.handlers.contexts ≡ map (patched_context (line_of b.code.labels)) b.contexts) → IfOk res (λ r. r.handlers.handlers ≡ b.handlers)
    → IfOk res (λ r. RoutineWritten known routine r)
routine_written {known} {p} {a} {b} {ds} {i} routine body (Ok r) hd hp hb x hi he name kind parameters returns variables lines queries cursors plans declared contexts handlers =
    let σ : ℕ → ℕ = line_of b.code.labels in
    let stands : Respects σ a.code.labels = subst (λ ls. Respects σ ls) (ap (λ z. z.code.labels) he) (respects-labels b.code.labels) in
    let last : patched σ b.code ≡ plain 0 (last_instruction routine.returns) (patched σ a.code) =
    ap (λ z. patched σ z.code) he ∙ patched-plain σ 0 i a.code ∙ ap (λ z. plain 0 (patched_instruction σ z) (patched σ a.code)) hi ∙ ap (λ z. plain 0 z (patched σ a.code)) (last-patched σ routine.returns) in
    record {
      name = name;
      kind = kind;
      parameters = parameters;
      returns = returns;
      variables = variables;
      parts = patched_parts σ a;
      body = subst (λ z. WritesStatement known 0 [] routine.body z (patched_parts σ a)) (ap (patched_parts σ) (hp ∙ ap only_declared hd)) (subst (λ z. WritesStatement known 0 [] z (patched_parts σ p) (patched_parts σ a)) hb (x.is σ stands));
      lines = lines ∙ ap (λ w. w.lines) last;
      queries = queries ∙ ap (λ z. z.code.queries) he;
      cursors = cursors ∙ ap (λ z. z.cursors) he;
      plans = plans ∙ ap (λ z. z.plans) he;
      declared = declared ∙ ap (λ z. z.declared) he;
      contexts = contexts ∙ ap (λ z. map (patched_context σ) z.contexts) he;
      handlers = handlers ∙ ap (λ z. z.handlers) he;
    }
routine_written routine body (Err e) hd hp hb x hi he name kind parameters returns variables lines queries cursors plans declared contexts handlers = name
