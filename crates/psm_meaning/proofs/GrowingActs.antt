-- The same of the evaluations that stand in simple statements and whose parts are expressions.
use Rattle.std.proofs.Common.{ℕ, List, [], ◌∷◌, Option, Some, None}
use Rattle.psm_cond.specs.Condition.{alone, «following» as in_front}
use Rattle.psm_cond.specs.declared.entry.Entry.{Entry}
use Rattle.psm_resolved.specs.declared.expr.ResolvedExpr.{ResolvedExpr}
use Rattle.psm_resolved.specs.declared.file.ResolvedFile.{ResolvedFile}
use Rattle.psm_resolved.specs.declared.statement.ResolvedArgument.{ResolvedArgument}
use Rattle.psm_resolved.specs.declared.statement.ResolvedArgument.TheVariants.{In, Out, InOut}
use Rattle.psm_resolved.specs.declared.statement.ResolvedRows.{ResolvedRows}
use Rattle.psm_resolved.specs.declared.statement.ResolvedRows.TheVariants.{Values, Query}
use Rattle.psm_resolved.specs.declared.statement.ResolvedSignal.{ResolvedSignal}
use Rattle.psm_meaning.specs.State.{EvalContext}
use Rattle.psm_meaning.specs.Acts.{Meaning}
use Rattle.psm_meaning.specs.Assigning.{set, arguments_given, call}
use Rattle.psm_meaning.specs.Calls.{procedure_at}
use Rattle.psm_meaning.specs.Signalling.{with_message, signalled, signal, resignal}
use Rattle.psm_meaning.specs.Data.{all_values, rows_given, insert}
use Rattle.psm_meaning.specs.Fits.{Fits}
use Rattle.psm_meaning.proofs.Pure.{pure-cleared, pure-got, pure-present, pure-raises, pure-variable}
use Rattle.psm_meaning.proofs.PureActs as pures
use Rattle.psm_meaning.proofs.Growing.{Grows, grows-bind, grows-pure, grows-value_of, grows-values}
use Rattle.psm_meaning.proofs.GrowingValues.{grows-activated}

-- ---- SET and CALL

pub grows-set : {m n : Meaning} → Fits m n → (eval_context : EvalContext) (slot : ℕ) (e : ResolvedExpr) → Grows m n (set eval_context slot e)
grows-set fits eval_context slot e = grows-bind (grows-pure pure-cleared) (λ u. grows-bind (grows-value_of fits e) (λ d. grows-pure (pures.pure-assign eval_context slot d)))

grows-arguments_given : {m n : Meaning} → Fits m n → (args : List ResolvedArgument) → Grows m n (arguments_given args)
grows-arguments_given fits [] = grows-pure (pure-got [])
grows-arguments_given fits (In e ∷ args) = grows-bind (grows-value_of fits e) (λ d. grows-bind (grows-arguments_given fits args) (λ ds. grows-pure (pure-got (d ∷ ds))))
grows-arguments_given fits (Out slot ∷ args) = grows-arguments_given fits args
grows-arguments_given fits (InOut slot ∷ args) = grows-bind (grows-pure (pure-variable slot)) (λ d. grows-bind (grows-arguments_given fits args) (λ ds. grows-pure (pure-got (d ∷ ds))))

pub grows-call : {m n : Meaning} → Fits m n → (file : ResolvedFile) (eval_context : EvalContext) (procedure : ℕ) (args : List ResolvedArgument) → Grows m n (call file eval_context procedure args)
grows-call fits file eval_context procedure args = grows-bind (grows-pure pure-cleared) (λ u. grows-bind (grows-pure (pure-present (procedure_at file procedure))) (λ r.
    grows-bind (grows-arguments_given fits args) (λ ds. grows-bind (grows-activated fits r ds) (λ e.
    grows-bind (grows-pure (pures.pure-ended_well e.returned)) (λ w. grows-pure (pures.pure-given_back eval_context args e.variables))))))

-- ---- SIGNAL and RESIGNAL

grows-with_message : {m n : Meaning} → Fits m n → (x : Option ResolvedExpr) (e : Entry) → Grows m n (with_message x e)
grows-with_message fits None e = grows-pure (pure-got e)
grows-with_message fits (Some x) e = grows-bind (grows-value_of fits x) (λ d. grows-bind (grows-pure (pures.pure-message_text d)) (λ t. grows-pure (pure-got _)))

grows-signalled : {m n : Meaning} → Fits m n → (eval_context : EvalContext) (s : ResolvedSignal) → Grows m n (signalled eval_context s)
grows-signalled fits eval_context s = grows-bind (grows-pure (pures.pure-entry_for eval_context s.condition)) (λ e. grows-with_message fits s.message e)

pub grows-signal : {m n : Meaning} → Fits m n → (eval_context : EvalContext) (s : ResolvedSignal) → Grows m n (signal eval_context s)
grows-signal fits eval_context s = grows-bind (grows-pure pure-cleared) (λ u. grows-bind (grows-signalled fits eval_context s) (λ e. grows-pure (pure-raises (alone e))))

pub grows-resignal : {m n : Meaning} → Fits m n → (eval_context : EvalContext) (s : Option ResolvedSignal) → Grows m n (resignal eval_context s)
grows-resignal fits eval_context None = grows-bind (grows-pure pure-cleared) (λ u. grows-bind (grows-pure (pures.pure-activating eval_context.acting)) (λ c. grows-pure (pure-raises c)))
grows-resignal fits eval_context (Some s) = grows-bind (grows-pure pure-cleared) (λ u. grows-bind (grows-signalled fits eval_context s) (λ e.
    grows-bind (grows-pure (pures.pure-activating eval_context.acting)) (λ c. grows-pure (pure-raises (in_front e c)))))

-- ---- INSERT

grows-all_values : {m n : Meaning} → Fits m n → (rs : List (List ResolvedExpr)) → Grows m n (all_values rs)
grows-all_values fits [] = grows-pure (pure-got [])
grows-all_values fits (r ∷ rs) = grows-bind (grows-values fits r) (λ ds. grows-bind (grows-all_values fits rs) (λ others. grows-pure (pure-got (ds ∷ others))))

grows-rows_given : {m n : Meaning} → Fits m n → (rows : ResolvedRows) → Grows m n (rows_given rows)
grows-rows_given fits (Values rs) = grows-all_values fits rs
grows-rows_given fits (Query query) = grows-bind (grows-pure (pures.pure-answer_of query)) (λ a. grows-pure (pures.pure-some_rows a.rows))

pub grows-insert : {m n : Meaning} → Fits m n → (file : ResolvedFile) (table : ℕ) (columns : List ℕ) (rows : ResolvedRows) → Grows m n (insert file table columns rows)
grows-insert fits file table columns rows = grows-bind (grows-pure pure-cleared) (λ u. grows-bind (grows-rows_given fits rows) (λ new. grows-pure (pures.pure-put_in file table columns new)))
