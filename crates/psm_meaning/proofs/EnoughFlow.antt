-- The same of IF, CASE and loops, and so of a step; and what fuel is enough.
use Rattle.std.proofs.Common.{arith, ◌≤◌, ◌+◌, ◌*◌, ℕ, zero, suc, Bool, true, false, List, [], ◌∷◌, map, Option, Some, None, nat_eq, mul-le-mul_right, suc-mul, add-mul, if◌then◌else◌}
use Rattle.std.specs.Prelude.{codes}
use Rattle.psm_value.specs.declared.datum.Datum.{Datum}
use Rattle.psm_value.specs.declared.truth.Truth as truth
use Rattle.psm_value.specs.Truth.{is_certain}
use Rattle.psm_table.specs.Cursors.{Closed}
use Rattle.psm_resolved.specs.declared.expr.ResolvedExpr.{ResolvedExpr, out-ResolvedExpr}
use Rattle.psm_resolved.specs.declared.file.ResolvedFile.{ResolvedFile}
use Rattle.psm_resolved.specs.declared.statement.ResolvedBlock.{ResolvedBlock}
use Rattle.psm_resolved.specs.declared.statement.ResolvedBranch.{ResolvedBranch, out-ResolvedBranch}
use Rattle.psm_resolved.specs.declared.statement.ResolvedFor.{ResolvedFor}
use Rattle.psm_resolved.specs.declared.statement.ResolvedHandler.{ResolvedHandler}
use Rattle.psm_resolved.specs.declared.statement.ResolvedStatement.{ResolvedStatement, out-ResolvedStatement}
use Rattle.psm_resolved.specs.declared.statement.ResolvedStatement.TheOpen.{ResolvedStatement-F}
use Rattle.psm_resolved.specs.declared.statement.ResolvedStatement.TheOpen as layers
use Rattle.psm_meaning.specs.State.{State, EvalContext, seeing, with_cursor}
use Rattle.psm_meaning.specs.Acts.{Outcome, Normal, Leave, Iterate, Return, Raised, Away, Stopped, Task, Do, Round, Meaning, Act, Deed, of_state, ends_as, changing}
use Rattle.psm_meaning.specs.Flow.{branched, else_of, cased, repeated, looped, while_true, until_true, over_row, round, for_each}
use Rattle.psm_meaning.specs.Meaning.{statement, task, step, meaning}
use Rattle.psm_meaning.specs.Fuel.{total, expr_size, option_size, for_size, file_size, fuel_for}
use Rattle.psm_meaning.specs.Enough.{AreWithin}
use Rattle.psm_meaning.proofs.PureActs as pures
use Rattle.psm_meaning.proofs.Sizes.{expr_size-out, expr_size-pos, branch_size, branch_size-out, statements_size, size_of_statement, statement_size-out, task_size, task_size-pos}
use Rattle.psm_meaning.proofs.Enough.{keeps-pure, Paid, Pays, Parts, Later, later-le, keeps-value_of, keeps-truth_of}
use Rattle.psm_meaning.proofs.EnoughValues.{Tests, keeps-is_equal, keeps-evaluated}
use Rattle.psm_meaning.proofs.EnoughDeeds.{Follows, pays-normal, pays-if, pays-following, paid-then, pays-all, owes-pays, pays-at_turn, pays-raised, pays-after, paid-own}
use Rattle.psm_meaning.proofs.EnoughStatements.{pays-simple, pays-compound}

-- ---- IF and CASE

pays-branched : {file : ResolvedFile} {m : Meaning} {turns size : ℕ} → Parts file m turns size → Later file m turns → (eval_context : EvalContext) → AreWithin file eval_context.scopes → (test : ResolvedExpr → Act truth.Truth) → Tests m turns size test → (branches : List ResolvedBranch) {otherwise : Deed} → total (map branch_size branches) ≤ size → Pays file m turns otherwise → Pays file m turns (branched eval_context test branches otherwise)
pays-branched parts later eval_context w test h [] p k = k
pays-branched parts later eval_context w test h (b ∷ branches) p k = pays-after later eval_context w (h (out-ResolvedBranch b).test (omega (arith, p, branch_size-out b))) (λ t.
    pays-if (is_certain t) (pays-all parts eval_context w (out-ResolvedBranch b).statements (omega (arith, p, branch_size-out b))) (pays-branched parts later eval_context w test h branches (omega (arith, p)) k))

pays-else_of : {file : ResolvedFile} {m : Meaning} {turns size : ℕ} → Parts file m turns size → Later file m turns → (eval_context : EvalContext) → AreWithin file eval_context.scopes → (ss : List ResolvedStatement) → statements_size ss ≤ size → Pays file m turns (else_of eval_context ss)
pays-else_of parts later eval_context w [] p = pays-raised later eval_context w (of_state (codes "20000"))
pays-else_of parts later eval_context w (s ∷ ss) p = pays-all parts eval_context w (s ∷ ss) p

pays-cased : {file : ResolvedFile} {m : Meaning} {turns size : ℕ} → Parts file m turns size → Later file m turns → (eval_context : EvalContext) → AreWithin file eval_context.scopes → (e : Option ResolvedExpr) (branches : List ResolvedBranch) {otherwise : Deed} → option_size e ≤ size → total (map branch_size branches) ≤ size → Pays file m turns otherwise → Pays file m turns (cased eval_context e branches otherwise)
pays-cased parts later eval_context w None branches p q k = pays-branched parts later eval_context w _ (keeps-truth_of parts.value) branches q k
pays-cased parts later eval_context w (Some e) branches p q k = pays-after later eval_context w (keeps-value_of parts.value e p) (λ d. pays-branched parts later eval_context w _ (keeps-is_equal parts.value d) branches q k)

-- ---- loops: each round has a turn of its own

paid-iterate : {file : ResolvedFile} {m : Meaning} {turns : ℕ} {again : Deed} → Pays file m turns again → (b : Bool) (l before : ℕ) (st : State) → before ≤ turns → st.turns ≤ before → Paid file before ((if b then again else ends_as (Iterate l)) m st).state.turns ((if b then again else ends_as (Iterate l)) m st).outcome
paid-iterate h true l before st p q = paid-then h st p q
paid-iterate h false l before st p q = q

follows-repeated : {file : ResolvedFile} {m : Meaning} {turns : ℕ} (level : ℕ) {again : Deed} → Pays file m turns again → Follows file m turns (repeated level again)
follows-repeated level h = record { paid = each level h }
  where
    each : {file : ResolvedFile} {m : Meaning} {turns : ℕ} (level : ℕ) {again : Deed} → Pays file m turns again → (o : Outcome) (before : ℕ) (st : State) → before ≤ turns → Paid file before st.turns o → Paid file before (repeated level again o m st).state.turns (repeated level again o m st).outcome
    each level h Normal before st p q = paid-then h st p q
    each {file = file} level h (Leave l) before st p q = paid-own file (nat_eq l level) l before st.turns q
    each level h (Iterate l) before st p q = paid-iterate h (nat_eq l level) l before st p q
    each level h (Return d) before st p q = q
    each level h (Raised c) before st p q = q
    each level h (Away l k c) before st p q = q
    each level h (Stopped stop) before st p q = q

-- what is done again, wherever a turn was used
abbrev Again : ResolvedFile → Meaning → ℕ → Deed → Type 0
Again file m turns again = (left : ℕ) → suc left ≤ turns → Pays file m left again

less : {file : ResolvedFile} {m : Meaning} {left turns : ℕ} → suc left ≤ turns → Later file m turns → Later file m left
less q later = later-le (omega (arith, q)) later

pays-looped : {file : ResolvedFile} {m : Meaning} {turns : ℕ} → Later file m turns → (level : ℕ) (eval_context : EvalContext) → AreWithin file eval_context.scopes → (ss : List ResolvedStatement) → statements_size ss ≤ file_size file → {again : Deed} → Again file m turns again → Pays file m turns (looped level eval_context ss again)
pays-looped later level eval_context w ss p h = pays-at_turn (λ left q. owes-pays (pays-following (pays-all (later left q) eval_context w ss p) (follows-repeated level (h left q))))

pays-while_true : {file : ResolvedFile} {m : Meaning} {turns : ℕ} → Later file m turns → (level : ℕ) (eval_context : EvalContext) → AreWithin file eval_context.scopes → (test : ResolvedExpr) (ss : List ResolvedStatement) → expr_size test ≤ file_size file → statements_size ss ≤ file_size file → {again : Deed} → Again file m turns again → Pays file m turns (while_true level eval_context test ss again)
pays-while_true later level eval_context w test ss r p h = pays-at_turn (λ left q. let parts = later left q in
    owes-pays (pays-after (less q later) eval_context w (keeps-truth_of parts.value test r) (λ t. pays-if (is_certain t) (pays-following (pays-all parts eval_context w ss p) (follows-repeated level (h left q))) pays-normal)))

pays-until_true : {file : ResolvedFile} {m : Meaning} {turns : ℕ} → Later file m turns → (level : ℕ) (eval_context : EvalContext) → AreWithin file eval_context.scopes → (ss : List ResolvedStatement) (until : ResolvedExpr) → statements_size ss ≤ file_size file → expr_size until ≤ file_size file → {again : Deed} → Again file m turns again → Pays file m turns (until_true level eval_context ss until again)
pays-until_true later level eval_context w ss until p r h = pays-at_turn (λ left q. let parts = later left q in
    owes-pays (pays-following (pays-all parts eval_context w ss p) (follows-repeated level (pays-after (less q later) eval_context w (keeps-truth_of parts.value until r) (λ t. pays-if (is_certain t) pays-normal (h left q))))))

-- ---- FOR

pays-over_row : {file : ResolvedFile} {m : Meaning} {turns : ℕ} → Parts file m turns (file_size file) → (level : ℕ) (eval_context : EvalContext) → AreWithin file eval_context.scopes → (head : ResolvedFor) (ss : List ResolvedStatement) → statements_size ss ≤ file_size file → {again : Deed} → Pays file m turns again → (row : Option (List Datum)) → Pays file m turns (over_row level eval_context head ss again row)
pays-over_row parts level eval_context w head ss p h None = pays-normal
pays-over_row parts level eval_context w head ss p h (Some ds) = pays-following (pays-all parts (seeing (head.cursor ∷ []) eval_context) w ss p) (follows-repeated level h)

pays-round : {file : ResolvedFile} {m : Meaning} {turns : ℕ} → Later file m turns → (level : ℕ) (eval_context : EvalContext) → AreWithin file eval_context.scopes → (head : ResolvedFor) (ss : List ResolvedStatement) → statements_size ss ≤ file_size file → {again : Deed} → Again file m turns again → Pays file m turns (round level eval_context head ss again)
pays-round later level eval_context w head ss p h = pays-at_turn (λ left q. owes-pays (pays-after (less q later) eval_context w (keeps-pure (pures.pure-row_of_for eval_context head)) (pays-over_row (later left q) level eval_context w head ss p (h left q))))

follows-closed : {file : ResolvedFile} {m : Meaning} {turns : ℕ} (number : ℕ) → Follows file m turns (λ o. changing (with_cursor number Closed) (ends_as o))
follows-closed number = record { paid = λ o before st p q. q }

pays-for_each : {file : ResolvedFile} {m : Meaning} {turns size : ℕ} → Parts file m turns size → Later file m turns → (level : ℕ) (eval_context : EvalContext) → AreWithin file eval_context.scopes → (head : ResolvedFor) (ss : List ResolvedStatement) → for_size head + statements_size ss ≤ size → Pays file m turns (for_each level eval_context head ss)
pays-for_each parts later level eval_context w head ss p = pays-after later eval_context w (keeps-pure (pures.pure-open_cursor head.cursor)) (λ u.
    pays-following (parts.done (Round level head ss) eval_context w p) (follows-closed head.cursor.number))

-- ---- steps

pays-statement : {file : ResolvedFile} {m : Meaning} {turns size : ℕ} → Parts file m turns size → Later file m turns → suc size ≤ file_size file → (eval_context : EvalContext) → AreWithin file eval_context.scopes → {again : Deed} → Again file m turns again → (s : ResolvedStatement-F ResolvedStatement ResolvedBlock ResolvedBranch ResolvedHandler) → size_of_statement s ≤ suc size → Pays file m turns (statement file eval_context again s)
pays-statement parts later small eval_context w h (layers.Compound level block) p = pays-compound parts later small level block eval_context w (omega (arith, p))
pays-statement parts later small eval_context w h (layers.Loop level ss) p = pays-looped later level eval_context w ss (omega (arith, p, small)) h
pays-statement parts later small eval_context w h (layers.While level test ss) p = pays-while_true later level eval_context w test ss (omega (arith, p, small)) (omega (arith, p, small)) h
pays-statement parts later small eval_context w h (layers.Repeat level ss until) p = pays-until_true later level eval_context w ss until (omega (arith, p, small)) (omega (arith, p, small)) h
pays-statement parts later small eval_context w h (layers.For level head ss) p = pays-for_each parts later level eval_context w head ss (omega (arith, p))
pays-statement parts later small eval_context w h (layers.If branches otherwise) p = pays-branched parts later eval_context w _ (keeps-truth_of parts.value) branches (omega (arith, p)) (pays-all parts eval_context w otherwise (omega (arith, p)))
pays-statement parts later small eval_context w h (layers.Case None branches otherwise) p = pays-cased parts later eval_context w None branches (omega arith) (omega (arith, p)) (pays-else_of parts later eval_context w otherwise (omega (arith, p)))
pays-statement parts later small eval_context w h (layers.Case (Some e) branches otherwise) p = pays-cased parts later eval_context w (Some e) branches (omega (arith, p)) (omega (arith, p)) (pays-else_of parts later eval_context w otherwise (omega (arith, p)))
pays-statement parts later small eval_context w h (layers.Simple s) p = pays-simple parts later eval_context w s (omega (arith, p))

pays-task : {file : ResolvedFile} {m : Meaning} {turns size : ℕ} → Parts file m turns size → Later file m turns → suc size ≤ file_size file → (t : Task) (eval_context : EvalContext) → AreWithin file eval_context.scopes → task_size t ≤ suc size → Pays file m turns (task file t eval_context)
pays-task parts later small (Do s) eval_context w p = pays-statement parts later small eval_context w (λ left q. (later left q).done (Do s) eval_context w (omega (arith, p, small))) (out-ResolvedStatement s) (omega (arith, p, statement_size-out s))
pays-task parts later small (Round level head ss) eval_context w p = pays-round later level eval_context w head ss (omega (arith, p, small)) (λ left q. (later left q).done (Round level head ss) eval_context w (omega (arith, p, small)))

-- a step does what is by one greater
parts-step : {file : ResolvedFile} {m : Meaning} {turns size : ℕ} → Parts file m turns size → Later file m turns → suc size ≤ file_size file → Parts file (step file m) turns (suc size)
parts-step {file = file} {m = m} parts later small = record {
  value = λ e p. record { well = λ st q. (keeps-evaluated parts.value later (out-ResolvedExpr e) (omega (arith, p, expr_size-out e))).well st q };
  done = λ t eval_context w p. record { paid = λ st q. (pays-task parts later small t eval_context w p).paid st q };
}

-- nothing is so small
parts-zero : {file : ResolvedFile} {m : Meaning} {turns : ℕ} → Parts file m turns 0
parts-zero = record {
  value = λ e p. let never : ⊥ = omega (arith, p, expr_size-pos e) in absurd never;
  done = λ t eval_context w p. let never : ⊥ = omega (arith, p, task_size-pos t) in absurd never;
}

-- ---- fuel

-- a turn less is as much as the whole file
one-turn : (file : ResolvedFile) (left turns : ℕ) → suc left ≤ turns → left * (file_size file + 2) + (file_size file + 2) ≤ turns * (file_size file + 2)
one-turn file left turns p = omega (arith, mul-le-mul_right (file_size file + 2) p, suc-mul left (file_size file + 2))

parts-enough : (file : ResolvedFile) (h turns size : ℕ) → turns * (file_size file + 2) + size ≤ h → size ≤ file_size file → Parts file (meaning file h) turns size
parts-enough file zero turns zero p q = parts-zero
parts-enough file (suc h) turns zero p q = parts-zero
parts-enough file zero turns (suc size) p q = let never : ⊥ = omega (arith, p) in absurd never
parts-enough file (suc h) turns (suc size) p q = parts-step (parts-enough file h turns size (omega (arith, p)) (omega (arith, q)))
    (λ left r. parts-enough file h left (file_size file) (omega (arith, p, one-turn file left turns r)) (omega arith)) q

-- at the fuel of n turns, what is no greater than the file
pub parts-fuel_for : (file : ResolvedFile) (h turns : ℕ) → fuel_for file turns ≤ h → Parts file (meaning file h) turns (file_size file)
parts-fuel_for file h turns p = parts-enough file h turns (file_size file) (omega (arith, p, add-mul turns 1 (file_size file + 2))) (omega arith)

pub later-fuel_for : (file : ResolvedFile) (h turns : ℕ) → fuel_for file turns ≤ h → Later file (meaning file h) turns
later-fuel_for file h turns p left q = parts-enough file h left (file_size file) (omega (arith, p, one-turn file left turns q, add-mul turns 1 (file_size file + 2))) (omega arith)
