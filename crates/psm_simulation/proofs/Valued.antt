-- Expressions outside of rows: their lines put on the operands what they mean, where that is so of their parts.
use Rattle.std.proofs.Common.{◌≡◌, ℕ, suc, List, [], ◌∷◌, length, slice_get, refl, sym, subst, Some, None, Ok}
use Rattle.psm_value.specs.declared.datum.Datum.{Datum}
use Rattle.psm_value.specs.declared.datum.Datum.TheVariants as data_of
use Rattle.psm_exprcode.specs.declared.op.Op.TheVariants as ops
use Rattle.psm_exprcode.specs.declared.operand.Operand.{Operand}
use Rattle.psm_resolved.specs.declared.expr.ResolvedExpr.{ResolvedExpr, out-ResolvedExpr}
use Rattle.psm_resolved.specs.declared.expr.ResolvedExpr.TheOpen as layers
use Rattle.psm_resolved.specs.declared.file.ResolvedFile.{ResolvedFile}
use Rattle.psm_resolved.specs.Outcomes.{valued}
use Rattle.psm_resolved.specs.RowValue.{listed}
use Rattle.psm_meaning.specs.Acts.{Meaning, operand}
use Rattle.psm_meaning.specs.Meaning.{step}
use Rattle.psm_meaning.specs.Calls.{called}
use Rattle.psm_meaning.specs.Values.{evaluated}
use Rattle.psm_code.specs.declared.code.RawCode.{RawCode}
use Rattle.psm_code.specs.declared.code.RawRoutine.{RawRoutine}
use Rattle.psm_code.specs.declared.instruction.Instruction.TheVariants as instruction
use Rattle.psm_code.specs.Parts.{routine_at}
use Rattle.psm_code.specs.State.{More}
use Rattle.psm_simulation.specs.Agreement.{Spot, machine}
use Rattle.psm_simulation.specs.Env.{Raising}
use Rattle.psm_simulation.specs.Expressions.{Layer, IsFunction, Takes, Puts, null, straight, logical_operator, operator_chain, call, scalar, exists, searched, compared, coalesce, stacked}
use Rattle.psm_simulation.specs.Simulation.{Evals, FileStands, Simulates}
use Rattle.psm_simulation.proofs.Asking.{gives-exists, gives-scalar}
use Rattle.psm_simulation.proofs.Choosing.{gives-compared, gives-first, gives-scaled, gives-searched}
use Rattle.psm_simulation.proofs.Evaluating.{evals-bind}
use Rattle.psm_simulation.proofs.Joining.{gives-joined, gives-linked}
use Rattle.psm_simulation.proofs.Operands.{Yields, gives-values-with}
use Rattle.psm_simulation.proofs.Operating.{Gives, gives-performed}
use Rattle.psm_simulation.proofs.Straight.{gives-straight}

-- ---- expressions

-- the lines of a call do what the call means, over arguments that stand on the operands
abbrev pub Calls : ResolvedFile → RawCode → RawRoutine → ℕ → ℕ → Spot → Meaning → Type 0
Calls file code r k following spot m = (pc n function : ℕ) → (args : List Datum) → IsFunction file function n (length args) → Raising r k following pc (instruction.FunctionCall n) → (below : List Operand)
    → Evals code r k following spot m (called file function args) (λ st. More (machine spot pc (stacked args below) st)) (λ x st. More (machine spot (suc pc) (x ∷ below) st))

module _ (file : ResolvedFile) (code : RawCode) (r : RawRoutine) (k following : ℕ) (spot : Spot) (m : Meaning) (at : routine_at code spot.number ≡ Some r) (yields : Yields file code r k following spot m) (calls : Calls file code r k following spot m) where
  placed : (form layer : Layer) → form ≡ layer → (pc end : ℕ) (below : List Operand) → Gives code r k following spot m (evaluated file layer) pc below end (λ x. x ∷ below) → Gives code r k following spot m (evaluated file form) pc below end (λ x. x ∷ below)
  placed form layer q pc end below p = subst (λ l. Gives code r k following spot m (evaluated file l) pc below end (λ x. x ∷ below)) (sym q) p

  gives-expression : (e : ResolvedExpr) (pc end : ℕ) → Puts file code r k following e pc end → (below : List Operand) → Gives code r k following spot m (evaluated file (out-ResolvedExpr e)) pc below end (λ x. x ∷ below)
  gives-expression e pc end (null q n l) below =
      placed (out-ResolvedExpr e) layers.Null q pc (suc pc) below
      (gives-performed code r k following spot m at (ops.Constant n data_of.Null ∷ []) pc (suc pc) below below (λ vars. valued (Ok data_of.Null)) (l, refl) (λ vars. refl))
  gives-expression e pc end (straight {mid = mid} s p l) below = gives-straight file code r k following spot m at yields (out-ResolvedExpr e) s pc mid end p l below
  gives-expression e pc end (logical_operator {mid = mid} j operands q p rest) below =
      placed (out-ResolvedExpr e) (layers.LogicalOperator j operands) q pc end below
      (evals-bind (yields operands.first pc mid p below) (λ x. gives-joined file code r k following spot m at yields operands.rest j x mid end rest below))
  gives-expression e pc end (operator_chain {mid = mid} first chain_links q p rest) below =
      placed (out-ResolvedExpr e) (layers.OperatorChain first chain_links) q pc end below
      (evals-bind (yields first pc mid p below) (λ x. gives-linked file code r k following spot m at yields chain_links x mid end rest below))
  gives-expression e pc end (call {mid = mid} function arguments q p n f l) below =
      placed (out-ResolvedExpr e) (layers.Call function arguments) q pc (suc mid) below
      (gives-values-with file code r k following spot m yields arguments (called file function) pc mid (suc mid) below (λ x. x ∷ below) p (λ ds e. calls mid n function ds (f.0, subst (λ c. Takes c (slice_get file.routines n)) (sym e) f.1) l below))
  gives-expression e pc end (scalar query q n s l) below = placed (out-ResolvedExpr e) (layers.Scalar query) q pc (suc pc) below (gives-scalar code r k following spot m at query n pc s l below)
  gives-expression e pc end (exists query q n s l) below = placed (out-ResolvedExpr e) (layers.Exists query) q pc (suc pc) below (gives-exists code r k following spot m at query n pc s l below)
  gives-expression e pc end (searched {mid = mid} {out = out} whens otherwise scale q p o l) below =
      placed (out-ResolvedExpr e) (layers.Case None whens otherwise scale) q pc end below
      (evals-bind (gives-searched file code r k following spot m at yields (listed whens) otherwise out pc mid p o below) (λ x. gives-scaled code r k following spot m at scale x out end below l))
  gives-expression e pc end (compared {first = first} {mid = mid} {out = out} operand whens otherwise scale q p c d o l) below =
      placed (out-ResolvedExpr e) (layers.Case (Some operand) whens otherwise scale) q pc end below
      (evals-bind (gives-compared file code r k following spot m at yields operand (listed whens) otherwise out pc first mid p c d o below) (λ x. gives-scaled code r k following spot m at scale x out end below l))
  gives-expression e pc end (coalesce {out = out} values scale q p l) below =
      placed (out-ResolvedExpr e) (layers.Coalesce values scale) q pc end below
      (evals-bind (gives-first file code r k following spot m at yields values.rest values.first pc out p below) (λ x. gives-scaled code r k following spot m at scale x out end below l))

-- ---- code that simulates what parts mean

pub value-step : (file : ResolvedFile) (code : RawCode) (m : Meaning) → FileStands file code → Simulates file code m
    → ((r : RawRoutine) (spot : Spot) → routine_at code spot.number ≡ Some r → (context resume pc n function : ℕ) (args : List Datum) → IsFunction file function n (length args) → Raising r context resume pc (instruction.FunctionCall n) → (below : List Operand)
    → Evals code r context resume spot m (called file function args) (λ st. More (machine spot pc (stacked args below) st)) (λ x st. More (machine spot (suc pc) (x ∷ below) st)))
    → (r : RawRoutine) (spot : Spot) → routine_at code spot.number ≡ Some r → (context resume : ℕ) (e : ResolvedExpr) (pc end : ℕ) → Puts file code r context resume e pc end → (below : List Operand)
    → Evals code r context resume spot m (evaluated file (out-ResolvedExpr e)) (λ st. More (machine spot pc below st)) (λ x st. More (machine spot end (x ∷ below) st))
value-step file code m stands s called-evals r spot at context resume e pc end p below =
    gives-expression file code r context resume spot m at (s.value r spot at context resume) (called-evals r spot at context resume) e pc end p below

-- the same of the meaning that takes these as its parts
pub value-stepped : (file : ResolvedFile) (code : RawCode) (m : Meaning) → FileStands file code → Simulates file code m
    → ((r : RawRoutine) (spot : Spot) → routine_at code spot.number ≡ Some r → (context resume : ℕ) → Calls file code r context resume spot m)
    → (r : RawRoutine) (spot : Spot) → routine_at code spot.number ≡ Some r → (context resume : ℕ) (e : ResolvedExpr) (pc end : ℕ) → Puts file code r context resume e pc end → (below : List Operand)
    → Evals code r context resume spot (step file m) (operand e) (λ st. More (machine spot pc below st)) (λ x st. More (machine spot end (x ∷ below) st))
value-stepped file code m stands s called-evals r spot at context resume e pc end p below =
    record { by = λ st d. (value-step file code m stands s called-evals r spot at context resume e pc end p below).by st d }
