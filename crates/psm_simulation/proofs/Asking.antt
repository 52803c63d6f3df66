-- Queries in expressions: EXISTS, and a query as a value.
use Rattle.std.proofs.Common.{◌≡◌, ℕ, suc, List, [], ◌∷◌, refl, Some, None}
use Rattle.psm_value.specs.declared.datum.Datum.{Datum}
use Rattle.psm_exprcode.specs.declared.operand.Operand.{Operand}
use Rattle.psm_exprcode.specs.declared.operand.Operand.TheVariants.{Truth}
use Rattle.psm_exprcode.specs.Comparison.{truth_of}
use Rattle.psm_resolved.specs.declared.expr.ResolvedQuery.{ResolvedQuery}
use Rattle.psm_meaning.specs.Acts as acts
use Rattle.psm_meaning.specs.Acts.{Meaning}
use Rattle.psm_meaning.specs.Rows as trees
use Rattle.psm_meaning.specs.State.{State}
use Rattle.psm_meaning.specs.Values as meant
use Rattle.psm_code.specs.declared.code.RawCode.{RawCode}
use Rattle.psm_code.specs.declared.code.RawRoutine.{RawRoutine}
use Rattle.psm_code.specs.declared.instruction.Instruction.{Instruction}
use Rattle.psm_code.specs.declared.instruction.Instruction.TheVariants as instruction
use Rattle.psm_code.specs.Parts.{routine_at}
use Rattle.psm_code.specs.Querying.{is_any, scalar_of}
use Rattle.psm_code.specs.State.{More}
use Rattle.psm_code.specs.Steps as steps
use Rattle.psm_simulation.specs.Agreement.{Evaluates, IsReady, Spot, machine}
use Rattle.psm_simulation.specs.Env.{Raising}
use Rattle.psm_simulation.specs.Expressions.{IsQuery}
use Rattle.psm_simulation.proofs.Answering.{Means, Takes, evaluates-asked}
use Rattle.psm_simulation.proofs.Evaluating.{evaluates-from}
use Rattle.psm_simulation.proofs.Operating.{Gives}
use Rattle.psm_simulation.proofs.Runs.{after_line, leads-here, leads-line}

-- ---- what is made of the rows of an answer

abbrev with_rows : (List (List Datum) → steps.Act (Unit {0})) → Takes
with_rows takes a = takes a.rows

abbrev of_rows : (List (List Datum) → acts.Act Operand) → Means Operand
of_rows means a = means a.rows

module _ (code : RawCode) (r : RawRoutine) (k following : ℕ) (spot : Spot) (m : Meaning) (pc : ℕ) (i : Instruction) (l : Raising r k following pc i) (below : List Operand) where
  abbrev RowsAs : (List (List Datum) → steps.Act (Unit {0})) → (List (List Datum) → acts.Act Operand) → Type 0
  RowsAs takes means = (st : State) → IsReady code spot st → (rows : List (List Datum))
      → Evaluates code r k following spot (after_line code (takes rows) (machine spot pc below st)) (λ x st. More (machine spot (suc pc) (x ∷ below) st)) (means rows m st).given (means rows m st).state

  scalar-takes : RowsAs scalar_of meant.scalar
  scalar-takes st d [] = (leads-here, d)
  scalar-takes st d ([] ∷ []) = tt
  scalar-takes st d ((a ∷ ds) ∷ []) = (leads-here, d)
  scalar-takes st d (row ∷ other ∷ rows) = (record { pc = pc; operands = below; pending = None; line = _; there = l.there; context = refl; resume = refl; leads = leads-here }, d)

  exists-takes : RowsAs (λ rows. steps.put (Truth (truth_of (is_any rows)))) (λ rows. acts.got (Truth (truth_of (meant.is_any rows))))
  exists-takes st d [] = (leads-here, d)
  exists-takes st d (row ∷ rows) = (leads-here, d)

-- ---- lines

pub gives-scalar : (code : RawCode) (r : RawRoutine) (k following : ℕ) (spot : Spot) (m : Meaning) → routine_at code spot.number ≡ Some r → (query : ResolvedQuery) (n pc : ℕ) → IsQuery r n query
    → Raising r k following pc (instruction.Scalar n) → (below : List Operand)
    → Gives code r k following spot m (acts.◌>>=◌ (trees.answer_of query) (λ a. meant.scalar a.rows)) pc below (suc pc) (λ x. x ∷ below)
gives-scalar code r k following spot m at query n pc q l below = record {
  by = λ st d. evaluates-from code r k following spot (λ x t. More (machine spot (suc pc) (x ∷ below) t)) (leads-line at l.there)
      (acts.◌>>=◌ (trees.answer_of query) (λ a. meant.scalar a.rows) m st).given (acts.◌>>=◌ (trees.answer_of query) (λ a. meant.scalar a.rows) m st).state
      (evaluates-asked code r k following spot m pc (instruction.Scalar n) l below Operand (λ x t. More (machine spot (suc pc) (x ∷ below) t)) (with_rows scalar_of) (of_rows meant.scalar)
      (λ st d a. scalar-takes code r k following spot m pc (instruction.Scalar n) l below st d a.rows) n query q st d);
}

pub gives-exists : (code : RawCode) (r : RawRoutine) (k following : ℕ) (spot : Spot) (m : Meaning) → routine_at code spot.number ≡ Some r → (query : ResolvedQuery) (n pc : ℕ) → IsQuery r n query
    → Raising r k following pc (instruction.Exists n) → (below : List Operand)
    → Gives code r k following spot m (acts.◌>>=◌ (trees.answer_of query) (λ a. acts.got (Truth (truth_of (meant.is_any a.rows))))) pc below (suc pc) (λ x. x ∷ below)
gives-exists code r k following spot m at query n pc q l below = record {
  by = λ st d. evaluates-from code r k following spot (λ x t. More (machine spot (suc pc) (x ∷ below) t)) (leads-line at l.there)
      (acts.◌>>=◌ (trees.answer_of query) (λ a. acts.got (Truth (truth_of (meant.is_any a.rows)))) m st).given (acts.◌>>=◌ (trees.answer_of query) (λ a. acts.got (Truth (truth_of (meant.is_any a.rows)))) m st).state
      (evaluates-asked code r k following spot m pc (instruction.Exists n) l below Operand (λ x t. More (machine spot (suc pc) (x ∷ below) t)) (with_rows (λ rows. steps.put (Truth (truth_of (is_any rows)))))
      (of_rows (λ rows. acts.got (Truth (truth_of (meant.is_any rows))))) (λ st d a. exists-takes code r k following spot m pc (instruction.Exists n) l below st d a.rows) n query q st d);
}
