-- Queries among the parts of an instruction.
use Rattle.std.proofs.Common.{◌≡◌, ◌<◌, ℕ, zero, suc, List, [], ◌∷◌, ◌++◌, length, slice_get, Option, Some, None, IfSome, Result, Ok, Err, refl, ap, sym, subst, ◌∙◌, arith}
use Rattle.psm_sqlstate.specs.declared.state.SqlState.{SqlState}
use Rattle.psm_cond.specs.Condition.{Entries}
use Rattle.psm_cond.specs.declared.fault.DataFault.{DataFault}
use Rattle.psm_cond.specs.declared.fault.DataFault.TheVariants as fault
use Rattle.psm_value.specs.declared.datum.Datum.{Datum}
use Rattle.psm_exprcode.specs.declared.operand.Operand.TheVariants.{Value}
use Rattle.psm_exprcode.specs.declared.query.Query.{Query}
use Rattle.psm_table.specs.Queries.{Answer, answer}
use Rattle.psm_table.specs.Table.{Contents}
use Rattle.psm_tablecode.specs.Codes.{over, query_of}
use Rattle.psm_tablecode.specs.Faults.{Answers, IsRaised}
use Rattle.psm_store.specs.declared.store.Mark.{Mark}
use Rattle.psm_code.specs.Querying.{answer_of, scalar_of}
use Rattle.psm_code.specs.State.{Machine, with_running}
use Rattle.psm_code.specs.Steps.{Came, Raises, go_on, put_value, put_values, raises, tried}
use Rattle.psm_unwind.specs.declared.run.Run.{Run}
use Rattle.psm_unwind.specs.View.{machine_of}
use Rattle.psm_machine.specs.Allowed.{MayAsk}
use Rattle.psm_machine.specs.ActResults.{Evaluates}
use Rattle.psm_machine.specs.Over.{part_of}

-- ---- what is there

pub of_some : {A : Type 0} (P : A → Type 0) (o : Option A) (x : A) → o ≡ Some x → IfSome o P → P x
of_some P None x e h = cc
of_some P (Some y) x e h = let same : y ≡ x = cc in subst P same h

pub some_of : {A : Type 0} (P : A → Type 0) (o : Option A) (x : A) → o ≡ Some x → P x → IfSome o P
some_of P o x e h = subst (λ o. IfSome o P) (sym e) h

pub is_inside : {A : Type 0} (xs : List A) (i : ℕ) (x : A) → slice_get xs i ≡ Some x → i < length xs
is_inside [] i x e = cc
is_inside (y ∷ ys) zero x e = omega arith
is_inside (y ∷ ys) (suc i) x e = let h : i < length ys = is_inside ys i x e in omega (arith, h)

-- ---- statements on tables

pub raised_comes : {A : Type 0} (expected : Result A SqlState) (c : Entries) (m : Machine) → IsRaised expected c → tried expected m ≡ record { given = Raises c; machine = m }
raised_comes (Ok a) c m h = absurd h
raised_comes {A} (Err s) c m h = ap (λ x. raises {A = A} x m) (sym h)

pub part_comes : {A : Type 0} (expected : Result A SqlState) (r : Result A DataFault) (m : Machine) → Answers expected r → Evaluates (tried expected m) (part_of r) m
part_comes expected (Ok a) m h = ap (λ x. tried x m) h
part_comes expected (Err (fault.Raised c)) m h = raised_comes expected c m h
part_comes expected (Err fault.Memory) m h = tt

pub answer_comes : (q : Query) (tables : List Contents) (at : Mark → List Contents) (r : Run) (res : Result Answer DataFault) → MayAsk tables r.running.variables.items q
    → IfSome (slice_get tables q.table) (λ c. Answers (answer (over r.running.variables.items) (query_of q) c.rows) res) → Evaluates (answer_of q (machine_of tables at r)) (part_of res) (machine_of tables at r)
answer_comes q tables at r res h f =
    rw h.there (part_comes (answer (over r.running.variables.items) (query_of q) h.table.rows) res (machine_of tables at r) (of_some (λ (c : Contents). Answers (answer (over r.running.variables.items) (query_of q) c.rows) res) (slice_get tables q.table) h.table h.there f))

-- ---- values that are put on the operands

-- the last of them is put first
pub put_last : (ds : List Datum) (d : Datum) (m : Machine) → put_values (ds ++ d ∷ []) m ≡ put_values ds (with_running (λ a. record a { operands = Value d ∷ a.operands }) m)
put_last [] d m = refl
put_last (e ∷ ds) d m = ap (λ (came : Came (Unit {0})). go_on came.given (λ u. put_value e) came.machine) (put_last ds d m)

-- ---- the value of a query

pub nothing : {A : Type 0} (xs : List A) → length xs ≡ 0 → xs ≡ []
nothing [] h = refl
nothing (x ∷ xs) h = absurd (omega (arith, h))

one_item : (row : List Datum) (d : Datum) (m : Machine) → slice_get row 0 ≡ Some d → scalar_of (row ∷ []) m ≡ put_value d m
one_item [] d m e = absurd (cc)
one_item (x ∷ ds) d m e = let same : x ≡ d = cc in ap (λ y. put_value y m) same

-- of the last row, where there is no other
pub one_value : (rows others : List (List Datum)) (row : List Datum) (d : Datum) (m : Machine) → rows ≡ others ++ row ∷ [] → length others ≡ 0 → slice_get row 0 ≡ Some d → scalar_of rows m ≡ put_value d m
one_value rows others row d m e n f = ap (λ rs. scalar_of rs m) (e ∙ ap (λ os. os ++ row ∷ []) (nothing others n)) ∙ one_item row d m f
