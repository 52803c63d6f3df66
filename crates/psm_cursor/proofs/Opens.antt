-- What opens an insensitive cursor.
use Rattle.std.proofs.Common.{◌≡◌, List, ap, ◌∙◌, sym, Option, Some, None, Result, Ok, Err}
use Rattle.std.specs.Prelude.{IfSome}
use Rattle.psm_cond.specs.Condition.{Entries}
use Rattle.psm_cond.specs.declared.fault.DataFault.{DataFault}
use Rattle.psm_cond.specs.declared.fault.DataFault.TheVariants.{Raised, Memory}
use Rattle.psm_exprcode.specs.declared.query.Query.{Query}
use Rattle.psm_sqlstate.specs.declared.state.SqlState.{SqlState}
use Rattle.psm_value.specs.declared.datum.Datum.{Datum}
use Rattle.psm_table.specs.Cursors.{Cursor, Insensitive}
use Rattle.psm_table.specs.Evaluator.{mapped}
use Rattle.psm_table.specs.Queries.{Answer, answer}
use Rattle.psm_table.specs.Table.{Contents}
use Rattle.psm_tablecode.specs.Codes.{over, query_of}
use Rattle.psm_tablecode.specs.Faults.{Answers, IsRaised}
use Rattle.psm_cursor.specs.Opened.{opened_over}

raised_mapped : {A B : Type 0} (f : A → B) (expected : Result A SqlState) (condition : Entries) → IsRaised expected condition → IsRaised (mapped f expected) condition
raised_mapped f (Ok a) condition h = h
raised_mapped f (Err state) condition h = h

mapped_fault : {A B : Type 0} (f : A → B) (expected : Result A SqlState) (fault : DataFault) → Answers expected (Err fault) → Answers (mapped f expected) (Err fault)
mapped_fault f expected (Raised condition) h = raised_mapped f expected condition h
mapped_fault f expected Memory h = tt

module _ (query : Query) (vars : List Datum) where
  pub opens : (o : Option Contents) (a : Answer) (rows : List (List Datum)) (c : Cursor) → rows ≡ a.rows → c ≡ Insensitive rows → IfSome o (λ t. Answers (answer (over vars) (query_of query) t.rows) (Ok a))
      → IfSome o (λ t. Answers (opened_over query vars t) (Ok c))
  opens None a rows c e f h = tt
  opens (Some t) a rows c e f h = ap (mapped (λ a. Insensitive a.rows)) h ∙ ap Ok (sym (f ∙ ap Insensitive e))

  pub opens_fault : (o : Option Contents) (fault : DataFault) → IfSome o (λ t. Answers (answer (over vars) (query_of query) t.rows) (Err fault)) → IfSome o (λ t. Answers (opened_over query vars t) (Err fault))
  opens_fault None fault h = tt
  opens_fault (Some t) fault h = mapped_fault (λ (a : Answer). Insensitive a.rows) (answer (over vars) (query_of query) t.rows) fault h
