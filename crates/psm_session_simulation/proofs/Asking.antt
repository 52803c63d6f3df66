-- A query of code has the answer of the query for which it stands.
use Rattle.std.proofs.Common.{◌≡◌, false, List, [], ◌∷◌, None, ap, refl, ◌∙◌}
use Rattle.std.proofs.lemmas.Option.{same_Some}
use Rattle.psm_value.specs.declared.datum.Datum.{Datum}
use Rattle.psm_exprcode.specs.declared.query.Query.{Query}
use Rattle.psm_table.specs.Queries.{answer}
use Rattle.psm_tablecode.specs.Codes as codes
use Rattle.psm_resolved.specs.declared.expr.ResolvedQuery.{ResolvedQuery}
use Rattle.psm_meaning.specs.Rows as trees
use Rattle.psm_code.specs.declared.code.RawRoutine.{RawRoutine}
use Rattle.psm_simulation.specs.Expressions.{IsQuery}
use Rattle.psm_codegen.proofs.Querying.{query_stands}
use Rattle.psm_session_simulation.specs.Standing.{SelectStands}

-- a routine with this query alone
only : Query → RawRoutine
only coded = record {
  name = [];
  is_function = false;
  parameters = [];
  returns = None;
  variables = [];
  queries = coded ∷ [];
  cursors = [];
  plans = [];
  handlers = record { declared = []; contexts = []; handlers = [] };
  lines = [];
}

pub answers-same : (query : ResolvedQuery) (coded : Query) → SelectStands query coded → (rows : List (List Datum)) → answer (codes.over []) (codes.query_of coded) rows ≡ answer (trees.over []) (trees.query_of query) rows
unfolding only
answers-same query coded q rows =
    let is : IsQuery (only coded) 0 query = query_stands q.made q.is refl in
    ap (λ c. answer (codes.over []) (codes.query_of c) rows) (same_Some coded is.code is.there) ∙ is.same [] rows
