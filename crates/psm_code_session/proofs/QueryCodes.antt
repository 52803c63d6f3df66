-- Each query has code, which fits the columns of its table whatever the query's expressions are, and does what the query does where these
-- are of letters.
use Rattle.std.proofs.Common.{◌≡◌, Bool, true, false, List, [], ◌∷◌, Option, Some, None, refl, sym, ◌∙◌}
use Rattle.std.specs.List.{list_all}
use Rattle.std.proofs.lemmas.Bool.{false≢true}
use Rattle.psm_num.proofs.Literals.{and_first, and_second}
use Rattle.psm_exprcode.specs.declared.aggregate.Aggregate.{Aggregate}
use Rattle.psm_exprcode.specs.declared.items.Items.{Items}
use Rattle.psm_exprcode.specs.declared.items.Items.TheVariants as coded
use Rattle.psm_exprcode.specs.declared.op.Letter.{Letter}
use Rattle.psm_exprcode.specs.declared.op.Letter.TheVariants.{B}
use Rattle.psm_exprcode.specs.declared.op.Line.{Line}
use Rattle.psm_exprcode.specs.declared.query.Query.{Query}
use Rattle.psm_resolved.specs.declared.expr.ResolvedExpr.{ResolvedExpr}
use Rattle.psm_resolved.specs.declared.expr.ResolvedExpr.TheOpen as layers
use Rattle.psm_resolved.specs.declared.expr.ResolvedItem.{ResolvedItem, out-ResolvedItem}
use Rattle.psm_resolved.specs.declared.expr.ResolvedItems.{out-ResolvedItems}
use Rattle.psm_resolved.specs.declared.expr.ResolvedQuery.{ResolvedQuery, out-ResolvedQuery}
use Rattle.psm_resolved.specs.RowType.{goes_as, row_type_of}
use Rattle.psm_exprgen.specs.declared.known.Known.{Known}
use Rattle.psm_exprgen.specs.Nulls.{null_lines}
use Rattle.psm_exprgen.specs.Queries.{AggregatesAre, AggregatesFit, ExprFits, ExprIs, ExprsAre, ExprsFit, FitsAs, ItemsAre, ItemsFit, Layer, OperandFits, PerhapsIs, QueryMade, RowTestFits, are_items, is_test_perhaps, is_value_of, is_value_perhaps, letter_of_row_type}
use Rattle.psm_exprgen.specs.Written.{letters_at}
use Rattle.psm_exprgen.proofs.ExprLetters.{null_fits, test_goes, value_goes}
use Rattle.psm_code_session.proofs.RowLines.{row_code_exists}

module _ (columns variables : List Letter) where
  -- ---- expressions

  -- code of that letter: that of NULL, where the expression isn't of it
  row_code : (e : ResolvedExpr) (k : Letter) → (lines : List Line) × FitsAs columns variables k lines × (goes_as k (row_type_of columns variables e) ≡ true → ExprIs e lines)
  row_code e k = by (goes_as k (row_type_of columns variables e)) refl
    where
      by : (b : Bool) → goes_as k (row_type_of columns variables e) ≡ b → (lines : List Line) × FitsAs columns variables k lines × (goes_as k (row_type_of columns variables e) ≡ true → ExprIs e lines)
      by true h = let c = row_code_exists columns variables e k h in (c.0, c.1.fits, λ g. c.1.value)
      by false h = (null_lines k, null_fits columns variables k, λ g. absurd (false≢true (sym h ∙ g)))

  value_code : (e : ResolvedExpr) → (lines : List Line) × ExprFits columns variables e lines × (is_value_of columns variables e ≡ true → ExprIs e lines)
  value_code e = let c = row_code e (letter_of_row_type (row_type_of columns variables e)) in (c.0, c.1, λ h. c.2 (value_goes (row_type_of columns variables e) h))

  values_code : (es : List ResolvedExpr) → (codes : List (List Line)) × ExprsFit columns variables es codes × (list_all (is_value_of columns variables) es ≡ true → ExprsAre es codes)
  values_code [] = ([], tt, λ h. tt)
  values_code (e ∷ es) =
      let c = value_code e in
      let others = values_code es in
      let one : Bool = is_value_of columns variables e in
      let more : Bool = list_all (is_value_of columns variables) es in
      (c.0 ∷ others.0, (c.1, others.1), λ h. (c.2 (and_first one more h), others.2 (and_second one more h)))

  operand_code : (e : Option ResolvedExpr) → (code : Option (List Line)) × OperandFits columns variables e code × (is_value_perhaps columns variables e ≡ true → PerhapsIs e code)
  operand_code None = (None, tt, λ h. tt)
  operand_code (Some e) = let c = value_code e in (Some c.0, c.1, c.2)

  test_code : (e : Option ResolvedExpr) → (code : Option (List Line)) × RowTestFits columns variables e code × (is_test_perhaps columns variables e ≡ true → PerhapsIs e code)
  test_code None = (None, tt, λ h. tt)
  test_code (Some e) = let c = row_code e B in (Some c.0, c.1, λ h. c.2 (test_goes (row_type_of columns variables e) h))

  -- ---- items

  abbrev may_be_value : ResolvedItem → Bool
  may_be_value i = is_value_perhaps columns variables (out-ResolvedItem i).operand

  aggregates_code : (is : List ResolvedItem) → (codes : List Aggregate) × AggregatesFit columns variables is codes × (list_all may_be_value is ≡ true → AggregatesAre is codes)
  aggregates_code [] = ([], tt, λ h. tt)
  aggregates_code (i ∷ is) =
      let c = operand_code (out-ResolvedItem i).operand in
      let others = aggregates_code is in
      let aggregate : Aggregate = record { function = (out-ResolvedItem i).function; operand = c.0 } in
      let one : Bool = may_be_value i in
      let more : Bool = list_all may_be_value is in
      (aggregate ∷ others.0, (refl, c.1, others.1), λ h. (refl, c.2 (and_first one more h), others.2 (and_second one more h)))

  items_code : (layer : Layer) → (code : Items) × ItemsFit columns variables layer code × (are_items columns variables layer ≡ true → ItemsAre layer code)
  items_code (layers.Rows es) = let c = values_code es in (coded.Rows c.0, c.1, c.2)
  items_code (layers.Sets is) = let c = aggregates_code is in (coded.Sets c.0, c.1, c.2)

-- ---- queries

pub query_code : (known : Known) (query : ResolvedQuery) → (code : Query) × QueryMade known query code
query_code known query =
    let q = out-ResolvedQuery query in
    let columns : List Letter = letters_at known.columns q.table in
    let items = items_code columns known.variables (out-ResolvedItems q.items) in
    let test = test_code columns known.variables q.test in
    let all : Bool = are_items columns known.variables (out-ResolvedItems q.items) in
    let tested : Bool = is_test_perhaps columns known.variables q.test in (
      record { table = q.table; downward = q.downward; items = items.0; test = test.0 },
      record {
        table = refl;
        is = λ h. record { downward = refl; items = items.2 (and_first all tested h); test = test.2 (and_second all tested h) };
        items_fit = items.1;
        test_fits = test.1;
      },
    )
