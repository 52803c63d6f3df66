-- The code of expressions, one after another.
use Rattle.std.proofs.Common.{◌≡◌, ℕ, ◌+◌, ◌<◌, Bool, true, List, [], ◌∷◌, ◌++◌, length, get_or, Option}
use Rattle.psm_exprcode.specs.declared.aggregate.Aggregate.{Aggregate}
use Rattle.psm_exprcode.specs.declared.op.Letter.{Letter}
use Rattle.psm_exprcode.specs.declared.op.Line.{Line}
use Rattle.psm_exprcode.specs.declared.set_item.SetItem.{SetItem}
use Rattle.psm_resolved.specs.declared.expr.ResolvedExpr.{ResolvedExpr}
use Rattle.psm_resolved.specs.declared.expr.ResolvedItem.{ResolvedItem, out-ResolvedItem}
use Rattle.psm_resolved.specs.declared.file.ResolvedTable.{ResolvedTable}
use Rattle.psm_resolved.specs.declared.statement.ResolvedSet.{ResolvedSet}
use Rattle.psm_code.specs.declared.code.CodeTable.{CodeTable}
use Rattle.psm_exprgen.specs.Queries.{AggregatesAre, ExprIs, ExprsAre, PerhapsIs, RowTestsFit, SetsAre, TableMade, TablesMade}
use Rattle.psm_exprgen.proofs.Lists.{Makes, Where, makes_all, makes_next, where_next}

pub exprs_next : (test : ResolvedExpr → Bool) (xs : List ResolvedExpr) (at : ℕ) (a : ResolvedExpr) (done : List (List Line)) (b : List Line) (next : List (List Line))
    → (test a ≡ true → ExprIs a b) → at < length xs → a ≡ get_or xs at a → next ≡ done ++ b ∷ [] → Makes (Where test ExprsAre) xs at done → Makes (Where test ExprsAre) xs (at + 1) next
exprs_next test xs at a done b next i l e n h = makes_next (Where test ExprsAre) xs at a done b next (where_next test ExprIs ExprsAre a b (λ others more x y. (x, y)) i) l e n h

pub exprs_all : (test : ResolvedExpr → Bool) (xs es : List ResolvedExpr) (at : ℕ) (done result : List (List Line))
    → es ≡ xs → at ≡ length xs → result ≡ done → Makes (Where test ExprsAre) xs at done → Where test ExprsAre es result
exprs_all test xs es at done result e n r h = makes_all (Where test ExprsAre) xs es at done result e n r (λ t. tt) h

-- tests that fit, one for each expression
abbrev pub RowTestsMade : List Letter → List Letter → List ResolvedExpr → List (List Line) → Type 0
RowTestsMade columns variables es cs = RowTestsFit columns variables cs

-- ---- set functions

pub aggregates_next : (test : Option ResolvedExpr → Bool) (xs : List ResolvedItem) (at : ℕ) (a : ResolvedItem) (done : List Aggregate) (b : Aggregate) (next : List Aggregate)
    → b.function ≡ (out-ResolvedItem a).function → (test (out-ResolvedItem a).operand ≡ true → PerhapsIs (out-ResolvedItem a).operand b.operand)
    → at < length xs → a ≡ get_or xs at a → next ≡ done ++ b ∷ [] → Makes (Where (λ i. test (out-ResolvedItem i).operand) AggregatesAre) xs at done
    → Makes (Where (λ i. test (out-ResolvedItem i).operand) AggregatesAre) xs (at + 1) next
aggregates_next test xs at a done b next f i l e n h =
    makes_next (Where (λ i. test (out-ResolvedItem i).operand) AggregatesAre) xs at a done b next
    (where_next (λ i. test (out-ResolvedItem i).operand) (λ i c. PerhapsIs (out-ResolvedItem i).operand c.operand) AggregatesAre a b (λ others more x y. (f, x, y)) i) l e n h

pub aggregates_all : (test : Option ResolvedExpr → Bool) (xs is : List ResolvedItem) (at : ℕ) (done result : List Aggregate)
    → is ≡ xs → at ≡ length xs → result ≡ done → Makes (Where (λ i. test (out-ResolvedItem i).operand) AggregatesAre) xs at done
    → Where (λ i. test (out-ResolvedItem i).operand) AggregatesAre is result
aggregates_all test xs is at done result e n r h = makes_all (Where (λ i. test (out-ResolvedItem i).operand) AggregatesAre) xs is at done result e n r (λ t. tt) h

-- ---- columns that are set

pub sets_next : (test : ResolvedSet → Bool) (xs : List ResolvedSet) (at : ℕ) (a : ResolvedSet) (done : List SetItem) (b : SetItem) (next : List SetItem)
    → b.column ≡ a.column → (test a ≡ true → ExprIs a.source b.source) → at < length xs → a ≡ get_or xs at a → next ≡ done ++ b ∷ []
    → Makes (Where test SetsAre) xs at done → Makes (Where test SetsAre) xs (at + 1) next
sets_next test xs at a done b next f i l e n h =
    makes_next (Where test SetsAre) xs at a done b next (where_next test (λ s c. ExprIs s.source c.source) SetsAre a b (λ others more x y. (f, x, y)) i) l e n h

pub sets_all : (test : ResolvedSet → Bool) (xs sets : List ResolvedSet) (at : ℕ) (done result : List SetItem)
    → sets ≡ xs → at ≡ length xs → result ≡ done → Makes (Where test SetsAre) xs at done → Where test SetsAre sets result
sets_all test xs sets at done result e n r h = makes_all (Where test SetsAre) xs sets at done result e n r (λ t. tt) h

-- ---- tables

pub tables_next : (xs : List ResolvedTable) (at : ℕ) (a : ResolvedTable) (done : List CodeTable) (b : CodeTable) (next : List CodeTable)
    → TableMade a b → at < length xs → a ≡ get_or xs at a → next ≡ done ++ b ∷ [] → Makes TablesMade xs at done → Makes TablesMade xs (at + 1) next
tables_next xs at a done b next i l e n h = makes_next TablesMade xs at a done b next (λ others more m. (i, m)) l e n h

pub tables_all : (xs tables : List ResolvedTable) (at : ℕ) (done result : List CodeTable)
    → tables ≡ xs → at ≡ length xs → result ≡ done → Makes TablesMade xs at done → TablesMade tables result
tables_all xs tables at done result e n r h = makes_all TablesMade xs tables at done result e n r tt h
