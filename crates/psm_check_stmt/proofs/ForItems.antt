-- The layers of items and of names, and scopes with the variables of items.
use Rattle.std.proofs.Common.{◌≡◌, ℕ, ◌<◌, ◌+◌, suc, true, List, [], ◌∷◌, length, get_or, drop, Option, Some, None, map, option_map, refl, ap, sym, ◌∙◌, add-one, zero, arith}
use Rattle.std.specs.Prelude.{slice_get}
use Rattle.psm_scope.specs.Rows.{columns_known}
use Rattle.psm_scope.proofs.Lists.{dropped}
use Rattle.psm_value.specs.declared.sqltype.SqlType.{SqlType}
use Rattle.psm_scope.specs.Scopes.{Spelling}
use Rattle.psm_scope.specs.KeptScopes.{can_declare_here, declared_here, redeclared}
use Rattle.psm_scope.specs.declared.known.Variable.{Variable}
use Rattle.psm_tree.specs.declared.expr.Expr.TheVariants as exprs
use Rattle.psm_tree.specs.declared.expr.Pick.TheVariants as picked
use Rattle.psm_scope.specs.Lookup.{RowTable}
use Rattle.psm_tree.specs.declared.expr.Pick.{Pick}
use Rattle.psm_tree.specs.declared.expr.Select.{Select, out-Select}
use Rattle.psm_rules.specs.CheckerScope.{Columns, Scopes, CheckerScope, on_row}
use Rattle.psm_rules.specs.StatementFaults.{several}
use Rattle.psm_rules.specs.ExprFaults.{QueryChecked, check_pick, check_query, row_of, seen, spelling}
use Rattle.psm_rules.specs.BlockFaults.{declared_once, local_variable, with_columns, with_variable}
use Rattle.psm_check_stmt.specs.ForItems.{variables_here, with_variables_here}
use Rattle.psm_check_expr.proofs.Equations.{checked_columns, checked_query}
use Rattle.psm_rules.proofs.Innermost.{declared_again, declared_now}

pub ruleset pick_layers = (picked.outs-All, picked.outs-Expr, picked.outs-CountRows, picked.outs-Aggregate)

pub ruleset expr_layers = (exprs.outs-Null, exprs.outs-Number, exprs.outs-Text, exprs.outs-Name, exprs.outs-LogicalOperator, exprs.outs-Not, exprs.outs-Compare, exprs.outs-IsNull, exprs.outs-Between, exprs.outs-In, exprs.outs-Like, exprs.outs-OperatorChain, exprs.outs-Signed, exprs.outs-Call, exprs.outs-Parenthesized, exprs.outs-Subquery, exprs.outs-Exists, exprs.outs-Case, exprs.outs-Cast, exprs.outs-Coalesce, exprs.outs-NullIf, exprs.outs-Function, exprs.outs-Position, exprs.outs-Substring, exprs.outs-Trim)

-- ---- an item after the first

met_at : {A B C : Type 0} (f : A → C) (g : B → C) (xs : List A) (zs : List B) (k : ℕ) (x : A) (z : B)
    → map f xs ≡ map g zs → k < length zs → x ≡ get_or xs k x → z ≡ get_or zs k z → f x ≡ g z
met_at f g xs [] k x z e lt p q = absurd (omega (arith, lt))
met_at f g [] (w ∷ ws) k x z e lt p q = cc
met_at f g (v ∷ vs) (w ∷ ws) zero x z e lt p q = let h : f v ≡ g w = cc in ap f p ∙ h ∙ sym (ap g q)
met_at f g (v ∷ vs) (w ∷ ws) (suc k) x z e lt p q = let h : map f vs ≡ map g ws = cc in met_at f g vs ws k x z h (omega (arith, lt)) p q

pub picked_at : {A B C : Type 0} (f : A → C) (g : B → C) (xs : List A) (y : B) (ys others : List B) (k : ℕ) (x : A) (z : B)
    → map f xs ≡ map g (y ∷ ys) → others ≡ ys → k < length others → x ≡ get_or xs (k + 1) x → z ≡ get_or others k z → f x ≡ g z
picked_at f g xs y ys others k x z e o lt p q =
    let n : length others ≡ length ys = ap length o in
    let h : suc k < length (y ∷ ys) = omega (arith, lt, n) in
    met_at f g xs (y ∷ ys) (suc k) x z e h (rw add-one at p) (q ∙ ap (λ l. get_or l k z) o)

-- ---- a column

column_at : (columns : Columns) (k : ℕ) (name : Spelling) (kind : Option SqlType)
    → option_map (λ p. p.0) (slice_get columns k) ≡ Some name → option_map (λ p. p.1) (slice_get columns k) ≡ Some kind → drop k columns ≡ (name, kind) ∷ drop (k + 1) columns
column_at columns k name kind n t = rw add-one (dropped columns (name, kind) k (both (slice_get columns k) n t))
  where
    both : (o : Option (Spelling × Option SqlType)) → option_map (λ p. p.0) o ≡ Some name → option_map (λ p. p.1) o ≡ Some kind → o ≡ Some (name, kind)
    both None n t = cc
    both (Some p) n t = let h : p.0 ≡ name = cc in let j : p.1 ≡ kind = cc in ap (λ a. Some (a, p.1)) h ∙ ap (λ b. Some (name, b)) j

-- ---- what is found in the query

-- on the rows of its table
abbrev pub inside : Select → CheckerScope → CheckerScope
inside select checker_scope = let s = out-Select select in on_row checker_scope (row_of checker_scope s.table s.alias)

seen_all : (checker_scope : CheckerScope) (ps : List Pick) → seen checker_scope (map check_pick ps) ≡ map (λ p. check_pick p checker_scope) ps
seen_all checker_scope [] = refl
seen_all checker_scope (p ∷ ps) = ap (λ l. check_pick p checker_scope ∷ l) (seen_all checker_scope ps)

pub checked_picks : (select : Select) (checker_scope on : CheckerScope) (q : QueryChecked) → q ≡ check_query select checker_scope → on ≡ inside select checker_scope → q.picks ≡ map (λ p. check_pick p on) (several (out-Select select).picks)
checked_picks select checker_scope on q e i =
    let s = out-Select select in
    ap (λ q. q.picks) (e ∙ checked_query select checker_scope)
    ∙ ap (λ l. check_pick s.picks.first (inside select checker_scope) ∷ l) (seen_all (inside select checker_scope) s.picks.rest)
    ∙ ap (λ v. map (λ p. check_pick p v) (several s.picks)) (sym i)

pub checked_inside : (select : Select) (checker_scope on : CheckerScope) (q : QueryChecked) (row : RowTable (Option SqlType)) → q ≡ check_query select checker_scope
    → row ≡ record { name = (out-Select select).table.name; alias = spelling (out-Select select).alias; columns = columns_known q.columns } → on ≡ on_row checker_scope row → on ≡ inside select checker_scope
checked_inside select checker_scope on q row e r o =
    let s = out-Select select in
    o ∙ ap (on_row checker_scope) r ∙ ap (λ columns. on_row checker_scope (record { name = s.table.name; alias = spelling s.alias; columns = columns_known columns })) (ap (λ q. q.columns) e ∙ checked_columns select checker_scope)

-- ---- the variables of the innermost scope

-- more variables on scopes that have other ones
variables_again : (scopes : Scopes) (vs : List (Spelling × Variable)) (more : List (Spelling × Variable) → List (Spelling × Variable)) → can_declare_here scopes ≡ true
    → with_variables_here (with_variables_here scopes vs) (more (variables_here (with_variables_here scopes vs))) ≡ with_variables_here scopes (more vs)
variables_again scopes vs more h =
    let d = record (declared_here scopes) { variables = vs } in
    let e = declared_now scopes d h in
    ap (λ d. redeclared (redeclared scopes (record (declared_here scopes) { variables = vs })) (record d { variables = more d.variables })) e
    ∙ declared_again scopes d (record d { variables = more vs })

pub columns_next : (start scopes new : Scopes) (columns : Columns) (k : ℕ) (name : Spelling) (kind : Option SqlType) → can_declare_here scopes ≡ true
    → option_map (λ p. p.0) (slice_get columns k) ≡ Some name → option_map (λ p. p.1) (slice_get columns k) ≡ Some kind → new ≡ with_variable scopes name (local_variable kind)
    → with_variables_here scopes (with_columns (variables_here scopes) (drop k columns)) ≡ start → with_variables_here new (with_columns (variables_here new) (drop (k + 1) columns)) ≡ start
columns_next start scopes new columns k name kind can n t e so_far =
    ap (λ f. with_variables_here f (with_columns (variables_here f) (drop (k + 1) columns))) e
    ∙ variables_again scopes (declared_once (variables_here scopes) name (local_variable kind)) (λ vs. with_columns vs (drop (k + 1) columns)) can
    ∙ ap (λ l. with_variables_here scopes (with_columns (variables_here scopes) l)) (sym (column_at columns k name kind n t))
    ∙ so_far
