-- What is put together item by item.
use Rattle.std.proofs.Common.{◌≡◌, ℕ, zero, suc, ◌+◌, Bool, true, false, if◌then◌else◌, List, [], ◌∷◌, ◌++◌, Option, Some, None, map, option_map, drop, refl, ap, sym, ◌∙◌, add-one}
use Rattle.std.specs.Prelude.{slice_get}
use Rattle.std.proofs.lemmas.List.{append_assoc, append-nil, map-append}
use Rattle.psm_list.specs.Several.{Several}
use Rattle.psm_value.specs.declared.sqltype.SqlType.{SqlType}
use Rattle.psm_scope.specs.Rows.{columns_known}
use Rattle.psm_scope.specs.Scopes.{Spelling, is_spelled}
use Rattle.psm_scope.specs.Lookup.{named, index_named}
use Rattle.psm_rules.specs.declared.shape.Shape.{Shape}
use Rattle.psm_rules.specs.declared.shape.Typed.{Typed}
use Rattle.psm_rules.specs.Shapes.{joined}
use Rattle.psm_rules.specs.CheckerScope.{Columns}
use Rattle.psm_resolved.specs.declared.expr.ResolvedExpr.{ResolvedExpr}
use Rattle.psm_resolved.specs.declared.expr.ResolvedExpr.TheVariants as exprs
use Rattle.psm_resolved.specs.declared.expr.ResolvedItem.{ResolvedItem}
use Rattle.psm_resolved.specs.declared.expr.ResolvedQuery.{roll-ResolvedQuery}
use Rattle.psm_resolve_expr.specs.declared.resolved.Resolved.{Resolved}
use Rattle.psm_resolve_expr.specs.declared.resolved.ShapedQuery.{ShapedQuery}
use Rattle.psm_resolve_expr.specs.Resolved.{ShapedPick, Values, OfAll, joined_in, sets_in, shape_of_type, values_in}
use Rattle.psm_resolve_expr.specs.Exprs.{case_of, columns_from, columns_in, expr_in, items_of, number_of, optional_in, query_of, result_of_case, shapes_of, shapes_of_else}
use Rattle.psm_resolve_expr.specs.Parts.{Picked, branches_of, case_in, none_picked, query_in, with_pick, with_picks}

-- ---- results

joined-append : (t : Option Typed) (xs ys : List Shape) → joined_in t (xs ++ ys) ≡ joined_in (joined_in t xs) ys
joined-append t [] ys = refl
joined-append t (x ∷ xs) ys = joined-append (joined t x) xs ys

pub case_joined : (operand : Option Resolved) (whens : Several (Resolved × Resolved)) (otherwise : Option Resolved)
    → case_of operand whens otherwise (result_of_case whens otherwise) ≡ case_in operand (branches_of whens) otherwise
case_joined operand whens otherwise =
    ap (case_of operand whens otherwise) (joined-append None (map (λ w. w.1.shape) (whens.first ∷ whens.rest)) (shapes_of_else otherwise))

-- ---- items of a query

-- values and set functions after those that there are
abbrev gathered : Picked → List Resolved → List (ResolvedItem × Shape) → Picked
gathered p resolved sets = record {
  values = p.values ++ map expr_in resolved;
  shapes = p.shapes ++ map (λ m. m.shape) resolved;
  sets = p.sets ++ map (λ s. s.0) sets;
  set_shapes = p.set_shapes ++ map (λ s. s.1) sets;
}

-- the parts of what is picked, one by one
same : (v w : List ResolvedExpr) (a b : List Shape) (s t : List ResolvedItem) (c d : List Shape) → v ≡ w → a ≡ b → s ≡ t → c ≡ d
    → ◌≡◌ {A = Picked} (record { values = v; shapes = a; sets = s; set_shapes = c }) (record { values = w; shapes = b; sets = t; set_shapes = d })
same v w a b s t c d e f g h = cc

more : {A B : Type 0} (f : A → B) (old : List B) (xs ys : List A) → (old ++ map f xs) ++ map f ys ≡ old ++ map f (xs ++ ys)
more f old xs ys = append_assoc old (map f xs) (map f ys) ∙ ap (λ l. old ++ l) (sym (map-append f xs ys))

two_picks : (p : Picked) (xs ys : List Resolved) → with_pick (with_pick p (Values xs)) (Values ys) ≡ with_pick p (Values (xs ++ ys))
two_picks p xs ys = same _ _ _ _ p.sets p.sets p.set_shapes p.set_shapes (more expr_in p.values xs ys) (more (λ m. m.shape) p.shapes xs ys) refl refl

all_gathered : (p : Picked) (picks : List ShapedPick) → with_picks p picks ≡ gathered p (values_in picks) (sets_in picks)
all_gathered p [] = sym (same _ _ _ _ _ _ _ _ (append-nil p.values) (append-nil p.shapes) (append-nil p.sets) (append-nil p.set_shapes))
all_gathered p (Values resolved ∷ picks) =
    all_gathered (with_pick p (Values resolved)) picks
    ∙ same _ _ _ _ _ _ _ _ (more expr_in p.values resolved (values_in picks)) (more (λ m. m.shape) p.shapes resolved (values_in picks)) refl refl
all_gathered p (OfAll item shape ∷ picks) =
    all_gathered (with_pick p (OfAll item shape)) picks
    ∙ same _ _ _ _ _ _ _ _ refl refl (append_assoc p.sets (item ∷ []) (map (λ s. s.0) (sets_in picks))) (append_assoc p.set_shapes (shape ∷ []) (map (λ s. s.1) (sets_in picks)))

-- a query of these values and set functions
abbrev query_with : ℕ → List Resolved → List (ResolvedItem × Shape) → Option Resolved → ShapedQuery
query_with table resolved sets test = record {
  query = roll-ResolvedQuery (record { table = table; downward = false; items = items_of resolved sets; test = optional_in test });
  shapes = shapes_of resolved sets;
}

query_gathered : (table : ℕ) (resolved : List Resolved) (sets : List (ResolvedItem × Shape)) (test : Option Resolved) → query_with table resolved sets test ≡ query_in table (gathered none_picked resolved sets) test
query_gathered table resolved [] test = refl
query_gathered table resolved (s ∷ ss) test = refl

pub picks_gathered : (table : ℕ) (picks : List ShapedPick) (test : Option Resolved) → query_of table picks test ≡ query_in table (with_picks none_picked picks) test
picks_gathered table picks test = query_gathered table (values_in picks) (sets_in picks) test ∙ ap (λ p. query_in table p test) (sym (all_gathered none_picked picks))

-- ---- all columns one by one

abbrev column : ℕ → Option SqlType → Resolved
column i kind = record { expr = exprs.Column i; shape = shape_of_type kind }

column_there : (i : ℕ) (columns : Columns) (n : ℕ) (kind : Option SqlType) → option_map (λ p. p.1) (slice_get columns n) ≡ Some kind
    → columns_from i (drop n columns) ≡ column i kind ∷ columns_from (suc i) (drop (suc n) columns)
column_there i [] n kind e = cc
column_there i (c ∷ cs) zero kind e = let h : c.1 ≡ kind = cc in ap (λ k. column i k ∷ columns_from (suc i) cs) h
column_there i (c ∷ cs) (suc n) kind e = column_there i cs n kind e

pub columns_step : (old new : Picked) (columns : Columns) (n : ℕ) (kind : Option SqlType)
    → option_map (λ p. p.1) (slice_get columns n) ≡ Some kind → new ≡ with_pick old (Values (column n kind ∷ []))
    → with_pick new (Values (columns_from (n + 1) (drop (n + 1) columns))) ≡ with_pick old (Values (columns_from n (drop n columns)))
columns_step old new columns n kind e w =
    ap (λ p. with_pick p (Values (columns_from (n + 1) (drop (n + 1) columns)))) w
    ∙ two_picks old (column n kind ∷ []) (columns_from (n + 1) (drop (n + 1) columns))
    ∙ ap (λ k. with_pick old (Values (column n kind ∷ columns_from k (drop k columns)))) (add-one n)
    ∙ ap (λ ms. with_pick old (Values ms)) (sym (column_there n columns n kind e))

-- ---- tables

pub columns_placed : (i : ℕ) (n : Spelling) (tables : List (Spelling × Columns)) → columns_known (named n tables) ≡ columns_in (index_named i n tables)
columns_placed i n [] = refl
columns_placed i n (t ∷ tables) = by (is_spelled n t.0) (columns_placed (suc i) n tables)
  where
    by : (b : Bool) → columns_known (named n tables) ≡ columns_in (index_named (suc i) n tables)
        → columns_known (if b then Some t.1 else named n tables) ≡ columns_in (if b then Some (i, t.1) else index_named (suc i) n tables)
    by true rec = refl
    by false rec = rec

pub number_unknown : (o : Option (ℕ × Columns)) → None ≡ option_map {T = ℕ × Columns} {U = ℕ} (λ p. p.0) o → 0 ≡ number_of o
number_unknown None e = refl
number_unknown (Some t) e = cc

pub number_known : (k : ℕ) (o : Option (ℕ × Columns)) → Some k ≡ option_map {T = ℕ × Columns} {U = ℕ} (λ p. p.0) o → k ≡ number_of o
number_known k None e = cc
number_known k (Some t) e = cc
