-- Columns one by one.
use Rattle.std.proofs.Common.{◌≡◌, ℕ, zero, suc, ◌+◌, List, [], ◌∷◌, ◌++◌, Option, Some, option_map, drop, ap, sym, ◌∙◌, add-one}
use Rattle.std.specs.Prelude.{slice_get}
use Rattle.std.proofs.lemmas.List.{append_assoc}
use Rattle.psm_value.specs.declared.sqltype.SqlType.{SqlType}
use Rattle.psm_scope.specs.Scopes.{Spelling}
use Rattle.psm_rules.specs.CheckerScope.{Columns}
use Rattle.psm_resolve_expr.specs.Exprs.{type_known}
use Rattle.psm_resolve.specs.Blocks.{ForItem, column_items}

item_there : (columns : Columns) (n : ℕ) (name : Spelling) (kind : Option SqlType)
    → option_map (λ p. p.0) (slice_get columns n) ≡ Some name → option_map (λ p. p.1) (slice_get columns n) ≡ Some kind
    → column_items (drop n columns) ≡ (Some name, type_known kind) ∷ column_items (drop (suc n) columns)
item_there [] n name kind e f = cc
item_there (c ∷ cs) zero name kind e f = let g : c.0 ≡ name = cc in let h : c.1 ≡ kind = cc in
    ap (λ a. (Some a, type_known c.1) ∷ column_items cs) g ∙ ap (λ k. (Some name, type_known k) ∷ column_items cs) h
item_there (c ∷ cs) (suc n) name kind e f = item_there cs n name kind e f

pub items_step : (old new : List ForItem) (columns : Columns) (n : ℕ) (name : Spelling) (kind : Option SqlType)
    → option_map (λ p. p.0) (slice_get columns n) ≡ Some name → option_map (λ p. p.1) (slice_get columns n) ≡ Some kind → new ≡ old ++ (Some name, type_known kind) ∷ []
    → new ++ column_items (drop (n + 1) columns) ≡ old ++ column_items (drop n columns)
items_step old new columns n name kind e f w =
    ap (λ l. l ++ column_items (drop (n + 1) columns)) w
    ∙ append_assoc old ((Some name, type_known kind) ∷ []) (column_items (drop (n + 1) columns))
    ∙ ap (λ k. old ++ (Some name, type_known kind) ∷ column_items (drop k columns)) (add-one n)
    ∙ ap (λ l. old ++ l) (sym (item_there columns n name kind e f))
