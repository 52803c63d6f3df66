-- An order against the key of a table.
use Rattle.std.proofs.Common.{suc, ◌≡◌, ◌≢◌, Bool, true, false, ◌&&◌, List, [], ◌∷◌, length, map, refl, ap, sym, ◌∙◌}
use Rattle.std.specs.Prelude.{Option, Some, option_map, if◌then◌else◌}
use Rattle.psm_scope.specs.Scopes.{Spelling, is_spelled}
use Rattle.psm_scope.specs.Lookup.{named}
use Rattle.psm_tree.specs.declared.name.Identifier.{Identifier}
use Rattle.psm_tree.specs.declared.statement.OrderColumn.{OrderColumn}
use Rattle.psm_tree.specs.declared.statement.Order.{Order}
use Rattle.psm_rules.specs.BlockFaults.{order_of, same_names}
use Rattle.psm_check_expr.specs.Keys.{key_names}
use Rattle.psm_check_expr.specs.declared.symbols.Key.{Key}

and_false : (a b : Bool) → b ≡ false → false ≡ (a && b)
and_false true b e = sym e
and_false false b e = refl

pub names_differ : (names : List Identifier) (columns : List OrderColumn) → length names ≢ length columns → false ≡ same_names (map (λ n. n.name) names) (map (λ c. c.column.name) columns)
names_differ [] [] h = absurd (h refl)
names_differ [] (c ∷ cs) h = refl
names_differ (n ∷ ns) [] h = refl
names_differ (n ∷ ns) (c ∷ cs) h = and_false (is_spelled n.name c.column.name) (same_names (map (λ n. n.name) ns) (map (λ c. c.column.name) cs)) (sym (names_differ ns cs (λ e. h (ap suc e))))

-- ---- the keys as they are kept

named_key : (n : Spelling) (keys : List (Spelling × Key)) → named n (map (λ p. (p.0, key_names p.1)) keys) ≡ option_map {T = Key} {U = List Spelling} key_names (named n keys)
named_key n [] = refl
named_key n (p ∷ more) = by (is_spelled n p.0) (named_key n more)
  where
    by : (b : Bool) → named n (map (λ p. (p.0, key_names p.1)) more) ≡ option_map {T = Key} {U = List Spelling} key_names (named n more)
        → ◌≡◌ {A = Option (List Spelling)} (if b then Some (key_names p.1) else named n (map (λ p. (p.0, key_names p.1)) more)) (option_map {T = Key} {U = List Spelling} key_names (if b then Some p.1 else named n more))
    by true e = refl
    by false e = e

pub kept_order : (n : Spelling) (keys : List (Spelling × Key)) (order : Order) (checked : Option Key) → checked ≡ named n keys
    → order_of (named n (map (λ p. (p.0, key_names p.1)) keys)) order ≡ order_of (option_map {T = Key} {U = List Spelling} key_names checked) order
kept_order n keys order checked e = ap (λ k. order_of k order) (named_key n keys ∙ ap (option_map {T = Key} {U = List Spelling} key_names) (sym e))
