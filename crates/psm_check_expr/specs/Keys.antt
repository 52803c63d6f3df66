-- The names of a key's columns.
use Rattle.std.specs.Prelude.{List, [], ◌∷◌, map}
use Rattle.psm_scope.specs.Scopes.{Spelling}
use Rattle.psm_check_expr.specs.declared.symbols.Key.{Key}
use Rattle.psm_check_expr.specs.declared.symbols.Key.TheVariants as keys

abbrev pub key_names : Key → List Spelling
key_names keys.None = []
key_names (keys.Column column) = column.now.name ∷ []
key_names (keys.Rule names) = names.now.first.name ∷ map (λ n. n.name) names.now.rest
