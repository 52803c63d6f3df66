-- An order against the key of a table.
use Rattle.std.proofs.Common.{suc, ◌≡◌, ◌≢◌, Bool, true, false, ◌&&◌, List, [], ◌∷◌, length, map, refl, ap, sym}
use Rattle.psm_scope.specs.Scopes.{Spelling, is_spelled}
use Rattle.psm_tree.specs.declared.statement.OrderColumn.{OrderColumn}
use Rattle.psm_rules.specs.BlockFaults.{same_names}

and_false : (a b : Bool) → b ≡ false → false ≡ (a && b)
and_false true b e = sym e
and_false false b e = refl

pub names_differ : {A : Type 0} (f : A → Spelling) (names : List A) (columns : List OrderColumn) → length names ≢ length columns → false ≡ same_names (map f names) (map (λ c. c.column.name) columns)
names_differ f [] [] h = absurd (h refl)
names_differ f [] (c ∷ cs) h = refl
names_differ f (n ∷ ns) [] h = refl
names_differ f (n ∷ ns) (c ∷ cs) h = and_false (is_spelled (f n) c.column.name) (same_names (map f ns) (map (λ c. c.column.name) cs)) (sym (names_differ f ns cs (λ e. h (ap suc e))))
