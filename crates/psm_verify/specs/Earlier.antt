-- What is said of an item of a list and of those before it: none of them may be the same.
use Rattle.std.specs.Prelude.{ℕ, Bool, List, map, nat_eq, slice_get, take}
use Rattle.std.specs.List.{flat_map}
use Rattle.psm_exprcode.specs.declared.set_item.SetItem.{SetItem}
use Rattle.psm_table.specs.declared.definition.Column.{Column}
use Rattle.psm_cond.specs.declared.handlers.Handler.{Handler}
use Rattle.psm_code.specs.declared.code.CodeTable.{CodeTable}
use Rattle.psm_code.specs.declared.code.Parameter.{Parameter}
use Rattle.psm_code.specs.declared.code.RawRoutine.{RawRoutine}
use Rattle.psm_code.specs.Rules.{is_same, where_there}
use Rattle.psm_keys.specs.Fresh.{is_new}
use Rattle.psm_keys.specs.Handled.{are_all_new, handled_by}
use Rattle.psm_keys.specs.Signature.{is_same_signature, signature_of}

abbrev pub is_new_table : List CodeTable → CodeTable → Bool
is_new_table before t = is_new is_same t.definition.name (map (λ u. u.definition.name) before)

abbrev pub is_new_column : List Column → Column → Bool
is_new_column before c = is_new is_same c.name (map (λ d. d.name) before)

abbrev pub is_new_set : List SetItem → SetItem → Bool
is_new_set before s = is_new nat_eq s.column (map (λ b. b.column) before)

abbrev pub is_new_parameter : List Parameter → Parameter → Bool
is_new_parameter before p = is_new is_same p.name (map (λ q. q.name) before)

abbrev pub is_new_routine : List RawRoutine → RawRoutine → Bool
is_new_routine before r = is_new is_same_signature (signature_of r) (map signature_of before)

abbrev pub are_new_values : List Handler → Handler → Bool
are_new_values before h = are_all_new (flat_map handled_by before) (handled_by h)

-- the same of the item at an index, if there is one
abbrev pub at_index : {A : Type 0} → (List A → A → Bool) → List A → ℕ → Bool
at_index f xs at = where_there (slice_get xs at) (f (take at xs))
