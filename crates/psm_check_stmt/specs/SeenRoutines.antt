-- The routines so far, as they are kept.
use Rattle.std.specs.Prelude.{◌≡◌, Bool, ◌&&◌, nat_eq, List, length}
use Rattle.std.specs.List.{list_any}
use Rattle.std.specs.Cmp.Lexicographic.{pointwise}
use Rattle.std.specs.Cow.{cow_slice_items}
use Rattle.psm_scope.specs.Scopes.{is_spelled}
use Rattle.psm_scope.specs.KindNumbers.{is_kind}
use Rattle.psm_scope.specs.declared.key.CallKey.{CallKey}
use Rattle.psm_scope.specs.declared.key.FunctionKey.{FunctionKey}
use Rattle.psm_tree.specs.declared.file.Routine.{Routine}
use Rattle.psm_rules.specs.FileFaults.{kinds_of, repeats_function, repeats_procedure}

-- the key of a function
abbrev pub IsFunctionKey : Routine → FunctionKey → Type 0
IsFunctionKey r k = (k.name.name.now ≡ r.name.name) × (cow_slice_items k.kinds ≡ kinds_of r)

-- whether a key is as a routine's
abbrev pub is_function_key : Routine → FunctionKey → Bool
is_function_key r k = is_spelled r.name.name k.name.name.now && pointwise is_kind (kinds_of r) (cow_slice_items k.kinds)

abbrev pub is_procedure_key : Routine → CallKey → Bool
is_procedure_key r k = is_spelled r.name.name k.name.name.now && nat_eq (length r.parameters) k.count

-- exactly the routines so far are kept
pub record AreSeen (functions : List FunctionKey) (procedures : List CallKey) (before : List Routine) : Type 0 where
  pub of_functions : (r : Routine) → list_any (is_function_key r) functions ≡ repeats_function before r
  pub of_procedures : (r : Routine) → list_any (is_procedure_key r) procedures ≡ repeats_procedure before r
