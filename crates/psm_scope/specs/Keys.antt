-- What the keys of maps compare.
use Rattle.std.specs.Prelude.{Bool, ◌&&◌, nat_eq}
use Rattle.std.specs.Cmp.Lexicographic.{pointwise}
use Rattle.std.specs.Cow.{cow_slice_items}
use Rattle.psm_scope.specs.declared.key.CallKey.{CallKey}
use Rattle.psm_scope.specs.declared.key.FunctionKey.{FunctionKey}
use Rattle.psm_scope.specs.KindNumbers.{is_kind}

-- two keys are the same call
abbrev pub same_call : CallKey → CallKey → Bool
same_call a b = pointwise nat_eq a.name.name.now b.name.name.now && nat_eq a.count b.count

-- two keys are the same name and kinds
abbrev pub same_function : FunctionKey → FunctionKey → Bool
same_function a b = pointwise nat_eq a.name.name.now b.name.name.now && pointwise is_kind (cow_slice_items a.kinds) (cow_slice_items b.kinds)
