-- What is found in a part of an expression: its place, the first fault in it, and its shape, which a part that has a fault
-- in it, or that is declared with a type at fault, doesn't have.
use Rattle.std.specs.Prelude.{◌≡◌, Bool, ◌&&◌, Option, Some, None, List, ◌∷◌, map, is_some, if◌then◌else◌}
use Rattle.std.specs.List.{list_all}
use Rattle.psm_token.specs.declared.place.Place.{Place}
use Rattle.psm_rules.specs.declared.fault.Fault.{Fault}
use Rattle.psm_rules.specs.declared.checked.Checked.{Checked}
use Rattle.psm_rules.specs.declared.rule.Rule.{Rule}
use Rattle.psm_rules.specs.declared.rule.Rule.TheVariants.{Misplaced, FamiliesMixed}
use Rattle.psm_rules.specs.Faults.{breaks, first_of}
use Rattle.psm_rules.specs.declared.shape.Shape.{Shape}
use Rattle.psm_rules.specs.declared.shape.Family.{Family}
use Rattle.psm_rules.specs.declared.shape.Shape.TheVariants.{Value, Untyped, Condition}
use Rattle.psm_rules.specs.Shapes.{is_of}

-- a part without a fault
abbrev pub well_typed : Place → Shape → Checked
well_typed place shape = record { place = place; fault = None; shape = Some shape }

-- a part that breaks a rule itself
abbrev pub broken : Rule → Place → Checked
broken rule place = record { place = place; fault = breaks rule place; shape = None }

-- ---- the sort that is due

-- a condition in the place of a value is a part at fault, and so is a value in the place of a condition
abbrev pub value_shape : Place → Shape → Checked
value_shape place (Value t) = well_typed place (Value t)
value_shape place Untyped = well_typed place Untyped
value_shape place Condition = broken Misplaced place

abbrev pub condition_shape : Place → Shape → Checked
condition_shape place (Value t) = broken Misplaced place
condition_shape place Untyped = broken Misplaced place
condition_shape place Condition = well_typed place Condition

abbrev pub with_shape : (Place → Shape → Checked) → Checked → Option Shape → Checked
with_shape due f None = f
with_shape due f (Some shape) = due f.place shape

abbrev pub as_value : Checked → Checked
as_value f = with_shape value_shape f f.shape

abbrev pub as_condition : Checked → Checked
as_condition f = with_shape condition_shape f f.shape

-- ---- a part made of others

abbrev pub faults_in : List Checked → Option Fault
faults_in parts = first_of (map (λ f. f.fault) parts)

abbrev pub is_shaped : Checked → Bool
is_shaped f = is_some f.shape

-- the shape of a part that has one
abbrev pub shown : Option Shape → Shape
shown None = Untyped
shown (Some s) = s

abbrev pub shape_of : Checked → Shape
shape_of f = shown f.shape

-- what the whole is where each part has a shape
abbrev pub combined : Place → List Checked → Checked → Checked
combined place parts whole = if list_all is_shaped parts then whole else record { place = place; fault = faults_in parts; shape = None }

-- ---- families

-- a value that has to be of a family; the fault is at the value
abbrev pub family_shape : Family → Place → Shape → Checked
family_shape family place shape = if is_of family shape then well_typed place shape else broken FamiliesMixed place

abbrev pub of_family : Family → Checked → Checked
of_family family f = with_shape (family_shape family) f f.shape

-- whether all parts are of a family
abbrev pub all_of : Family → List Checked → Bool
all_of family parts = list_all (λ f. is_of family (shape_of f)) parts
