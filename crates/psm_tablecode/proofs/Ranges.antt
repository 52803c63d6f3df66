-- Where a test that raises nothing is true on a row, the key of the row is between the bounds for which it asks; so a walk over the
-- rows between them takes what a walk over all rows takes.
use Rattle.std.proofs.Common.{◌≡◌, ◌⊎◌, inl, inr, ℕ, Bool, true, false, ◌&&◌, List, [], ◌∷◌, refl, ap, sym, ◌∙◌, Option, Some, None, Result, Ok}
use Rattle.std.specs.Prelude.{cond, filter, slice_get, slice_index_or, if◌then◌else◌}
use Rattle.std.specs.List.{cons_option}
use Rattle.std.specs.Option.{option_or}
use Rattle.std.specs.Ordering.{is_eq, is_ge, is_gt, is_le, is_lt, ordering_reverse}
use Rattle.std.specs.declared.cmp.Ordering.{Ordering}
use Rattle.std.specs.declared.cmp.Ordering.TheVariants.{Less, Equal, Greater}
use Rattle.psm_num.proofs.Literals.{and_first, and_second}
use Rattle.psm_sqlstate.specs.declared.state.SqlState.{SqlState}
use Rattle.psm_value.proofs.DataOrder.{data_order-turned}
use Rattle.psm_value.specs.declared.datum.Datum.{Datum}
use Rattle.psm_value.specs.declared.datum.Datum.TheVariants.{Null, Num, Text}
use Rattle.psm_value.specs.declared.truth.Truth as truth_value
use Rattle.psm_value.specs.declared.truth.Truth.TheVariants.{True, False, Unknown}
use Rattle.psm_value.specs.Order.{data_order}
use Rattle.psm_value.specs.Truth.{both, is_certain}
use Rattle.psm_exprcode.specs.declared.op.Line.{Line}
use Rattle.psm_exprcode.specs.declared.op.Op.{Op}
use Rattle.psm_exprcode.specs.declared.op.Op.TheVariants as op
use Rattle.psm_exprcode.specs.declared.operand.Operand.{Operand}
use Rattle.psm_exprcode.specs.declared.operand.Operand.TheVariants.{Value, Truth}
use Rattle.psm_exprcode.specs.declared.operand.Next.TheVariants.{FallThrough}
use Rattle.psm_exprcode.specs.Applied.{applied, Went}
use Rattle.psm_exprcode.specs.Comparison.{truth_of}
use Rattle.psm_exprcode.specs.Evaluated.{evaluated}
use Rattle.psm_table.specs.Evaluator.{and_then, mapped, test_of}
use Rattle.psm_table.specs.Key.{values_at}
use Rattle.psm_table.specs.Queries.{in_walk, is_met, taken, walked}
use Rattle.psm_table.specs.Table.{Contents}
use Rattle.psm_tablecode.specs.Bounds.{bounds_asked, bounds_by, bounds_of, end_of, end_of_two, end_with, from_test, has_between, high_between, high_made, high_sought, is_between, is_from, is_range, is_up_to, low_between, low_made, low_sought, of_range, rows_within, up_to_test, Bounds, End}
use Rattle.psm_tablecode.specs.Codes.{over}
use Rattle.psm_tablecode.specs.Tests.{are_quiet, first_four, first_three, fixed, is_column, made, sought}
use Rattle.psm_tablecode.proofs.Conjunctions.{all_true, both_certain, raises_nothing, says, Meets}
use Rattle.psm_tablecode.proofs.Made.{four_hold, three_hold}
use Rattle.psm_tablecode.proofs.Results.{mapped-same}
use Rattle.psm_tablecode.proofs.Sought.{column_put, met_truth, quiet_truth, sought_equal}

-- ---- rows on which a test can be true

module _ {A : Type 0} (P : List Datum → Bool) (test : List Datum → Result truth_value.Truth SqlState) (take : List Datum → Result A SqlState)
    (quiet : (row : List Datum) → (t : truth_value.Truth) × (test row ≡ Ok t)) (only : (row : List Datum) → test row ≡ Ok True → P row ≡ true) where
  passed_over : (row : List Datum) (t : truth_value.Truth) → test row ≡ Ok t → P row ≡ false → taken test take row ≡ Ok None
  passed_over row True e n = let has : P row ≡ true = only row e in cc
  passed_over row False e n = ap (λ (r : Result truth_value.Truth SqlState). and_then r (λ met. if is_met met then mapped (λ a. Some a) (take row) else Ok None)) e
  passed_over row Unknown e n = ap (λ (r : Result truth_value.Truth SqlState). and_then r (λ met. if is_met met then mapped (λ a. Some a) (take row) else Ok None)) e

  walked_first : (row : List Datum) (rows : List (List Datum)) (b : Bool) → P row ≡ b → walked test take rows ≡ walked test take (filter P rows)
      → walked test take (row ∷ rows) ≡ walked test take (cond b (row ∷ filter P rows) (filter P rows))
  walked_first row rows true e h = ap (λ w. and_then (taken test take row) (λ a. mapped (λ more. cons_option a more) w)) h
  walked_first row rows false e h =
      ap (λ (t : Result (Option A) SqlState). and_then t (λ a. mapped (λ more. cons_option a more) (walked test take rows))) (passed_over row (quiet row).0 (quiet row).1 e)
      ∙ mapped-same (walked test take rows) ∙ h

  pub walked-where : (rows : List (List Datum)) → walked test take rows ≡ walked test take (filter P rows)
  walked-where [] = refl
  walked-where (row ∷ rows) = walked_first row rows (P row) refl (walked-where rows)

-- ---- comparisons

-- whether the order of two values is as it is asked; unknown where one is null
abbrev judged_by : (Ordering → Bool) → Datum → Datum → truth_value.Truth
judged_by f Null b = Unknown
judged_by f (Num a) Null = Unknown
judged_by f (Num a) (Num b) = truth_of (f (data_order (Num a) (Num b)))
judged_by f (Num a) (Text b) = truth_of (f (data_order (Num a) (Text b)))
judged_by f (Text a) Null = Unknown
judged_by f (Text a) (Num b) = truth_of (f (data_order (Text a) (Num b)))
judged_by f (Text a) (Text b) = truth_of (f (data_order (Text a) (Text b)))

-- the operation puts that on two values
abbrev Judges : (Ordering → Bool) → Op → Type 0
Judges f o = (a b : Datum) (os : List Operand) (row vars : List Datum) → applied o (Value b ∷ Value a ∷ os) row vars ≡ Went FallThrough (Truth (judged_by f a b) ∷ os)

judges_greater : Judges is_gt op.Greater
judges_greater Null b os row vars = refl
judges_greater (Num a) Null os row vars = refl
judges_greater (Num a) (Num b) os row vars = refl
judges_greater (Num a) (Text b) os row vars = refl
judges_greater (Text a) Null os row vars = refl
judges_greater (Text a) (Num b) os row vars = refl
judges_greater (Text a) (Text b) os row vars = refl

judges_at_least : Judges is_ge op.GreaterOrEqual
judges_at_least Null b os row vars = refl
judges_at_least (Num a) Null os row vars = refl
judges_at_least (Num a) (Num b) os row vars = refl
judges_at_least (Num a) (Text b) os row vars = refl
judges_at_least (Text a) Null os row vars = refl
judges_at_least (Text a) (Num b) os row vars = refl
judges_at_least (Text a) (Text b) os row vars = refl

judges_less : Judges is_lt op.Less
judges_less Null b os row vars = refl
judges_less (Num a) Null os row vars = refl
judges_less (Num a) (Num b) os row vars = refl
judges_less (Num a) (Text b) os row vars = refl
judges_less (Text a) Null os row vars = refl
judges_less (Text a) (Num b) os row vars = refl
judges_less (Text a) (Text b) os row vars = refl

judges_at_most : Judges is_le op.LessOrEqual
judges_at_most Null b os row vars = refl
judges_at_most (Num a) Null os row vars = refl
judges_at_most (Num a) (Num b) os row vars = refl
judges_at_most (Num a) (Text b) os row vars = refl
judges_at_most (Text a) Null os row vars = refl
judges_at_most (Text a) (Num b) os row vars = refl
judges_at_most (Text a) (Text b) os row vars = refl

certain_of : (x : Bool) → is_certain (truth_of x) ≡ true → x ≡ true
certain_of true h = refl
certain_of false h = cc

certain_judged : (f : Ordering → Bool) (a b : Datum) → is_certain (judged_by f a b) ≡ true → f (data_order a b) ≡ true
certain_judged f Null b h = cc
certain_judged f (Num a) Null h = cc
certain_judged f (Num a) (Num b) h = certain_of (f (data_order (Num a) (Num b))) h
certain_judged f (Num a) (Text b) h = certain_of (f (data_order (Num a) (Text b))) h
certain_judged f (Text a) Null h = cc
certain_judged f (Text a) (Num b) h = certain_of (f (data_order (Text a) (Num b))) h
certain_judged f (Text a) (Text b) h = certain_of (f (data_order (Text a) (Text b))) h

-- the orders of a value that is from an end on, or up to it
abbrev from_order : Bool → Ordering → Bool
from_order is_in o = if is_in then is_ge o else is_gt o

abbrev up_to_order : Bool → Ordering → Bool
up_to_order is_in o = if is_in then is_le o else is_lt o

from_turned : (is_in : Bool) (o : Ordering) → up_to_order is_in o ≡ true → from_order is_in (ordering_reverse o) ≡ true
from_turned true Less h = refl
from_turned true Equal h = refl
from_turned true Greater h = cc
from_turned false Less h = refl
from_turned false Equal h = cc
from_turned false Greater h = cc

up_to_turned : (is_in : Bool) (o : Ordering) → from_order is_in o ≡ true → up_to_order is_in (ordering_reverse o) ≡ true
up_to_turned true Less h = cc
up_to_turned true Equal h = refl
up_to_turned true Greater h = refl
up_to_turned false Less h = cc
up_to_turned false Equal h = cc
up_to_turned false Greater h = refl

-- what the words for a comparison say of it
record IsJudged (o : Op) : Type 0 where
  pub from : (is_in : Bool) → from_test o ≡ Some is_in → Judges (from_order is_in) o
  pub up_to : (is_in : Bool) → up_to_test o ≡ Some is_in → Judges (up_to_order is_in) o

unjudged : (o : Op) → from_test o ≡ None → up_to_test o ≡ None → IsJudged o
unjudged o f u = record {
  from = λ is_in h. absurd (cc);
  up_to = λ is_in h. absurd (cc);
}

from_greater : (is_in : Bool) → from_test op.Greater ≡ Some is_in → Judges (from_order is_in) op.Greater
from_greater true h = absurd (cc)
from_greater false h = judges_greater

from_at_least : (is_in : Bool) → from_test op.GreaterOrEqual ≡ Some is_in → Judges (from_order is_in) op.GreaterOrEqual
from_at_least true h = judges_at_least
from_at_least false h = absurd (cc)

up_to_less : (is_in : Bool) → up_to_test op.Less ≡ Some is_in → Judges (up_to_order is_in) op.Less
up_to_less true h = absurd (cc)
up_to_less false h = judges_less

up_to_at_most : (is_in : Bool) → up_to_test op.LessOrEqual ≡ Some is_in → Judges (up_to_order is_in) op.LessOrEqual
up_to_at_most true h = judges_at_most
up_to_at_most false h = absurd (cc)

judged : (o : Op) → IsJudged o
judged (op.Constant k d) = unjudged (op.Constant k d) refl refl
judged (op.Variable i) = unjudged (op.Variable i) refl refl
judged (op.Column i) = unjudged (op.Column i) refl refl
judged op.Duplicate = unjudged op.Duplicate refl refl
judged op.Drop = unjudged op.Drop refl refl
judged op.DropBelow = unjudged op.DropBelow refl refl
judged op.Negate = unjudged op.Negate refl refl
judged op.Add = unjudged op.Add refl refl
judged op.Subtract = unjudged op.Subtract refl refl
judged op.Multiply = unjudged op.Multiply refl refl
judged op.Divide = unjudged op.Divide refl refl
judged (op.Rescale s) = unjudged (op.Rescale s) refl refl
judged op.Concatenate = unjudged op.Concatenate refl refl
judged op.CharacterLength = unjudged op.CharacterLength refl refl
judged op.Position = unjudged op.Position refl refl
judged op.SubstringFrom = unjudged op.SubstringFrom refl refl
judged op.SubstringFromFor = unjudged op.SubstringFromFor refl refl
judged (op.Trim side) = unjudged (op.Trim side) refl refl
judged op.Upper = unjudged op.Upper refl refl
judged op.Lower = unjudged op.Lower refl refl
judged op.Equal = unjudged op.Equal refl refl
judged op.NotEqual = unjudged op.NotEqual refl refl
judged op.Less = record { from = λ is_in h. absurd (cc); up_to = up_to_less }
judged op.LessOrEqual = record { from = λ is_in h. absurd (cc); up_to = up_to_at_most }
judged op.Greater = record { from = from_greater; up_to = λ is_in h. absurd (cc) }
judged op.GreaterOrEqual = record { from = from_at_least; up_to = λ is_in h. absurd (cc) }
judged op.And = unjudged op.And refl refl
judged op.Or = unjudged op.Or refl refl
judged op.Not = unjudged op.Not refl refl
judged op.IsNull = unjudged op.IsNull refl refl
judged op.Like = unjudged op.Like refl refl
judged op.LikeEscape = unjudged op.LikeEscape refl refl
judged op.Between = unjudged op.Between refl refl
judged (op.In n) = unjudged (op.In n) refl refl
judged op.NullIf = unjudged op.NullIf refl refl
judged (op.Cast to) = unjudged (op.Cast to) refl refl
judged (op.Jump p) = unjudged (op.Jump p) refl refl
judged (op.JumpUnlessTrue p) = unjudged (op.JumpUnlessTrue p) refl refl
judged (op.JumpUnlessNull p) = unjudged (op.JumpUnlessNull p) refl refl

-- an end has both parts
ends : (i : Option Bool) (v : Option Datum) (d : End) → end_of i v ≡ Some d → (i ≡ Some d.is_in) × (v ≡ Some d.value)
ends None v d h = absurd (cc)
ends (Some i) None d h = absurd (cc)
ends (Some i) (Some v) d h =
    let same : end_with v i ≡ d = cc in
    (ap (λ (x : End). Some x.is_in) same, ap (λ (x : End). Some x.value) same)

-- ---- three operations on end

module _ (row vars : List Datum) (c : ℕ) (a b e : Op) (os first second third : List Operand)
    (puts_a : applied a os row vars ≡ Went FallThrough first) (puts_b : applied b first row vars ≡ Went FallThrough second) (puts_e : applied e second row vars ≡ Went FallThrough third) (t : all_true third ≡ true) where
  abbrev here : Datum
  here = slice_index_or row c Null

  column_of : (o : Op) (under over : List Operand) → is_column c o ≡ true → applied o under row vars ≡ Went FallThrough over → (x : Datum) × (here ≡ x) × (over ≡ Value x ∷ under)
  column_of o under over i p = column_put row c under over (slice_get row c) refl (sym (ap (λ (q : Op). applied q under row vars) ((says row vars o).column c i)) ∙ p)

  value_of : (d : Datum) (o : Op) (under over : List Operand) → fixed vars o ≡ Some d → applied o under row vars ≡ Went FallThrough over → over ≡ Value d ∷ under
  value_of d o under over f p = let went : Went FallThrough (Value d ∷ under) ≡ Went FallThrough over = sym ((says row vars o).puts d f under) ∙ p in let same : over ≡ Value d ∷ under = cc in same

  judged_at : (f : Ordering → Bool) → Judges f e → (x y : Datum) → second ≡ Value y ∷ Value x ∷ os → f (data_order x y) ≡ true
  judged_at f j x y u =
      let went : Went FallThrough (Truth (judged_by f x y) ∷ os) ≡ Went FallThrough third = sym (ap (λ l. applied e l row vars) u ∙ j x y os row vars) ∙ puts_e in
      let same : Truth (judged_by f x y) ∷ os ≡ third = cc in
      certain_judged f x y (and_first (is_certain (judged_by f x y)) (all_true os) (ap all_true same ∙ t))

  on_left : (f : Ordering → Bool) → Judges f e → (d : Datum) → is_column c a ≡ true → fixed vars b ≡ Some d → f (data_order here d) ≡ true
  on_left f j d i v =
      let x = column_of a os first i puts_a in
      ap (λ y. f (data_order y d)) x.1 ∙ judged_at f j x.0 d (value_of d b first second v puts_b ∙ ap (λ l. Value d ∷ l) x.2)

  on_right : (f : Ordering → Bool) → Judges f e → (d : Datum) → is_column c b ≡ true → fixed vars a ≡ Some d → f (data_order d here) ≡ true
  on_right f j d i v =
      let x = column_of b first second i puts_b in
      ap (λ y. f (data_order d y)) x.1 ∙ judged_at f j d x.0 (x.2 ∙ ap (λ l. Value x.0 ∷ l) (value_of d a os first v puts_a))

  low_left : (d : End) → is_column c a ≡ true → end_of (from_test e) (fixed vars b) ≡ Some d → is_from (Some d) here ≡ true
  low_left d i h = let p = ends (from_test e) (fixed vars b) d h in on_left (from_order d.is_in) ((judged e).from d.is_in p.0) d.value i p.1

  low_right : (d : End) → is_column c b ≡ true → end_of (up_to_test e) (fixed vars a) ≡ Some d → is_from (Some d) here ≡ true
  low_right d i h =
      let p = ends (up_to_test e) (fixed vars a) d h in
      ap (from_order d.is_in) (data_order-turned here d.value)
      ∙ from_turned d.is_in (data_order d.value here) (on_right (up_to_order d.is_in) ((judged e).up_to d.is_in p.0) d.value i p.1)

  high_left : (d : End) → is_column c a ≡ true → end_of (up_to_test e) (fixed vars b) ≡ Some d → is_up_to (Some d) here ≡ true
  high_left d i h = let p = ends (up_to_test e) (fixed vars b) d h in on_left (up_to_order d.is_in) ((judged e).up_to d.is_in p.0) d.value i p.1

  high_right : (d : End) → is_column c b ≡ true → end_of (from_test e) (fixed vars a) ≡ Some d → is_up_to (Some d) here ≡ true
  high_right d i h =
      let p = ends (from_test e) (fixed vars a) d h in
      ap (up_to_order d.is_in) (data_order-turned here d.value)
      ∙ up_to_turned d.is_in (data_order d.value here) (on_right (from_order d.is_in) ((judged e).from d.is_in p.0) d.value i p.1)

  low_by : (d : End) (i j : Bool) → is_column c a ≡ i → is_column c b ≡ j → (if i then end_of (from_test e) (fixed vars b) else if j then end_of (up_to_test e) (fixed vars a) else None) ≡ Some d
      → is_from (Some d) here ≡ true
  low_by d true j p q h = low_left d p h
  low_by d false true p q h = low_right d q h
  low_by d false false p q h = absurd (cc)

  high_by : (d : End) (i j : Bool) → is_column c a ≡ i → is_column c b ≡ j → (if i then end_of (up_to_test e) (fixed vars b) else if j then end_of (from_test e) (fixed vars a) else None) ≡ Some d
      → is_up_to (Some d) here ≡ true
  high_by d true j p q h = high_left d p h
  high_by d false true p q h = high_right d q h
  high_by d false false p q h = absurd (cc)

  pub low_holds : (d : End) → low_made c vars a b e ≡ Some d → is_from (Some d) here ≡ true
  low_holds d h = low_by d (is_column c a) (is_column c b) refl refl h

  pub high_holds : (d : End) → high_made c vars a b e ≡ Some d → is_up_to (Some d) here ≡ true
  high_holds d h = high_by d (is_column c a) (is_column c b) refl refl h

-- ---- BETWEEN

range_put : (x l h : Datum) (os : List Operand) (row vars : List Datum) → applied op.Between (Value h ∷ Value l ∷ Value x ∷ os) row vars ≡ Went FallThrough (Truth (both (judged_by is_ge x l) (judged_by is_le x h)) ∷ os)
range_put Null l h os row vars = refl
range_put (Num x) Null Null os row vars = refl
range_put (Num x) Null (Num h) os row vars = refl
range_put (Num x) Null (Text h) os row vars = refl
range_put (Num x) (Num l) Null os row vars = refl
range_put (Num x) (Num l) (Num h) os row vars = refl
range_put (Num x) (Num l) (Text h) os row vars = refl
range_put (Num x) (Text l) Null os row vars = refl
range_put (Num x) (Text l) (Num h) os row vars = refl
range_put (Num x) (Text l) (Text h) os row vars = refl
range_put (Text x) Null Null os row vars = refl
range_put (Text x) Null (Num h) os row vars = refl
range_put (Text x) Null (Text h) os row vars = refl
range_put (Text x) (Num l) Null os row vars = refl
range_put (Text x) (Num l) (Num h) os row vars = refl
range_put (Text x) (Num l) (Text h) os row vars = refl
range_put (Text x) (Text l) Null os row vars = refl
range_put (Text x) (Text l) (Num h) os row vars = refl
range_put (Text x) (Text l) (Text h) os row vars = refl

pair_ends : (o p : Option Datum) (d : End) → end_of_two o p ≡ Some d → (f : Datum) × (o ≡ Some d.value) × (p ≡ Some f) × (d.is_in ≡ true)
pair_ends None p d h = absurd (cc)
pair_ends (Some v) None d h = absurd (cc)
pair_ends (Some v) (Some f) d h =
    let same : end_with v true ≡ d = cc in
    (f, ap (λ (x : End). Some x.value) same, refl, sym (ap (λ (x : End). x.is_in) same))

is_range_op : (o : Op) → is_range o ≡ true → o ≡ op.Between
is_range_op (op.Constant k d) h = cc
is_range_op (op.Variable i) h = cc
is_range_op (op.Column i) h = cc
is_range_op op.Duplicate h = cc
is_range_op op.Drop h = cc
is_range_op op.DropBelow h = cc
is_range_op op.Negate h = cc
is_range_op op.Add h = cc
is_range_op op.Subtract h = cc
is_range_op op.Multiply h = cc
is_range_op op.Divide h = cc
is_range_op (op.Rescale s) h = cc
is_range_op op.Concatenate h = cc
is_range_op op.CharacterLength h = cc
is_range_op op.Position h = cc
is_range_op op.SubstringFrom h = cc
is_range_op op.SubstringFromFor h = cc
is_range_op (op.Trim side) h = cc
is_range_op op.Upper h = cc
is_range_op op.Lower h = cc
is_range_op op.Equal h = cc
is_range_op op.NotEqual h = cc
is_range_op op.Less h = cc
is_range_op op.LessOrEqual h = cc
is_range_op op.Greater h = cc
is_range_op op.GreaterOrEqual h = cc
is_range_op op.And h = cc
is_range_op op.Or h = cc
is_range_op op.Not h = cc
is_range_op op.IsNull h = cc
is_range_op op.Like h = cc
is_range_op op.LikeEscape h = cc
is_range_op op.Between h = refl
is_range_op (op.In n) h = cc
is_range_op op.NullIf h = cc
is_range_op (op.Cast to) h = cc
is_range_op (op.Jump p) h = cc
is_range_op (op.JumpUnlessTrue p) h = cc
is_range_op (op.JumpUnlessNull p) h = cc

module _ (row vars : List Datum) (c : ℕ) (o a b e : Op) (os first second third fourth : List Operand)
    (puts_o : applied o os row vars ≡ Went FallThrough first) (puts_a : applied a first row vars ≡ Went FallThrough second) (puts_b : applied b second row vars ≡ Went FallThrough third)
    (puts_e : applied e third row vars ≡ Went FallThrough fourth) (t : all_true fourth ≡ true) where
  abbrev there : Datum
  there = slice_index_or row c Null

  put_value : (d : Datum) (p : Op) (under over : List Operand) → fixed vars p ≡ Some d → applied p under row vars ≡ Went FallThrough over → over ≡ Value d ∷ under
  put_value d p under over f q = let went : Went FallThrough (Value d ∷ under) ≡ Went FallThrough over = sym ((says row vars p).puts d f under) ∙ q in let same : over ≡ Value d ∷ under = cc in same

  -- the value of the column is from the one on and up to the other
  in_range : (l h : Datum) → e ≡ op.Between → is_column c o ≡ true → fixed vars a ≡ Some l → fixed vars b ≡ Some h → (is_ge (data_order there l) ≡ true) × (is_le (data_order there h) ≡ true)
  in_range l h k i v w =
      let x = column_put row c os first (slice_get row c) refl (sym (ap (λ (q : Op). applied q os row vars) ((says row vars o).column c i)) ∙ puts_o) in
      let y : second ≡ Value l ∷ Value x.0 ∷ os = put_value l a first second v puts_a ∙ ap (λ z. Value l ∷ z) x.2 in
      let z : third ≡ Value h ∷ Value l ∷ Value x.0 ∷ os = put_value h b second third w puts_b ∙ ap (λ z. Value h ∷ z) y in
      let low : truth_value.Truth = judged_by is_ge x.0 l in
      let high : truth_value.Truth = judged_by is_le x.0 h in
      let went : Went FallThrough (Truth (both low high) ∷ os) ≡ Went FallThrough fourth = sym (ap (λ (q : Op). applied q third row vars) k ∙ ap (λ q. applied op.Between q row vars) z ∙ range_put x.0 l h os row vars) ∙ puts_e in
      let same : Truth (both low high) ∷ os ≡ fourth = cc in
      let certain : (is_certain high && (is_certain low && all_true os)) ≡ true = both_certain low high (all_true os) (ap all_true same ∙ t) in (
        ap (λ q. is_ge (data_order q l)) x.1 ∙ certain_judged is_ge x.0 l (and_first (is_certain low) (all_true os) (and_second (is_certain high) (is_certain low && all_true os) certain)),
        ap (λ q. is_le (data_order q h)) x.1 ∙ certain_judged is_le x.0 h (and_first (is_certain high) (is_certain low && all_true os) certain),
      )

  low_range : (d : End) (i j : Bool) → is_range e ≡ i → is_column c o ≡ j → (if i then (if j then end_of_two (fixed vars a) (fixed vars b) else None) else None) ≡ Some d → is_from (Some d) there ≡ true
  low_range d true true p q h =
      let k = pair_ends (fixed vars a) (fixed vars b) d h in
      ap (λ (r : Bool). from_order r (data_order there d.value)) k.3 ∙ (in_range d.value k.0 (is_range_op e p) q k.1 k.2).0
  low_range d true false p q h = absurd (cc)
  low_range d false j p q h = absurd (cc)

  high_range : (d : End) (i j : Bool) → is_range e ≡ i → is_column c o ≡ j → (if i then (if j then end_of_two (fixed vars b) (fixed vars a) else None) else None) ≡ Some d → is_up_to (Some d) there ≡ true
  high_range d true true p q h =
      let k = pair_ends (fixed vars b) (fixed vars a) d h in
      ap (λ (r : Bool). up_to_order r (data_order there d.value)) k.3 ∙ (in_range k.0 d.value (is_range_op e p) q k.2 k.1).1
  high_range d true false p q h = absurd (cc)
  high_range d false j p q h = absurd (cc)

  pub low_ranges : (d : End) → low_between c vars o a b e ≡ Some d → is_from (Some d) there ≡ true
  low_ranges d h = low_range d (is_range e) (is_column c o) refl refl h

  pub high_ranges : (d : End) → high_between c vars o a b e ≡ Some d → is_up_to (Some d) there ≡ true
  high_ranges d h = high_range d (is_range e) (is_column c o) refl refl h

-- ---- keys

any_from : (o : Option End) (x : Datum) → ((d : End) → o ≡ Some d → is_from (Some d) x ≡ true) → is_from o x ≡ true
any_from None x f = refl
any_from (Some d) x f = f d refl

any_up_to : (o : Option End) (x : Datum) → ((d : End) → o ≡ Some d → is_up_to (Some d) x ≡ true) → is_up_to o x ≡ true
any_up_to None x f = refl
any_up_to (Some d) x f = f d refl

both_true : (a b : Bool) → a ≡ true → b ≡ true → (a && b) ≡ true
both_true a b p q = ap (λ x. x && b) p ∙ q

abbrev Has : Bounds → List Datum → Type 0
Has bounds key = has_between bounds.firsts bounds.low bounds.high key ≡ true

has_by : (x : Datum) (xs : List Datum) (o : Option Datum) (more : Bounds) (low high : Option End) → ((d : Datum) → o ≡ Some d → data_order x d ≡ Equal) → Has more xs
    → is_from low x ≡ true → is_up_to high x ≡ true → Has (bounds_by o more (of_range low high)) (x ∷ xs)
has_by x xs (Some d) more low high f g p q = both_true (is_eq (data_order x d)) (has_between more.firsts more.low more.high xs) (ap is_eq (f d refl)) g
has_by x xs None more low high f g p q = both_true (is_from low x) (is_up_to high x) p q

one_of : (o p : Option End) (d : End) → option_or o p ≡ Some d → (o ≡ Some d) ⊎ (p ≡ Some d)
one_of (Some x) p d h = inl h
one_of None p d h = inr h

module _ (row vars : List Datum) (lines : List Line) (quiet : are_quiet lines ≡ true) (met : Meets row vars 0 lines []) where
  low_three : (c : ℕ) (d : End) → made 3 (first_three (low_made c vars)) lines ≡ Some d → is_from (Some d) (slice_index_or row c Null) ≡ true
  low_three c d e =
      three_hold row vars (low_made c vars) (λ x. is_from (Some x) (slice_index_or row c Null) ≡ true)
      (λ a b o os first second third p q r t x m. low_holds row vars c a b o os first second third p q r t x m) d lines quiet met e

  low_four : (c : ℕ) (d : End) → made 4 (first_four (low_between c vars)) lines ≡ Some d → is_from (Some d) (slice_index_or row c Null) ≡ true
  low_four c d e =
      four_hold row vars (low_between c vars) (λ x. is_from (Some x) (slice_index_or row c Null) ≡ true)
      (λ i a b o os first second third fourth p q r s t x m. low_ranges row vars c i a b o os first second third fourth p q r s t x m) d lines quiet met e

  high_three : (c : ℕ) (d : End) → made 3 (first_three (high_made c vars)) lines ≡ Some d → is_up_to (Some d) (slice_index_or row c Null) ≡ true
  high_three c d e =
      three_hold row vars (high_made c vars) (λ x. is_up_to (Some x) (slice_index_or row c Null) ≡ true)
      (λ a b o os first second third p q r t x m. high_holds row vars c a b o os first second third p q r t x m) d lines quiet met e

  high_four : (c : ℕ) (d : End) → made 4 (first_four (high_between c vars)) lines ≡ Some d → is_up_to (Some d) (slice_index_or row c Null) ≡ true
  high_four c d e =
      four_hold row vars (high_between c vars) (λ x. is_up_to (Some x) (slice_index_or row c Null) ≡ true)
      (λ i a b o os first second third fourth p q r s t x m. high_ranges row vars c i a b o os first second third fourth p q r s t x m) d lines quiet met e

  low_by_both : (c : ℕ) (d : End) → (made 3 (first_three (low_made c vars)) lines ≡ Some d) ⊎ (made 4 (first_four (low_between c vars)) lines ≡ Some d) → is_from (Some d) (slice_index_or row c Null) ≡ true
  low_by_both c d (inl e) = low_three c d e
  low_by_both c d (inr e) = low_four c d e

  high_by_both : (c : ℕ) (d : End) → (made 3 (first_three (high_made c vars)) lines ≡ Some d) ⊎ (made 4 (first_four (high_between c vars)) lines ≡ Some d) → is_up_to (Some d) (slice_index_or row c Null) ≡ true
  high_by_both c d (inl e) = high_three c d e
  high_by_both c d (inr e) = high_four c d e

  low_is : (c : ℕ) → is_from (low_sought c vars lines) (slice_index_or row c Null) ≡ true
  low_is c =
      any_from (low_sought c vars lines) (slice_index_or row c Null)
      (λ d e. low_by_both c d (one_of (made 3 (first_three (low_made c vars)) lines) (made 4 (first_four (low_between c vars)) lines) d e))

  high_is : (c : ℕ) → is_up_to (high_sought c vars lines) (slice_index_or row c Null) ≡ true
  high_is c =
      any_up_to (high_sought c vars lines) (slice_index_or row c Null)
      (λ d e. high_by_both c d (one_of (made 3 (first_three (high_made c vars)) lines) (made 4 (first_four (high_between c vars)) lines) d e))

  pub has_bounds : (columns : List ℕ) → Has (bounds_of columns vars lines) (values_at columns row)
  has_bounds [] = refl
  has_bounds (c ∷ columns) =
      has_by (slice_index_or row c Null) (values_at columns row) (sought c vars lines) (bounds_of columns vars lines) (low_sought c vars lines) (high_sought c vars lines)
      (λ d e. sought_equal row vars c d lines quiet met e) (has_bounds columns) (low_is c) (high_is c)

-- ---- tests

pub asked_by : (b : Bool) (x bounds : Bounds) → (if b then Some x else None) ≡ Some bounds → (b ≡ true) × (x ≡ bounds)
asked_by true x bounds e = (refl, (let same : x ≡ bounds = cc in same))
asked_by false x bounds e = absurd (cc)

module _ (vars : List Datum) (columns : List ℕ) (lines : List Line) (bounds : Bounds) (asks : bounds_asked columns vars (Some lines) ≡ Some bounds) where
  asked : (are_quiet lines ≡ true) × (bounds_of columns vars lines ≡ bounds)
  asked = asked_by (are_quiet lines) (bounds_of columns vars lines) bounds asks

  pub bounds_quiet : (row : List Datum) → (t : truth_value.Truth) × (test_of (over vars) (Some lines) row ≡ Ok t)
  bounds_quiet row = quiet_truth row vars (evaluated lines row vars) (λ s e. raises_nothing row vars 0 lines [] s asked.0 e)

  pub bounds_only : (row : List Datum) → test_of (over vars) (Some lines) row ≡ Ok True → is_between columns bounds row ≡ true
  bounds_only row e = ap (λ x. is_between columns x row) (sym asked.1) ∙ has_bounds row vars lines asked.0 (met_truth row vars (evaluated lines row vars) e) columns

-- ---- walks

module _ {A : Type 0} (t : Contents) (vars : List Datum) (take : List Datum → Result A SqlState) (downward : Bool) where
  within : (lines : List Line) (o : Option Bounds) → bounds_asked t.def.key vars (Some lines) ≡ o
      → walked (test_of (over vars) (Some lines)) take (rows_within t downward o) ≡ walked (test_of (over vars) (Some lines)) take (in_walk downward t.rows)
  within lines None e = refl
  within lines (Some bounds) e =
      sym (walked-where (is_between t.def.key bounds) (test_of (over vars) (Some lines)) take (bounds_quiet vars t.def.key lines bounds e) (bounds_only vars t.def.key lines bounds e) (in_walk downward t.rows))

  pub walked_within : (test : Option (List Line)) → walked (test_of (over vars) test) take (rows_within t downward (bounds_asked t.def.key vars test)) ≡ walked (test_of (over vars) test) take (in_walk downward t.rows)
  walked_within None = refl
  walked_within (Some lines) = within lines (bounds_asked t.def.key vars (Some lines)) refl
