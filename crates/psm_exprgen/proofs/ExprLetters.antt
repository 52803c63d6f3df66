-- Which letters expressions are of, and the code of NULL, which is of any.
use Rattle.std.proofs.Common.{◌≡◌, true, List, refl}
use Rattle.std.specs.Prelude.{IsTrue}
use Rattle.psm_exprcode.specs.declared.op.Letter.{Letter}
use Rattle.psm_exprcode.specs.declared.op.Letter.TheVariants.{N, T, B}
use Rattle.psm_exprcode.specs.Kinds.{some_value}
use Rattle.psm_exprcode.specs.WellFormed.{does_fit, is_well_formed}
use Rattle.psm_resolved.specs.RowType.{RowType, Wrong, Untyped, Of, goes_as, is_of}
use Rattle.psm_exprgen.specs.Nulls.{null_lines}
use Rattle.psm_exprgen.specs.Queries.{letter_of_row_type}

pub null_fits : (columns variables : List Letter) (k : Letter) → IsTrue (does_fit columns variables (null_lines k) k)
null_fits columns variables N = refl
null_fits columns variables T = refl
null_fits columns variables B = refl

pub null_well_formed : (k : Letter) → IsTrue (is_well_formed (null_lines k))
null_well_formed N = refl
null_well_formed T = refl
null_well_formed B = refl

-- an expression of a value's letter goes as that letter
pub value_goes : (s : RowType) → some_value (λ k. is_of k s) ≡ true → goes_as (letter_of_row_type s) s ≡ true
value_goes Wrong h = h
value_goes Untyped h = refl
value_goes (Of N) h = refl
value_goes (Of T) h = refl
value_goes (Of B) h = refl

-- a condition goes as one
pub test_goes : (s : RowType) → is_of B s ≡ true → goes_as B s ≡ true
test_goes Wrong h = h
test_goes Untyped h = h
test_goes (Of k) h = h
