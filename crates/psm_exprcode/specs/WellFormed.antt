-- Code of expressions that is well formed: each way to a line, and to the end of the code, brings exactly the letters that
-- are stated there.
use Rattle.std.specs.Prelude.{ℕ, suc, ◌-◌, Bool, true, false, ◌&&◌, List, [], ◌∷◌, ◌++◌, length, reverse, slice_get, nat_eq, nat_lt, nat_le, Option, Some, None, Result, Ok, Err, if◌then◌else◌}
use Rattle.psm_value.specs.declared.sqltype.SqlType.{SqlType}
use Rattle.psm_value.specs.declared.sqltype.SqlType.TheVariants.{SmallInt, Integer, Numeric, Char, VarChar}
use Rattle.psm_exprcode.specs.declared.op.Letter.{Letter}
use Rattle.psm_exprcode.specs.declared.op.Line.{Line}
use Rattle.psm_exprcode.specs.declared.op.Op.{Op}
use Rattle.psm_exprcode.specs.declared.op.Op.TheVariants as op
use Rattle.psm_exprcode.specs.Kinds.{is_letter, some_value, some_letter, has_letter}
use Rattle.psm_exprcode.specs.Operations.{Effect, effect}

-- ---- stacks of letters, the last one first

-- whether two of them are the same
abbrev pub same_stack : List Letter → List Letter → Bool
same_stack [] [] = true
same_stack [] (l ∷ t) = false
same_stack (k ∷ s) [] = false
same_stack (k ∷ s) (l ∷ t) = is_letter k l && same_stack s t

-- what is left where those letters are taken; none where others stand there
abbrev pub left_of : List Letter → List Letter → Option (List Letter)
left_of [] s = Some s
left_of (k ∷ taken) [] = None
left_of (k ∷ taken) (l ∷ s) = if is_letter k l then left_of taken s else None

-- ---- what stands in an operation

-- whether the digits, decimals and length of a type are within bounds
abbrev pub is_type : SqlType → Bool
is_type SmallInt = true
is_type Integer = true
is_type (Numeric p s) = nat_le 1 p && (nat_le p 18 && nat_le s p)
is_type (Char n) = nat_le 1 n && nat_le n 4000
is_type (VarChar n) = nat_le 1 n && nat_le n 4000

-- whether a constant is of its letter, and a scale and a type are within bounds
abbrev pub is_bounded : Op → Bool
is_bounded (op.Constant k d) = has_letter k d
is_bounded (op.Rescale s) = nat_le s 18
is_bounded (op.Cast to) = is_type to
is_bounded o = true

-- ---- lines; the code ends with one operand, of the letter end

-- whether the letters are those that a line states, or the one at the end
abbrev pub are_stated : Letter → Option Line → Bool → List Letter → Bool
are_stated end (Some l) is_end s = same_stack s (reverse l.stack)
are_stated end None is_end s = is_end && same_stack s (end ∷ [])

-- the same of the line that stands n lines below the first of these, or of their end
abbrev pub lands : Letter → List Line → ℕ → List Letter → Bool
lands end after distance s = are_stated end (slice_get after distance) (nat_eq distance (length after)) s

-- at the line that follows
abbrev pub falls_through : Letter → Option (List Letter) → List Letter → List Line → Bool
falls_through end None rest after = true
falls_through end (Some puts) rest after = lands end after 0 (puts ++ rest)

-- at the line to which it may jump, which stands after its own
abbrev pub branches : Letter → ℕ → Option (ℕ × List Letter) → List Letter → List Line → Bool
branches end at None rest after = true
branches end at (Some jump) rest after = nat_lt at jump.0 && lands end after (jump.0 - suc at) (jump.1 ++ rest)

abbrev pub goes_on_with : Letter → ℕ → Effect → Option (List Letter) → List Line → Bool
goes_on_with end at e None after = false
goes_on_with end at e (Some rest) after = falls_through end e.fall_through rest after && branches end at e.branching rest after

-- an operation at an index finds what it takes among the letters, and brings what is stated wherever it goes on
abbrev pub leads : Letter → ℕ → Effect → List Letter → List Line → Bool
leads end at e s after = goes_on_with end at e (left_of e.takes s) after

-- A line is right with those that follow it for some letters in place of k and x of the table. A test says which k a
-- variable or a column may have.
abbrev pub is_line : (Op → Letter → Bool) → Letter → ℕ → Line → List Line → Bool
is_line may end at l after =
    is_bounded l.op && some_value (λ k. may l.op k && some_letter (λ x. leads end at (effect l.op k x) (reverse l.stack) after))

abbrev pub are_lines : (Op → Letter → Bool) → Letter → ℕ → List Line → Bool
are_lines may end at [] = true
are_lines may end at (l ∷ after) = is_line may end at l after && are_lines may end (suc at) after

-- the first line states no operand, and each line is right
abbrev pub ends_with : (Op → Letter → Bool) → List Line → Letter → Bool
ends_with may lines end = lands end lines 0 [] && are_lines may end 0 lines

-- ---- code

-- a variable or a column may be of either kind
abbrev pub of_any_kind : Op → Letter → Bool
of_any_kind o k = true

-- there is a letter with which the code ends on every way
abbrev pub is_well_formed : List Line → Bool
is_well_formed lines = some_letter (ends_with of_any_kind lines)

-- the lines as code where they are well formed, and else the lines
abbrev pub code_of : List Line → Result (List Line) (List Line)
code_of lines = if is_well_formed lines then Ok lines else Err lines

-- ---- code over columns and variables of known kinds

abbrev pub is_known : Letter → Option Letter → Bool
is_known k None = false
is_known k (Some l) = is_letter k l

-- whether the variable or the column that the operation names is there, and of the kind k
abbrev pub is_of_kind : List Letter → List Letter → Op → Letter → Bool
is_of_kind columns variables (op.Variable i) k = is_known k (slice_get variables i)
is_of_kind columns variables (op.Column i) k = is_known k (slice_get columns i)
is_of_kind columns variables o k = true

-- each variable and column that the code names is there, and of the kind with which the lines say its letter, and the code
-- ends with that letter
abbrev pub does_fit : List Letter → List Letter → List Line → Letter → Bool
does_fit columns variables lines end = ends_with (is_of_kind columns variables) lines end
