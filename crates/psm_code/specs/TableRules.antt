-- The rules of tables and of expressions in code, line by line of the listing.
use Rattle.std.specs.Cmp.Lexicographic.{pointwise}
use Rattle.std.specs.Prelude.{ℕ, suc, Bool, true, false, ◌&&◌, ◌||◌, not, nat_eq, nat_le, nat_lt, List, [], ◌∷◌, ◌++◌, filter, length, map, reverse, slice_get, zip, Option, Some, None, Result, Ok, Err}
use Rattle.std.specs.List.{flat_map, list_all, list_any}
use Rattle.std.specs.Ordering.{int_eq}
use Rattle.psm_sqlstate.specs.declared.state.SqlState.{SqlState}
use Rattle.psm_value.specs.declared.datum.Datum.{Datum}
use Rattle.psm_value.specs.declared.datum.Datum.TheVariants as data_of
use Rattle.psm_value.specs.Stored.{stored}
use Rattle.psm_num.specs.Num.{Num}
use Rattle.psm_exprcode.specs.declared.op.Letter.{Letter}
use Rattle.psm_exprcode.specs.declared.op.Letter.TheVariants.{N, B}
use Rattle.psm_exprcode.specs.declared.op.Line.{Line}
use Rattle.psm_exprcode.specs.declared.op.Op.{Op}
use Rattle.psm_exprcode.specs.declared.op.Op.TheVariants as op
use Rattle.psm_exprcode.specs.Kinds.{has_letter, is_letter, letter_of, some_letter, some_value}
use Rattle.psm_exprcode.specs.Operations.{Effect, effect}
use Rattle.psm_exprcode.specs.WellFormed.{is_of_kind, is_type, left_of, same_stack}
use Rattle.psm_table.specs.declared.definition.Column.{Column}
use Rattle.psm_table.specs.declared.definition.ForeignKey.{ForeignKey}
use Rattle.psm_table.specs.declared.definition.TableDef.{TableDef}
use Rattle.psm_code.specs.declared.code.CodeTable.{CodeTable}
use Rattle.psm_code.specs.declared.rule.CodeRule.{CodeRule}
use Rattle.psm_code.specs.declared.rule.CodeRule.TheVariants.{Range, Target, Stack, Turn, Definition}
use Rattle.psm_code.specs.Instructions.{column_letters}
use Rattle.psm_code.specs.Rules.{are_distinct, each_after, first_of, is_same, is_some, is_there, there, unless, where_there}

-- ---- expressions over columns and variables of known letters; lines are numbered from 0, and a jump may lead to their end

abbrev pub names_there : List Letter → List Letter → Op → Bool
names_there columns variables (op.Variable i) = is_there variables i
names_there columns variables (op.Column i) = is_there columns i
names_there columns variables o = true

-- scales and types are within bounds
abbrev pub is_in_bounds : Op → Bool
is_in_bounds (op.Rescale s) = nat_le s 18
is_in_bounds (op.Cast to) = is_type to
is_in_bounds o = true

-- a constant is of its letter
abbrev pub is_of_letter : Op → Bool
is_of_letter (op.Constant k d) = has_letter k d
is_of_letter o = true

-- the line at which an operation may go on instead of the one that follows
abbrev pub target_of : Op → Option ℕ
target_of (op.Jump p) = Some p
target_of (op.JumpUnlessTrue p) = Some p
target_of (op.JumpUnlessNull p) = Some p
target_of o = None

-- the operands, the last one first, are those that a line states; at the end, where a letter is asked for, one of that letter
abbrev pub are_stated_at : Option Letter → Option Line → List Letter → Bool
are_stated_at end (Some l) s = same_stack s (reverse l.stack)
are_stated_at None None s = true
are_stated_at (Some k) None s = same_stack s (k ∷ [])

-- at the line that follows, and at the one to which an operation may jump
abbrev pub falls_on : Option Letter → List Line → ℕ → Option (List Letter) → List Letter → Bool
falls_on end lines at None rest = true
falls_on end lines at (Some puts) rest = are_stated_at end (slice_get lines (suc at)) (puts ++ rest)

abbrev pub jumps_on : Option Letter → List Line → Option (ℕ × List Letter) → List Letter → Bool
jumps_on end lines None rest = true
jumps_on end lines (Some jump) rest = are_stated_at end (slice_get lines jump.0) (jump.1 ++ rest)

abbrev pub are_stated_after : Option Letter → List Line → ℕ → Effect → Option (List Letter) → Bool
are_stated_after end lines at e None = false
are_stated_after end lines at e (Some rest) = falls_on end lines at e.fall_through rest && jumps_on end lines e.branching rest

-- the operation of a line finds the operands that it takes, and brings those that are stated wherever it goes on
abbrev pub operands_follow : List Letter → List Letter → Option Letter → List Line → ℕ → Op → List Letter → Bool
operands_follow columns variables end lines at o s =
    is_of_letter o && some_value (λ k. is_of_kind columns variables o k && some_letter (λ x. are_stated_after end lines at (effect o k x) (left_of (effect o k x).takes s)))

-- the first line states no operand
abbrev pub is_bare_first : ℕ → List Letter → Bool
is_bare_first at s = not (nat_eq at 0) || same_stack [] s

-- the rule that a line with that operation over those operands breaks by itself, whatever it brings at the end
abbrev pub op_fault : List Letter → List Letter → List Line → ℕ → Op → List Letter → Option CodeRule
op_fault columns variables lines at o s = first_of (
    unless (names_there columns variables o && is_in_bounds o) Range
    ∷ unless (where_there (target_of o) (λ p. nat_le p (length lines))) Target
    ∷ unless (is_bare_first at s && operands_follow columns variables None lines at o s) Stack
    ∷ unless (where_there (target_of o) (nat_lt at)) Turn ∷ [])

abbrev pub expr_line_faults : List Letter → List Letter → List Line → ℕ → List Line → List (Option CodeRule)
expr_line_faults columns variables lines at [] = []
expr_line_faults columns variables lines at (l ∷ after) = op_fault columns variables lines at l.op (reverse l.stack) ∷ expr_line_faults columns variables lines (suc at) after

-- ---- the end of an expression

abbrev pub is_at : ℕ → Option ℕ → Bool
is_at n None = false
is_at n (Some p) = nat_eq p n

-- an operation of n lines goes on at their end
abbrev pub reaches_end : ℕ → ℕ → Op → Bool
reaches_end n at o = (there (effect o N N).fall_through && nat_eq (suc at) n) || is_at n (target_of o)

-- whether a test holds of each line that goes on at the end
abbrev pub at_ends : (ℕ → Op → List Letter → Bool) → ℕ → ℕ → List Line → Bool
at_ends test n at [] = true
at_ends test n at (l ∷ after) = (not (reaches_end n at l.op) || test at l.op (reverse l.stack)) && at_ends test n (suc at) after

-- each line that goes on at the end brings one operand there, of the letter
abbrev pub all_bring : List Letter → List Letter → List Line → Letter → Bool
all_bring columns variables lines k = at_ends (operands_follow columns variables (Some k) lines) (length lines) 0 lines

-- Some line goes on at the end, and those that do bring one operand there, of one letter that is due. This isn't asked where one of
-- them breaks a rule by itself.
abbrev pub ends_due : List Letter → List Letter → (Letter → Bool) → List Line → Bool
ends_due columns variables due lines =
    not (at_ends (λ at o s. not (there (op_fault columns variables lines at o s))) (length lines) 0 lines)
    || (not (at_ends (λ at o s. false) (length lines) 0 lines) && some_letter (λ k. due k && all_bring columns variables lines k))

-- an expression: its own line, at which it is reported that it doesn't end with one operand of a letter that is due, and its lines
abbrev pub expr_faults : List Letter → List Letter → (Letter → Bool) → List Line → List (Option CodeRule)
expr_faults columns variables due lines = unless (ends_due columns variables due lines) Stack ∷ expr_line_faults columns variables lines 0 lines

-- ---- columns

abbrev pub same_number : Num → Num → Bool
same_number a b = int_eq a.coef b.coef && nat_eq a.scale b.scale

abbrev pub same_datum : Datum → Datum → Bool
same_datum data_of.Null data_of.Null = true
same_datum data_of.Null (data_of.Num n) = false
same_datum data_of.Null (data_of.Text t) = false
same_datum (data_of.Num n) data_of.Null = false
same_datum (data_of.Num n) (data_of.Num k) = same_number n k
same_datum (data_of.Num n) (data_of.Text t) = false
same_datum (data_of.Text t) data_of.Null = false
same_datum (data_of.Text t) (data_of.Num n) = false
same_datum (data_of.Text t) (data_of.Text u) = is_same t u

-- whether a type takes the value as it is
abbrev pub is_as_stored : Result Datum SqlState → Datum → Bool
is_as_stored (Err s) d = false
is_as_stored (Ok e) d = same_datum e d

abbrev pub column_fault : List Column → Column → List (Option CodeRule)
column_fault before c = first_of (
    unless (is_type c.kind) Range
    ∷ unless (list_all (λ d. not (is_same d.name c.name)) before && is_as_stored (stored c.kind c.default) c.default) Definition ∷ []) ∷ []

-- ---- lists of columns

abbrev pub are_there : {A : Type 0} → List A → List ℕ → Bool
are_there xs ns = list_all (is_there xs) ns

abbrev pub is_column_list : List ℕ → Bool
is_column_list ns = is_some ns && are_distinct ns

abbrev pub refuses_null : List Column → ℕ → Bool
refuses_null columns n = where_there (slice_get columns n) (λ c. c.not_null)

abbrev pub key_fault : TableDef → Option CodeRule
key_fault def = first_of (
    unless (are_there def.columns def.key) Range
    ∷ unless (is_column_list def.key && list_all (refuses_null def.columns) def.key) Definition ∷ [])

abbrev pub unique_fault : TableDef → List ℕ → Option CodeRule
unique_fault def columns = first_of (unless (are_there def.columns columns) Range ∷ unless (is_column_list columns) Definition ∷ [])

-- ---- FOREIGN KEY constraints

-- the constraints of a table
abbrev pub keys_from : List ForeignKey → ℕ → List ForeignKey
keys_from keys n = filter (λ key. nat_eq key.from n) keys

-- whether they stand in the order of the referencing tables, which are counted
abbrev pub are_in_turn : ℕ → ℕ → List ForeignKey → Bool
are_in_turn at count [] = true
are_in_turn at count (key ∷ keys) = (nat_le at key.from && nat_lt key.from count) && are_in_turn key.from count keys

-- whether a column of one table and a column of the other are of one family
abbrev pub pairs_up : TableDef → TableDef → ℕ × ℕ → Bool
pairs_up from to (a, b) = where_there (slice_get from.columns a) (λ c. where_there (slice_get to.columns b) (λ d. is_letter (letter_of c.kind) (letter_of d.kind)))

-- the key or one of the UNIQUE lists, in order
abbrev pub is_one_of_keys : TableDef → List ℕ → Bool
is_one_of_keys def target = list_any (pointwise nat_eq target) (def.key ∷ def.unique)

-- between a table and one that it refers to
abbrev pub pair_fault : TableDef → ForeignKey → TableDef → Option CodeRule
pair_fault from key to = first_of (
    unless (are_there from.columns key.columns && are_there to.columns key.target) Range
    ∷ unless ((is_column_list key.columns && is_column_list key.target)
    && ((nat_eq (length key.columns) (length key.target) && list_all (pairs_up from to) (zip key.columns key.target)) && is_one_of_keys to key.target)) Definition ∷ [])

abbrev pub foreign_key_to : TableDef → ForeignKey → Option CodeTable → Option CodeRule
foreign_key_to from key None = Some Range
foreign_key_to from key (Some to) = pair_fault from key to.definition

abbrev pub foreign_key_fault : List CodeTable → CodeTable → ForeignKey → Option CodeRule
foreign_key_fault before t key = foreign_key_to t.definition key (slice_get (before ++ t ∷ []) key.to)

-- ---- tables: the line of the table, those of its columns, of its key, of its UNIQUE lists, of its FOREIGN KEY constraints and of its CHECKs,
-- which see no variable

abbrev pub name_fault : List CodeTable → CodeTable → Option CodeRule
name_fault before t = unless (list_all (λ u. not (is_same u.definition.name t.definition.name)) before) Definition

-- a table with its constraints
abbrev pub faults_of_table : List ForeignKey → List CodeTable → CodeTable → List (Option CodeRule)
faults_of_table own before t =
    name_fault before t
    ∷ each_after column_fault [] t.definition.columns
    ++ key_fault t.definition
    ∷ map (unique_fault t.definition) t.definition.unique
    ++ map (foreign_key_fault before t) own
    ++ flat_map (expr_faults (column_letters t) [] (is_letter B)) t.checks

abbrev pub table_faults : List ForeignKey → List CodeTable → CodeTable → List (Option CodeRule)
table_faults keys before t = faults_of_table (keys_from keys (length before)) before t
