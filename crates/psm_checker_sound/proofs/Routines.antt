-- Routines that have no fault: what is known of their heads, and that no two of them are alike.
use Rattle.std.proofs.Common.{◌≡◌, ℕ, Bool, true, false, List, [], ◌∷◌, map, Option, Some, None, option_map, ap, sym}
use Rattle.std.specs.Prelude.{if◌then◌else◌}
use Rattle.psm_value.specs.declared.sqltype.SqlType.{SqlType}
use Rattle.psm_value.specs.declared.sqltype.SqlType.TheVariants as types
use Rattle.psm_scope.specs.Choice as choice
use Rattle.psm_rules.specs.declared.fault.Fault.{Fault}
use Rattle.psm_rules.specs.declared.rule.Rule.TheVariants as rule
use Rattle.psm_rules.specs.BlockFaults.{statement_fault}
use Rattle.psm_rules.specs.Faults.{first_of}
use Rattle.psm_rules.specs.FileFaults.{body_context, is_function, kind_of, characteristics_fault, parameter_fault, result_fault, return_fault, routine_fault, routines_fault, distinct}
use Rattle.psm_rules.specs.StatementFaults.{repeated}
use Rattle.psm_rules.specs.Types.{decimals, digits_within, length_in, type_in, type_of, whole}
use Rattle.psm_rules.specs.CheckerScope.{SymbolTable}
use Rattle.psm_tree.specs.declared.file.Parameter.{Parameter}
use Rattle.psm_tree.specs.declared.file.Routine.{Routine}
use Rattle.psm_tree.specs.declared.types.DataType.{DataType}
use Rattle.psm_tree.specs.declared.types.TypeForm.{TypeForm}
use Rattle.psm_tree.specs.declared.types.TypeForm.TheVariants as forms
use Rattle.psm_resolve_expr.specs.Exprs.{type_known}
use Rattle.psm_typing.specs.TypingContext.{Each}
use Rattle.psm_checker_sound.proofs.Columns.{type-known}
use Rattle.psm_checker_sound.proofs.Faultless.{none-each, none-first}
use Rattle.psm_checker_sound.proofs.Parts.{neither}

-- ---- what no fault in a routine says

pub record IsAccepted (symbols : SymbolTable) (r : Routine) : Type 0 where
  pub names : repeated rule.ParameterRepeated (map (λ p. p.name) r.parameters) ≡ None
  pub parameters : Each (λ p. parameter_fault (is_function r) p ≡ None) r.parameters
  pub result : result_fault r.returns ≡ None
  pub body : statement_fault r.body (body_context symbols r) ≡ None

record RoutineParts (symbols : SymbolTable) (before : List Routine) (r : Routine) : Type 0 where
  apart : distinct r before ≡ None
  accepted : IsAccepted symbols r

routine-parts : (symbols : SymbolTable) (before : List Routine) (r : Routine) → routine_fault symbols before r ≡ None → RoutineParts symbols before r
routine-parts symbols before r none =
    let names : Option Fault = repeated rule.ParameterRepeated (map (λ p. p.name) r.parameters) in
    let parameters : Option Fault = first_of (map (parameter_fault (is_function r)) r.parameters) in
    let characteristics : Option Fault = first_of (characteristics_fault [] r.characteristics) in
    let body : Option Fault = statement_fault r.body (body_context symbols r) in
    let one = none-first (distinct r before) (return_fault r ∷ names ∷ parameters ∷ result_fault r.returns ∷ characteristics ∷ body ∷ []) none in
    let two = none-first (return_fault r) (names ∷ parameters ∷ result_fault r.returns ∷ characteristics ∷ body ∷ []) one.1 in
    let three = none-first names (parameters ∷ result_fault r.returns ∷ characteristics ∷ body ∷ []) two.1 in
    let four = none-first parameters (result_fault r.returns ∷ characteristics ∷ body ∷ []) three.1 in
    let five = none-first (result_fault r.returns) (characteristics ∷ body ∷ []) four.1 in
    let six = none-first characteristics (body ∷ []) five.1 in
    let seven = none-first body [] six.1 in
    record {
      apart = one.0;
      accepted = record { names = three.0; parameters = none-each (parameter_fault (is_function r)) r.parameters four.0; result = five.0; body = seven.0 };
    }

pub routines-accepted : (symbols : SymbolTable) (before rs : List Routine) → first_of (routines_fault symbols before rs) ≡ None → Each (IsAccepted symbols) rs
routines-accepted symbols before [] none = tt
routines-accepted symbols before (r ∷ rs) none =
    let parts = none-first (routine_fault symbols before r) (routines_fault symbols (r ∷ before) rs) none in
    ((routine-parts symbols before r parts.0).accepted, routines-accepted symbols (r ∷ before) rs parts.1)

abbrev pub AreDistinct : List Routine → List Routine → Type 0
AreDistinct before [] = Unit {0}
AreDistinct before (r ∷ rs) = (distinct r before ≡ None) × AreDistinct (r ∷ before) rs

pub routines-apart : (symbols : SymbolTable) (before rs : List Routine) → first_of (routines_fault symbols before rs) ≡ None → AreDistinct before rs
routines-apart symbols before [] none = tt
routines-apart symbols before (r ∷ rs) none =
    let parts = none-first (routine_fault symbols before r) (routines_fault symbols (r ∷ before) rs) none in
    ((routine-parts symbols before r parts.0).apart, routines-apart symbols (r ∷ before) rs parts.1)

-- the routine, with another result or none
abbrev pub with_result : Routine → Option DataType → Routine
with_result r o = record r { returns = o }

-- ---- types of parameters

abbrev pub IsTypeKnown : Parameter → Type 0
IsTypeKnown p = type_of p.kind ≡ Some (type_known (type_of p.kind))

pub parameter-known : (of_function : Bool) (p : Parameter) → parameter_fault of_function p ≡ None → IsTypeKnown p
parameter-known of_function p none = type-known p.kind (neither _ _ none).1

pub parameters-known : (of_function : Bool) (ps : List Parameter) → Each (λ p. parameter_fault of_function p ≡ None) ps → Each IsTypeKnown ps
parameters-known of_function [] none = tt
parameters-known of_function (p ∷ ps) none = (parameter-known of_function p none.0, parameters-known of_function ps none.1)

pub result-known : (t : DataType) → result_fault (Some t) ≡ None → type_of t ≡ Some (type_known (type_of t))
result-known t none = type-known t none

inside : (a b : SqlType) → Some a ≡ Some b → a ≡ b
inside a b h = cc

-- the kind of a type is that of its form
char-kind : (o : Option ℕ) (t : SqlType) → option_map (λ n. types.Char n) o ≡ Some t → choice.kind_of t ≡ kind_of (forms.Char None)
char-kind None t h = absurd cc
char-kind (Some n) t h = ap choice.kind_of (sym (inside (types.Char n) t h))

varchar-kind : (o : Option ℕ) (t : SqlType) (n : _) → option_map (λ n. types.VarChar n) o ≡ Some t → choice.kind_of t ≡ kind_of (forms.VarChar n)
varchar-kind None t n h = absurd cc
varchar-kind (Some k) t n h = ap choice.kind_of (sym (inside (types.VarChar k) t h))

numeric-kind : (p s : Option ℕ) (t : SqlType) → digits_within p s ≡ Some t → choice.kind_of t ≡ kind_of (forms.Numeric None)
numeric-kind None s t h = absurd cc
numeric-kind (Some p) None t h = absurd cc
numeric-kind (Some p) (Some s) t h = by _ h
  where
    by : (b : Bool) → (if b then Some (types.Numeric p s) else None) ≡ Some t → choice.kind_of t ≡ kind_of (forms.Numeric None)
    by true h = ap choice.kind_of (sym (inside (types.Numeric p s) t h))
    by false h = absurd cc

form-kind : (f : TypeForm) (t : SqlType) → type_in f ≡ Some t → choice.kind_of t ≡ kind_of f
form-kind forms.SmallInt t h = ap choice.kind_of (sym (inside types.SmallInt t h))
form-kind forms.Integer t h = ap choice.kind_of (sym (inside types.Integer t h))
form-kind (forms.Numeric None) t h = ap choice.kind_of (sym (inside (types.Numeric 18 0) t h))
form-kind (forms.Numeric (Some p)) t h = numeric-kind (whole p.precision) (decimals p.scale) t h
form-kind (forms.Char None) t h = ap choice.kind_of (sym (inside (types.Char 1) t h))
form-kind (forms.Char (Some n)) t h = char-kind (length_in (whole n)) t h
form-kind (forms.VarChar n) t h = varchar-kind (length_in (whole n)) t n h

pub known-kind : (p : Parameter) → IsTypeKnown p → choice.kind_of (type_known (type_of p.kind)) ≡ kind_of p.kind.form
known-kind p h = form-kind p.kind.form (type_known (type_of p.kind)) h
