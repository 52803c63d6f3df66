-- The columns of a table whose elements have no fault: of types within bounds, each name once, and with defaults as they are stored.
use Rattle.std.proofs.Common.{◌≡◌, ℕ, suc, Bool, true, false, ◌&&◌, ◌||◌, not, List, [], ◌∷◌, ◌++◌, map, Option, Some, None, Result, Ok, Err, refl, ap, sym, ◌∙◌, subst, eq-eqb}
use Rattle.std.specs.Prelude.{is_none}
use Rattle.std.specs.List.{list_all, list_any}
use Rattle.std.proofs.lemmas.Bool.Decides.{Decides-int_eq}
use Rattle.std.proofs.lemmas.List.Folds.{list_all-append}
use Rattle.std.proofs.lemmas.Slice.Eq.{bytes_eq-Decides}
use Rattle.psm_token.specs.declared.place.Place.{Place}
use Rattle.psm_sqlstate.specs.declared.state.SqlState.{SqlState}
use Rattle.psm_value.specs.Stored.{stored}
use Rattle.psm_value.specs.declared.datum.Datum.{Datum}
use Rattle.psm_value.specs.declared.datum.Datum.TheVariants as data_of
use Rattle.psm_value.specs.declared.sqltype.SqlType.{SqlType}
use Rattle.psm_value.proofs.Stable.{stored-again}
use Rattle.psm_exprcode.specs.WellFormed.{is_type}
use Rattle.psm_exprcode.proofs.Types.{within_is}
use Rattle.psm_scope.proofs.Found.{spelled_back}
use Rattle.psm_scope.specs.Scopes.{Spelling, is_spelled}
use Rattle.psm_rules.specs.declared.rule.Rule.TheVariants as rule
use Rattle.psm_rules.specs.ExprFaults.{type_fault}
use Rattle.psm_rules.specs.Faults.{breaks_if}
use Rattle.psm_rules.specs.FileFaults.{column_names, column_rule_fault, columns_from, columns_of, constant_fault, datum_of, default_fits, element_fault, fits_family, is_stored, with_column}
use Rattle.psm_rules.specs.Shapes.{family_of, typed}
use Rattle.psm_rules.specs.StatementFaults.{repeated}
use Rattle.psm_rules.specs.Types.{type_of}
use Rattle.psm_rules.specs.CheckerScope.{Columns, CheckerScope}
use Rattle.psm_tree.specs.declared.file.Element.{Element}
use Rattle.psm_tree.specs.declared.file.Element.TheVariants as elements
use Rattle.psm_tree.specs.declared.types.Constant.{Constant}
use Rattle.psm_tree.specs.declared.types.DataType.{DataType}
use Rattle.psm_table.specs.Definition.{kinds_of}
use Rattle.psm_table.specs.declared.definition.Column.{Column}
use Rattle.psm_code.specs.declared.rule.CodeRule.{CodeRule}
use Rattle.psm_code.specs.declared.rule.CodeRule.TheVariants.{Range, Definition}
use Rattle.psm_code.specs.Rules as lines
use Rattle.psm_code.specs.Rules.{each_after, is_same, unless}
use Rattle.psm_code.specs.TableRules.{column_fault, is_as_stored, same_datum}
use Rattle.psm_resolve_expr.specs.Exprs.{type_known}
use Rattle.psm_resolve.specs.Files.{column_with, default_of, defined_from, stored_as}
use Rattle.psm_declare.proofs.Bounds.{known_within}
use Rattle.psm_typing.specs.TypingContext.{Each}
use Rattle.psm_wellformed.specs.Files.{NoFault}
use Rattle.psm_checker_sound.specs.Agreement.{HaveTypes}
use Rattle.psm_checker_sound.proofs.Faultless.{none-first, unbroken}
use Rattle.psm_checker_sound.proofs.Flags.{both-hold, not-false}
use Rattle.psm_checker_sound.proofs.NewNames.{AreNew, declared-all, declared_all, first_in, names-new}

-- ---- names and types, in order

abbrev pub pairs_of : List Element → Columns
pairs_of [] = []
pairs_of (elements.Column name kind default rules ∷ es) = (name.name, type_of kind) ∷ pairs_of es
pairs_of (elements.Rule rule ∷ es) = pairs_of es

columns-declared : (columns : Columns) (es : List Element) → columns_from columns es ≡ declared_all columns (pairs_of es)
columns-declared columns [] = refl
columns-declared columns (elements.Column name kind default rules ∷ es) = columns-declared (with_column columns (elements.Column name kind default rules)) es
columns-declared columns (elements.Rule rule ∷ es) = columns-declared columns es

pub pair-names : (es : List Element) → map first_in (pairs_of es) ≡ map (λ n. n.name) (column_names es)
pair-names [] = refl
pair-names (elements.Column name kind default rules ∷ es) = ap (λ ns. name.name ∷ ns) (pair-names es)
pair-names (elements.Rule rule ∷ es) = pair-names es

pub pairs-new : (es : List Element) → repeated rule.ColumnRepeated (column_names es) ≡ None → AreNew [] (map first_in (pairs_of es))
pairs-new es none = subst (AreNew []) (sym (pair-names es)) (names-new rule.ColumnRepeated [] (column_names es) none)

pub columns-are : (es : List Element) → repeated rule.ColumnRepeated (column_names es) ≡ None → columns_of es ≡ pairs_of es
columns-are es none = columns-declared [] es ∙ declared-all [] [] (pairs_of es) (λ n. refl) (pairs-new es none)

-- ---- types

pub type-is : (t : DataType) → is_type (type_known (type_of t)) ≡ true
type-is t = sym (within_is (type_known (type_of t)) true (λ _. known_within t, λ _. refl))

type-there : (o : Option SqlType) (place : Place) → breaks_if (is_none o) rule.TypeOutOfRange place ≡ None → o ≡ Some (type_known o)
type-there None place none = absurd cc
type-there (Some t) place none = refl

pub type-known : (t : DataType) → type_fault t (type_of t) ≡ None → type_of t ≡ Some (type_known (type_of t))
type-known t none = type-there (type_of t) t.place none

-- what is said of an element that is a column
abbrev pub IsTyped : Element → Type 0
IsTyped (elements.Column name kind default rules) = (type_of kind ≡ Some (type_known (type_of kind))) × (constant_fault (type_of kind) default ≡ None)
IsTyped (elements.Rule rule) = Unit {0}

pub element-typed : (v : CheckerScope) (columns : Columns) (e : Element) → element_fault v columns e ≡ None → IsTyped e
element-typed v columns (elements.Column name kind default rules) none =
    let first = none-first (type_fault kind (type_of kind)) (constant_fault (type_of kind) default ∷ map (λ r. column_rule_fault v r.form) rules) none in
    let second = none-first (constant_fault (type_of kind) default) (map (λ r. column_rule_fault v r.form) rules) first.1 in
    (type-known kind first.0, second.0)
element-typed v columns (elements.Rule rule) none = tt

pub columns-typed : (key : List ℕ) (place : ℕ) (es : List Element) → Each IsTyped es → HaveTypes (pairs_of es) (kinds_of (defined_from key place es))
columns-typed key place [] h = tt
columns-typed key place (elements.Column name kind default rules ∷ es) h = (h.0.0, type-is kind, columns-typed key (suc place) es h.1)
columns-typed key place (elements.Rule rule ∷ es) h = columns-typed key place es h.1

-- ---- defaults

same-datum : (d : Datum) → same_datum d d ≡ true
same-datum data_of.Null = refl
same-datum (data_of.Num n) = both-hold _ _ ((Decides-int_eq n.coef n.coef).1 refl) (eq-eqb n.scale n.scale refl)
same-datum (data_of.Text t) = (bytes_eq-Decides t t).1 refl

stored-as_is : (t : SqlType) (d : Datum) (r : Result Datum SqlState) → stored t d ≡ r → is_stored r ≡ true → is_as_stored (stored t (stored_as r)) (stored_as r) ≡ true
stored-as_is t d (Ok e) is h = ap (λ r. is_as_stored r e) (stored-again t d e is) ∙ same-datum e
stored-as_is t d (Err s) is h = absurd cc

second : (a b : Bool) → (a && b) ≡ true → b ≡ true
second true b h = h
second false b h = absurd cc

constant-stored : (t : SqlType) (default : Option Constant) → constant_fault (Some t) default ≡ None → is_as_stored (stored t (default_of t default)) (default_of t default) ≡ true
constant-stored t None none = refl
constant-stored t (Some c) none = stored-as_is t (datum_of c.form) (stored t (datum_of c.form)) refl
    (second (fits_family (family_of (typed t).kind) (datum_of c.form)) (is_stored (stored t (datum_of c.form))) (not-false (default_fits t (datum_of c.form)) (unbroken (not (default_fits t (datum_of c.form))) rule.ConstantDoesNotFit c.place none)))

-- ---- columns, each of which sees those before it

-- the names before are those of the columns before
abbrev Names : List Spelling → List Column → Type 0
Names before columns = (n : Spelling) → list_all (λ d. not (is_same d.name n)) columns ≡ not (list_any (is_spelled n) before)

last-all : (test : Column → Bool) (c : Column) (cs : List Column) → list_all test (cs ++ c ∷ []) ≡ list_all test cs && test c
last-all test c cs = list_all-append test cs (c ∷ []) ∙ ap (λ b. list_all test cs && b) (one (test c))
  where
    one : (b : Bool) → (b && true) ≡ b
    one true = refl
    one false = refl

not-either : (a b : Bool) → (not b && not a) ≡ not (a || b)
not-either true true = refl
not-either true false = refl
not-either false true = refl
not-either false false = refl

names-more : (before : List Spelling) (columns : List Column) (c : Column) → Names before columns → Names (c.name ∷ before) (columns ++ c ∷ [])
names-more before columns c h n =
    last-all (λ d. not (is_same d.name n)) c columns
    ∙ ap (λ b. b && not (is_same c.name n)) (h n)
    ∙ ap (λ b. not (list_any (is_spelled n) before) && not b) (spelled_back c.name n)
    ∙ not-either (is_spelled n c.name) (list_any (is_spelled n) before)

pub clear : (a b : Bool) (q r : CodeRule) → a ≡ true → b ≡ true → lines.first_of (unless a q ∷ unless b r ∷ []) ≡ None
clear true true q r h k = refl
clear true false q r h k = absurd cc
clear false b q r h k = absurd cc

column-clear : (before : List Spelling) (columns : List Column) (c : Column) → Names before columns → list_any (is_spelled c.name) before ≡ false → is_type c.kind ≡ true → is_as_stored (stored c.kind c.default) c.default ≡ true
    → Each NoFault (column_fault columns c)
column-clear before columns c names new is stored_so =
    (clear (is_type c.kind) _ Range Definition is (both-hold _ _ (names c.name ∙ ap not new) stored_so), tt)

pub columns-clear : (key : List ℕ) (place : ℕ) (es : List Element) (before : List Spelling) (columns : List Column) → Names before columns → AreNew before (map first_in (pairs_of es)) → Each IsTyped es
    → Each NoFault (each_after column_fault columns (defined_from key place es))
columns-clear key place [] before columns names new typed = tt
columns-clear key place (elements.Column name kind default rules ∷ es) before columns names new typed =
    let t : SqlType = type_known (type_of kind) in
    let c : Column = column_with key place name.name t default rules in
    let fine : is_as_stored (stored t (default_of t default)) (default_of t default) ≡ true = constant-stored t default (subst (λ o. constant_fault o default ≡ None) typed.0.0 typed.0.1) in
    ((column-clear before columns c names new.0 (type-is kind) fine).0, columns-clear key (suc place) es (name.name ∷ before) (columns ++ c ∷ []) (names-more before columns c names) new.1 typed.1)
columns-clear key place (elements.Rule rule ∷ es) before columns names new typed = columns-clear key place es before columns names new typed.1
