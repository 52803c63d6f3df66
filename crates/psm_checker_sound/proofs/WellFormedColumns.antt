-- The columns of INSERT and UPDATE without a fault: each is there with its type, and none stands twice.
use Rattle.std.proofs.Common.{◌≡◌, ◌⊎◌, inl, inr, ℕ, zero, suc, ◌+◌, ◌≤◌, Bool, true, false, ◌||◌, List, [], ◌∷◌, map, length, Option, Some, None, option_map, refl, ap, sym, ◌∙◌, subst, arith}
use Rattle.std.specs.Prelude.{IfSome, if◌then◌else◌, nat_eq, not, slice_get}
use Rattle.std.specs.Prelude.{is_some as some}
use Rattle.std.specs.List.{list_all, list_any}
use Rattle.std.proofs.lemmas.Bool.Decides.{nat_tests}
use Rattle.std.proofs.lemmas.Slice.Eq.{bytes_eq-Decides}
use Rattle.psm_symbols.specs.Columns.{all_places, column_of, inserted, place_in}
use Rattle.psm_token.specs.declared.place.Place.{Place}
use Rattle.psm_value.specs.declared.sqltype.SqlType.{SqlType}
use Rattle.psm_exprcode.specs.declared.op.Letter.{Letter}
use Rattle.psm_exprcode.specs.Kinds.{letter_of}
use Rattle.psm_scope.specs.Scopes.{Spelling, is_spelled}
use Rattle.psm_scope.specs.Lookup.{index_named}
use Rattle.psm_rules.specs.declared.fault.Fault.{Fault}
use Rattle.psm_rules.specs.declared.rule.Rule.TheVariants as rule
use Rattle.psm_rules.specs.Faults.{breaks_if, first_of}
use Rattle.psm_rules.specs.StatementFaults.{column_fault, columns_fault, inserted_types, listed_columns, repeated, repeated_from, several, type_of_column}
use Rattle.psm_rules.specs.CheckerScope.{Columns}
use Rattle.psm_rules.proofs.Earliest.{first_of_cons}
use Rattle.psm_tree.specs.Names.{Names}
use Rattle.psm_tree.specs.declared.name.Identifier.{Identifier}
use Rattle.psm_table.specs.Definition.{kinds_of}
use Rattle.psm_table.specs.declared.definition.Column.{Column}
use Rattle.psm_code.specs.Rules.{are_distinct, is_among, is_some, is_there, there}
use Rattle.psm_code.specs.TableRules.{are_there, is_column_list}
use Rattle.psm_typing.specs.TypingContext.{letters_of}
use Rattle.psm_checker_sound.specs.Agreement.{HaveTypes}
use Rattle.psm_checker_sound.proofs.Judging.{letter_there}
use Rattle.psm_checker_sound.proofs.Choices.{all_true}
use Rattle.psm_checker_sound.proofs.Parts.{neither, true_false}
use Rattle.psm_checker_sound.proofs.Queries.{named_placed, types_some}
use Rattle.psm_checker_sound.proofs.Updating.{IsThereAs, column_there}

not_true : (b : Bool) → b ≡ false → not b ≡ true
not_true b h = ap not h

-- ---- columns with what goes into them

-- a type is due at each column, and its letter is that of the column
abbrev pub AreDue : List Letter → List ℕ → List (Option SqlType) → Type 0
AreDue letters [] [] = Unit {0}
AreDue letters [] (k ∷ ks) = ⊥
AreDue letters (c ∷ cs) [] = ⊥
AreDue letters (c ∷ cs) (k ∷ ks) = ((t : SqlType) × (k ≡ Some t) × (slice_get letters c ≡ Some (letter_of t))) × AreDue letters cs ks

-- some columns of a table, none of them twice
pub record AreSome (columns : List Column) (cs : List ℕ) : Type 0 where
  pub list : is_column_list cs ≡ true
  pub there : are_there columns cs ≡ true

-- ---- all columns

all_due : (letters : List Letter) (i : ℕ) (rest : Columns) (ts : List SqlType) → HaveTypes rest ts → ((k : ℕ) (t : SqlType) → slice_get ts k ≡ Some t → slice_get letters (i + k) ≡ Some (letter_of t)) → AreDue letters (all_places i rest) (map (λ p. p.1) rest)
all_due letters i [] [] h at = tt
all_due letters i [] (t ∷ ts) h at = absurd h
all_due letters i (c ∷ rest) [] h at = absurd h
all_due letters i (c ∷ rest) (t ∷ ts) h at = (
  (t, h.0, subst (λ j. slice_get letters j ≡ Some (letter_of t)) zero_more (at 0 t refl)),
  all_due letters (suc i) rest ts h.2 (λ k u there. subst (λ j. slice_get letters j ≡ Some (letter_of u)) (one_more k) (at (suc k) u there)),
)
  where
    zero_more : i + 0 ≡ i
    zero_more = omega arith

    one_more : (k : ℕ) → i + suc k ≡ suc i + k
    one_more k = omega arith

none_below : (n i : ℕ) (cs : Columns) → suc n ≤ i → is_among n (all_places i cs) ≡ false
none_below n i [] h = refl
none_below n i (c ∷ cs) h = ap (λ b. if b then true else is_among n (all_places (suc i) cs)) (less n i h) ∙ none_below n (suc i) cs (omega (arith, h))
  where
    less : (n i : ℕ) → suc n ≤ i → nat_eq n i ≡ false
    less n i h = grind (arith, nat_tests, h)

all_distinct : (i : ℕ) (cs : Columns) → are_distinct (all_places i cs) ≡ true
all_distinct i [] = refl
all_distinct i (c ∷ cs) = all_true (not (is_among i (all_places (suc i) cs))) (are_distinct (all_places (suc i) cs)) (not_true (is_among i (all_places (suc i) cs)) (none_below i (suc i) cs (omega arith))) (all_distinct (suc i) cs)

places_some : (i : ℕ) (cs : Columns) → is_some cs ≡ true → is_some (all_places i cs) ≡ true
places_some i [] h = absurd cc
places_some i (c ∷ cs) h = refl

place_there : {A : Type 0} (xs : List A) (n : ℕ) → suc n ≤ length xs → is_there xs n ≡ true
place_there [] n h = absurd (no_less n h)
  where
    no_less : (n : ℕ) → suc n ≤ 0 → ⊥
    no_less n h = omega (arith, h)
place_there (x ∷ xs) zero h = refl
place_there (x ∷ xs) (suc n) h = place_there xs n (omega (arith, h))

all_there : {A : Type 0} (xs : List A) (i : ℕ) (cs : Columns) → i + length cs ≤ length xs → list_all (is_there xs) (all_places i cs) ≡ true
all_there xs i [] h = refl
all_there xs i (c ∷ cs) h = all_true (is_there xs i) (list_all (is_there xs) (all_places (suc i) cs)) (place_there xs i (omega (arith, h))) (all_there xs (suc i) cs (omega (arith, h)))

types_many : (cs : Columns) (columns : List Column) → HaveTypes cs (kinds_of columns) → length cs ≡ length columns
types_many [] [] h = refl
types_many [] (c ∷ columns) h = absurd h
types_many (c ∷ cs) [] h = absurd h
types_many (c ∷ cs) (d ∷ columns) h = ap suc (types_many cs columns h.2)

-- ---- columns that are named

-- a name is that of a column at a place
record IsAt (cs : Columns) (i : ℕ) (n : Spelling) (p : ℕ × Option SqlType) : Type 0 where
  place : ℕ
  from : p.0 ≡ i + place
  column : Spelling × Option SqlType
  at : slice_get cs place ≡ Some column
  name : n ≡ column.0

next_at : (c : Spelling × Option SqlType) (cs : Columns) (i : ℕ) (n : Spelling) (o : Option (ℕ × Option SqlType)) → IfSome o (IsAt cs (suc i) n) → IfSome o (IsAt (c ∷ cs) i n)
next_at c cs i n None h = tt
next_at c cs i n (Some p) h = record { place = suc h.place; from = omega (arith, h.from); column = h.column; at = h.at; name = h.name }

first_at : (c : Spelling × Option SqlType) (cs : Columns) (i : ℕ) (n : Spelling) (b : Bool) (o : Option (ℕ × Option SqlType)) → is_spelled n c.0 ≡ b → IfSome o (IsAt (c ∷ cs) i n) → IfSome (if b then Some (i, c.1) else o) (IsAt (c ∷ cs) i n)
first_at c cs i n true o is h = record { place = 0; from = omega arith; column = c; at = refl; name = (bytes_eq-Decides n c.0).0 is }
first_at c cs i n false o is h = h

named_at : (n : Spelling) (i : ℕ) (cs : Columns) → IfSome (index_named i n cs) (IsAt cs i n)
named_at n i [] = tt
named_at n i (c ∷ cs) = first_at c cs i n (is_spelled n c.0) (index_named (suc i) n cs) refl (next_at c cs i n (index_named (suc i) n cs) (named_at n (suc i) cs))

-- names of columns at one place are one name
same_column : (cs : Columns) (m n : Spelling) (p q : ℕ × Option SqlType) → IsAt cs 0 m p → IsAt cs 0 n q → p.0 ≡ q.0 → m ≡ n
same_column cs m n p q g h same =
    let place : g.place ≡ h.place = omega (arith, g.from, h.from, same) in
    let column : g.column ≡ h.column = column_same g.column h.column (sym g.at ∙ ap (slice_get cs) place ∙ h.at) in
    g.name ∙ ap (λ c. c.0) column ∙ sym h.name
  where
    column_same : (c d : Spelling × Option SqlType) → Some c ≡ Some d → c ≡ d
    column_same c d h = cc

-- so names that differ have different places, if they are those of columns
apart_by : (cs : Columns) (m n : Spelling) (o q : Option (ℕ × Option SqlType)) (b : Bool) → IfSome o (IsAt cs 0 m) → IfSome q (IsAt cs 0 n) → there o ≡ true → there q ≡ true → is_spelled n m ≡ false → nat_eq (place_in o) (place_in q) ≡ b → b ≡ false
apart_by cs m n None q b g h o_there q_there differ is = absurd cc
apart_by cs m n (Some p) None b g h o_there q_there differ is = absurd cc
apart_by cs m n (Some p) (Some q) false g h o_there q_there differ is = refl
apart_by cs m n (Some p) (Some q) true g h o_there q_there differ is =
    absurd (true_false (sym ((bytes_eq-Decides n m).1 (sym (same_column cs m n p q g h (equal p.0 q.0 is)))) ∙ differ))
  where
    equal : (a b : ℕ) → nat_eq a b ≡ true → a ≡ b
    equal a b h = grind (arith, nat_tests, h)

abbrev is_column : Columns → Identifier → Bool
is_column cs n = there (index_named 0 n.name cs)

apart : (cs : Columns) (m n : Identifier) → is_column cs m ≡ true → is_column cs n ≡ true → is_spelled n.name m.name ≡ false → nat_eq (column_of cs m) (column_of cs n) ≡ false
apart cs m n g h differ = apart_by cs m.name n.name (index_named 0 m.name cs) (index_named 0 n.name cs) (nat_eq (column_of cs m) (column_of cs n)) (named_at m.name 0 cs) (named_at n.name 0 cs) g h differ refl

-- ---- names none of which stands twice

-- no name after those before is among them
abbrev AreNew : List Spelling → List Identifier → Type 0
AreNew before [] = Unit {0}
AreNew before (n ∷ ns) = (list_any (is_spelled n.name) before ≡ false) × AreNew (n.name ∷ before) ns

not_any : (b : Bool) (place : Place) → breaks_if b rule.ColumnRepeated place ≡ None → b ≡ false
not_any true place none = absurd cc
not_any false place none = refl

new_names : (before : List Spelling) (ns : List Identifier) → first_of (repeated_from rule.ColumnRepeated before ns) ≡ None → AreNew before ns
new_names before [] none = tt
new_names before (n ∷ ns) none =
    let fault : Option Fault = breaks_if (list_any (is_spelled n.name) before) rule.ColumnRepeated n.place in
    let others : List (Option Fault) = repeated_from rule.ColumnRepeated (n.name ∷ before) ns in
    let parts = neither fault (first_of others) (sym (first_of_cons fault others) ∙ none) in
    (not_any (list_any (is_spelled n.name) before) n.place parts.0, new_names (n.name ∷ before) ns parts.1)

neither_true : (a b : Bool) → (a || b) ≡ false → (a ≡ false) × (b ≡ false)
neither_true true b h = absurd cc
neither_true false b h = (refl, h)

-- a name that stands before is none of those after it
abbrev IsNone : Spelling → List Identifier → Type 0
IsNone m [] = Unit {0}
IsNone m (n ∷ ns) = (is_spelled n.name m ≡ false) × IsNone m ns

-- whether one is among those before
abbrev Holds : Spelling → List Spelling → Type 0
Holds m [] = ⊥
Holds m (n ∷ ns) = (m ≡ n) ⊎ Holds m ns

none_held : (n : Spelling) (m : Spelling) (before : List Spelling) → Holds m before → list_any (is_spelled n) before ≡ false → is_spelled n m ≡ false
none_held n m [] h none = absurd h
none_held n m (k ∷ before) (inl same) none = ap (is_spelled n) same ∙ (neither_true (is_spelled n k) (list_any (is_spelled n) before) none).0
none_held n m (k ∷ before) (inr h) none = none_held n m before h (neither_true (is_spelled n k) (list_any (is_spelled n) before) none).1

none_after : (m : Spelling) (before : List Spelling) (ns : List Identifier) → Holds m before → AreNew before ns → IsNone m ns
none_after m before [] h new = tt
none_after m before (n ∷ ns) h new = (none_held n.name m before h new.0, none_after m (n.name ∷ before) ns (inr h) new.1)

-- ---- named columns are some, and none of them stands twice

abbrev AllColumns : Columns → List Identifier → Type 0
AllColumns cs [] = Unit {0}
AllColumns cs (n ∷ ns) = (is_column cs n ≡ true) × AllColumns cs ns

not_among : (cs : Columns) (m : Identifier) (ns : List Identifier) → is_column cs m ≡ true → AllColumns cs ns → IsNone m.name ns → is_among (column_of cs m) (map (column_of cs) ns) ≡ false
not_among cs m [] g h none = refl
not_among cs m (n ∷ ns) g h none =
    ap (λ b. if b then true else is_among (column_of cs m) (map (column_of cs) ns)) (apart cs m n g h.0 none.0) ∙ not_among cs m ns g h.1 none.1

named_distinct : (cs : Columns) (before : List Spelling) (ns : List Identifier) → AllColumns cs ns → AreNew before ns → are_distinct (map (column_of cs) ns) ≡ true
named_distinct cs before [] h new = refl
named_distinct cs before (n ∷ ns) h new =
    all_true (not (is_among (column_of cs n) (map (column_of cs) ns))) (are_distinct (map (column_of cs) ns))
    (not_true (is_among (column_of cs n) (map (column_of cs) ns)) (not_among cs n ns h.0 h.1 (none_after n.name (n.name ∷ before) ns (inl refl) new.1)))
    (named_distinct cs (n.name ∷ before) ns h.1 new.1)

mapped_there : {A C : Type 0} (f : A → C) (xs : List A) (i : ℕ) (y : C) → slice_get (map f xs) i ≡ Some y → is_there xs i ≡ true
mapped_there f [] i y h = absurd cc
mapped_there f (x ∷ xs) zero y h = refl
mapped_there f (x ∷ xs) (suc i) y h = mapped_there f xs i y h

checked_by : (o : Option (ℕ × Option SqlType)) (place : Place) → breaks_if (not (some (option_map (λ p. p.1) o))) rule.UnknownColumn place ≡ None → there o ≡ true
checked_by None place none = absurd cc
checked_by (Some p) place none = refl

-- a name without a fault is that of a column
column_is : (cs : Columns) (n : Identifier) → column_fault (Some cs) n ≡ None → is_column cs n ≡ true
column_is cs n none = checked_by (index_named 0 n.name cs) n.place (ap (λ o. breaks_if (not (some o)) rule.UnknownColumn n.place) (sym (named_placed n.name 0 cs)) ∙ none)

-- what is known of columns that have no fault
record AreNamed (cs : Columns) (columns : List Column) (ns : List Identifier) : Type 0 where
  all : AllColumns cs ns
  there : are_there columns (map (column_of cs) ns) ≡ true
  due : AreDue (letters_of (kinds_of columns)) (map (column_of cs) ns) (map (type_of_column cs) ns)

are_named : (cs : Columns) (columns : List Column) (ns : List Identifier) → HaveTypes cs (kinds_of columns) → first_of (map (column_fault (Some cs)) ns) ≡ None → AreNamed cs columns ns
are_named cs columns [] h none = record { all = tt; there = refl; due = tt }
are_named cs columns (n ∷ ns) h none =
    let parts = neither (column_fault (Some cs) n) (first_of (map (column_fault (Some cs)) ns)) (sym (first_of_cons (column_fault (Some cs) n) (map (column_fault (Some cs)) ns)) ∙ none) in
    let i : IsThereAs cs (kinds_of columns) n = column_there cs (kinds_of columns) n h parts.0 in
    let more : AreNamed cs columns ns = are_named cs columns ns h parts.1 in record {
      all = (column_is cs n parts.0, more.all);
      there = all_true (is_there columns (column_of cs n)) (are_there columns (map (column_of cs) ns)) (mapped_there (λ c. c.kind) columns (column_of cs n) i.type i.there) more.there;
      due = ((i.type, i.known, letter_there (kinds_of columns) (column_of cs n) i.type i.there), more.due);
    }

-- a list of columns without a fault
pub listed_some : (cs : Columns) (columns : List Column) (n : Identifier) (ns : List Identifier) → HaveTypes cs (kinds_of columns) → columns_fault (Some cs) (n ∷ ns) ≡ None → AreSome columns (map (column_of cs) (n ∷ ns))
listed_some cs columns n ns h none =
    let parts = neither (first_of (map (column_fault (Some cs)) (n ∷ ns))) (repeated rule.ColumnRepeated (n ∷ ns)) none in
    let a : AreNamed cs columns (n ∷ ns) = are_named cs columns (n ∷ ns) h parts.0 in
    record { list = named_distinct cs [] (n ∷ ns) a.all (new_names [] (n ∷ ns) parts.1); there = a.there }

pub listed_due : (cs : Columns) (columns : List Column) (ns : List Identifier) → HaveTypes cs (kinds_of columns) → columns_fault (Some cs) ns ≡ None → AreDue (letters_of (kinds_of columns)) (map (column_of cs) ns) (map (type_of_column cs) ns)
listed_due cs columns ns h none = (are_named cs columns ns h (neither (first_of (map (column_fault (Some cs)) ns)) (repeated rule.ColumnRepeated ns) none).0).due

-- ---- the columns of INSERT: those that are named, or all

pub inserted_some : (cs : Columns) (columns : List Column) (names : Option Names) → HaveTypes cs (kinds_of columns) → is_some columns ≡ true → columns_fault (Some cs) (listed_columns names) ≡ None → AreSome columns (inserted cs names)
inserted_some cs columns None h given none = record {
  list = all_true (is_some (all_places 0 cs)) (are_distinct (all_places 0 cs)) (places_some 0 cs (types_some cs columns h given)) (all_distinct 0 cs);
  there = all_there columns 0 cs (omega (arith, types_many cs columns h));
}
inserted_some cs columns (Some names) h given none = listed_some cs columns names.first names.rest h none

-- the types that are due at them
pub inserted_due : (cs : Columns) (columns : List Column) (names : Option Names) → HaveTypes cs (kinds_of columns) → columns_fault (Some cs) (listed_columns names) ≡ None
    → (ks : List (Option SqlType)) × (inserted_types (Some cs) names ≡ Some ks) × AreDue (letters_of (kinds_of columns)) (inserted cs names) ks
inserted_due cs columns None h none = (map (λ p. p.1) cs, refl, all_due (letters_of (kinds_of columns)) 0 cs (kinds_of columns) h (λ k t there. subst (λ j. slice_get (letters_of (kinds_of columns)) j ≡ Some (letter_of t)) (from_first k) (letter_there (kinds_of columns) k t there)))
  where
    from_first : (k : ℕ) → k ≡ 0 + k
    from_first k = omega arith
inserted_due cs columns (Some names) h none = (map (type_of_column cs) (several names), refl, listed_due cs columns (several names) h none)
