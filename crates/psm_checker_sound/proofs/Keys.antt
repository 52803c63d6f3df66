-- The keys of a table whose elements have no fault: lists of its columns, none of them twice; and those of the primary key refuse null.
use Rattle.std.proofs.Common.{◌≡◌, inl, inr, ℕ, zero, suc, ◌+◌, Bool, true, false, ◌||◌, not, nat_eq, List, [], ◌∷◌, length, map, Option, Some, None, refl, ap, sym, ◌∙◌, subst, arith, eqb-true}
use Rattle.std.specs.Prelude.{if◌then◌else◌, is_some, slice_get}
use Rattle.std.specs.List.{list_any}
use Rattle.std.specs.Option.{IfSome}
use Rattle.std.proofs.lemmas.List.{length-map}
use Rattle.std.proofs.lemmas.Slice.Eq.{bytes_eq-Decides}
use Rattle.psm_symbols.specs.Columns.{column_of, place_in}
use Rattle.psm_value.specs.declared.sqltype.SqlType.{SqlType}
use Rattle.psm_scope.specs.Scopes.{Spelling, is_spelled}
use Rattle.psm_scope.specs.Lookup.{named, or_else, index_named}
use Rattle.psm_rules.specs.declared.rule.Rule.TheVariants as rule
use Rattle.psm_rules.specs.Faults.{first_of}
use Rattle.psm_rules.specs.FileFaults.{element_fault, table_rule_fault}
use Rattle.psm_rules.specs.StatementFaults.{column_fault, columns_fault, repeated, several}
use Rattle.psm_rules.specs.Types.{type_of}
use Rattle.psm_rules.specs.CheckerScope.{Columns, CheckerScope}
use Rattle.psm_tree.specs.declared.name.Identifier.{Identifier}
use Rattle.psm_tree.specs.declared.file.ColumnRule.{ColumnRule}
use Rattle.psm_tree.specs.declared.file.Element.{Element}
use Rattle.psm_tree.specs.declared.file.Element.TheVariants as elements
use Rattle.psm_tree.specs.declared.file.TableRuleForm.{TableRuleForm}
use Rattle.psm_tree.specs.declared.file.TableRuleForm.TheVariants as table_rules
use Rattle.psm_code.specs.Rules.{are_distinct, is_among, is_there}
use Rattle.psm_code.specs.Rules as lines
use Rattle.psm_code.specs.TableRules.{are_there, is_column_list}
use Rattle.psm_resolve.specs.Files.{element_key, key_among, own_key, rule_key, says_primary}
use Rattle.psm_typing.specs.TypingContext.{Among, Each}
use Rattle.psm_checker_sound.proofs.Columns.{pairs_of}
use Rattle.psm_checker_sound.proofs.Faultless.{none-each, unbroken}
use Rattle.psm_checker_sound.proofs.Flags.{both-hold}
use Rattle.psm_checker_sound.proofs.NewNames.{AreNew, first_in, names-new}
use Rattle.psm_checker_sound.proofs.Parts.{neither}

-- ---- the place of a name among names

abbrev names_of : Columns → List Spelling
names_of columns = map first_in columns

-- a column of that name is there
abbrev pub IsNamed : Columns → Identifier → Type 0
IsNamed columns n = is_some (named n.name columns) ≡ true

-- the place among columns counted from i
place-checked : (i : ℕ) (n : Identifier) (columns : Columns) → IsNamed columns n → (j : ℕ) × (place_in (index_named i n.name columns) ≡ i + j) × (slice_get (names_of columns) j ≡ Some n.name)
place-checked i n [] h = absurd cc
place-checked i n (c ∷ columns) h = by (is_spelled n.name c.0) refl (λ k. place-checked (suc i) n columns k) h
  where
    by : (b : Bool) → is_spelled n.name c.0 ≡ b → (is_some (named n.name columns) ≡ true → (j : ℕ) × (place_in (index_named (suc i) n.name columns) ≡ suc i + j) × (slice_get (names_of columns) j ≡ Some n.name))
        → is_some (if b then Some c.1 else named n.name columns) ≡ true
        → (j : ℕ) × (place_in (if b then Some (i, c.1) else index_named (suc i) n.name columns) ≡ i + j) × (slice_get (c.0 ∷ names_of columns) j ≡ Some n.name)
    by true is later h = (0, omega arith, ap (λ m. Some m) (sym ((bytes_eq-Decides n.name c.0).0 is)))
    by false is later h = let checked = later h in (suc checked.0, omega (arith, checked.1), checked.2)

pub name-there : (n : Identifier) (columns : Columns) → IsNamed columns n → slice_get (names_of columns) (column_of columns n) ≡ Some n.name
name-there n columns h =
    let checked = place-checked 0 n columns h in
    let is : column_of columns n ≡ checked.0 = omega (arith, checked.1) in
    ap (slice_get (names_of columns)) is ∙ checked.2

some-there : {A B : Type 0} (xs : List A) (ys : List B) (i : ℕ) (x : A) → length xs ≡ length ys → slice_get xs i ≡ Some x → is_there ys i ≡ true
some-there [] ys i x long h = absurd cc
some-there (x ∷ xs) [] i y long h = absurd (no-length (length xs) long)
  where
    no-length : (n : ℕ) → suc n ≡ 0 → ⊥
    no-length n h = omega (arith, h)
some-there (x ∷ xs) (y ∷ ys) zero z long h = refl
some-there (x ∷ xs) (y ∷ ys) (suc i) z long h = some-there xs ys i z (omega (arith, long)) h

-- ---- lists of columns

not-any : (n m : Spelling) (before : List Spelling) → list_any (is_spelled n) before ≡ false → Among m before → is_spelled n m ≡ false
not-any n m [] h a = absurd a
not-any n m (b ∷ before) h (inl is) = subst (λ x. is_spelled n x ≡ false) (sym is) (first (is_spelled n b) (list_any (is_spelled n) before) h)
  where
    first : (a c : Bool) → (a || c) ≡ false → a ≡ false
    first true c h = absurd cc
    first false c h = refl
not-any n m (b ∷ before) h (inr a) = not-any n m before (other (is_spelled n b) (list_any (is_spelled n) before) h) a
  where
    other : (a c : Bool) → (a || c) ≡ false → c ≡ false
    other true c h = absurd cc
    other false c h = h

new-after : (m : Spelling) (before : List Spelling) (ns : List Identifier) → AreNew before (map (λ n. n.name) ns) → Among m before → Each (λ n. is_spelled n.name m ≡ false) ns
new-after m before [] h a = tt
new-after m before (n ∷ ns) h a = (not-any n.name m before h.0 a, new-after m (n.name ∷ before) ns h.1 (inr a))

-- two columns in one place have one name
same-place : (columns : Columns) (n m : Identifier) → IsNamed columns n → IsNamed columns m → nat_eq (column_of columns n) (column_of columns m) ≡ true → is_spelled m.name n.name ≡ true
same-place columns n m h k is =
    let place : column_of columns n ≡ column_of columns m = eqb-true (column_of columns n) (column_of columns m) is in
    let same : Some n.name ≡ Some m.name = sym (name-there n columns h) ∙ ap (slice_get (names_of columns)) place ∙ name-there m columns k in
    (bytes_eq-Decides m.name n.name).1 (sym (inside n.name m.name same))
  where
    inside : (a b : Spelling) → Some a ≡ Some b → a ≡ b
    inside a b h = cc

not-both : (b : Bool) → b ≡ true → b ≡ false → ⊥
not-both b h k = cc

not-among : (columns : Columns) (n : Identifier) (ns : List Identifier) → IsNamed columns n → Each (IsNamed columns) ns → Each (λ m. is_spelled m.name n.name ≡ false) ns → is_among (column_of columns n) (map (column_of columns) ns) ≡ false
not-among columns n [] h hs new = refl
not-among columns n (m ∷ ns) h hs new = by (nat_eq (column_of columns n) (column_of columns m)) refl (not-among columns n ns h hs.1 new.1)
  where
    by : (b : Bool) → nat_eq (column_of columns n) (column_of columns m) ≡ b → is_among (column_of columns n) (map (column_of columns) ns) ≡ false → (if b then true else is_among (column_of columns n) (map (column_of columns) ns)) ≡ false
    by true is later = absurd (not-both (is_spelled m.name n.name) (same-place columns n m h hs.0 is) new.0)
    by false is later = later

places-distinct : (columns : Columns) (before : List Spelling) (ns : List Identifier) → Each (IsNamed columns) ns → AreNew before (map (λ n. n.name) ns) → are_distinct (map (column_of columns) ns) ≡ true
places-distinct columns before [] h new = refl
places-distinct columns before (n ∷ ns) h new =
    both-hold _ _ (ap not (not-among columns n ns h.0 h.1 (new-after n.name (n.name ∷ before) ns new.1 (inl refl)))) (places-distinct columns (n.name ∷ before) ns h.1 new.1)

-- names of columns, one at least and none twice
pub record IsList (columns : Columns) (ns : List Identifier) : Type 0 where
  pub some : lines.is_some ns ≡ true
  pub named : Each (IsNamed columns) ns
  pub new : AreNew [] (map (λ n. n.name) ns)

some-mapped : {A B : Type 0} (f : A → B) (xs : List A) → lines.is_some xs ≡ true → lines.is_some (map f xs) ≡ true
some-mapped f [] h = h
some-mapped f (x ∷ xs) h = refl

pub list-places : (columns : Columns) (ns : List Identifier) → IsList columns ns → is_column_list (map (column_of columns) ns) ≡ true
list-places columns ns h = both-hold _ _ (some-mapped (column_of columns) ns h.some) (places-distinct columns [] ns h.named h.new)

pub list-there : {A : Type 0} (columns : Columns) (ys : List A) (ns : List Identifier) → length columns ≡ length ys → Each (IsNamed columns) ns → are_there ys (map (column_of columns) ns) ≡ true
list-there columns ys [] long h = refl
list-there columns ys (n ∷ ns) long h =
    both-hold _ _ (some-there (names_of columns) ys (column_of columns n) n.name (length-map columns first_in ∙ long) (name-there n columns h.0)) (list-there columns ys ns long h.1)

-- a list of columns that has no fault
column-named : (columns : Columns) (n : Identifier) → column_fault (Some columns) n ≡ None → IsNamed columns n
column-named columns n none = by (is_some (named n.name columns)) (unbroken (not (is_some (named n.name columns))) rule.UnknownColumn n.place none)
  where
    by : (b : Bool) → not b ≡ false → b ≡ true
    by true h = refl
    by false h = absurd cc

columns-named : (columns : Columns) (ns : List Identifier) → Each (λ n. column_fault (Some columns) n ≡ None) ns → Each (IsNamed columns) ns
columns-named columns [] h = tt
columns-named columns (n ∷ ns) h = (column-named columns n h.0, columns-named columns ns h.1)

pub listed : (columns : Columns) (ns : List Identifier) → lines.is_some ns ≡ true → columns_fault (Some columns) ns ≡ None → IsList columns ns
listed columns ns some none =
    let parts = neither (first_of (map (column_fault (Some columns)) ns)) (repeated rule.ColumnRepeated ns) none in record {
      some = some;
      named = columns-named columns ns (none-each (column_fault (Some columns)) ns parts.0);
      new = names-new rule.ColumnRepeated [] ns parts.1;
    }

-- ---- the names of the columns themselves

abbrev pub OwnNamed : Columns → Element → Type 0
OwnNamed columns (elements.Column name kind default rules) = IsNamed columns name
OwnNamed columns (elements.Rule rule) = Unit {0}

own-first : (name : Identifier) (t : Option SqlType) (columns : Columns) → is_some (named name.name ((name.name, t) ∷ columns)) ≡ true
own-first name t columns = ap (λ b. is_some (if b then Some t else named name.name columns)) ((bytes_eq-Decides name.name name.name).1 refl)

own-later : (m n : Spelling) (t : Option SqlType) (columns : Columns) → is_some (named n columns) ≡ true → is_some (named n ((m, t) ∷ columns)) ≡ true
own-later m n t columns h = by (is_spelled n m)
  where
    by : (b : Bool) → is_some (if b then Some t else named n columns) ≡ true
    by true = refl
    by false = h

pub own-named : (columns : Columns) (es : List Element) → ((n : Spelling) → is_some (named n (pairs_of es)) ≡ true → is_some (named n columns) ≡ true) → Each (OwnNamed columns) es
own-named columns [] h = tt
own-named columns (elements.Column name kind default rules ∷ es) h =
    (h name.name (own-first name (type_of kind) (pairs_of es)), own-named columns es (λ n is. h n (own-later name.name n (type_of kind) (pairs_of es) is)))
own-named columns (elements.Rule rule ∷ es) h = (tt, own-named columns es h)

-- ---- the primary key

pub one-name : (columns : Columns) (name : Identifier) → IsNamed columns name → IsList columns (name ∷ [])
one-name columns name h = record { some = refl; named = (h, tt); new = (refl, tt) }

own-key : (columns : Columns) (name : Identifier) (rules : List ColumnRule) → IsNamed columns name → IfSome (own_key name rules) (IsList columns)
own-key columns name [] h = tt
own-key columns name (r ∷ rules) h = by (says_primary r.form) (own-key columns name rules h)
  where
    by : (b : Bool) → IfSome (own_key name rules) (IsList columns) → IfSome (if b then Some (name ∷ []) else own_key name rules) (IsList columns)
    by true later = one-name columns name h
    by false later = later

rule-key : (v : CheckerScope) (columns : Columns) (form : TableRuleForm) → table_rule_fault v columns form ≡ None → IfSome (rule_key form) (IsList columns)
rule-key v columns (table_rules.PrimaryKey names) none = listed columns (several names) refl none
rule-key v columns (table_rules.Unique names) none = tt
rule-key v columns (table_rules.Check e) none = tt
rule-key v columns (table_rules.ForeignKey names to) none = tt

element-key : (v : CheckerScope) (columns : Columns) (e : Element) → OwnNamed columns e → element_fault v columns e ≡ None → IfSome (element_key e) (IsList columns)
element-key v columns (elements.Column name kind default rules) own none = own-key columns name rules own
element-key v columns (elements.Rule r) own none = rule-key v columns r.form none

either : (P : List Identifier → Type 0) (a b : Option (List Identifier)) → IfSome a P → IfSome b P → IfSome (or_else a b) P
either P None b h k = k
either P (Some a) b h k = h

pub key-listed : (v : CheckerScope) (columns : Columns) (es : List Element) → Each (OwnNamed columns) es → Each (λ e. element_fault v columns e ≡ None) es → IfSome (key_among es) (IsList columns)
key-listed v columns [] own none = tt
key-listed v columns (e ∷ es) own none = either (IsList columns) (element_key e) (key_among es) (element-key v columns e own.0 none.0) (key-listed v columns es own.1 none.1)
