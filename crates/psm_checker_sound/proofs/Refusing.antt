-- A table has a primary key, whose columns refuse null, and its other lists of columns that are UNIQUE.
use Rattle.std.proofs.Common.{◌≡◌, ℕ, zero, suc, ◌+◌, Bool, true, false, ◌&&◌, ◌||◌, nat_eq, List, [], ◌∷◌, ◌++◌, length, map, Option, Some, None, refl, ap, sym, ◌∙◌, subst, arith, eq-eqb}
use Rattle.std.specs.Prelude.{if◌then◌else◌, slice_get}
use Rattle.std.specs.List.{list_all, list_any}
use Rattle.std.specs.Option.{IfSome}
use Rattle.psm_symbols.specs.Columns.{column_of}
use Rattle.psm_scope.specs.Lookup.{or_else}
use Rattle.psm_rules.specs.FileFaults.{column_rule_keys, element_fault, element_keys, key_fault, keys_of, own_keys, rule_keys, table_rule_fault}
use Rattle.psm_rules.specs.StatementFaults.{several}
use Rattle.psm_rules.specs.Types.{type_of}
use Rattle.psm_rules.specs.CheckerScope.{Columns, CheckerScope}
use Rattle.psm_tree.specs.declared.name.Identifier.{Identifier}
use Rattle.psm_tree.specs.declared.file.ColumnRule.{ColumnRule}
use Rattle.psm_tree.specs.declared.file.ColumnRuleForm.{ColumnRuleForm}
use Rattle.psm_tree.specs.declared.file.ColumnRuleForm.TheVariants as column_rules
use Rattle.psm_tree.specs.declared.file.Element.{Element}
use Rattle.psm_tree.specs.declared.file.Element.TheVariants as elements
use Rattle.psm_tree.specs.declared.file.TableRuleForm.{TableRuleForm}
use Rattle.psm_tree.specs.declared.file.TableRuleForm.TheVariants as table_rules
use Rattle.psm_table.specs.declared.definition.Column.{Column}
use Rattle.psm_table.specs.declared.definition.TableDef.{TableDef}
use Rattle.psm_code.specs.Rules.{is_there, where_there}
use Rattle.psm_code.specs.TableRules.{are_there, is_column_list, refuses_null, unique_fault}
use Rattle.psm_code.specs.declared.rule.CodeRule.TheVariants.{Range, Definition}
use Rattle.psm_resolve_expr.specs.Exprs.{type_known}
use Rattle.psm_resolve.specs.Files.{column_with, defined_from, element_key, key_among, own_key, own_unique, own_uniques, places_in, rule_key, says_primary, rule_unique, says_not_null, uniques_from}
use Rattle.psm_typing.specs.TypingContext.{Each}
use Rattle.psm_wellformed.specs.Files.{NoFault}
use Rattle.psm_checker_sound.proofs.Columns.{clear, pairs_of}
use Rattle.psm_checker_sound.proofs.DeclaredOnce.{each_append}
use Rattle.psm_checker_sound.proofs.Flags.{both-hold}
use Rattle.psm_checker_sound.proofs.Keys.{IsList, list-places, list-there, listed}

-- ---- there is a key

own-none : (name : Identifier) (rules : List ColumnRule) → own_key name rules ≡ None → own_keys name.name rules ≡ []
own-none name [] none = refl
own-none name (r ∷ rules) none = by r.form none (own-none name rules)
  where
    by : (form : ColumnRuleForm) → (if says_primary form then Some (name ∷ []) else own_key name rules) ≡ None → (own_key name rules ≡ None → own_keys name.name rules ≡ []) → column_rule_keys name.name form ++ own_keys name.name rules ≡ []
    by column_rules.NotNull none later = later none
    by column_rules.PrimaryKey none later = absurd cc
    by column_rules.Unique none later = later none
    by (column_rules.Check e) none later = later none
    by (column_rules.References to) none later = later none

rule-none : (form : TableRuleForm) → rule_key form ≡ None → rule_keys form ≡ []
rule-none (table_rules.PrimaryKey names) none = absurd cc
rule-none (table_rules.Unique names) none = refl
rule-none (table_rules.Check e) none = refl
rule-none (table_rules.ForeignKey names to) none = refl

element-none : (e : Element) → element_key e ≡ None → element_keys e ≡ []
element-none (elements.Column name kind default rules) none = own-none name rules none
element-none (elements.Rule r) none = rule-none r.form none

neither-key : (a b : Option (List Identifier)) → or_else a b ≡ None → (a ≡ None) × (b ≡ None)
neither-key None b h = (refl, h)
neither-key (Some a) b h = absurd cc

no-key : (es : List Element) → key_among es ≡ None → keys_of es ≡ []
no-key [] none = refl
no-key (e ∷ es) none =
    let parts = neither-key (element_key e) (key_among es) none in
    ap (λ ks. ks ++ keys_of es) (element-none e parts.0) ∙ no-key es parts.1

-- exactly one is declared
one-key : (table : Identifier) (es : List Element) → key_fault table (keys_of es) ≡ None → key_among es ≡ None → ⊥
one-key table es none h = absurd (fault (ap (key_fault table) (sym (no-key es h)) ∙ none))
  where
    fault : key_fault table [] ≡ None → ⊥
    fault h = cc

pub key-places : (columns : Columns) (o : Option (List Identifier)) → (o ≡ None → ⊥) → IfSome o (IsList columns) → is_column_list (places_in columns o) ≡ true
key-places columns None some h = absurd (some refl)
key-places columns (Some ns) some h = list-places columns ns h

pub key-there : {A : Type 0} (columns : Columns) (ys : List A) (o : Option (List Identifier)) → length columns ≡ length ys → IfSome o (IsList columns) → are_there ys (places_in columns o) ≡ true
key-there columns ys None long h = refl
key-there columns ys (Some ns) long h = list-there columns ys ns long h.named

pub has-key : (table : Identifier) (es : List Element) (columns : Columns) → key_fault table (keys_of es) ≡ None → IfSome (key_among es) (IsList columns) → is_column_list (places_in columns (key_among es)) ≡ true
has-key table es columns none h = key-places columns (key_among es) (one-key table es none) h

-- ---- its columns refuse null

-- the column in a place refuses null where the place is one of the key
refusing : (key : List ℕ) (place : ℕ) (es : List Element) (i j : ℕ) (c : Column) → i ≡ place + j → slice_get (defined_from key place es) j ≡ Some c → list_any (nat_eq i) key ≡ true → c.not_null ≡ true
refusing key place [] i j c is there among = absurd cc
refusing key place (elements.Column name kind default rules ∷ es) i zero c is there among =
    let own : Column = column_with key place name.name (type_known (type_of kind)) default rules in
    let same : own ≡ c = inside own c there in
    let here : i ≡ place = omega (arith, is) in
    ap (λ d. d.not_null) (sym same) ∙ either (list_any (λ r. says_not_null r.form) rules) (list_any (nat_eq place) key) (subst (λ k. list_any (nat_eq k) key ≡ true) here among)
  where
    inside : (a b : Column) → Some a ≡ Some b → a ≡ b
    inside a b h = cc

    either : (a b : Bool) → b ≡ true → (a || b) ≡ true
    either true b h = refl
    either false b h = h
refusing key place (elements.Column name kind default rules ∷ es) i (suc j) c is there among = refusing key (suc place) es i j c (omega (arith, is)) there among
refusing key place (elements.Rule rule ∷ es) i j c is there among = refusing key place es i j c is there among

refuses-at : (key : List ℕ) (es : List Element) (i : ℕ) → list_any (nat_eq i) key ≡ true → refuses_null (defined_from key 0 es) i ≡ true
refuses-at key es i among = by (slice_get (defined_from key 0 es) i) refl
  where
    by : (o : Option Column) → slice_get (defined_from key 0 es) i ≡ o → where_there o (λ c. c.not_null) ≡ true
    by None is = refl
    by (Some c) is = refusing key 0 es i i c (omega arith) is among

refuse-all : (key : List ℕ) (es : List Element) (ks : List ℕ) → ((i : ℕ) → list_any (nat_eq i) ks ≡ true → list_any (nat_eq i) key ≡ true) → list_all (refuses_null (defined_from key 0 es)) ks ≡ true
refuse-all key es [] h = refl
refuse-all key es (k ∷ ks) h =
    both-hold _ _ (refuses-at key es k (h k (ap (λ b. b || list_any (nat_eq k) ks) (eq-eqb k k refl)))) (refuse-all key es ks (λ i is. h i (later (nat_eq i k) (list_any (nat_eq i) ks) is)))
  where
    later : (a b : Bool) → b ≡ true → (a || b) ≡ true
    later true b h = refl
    later false b h = h

pub key-refuses : (key : List ℕ) (es : List Element) → list_all (refuses_null (defined_from key 0 es)) key ≡ true
key-refuses key es = refuse-all key es key (λ i h. h)

-- ---- lists that are UNIQUE

abbrev pub IsUnique : TableDef → List ℕ → Type 0
IsUnique def ns = NoFault (unique_fault def ns)

unique-list : (def : TableDef) (columns : Columns) (ns : List Identifier) → length columns ≡ length def.columns → IsList columns ns → IsUnique def (map (column_of columns) ns)
unique-list def columns ns long h = clear _ _ Range Definition (list-there columns def.columns ns long h.named) (list-places columns ns h)

unique-one : (def : TableDef) (place : ℕ) → is_there def.columns place ≡ true → IsUnique def (place ∷ [])
unique-one def place h = clear _ _ Range Definition (ap (λ b. b && true) h) refl

own-unique : (def : TableDef) (place : ℕ) (rules : List ColumnRule) → is_there def.columns place ≡ true → Each (IsUnique def) (own_uniques place rules)
own-unique def place [] h = tt
own-unique def place (r ∷ rules) h = each_append (IsUnique def) (own_unique place r.form) (own_uniques place rules) (by r.form) (own-unique def place rules h)
  where
    by : (form : ColumnRuleForm) → Each (IsUnique def) (own_unique place form)
    by column_rules.NotNull = tt
    by column_rules.PrimaryKey = tt
    by column_rules.Unique = (unique-one def place h, tt)
    by (column_rules.Check e) = tt
    by (column_rules.References to) = tt

rule-unique : (def : TableDef) (v : CheckerScope) (columns : Columns) (form : TableRuleForm) → length columns ≡ length def.columns → table_rule_fault v columns form ≡ None → Each (IsUnique def) (rule_unique columns form)
rule-unique def v columns (table_rules.PrimaryKey names) long none = tt
rule-unique def v columns (table_rules.Unique names) long none = (unique-list def columns (several names) long (listed columns (several names) refl none), tt)
rule-unique def v columns (table_rules.Check e) long none = tt
rule-unique def v columns (table_rules.ForeignKey names to) long none = tt

there-below : {A : Type 0} (xs : List A) (i k : ℕ) → length xs ≡ i + suc k → is_there xs i ≡ true
there-below [] i k h = absurd (none h)
  where
    none : 0 ≡ i + suc k → ⊥
    none h = omega (arith, h)
there-below (x ∷ xs) zero k h = refl
there-below (x ∷ xs) (suc i) k h = there-below xs i k (omega (arith, h))

pub uniques-clear : (def : TableDef) (v : CheckerScope) (columns : Columns) (place : ℕ) (es : List Element) → length columns ≡ length def.columns → length def.columns ≡ place + length (pairs_of es) → Each (λ e. element_fault v columns e ≡ None) es
    → Each (IsUnique def) (uniques_from columns place es)
uniques-clear def v columns place [] long many none = tt
uniques-clear def v columns place (elements.Column name kind default rules ∷ es) long many none =
    each_append (IsUnique def) (own_uniques place rules) (uniques_from columns (suc place) es)
    (own-unique def place rules (there-below def.columns place (length (pairs_of es)) many))
    (uniques-clear def v columns (suc place) es long (omega (arith, many)) none.1)
uniques-clear def v columns place (elements.Rule r ∷ es) long many none =
    each_append (IsUnique def) (rule_unique columns r.form) (uniques_from columns place es) (rule-unique def v columns r.form long none.0) (uniques-clear def v columns place es long many none.1)
