-- The lists of columns by which a row of a table without a fault can be referred to are its key and those that are UNIQUE.
use Rattle.std.proofs.Common.{◌≡◌, ℕ, suc, ◌+◌, Bool, true, false, ◌||◌, not, nat_eq, List, [], ◌∷◌, ◌++◌, length, map, Option, Some, None, refl, ap, sym, ◌∙◌, subst, arith, eqb-true}
use Rattle.std.specs.Prelude.{if◌then◌else◌, is_some}
use Rattle.std.specs.Cmp.Lexicographic.{pointwise}
use Rattle.std.specs.List.{list_any}
use Rattle.std.proofs.lemmas.List.{append_assoc}
use Rattle.std.proofs.lemmas.Slice.Eq.{bytes_eq-Decides}
use Rattle.psm_symbols.specs.Columns.{column_of, place_in}
use Rattle.psm_value.specs.declared.sqltype.SqlType.{SqlType}
use Rattle.psm_scope.proofs.Lists.{both}
use Rattle.psm_scope.specs.Scopes.{Spelling, is_spelled}
use Rattle.psm_scope.specs.Lookup.{index_named, named, or_else}
use Rattle.psm_rules.specs.declared.rule.Rule.TheVariants as rule
use Rattle.psm_rules.specs.BlockFaults.{same_names}
use Rattle.psm_rules.specs.CheckerScope.{Columns}
use Rattle.psm_rules.specs.FileFaults.{column_names, column_rule_keys, columns_of, element_keys, key_fault, keys_of, lists_from, lists_of, names_of, own_keys, rule_keys, with_column_rule, with_list, with_own_rules, with_table_rule}
use Rattle.psm_rules.specs.StatementFaults.{repeated, several}
use Rattle.psm_rules.specs.Types.{type_of}
use Rattle.psm_tree.specs.declared.name.Identifier.{Identifier}
use Rattle.psm_tree.specs.declared.file.ColumnRule.{ColumnRule}
use Rattle.psm_tree.specs.declared.file.ColumnRuleForm.{ColumnRuleForm}
use Rattle.psm_tree.specs.declared.file.ColumnRuleForm.TheVariants as column_rules
use Rattle.psm_tree.specs.declared.file.Element.{Element}
use Rattle.psm_tree.specs.declared.file.Element.TheVariants as elements
use Rattle.psm_tree.specs.declared.file.TableRuleForm.{TableRuleForm}
use Rattle.psm_tree.specs.declared.file.TableRuleForm.TheVariants as table_rules
use Rattle.psm_resolve.specs.Files.{element_key, key_among, key_of, own_key, own_unique, own_uniques, places_in, rule_key, rule_unique, says_primary, uniques_from}
use Rattle.psm_typing.specs.TypingContext.{Each}
use Rattle.psm_checker_sound.proofs.Columns.{columns-are, pairs-new, pairs_of}
use Rattle.psm_checker_sound.proofs.DeclaredOnce.{each_append}
use Rattle.psm_checker_sound.proofs.Faultless.{unbroken}
use Rattle.psm_checker_sound.proofs.Flags.{not-false}
use Rattle.psm_checker_sound.proofs.NewNames.{AreNew, Knows, first_in, knows-more}

-- ---- the place of each column is that of its name

abbrev pub Placed : Columns → ℕ → List Element → Type 0
Placed columns place [] = Unit {0}
Placed columns place (elements.Column name kind default rules ∷ es) = (column_of columns name ≡ place) × Placed columns (suc place) es
Placed columns place (elements.Rule rule ∷ es) = Placed columns place es

at-step : {A : Type 0} (b : Bool) (x : A) (i : ℕ) (o : Option A) (r s : Option (ℕ × A)) → is_some (if b then Some x else o) ≡ false → (is_some o ≡ false → r ≡ s) → (if b then Some (i, x) else r) ≡ s
at-step true x i o r s none h = absurd cc
at-step false x i o r s none h = h none

-- after columns that none of which has the name
place-after : (i : ℕ) (n : Spelling) (t : Option SqlType) (before more : Columns) → is_some (named n before) ≡ false → index_named i n (before ++ (n, t) ∷ more) ≡ Some (i + length before, t)
place-after i n t [] more none =
    let e : i ≡ i + 0 = omega arith in
    ap (λ b. if b then Some (i, t) else index_named (suc i) n more) ((bytes_eq-Decides n n).1 refl) ∙ ap (λ k. Some (k, t)) e
place-after i n t (p ∷ before) more none =
    let e : suc i + length before ≡ i + suc (length before) = omega arith in
    at-step (is_spelled n p.0) p.1 i (named n before) (index_named (suc i) n (before ++ (n, t) ∷ more)) (Some (i + suc (length before), t)) none
    (λ none. place-after (suc i) n t before more none ∙ ap (λ k. Some (k, t)) e)

longer : (before : Columns) (p : Spelling × Option SqlType) → length (before ++ p ∷ []) ≡ suc (length before)
longer [] p = refl
longer (q ∷ before) p = ap suc (longer before p)

placed-after : (columns before : Columns) (seen : List Spelling) (es : List Element) → columns ≡ before ++ pairs_of es → Knows seen before → AreNew seen (map first_in (pairs_of es)) → Placed columns (length before) es
placed-after columns before seen [] is k new = tt
placed-after columns before seen (elements.Column name kind default rules ∷ es) is k new =
    let none : is_some (named name.name before) ≡ false = sym (k name.name) ∙ new.0 in
    let p : Spelling × Option SqlType = (name.name, type_of kind) in
    let e : 0 + length before ≡ length before = omega arith in
    let at : column_of columns name ≡ length before = ap (λ c. place_in (index_named 0 name.name c)) is ∙ ap place_in (place-after 0 name.name (type_of kind) before (pairs_of es) none) ∙ e in (
      at,
      subst (λ m. Placed columns m es) (longer before p)
          (placed-after columns (before ++ p ∷ []) (name.name ∷ seen) es (is ∙ sym (append_assoc before (p ∷ []) (pairs_of es))) (knows-more seen name.name (type_of kind) before k) new.1),
    )
placed-after columns before seen (elements.Rule r ∷ es) is k new = placed-after columns before seen es is k new

pub columns-placed : (es : List Element) → repeated rule.ColumnRepeated (column_names es) ≡ None → Placed (columns_of es) 0 es
columns-placed es none = placed-after (columns_of es) [] [] es (columns-are es none) (λ n. refl) (pairs-new es none)

-- ---- the key that is declared

abbrev IsFirst : Option (List Identifier) → List (List Spelling) → Type 0
IsFirst None ks = ks ≡ []
IsFirst (Some names) ks = (more : List (List Spelling)) × (ks ≡ names_of names ∷ more)

first-then : (a b : Option (List Identifier)) (xs ys : List (List Spelling)) → IsFirst a xs → IsFirst b ys → IsFirst (or_else a b) (xs ++ ys)
first-then None b xs ys h k = subst (λ l. IsFirst b (l ++ ys)) (sym h) k
first-then (Some names) b xs ys h k = (h.0 ++ ys, ap (λ l. l ++ ys) h.1)

rule-first : (name : Identifier) (form : ColumnRuleForm) (o : Option (List Identifier)) (ks : List (List Spelling)) → IsFirst o ks → IsFirst (if says_primary form then Some (name ∷ []) else o) (column_rule_keys name.name form ++ ks)
rule-first name column_rules.NotNull o ks h = h
rule-first name column_rules.PrimaryKey o ks h = (ks, refl)
rule-first name column_rules.Unique o ks h = h
rule-first name (column_rules.Check e) o ks h = h
rule-first name (column_rules.References to) o ks h = h

own-first : (name : Identifier) (rules : List ColumnRule) → IsFirst (own_key name rules) (own_keys name.name rules)
own-first name [] = refl
own-first name (r ∷ rules) = rule-first name r.form (own_key name rules) (own_keys name.name rules) (own-first name rules)

table_rule-first : (form : TableRuleForm) → IsFirst (rule_key form) (rule_keys form)
table_rule-first (table_rules.PrimaryKey names) = ([], refl)
table_rule-first (table_rules.Unique names) = refl
table_rule-first (table_rules.Check e) = refl
table_rule-first (table_rules.ForeignKey names to) = refl

element-first : (e : Element) → IsFirst (element_key e) (element_keys e)
element-first (elements.Column name kind default rules) = own-first name rules
element-first (elements.Rule r) = table_rule-first r.form

keys-first : (es : List Element) → IsFirst (key_among es) (keys_of es)
keys-first [] = refl
keys-first (e ∷ es) = first-then (element_key e) (key_among es) (element_keys e) (keys_of es) (element-first e) (keys-first es)

-- exactly one is declared
pub record OneKey (es : List Element) : Type 0 where
  pub names : List Identifier
  pub is : key_among es ≡ Some names
  pub only : keys_of es ≡ names_of names ∷ []

only-one : (table : Identifier) (k : List Spelling) (more : List (List Spelling)) → key_fault table (k ∷ more) ≡ None → more ≡ []
only-one table k [] none = refl
only-one table k (l ∷ more) none =
    absurd (no (length more) (eqb-true (length (k ∷ l ∷ more)) 1 (not-false (nat_eq (length (k ∷ l ∷ more)) 1) (unbroken (not (nat_eq (length (k ∷ l ∷ more)) 1)) rule.NotOnePrimaryKey table.place none))))
  where
    no : (n : ℕ) → suc (suc n) ≡ 1 → ⊥
    no n h = omega (arith, h)

pub one-key : (table : Identifier) (es : List Element) → key_fault table (keys_of es) ≡ None → OneKey es
one-key table es none = by (key_among es) refl (keys-first es)
  where
    no-fault : key_fault table [] ≡ None → ⊥
    no-fault h = cc

    by : (o : Option (List Identifier)) → key_among es ≡ o → IsFirst o (keys_of es) → OneKey es
    by None is h = absurd (no-fault (ap (key_fault table) (sym h) ∙ none))
    by (Some names) is h = record { names = names; is = is; only = h.1 ∙ ap (λ l. names_of names ∷ l) (only-one table (names_of names) h.0 (ap (key_fault table) (sym h.1) ∙ none)) }

-- ---- lists among others

abbrev pub Has : List (List ℕ) → List ℕ → Type 0
Has lists l = list_any (pointwise nat_eq l) lists ≡ true

or-left : (a b : Bool) → a ≡ true → (a || b) ≡ true
or-left true b h = refl
or-left false b h = absurd cc

or-right : (a b : Bool) → b ≡ true → (a || b) ≡ true
or-right true b h = refl
or-right false b h = h

has-first : (l : List ℕ) (lists : List (List ℕ)) → Has (l ∷ lists) l
has-first l lists = or-left (pointwise nat_eq l l) (list_any (pointwise nat_eq l) lists) ((bytes_eq-Decides l l).1 refl)

has-more : (k l : List ℕ) (lists : List (List ℕ)) → Has lists l → Has (k ∷ lists) l
has-more k l lists h = or-right (pointwise nat_eq l k) (list_any (pointwise nat_eq l) lists) h

-- each of the lists is among them and others
each-has : (all lists : List (List ℕ)) → ((l : List ℕ) → Has lists l → Has all l) → Each (Has all) lists
each-has all [] h = tt
each-has all (l ∷ lists) h = (h l (has-first l lists), each-has all lists (λ k is. h k (has-more l k lists is)))

each-parts : {A : Type 0} (P : A → Type 0) (xs ys : List A) → Each P (xs ++ ys) → Each P xs × Each P ys
each-parts P [] ys h = (tt, h)
each-parts P (x ∷ xs) ys h = let parts = each-parts P xs ys h.1 in ((h.0, parts.0), parts.1)

-- ---- the lists of a table

abbrev pub places : Columns → List Spelling → List ℕ
places columns ns = map (λ n. place_in (index_named 0 n columns)) ns

pub places-named : (columns : Columns) (ns : List Identifier) → places columns (names_of ns) ≡ map (column_of columns) ns
places-named columns [] = refl
places-named columns (n ∷ ns) = ap (λ l. column_of columns n ∷ l) (places-named columns ns)

module _ (columns : Columns) (all : List (List ℕ)) where
  -- a list of names is one of them by the places
  abbrev IsOne : List Spelling → Type 0
  IsOne ns = Has all (places columns ns)

  with-one : (lists : List (List Spelling)) (l : List Spelling) (b : Bool) → Each IsOne lists → IsOne l → Each IsOne (if b then lists else lists ++ l ∷ [])
  with-one lists l true h k = h
  with-one lists l false h k = each_append IsOne lists (l ∷ []) h (k, tt)

  with-list : (lists : List (List Spelling)) (l : List Spelling) → Each IsOne lists → IsOne l → Each IsOne (with_list lists l)
  with-list lists l h k = with-one lists l (list_any (same_names l) lists) h k

  own-rule : (lists : List (List Spelling)) (name : Identifier) (place : ℕ) (form : ColumnRuleForm) → column_of columns name ≡ place → Each IsOne (column_rule_keys name.name form) → Each (Has all) (own_unique place form) → Each IsOne lists
      → Each IsOne (with_column_rule lists name.name form)
  own-rule lists name place column_rules.NotNull is ks us h = h
  own-rule lists name place column_rules.PrimaryKey is ks us h = with-list lists (name.name ∷ []) h ks.0
  own-rule lists name place column_rules.Unique is ks us h = with-list lists (name.name ∷ []) h (subst (λ p. Has all (p ∷ [])) (sym is) us.0)
  own-rule lists name place (column_rules.Check e) is ks us h = h
  own-rule lists name place (column_rules.References to) is ks us h = h

  own-rules : (lists : List (List Spelling)) (name : Identifier) (place : ℕ) (rules : List ColumnRule) → column_of columns name ≡ place → Each IsOne (own_keys name.name rules) → Each (Has all) (own_uniques place rules) → Each IsOne lists
      → Each IsOne (with_own_rules lists name.name rules)
  own-rules lists name place [] is ks us h = h
  own-rules lists name place (r ∷ rules) is ks us h =
      let k = each-parts IsOne (column_rule_keys name.name r.form) (own_keys name.name rules) ks in
      let u = each-parts (Has all) (own_unique place r.form) (own_uniques place rules) us in
      own-rules (with_column_rule lists name.name r.form) name place rules is k.1 u.1 (own-rule lists name place r.form is k.0 u.0 h)

  table-rule : (lists : List (List Spelling)) (form : TableRuleForm) → Each IsOne (rule_keys form) → Each (Has all) (rule_unique columns form) → Each IsOne lists → Each IsOne (with_table_rule lists form)
  table-rule lists (table_rules.PrimaryKey names) ks us h = with-list lists (names_of (several names)) h ks.0
  table-rule lists (table_rules.Unique names) ks us h = with-list lists (names_of (several names)) h (subst (Has all) (sym (places-named columns (several names))) us.0)
  table-rule lists (table_rules.Check e) ks us h = h
  table-rule lists (table_rules.ForeignKey names to) ks us h = h

  each-list : (lists : List (List Spelling)) (place : ℕ) (es : List Element) → Placed columns place es → Each IsOne (keys_of es) → Each (Has all) (uniques_from columns place es) → Each IsOne lists → Each IsOne (lists_from lists es)
  each-list lists place [] is ks us h = h
  each-list lists place (elements.Column name kind default rules ∷ es) is ks us h =
      let k = each-parts IsOne (own_keys name.name rules) (keys_of es) ks in
      let u = each-parts (Has all) (own_uniques place rules) (uniques_from columns (suc place) es) us in
      each-list (with_own_rules lists name.name rules) (suc place) es is.1 k.1 u.1 (own-rules lists name place rules is.0 k.0 u.0 h)
  each-list lists place (elements.Rule r ∷ es) is ks us h =
      let k = each-parts IsOne (rule_keys r.form) (keys_of es) ks in
      let u = each-parts (Has all) (rule_unique columns r.form) (uniques_from columns place es) us in
      each-list (with_table_rule lists r.form) place es is k.1 u.1 (table-rule lists r.form k.0 u.0 h)

  -- a list that is the same as one of them is one of them
  same-spelled : (a b : List Spelling) → same_names a b ≡ true → a ≡ b
  same-spelled [] [] h = refl
  same-spelled [] (n ∷ ns) h = absurd cc
  same-spelled (m ∷ ms) [] h = absurd cc
  same-spelled (m ∷ ms) (n ∷ ns) h =
      let parts = both (is_spelled m n) (same_names ms ns) h in
      ap (λ k. k ∷ ms) ((bytes_eq-Decides m n).0 parts.0) ∙ ap (λ l. n ∷ l) (same-spelled ms ns parts.1)

  one-by : (target l : List Spelling) (b c : Bool) → same_names target l ≡ b → (b || c) ≡ true → IsOne l → (c ≡ true → IsOne target) → IsOne target
  one-by target l true c is h k later = subst IsOne (sym (same-spelled target l is)) k
  one-by target l false c is h k later = later h

  one-of : (target : List Spelling) (lists : List (List Spelling)) → Each IsOne lists → list_any (same_names target) lists ≡ true → IsOne target
  one-of target [] h is = absurd cc
  one-of target (l ∷ lists) h is = one-by target l (same_names target l) (list_any (same_names target) lists) refl is h.0 (λ is. one-of target lists h.1 is)

-- what a list of names is the same as by which a row can be referred to is the key or is UNIQUE
pub one-of-keys : (es : List Element) → Placed (columns_of es) 0 es → OneKey es → (target : List Spelling) → list_any (same_names target) (lists_of es) ≡ true
    → Has (key_of (columns_of es) es ∷ uniques_from (columns_of es) 0 es) (places (columns_of es) target)
one-of-keys es placed key target is =
    let columns : Columns = columns_of es in
    let own : List ℕ = key_of columns es in
    let all : List (List ℕ) = own ∷ uniques_from columns 0 es in
    let here : own ≡ places columns (names_of key.names) = ap (places_in columns) key.is ∙ sym (places-named columns key.names) in
    let keys : Each (IsOne columns all) (keys_of es) = subst (Each (IsOne columns all)) (sym key.only) (subst (Has all) here (has-first own (uniques_from columns 0 es)), tt) in
    let uniques : Each (Has all) (uniques_from columns 0 es) = each-has all (uniques_from columns 0 es) (λ l h. has-more own l (uniques_from columns 0 es) h) in
    one-of columns all target (lists_of es) (each-list columns all [] 0 es placed keys uniques tt) is
