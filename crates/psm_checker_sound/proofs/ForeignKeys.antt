-- The FOREIGN KEY constraints of a module file without a fault are well-formed, and stand in the order of its tables.
use Rattle.std.proofs.Common.{◌≡◌, ℕ, zero, suc, ◌+◌, ◌≤◌, Bool, true, false, ◌&&◌, List, [], ◌∷◌, ◌++◌, length, map, Option, Some, None, option_map, refl, ap, sym, ◌∙◌, subst, arith}
use Rattle.std.specs.Prelude.{if◌then◌else◌, nat_le, nat_lt, slice_get}
use Rattle.std.proofs.lemmas.Bool.Decides.{nat_tests}
use Rattle.std.proofs.lemmas.List.{append_assoc, map-append}
use Rattle.std.proofs.lemmas.Option.{slice_get-map}
use Rattle.psm_symbols.specs.Columns.{column_of}
use Rattle.psm_token.specs.declared.place.Place.{Place}
use Rattle.psm_scope.specs.Scopes.{Spelling, is_spelled}
use Rattle.psm_scope.specs.Lookup.{index_named, named}
use Rattle.psm_rules.specs.declared.rule.Rule.TheVariants as rule
use Rattle.psm_rules.specs.CheckerScope.{CheckerScope, Columns}
use Rattle.psm_rules.specs.Faults.{first_of}
use Rattle.psm_rules.specs.FileFaults.{Referable, Referred, alone, columns_of, element_fault, element_reference_fault, match_fault, names_of, own_reference_fault, reference_fault, reference_to, references_fault, references_faults, referred_of, rule_reference_fault, table_elements, table_fault, table_rule_fault, with_referred}
use Rattle.psm_rules.specs.StatementFaults.{several}
use Rattle.psm_tree.specs.Names.{Names}
use Rattle.psm_tree.specs.declared.name.Identifier.{Identifier}
use Rattle.psm_tree.specs.declared.file.ColumnRule.{ColumnRule}
use Rattle.psm_tree.specs.declared.file.ColumnRuleForm.{ColumnRuleForm}
use Rattle.psm_tree.specs.declared.file.ColumnRuleForm.TheVariants as column_rules
use Rattle.psm_tree.specs.declared.file.Element.{Element}
use Rattle.psm_tree.specs.declared.file.Element.TheVariants as elements
use Rattle.psm_tree.specs.declared.file.FileTree.{FileTree}
use Rattle.psm_tree.specs.declared.file.References.{References}
use Rattle.psm_tree.specs.declared.file.TableRuleForm.{TableRuleForm}
use Rattle.psm_tree.specs.declared.file.TableRuleForm.TheVariants as table_rules
use Rattle.psm_tree.specs.declared.file.TableTree.{TableTree}
use Rattle.psm_table.specs.declared.definition.ForeignKey.{ForeignKey}
use Rattle.psm_code.specs.TableRules.{are_in_turn}
use Rattle.psm_resolved.specs.declared.file.ResolvedTable.{ResolvedTable}
use Rattle.psm_resolve_expr.specs.Exprs.{number_of}
use Rattle.psm_resolve_expr.specs.ResolverScope.{ResolverScope, table_at}
use Rattle.psm_resolve.specs.Files.{foreign_keys, in_file, key_to, own_reference, own_references, references_from, references_of, resolve_table, rule_reference, target_of}
use Rattle.psm_resolve.specs.SymbolTables.{known_symbols}
use Rattle.psm_typing.specs.TypingContext.{Each}
use Rattle.psm_wellformed.specs.Files.{WellFormedKey}
use Rattle.psm_checker_sound.proofs.Bodies.{FileParts}
use Rattle.psm_checker_sound.proofs.DeclaredOnce.{each_append}
use Rattle.psm_checker_sound.proofs.Faultless.{each-as, none-each, none-first}
use Rattle.psm_checker_sound.proofs.Flags.{at-end, both-hold}
use Rattle.psm_checker_sound.proofs.Keys.{IsList, IsNamed, OwnNamed, listed, one-name}
use Rattle.psm_checker_sound.proofs.NewNames.{AreNew, Knows, declared-new, knows-more, names-new}
use Rattle.psm_checker_sound.proofs.Referable.{Placed}
use Rattle.psm_checker_sound.proofs.References.{IsMeant, IsReferable, are-meant, fits, table-referable}
use Rattle.psm_checker_sound.proofs.SymbolTables.{table_pair, tables-placed}

-- ---- the table that is referred to: the first of the name, among those before and the table itself

abbrev referred_pair : TableTree → Spelling × Referred
referred_pair t = (t.name.name, referred_of t)

record IsFound (i : ℕ) (m : Spelling) (ys zs : List TableTree) (to : Referred) : Type 0 where
  place : ℕ
  table : TableTree
  at : index_named i m (map table_pair (ys ++ zs)) ≡ Some (i + place, columns_of (table_elements table))
  there : slice_get ys place ≡ Some table
  below : suc place ≤ length ys
  is : to ≡ referred_of table

inside : {A : Type 0} (a b : A) → Some a ≡ Some b → a ≡ b
inside a b h = cc

found : (i : ℕ) (m : Spelling) (ys zs : List TableTree) (to : Referred) → named m (map referred_pair ys) ≡ Some to → IsFound i m ys zs to
found i m [] zs to h = absurd cc
found i m (y ∷ ys) zs to h = by (is_spelled m y.name.name) refl h (found (suc i) m ys zs to)
  where
    by : (b : Bool) → is_spelled m y.name.name ≡ b → (if b then Some (referred_of y) else named m (map referred_pair ys)) ≡ Some to → (named m (map referred_pair ys) ≡ Some to → IsFound (suc i) m ys zs to) → IsFound i m (y ∷ ys) zs to
    by true is h later =
        let e : i ≡ i + 0 = omega arith in record {
          place = 0;
          table = y;
          at = ap (λ b. if b then Some (i, columns_of (table_elements y)) else index_named (suc i) m (map table_pair (ys ++ zs))) is ∙ ap (λ k. Some (k, columns_of (table_elements y))) e;
          there = refl;
          below = omega arith;
          is = sym (inside (referred_of y) to h);
        }
    by false is h later =
        let l : IsFound (suc i) m ys zs to = later h in
        let e : suc i + l.place ≡ i + suc l.place = omega arith in record {
          place = suc l.place;
          table = l.table;
          at = ap (λ b. if b then Some (i, columns_of (table_elements y)) else index_named (suc i) m (map table_pair (ys ++ zs))) is ∙ l.at ∙ ap (λ k. Some (k, columns_of (table_elements l.table))) e;
          there = l.there;
          below = omega (arith, l.below);
          is = l.is;
        }

there-front : {A : Type 0} (xs ys : List A) (i : ℕ) (x : A) → slice_get xs i ≡ Some x → slice_get (xs ++ ys) i ≡ Some x
there-front [] ys i x h = absurd cc
there-front (y ∷ xs) ys zero x h = h
there-front (y ∷ xs) ys (suc i) x h = there-front xs ys i x h

there-mapped : {A B : Type 0} (f : A → B) (xs : List A) (i : ℕ) (x : A) → slice_get xs i ≡ Some x → slice_get (map f xs) i ≡ Some (f x)
there-mapped f xs i x h = slice_get-map f xs i ∙ ap (option_map f) h

each-at : {A : Type 0} (P : A → Type 0) (xs : List A) (i : ℕ) (x : A) → Each P xs → slice_get xs i ≡ Some x → P x
each-at P [] i x h is = absurd cc
each-at P (y ∷ xs) zero x h is = subst P (inside y x is) h.0
each-at P (y ∷ xs) (suc i) x h is = each-at P xs i x h.1 is

-- ---- the constraint to a table whose place is known

abbrev key_with : ℕ → List ℕ → ℕ → List ℕ → ForeignKey
key_with from columns to target = record { from = from; columns = columns; to = to; target = target }

key-is : (tables : List ResolvedTable) (from to : ℕ) (cs ds target : List ℕ) (names : Option Names) (o : Option (ℕ × Columns)) (columns : Columns) → o ≡ Some (to, columns) → target_of tables (Some (to, columns)) names ≡ target → cs ≡ ds
    → key_with from cs (number_of o) (target_of tables o names) ≡ key_with from ds to target
key-is tables from to cs ds target names o columns at there are =
    ap (λ p. key_with from cs (number_of p) (target_of tables p names)) at ∙ ap (key_with from cs to) there ∙ ap (λ l. key_with from l to target) are

as-long : (xs : List TableTree) (t : TableTree) → length (xs ++ t ∷ []) ≡ suc (length xs)
as-long [] t = refl
as-long (x ∷ xs) t = ap suc (as-long xs t)

-- ---- the constraints of the table t, with the tables before it and those after it

module _ (f : FileTree) (xs : List TableTree) (t : TableTree) (ts : List TableTree) (all : f.tables ≡ (xs ++ t ∷ []) ++ ts) (p : FileParts f) (own : IsReferable t) where
  abbrev tables : List ResolvedTable
  tables = map resolve_table f.tables

  abbrev scope : ResolverScope
  scope = in_file (known_symbols f)

  abbrev columns : Columns
  columns = columns_of (table_elements t)

  abbrev known : Referable
  known = map referred_pair (xs ++ t ∷ [])

  abbrev IsWell : ForeignKey → Type 0
  IsWell key = (key.from ≡ length xs) × WellFormedKey tables key

  from-there : slice_get tables (length xs) ≡ Some (resolve_table t)
  from-there = there-mapped resolve_table f.tables (length xs) t
      (ap (λ l. slice_get l (length xs)) all ∙ there-front (xs ++ t ∷ []) ts (length xs) t (at-end xs [] t (length xs) refl))

  -- a constraint to a table that is found
  well-found : (place : Place) (ms : List Identifier) (cs : List ℕ) (r : References) (to : Referred) → IsFound 0 r.table.name (xs ++ t ∷ []) ts to → IsList columns ms → cs ≡ map (column_of columns) ms → match_fault columns place (names_of ms) to r.columns ≡ None
      → IsWell (key_to tables scope (length xs) cs r)
  well-found place ms cs r to found l are none =
      let u : TableTree = found.table in
      let in_all : slice_get f.tables found.place ≡ Some u = ap (λ l. slice_get l found.place) all ∙ there-front (xs ++ t ∷ []) ts found.place u found.there in
      let there : slice_get tables found.place ≡ Some (resolve_table u) = there-mapped resolve_table f.tables found.place u in_all in
      let b : IsReferable u = table-referable u (each-at (λ t. table_fault t ≡ None) f.tables found.place u p.tables in_all) in
      let meant : IsMeant tables found.place columns ms u r.columns = are-meant tables found.place columns place ms u there b r.columns (ap (λ to. match_fault columns place (names_of ms) to r.columns) (sym found.is) ∙ none) in
      let here : 0 + found.place ≡ found.place = omega arith in
      let at : table_at scope r.table.name ≡ Some (found.place, columns_of (table_elements u)) =
      ap (index_named 0 r.table.name) (tables-placed f p.names ∙ ap (map table_pair) all) ∙ found.at ∙ ap (λ k. Some (k, columns_of (table_elements u))) here in
      let key : ForeignKey = key_with (length xs) (map (column_of columns) ms) found.place (map (column_of (columns_of (table_elements u))) meant.meant) in
      let is : key_to tables scope (length xs) cs r ≡ key = key-is tables (length xs) found.place cs key.columns key.target r.columns (table_at scope r.table.name) (columns_of (table_elements u)) at meant.target are in
      subst IsWell (sym is) (
        refl,
        record {
          from = resolve_table t;
          to = resolve_table u;
          from_there = from-there;
          to_there = there;
          before = omega (arith, found.below, as-long xs t);
          fits = fits t u own b ms meant.meant l meant.list meant.matched (length xs) found.place;
        },
      )

  well-by : (place : Place) (ms : List Identifier) (cs : List ℕ) (r : References) (o : Option Referred) → named r.table.name known ≡ o → IsList columns ms → cs ≡ map (column_of columns) ms → reference_to columns place (names_of ms) r o ≡ None
      → IsWell (key_to tables scope (length xs) cs r)
  well-by place ms cs r None is l are none = absurd cc
  well-by place ms cs r (Some to) is l are none = well-found place ms cs r to (found 0 r.table.name (xs ++ t ∷ []) ts to is) l are none

  well : (place : Place) (ms : List Identifier) (cs : List ℕ) (r : References) → IsList columns ms → cs ≡ map (column_of columns) ms → reference_fault columns known place (names_of ms) r ≡ None → IsWell (key_to tables scope (length xs) cs r)
  well place ms cs r l are none = well-by place ms cs r (named r.table.name known) refl l are none

  own-well : (name : Identifier) (place : ℕ) (form : ColumnRuleForm) → IsNamed columns name → column_of columns name ≡ place → own_reference_fault columns known name form ≡ None → Each IsWell (own_reference tables scope (length xs) place form)
  own-well name place column_rules.NotNull named is none = tt
  own-well name place column_rules.PrimaryKey named is none = tt
  own-well name place column_rules.Unique named is none = tt
  own-well name place (column_rules.Check e) named is none = tt
  own-well name place (column_rules.References r) named is none = (well name.place (name ∷ []) (place ∷ []) r (one-name columns name named) (ap (λ k. k ∷ []) (sym is)) none, tt)

  owns-well : (name : Identifier) (place : ℕ) (rules : List ColumnRule) → IsNamed columns name → column_of columns name ≡ place → Each (λ r. own_reference_fault columns known name r.form ≡ None) rules → Each IsWell (own_references tables scope (length xs) place rules)
  owns-well name place [] named is none = tt
  owns-well name place (r ∷ rules) named is none =
      each_append IsWell (own_reference tables scope (length xs) place r.form) (own_references tables scope (length xs) place rules) (own-well name place r.form named is none.0) (owns-well name place rules named is none.1)

  rule-well : (v : CheckerScope) (form : TableRuleForm) → table_rule_fault v columns form ≡ None → rule_reference_fault columns known form ≡ None → Each IsWell (rule_reference tables scope (length xs) columns form)
  rule-well v (table_rules.PrimaryKey names) sound none = tt
  rule-well v (table_rules.Unique names) sound none = tt
  rule-well v (table_rules.Check e) sound none = tt
  rule-well v (table_rules.ForeignKey names r) sound none = (well names.first.place (several names) (map (column_of columns) (several names)) r (listed columns (several names) refl sound) refl none, tt)

  elements-well : (v : CheckerScope) (place : ℕ) (es : List Element) → Placed columns place es → Each (OwnNamed columns) es → Each (λ e. element_fault v columns e ≡ None) es → Each (λ e. element_reference_fault columns known e ≡ None) es
      → Each IsWell (references_from tables scope (length xs) columns place es)
  elements-well v place [] is named sound none = tt
  elements-well v place (elements.Column name kind default rules ∷ es) is named sound none =
      each_append IsWell (own_references tables scope (length xs) place rules) (references_from tables scope (length xs) columns (suc place) es)
      (owns-well name place rules named.0 is.0 (none-each (λ r. own_reference_fault columns known name r.form) rules none.0))
      (elements-well v (suc place) es is.1 named.1 sound.1 none.1)
  elements-well v place (elements.Rule r ∷ es) is named sound none =
      each_append IsWell (rule_reference tables scope (length xs) columns r.form) (references_from tables scope (length xs) columns place es) (rule-well v r.form sound.0 none.0) (elements-well v place es is named.1 sound.1 none.1)

  table-well : references_fault known t ≡ None → Each IsWell (references_of tables scope (length xs) t)
  table-well none = elements-well (alone t.name.name columns) 0 (table_elements t) own.placed own.keyed.own own.parts.each (none-each (element_reference_fault columns known) (table_elements t) none)

-- ---- all tables

-- each table's constraints are its own, and well-formed
abbrev AreWell : FileTree → ℕ → List TableTree → Type 0
AreWell f n [] = Unit {0}
AreWell f n (t ∷ ts) = Each (λ key. (key.from ≡ n) × WellFormedKey (map resolve_table f.tables) key) (references_of (map resolve_table f.tables) (in_file (known_symbols f)) n t) × AreWell f (suc n) ts

tables-well : (f : FileTree) → FileParts f → (seen : List Spelling) (xs ts : List TableTree) → f.tables ≡ xs ++ ts → Knows seen (map referred_pair xs) → AreNew seen (map (λ n. n.name) (map (λ t. t.name) ts)) → Each (λ t. table_fault t ≡ None) ts
    → first_of (references_faults (map referred_pair xs) ts) ≡ None → AreWell f (length xs) ts
tables-well f p seen xs [] all k new sound none = tt
tables-well f p seen xs (t ∷ ts) all k new sound none =
    let more : List TableTree = xs ++ t ∷ [] in
    let is : with_referred (map referred_pair xs) t ≡ map referred_pair more = declared-new seen t.name.name (referred_of t) (map referred_pair xs) k new.0 ∙ sym (map-append referred_pair xs (t ∷ [])) in
    let whole : f.tables ≡ more ++ ts = all ∙ sym (append_assoc xs (t ∷ []) ts) in
    let parts = none-first (references_fault (map referred_pair more) t) (references_faults (map referred_pair more) ts)
    (ap (λ l. first_of (references_fault l t ∷ references_faults l ts)) (sym is) ∙ none) in
    let knows : Knows (t.name.name ∷ seen) (map referred_pair more) = subst (Knows (t.name.name ∷ seen)) (sym (map-append referred_pair xs (t ∷ []))) (knows-more seen t.name.name (referred_of t) (map referred_pair xs) k) in
    (table-well f xs t ts whole p (table-referable t sound.0) parts.0, subst (λ n. AreWell f n ts) (as-long xs t) (tables-well f p (t.name.name ∷ seen) more ts whole knows new.1 sound.1 parts.1))

file-well : (f : FileTree) → FileParts f → AreWell f 0 f.tables
file-well f p = tables-well f p [] [] f.tables refl (λ n. refl) (names-new rule.TableRepeated [] (map (λ t. t.name) f.tables) p.names) p.tables p.references

-- ---- the constraints of the file

keys-well : (f : FileTree) (n : ℕ) (ts : List TableTree) → AreWell f n ts → Each (WellFormedKey (map resolve_table f.tables)) (foreign_keys (map resolve_table f.tables) (in_file (known_symbols f)) n ts)
keys-well f n [] h = tt
keys-well f n (t ∷ ts) h =
    each_append (WellFormedKey (map resolve_table f.tables)) (references_of (map resolve_table f.tables) (in_file (known_symbols f)) n t) (foreign_keys (map resolve_table f.tables) (in_file (known_symbols f)) (suc n) ts)
    (each-as (λ key. (key.from ≡ n) × WellFormedKey (map resolve_table f.tables) key) (WellFormedKey (map resolve_table f.tables)) (λ key k. k.1) (references_of (map resolve_table f.tables) (in_file (known_symbols f)) n t) h.0)
    (keys-well f (suc n) ts h.1)

pub keys-well_formed : (f : FileTree) → FileParts f → Each (WellFormedKey (map resolve_table f.tables)) (foreign_keys (map resolve_table f.tables) (in_file (known_symbols f)) 0 f.tables)
keys-well_formed f p = keys-well f 0 f.tables (file-well f p)

-- those of one table, and those of the tables after it

turn-here : (at n count : ℕ) → at ≤ n → suc n ≤ count → (nat_le at n && nat_lt n count) ≡ true
turn-here at n count h k = both-hold (nat_le at n) (nat_lt n count) (grind (arith, nat_tests, h)) (grind (arith, nat_tests, k))

in-turn-from : (at n count : ℕ) (keys : List ForeignKey) → at ≤ n → are_in_turn n count keys ≡ true → are_in_turn at count keys ≡ true
in-turn-from at n count [] h is = refl
in-turn-from at n count (key ∷ keys) h is = by (nat_le n key.from) (nat_lt key.from count) (are_in_turn key.from count keys) refl is
  where
    lower : (a b c : ℕ) → a ≤ b → nat_le b c ≡ true → nat_le a c ≡ true
    lower a b c h k = grind (arith, nat_tests, h, k)

    by : (b c d : Bool) → nat_le n key.from ≡ b → ((b && c) && d) ≡ true → ((nat_le at key.from && c) && d) ≡ true
    by true c d is h2 = ap (λ b. (b && c) && d) (lower at n key.from h is) ∙ h2
    by false c d is h2 = absurd cc

turn-first : (at n count : ℕ) (keys more : List ForeignKey) → at ≤ n → suc n ≤ count → Each (λ key. key.from ≡ n) keys → are_in_turn n count more ≡ true → are_in_turn at count (keys ++ more) ≡ true
turn-first at n count [] more h k own is = in-turn-from at n count more h is
turn-first at n count (key ∷ keys) more h k own is =
    both-hold (nat_le at key.from && nat_lt key.from count) (are_in_turn key.from count (keys ++ more))
    (subst (λ from. (nat_le at from && nat_lt from count) ≡ true) (sym own.0) (turn-here at n count h k))
    (subst (λ from. are_in_turn from count (keys ++ more) ≡ true) (sym own.0) (turn-first n n count keys more (omega arith) k own.1 is))

turns : (f : FileTree) (at n count : ℕ) (ts : List TableTree) → at ≤ n → n + length ts ≡ count → AreWell f n ts → are_in_turn at count (foreign_keys (map resolve_table f.tables) (in_file (known_symbols f)) n ts) ≡ true
turns f at n count [] h long well = refl
turns f at n count (t ∷ ts) h long well =
    turn-first at n count (references_of (map resolve_table f.tables) (in_file (known_symbols f)) n t) (foreign_keys (map resolve_table f.tables) (in_file (known_symbols f)) (suc n) ts) h (omega (arith, long))
    (each-as (λ key. (key.from ≡ n) × WellFormedKey (map resolve_table f.tables) key) (λ key. key.from ≡ n) (λ key k. k.0) (references_of (map resolve_table f.tables) (in_file (known_symbols f)) n t) well.0)
    (turns f n (suc n) count ts (omega arith) (omega (arith, long)) well.1)

many-tables : (ts : List TableTree) → 0 + length ts ≡ length (map resolve_table ts)
many-tables [] = refl
many-tables (t ∷ ts) = omega (arith, many-tables ts)

pub keys-in_turn : (f : FileTree) → FileParts f → are_in_turn 0 (length (map resolve_table f.tables)) (foreign_keys (map resolve_table f.tables) (in_file (known_symbols f)) 0 f.tables) ≡ true
keys-in_turn f p = turns f 0 0 (length (map resolve_table f.tables)) f.tables (omega arith) (many-tables f.tables) (file-well f p)
