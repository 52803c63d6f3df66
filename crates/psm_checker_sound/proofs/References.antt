-- A FOREIGN KEY constraint without a fault pairs columns of a table with columns of the one that it refers to, of one family each,
-- which are its key or a UNIQUE list there.
use Rattle.std.proofs.Common.{◌≡◌, ℕ, zero, suc, Bool, true, ◌&&◌, not, nat_eq, List, [], ◌∷◌, length, map, Option, Some, None, option_map, refl, ap, sym, ◌∙◌, subst, arith, eq-eqb}
use Rattle.std.specs.Prelude.{is_some, slice_get, zip}
use Rattle.std.specs.List.{list_all, list_any}
use Rattle.std.specs.Option.{IfSome}
use Rattle.psm_symbols.specs.Columns.{column_of, place_in}
use Rattle.psm_token.specs.declared.place.Place.{Place}
use Rattle.psm_value.specs.declared.sqltype.SqlType.{SqlType}
use Rattle.psm_value.specs.declared.sqltype.SqlType.TheVariants as types
use Rattle.psm_exprcode.specs.Kinds.{is_letter, letter_of}
use Rattle.psm_scope.proofs.Lists.{both}
use Rattle.psm_scope.specs.Lookup.{index_named, named}
use Rattle.psm_rules.specs.declared.rule.Rule.TheVariants as rule
use Rattle.psm_rules.specs.declared.shape.Family.{Family}
use Rattle.psm_rules.specs.declared.shape.Family.TheVariants.{Numbers, Texts}
use Rattle.psm_rules.specs.BlockFaults.{same_names}
use Rattle.psm_rules.specs.CheckerScope.{Columns}
use Rattle.psm_rules.specs.Faults.{breaks_if}
use Rattle.psm_rules.specs.FileFaults.{are_paired, columns_of, does_match, family_named, family_of_column, first_key, keys_of, lists_of, match_fault, names_of, referred_of, table_elements, table_fault, target_fault}
use Rattle.psm_rules.specs.Shapes.{clashes, family_of, typed}
use Rattle.psm_rules.specs.StatementFaults.{several}
use Rattle.psm_tree.specs.Names.{Names}
use Rattle.psm_tree.specs.declared.name.Identifier.{Identifier}
use Rattle.psm_tree.specs.declared.file.Element.{Element}
use Rattle.psm_tree.specs.declared.file.TableTree.{TableTree}
use Rattle.psm_table.specs.Definition.{kinds_of}
use Rattle.psm_table.specs.declared.definition.Column.{Column}
use Rattle.psm_table.specs.declared.definition.TableDef.{TableDef}
use Rattle.psm_code.specs.Rules.{where_there}
use Rattle.psm_code.specs.TableRules.{are_there, is_column_list, is_one_of_keys, pair_fault, pairs_up}
use Rattle.psm_code.specs.declared.rule.CodeRule.TheVariants.{Range, Definition}
use Rattle.psm_resolved.specs.declared.file.ResolvedTable.{ResolvedTable}
use Rattle.psm_resolve.specs.Files.{key_in, places_in, resolve_table, target_of}
use Rattle.psm_typing.specs.TypingContext.{Each}
use Rattle.psm_wellformed.specs.Files.{NoFault}
use Rattle.psm_checker_sound.specs.Agreement.{HaveTypes, letter_in}
use Rattle.psm_checker_sound.proofs.Columns.{clear}
use Rattle.psm_checker_sound.proofs.Faultless.{unbroken}
use Rattle.psm_checker_sound.proofs.Flags.{both-hold, not-false}
use Rattle.psm_checker_sound.proofs.Keys.{IsList, IsNamed, list-places, list-there, listed}
use Rattle.psm_checker_sound.proofs.Names.{IsColumn, columns_placed}
use Rattle.psm_checker_sound.proofs.Parts.{neither}
use Rattle.psm_checker_sound.proofs.Queries.{named_placed}
use Rattle.psm_checker_sound.proofs.Referable.{Has, OneKey, Placed, columns-placed, one-key, one-of-keys, places-named}
use Rattle.psm_checker_sound.proofs.Tables.{IsGood, IsKeyed, Parts, table-good, table-keyed, table-parts}

-- ---- families and letters

letter-family : (t : SqlType) → letter_of t ≡ letter_in (family_of (typed t).kind)
letter-family types.SmallInt = refl
letter-family types.Integer = refl
letter-family (types.Numeric p s) = refl
letter-family (types.Char n) = refl
letter-family (types.VarChar n) = refl

same-family : (a b : Family) → not (clashes (Some a) (Some b)) ≡ true → is_letter (letter_in a) (letter_in b) ≡ true
same-family Numbers Numbers h = refl
same-family Numbers Texts h = absurd cc
same-family Texts Numbers h = absurd cc
same-family Texts Texts h = refl

same-letter : (s t : SqlType) → not (clashes (Some (family_of (typed s).kind)) (Some (family_of (typed t).kind))) ≡ true → is_letter (letter_of s) (letter_of t) ≡ true
same-letter s t h =
    ap (λ k. is_letter k (letter_of t)) (letter-family s) ∙ ap (is_letter (letter_in (family_of (typed s).kind))) (letter-family t)
    ∙ same-family (family_of (typed s).kind) (family_of (typed t).kind) h

-- ---- a column that is named, with its type

record IsTypedColumn (columns : Columns) (cs : List Column) (n : Identifier) : Type 0 where
  column : Column
  known : named n.name columns ≡ Some (Some column.kind)
  there : slice_get cs (column_of columns n) ≡ Some column

kind-at : (cs : List Column) (i : ℕ) (t : SqlType) → slice_get (kinds_of cs) i ≡ Some t → (c : Column) × (slice_get cs i ≡ Some c) × (t ≡ c.kind)
kind-at [] i t h = absurd cc
kind-at (c ∷ cs) zero t h = (c, refl, inside t c.kind (sym h))
  where
    inside : (a b : SqlType) → Some a ≡ Some b → a ≡ b
    inside a b h = cc
kind-at (c ∷ cs) (suc i) t h = kind-at cs i t h

typed-by : (columns : Columns) (cs : List Column) (n : Identifier) (o : Option (ℕ × Option SqlType)) → index_named 0 n.name columns ≡ o → IfSome o (IsColumn (kinds_of cs) 0) → is_some (option_map (λ p. p.1) o) ≡ true → IsTypedColumn columns cs n
typed-by columns cs n None is h some = absurd cc
typed-by columns cs n (Some p) is h some =
    let from : h.place ≡ column_of columns n = omega (arith, h.from, ap place_in is) in
    let at = kind-at cs (column_of columns n) h.type (subst (λ i. slice_get (kinds_of cs) i ≡ Some h.type) from h.there) in
    record { column = at.0; known = named_placed n.name 0 columns ∙ ap (option_map (λ p. p.1)) is ∙ ap (λ k. Some k) h.declared ∙ ap (λ t. Some (Some t)) at.2; there = at.1 }

typed-column : (columns : Columns) (cs : List Column) (n : Identifier) → HaveTypes columns (kinds_of cs) → IsNamed columns n → IsTypedColumn columns cs n
typed-column columns cs n h named =
    typed-by columns cs n (index_named 0 n.name columns) refl (columns_placed n.name 0 columns (kinds_of cs) h) (ap is_some (sym (named_placed n.name 0 columns)) ∙ named)

-- ---- pairs of columns

pair-up : (from to : TableDef) (own others : Columns) (m n : Identifier) → IsTypedColumn own from.columns m → IsTypedColumn others to.columns n → not (clashes (family_named own m.name) (family_named others n.name)) ≡ true
    → pairs_up from to (column_of own m, column_of others n) ≡ true
pair-up from to own others m n a b h =
    ap (λ o. where_there o (λ c. where_there (slice_get to.columns (column_of others n)) (λ d. is_letter (letter_of c.kind) (letter_of d.kind)))) a.there
    ∙ ap (λ o. where_there o (λ d. is_letter (letter_of a.column.kind) (letter_of d.kind))) b.there
    ∙ same-letter a.column.kind b.column.kind (ap (λ o. not (clashes (Some (family_of (typed a.column.kind).kind)) (family_of_column o))) (sym b.known)
    ∙ ap (λ o. not (clashes (family_of_column o) (family_named others n.name))) (sym a.known) ∙ h)

module _ (from to : TableDef) (own others : Columns) (typed-own : HaveTypes own (kinds_of from.columns)) (typed-others : HaveTypes others (kinds_of to.columns)) where
  as-many : (ms ns : List Identifier) → are_paired own (names_of ms) others (names_of ns) ≡ true → length (map (column_of own) ms) ≡ length (map (column_of others) ns)
  as-many [] [] h = refl
  as-many [] (n ∷ ns) h = absurd cc
  as-many (m ∷ ms) [] h = absurd cc
  as-many (m ∷ ms) (n ∷ ns) h = ap suc (as-many ms ns (both (not (clashes (family_named own m.name) (family_named others n.name))) (are_paired own (names_of ms) others (names_of ns)) h).1)

  all-pair : (ms ns : List Identifier) → Each (IsNamed own) ms → Each (IsNamed others) ns → are_paired own (names_of ms) others (names_of ns) ≡ true → list_all (pairs_up from to) (zip (map (column_of own) ms) (map (column_of others) ns)) ≡ true
  all-pair [] [] a b h = refl
  all-pair [] (n ∷ ns) a b h = absurd cc
  all-pair (m ∷ ms) [] a b h = absurd cc
  all-pair (m ∷ ms) (n ∷ ns) a b h =
      let parts = both (not (clashes (family_named own m.name) (family_named others n.name))) (are_paired own (names_of ms) others (names_of ns)) h in
      both-hold (pairs_up from to (column_of own m, column_of others n)) (list_all (pairs_up from to) (zip (map (column_of own) ms) (map (column_of others) ns)))
      (pair-up from to own others m n (typed-column own from.columns m typed-own a.0) (typed-column others to.columns n typed-others b.0) parts.0)
      (all-pair ms ns a.1 b.1 parts.1)

-- ---- what is known of a table without a fault

pub record IsReferable (t : TableTree) : Type 0 where
  pub parts : Parts t
  pub good : IsGood t
  pub keyed : IsKeyed t
  pub placed : Placed (columns_of (table_elements t)) 0 (table_elements t)
  pub key : OneKey (table_elements t)

pub table-referable : (t : TableTree) → table_fault t ≡ None → IsReferable t
table-referable t none =
    let parts : Parts t = table-parts t none in
    let good : IsGood t = table-good t none in
    record { parts = parts; good = good; keyed = table-keyed t parts good; placed = columns-placed (table_elements t) parts.names; key = one-key t.name (table_elements t) parts.key }

-- ---- a constraint from a table to one

-- its columns, and those that they refer to
pub fits : (t u : TableTree) → IsReferable t → IsReferable u → (ms ns : List Identifier) → IsList (columns_of (table_elements t)) ms → IsList (columns_of (table_elements u)) ns
    → does_match (columns_of (table_elements t)) (names_of ms) (referred_of u) (names_of ns) ≡ true → (from to : ℕ)
    → NoFault (pair_fault (resolve_table t).definition (record { from = from; columns = map (column_of (columns_of (table_elements t))) ms; to = to; target = map (column_of (columns_of (table_elements u))) ns }) (resolve_table u).definition)
fits t u a b ms ns l k matched from to =
    let own : Columns = columns_of (table_elements t) in
    let others : Columns = columns_of (table_elements u) in
    let f : TableDef = (resolve_table t).definition in
    let g : TableDef = (resolve_table u).definition in
    let parts = both (are_paired own (names_of ms) others (names_of ns)) (list_any (same_names (names_of ns)) (lists_of (table_elements u))) matched in
    let one : is_one_of_keys g (map (column_of others) ns) ≡ true = subst (Has (g.key ∷ g.unique)) (places-named others ns) (one-of-keys (table_elements u) b.placed b.key (names_of ns) parts.1) in
    clear (are_there f.columns (map (column_of own) ms) && are_there g.columns (map (column_of others) ns)) _ Range Definition
    (both-hold (are_there f.columns (map (column_of own) ms)) (are_there g.columns (map (column_of others) ns)) (list-there own f.columns ms a.keyed.long l.named) (list-there others g.columns ns b.keyed.long k.named))
    (both-hold (is_column_list (map (column_of own) ms) && is_column_list (map (column_of others) ns)) _
    (both-hold (is_column_list (map (column_of own) ms)) (is_column_list (map (column_of others) ns)) (list-places own ms l) (list-places others ns k))
    (both-hold (nat_eq (length (map (column_of own) ms)) (length (map (column_of others) ns)) && list_all (pairs_up f g) (zip (map (column_of own) ms) (map (column_of others) ns))) _
    (both-hold (nat_eq (length (map (column_of own) ms)) (length (map (column_of others) ns))) _
    (eq-eqb _ _ (as-many f g own others a.good.typed b.good.typed ms ns parts.0))
    (all-pair f g own others a.good.typed b.good.typed ms ns l.named k.named parts.0)) one))

-- the columns that are meant
pub record IsMeant (tables : List ResolvedTable) (to : ℕ) (own : Columns) (ms : List Identifier) (u : TableTree) (names : Option Names) : Type 0 where
  pub meant : List Identifier
  pub list : IsList (columns_of (table_elements u)) meant
  pub matched : does_match own (names_of ms) (referred_of u) (names_of meant) ≡ true
  pub target : target_of tables (Some (to, columns_of (table_elements u))) names ≡ map (column_of (columns_of (table_elements u))) meant

pub are-meant : (tables : List ResolvedTable) (to : ℕ) (own : Columns) (place : Place) (ms : List Identifier) (u : TableTree) → slice_get tables to ≡ Some (resolve_table u) → IsReferable u → (names : Option Names)
    → match_fault own place (names_of ms) (referred_of u) names ≡ None → IsMeant tables to own ms u names
are-meant tables to own place ms u there b None none =
    let es : List Element = table_elements u in
    let does : Bool = does_match own (names_of ms) (referred_of u) (first_key (keys_of es)) in
    let parts = neither (breaks_if (not does) rule.KeyDoesNotMatch place) None none in
    record {
      meant = b.key.names;
      list = subst (λ o. IfSome o (IsList (columns_of es))) b.key.is b.keyed.key;
      matched = ap (λ l. does_match own (names_of ms) (referred_of u) (first_key l)) (sym b.key.only) ∙ not-false does (unbroken (not does) rule.KeyDoesNotMatch place parts.0);
      target = ap key_in there ∙ ap (places_in (columns_of es)) b.key.is;
    }
are-meant tables to own place ms u there b (Some names) none =
    let columns : Columns = columns_of (table_elements u) in
    let does : Bool = does_match own (names_of ms) (referred_of u) (names_of (several names)) in
    let parts = neither (breaks_if (not does) rule.KeyDoesNotMatch place) (target_fault columns (Some names)) none in
    record {
      meant = several names;
      list = listed columns (several names) refl parts.1;
      matched = not-false does (unbroken (not does) rule.KeyDoesNotMatch place parts.0);
      target = refl;
    }
