-- The FOREIGN KEY constraints of well-formed code are of tables that are there, with the columns that they name.
use Rattle.std.proofs.Common.{◌≡◌, ◌<◌, ℕ, zero, suc, ◌+◌, Bool, true, false, cond, ◌&&◌, nat_eq, nat_le, nat_lt, List, [], ◌∷◌, ◌++◌, get_or, length, map, refl, ap, ap₂, sym, subst, ◌∙◌, arith, append_assoc, eq-eqb, length-append, ltb-true, Option, Some, None}
use Rattle.std.specs.Prelude.{All, filter, slice_get}
use Rattle.std.proofs.lemmas.List.Elements.{All-cons, All-nil}
use Rattle.std.proofs.lemmas.Option.{slice_get-get_or}
use Rattle.psm_num.proofs.Literals.{and_first, and_second}
use Rattle.psm_table.specs.declared.definition.ForeignKey.{ForeignKey}
use Rattle.psm_table.specs.declared.definition.TableDef.{TableDef}
use Rattle.psm_table.specs.Keyed.{defs_in, IsKeyOf}
use Rattle.psm_table.specs.Table.{Contents}
use Rattle.psm_code.specs.declared.code.CodeTable.{CodeTable}
use Rattle.psm_code.specs.declared.code.RawCode.{RawCode}
use Rattle.psm_code.specs.declared.rule.CodeRule.{CodeRule}
use Rattle.psm_code.specs.declared.rule.CodeRule.TheVariants.{Range, Definition}
use Rattle.psm_code.specs.MachineInvariant.{AreKept}
use Rattle.psm_code.specs.RoutineRules.{first_fault}
use Rattle.psm_code.specs.Rules.{each_after, is_there}
use Rattle.psm_code.specs.TableRules.{are_in_turn, are_there, column_fault, foreign_key_fault, foreign_key_to, key_fault, keys_from, name_fault, table_faults, unique_fault}
use Rattle.psm_code.proofs.Faults.{clean_first, clean_head, clean_second, clean_tail, keys_in_turn, tables_clean, two_hold, Clean}
use Rattle.psm_code.proofs.Guarantees.{there_below}

-- ---- what stands before an item of a list

get_first : {A : Type 0} (xs ys : List A) (x u : A) (j : ℕ) → slice_get (xs ++ x ∷ []) j ≡ Some u → slice_get (xs ++ x ∷ ys) j ≡ Some u
get_first [] ys x u zero e = e
get_first [] ys x u (suc j) e = absurd (cc)
get_first (y ∷ xs) ys x u zero e = e
get_first (y ∷ xs) ys x u (suc j) e = get_first xs ys x u j e

-- the items before one, each at its index in the list, and the lines of that
record Placed {A : Type 0} (f : List A → A → List (Option CodeRule)) (all : List A) (n : ℕ) (x : A) : Type 0 where
  before : List A
  long : length before ≡ n
  same : (j : ℕ) (u : A) → slice_get (before ++ x ∷ []) j ≡ Some u → slice_get all j ≡ Some u
  clean : Clean (f before x)

placed : {A : Type 0} (f : List A → A → List (Option CodeRule)) (before xs all : List A) (i : ℕ) (x : A) → before ++ xs ≡ all → Clean (each_after f before xs) → slice_get xs i ≡ Some x → Placed f all (length before + i) x
placed f before [] all i x q h e = absurd (cc)
placed f before (y ∷ ys) all zero x q h e =
    let same : y ≡ x = cc in
    record {
      before = before;
      long = omega arith;
      same = λ j u g. ap (λ l. slice_get l j) (sym q) ∙ get_first before ys y u j (ap (λ z. slice_get (before ++ z ∷ []) j) same ∙ g);
      clean = subst (λ z. Clean (f before z)) same (clean_first (f before y) (each_after f (before ++ y ∷ []) ys) h);
    }
placed f before (y ∷ ys) all (suc i) x q h e =
    let p = placed f (before ++ y ∷ []) ys all i x (append_assoc before (y ∷ []) ys ∙ q) (clean_second (f before y) (each_after f (before ++ y ∷ []) ys) h) e in
    let long : length p.before ≡ length (before ++ y ∷ []) + i = p.long in
    record { before = p.before; long = omega (arith, long, length-append before (y ∷ [])); same = p.same; clean = p.clean }

-- ---- the constraints

filtered_clean : {A : Type 0} (f : A → Option CodeRule) (x : A) (b : Bool) (xs : List A) → b ≡ true → Clean (map f (cond b (x ∷ xs) xs)) → f x ≡ None
filtered_clean f x true xs t h = clean_head (f x) (map f xs) h
filtered_clean f x false xs t h = absurd (cc)

others_clean : {A : Type 0} (f : A → Option CodeRule) (x : A) (b : Bool) (xs : List A) → Clean (map f (cond b (x ∷ xs) xs)) → Clean (map f xs)
others_clean f x true xs h = clean_tail (f x) (map f xs) h
others_clean f x false xs h = h

clean_filter : {A : Type 0} (f : A → Option CodeRule) (p : A → Bool) (xs : List A) (i : ℕ) (x : A) → Clean (map f (filter p xs)) → slice_get xs i ≡ Some x → p x ≡ true → f x ≡ None
clean_filter f p [] i x h e t = absurd (cc)
clean_filter f p (y ∷ ys) zero x h e t = let same : x ≡ y = cc in ap f same ∙ filtered_clean f y (p y) (filter p ys) (ap p (sym same) ∙ t) h
clean_filter f p (y ∷ ys) (suc i) x h e t = clean_filter f p ys i x (others_clean f y (p y) (filter p ys) h) e t

turn_at : (at count : ℕ) (keys : List ForeignKey) (i : ℕ) (key : ForeignKey) → are_in_turn at count keys ≡ true → slice_get keys i ≡ Some key → nat_lt key.from count ≡ true
turn_at at count [] i key h e = absurd (cc)
turn_at at count (k ∷ keys) zero key h e =
    let same : key ≡ k = cc in
    ap (λ (x : ForeignKey). nat_lt x.from count) same ∙ and_second (nat_le at k.from) (nat_lt k.from count) (and_first (nat_le at k.from && nat_lt k.from count) (are_in_turn k.from count keys) h)
turn_at at count (k ∷ keys) (suc i) key h e = turn_at k.from count keys i key (and_second (nat_le at k.from && nat_lt k.from count) (are_in_turn k.from count keys) h) e

found : {A : Type 0} (xs : List A) (n : ℕ) → n < length xs → (x : A) × (slice_get xs n ≡ Some x)
found [] n l = absurd (omega (arith, l))
found (x ∷ xs) zero l = (x, refl)
found (x ∷ xs) (suc n) l = found xs n (omega (arith, l))

columns_below : {A : Type 0} (columns : List A) (ns : List ℕ) → are_there columns ns ≡ true → All (λ n. n < length columns) ns
columns_below columns [] h = All-nil (λ n. n < length columns)
columns_below columns (n ∷ ns) h =
    let below : n < length columns = ltb-true n (length columns) (there_below columns n (and_first (is_there columns n) (are_there columns ns) h)) in
    All-cons (λ n. n < length columns) n ns below (columns_below columns ns (and_second (is_there columns n) (are_there columns ns) h))

-- a table that is referred to is there, and the two have the columns
abbrev Pairs : List CodeTable → TableDef → ForeignKey → Type 0
Pairs tables from key = (to : CodeTable) × (slice_get tables key.to ≡ Some to) × (are_there from.columns key.columns ≡ true) × (are_there to.definition.columns key.target ≡ true)

pairs : (tables : List CodeTable) (from : TableDef) (key : ForeignKey) (o : Option CodeTable) → ((to : CodeTable) → o ≡ Some to → slice_get tables key.to ≡ Some to) → foreign_key_to from key o ≡ None → Pairs tables from key
pairs tables from key None g h = absurd (cc)
pairs tables from key (Some to) g h =
    let there = are_there from.columns key.columns && are_there to.definition.columns key.target in
    let t = two_hold there _ Range Definition h in
    (to, g to refl, and_first (are_there from.columns key.columns) (are_there to.definition.columns key.target) t.0, and_second (are_there from.columns key.columns) (are_there to.definition.columns key.target) t.0)

definition_at : (tables : List CodeTable) (n : ℕ) (t : CodeTable) → slice_get tables n ≡ Some t → slice_get (map (λ (u : CodeTable). u.definition) tables) n ≡ Some t.definition
definition_at [] n t e = absurd (cc)
definition_at (u ∷ tables) zero t e = let same : u ≡ t = cc in ap (λ (x : CodeTable). Some x.definition) same
definition_at (u ∷ tables) (suc n) t e = definition_at tables n t e

module _ (code : RawCode) (e : first_fault code ≡ None) where
  abbrev Defs : List TableDef
  Defs = map (λ (t : CodeTable). t.definition) code.tables

  key_at : (i : ℕ) (key : ForeignKey) → slice_get code.keys i ≡ Some key → IsKeyOf Defs key
  key_at i key g =
      let t = found code.tables key.from (ltb-true key.from (length code.tables) (turn_at 0 (length code.tables) code.keys i key (keys_in_turn code e) g)) in
      let p = placed (table_faults code.keys) [] code.tables code.tables key.from t.0 refl (tables_clean code e) t.1 in
      let def = t.0.definition in
      let front = name_fault p.before t.0 ∷ each_after column_fault [] def.columns ++ key_fault def ∷ map (unique_fault def) def.unique in
      let own = map (foreign_key_fault p.before t.0) (keys_from code.keys (length p.before)) in
      let here : key.from ≡ length p.before = omega (arith, p.long) in
      let none : foreign_key_fault p.before t.0 key ≡ None = clean_filter (foreign_key_fault p.before t.0) (λ (k : ForeignKey). nat_eq k.from (length p.before)) code.keys i key (clean_second front own (clean_first (front ++ own) _ p.clean)) g (eq-eqb key.from (length p.before) here) in
      let q = pairs code.tables def key (slice_get (p.before ++ t.0 ∷ []) key.to) (λ to o. p.same key.to to o) none in
      record {
        refers = (def, definition_at code.tables key.from t.0 t.1, columns_below def.columns key.columns q.2);
        referred = (q.0.definition, definition_at code.tables key.to q.0 q.1, columns_below q.0.definition.columns key.target q.3);
      }

  pub keys_are_of_tables : All (IsKeyOf Defs) code.keys
  keys_are_of_tables i d l = key_at i (get_or code.keys i d) (slice_get-get_or code.keys i d l)

pub kept_definitions : (ts : List CodeTable) (cs : List Contents) → AreKept ts cs → defs_in cs ≡ map (λ (t : CodeTable). t.definition) ts
kept_definitions [] [] h = refl
kept_definitions [] (c ∷ cs) h = absurd h
kept_definitions (t ∷ ts) [] h = absurd h
kept_definitions (t ∷ ts) (c ∷ cs) h = ap₂ (λ (x : TableDef) (xs : List TableDef). x ∷ xs) h.0.same (kept_definitions ts cs h.1)
