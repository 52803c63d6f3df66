-- Names that are declared once, as maps keep them.
use Rattle.std.proofs.Common.{◌≡◌, Bool, true, false, is_some, List, [], ◌∷◌, ◌++◌, map, refl, ap, sym, ◌∙◌}
use Rattle.std.specs.Prelude.{Some, Ok, if◌then◌else◌}
use Rattle.psm_scope.specs.Scopes.{Spelling, is_spelled}
use Rattle.psm_scope.specs.Lookup.{named}
use Rattle.psm_scope.specs.Names.{Adds}
use Rattle.psm_scope.specs.Routines.{Callable, Header}
use Rattle.psm_scope.specs.declared.procedures.ProcedureScope.{ProcedureScope}
use Rattle.psm_tree.specs.declared.file.TableTree.{TableTree}
use Rattle.psm_rules.specs.BlockFaults.{declared_once}
use Rattle.psm_rules.specs.FileFaults.{columns_of, first_key, keys_of, table_elements, with_table}
use Rattle.psm_rules.specs.CheckerScope.{Columns, SymbolTable}
use Rattle.psm_check_expr.specs.Keys.{key_names}
use Rattle.psm_check_expr.specs.declared.symbols.Key.{Key}

-- what is seen of each that is declared
module _ {A B : Type 0} (f : A → B) where
  abbrev pub each : Spelling × A → Spelling × B
  each p = (p.0, f p.1)

  is_named : (n : Spelling) (xs : List (Spelling × A)) → is_some (named n (map each xs)) ≡ is_some (named n xs)
  is_named n [] = refl
  is_named n (p ∷ more) = by (is_spelled n p.0) (is_named n more)
    where
      by : (b : Bool) → is_some (named n (map each more)) ≡ is_some (named n more)
          → is_some (if b then Some (f p.1) else named n (map each more)) ≡ is_some (if b then Some p.1 else named n more)
      by true e = refl
      by false e = e

  last_seen : (xs : List (Spelling × A)) (p : Spelling × A) → map each (xs ++ p ∷ []) ≡ map each xs ++ each p ∷ []
  last_seen [] p = refl
  last_seen (q ∷ more) p = ap (λ l. each q ∷ l) (last_seen more p)

  pub declared_each : (xs : List (Spelling × A)) (n : Spelling) (x : A) → map each (declared_once xs n x) ≡ declared_once (map each xs) n (f x)
  declared_each xs n x = by (is_some (named n xs)) ∙ ap (λ b. if b then map each xs else map each xs ++ (n, f x) ∷ []) (sym (is_named n xs))
    where
      by : (b : Bool) → map each (if b then xs else xs ++ (n, x) ∷ []) ≡ (if b then map each xs else map each xs ++ (n, f x) ∷ [])
      by true = refl
      by false = last_seen xs (n, x)

pub added_once : {A : Type 0} (n : Spelling) (x : A) (old new : List (Spelling × A)) (added : Bool) → Adds n x old new (Ok added) → new ≡ declared_once old n x
added_once n x old new true a = a.1 ∙ sym (ap (λ o. if is_some o then old else old ++ (n, x) ∷ []) a.0)
added_once n x old new false a = a.1 ∙ sym (ap (λ b. if b then old else old ++ (n, x) ∷ []) a.0)

-- a table more
module _ (functions : Callable) (procedures : List (Header × ProcedureScope)) where
  abbrev pub known : List (Spelling × Columns) → List (Spelling × List Spelling) → SymbolTable
  known tables keys = record { tables = tables; keys = keys; functions = functions; procedures = procedures }

  pub table_added : (symbols : SymbolTable) (tables new_tables : List (Spelling × Columns)) (keys new_keys : List (Spelling × Key)) (t : TableTree) (columns : Columns) (key : Key) (a b : Bool)
      → known tables (map (each key_names) keys) ≡ symbols → columns ≡ columns_of (table_elements t) → key_names key ≡ first_key (keys_of (table_elements t))
      → Adds t.name.name columns tables new_tables (Ok a) → Adds t.name.name key keys new_keys (Ok b) → known new_tables (map (each key_names) new_keys) ≡ with_table symbols t
  table_added symbols tables new_tables keys new_keys t columns key a b checker_scope c k f g =
      let n = t.name.name in
      ap (λ ts. known ts (map (each key_names) new_keys)) (added_once n columns tables new_tables a f ∙ ap (λ cs. declared_once tables n cs) c)
      ∙ ap (λ ks. known (declared_once tables n (columns_of (table_elements t))) ks)
      (ap (map (each key_names)) (added_once n key keys new_keys b g) ∙ declared_each key_names keys n key ∙ ap (λ l. declared_once (map (each key_names) keys) n l) k)
      ∙ ap (λ w. with_table w t) checker_scope
