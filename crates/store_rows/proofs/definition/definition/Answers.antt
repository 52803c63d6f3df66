use Rattle.std.proofs.Common.{◌≡◌, ◌<◌, ℕ, List, [], ◌∷◌, length, ap, arith, rules, sym, subst, ◌∙◌}
use Rattle.std.specs.Prelude.{◌≢◌, All, AllPairs}
use Rattle.std.proofs.lemmas.List.{length-map}
use Rattle.std.proofs.lemmas.List.Elements.{All-cons, All-nil}
use Rattle.std.proofs.lemmas.List.Kept.{AllPairs-cons}
use Rattle.psm_value.specs.SqlType.{IsType}
use Rattle.psm_value.specs.declared.sqltype.SqlType.{SqlType}
use Rattle.psm_value.specs.declared.sqltype.SqlType.TheVariants.{VarChar, Numeric, Integer}
use Rattle.psm_table.specs.declared.definition.TableDef.{TableDef}
use Rattle.psm_table.specs.Definition.{IsDefinition}
use Rattle.store_rows.specs.Parts.{IsPartsTable}
use Rattle.store_rows.proofs.definition.definition.Goals as goal

types : All IsType (VarChar 10 ∷ Numeric 5 2 ∷ Integer ∷ [])
types =
    let text : IsType (VarChar 10) = (omega arith, omega arith) in
    let number : IsType (Numeric 5 2) = (omega arith, omega arith, omega arith) in
    All-cons IsType (VarChar 10) (Numeric 5 2 ∷ Integer ∷ []) text (All-cons IsType (Numeric 5 2) (Integer ∷ []) number (All-cons IsType Integer [] tt (All-nil IsType)))

single : (k : ℕ) → AllPairs (λ (a b : ℕ). a ≢ b) (k ∷ [])
single k i j d l m = absurd (omega (arith, l, m))

pairs : AllPairs (λ (a b : ℕ). a ≢ b) (0 ∷ 1 ∷ [])
pairs = AllPairs-cons (λ (a b : ℕ). a ≢ b) 0 (1 ∷ []) (All-cons (λ (b : ℕ). 0 ≢ b) 1 [] (λ e. absurd (omega (arith, e))) (All-nil (λ (b : ℕ). 0 ≢ b))) (single 1)

defined : (def : TableDef) → IsPartsTable def → IsDefinition def
defined def h =
    let long : length def.columns ≡ 3 = sym (length-map def.columns (λ c. c.kind)) ∙ ap length h.kinds in
    record {
      types = subst (λ (kinds : List SqlType). All IsType kinds) (sym h.kinds) types;
      some = omega (arith, ap length h.key);
      exist = subst (λ (ks : List ℕ). All (λ c. c < length def.columns) ks) (sym h.key)
          (All-cons (λ c. c < length def.columns) 0 (1 ∷ []) (omega (arith, long)) (All-cons (λ c. c < length def.columns) 1 [] (omega (arith, long)) (All-nil (λ c. c < length def.columns))));
      distinct = subst (λ (ks : List ℕ). AllPairs (λ a b. a ≢ b) ks) (sym h.key) pairs;
    }

pub returns-clause-defined : goal.returns-clause-defined
returns-clause-defined c = defined _ (search rules)
