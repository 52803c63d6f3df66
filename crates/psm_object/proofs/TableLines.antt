-- The lines of tables from one of them on.
use Rattle.std.proofs.Common.{◌≡◌, ◌<◌, ◌≤◌, ℕ, suc, ◌+◌, List, [], ◌∷◌, ◌++◌, drop, get_or, length, refl, sym, ap, ap₂, ◌∙◌, append_assoc, arith}
use Rattle.std.proofs.Math.Seq.{drop-cons}
use Rattle.std.proofs.lemmas.Grind.{flat_map-append}
use Rattle.psm_table.specs.declared.definition.ForeignKey.{ForeignKey}
use Rattle.psm_code.specs.declared.code.CodeTable.{CodeTable}
use Rattle.psm_code.specs.TableRules.{keys_from}
use Rattle.psm_object.specs.Tables.{table_lines, tables_lines}
use Rattle.psm_object.specs.Words.{ended, text}

-- constraints among which those of these tables are the same
tables_same : (a b : List ForeignKey) (k : ℕ) (ts : List CodeTable) → ((m : ℕ) → k ≤ m → keys_from a m ≡ keys_from b m) → tables_lines a k ts ≡ tables_lines b k ts
tables_same a b k [] h = refl
tables_same a b k (t ∷ ts) h = ap₂ (λ own ls. table_lines own t ++ ls) (h k (omega arith)) (tables_same a b (suc k) ts (λ m l. h m (omega (arith, l))))

rest_of : (ts : List CodeTable) (n : ℕ) (t : CodeTable) → n < length ts → t ≡ get_or ts n t → drop n ts ≡ t ∷ drop (n + 1) ts
rest_of ts n t l e = let k : suc n ≡ n + 1 = omega arith in drop-cons ts n t l ∙ ap (λ u. u ∷ drop (suc n) ts) (sym e) ∙ ap (λ m. t ∷ drop m ts) k

-- a table more
pub next_table : (own left others : List ForeignKey) (ts : List CodeTable) (n : ℕ) (t : CodeTable) (before after all : List ℕ)
    → n < length ts → t ≡ get_or ts n t → keys_from own n ≡ keys_from left n → ((m : ℕ) → n < m → keys_from others m ≡ keys_from left m)
    → after ≡ before ++ text (table_lines (keys_from own n) t) → before ++ text (tables_lines left n (drop n ts)) ≡ all
    → after ++ text (tables_lines others (n + 1) (drop (n + 1) ts)) ≡ all
next_table own left others ts n t before after all l e o p w h =
    let k : suc n ≡ n + 1 = omega arith in
    let rest : List CodeTable = drop (n + 1) ts in
    let mine : List (List ℕ) = table_lines (keys_from own n) t in
    let more : List (List ℕ) = tables_lines left (n + 1) rest in
    let same : tables_lines others (n + 1) rest ≡ more = tables_same others left (n + 1) rest (λ m q. p m (omega (arith, q))) in
    let here : mine ++ more ≡ tables_lines left n (drop n ts) =
    ap₂ (λ ks m. table_lines ks t ++ tables_lines left m rest) o (sym k) ∙ ap (tables_lines left n) (sym (rest_of ts n t l e)) in
    ap₂ (λ x ls. x ++ text ls) w same ∙ append_assoc before (text mine) (text more) ∙ ap (λ x. before ++ x) (sym (flat_map-append ended mine more)) ∙ ap (λ ls. before ++ text ls) here ∙ h
