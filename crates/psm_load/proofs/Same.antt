-- Parts by what the readers of their lines give are those of a text.
use Rattle.std.proofs.Common.{◌≡◌, ℕ, zero, suc, ◌<◌, ◌-◌, List, ◌∷◌, map, Option, Some, None, option_map, Result, Ok, Err, refl, sym, ap, ◌∙◌, arith}
use Rattle.psm_table.specs.declared.definition.Column.{Column}
use Rattle.psm_load_line.specs.Forms as forms
use Rattle.psm_load_line.specs.Forms.{column_at, item_at, key_at, plan_at, reference_at, table_at, unique_at}
use Rattle.psm_load_line.specs.Readers.{LineReader}
use Rattle.psm_load_line.specs.Said.{columns_of, item_head_of, plan_head_of, reference_of, table_head_of}
use Rattle.psm_load_line.specs.declared.head.ItemHead.{ItemHead}
use Rattle.psm_load_line.specs.declared.head.Reference.{Reference}
use Rattle.psm_load_line.specs.declared.head.TableHead.{TableHead}
use Rattle.psm_load.specs.Parts.{At, Part, and_then, given, one, times, ◌>>◌}
use Rattle.psm_load.specs.Read.{item_words, plan_read, says, table_read}
use Rattle.psm_load.specs.Stated.{expression, items_by, items_of, plan, plan_by, table, table_by}
use Rattle.psm_load.specs.declared.tables.TableText.{TableText}

abbrev Given : Type 0 → Type 0
Given A = Result (A × (At × List (List ℕ))) ℕ

fused : {A B C : Type 0} (f : A → B) (k : B → Part C) (r : Given A) → and_then (and_then r (λ a. given (f a))) k ≡ and_then r (λ a. k (f a))
fused f k (Ok x) = refl
fused f k (Err n) = refl

nested : {A B C : Type 0} (r : Given A) (next : A → Part B) (k : B → Part C) → and_then (and_then r next) k ≡ and_then r (λ a at ls. and_then (next a at ls) k)
nested (Ok x) next k = refl
nested (Err n) next k = refl

times_says : {A B : Type 0} (f : A → B) (read : LineReader A) (n : ℕ) (at : At) (ls : List (List ℕ)) → times n (says f read) at ls ≡ and_then (times n (one read) at ls) (λ xs. given (map f xs))
times_says f read zero at ls = refl
times_says f read (suc n) at ls =
    fused f (λ b. times n (says f read) >> λ others. given (b ∷ others)) (one read at ls)
    ∙ (λ i. and_then (one read at ls) (λ a at ls. and_then (times_says f read n at ls i) (λ others. given (f a ∷ others))))
    ∙ (λ i. and_then (one read at ls) (λ a at ls. fused (map f) (λ others. given (f a ∷ others)) (times n (one read) at ls) i))
    ∙ sym ((λ i. nested (one read at ls) (λ a. times n (one read) >> λ others. given (a ∷ others)) (λ xs. given (map f xs)) i)
    ∙ (λ i. and_then (one read at ls) (λ a at ls. fused (λ others. a ∷ others) (λ xs. given (map f xs)) (times n (one read) at ls) i)))

abbrev with_checks : TableHead → List Column → List ℕ → List (List ℕ) → List Reference → Part TableText
with_checks h columns key uniques references =
    times h.checks expression >> λ checks. given (record { table = record { definition = record { name = h.name; columns = columns; key = key; unique = uniques }; checks = checks }; references = references })

abbrev with_references : TableHead → List Column → List ℕ → List (List ℕ) → Part TableText
with_references h columns key uniques = times h.keys (says reference_of reference_at) >> λ references. with_checks h columns key uniques references

table_by_same : (h : forms.TableHead) (at : At) (ls : List (List ℕ)) → table_read (table_head_of h) at ls ≡ table_by h at ls
table_by_same h at ls =
    let f = table_head_of h in
    (λ i. and_then (times h.1.0 (one column_at) at ls) (λ columns at ls. fused columns_of (λ key. times h.1.1.0 (says columns_of unique_at) >> λ uniques. with_references f columns key uniques) (one key_at at ls) i))
    ∙ (λ i. and_then (times h.1.0 (one column_at) at ls) (λ columns at ls. and_then (one key_at at ls) (λ key at ls. and_then (times_says columns_of unique_at h.1.1.0 at ls i) (λ uniques. with_references f columns (columns_of key) uniques))))
    ∙ (λ i. and_then (times h.1.0 (one column_at) at ls) (λ columns at ls. and_then (one key_at at ls) (λ key at ls. fused (map columns_of) (λ uniques. with_references f columns (columns_of key) uniques) (times h.1.1.0 (one unique_at) at ls) i)))
    ∙ (λ i. and_then (times h.1.0 (one column_at) at ls) (λ columns at ls. and_then (one key_at at ls) (λ key at ls. and_then (times h.1.1.0 (one unique_at) at ls) (λ uniques at ls.
    and_then (times_says reference_of reference_at h.1.1.1.1 at ls i) (λ references. with_checks f columns (columns_of key) (map columns_of uniques) references)))))
    ∙ (λ i. and_then (times h.1.0 (one column_at) at ls) (λ columns at ls. and_then (one key_at at ls) (λ key at ls. and_then (times h.1.1.0 (one unique_at) at ls) (λ uniques at ls.
    fused (map reference_of) (λ references. with_checks f columns (columns_of key) (map columns_of uniques) references) (times h.1.1.1.1 (one reference_at) at ls) i))))

-- a table
pub table_same : (at : At) (ls : List (List ℕ)) → table at ls ≡ (says table_head_of table_at >> table_read) at ls
table_same at ls = sym (fused table_head_of table_read (one table_at at ls) ∙ (λ i. and_then (one table_at at ls) (λ h at ls. table_by_same h at ls i)))

plan_by_same : (h : forms.PlanHead) (at : At) (ls : List (List ℕ)) → plan_read (plan_head_of h) at ls ≡ plan_by h at ls
plan_by_same (forms.Insert t rows column columns) at ls = refl
plan_by_same (forms.InsertQuery t q column columns) at ls = refl
plan_by_same (forms.Update t n has_test) at ls = refl
plan_by_same (forms.Delete t has_test) at ls = refl
plan_by_same (forms.UpdateAt cursor n) at ls = refl
plan_by_same (forms.DeleteAt cursor) at ls = refl

-- a plan
pub plan_same : (at : At) (ls : List (List ℕ)) → plan at ls ≡ (says plan_head_of plan_at >> plan_read) at ls
plan_same at ls = sym (fused plan_head_of plan_read (one plan_at at ls) ∙ (λ i. and_then (one plan_at at ls) (λ h at ls. plan_by_same h at ls i)))

-- items
pub items_same : (n : ℕ) (at : At) (ls : List (List ℕ)) → 0 < n → items_of n at ls ≡ (one item_at >> items_by (n - 1)) at ls
items_same zero at ls h = absurd (omega (arith, h))
items_same (suc n) at ls h = let e : n ≡ suc n - 1 = omega arith in ap (λ m. (one item_at >> items_by m) at ls) e

pub item_words_of : (i : forms.ItemHead) → item_words (item_head_of i) ≡ i
item_words_of forms.Value = refl
item_words_of (forms.Function f) = refl
item_words_of forms.Rows = refl

pub item_said : (o : Option forms.ItemHead) (i : ItemHead) → option_map item_head_of o ≡ Some i → o ≡ Some (item_words i)
item_said None i e = absurd (cc e)
item_said (Some a) i e = let h : item_head_of a ≡ i = cc in ap Some (sym (item_words_of a) ∙ ap item_words h)
