-- Values off the operands, and the rows that are made of them.
use Rattle.std.proofs.Common.{◌≡◌, ◌<◌, ◌≤◌, ◌+◌, ◌-◌, ℕ, zero, suc, false, nat_eq, List, [], ◌∷◌, ◌++◌, length, drop, drop_of_length-le, get_or, map, reverse, take, All, append_assoc, append-nil, IsErrAnd, Result, Err, if◌then◌else◌, refl, ap, sym, subst, ◌∙◌, arith}
use Rattle.std.proofs.lemmas.List.{drop_more, reverse-append}
use Rattle.std.proofs.lemmas.List.Elements.{All-cons, All-nil}
use Rattle.psm_value.specs.declared.datum.Datum.{Datum}
use Rattle.psm_exprcode.specs.declared.operand.Operand.{Operand}
use Rattle.psm_exprcode.specs.declared.operand.Operand.TheVariants.{Value, Truth}
use Rattle.psm_table.specs.Definition.{HasColumns}
use Rattle.psm_table.specs.declared.definition.Column.{Column}
use Rattle.psm_table.specs.declared.definition.TableDef.{TableDef}
use Rattle.psm_tablecode.specs.NewRows.{new_row, row_from, value_for}
use Rattle.psm_code.specs.Plans.{in_rows}
use Rattle.psm_code.specs.State.{Machine, Stuck, with_running}
use Rattle.psm_code.specs.Steps.{Came, Ends, Got, go_on, got, pop, pops}
use Rattle.psm_unwind.specs.View.{at_end}
use Rattle.psm_machine.specs.declared.stop.Stop.{Stop}
use Rattle.psm_machine.specs.ActResults.{Evaluates}
use Rattle.psm_machine.proofs.ActSequences.{stopped}

-- ---- values off the operands

one_less : (n k : ℕ) → k < n → n - k ≡ suc (n - (k + 1))
one_less n k h = omega (arith, h)

turned : (vs : List Datum) (d : Datum) → reverse (vs ++ d ∷ []) ≡ d ∷ reverse vs
turned vs d = reverse-append vs (d ∷ [])

pub pops_next : (count index : ℕ) (vs ws : List Datum) (d : Datum) (m n : Machine) → index < count → ws ≡ vs ++ d ∷ [] → pop m ≡ record { given = Got d; machine = n }
    → pops (count - index) (reverse vs) m ≡ pops (count - (index + 1)) (reverse ws) n
pops_next count index vs ws d m n h w e =
    ap (λ k. pops k (reverse vs) m) (one_less count index h)
    ∙ ap (λ (came : Came Datum). go_on came.given (λ d. pops (count - (index + 1)) (d ∷ reverse vs)) came.machine) e
    ∙ ap (λ ds. pops (count - (index + 1)) ds n) (sym (ap reverse w ∙ turned vs d))

pub pops_stop : (count index : ℕ) (vs : List Datum) (m now : Machine) (s : Stop) (r : Result (List Datum) Stop) → index < count → IsErrAnd r (λ e. e ≡ s) → Evaluates (pop m) (Err s) now
    → Evaluates (pops (count - index) (reverse vs) m) r now
pops_stop count index vs m now s r h i e =
    subst (λ k. Evaluates (pops k (reverse vs) m) r now) (sym (one_less count index h)) (stopped (pop m) (λ d. pops (count - (index + 1)) (d ∷ reverse vs)) now s r i e)

pub pops_end : (count index : ℕ) (ds : List Datum) (m : Machine) → index ≡ count → pops (count - index) ds m ≡ got ds m
pops_end count index ds m e = let none : count - index ≡ 0 = omega (arith, e) in ap (λ k. pops k ds m) none

-- there are fewer operands
pub pops_stuck : (os : List Operand) (n : ℕ) (ds : List Datum) (m : Machine) → m.running.operands ≡ os → length os < n → ((pops n ds m).given ≡ Ends Stuck) × (at_end (pops n ds m).machine ≡ at_end m)
pops_stuck os zero ds m e h = absurd (omega (arith, h))
pops_stuck [] (suc n) ds m e h = rw e (refl, refl)
pops_stuck (Value d ∷ os) (suc n) ds m e h = rw e (pops_stuck os n (d ∷ ds) (with_running (λ a. record a { operands = os }) m) refl (omega (arith, h)))
pops_stuck (Truth t ∷ os) (suc n) ds m e h = rw e (refl, refl)

-- ---- rows of one width

pub rows_next : (rows index width : ℕ) (made more : List (List Datum)) (row before after : List Datum) → index < rows → more ≡ made ++ row ∷ [] → row ≡ take width before → after ≡ drop width before
    → made ++ in_rows (rows - index) width before ≡ more ++ in_rows (rows - (index + 1)) width after
rows_next rows index width made more row before after h e f g =
    ap (λ n. made ++ in_rows n width before) (one_less rows index h)
    ∙ ap (λ r. made ++ r ∷ in_rows (rows - (index + 1)) width (drop width before)) (sym f)
    ∙ ap (λ ds. made ++ row ∷ in_rows (rows - (index + 1)) width ds) (sym g)
    ∙ sym (append_assoc made (row ∷ []) (in_rows (rows - (index + 1)) width after))
    ∙ ap (λ rs. rs ++ in_rows (rows - (index + 1)) width after) (sym e)

pub rows_end : (rows index width : ℕ) (made : List (List Datum)) (ds : List Datum) → index ≡ rows → made ++ in_rows (rows - index) width ds ≡ made
rows_end rows index width made ds e = let none : rows - index ≡ 0 = omega (arith, e) in ap (λ n. made ++ in_rows n width ds) none ∙ append-nil made

pub taken_none : (n : ℕ) (xs : List Datum) → length xs ≡ 0 → take n xs ≡ []
taken_none zero [] h = refl
taken_none (suc n) [] h = refl
taken_none n (x ∷ xs) h = absurd (omega (arith, h))

pub left_none : (n : ℕ) (xs : List Datum) → length xs ≡ 0 → drop n xs ≡ xs
left_none zero [] h = refl
left_none (suc n) [] h = refl
left_none n (x ∷ xs) h = absurd (omega (arith, h))

pub first_next : (width index : ℕ) (row more rest ys : List Datum) (v : Datum) → index < width → more ≡ row ++ v ∷ [] → rest ≡ ys ++ v ∷ []
    → (row ++ take (width - index) (reverse rest) ≡ more ++ take (width - (index + 1)) (reverse ys)) × (drop (width - index) (reverse rest) ≡ drop (width - (index + 1)) (reverse ys))
first_next width index row more rest ys v h e f =
    let back : reverse rest ≡ v ∷ reverse ys = ap reverse f ∙ turned ys v in
    let n = width - (index + 1) in (
      ap (λ k. row ++ take k (reverse rest)) (one_less width index h) ∙ ap (λ ds. row ++ take (suc n) ds) back ∙ sym (append_assoc row (v ∷ []) (take n (reverse ys))) ∙ ap (λ ds. ds ++ take n (reverse ys)) (sym e),
      ap (λ k. drop k (reverse rest)) (one_less width index h) ∙ ap (λ ds. drop (suc n) ds) back,
    )

-- ---- the row of a table

pub row_next : (index : ℕ) (all : List Column) (columns : List ℕ) (values row more : List Datum) (c : Column) (v : Datum) → index < length all → more ≡ row ++ v ∷ [] → c ≡ get_or all index c → v ≡ value_for index columns values c.default
    → row ++ row_from index (drop index all) columns values ≡ more ++ row_from (index + 1) (drop (index + 1) all) columns values
row_next index all columns values row more c v h e f g =
    let on : suc index ≡ index + 1 = omega arith in
    let rest = drop (index + 1) all in
    ap (λ cs. row ++ row_from index cs columns values) (drop_more all index c h)
    ∙ ap (λ (c : Column). row ++ value_for index columns values c.default ∷ row_from (suc index) rest columns values) (sym f)
    ∙ ap (λ d. row ++ d ∷ row_from (suc index) rest columns values) (sym g)
    ∙ ap (λ n. row ++ v ∷ row_from n rest columns values) on
    ∙ sym (append_assoc row (v ∷ []) (row_from (index + 1) rest columns values))
    ∙ ap (λ ds. ds ++ row_from (index + 1) rest columns values) (sym e)

pub row_end : (index : ℕ) (all : List Column) (columns : List ℕ) (values row : List Datum) → length all ≤ index → row ++ row_from index (drop index all) columns values ≡ row
row_end index all columns values row h = ap (λ cs. row ++ row_from index cs columns values) (drop_of_length-le all h) ∙ append-nil row

value_short : (index : ℕ) (columns : List ℕ) (d : Datum) → value_for index columns [] d ≡ d
value_short index [] d = refl
value_short index (c ∷ cs) d = refl

pub value_past : (index at : ℕ) (columns : List ℕ) (values : List Datum) (d : Datum) → length values ≤ at → value_for index (drop at columns) (drop at values) d ≡ d
value_past index at columns values d h = ap (λ vs. value_for index (drop at columns) vs d) (drop_of_length-le values h) ∙ value_short index (drop at columns) d

pub value_end : (index at : ℕ) (columns : List ℕ) (values : List Datum) (d : Datum) → length columns ≤ at → value_for index (drop at columns) (drop at values) d ≡ d
value_end index at columns values d h = ap (λ cs. value_for index cs (drop at values) d) (drop_of_length-le columns h)

pub value_here : (index at : ℕ) (columns : List ℕ) (values : List Datum) (d : Datum) (c : ℕ) (v : Datum) → at < length columns → at < length values
    → value_for index (drop at columns) (drop at values) d ≡ (if nat_eq (get_or columns at c) index then get_or values at v else value_for index (drop (at + 1) columns) (drop (at + 1) values) d)
value_here index at columns values d c v h k =
    ap (λ cs. value_for index cs (drop at values) d) (drop_more columns at c h)
    ∙ ap (λ vs. value_for index (get_or columns at c ∷ drop (at + 1) columns) vs d) (drop_more values at v k)

-- a value for another column is passed over
pub value_next : (index at : ℕ) (columns : List ℕ) (values : List Datum) (d : Datum) (c : ℕ) → at < length columns → at < length values → nat_eq (get_or columns at c) index ≡ false
    → value_for index (drop (at + 1) columns) (drop (at + 1) values) d ≡ value_for index (drop at columns) (drop at values) d
value_next index at columns values d c h k e =
    sym (value_here index at columns values d c d h k ∙ ap (λ b. if b then get_or values at d else value_for index (drop (at + 1) columns) (drop (at + 1) values) d) e)

row_long : (index : ℕ) (cs : List Column) (columns : List ℕ) (ds : List Datum) → length (row_from index cs columns ds) ≡ length cs
row_long index [] columns ds = refl
row_long index (c ∷ cs) columns ds = ap suc (row_long (suc index) cs columns ds)

pub rows_fit : (def : TableDef) (columns : List ℕ) (rows : List (List Datum)) → All (HasColumns def) (map (new_row def columns) rows)
rows_fit def columns [] = All-nil (HasColumns def)
rows_fit def columns (row ∷ rows) = All-cons (HasColumns def) (new_row def columns row) (map (new_row def columns) rows) (row_long 0 def.columns columns row) (rows_fit def columns rows)
