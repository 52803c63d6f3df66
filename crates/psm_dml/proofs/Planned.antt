-- The rows that a statement leaves, and what it makes of the others, by the keys of those.
use Rattle.std.proofs.Common.{◌≡◌, ℕ, List, [], ◌∷◌, ◌++◌, length, arith, refl, ap, sym, subst, ◌∙◌, Option, Some, None, Result, Ok, Err}
use Rattle.std.specs.Prelude.{All, map, if◌then◌else◌}
use Rattle.std.specs.List.{cons_option}
use Rattle.std.specs.declared.cmp.Ordering.TheVariants.{Less, Equal}
use Rattle.std.proofs.lemmas.List.{length-map}
use Rattle.std.proofs.lemmas.List.Elements.{All-cons, All-head, All-tail}
use Rattle.psm_sqlstate.specs.declared.state.SqlState.{SqlState}
use Rattle.psm_value.specs.declared.datum.Datum.{Datum}
use Rattle.psm_value.specs.declared.truth.Truth.{Truth}
use Rattle.psm_value.specs.declared.truth.Truth.TheVariants.{True, False, Unknown}
use Rattle.psm_table.specs.Changing.{divided, then_of, with_left, with_made, Changed, Division, Failure, Raised}
use Rattle.psm_table.specs.Evaluator.{Evaluator, and_then, mapped, test_of}
use Rattle.psm_table.specs.Key.{key_order, row_order, values_at}
use Rattle.psm_table.specs.Queries.{is_met, walked}
use Rattle.psm_table.specs.Rows.{rows_above, without, IsAscending}
use Rattle.psm_table.proofs.Deleting.{taken_out}
use Rattle.psm_table.proofs.Filters.{AllPairs-first, AllPairs-rest}
use Rattle.psm_table.proofs.KeyLaws.{key_order-refl}
use Rattle.psm_table.proofs.Undo.{all-above, after_equal, none-below}
use Rattle.psm_dml.specs.declared.planning.Change.{Change}
use Rattle.psm_dml.specs.Changes.{changing}
use Rattle.psm_row_changes.specs.Rows.{without_all}
use Rattle.psm_dml.specs.Collected.{key_in}
use Rattle.psm_dml.proofs.Walked.{walked-all, walked-map}

abbrev Row : Type 0
Row = List Datum

module _ (columns : List ℕ) where
  abbrev Rises : Row → Row → Type 0
  Rises a b = key_order (values_at columns a) (values_at columns b) ≡ Less

  -- the first row, taken out by its own key
  first_out : (row : Row) (rows : List Row) → IsAscending columns (row ∷ rows) → without columns (values_at columns row) (row ∷ rows) ≡ rows
  first_out row rows up =
      let same : row_order columns (values_at columns row) row ≡ Equal = key_order-refl (values_at columns row) in
      let g = after_equal columns (values_at columns row) row rows up same in
      rw same (ap (λ l. l ++ rows_above columns (values_at columns row) rows) (none-below columns (values_at columns row) rows g) ∙ all-above columns (values_at columns row) rows g)

  -- it stays where other keys are taken out
  first_stays : (row : Row) (rows : List Row) (key : List Datum) → row_order columns key row ≡ Less → without columns key (row ∷ rows) ≡ row ∷ without columns key rows
  first_stays row rows key e = rw e refl

  pub all_but_first : (row : Row) (rows : List Row) (keys : List (List Datum)) → All (λ key. row_order columns key row ≡ Less) keys → without_all columns keys (row ∷ rows) ≡ row ∷ without_all columns keys rows
  all_but_first row rows [] h = refl
  all_but_first row rows (key ∷ keys) h =
      ap (without_all columns keys) (first_stays row rows key (All-head (λ k. row_order columns k row ≡ Less) key keys h))
      ∙ all_but_first row (without columns key rows) keys (All-tail (λ k. row_order columns k row ≡ Less) key keys h)

  module _ {E : Type 0} (ev : Evaluator E) (test : Option E) (make : Row → Result Row SqlState) where
    abbrev pub as_division : List Row → List Change → Division
    as_division rows changes = record { left = without_all columns (map (λ c. c.key) changes) rows; made = map (λ c. c.made) changes }

    has_key : (row : Row) (m : Result Row SqlState) (c : Change) → mapped (λ new. record { key = values_at columns row; made = new }) m ≡ Ok c → values_at columns row ≡ c.key
    has_key row (Ok new) c e = let one : Change = record { key = values_at columns row; made = new } in let same : one ≡ c = cc in ap (λ (d : Change). d.key) same
    has_key row (Err s) c e = cc

    later : (row other : Row) (c : Change) → changing columns make other ≡ Ok c → Rises row other → row_order columns c.key row ≡ Less
    later row other c e h = subst (λ k. key_order (values_at columns row) k ≡ Less) (has_key other (make other) c e) h

    keys_all : (row : Row) (changes : List Change) → All (λ (c : Change). row_order columns c.key row ≡ Less) changes → All (λ k. row_order columns k row ≡ Less) (map (λ (c : Change). c.key) changes)
    keys_all row [] h = λ k d l. absurd (omega arith)
    keys_all row (c ∷ cs) h =
        All-cons (λ k. row_order columns k row ≡ Less) c.key (map (λ (d : Change). d.key) cs) (All-head (λ (d : Change). row_order columns d.key row ≡ Less) c cs h)
        (keys_all row cs (All-tail (λ (d : Change). row_order columns d.key row ≡ Less) c cs h))

    divide_step : (row : Row) (rows : List Row) (t : Result Truth SqlState) (m : Result Row SqlState) (w : Result (List Change) SqlState) (d : Result Division SqlState)
        → IsAscending columns (row ∷ rows) → ((cs : List Change) → w ≡ Ok cs → All (λ (c : Change). row_order columns c.key row ≡ Less) cs) → d ≡ mapped (as_division rows) w
        → and_then t (λ met. if is_met met then and_then m (λ new. mapped (with_made new) d) else mapped (with_left row) d)
        ≡ mapped (as_division (row ∷ rows)) (and_then (and_then t (λ met. if is_met met then mapped (λ c. Some c) (mapped (λ new. record { key = values_at columns row; made = new }) m) else Ok None)) (λ a. mapped (λ more. cons_option a more) w))
    divide_step row rows (Ok True) (Ok new) (Ok cs) d up h e =
        ap (mapped (with_made new)) e
        ∙ ap (λ (l : List Row). Ok (record { left = l; made = new ∷ map (λ (c : Change). c.made) cs })) (ap (without_all columns (map (λ (c : Change). c.key) cs)) (sym (first_out row rows up)))
    divide_step row rows (Ok True) (Ok new) (Err s) d up h e = ap (mapped (with_made new)) e
    divide_step row rows (Ok True) (Err s) w d up h e = refl
    divide_step row rows (Ok False) m (Ok cs) d up h e =
        ap (mapped (with_left row)) e
        ∙ ap (λ (l : List Row). Ok (record { left = l; made = map (λ (c : Change). c.made) cs })) (sym (all_but_first row rows (map (λ (c : Change). c.key) cs) (keys_all row cs (h cs refl))))
    divide_step row rows (Ok False) m (Err s) d up h e = ap (mapped (with_left row)) e
    divide_step row rows (Ok Unknown) m (Ok cs) d up h e =
        ap (mapped (with_left row)) e
        ∙ ap (λ (l : List Row). Ok (record { left = l; made = map (λ (c : Change). c.made) cs })) (sym (all_but_first row rows (map (λ (c : Change). c.key) cs) (keys_all row cs (h cs refl))))
    divide_step row rows (Ok Unknown) m (Err s) d up h e = ap (mapped (with_left row)) e
    divide_step row rows (Err s) m w d up h e = refl

    -- the rows are divided as the changes say
    pub divided_by : (rows : List Row) → IsAscending columns rows → divided ev test make rows ≡ mapped (as_division rows) (walked (test_of ev test) (changing columns make) rows)
    divided_by [] up = refl
    divided_by (row ∷ rows) up =
        divide_step row rows (test_of ev test row) (make row) (walked (test_of ev test) (changing columns make) rows) (divided ev test make rows) up
        (λ cs w. walked-all (test_of ev test) (changing columns make) (Rises row) (λ (c : Change). row_order columns c.key row ≡ Less) (λ other c e r. later row other c e r) rows cs w (AllPairs-first Rises row rows up))
        (divided_by rows (AllPairs-rest Rises row rows up))

  -- ---- DELETE

  module _ {E : Type 0} (ev : Evaluator E) (test : Option E) where
    abbrev kept : Row → Result Row SqlState
    kept row = Ok row

    abbrev ending : Division → Result Changed Failure
    ending p = Ok (record { rows = p.left; count = length p.made })

    keys_are : (rows : List Row) → walked (test_of ev test) (key_in columns) rows ≡ mapped (λ l. map (λ (c : Change). c.key) l) (walked (test_of ev test) (changing columns kept) rows)
    keys_are rows = walked-map (test_of ev test) (changing columns kept) (λ (c : Change). c.key) rows

    deleted_step : (rows : List Row) (keys : List (List Datum)) (w : Result (List Change) SqlState) → mapped (λ l. map (λ (c : Change). c.key) l) w ≡ Ok keys
        → then_of (mapped (as_division ev test kept rows) w) ending ≡ Ok (record { rows = without_all columns keys rows; count = length keys })
    deleted_step rows keys (Ok cs) e =
        let same : map (λ (c : Change). c.key) cs ≡ keys = cc in
        ap (λ (n : ℕ). Ok (record { rows = without_all columns (map (λ (c : Change). c.key) cs) rows; count = n })) (length-map cs (λ (c : Change). c.made) ∙ sym (length-map cs (λ (c : Change). c.key)))
        ∙ ap (λ (ks : List (List Datum)). Ok (record { rows = without_all columns ks rows; count = length ks })) same
    deleted_step rows keys (Err s) e = cc

    -- the rows without those of the keys that are found
    pub deleted_is : (rows : List Row) (keys : List (List Datum)) → IsAscending columns rows → walked (test_of ev test) (key_in columns) rows ≡ Ok keys
        → taken_out ev test rows ≡ Ok (record { rows = without_all columns keys rows; count = length keys })
    deleted_is rows keys up e =
        ap (λ r. then_of r ending) (divided_by ev test kept rows up)
        ∙ deleted_step rows keys (walked (test_of ev test) (changing columns kept) rows) (sym (keys_are rows) ∙ e)

    raised_step : (rows : List Row) (s : SqlState) (w : Result (List Change) SqlState) → mapped (λ l. map (λ (c : Change). c.key) l) w ≡ Err s
        → then_of (mapped (as_division ev test kept rows) w) ending ≡ Err (Raised s)
    raised_step rows s (Ok cs) e = cc
    raised_step rows s (Err q) e = let same : q ≡ s = cc in ap (λ x. Err (Raised x)) same

    pub deleted_raises : (rows : List Row) (s : SqlState) → IsAscending columns rows → walked (test_of ev test) (key_in columns) rows ≡ Err s → taken_out ev test rows ≡ Err (Raised s)
    deleted_raises rows s up e =
        ap (λ r. then_of r ending) (divided_by ev test kept rows up)
        ∙ raised_step rows s (walked (test_of ev test) (changing columns kept) rows) (sym (keys_are rows) ∙ e)
