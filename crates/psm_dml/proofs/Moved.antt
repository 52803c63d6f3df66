-- UPDATE of the row that has a key.
use Rattle.std.proofs.Common.{◌≡◌, ℕ, ◌+◌, ◌≤◌, List, [], ◌∷◌, ◌++◌, length, Bool, false, refl, ap, sym, subst, ◌∙◌, Option, Some, None, Result, Ok, Err}
use Rattle.std.specs.Prelude.{All, IfSome, cond, map, slice_get, if◌then◌else◌}
use Rattle.std.specs.List.{cons_option}
use Rattle.std.specs.Ordering.{is_eq}
use Rattle.std.specs.declared.cmp.Ordering.{Ordering}
use Rattle.std.specs.declared.cmp.Ordering.TheVariants.{Less, Equal, Greater}
use Rattle.std.proofs.lemmas.List.Elements.{All-head, All-tail}
use Rattle.psm_sqlstate.specs.declared.state.SqlState.{SqlState}
use Rattle.psm_cond.specs.declared.fault.DataFault.{DataFault}
use Rattle.psm_cond.specs.declared.fault.DataFault.TheVariants as reported_as
use Rattle.psm_exprcode.specs.declared.op.Line.{Line}
use Rattle.psm_exprcode.specs.declared.set_item.SetItem as set_code
use Rattle.psm_value.specs.declared.datum.Datum.{Datum}
use Rattle.psm_value.specs.declared.datum.Datum.TheVariants.{Null}
use Rattle.psm_value.specs.declared.truth.Truth.TheVariants.{True, False}
use Rattle.psm_table.specs.Changing.{counting, ended, has_moved, moving, then_of, updated_at, Changed, Failure, IsLegal, Moved, Raised}
use Rattle.psm_table.specs.Definition.{IsKey}
use Rattle.psm_table.specs.Evaluator.{and_then, mapped, test_of, Evaluator}
use Rattle.psm_table.specs.Key.{key_order, row_order, values_at}
use Rattle.psm_table.specs.Queries.{is_met, walked}
use Rattle.psm_table.specs.Rows.{row_with, IsAscending}
use Rattle.psm_table.specs.Table.{keyed, most_rows, Contents, IsTable}
use Rattle.psm_table.proofs.Filters.{AllPairs-rest}
use Rattle.psm_table.proofs.Undo.{after_equal}
use Rattle.psm_tablecode.specs.Codes.{over}
use Rattle.psm_dml.specs.Changes.{changing, row_set, set_of}
use Rattle.psm_dml.specs.declared.planning.Change.{Change}
use Rattle.psm_dml.specs.Ends.{schema_of, schema_with, Ends, EndsAt, EndsAtRow, IsExpected}
use Rattle.psm_row_changes.specs.Rows.{without_keys, IsWhole}
use Rattle.psm_value.specs.Answer.{Gives}
use Rattle.psm_value.specs.declared.fault.ValueFault.{ValueFault}
use Rattle.psm_value.specs.declared.fault.ValueFault.TheVariants.{Condition, Memory}
use Rattle.psm_tablecode.specs.Faults.{Reports}
use Rattle.psm_dml.proofs.Answering.{gives_err}
use Rattle.psm_row_changes.proofs.Effects.{said, there as there_is}
use Rattle.psm_dml.proofs.Updated.{changed_few, changed_keys, changed_legal, changed_whole, row_set_whole}

abbrev Row : Type 0
Row = List Datum

abbrev Rises : List ℕ → Row → Row → Type 0
Rises columns a b = key_order (values_at columns a) (values_at columns b) ≡ Less

-- ---- the walk that meets the row of the key alone

module _ (columns : List ℕ) (key : List Datum) where
  -- the test is true of the rows that have the key
  abbrev pub by_key : Evaluator (List Line)
  by_key = record { value = λ e row. Ok Null; truth = λ e row. Ok (if is_eq (row_order columns key row) then True else False) }

  abbrev pub whatever : Option (List Line)
  whatever = Some []

  module _ (make : Row → Result Row SqlState) where
    abbrev going : Ordering → Row → Result (List Change) SqlState → Result (List Change) SqlState
    going o x w = and_then (and_then (Ok (if is_eq o then True else False)) (λ met. if is_met met then mapped (λ a. Some a) (changing columns make x) else Ok None)) (λ a. mapped (λ more. cons_option a more) w)

    none_step : (x : Row) (o : Ordering) (w : Result (List Change) SqlState) → o ≡ Greater → w ≡ Ok [] → going o x w ≡ Ok []
    none_step x Less w e f = cc
    none_step x Equal w e f = cc
    none_step x Greater w e f = ap (mapped (λ more. more)) f

    none_met : (rows : List Row) → All (λ r. row_order columns key r ≡ Greater) rows → walked (test_of by_key whatever) (changing columns make) rows ≡ Ok []
    none_met [] g = refl
    none_met (x ∷ xs) g =
        none_step x (row_order columns key x) (walked (test_of by_key whatever) (changing columns make) xs) (All-head (λ r. row_order columns key r ≡ Greater) x xs g)
        (none_met xs (All-tail (λ r. row_order columns key r ≡ Greater) x xs g))

    module _ (row new : Row) (made : make row ≡ Ok new) where
      abbrev pub one : Change
      one = record { key = values_at columns row; made = new }

      one_step : (x : Row) (xs : List Row) (o : Ordering) (w : Result (List Change) SqlState) → (row_with columns key xs ≡ Some row → w ≡ Ok (one ∷ [])) → (o ≡ Equal → w ≡ Ok [])
          → cond (is_eq o) (Some x) (row_with columns key xs) ≡ Some row → going o x w ≡ Ok (one ∷ [])
      one_step x xs Less w h n s = ap (mapped (λ more. more)) (h s)
      one_step x xs Greater w h n s = ap (mapped (λ more. more)) (h s)
      one_step x xs Equal w h n s =
          let same : x ≡ row = cc in
          let first : changing columns make x ≡ Ok one = ap (changing columns make) same ∙ ap (mapped (λ m. record { key = values_at columns row; made = m })) made in
          ap (λ c. and_then (mapped (λ a. Some a) c) (λ a. mapped (λ more. cons_option a more) w)) first ∙ ap (mapped (λ more. one ∷ more)) (n refl)

      pub one_met : (rows : List Row) → IsAscending columns rows → row_with columns key rows ≡ Some row → walked (test_of by_key whatever) (changing columns make) rows ≡ Ok (one ∷ [])
      one_met [] up s = cc
      one_met (x ∷ xs) up s =
          one_step x xs (row_order columns key x) (walked (test_of by_key whatever) (changing columns make) xs) (one_met xs (AllPairs-rest (Rises columns) x xs up))
          (λ e. none_met xs (after_equal columns key x xs up e)) s

-- ---- how the statement ends

module _ (checks : List (List Line)) (among : List Row → Bool) (sets : List set_code.SetItem) (vars : List Datum) where
  abbrev pub moving_of : Contents → Row → Result Moved Failure
  moving_of x row = updated_at (over vars) (over []) (schema_with among x.def checks) (map set_of sets) row x.rows

  module _ (c : Contents) (key : List Datum) (row : Row) (here : keyed c key ≡ Some row) where
    abbrev make : Row → Result Row SqlState
    make = row_set vars c.def sets

    abbrev go : Row → Result Moved Failure
    go new = moving (has_moved c.def row new) (ended (over []) (schema_with among c.def checks) ((without_keys (values_at c.def.key row ∷ []) c).rows ++ new ∷ []))

    raised_step : (s : SqlState) (m : Result Row SqlState) → mapped (λ new. record { key = values_at c.def.key row; made = new }) m ≡ (let r : Result Change SqlState = Err s in r) → then_of m go ≡ Err (Raised s)
    raised_step s (Ok new) e = cc
    raised_step s (Err t) e = let same : t ≡ s = cc in ap (λ x. Err (Raised x)) same

    pub move_raises : (s : SqlState) → changing c.def.key make row ≡ Err s → moving_of c row ≡ Err (Raised s)
    move_raises s e = raised_step s (make row) e

    made_step : (m : Result Row SqlState) (d : Change) → mapped (λ new. record { key = values_at c.def.key row; made = new }) m ≡ Ok d → m ≡ Ok d.made
    made_step (Ok new) d e =
        let first : Change = record { key = values_at c.def.key row; made = new } in
        let same : first ≡ d = cc in
        ap (λ (x : Change). Ok x.made) same
    made_step (Err s) d e = cc

    key_step : (m : Result Row SqlState) (d : Change) → mapped (λ new. record { key = values_at c.def.key row; made = new }) m ≡ Ok d → values_at c.def.key row ≡ d.key
    key_step (Ok new) d e =
        let first : Change = record { key = values_at c.def.key row; made = new } in
        let same : first ≡ d = cc in
        ap (λ (x : Change). x.key) same
    key_step (Err s) d e = cc

    module _ (table : IsTable c) (d : Change) (e : changing c.def.key make row ≡ Ok d) where
      made : make row ≡ Ok d.made
      made = made_step (make row) d e

      walk : walked (test_of (by_key c.def.key key) (whatever c.def.key key)) (changing c.def.key make) c.rows ≡ Ok (d ∷ [])
      walk =
          let met = one_met c.def.key key make row d.made made c.rows table.ascend here in
          met ∙ ap (λ (k : List Datum). let x : Change = record { key = k; made = d.made } in Ok (x ∷ [])) (key_step (make row) d e)

      pub move_few : length (without_keys (d.key ∷ []) c).rows + 1 ≤ most_rows
      move_few = changed_few checks c (by_key c.def.key key) (whatever c.def.key key) make table.ascend (d ∷ []) walk table.bound

      pub move_legal : IsLegal (over []) (schema_of c.def checks) c.rows → IsLegal (over []) (schema_of c.def checks) (without_keys (d.key ∷ []) c).rows
      move_legal h = changed_legal checks c (by_key c.def.key key) (whatever c.def.key key) make table.ascend (d ∷ []) walk h

      pub move_keys : All (IsKey c.def) (d.key ∷ [])
      move_keys = changed_keys checks c (by_key c.def.key key) (whatever c.def.key key) make table.ascend (d ∷ []) walk table.fit

      pub move_whole : All (IsWhole c.def) (d.made ∷ [])
      move_whole = changed_whole checks c (by_key c.def.key key) (whatever c.def.key key) make table.ascend (d ∷ []) walk (λ row new p f. row_set_whole c.def vars sets row new p f) table.fit

      abbrev ending : Result (List Row) Failure
      ending = ended (over []) (schema_with among c.def checks) ((without_keys (d.key ∷ []) c).rows ++ d.made ∷ [])

      move_as : moving_of c row ≡ moving (has_moved c.def row d.made) ending
      move_as =
          ap (λ r. then_of r go) made
          ∙ ap (λ (k : List Datum). moving (has_moved c.def row d.made) (ended (over []) (schema_with among c.def checks) ((without_keys (k ∷ []) c).rows ++ d.made ∷ []))) (key_step (make row) d e)

      module _ (old new : List Contents) (t : ℕ) (there : slice_get old t ≡ Some c) where
        done_step : (r : Result (List Row) Failure) (b : Bool) (n : ℕ) → Ends c (counting 1 r) old t new (Ok n) → EndsAt c (moving b r) old t new (Ok b)
        done_step (Ok rows) b n h =
            let first : Changed = record { rows = rows; count = 1 } in
            let second : Changed = record { rows = h.0; count = n } in
            let same : first ≡ second = cc (h.1) in
            (h.0, ap (λ (x : Changed). let m : Moved = record { rows = x.rows; moved = b } in Ok m) same, h.2)
        done_step (Err f) b n h = cc (h.1)

        fault_step : (r : Result (List Row) Failure) (b : Bool) (what : DataFault) → Ends c (counting 1 r) old t new (Err what) → EndsAt c (moving b r) old t new (Err what)
        fault_step (Ok rows) b (reported_as.Raised condition) h = absurd (h.0)
        fault_step (Err f) b (reported_as.Raised condition) h = h
        fault_step (Ok rows) b reported_as.Memory h = h
        fault_step (Err f) b reported_as.Memory h = h

        abbrev Finished : List (List Datum) → List Row → Result ℕ DataFault → Type 0
        Finished keys rows result =
            IfSome (slice_get old t) (λ x. Ends x (counting (length rows) (ended (over []) (schema_with among x.def checks) ((without_keys keys x).rows ++ rows))) old t new result)

        abbrev Answer : Result Bool DataFault → Type 0
        Answer result = IfSome (slice_get old t) (λ x. EndsAtRow x (moving_of x) (keyed x key) old t new result)

        ends_so : (keys : List (List Datum)) (rows : List Row) (result : Result ℕ DataFault) → keys ≡ d.key ∷ [] → rows ≡ d.made ∷ [] → Finished keys rows result → Ends c (counting 1 ending) old t new result
        ends_so keys rows result k r h =
            let ended_so = there_is (λ x. Ends x (counting (length rows) (ended (over []) (schema_with among x.def checks) ((without_keys keys x).rows ++ rows))) old t new result) (slice_get old t) c there h in
            subst (λ ks. Ends c (counting 1 (ended (over []) (schema_with among c.def checks) ((without_keys ks c).rows ++ d.made ∷ []))) old t new result) k
            (subst (λ rs. Ends c (counting (length rs) (ended (over []) (schema_with among c.def checks) ((without_keys keys c).rows ++ rs))) old t new result) r ended_so)

        answer : (result : Result Bool DataFault) → EndsAt c (moving (has_moved c.def row d.made) ending) old t new result → Answer result
        answer result h =
            said (λ x. EndsAtRow x (moving_of x) (keyed x key) old t new result) (slice_get old t) c there
            (subst (λ o. EndsAtRow c (moving_of c) o old t new result) (sym here) (subst (λ expected. EndsAt c expected old t new result) (sym move_as) h))

        pub move_fault : (keys : List (List Datum)) (rows : List Row) (what : DataFault) → keys ≡ d.key ∷ [] → rows ≡ d.made ∷ [] → Finished keys rows (Err what) → Answer (Err what)
        move_fault keys rows what k r h = answer (Err what) (fault_step ending (has_moved c.def row d.made) what (ends_so keys rows (Err what) k r h))

        pub move_done : (keys : List (List Datum)) (rows : List Row) (n : ℕ) (b : Bool) → keys ≡ d.key ∷ [] → rows ≡ d.made ∷ [] → b ≡ has_moved c.def row d.made → Finished keys rows (Ok n) → Answer (Ok b)
        move_done keys rows n b k r e h =
            subst (λ x. Answer (Ok x)) (sym e) (answer (Ok (has_moved c.def row d.made)) (done_step ending (has_moved c.def row d.made) n (ends_so keys rows (Ok n) k r h)))

    -- an expression raises a condition
    reported : (fault : ValueFault) (what : DataFault) (old new : List Contents) (t : ℕ) → ((s : SqlState) → fault ≡ Condition s → moving_of c row ≡ Err (Raised s)) → Reports fault what → new ≡ old → EndsAt c (moving_of c row) old t new (Err what)
    reported (Condition s) (reported_as.Raised condition) old new t h g f = (subst (λ expected. IsExpected c.def expected condition) (sym (h s refl)) g, f)
    reported (Condition s) reported_as.Memory old new t h g f = f
    reported Memory (reported_as.Raised condition) old new t h g f = absurd g
    reported Memory reported_as.Memory old new t h g f = f

    pub move_reported : (fault : ValueFault) (what : DataFault) (old new : List Contents) (t : ℕ) → slice_get old t ≡ Some c → Gives (changing c.def.key make row) (let r : Result Change ValueFault = Err fault in r) → Reports fault what → new ≡ old
        → IfSome (slice_get old t) (λ x. EndsAtRow x (moving_of x) (keyed x key) old t new (Err what))
    move_reported fault what old new t there g reports f =
        said (λ x. EndsAtRow x (moving_of x) (keyed x key) old t new (Err what)) (slice_get old t) c there
        (subst (λ o. EndsAtRow c (moving_of c) o old t new (Err what)) (sym here)
        (reported fault what old new t (λ s e. move_raises s (gives_err (changing c.def.key make row) fault s e g)) reports f))

  -- no row has the key
  pub move_none : (c : Contents) (key : List Datum) (old new : List Contents) (t : ℕ) → slice_get old t ≡ Some c → None ≡ keyed c key → new ≡ old → IfSome (slice_get old t) (λ x. EndsAtRow x (moving_of x) (keyed x key) old t new (Ok false))
  move_none c key old new t there none f =
      said (λ x. EndsAtRow x (moving_of x) (keyed x key) old t new (Ok false)) (slice_get old t) c there
      (let expected = moving_of c in subst (λ o. EndsAtRow c expected o old t new (Ok false)) none (refl, f))
