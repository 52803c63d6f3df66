-- Cursors among the instructions: OPEN, CLOSE, FETCH and the next row of FOR.
use Rattle.std.proofs.Common.{◌≡◌, ℕ, zero, suc, Bool, true, false, List, [], ◌∷◌, ◌++◌, length, refl, ap, sym, subst, Option, Some, None, Result, Ok, Err}
use Rattle.std.specs.Prelude.{All, IfSome, codes, slice_get, slice_set, slice_index_or, if◌then◌else◌}
use Rattle.std.proofs.lemmas.List.{length-map}
use Rattle.std.proofs.lemmas.List.Elements.{All-filter, All-head, All-tail}
use Rattle.psm_sqlstate.specs.declared.state.SqlState.{SqlState}
use Rattle.psm_value.specs.declared.datum.Datum.{Datum}
use Rattle.psm_value.specs.declared.datum.Datum.TheVariants.{Null}
use Rattle.psm_value.specs.declared.truth.Truth.{Truth}
use Rattle.psm_exprcode.specs.declared.items.Items.{Items}
use Rattle.psm_exprcode.specs.declared.items.Items.TheVariants as items
use Rattle.psm_exprcode.specs.declared.op.Letter.{Letter}
use Rattle.psm_exprcode.specs.declared.query.Query.{Query}
use Rattle.psm_exprcode.specs.Kinds.{are_of}
use Rattle.psm_table.specs.Cursors.{advanced, arrived, before_first, first_met, lies_past, rows_past, Closed, Cursor, Insensitive, Plain, Position}
use Rattle.psm_table.specs.Definition.{IsKey}
use Rattle.psm_table.specs.declared.definition.TableDef.{TableDef}
use Rattle.psm_table.specs.Evaluator.{and_then as then_of, mapped, test_of, values_of, Evaluator}
use Rattle.psm_table.specs.Queries.{in_walk, is_met}
use Rattle.psm_table.specs.Queries as queries
use Rattle.psm_tablecode.specs.Codes.{over, query_of}
use Rattle.psm_code.specs.declared.code.CodeCursor.{CodeCursor}
use Rattle.psm_code.specs.declared.code.CodeTable.{CodeTable}
use Rattle.psm_code.specs.declared.code.RawCode.{RawCode}
use Rattle.psm_code.specs.declared.code.RawRoutine.{RawRoutine}
use Rattle.psm_code.specs.declared.lines.CodeLine.{CodeLine}
use Rattle.psm_code.specs.declared.rule.CodeRule.TheVariants as rule
use Rattle.psm_code.specs.Instructions.{column_letters, columns_at, columns_of_table, item_letters, letters_of_query, may_raise, variables_of}
use Rattle.psm_code.specs.Parts.{slots_of}
use Rattle.psm_code.specs.PlanRules.{cursor_fault, has_rows, items_in}
use Rattle.psm_code.specs.Querying.{close, cursor_now, declared_at, fetch, items_of_found, items_on, let_go, next, next_of, «open», open_as, opened, some_row}
use Rattle.psm_code.specs.Rules.{is_there, where_there}
use Rattle.psm_code.specs.MachineInvariant.{are_stored, AreCursors, Keeps}
use Rattle.psm_code.specs.State.{Machine, with_cursor}
use Rattle.psm_code.specs.Steps.{Act, change, got, read, table_now, tried, ◌>>=◌, ◌>>◌}
use Rattle.psm_code.proofs.Acts.{Does, Has, and_then, present_does, tried_does}
use Rattle.psm_code.proofs.Answering.{in_walk_all}
use Rattle.psm_code.proofs.Asking.{items_fit, row_letters}
use Rattle.psm_code.proofs.Faults.{clean_map, two_hold, Clean, WellFormedRoutineCode}
use Rattle.psm_code.proofs.Operating.{stored_letters}
use Rattle.psm_code.proofs.Queried.{answer_does, put_values_do, query_does, well_formed_query, rows_lettered, table_does, variables_do, WellFormedQueryCode}
use Rattle.psm_code.proofs.Raises.{there_some, where_some}

-- ---- the row that a plain cursor finds

module _ (P : List Datum → Type 0) where
  abbrev pub IsRowOf : Option (List Datum) → Type 0
  IsRowOf None = Unit {0}
  IsRowOf (Some row) = P row

  met_step : (test : List Datum → Result Truth SqlState) (row : List Datum) (rows : List (List Datum)) (o : Option (List Datum)) (x : Result Truth SqlState) → P row → (first_met test rows ≡ Ok o → IsRowOf o)
      → then_of x (λ met. if is_met met then Ok (Some row) else first_met test rows) ≡ Ok o → IsRowOf o
  met_step test row rows o (Err s) p k e = absurd (cc)
  met_step test row rows o (Ok met) p k e = by (is_met met) e where
    by : (b : Bool) → (if b then Ok (Some row) else first_met test rows) ≡ Ok o → IsRowOf o
    by true e = let same : Some row ≡ o = cc in subst IsRowOf same p
    by false e = k e

  met : (test : List Datum → Result Truth SqlState) (rows : List (List Datum)) (o : Option (List Datum)) → All P rows → first_met test rows ≡ Ok o → IsRowOf o
  met test [] o h e = let same : None ≡ o = cc in subst IsRowOf same tt
  met test (row ∷ rows) o h e = met_step test row rows o (test row) (All-head P row rows h) (λ f. met test rows o (All-tail P row rows h) f) e

  abbrev pub Found : Type 0
  Found = Option (List Datum) × Position

  -- a row of the table, and a key of its columns
  pub record Advances (key : List ℕ) (found : Found) : Type 0 where
    pub row : IsRowOf found.0
    pub bound : IfSome found.1.bound (λ k. length k ≡ length key)

  arrives : (key : List ℕ) (p : Position) (o : Option (List Datum)) → IfSome p.bound (λ k. length k ≡ length key) → IsRowOf o → Advances key (arrived key p o)
  arrives key p None b r = record { row = tt; bound = b }
  arrives key p (Some row) b r = record { row = r; bound = length-map key (λ c. slice_index_or row c Null) }

  mapped_by : (key : List ℕ) (p : Position) (found : Found) (x : Result (Option (List Datum)) SqlState) → IfSome p.bound (λ k. length k ≡ length key) → ((o : Option (List Datum)) → x ≡ Ok o → IsRowOf o)
      → mapped (arrived key p) x ≡ Ok found → Advances key found
  mapped_by key p found (Err s) b k e = absurd (cc)
  mapped_by key p found (Ok o) b k e = let same : arrived key p o ≡ found = cc in subst (Advances key) same (arrives key p o b (k o refl))

  advances_by : {E : Type 0} (ev : Evaluator E) (query : queries.Query E) (key : List ℕ) (rows : List (List Datum)) (p : Position) (found : Found) (past : Bool) → All P rows → IfSome p.bound (λ k. length k ≡ length key)
      → (if past then Ok (None, p) else mapped (arrived key p) (first_met (test_of ev query.test) (rows_past key query.downward p.bound rows))) ≡ Ok found → Advances key found
  advances_by ev query key rows p found true h b e =
      let one : Found = (None, p) in
      let same : one ≡ found = cc in
      subst (Advances key) same (record { row = tt; bound = b })
  advances_by ev query key rows p found false h b e =
      mapped_by key p found (first_met (test_of ev query.test) (rows_past key query.downward p.bound rows)) b
      (λ o f. met (test_of ev query.test) (rows_past key query.downward p.bound rows) o (All-filter (lies_past key query.downward p.bound) P (in_walk query.downward rows) (in_walk_all P query.downward rows h)) f) e

  pub advances : {E : Type 0} (ev : Evaluator E) (query : queries.Query E) (key : List ℕ) (rows : List (List Datum)) (p : Position) (found : Found) → All P rows → IfSome p.bound (λ k. length k ≡ length key)
      → advanced ev query key rows p ≡ Ok found → Advances key found
  advances ev query key rows p found h b e = advances_by ev query key rows p found p.is_past_last h b e

-- ---- what the rules say of a cursor

pub record WellFormedCursorCode (code : RawCode) (r : RawRoutine) (x : CodeCursor) : Type 0 where
  pub query : Query
  pub there : slice_get r.queries x.query ≡ Some query
  pub rows : has_rows query.items ≡ true
  pub well_formed_code : WellFormedQueryCode code r query

pub well_formed_cursor : (code : RawCode) (r : RawRoutine) (n : ℕ) (x : CodeCursor) → WellFormedRoutineCode code r → slice_get r.cursors n ≡ Some x → WellFormedCursorCode code r x
well_formed_cursor code r n x g e =
    let t = two_hold (is_there r.queries x.query) (where_there (slice_get r.queries x.query) (λ q. has_rows q.items)) rule.Range rule.Definition (clean_map (cursor_fault r) r.cursors n x g.cursors e) in
    let q = there_some (slice_get r.queries x.query) t.0 in
    record { query = q.0; there = q.1; rows = where_some (slice_get r.queries x.query) (λ q. has_rows q.items) q.0 t.1 q.1; well_formed_code = well_formed_query code r x.query q.0 g q.1 }

abbrev IsCursor : RawCode → RawRoutine → CodeCursor → Cursor → Type 0
IsCursor code r x c = IfSome (slice_get r.queries x.query) (λ q. Keeps code r q c)

cursor_at : (code : RawCode) (r : RawRoutine) (xs : List CodeCursor) (cs : List Cursor) (i : ℕ) (x : CodeCursor) → AreCursors code r xs cs → slice_get xs i ≡ Some x → (c : Cursor) × (slice_get cs i ≡ Some c) × IsCursor code r x c
cursor_at code r [] cs i x h e = absurd (cc)
cursor_at code r (y ∷ xs) [] i x h e = absurd h
cursor_at code r (y ∷ xs) (c ∷ cs) zero x h e = let same : y ≡ x = cc in (c, refl, subst (λ (z : CodeCursor). IsCursor code r z c) same h.0)
cursor_at code r (y ∷ xs) (c ∷ cs) (suc i) x h e = cursor_at code r xs cs i x h.1 e

cursor_set : (code : RawCode) (r : RawRoutine) (xs : List CodeCursor) (cs : List Cursor) (i : ℕ) (x : CodeCursor) (c : Cursor) → AreCursors code r xs cs → slice_get xs i ≡ Some x → IsCursor code r x c → AreCursors code r xs (slice_set cs i c)
cursor_set code r [] cs i x c h e k = absurd (cc)
cursor_set code r (y ∷ xs) [] i x c h e k = absurd h
cursor_set code r (y ∷ xs) (d ∷ cs) zero x c h e k = let same : y ≡ x = cc in (subst (λ (z : CodeCursor). IsCursor code r z c) (sym same) k, h.1)
cursor_set code r (y ∷ xs) (d ∷ cs) (suc i) x c h e k = (h.0, cursor_set code r xs cs i x c h.1 e k)

module _ (code : RawCode) (r : RawRoutine) (l : CodeLine) (number : ℕ) (x : CodeCursor) (declared : slice_get r.cursors number ≡ Some x) (g : WellFormedCursorCode code r x) where
  pub with_cursor_has : (c : Cursor) (s : List Letter) (m : Machine) → Keeps code r g.query c → Has code r l s m → Has code r l s (with_cursor number c m)
  with_cursor_has c s m k h = record {
    body = record {
      routine = h.body.routine;
      line = h.body.line;
      variables = h.body.variables;
      cursors = cursor_set code r r.cursors m.running.cursors number x c h.body.cursors declared (subst (λ o. IfSome o (λ q. Keeps code r q c)) (sym g.there) k);
      frames = h.body.frames;
      callers = h.body.callers;
      depth = h.body.depth;
      tables = h.body.tables;
    };
    operands = h.operands;
  }

  pub declared_does : (s : List Letter) (m : Machine) → Has code r l s m → Does code r l (λ y n. (y ≡ x) × Has code r l s n) (declared_at r number) m
  declared_does s m h = present_does code r l (λ y n. (y ≡ x) × Has code r l s n) (slice_get r.cursors number) x m declared (refl, h)

  pub cursor_does : (s : List Letter) (m : Machine) → Has code r l s m → Does code r l (λ c n. Keeps code r g.query c × Has code r l s n) (cursor_now number) m
  cursor_does s m h =
      and_then code r l (λ cs n. AreCursors code r r.cursors cs × Has code r l s n) _ (read (λ m. m.running.cursors)) _ m (record { evaluates = (h.body.cursors, h) }) (λ cs n f.
      let c = cursor_at code r r.cursors cs number x f.0 declared in
      present_does code r l (λ c n. Keeps code r g.query c × Has code r l s n) (slice_get cs number) c.0 n c.1 (subst (λ o. IfSome o (λ q. Keeps code r q c.0)) g.there c.2, f.1))

  module _ (may : may_raise l.instruction ≡ true) where
    -- ---- OPEN and CLOSE

    no_bound : (o : Option CodeTable) → IfSome o (λ t. IfSome before_first.bound (IsKey t.definition))
    no_bound None = tt
    no_bound (Some t) = tt

    open_as_does : (insensitive : Bool) (s : List Letter) (m : Machine) → Has code r l s m → Does code r l (λ u n. Has code r l s n) (open_as insensitive number g.query) m
    open_as_does false s m h =
        and_then code r l _ _ _ _ m (variables_do code r l s m h) (λ vs n f. record { evaluates = with_cursor_has (Plain before_first vs) s n (f.0, no_bound (slice_get code.tables g.query.table)) f.1 })
    open_as_does true s m h =
        and_then code r l _ _ _ _ m (answer_does code r l may g.query s m g.well_formed_code h) (λ a n f. record { evaluates = with_cursor_has (Insensitive a.rows) s n f.0 f.1 })

    opened_does : (c : Cursor) (s : List Letter) (m : Machine) → Has code r l s m → Does code r l (λ u n. Has code r l s n) (opened r number x c) m
    opened_does Closed s m h =
        and_then code r l _ _ _ _ m (query_does code r l may x.query g.query s m g.there h) (λ q n f.
        subst (λ (q : Query). Does code r l (λ u n. Has code r l s n) (open_as x.insensitive number q) n) (sym f.0) (open_as_does x.insensitive s n f.1))
    opened_does (Plain p vs) s m h = record { evaluates = (may, h.body) }
    opened_does (Insensitive rows) s m h = record { evaluates = (may, h.body) }

    pub open_does : (s : List Letter) (m : Machine) → Has code r l s m → Does code r l (λ u n. Has code r l s n) («open» r number) m
    open_does s m h =
        and_then code r l _ _ _ _ m (declared_does s m h) (λ y n f.
        and_then code r l _ _ _ _ n (cursor_does s n f.1) (λ c k z.
        subst (λ (y : CodeCursor). Does code r l (λ u n. Has code r l s n) (opened r number y c) k) (sym f.0) (opened_does c s k z.1)))

    let_go_does : (c : Cursor) (s : List Letter) (m : Machine) → Has code r l s m → Does code r l (λ u n. Has code r l s n) (let_go number x c) m
    let_go_does Closed s m h = record { evaluates = (may, h.body) }
    let_go_does (Plain p vs) s m h = record { evaluates = with_cursor_has Closed s m tt h }
    let_go_does (Insensitive rows) s m h = record { evaluates = with_cursor_has Closed s m tt h }

    pub close_does : (s : List Letter) (m : Machine) → Has code r l s m → Does code r l (λ u n. Has code r l s n) (close r number) m
    close_does s m h =
        and_then code r l _ _ _ _ m (declared_does s m h) (λ y n f.
        and_then code r l _ _ _ _ n (cursor_does s n f.1) (λ c k z.
        subst (λ (y : CodeCursor). Does code r l (λ u n. Has code r l s n) (let_go number y c) k) (sym f.0) (let_go_does c s k z.1)))

    -- ---- the next row

    abbrev pub Letters : List Letter
    Letters = letters_of_query code r g.query

    abbrev pub Evaluates_step : List Letter → Option (List Datum) → Machine → Type 0
    Evaluates_step s o n = IsRowOf (λ row. are_of Letters row ≡ true) o × Has code r l s n

    items_by : (i : Items) (vs row : List Datum) (s : List Letter) (m : Machine) → Clean (items_in code r g.query.table i) → has_rows i ≡ true → are_stored (slots_of r) vs ≡ true → are_of (columns_at code g.query.table) row ≡ true → Has code r l s m
        → Does code r l (λ ds n. (are_of (item_letters (columns_at code g.query.table) (variables_of r) i) ds ≡ true) × Has code r l s n) (items_on i vs row) m
    items_by (items.Rows codes) vs row s m k y v w h =
        tried_does code r l _ (Has code r l s) (values_of (over vs) codes row) m may h.body h (λ ds e. row_letters code r g.query.table vs (stored_letters (slots_of r) vs v) codes row ds (items_fit code r g.query.table codes k) w e)
    items_by (items.Sets sets) vs row s m k y v w h = absurd (cc)

    found_does : (o : Option (List Datum)) (vs : List Datum) (s : List Letter) (m : Machine) → are_stored (slots_of r) vs ≡ true → IsRowOf (λ row. are_of (columns_at code g.query.table) row ≡ true) o → Has code r l s m
        → Does code r l (Evaluates_step s) (items_of_found g.query vs o) m
    found_does None vs s m v w h = record { evaluates = (tt, h) }
    found_does (Some row) vs s m v w h = and_then code r l _ _ _ _ m (items_by g.query.items vs row s m g.well_formed_code.items g.rows v w h) (λ ds n f. record { evaluates = f })

    abbrev plain_next : Position → List Datum → Query → Act (Option (List Datum))
    plain_next p vars query = do
      t ← table_now query.table
      found ← tried (advanced (over vars) (query_of query) t.def.key t.rows p)
      change (with_cursor number (Plain found.1 vars))
      items_of_found query vars found.0

    next_of_does : (c : Cursor) (s : List Letter) (m : Machine) → Keeps code r g.query c → Has code r l s m → Does code r l (Evaluates_step s) (next_of r number x c) m
    next_of_does Closed s m k h = record { evaluates = (may, h.body) }
    next_of_does (Insensitive []) s m k h = record { evaluates = (tt, h) }
    next_of_does (Insensitive (row ∷ rows)) s m k h =
        let P : List Datum → Type 0 = λ row. are_of Letters row ≡ true in
        and_then code r l (λ u n. Has code r l s n) (Evaluates_step s) (change (with_cursor number (Insensitive rows))) (λ u. got (Some row)) m (record { evaluates = with_cursor_has (Insensitive rows) s m (All-tail P row rows k) h }) (λ u n f. record { evaluates = (All-head P row rows k, f) })
    next_of_does (Plain p vs) s m k h =
        and_then code r l _ _ _ _ m (query_does code r l may x.query g.query s m g.there h) (λ q n f.
        subst (λ (q : Query). Does code r l (Evaluates_step s) (plain_next p vs q) n) (sym f.0)
        (and_then code r l _ _ _ _ n (table_does code r l g.query.table g.well_formed_code.table s n g.well_formed_code.there f.1) (λ t j y.
        let P : List Datum → Type 0 = λ row. are_of (columns_at code g.query.table) row ≡ true in
        let letters : column_letters g.well_formed_code.table ≡ columns_at code g.query.table = ap columns_of_table (sym g.well_formed_code.there) in
        let rows : All P t.rows = subst (λ ks. All (λ row. are_of ks row ≡ true) t.rows) letters (rows_lettered g.well_formed_code.table t y.0) in
        let bound : IfSome p.bound (IsKey g.well_formed_code.table.definition) = subst (λ o. IfSome o (λ t. IfSome p.bound (IsKey t.definition))) g.well_formed_code.there k.1 in
        let bound_now : IfSome p.bound (λ k. length k ≡ length t.def.key) = subst (λ (d : TableDef). IfSome p.bound (IsKey d)) (sym y.0.same) bound in
        and_then code r l (λ found n. Advances P t.def.key found × Has code r l s n) _ _ _ j
        (tried_does code r l (Advances P t.def.key) (Has code r l s) (advanced (over vs) (query_of g.query) t.def.key t.rows p) j may y.1.body y.1 (λ found e. advances P (over vs) (query_of g.query) t.def.key t.rows p found rows bound_now e)) (λ found i z.
        let after : IfSome found.1.bound (IsKey g.well_formed_code.table.definition) = subst (λ (d : TableDef). IfSome found.1.bound (IsKey d)) y.0.same z.0.bound in
        let kept : Keeps code r g.query (Plain found.1 vs) = (k.0, subst (λ o. IfSome o (λ t. IfSome found.1.bound (IsKey t.definition))) (sym g.well_formed_code.there) after) in
        and_then code r l (λ u n. Has code r l s n) _ (change (with_cursor number (Plain found.1 vs))) _ i (record { evaluates = with_cursor_has (Plain found.1 vs) s i kept z.1 }) (λ u n w.
        found_does found.0 vs s n k.0 z.0.row w)))))

    pub next_does : (s : List Letter) (m : Machine) → Has code r l s m → Does code r l (Evaluates_step s) (next r number) m
    next_does s m h =
        and_then code r l _ _ _ _ m (declared_does s m h) (λ y n f.
        and_then code r l _ _ _ _ n (cursor_does s n f.1) (λ c k z.
        subst (λ (y : CodeCursor). Does code r l (Evaluates_step s) (next_of r number y c) k) (sym f.0) (next_of_does c s k z.0 z.1)))

    some_row_does : (o : Option (List Datum)) (s : List Letter) (m : Machine) → IsRowOf (λ row. are_of Letters row ≡ true) o → Has code r l s m → Does code r l (λ u n. Has code r l (Letters ++ s) n) (some_row o) m
    some_row_does None s m f h = record { evaluates = (may, h.body) }
    some_row_does (Some ds) s m f h = put_values_do code r l Letters s ds m f h

    pub fetch_does : (s : List Letter) (m : Machine) → Has code r l s m → Does code r l (λ u n. Has code r l (Letters ++ s) n) (fetch r number) m
    fetch_does s m h = and_then code r l _ _ _ _ m (next_does s m h) (λ o n f. some_row_does o s n f.0 f.1)
