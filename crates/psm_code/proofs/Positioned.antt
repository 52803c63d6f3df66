-- Positioned statements among the instructions.
use Rattle.std.proofs.Common.{◌≡◌, ℕ, true, List, map, refl, ap, sym, subst, ◌∙◌, Option, None, Some, Ok}
use Rattle.std.specs.Prelude.{slice_get}
use Rattle.psm_exprcode.specs.declared.op.Letter.{Letter}
use Rattle.psm_exprcode.specs.declared.op.Line.{Line}
use Rattle.psm_exprcode.specs.declared.query.Query.{Query}
use Rattle.psm_exprcode.specs.declared.set_item.SetItem as set_code
use Rattle.psm_table.specs.Changing.{deleted_at, updated_at, Moved, Schema}
use Rattle.psm_value.specs.declared.datum.Datum.{Datum}
use Rattle.psm_table.specs.Cursors.{current, Closed, Cursor, Insensitive, Plain}
use Rattle.psm_table.specs.Table.{Contents}
use Rattle.psm_table.proofs.Legal.{keyed_deleted_at, keyed_updated_at, legal_deleted_at, legal_updated_at}
use Rattle.psm_tablecode.specs.Codes.{over}
use Rattle.psm_code.specs.declared.code.CodeCursor.{CodeCursor}
use Rattle.psm_code.specs.declared.code.RawCode.{RawCode}
use Rattle.psm_code.specs.declared.code.RawRoutine.{RawRoutine}
use Rattle.psm_code.specs.declared.lines.CodeLine.{CodeLine}
use Rattle.psm_code.specs.Instructions.{may_raise}
use Rattle.psm_code.specs.Plans.{delete_at, leave_row, leaves, plain, row_of_cursor, schema_at, schema_of, set_item, standing_on, unless_failed, update_at}
use Rattle.psm_code.specs.State.{Machine}
use Rattle.psm_code.specs.Steps.{Act, read, table_now, ◌>>=◌, ◌>>◌}
use Rattle.psm_code.proofs.Acts.{Does, Has, and_then, present_stays, stays}
use Rattle.psm_code.proofs.Fetching.{cursor_does, declared_does, WellFormedCursorCode}
use Rattle.psm_code.proofs.Queried.{query_does, table_does, variables_do}
use Rattle.psm_code.proofs.Rowing.{deleted_at_rows, updated_at_rows}
use Rattle.psm_code.specs.Querying.{cursor_now, query_at}
use Rattle.psm_code.proofs.Planning.{failed_does, leave_does, leaves_does, row_does, schema_does, keyed_at, Fine}

standing_stays : (x : CodeCursor) (o : Option (List Datum)) (m : Machine) → (standing_on x o m).machine ≡ m
standing_stays x None m = refl
standing_stays x (Some row) m = refl

row_stays : (x : CodeCursor) (c : Contents) (cursor : Cursor) (m : Machine) → (row_of_cursor x c cursor m).machine ≡ m
row_stays x c Closed m = refl
row_stays x c (Insensitive rows) m = refl
row_stays x c (Plain p vs) m = standing_stays x (current c.def.key c.rows p) m

module _ (code : RawCode) (r : RawRoutine) (l : CodeLine) (may : may_raise l.instruction ≡ true) (number : ℕ) (x : CodeCursor) (declared : slice_get r.cursors number ≡ Some x) (g : WellFormedCursorCode code r x) where
  abbrev Same : List Letter → Unit {0} → Machine → Type 0
  Same s u n = Has code r l s n

  -- ---- UPDATE

  abbrev update_query : List set_code.SetItem → CodeCursor → Query → Act (Unit {0})
  update_query sets x query = do
    s ← schema_at code query.table
    t ← table_now query.table
    c ← cursor_now number
    row ← row_of_cursor x t c
    vars ← read (λ m. m.running.variables)
    moved ← unless_failed s.def (updated_at (over vars) plain s (map set_item sets) row t.rows)
    leaves query.table t moved.rows 1
    leave_row moved.moved number c

  abbrev update_cursor : List set_code.SetItem → CodeCursor → Act (Unit {0})
  update_cursor sets x = do
    query ← query_at r x.query
    update_query sets x query

  update_query_does : (sets : List set_code.SetItem) (s : List Letter) (m : Machine) → Has code r l s m → Does code r l (Same s) (update_query sets x g.query) m
  update_query_does sets s m h =
      let t = g.well_formed_code.table in
      let i : ℕ = g.query.table in
      let own : Schema (List Line) = schema_of (keyed_at code r l may m i) t in
      and_then code r l _ _ _ _ m (schema_does code r l may i t s m g.well_formed_code.there h) (λ y n f.
      and_then code r l _ _ _ _ n (stays code r l _ _ n (present_stays (slice_get n.tables i) n) (table_does code r l i t s n g.well_formed_code.there f.2)) (λ c k z.
      and_then code r l _ _ _ _ k (stays code r l _ _ k (present_stays (slice_get k.running.cursors number) k) (cursor_does code r l number x declared g s k z.1.1)) (λ cursor k2 w.
      and_then code r l _ _ _ _ k2 (stays code r l _ _ k2 (row_stays x c cursor k2) (row_does code r l may number x declared g c cursor s k2 z.1.0 w.1.1)) (λ row k3 v.
      and_then code r l _ _ _ _ k3 (stays code r l _ _ k3 refl (variables_do code r l s k3 v.1.1)) (λ vs k4 u.
      and_then code r l (λ (a : Moved) j. (j ≡ k4) × Fine code r l may m i t a.rows × Has code r l s j) _ _ _ k4
      (failed_does code r l may (λ (a : Moved). Fine code r l may m i t a.rows) y.def (updated_at (over vs) plain y (map set_item sets) row c.rows) s k4 u.1.1 (λ a q.
      let q2 : updated_at (over vs) plain own (map set_item sets) row c.rows ≡ Ok a = ap (λ (y : Schema (List Line)). updated_at (over vs) plain y (map set_item sets) row c.rows) (sym f.1) ∙ q in
      record {
        fit = updated_at_rows (over vs) plain own (map set_item sets) row c.rows a v.1.0.0 z.1.0.rows q2;
        legal = legal_updated_at (over vs) plain own (map set_item sets) row c.rows a v.1.0.1 z.1.0.legal.stored q2;
        keyed = keyed_updated_at (over vs) plain own (map set_item sets) row c.rows a q2;
      })) (λ a j e.
      and_then code r l _ _ _ _ j (leaves_does code r l may i t c a.rows 1 s j g.well_formed_code.there z.1.0.same (subst (λ n. Fine code r l may n i t a.rows) (sym (e.0 ∙ u.0 ∙ v.0 ∙ w.0 ∙ z.0 ∙ f.0)) e.1) e.2) (λ u j b. leave_does code r l may number x declared g a.moved cursor s j w.1.0 b)))))))

  pub update_at_does : (sets : List set_code.SetItem) (s : List Letter) (m : Machine) → Has code r l s m → Does code r l (Same s) (update_at code r number sets) m
  update_at_does sets s m h =
      and_then code r l _ _ _ _ m (declared_does code r l number x declared g s m h) (λ y n f.
      subst (λ (y : CodeCursor). Does code r l (Same s) (update_cursor sets y) n) (sym f.0)
      (and_then code r l _ _ _ _ n (query_does code r l may x.query g.query s n g.there f.1) (λ q k z.
      subst (λ (q : Query). Does code r l (Same s) (update_query sets x q) k) (sym z.0) (update_query_does sets s k z.1))))

  -- ---- DELETE

  abbrev delete_query : CodeCursor → Query → Act (Unit {0})
  delete_query x query = do
    s ← schema_at code query.table
    t ← table_now query.table
    c ← cursor_now number
    row ← row_of_cursor x t c
    rows ← unless_failed s.def (deleted_at plain s row t.rows)
    leaves query.table t rows 1
    leave_row true number c

  abbrev delete_cursor : CodeCursor → Act (Unit {0})
  delete_cursor x = do
    query ← query_at r x.query
    delete_query x query

  delete_query_does : (s : List Letter) (m : Machine) → Has code r l s m → Does code r l (Same s) (delete_query x g.query) m
  delete_query_does s m h =
      let t = g.well_formed_code.table in
      let i : ℕ = g.query.table in
      let own : Schema (List Line) = schema_of (keyed_at code r l may m i) t in
      and_then code r l _ _ _ _ m (schema_does code r l may i t s m g.well_formed_code.there h) (λ y n f.
      and_then code r l _ _ _ _ n (stays code r l _ _ n (present_stays (slice_get n.tables i) n) (table_does code r l i t s n g.well_formed_code.there f.2)) (λ c k z.
      and_then code r l _ _ _ _ k (stays code r l _ _ k (present_stays (slice_get k.running.cursors number) k) (cursor_does code r l number x declared g s k z.1.1)) (λ cursor k2 w.
      and_then code r l _ _ _ _ k2 (stays code r l _ _ k2 (row_stays x c cursor k2) (row_does code r l may number x declared g c cursor s k2 z.1.0 w.1.1)) (λ row k3 v.
      and_then code r l (λ (rows : List (List Datum)) j. (j ≡ k3) × Fine code r l may m i t rows × Has code r l s j) _ _ _ k3
      (failed_does code r l may (λ (rows : List (List Datum)). Fine code r l may m i t rows) y.def (deleted_at plain y row c.rows) s k3 v.1.1 (λ rows q.
      let q2 : deleted_at plain own row c.rows ≡ Ok rows = ap (λ (y : Schema (List Line)). deleted_at plain y row c.rows) (sym f.1) ∙ q in
      record {
        fit = deleted_at_rows plain own row c.rows rows z.1.0.rows q2;
        legal = legal_deleted_at plain plain own row c.rows rows z.1.0.legal.stored q2;
        keyed = keyed_deleted_at plain own row c.rows rows q2;
      })) (λ rows j e.
      and_then code r l _ _ _ _ j (leaves_does code r l may i t c rows 1 s j g.well_formed_code.there z.1.0.same (subst (λ n. Fine code r l may n i t rows) (sym (e.0 ∙ v.0 ∙ w.0 ∙ z.0 ∙ f.0)) e.1) e.2) (λ u j b. leave_does code r l may number x declared g true cursor s j w.1.0 b))))))

  pub delete_at_does : (s : List Letter) (m : Machine) → Has code r l s m → Does code r l (Same s) (delete_at code r number) m
  delete_at_does s m h =
      and_then code r l _ _ _ _ m (declared_does code r l number x declared g s m h) (λ y n f.
      subst (λ (y : CodeCursor). Does code r l (Same s) (delete_cursor y) n) (sym f.0)
      (and_then code r l _ _ _ _ n (query_does code r l may x.query g.query s n g.there f.1) (λ q k z.
      subst (λ (q : Query). Does code r l (Same s) (delete_query x q) k) (sym z.0) (delete_query_does s k z.1))))
