-- Well-formed code has what its queries, cursors and plans ask.
use Rattle.std.proofs.Common.{◌≡◌, ℕ, zero, suc, true, List, [], ◌∷◌, ◌++◌, map, slice_get, Option, Some, None, Ok, IfSome, All, refl, ap, sym, subst, ◌∙◌}
use Rattle.std.specs.Prelude.{option_map, slice_set}
use Rattle.std.specs.Option.{option_map_or}
use Rattle.psm_value.specs.declared.datum.Datum.{Datum}
use Rattle.psm_exprcode.specs.declared.items.Items.{Items}
use Rattle.psm_exprcode.specs.declared.items.Items.TheVariants as items
use Rattle.psm_exprcode.specs.declared.op.Line.{Line}
use Rattle.psm_exprcode.specs.declared.query.Query.{Query}
use Rattle.psm_exprcode.specs.declared.set_item.SetItem.{SetItem}
use Rattle.psm_table.specs.Changing.{Changed, Schema}
use Rattle.psm_table.specs.Cursors.{Closed, Cursor, Insensitive, Plain}
use Rattle.psm_table.specs.Definition.{IsKey}
use Rattle.psm_table.specs.Keyed.{are_keyed, are_keyed_with, rows_in, IsKeyOf}
use Rattle.psm_table.specs.Table.{Contents}
use Rattle.psm_table.proofs.Legal.{keyed_inserted, legal_inserted}
use Rattle.psm_tablecode.specs.NewRows.{new_row}
use Rattle.psm_tablecode.specs.TypeChecks.{gives_truth, letters_of, TypeChecksTable}
use Rattle.psm_cursor.specs.TypeChecks.{HasRows, StandsIn, TypeChecksCursor}
use Rattle.psm_dml.specs.TypeChecks.{ChecksTypeCheck, SetsTypeCheck, TypeChecksTest}
use Rattle.psm_code.specs.declared.code.CodeCursor.{CodeCursor}
use Rattle.psm_code.specs.declared.code.CodeTable.{CodeTable}
use Rattle.psm_code.specs.declared.code.Plan.{Plan}
use Rattle.psm_code.specs.declared.code.Plan.TheVariants as plans
use Rattle.psm_code.specs.declared.code.RawCode.{RawCode}
use Rattle.psm_code.specs.declared.code.RawRoutine.{RawRoutine}
use Rattle.psm_code.specs.Instructions.{columns_at, columns_of_table, variables_of}
use Rattle.psm_code.specs.Parts.{slots_of}
use Rattle.psm_code.specs.PlanRules.{cursor_table, has_rows, or_none, plan_fault, plan_faults, sets_in, table_of_query, test_in}
use Rattle.psm_code.specs.Plans.{plain, schema_of}
use Rattle.psm_code.specs.RoutineRules.{first_fault}
use Rattle.psm_code.specs.MachineInvariant.{AreCursors, AreLawful, IsKept, Keeps}
use Rattle.psm_code.proofs.Faults.{clean_first, clean_flat, clean_second, clean_tail, routine_well_formed, Clean, WellFormedRoutineCode}
use Rattle.psm_code.proofs.Fetching.{well_formed_cursor, WellFormedCursorCode}
use Rattle.psm_code.proofs.Operating.{stored_letters}
use Rattle.psm_code.proofs.KeysOfTables.{keys_are_of_tables, kept_definitions}
use Rattle.psm_code.proofs.Planning.{kept_set, legal_of, rows_set}
use Rattle.psm_code.proofs.Queried.{kept_at, well_formed_query, WellFormedQueryCode}
use Rattle.psm_code.proofs.Rowing.{inserted_rows}
use Rattle.psm_code.proofs.Guarantees.{checks_type_check, query_type_checks, sets_type_check, test_given}
use Rattle.psm_machine.specs.Allowed.{HasTable, MayAsk, MayChange, MayChangeAt, MayDo, MayErase, MayEraseAt, MayMove, MayOpen, MayPut, OfCursor, OverQuery, RunsWellFormed}
use Rattle.psm_machine.specs.Inserting.{put_expected}
use Rattle.psm_machine.proofs.Asking.{of_some, some_of}

-- of what may be there
if_some : {A : Type 0} (P : A → Type 0) (o : Option A) → ((x : A) → o ≡ Some x → P x) → IfSome o P
if_some P None f = tt
if_some P (Some x) f = f x refl

rows_there : (i : Items) → has_rows i ≡ true → HasRows i
rows_there (items.Rows codes) h = tt
rows_there (items.Sets sets) h = cc

-- a cursor is kept as its declaration says
abbrev IsCursor : RawCode → RawRoutine → CodeCursor → Cursor → Type 0
IsCursor code r x c = IfSome (slice_get r.queries x.query) (λ q. Keeps code r q c)

cursor_kept : (code : RawCode) (r : RawRoutine) (xs : List CodeCursor) (cs : List Cursor) (i : ℕ) (x : CodeCursor) (c : Cursor) → AreCursors code r xs cs → slice_get xs i ≡ Some x → slice_get cs i ≡ Some c → IsCursor code r x c
cursor_kept code r [] cs i x c h e f = absurd (cc)
cursor_kept code r (y ∷ xs) [] i x c h e f = absurd h
cursor_kept code r (y ∷ xs) (d ∷ cs) zero x c h e f =
    let same : y ≡ x = cc in
    let here : d ≡ c = cc in
    subst (λ c. IsCursor code r x c) here (subst (λ y. IsCursor code r y d) same h.0)
cursor_kept code r (y ∷ xs) (d ∷ cs) (suc i) x c h e f = cursor_kept code r xs cs i x c h.1 e f

-- ---- tables of well-formed code

module _ (code : RawCode) (tables : List Contents) (well_formed_code : first_fault code ≡ None) (kept : AreLawful code tables) where
  has_table : (n : ℕ) (t : CodeTable) → slice_get code.tables n ≡ Some t → HasTable code.keys t tables n
  has_table n t e =
      let k = kept_at code.tables tables n t kept.kept e in
      record {
        contents = k.0;
        there = k.1;
        kept = k.2;
        checks = subst (λ d. ChecksTypeCheck t.checks d) (sym k.2.same) (checks_type_check code n t well_formed_code e);
        keys_there = subst (λ defs. All (IsKeyOf defs) code.keys) (sym (kept_definitions code.tables tables kept.kept)) (keys_are_of_tables code well_formed_code);
        keyed = kept.keyed;
      }

  -- rows may be put in
  pub put_right : (n : ℕ) → MayPut code tables n
  put_right n = if_some (λ t. HasTable code.keys t tables n) (slice_get code.tables n) (λ t e. has_table n t e)

  -- and the tables stay those of the code with the rows that are expected
  pub put_kept : (n : ℕ) (t : CodeTable) (c : Contents) → slice_get code.tables n ≡ Some t → slice_get tables n ≡ Some c → (columns : List ℕ) (rows : List (List Datum)) (changed : Changed) → put_expected (are_keyed_with code.keys (rows_in tables) n) t columns rows c ≡ Ok changed
      → AreLawful code (slice_set tables n (record c { rows = changed.rows }))
  put_kept n t c e f columns rows changed q =
      let k = kept_at code.tables tables n t kept.kept e in
      let y = of_some (IsKept t) (slice_get tables n) c f (some_of (IsKept t) (slice_get tables n) k.0 k.1 k.2) in
      let own : Schema (List Line) = schema_of (are_keyed_with code.keys (rows_in tables) n) t in
      record {
        kept = kept_set code.tables tables n t (record c { rows = changed.rows }) kept.kept e (record {
          same = y.same;
          rows = inserted_rows plain own columns rows c.rows changed y.rows q;
          legal = legal_of (are_keyed_with code.keys (rows_in tables) n) t changed.rows (legal_inserted plain own (map (new_row t.definition columns) rows) c.rows changed y.legal.stored q);
        });
        keyed = ap (are_keyed code.keys) (rows_set tables n c changed.rows) ∙ keyed_inserted plain own (map (new_row t.definition columns) rows) c.rows changed q;
      }

module _ (code : RawCode) (r : RawRoutine) (tables : List Contents) (vars : List Datum) (cursors : List Cursor) (h : RunsWellFormed code r tables vars cursors) where
  well_formed_code : WellFormedRoutineCode code r
  well_formed_code = routine_well_formed code h.routine r h.well_formed_code h.there

  -- ---- queries and cursors

  ask : (q : Query) → WellFormedQueryCode code r q → MayAsk tables vars q
  ask q g =
      let k = kept_at code.tables tables q.table g.table h.kept.kept g.there in
      record { table = k.0; there = k.1; fits = subst (λ d. TypeChecksTable q vars d) (sym k.2.same) (query_type_checks code r q g vars h.stored) }

  pub may_ask : (n : ℕ) → IfSome (slice_get r.queries n) (MayAsk tables vars)
  may_ask n = if_some (MayAsk tables vars) (slice_get r.queries n) (λ q e. ask q (well_formed_query code r n q well_formed_code e))

  pub may_open : (n : ℕ) → IfSome (slice_get r.cursors n) (MayOpen r tables vars)
  may_open n = if_some (MayOpen r tables vars) (slice_get r.cursors n) (λ x e. may_ask x.query)

  kept_here : (n : ℕ) (x : CodeCursor) (c : Cursor) (q : Query) → slice_get r.cursors n ≡ Some x → slice_get cursors n ≡ Some c → slice_get r.queries x.query ≡ Some q → Keeps code r q c
  kept_here n x c q e f a = of_some (λ q. Keeps code r q c) (slice_get r.queries x.query) q a (cursor_kept code r r.cursors cursors n x c h.opened e f)

  stands : (q : Query) (t : CodeTable) (d : Contents) (c : Cursor) → slice_get code.tables q.table ≡ Some t → d.def ≡ t.definition → Keeps code r q c → StandsIn d.def c
  stands q t d Closed e s k = tt
  stands q t d (Insensitive rows) e s k = tt
  stands q t d (Plain p vs) e s k =
      subst (λ def. IfSome p.bound (IsKey def)) (sym s) (of_some (λ (t : CodeTable). IfSome p.bound (IsKey t.definition)) (slice_get code.tables q.table) t e k.1)

  type_checks : (x : CodeCursor) (g : WellFormedCursorCode code r x) (d : Contents) (c : Cursor) → d.def ≡ g.well_formed_code.table.definition → Keeps code r g.query c → TypeChecksCursor g.query d.def c
  type_checks x g d Closed s k = tt
  type_checks x g d (Insensitive rows) s k = tt
  type_checks x g d (Plain p vs) s k = (
    record { fits = subst (λ def. TypeChecksTable g.query vs def) (sym s) (query_type_checks code r g.query g.well_formed_code vs k.0); rows = rows_there g.query.items g.rows },
    stands g.query g.well_formed_code.table d (Plain p vs) g.well_formed_code.there s k,
  )

  move : (n : ℕ) (x : CodeCursor) (c : Cursor) → slice_get r.cursors n ≡ Some x → slice_get cursors n ≡ Some c → MayMove r tables x c
  move n x c e f =
      let g = well_formed_cursor code r n x well_formed_code e in
      let k = kept_at code.tables tables g.query.table g.well_formed_code.table h.kept.kept g.well_formed_code.there in
      record { query = g.query; asked = g.there; table = k.0; there = k.1; type_checks = type_checks x g k.0 c k.2.same (kept_here n x c g.query e f g.there) }

  pub may_move : (n : ℕ) → OfCursor r cursors n (MayMove r tables)
  may_move n =
      if_some (λ x. IfSome (slice_get cursors n) (MayMove r tables x)) (slice_get r.cursors n) (λ x e.
      if_some (MayMove r tables x) (slice_get cursors n) (λ c f. move n x c e f))

  -- ---- plans

  test_type_checks : (n : ℕ) (t : CodeTable) (test : Option (List Line)) → slice_get code.tables n ≡ Some t → Clean (test_in code r n test) → TypeChecksTest test vars t.definition
  test_type_checks n t test e c =
      let letters : columns_at code n ≡ letters_of t.definition = ap columns_of_table e in
      record {
        variables = variables_of r;
        kinds = stored_letters (slots_of r) vars h.stored;
        fits = subst (λ ks. option_map_or (gives_truth ks (variables_of r)) test true ≡ true) letters (test_given code r n test c);
      }

  sets_do : (n : ℕ) (t : CodeTable) (sets : List SetItem) → slice_get code.tables n ≡ Some t → Clean (sets_in code r n sets) → SetsTypeCheck sets vars t.definition
  sets_do n t sets e c = record { variables = variables_of r; kinds = stored_letters (slots_of r) vars h.stored; fits = sets_type_check code r n t [] sets e c }

  may_do_by : (p : Plan) → Clean (plan_faults code r p) → MayDo code r tables vars cursors p
  may_do_by (plans.Insert table columns rows) c = put_right code tables h.well_formed_code h.kept table
  may_do_by (plans.InsertQuery table columns query) c = (may_ask query, put_right code tables h.well_formed_code h.kept table)
  may_do_by (plans.Update table sets test) c =
      let parts = clean_tail (plan_fault code r (plans.Update table sets test)) (sets_in code r table sets ++ test_in code r table test) c in
      if_some (MayChange code.keys tables table vars sets test) (slice_get code.tables table) (λ t e.
      let k = has_table code tables h.well_formed_code h.kept table t e in
      record {
        table = k;
        setting = subst (λ d. SetsTypeCheck sets vars d) (sym k.kept.same) (sets_do table t sets e (clean_first (sets_in code r table sets) (test_in code r table test) parts));
        testing = subst (λ d. TypeChecksTest test vars d) (sym k.kept.same) (test_type_checks table t test e (clean_second (sets_in code r table sets) (test_in code r table test) parts));
      })
  may_do_by (plans.Delete table test) c =
      if_some (MayErase code.keys tables table vars test) (slice_get code.tables table) (λ t e.
      let k = has_table code tables h.well_formed_code h.kept table t e in
      record { table = k; testing = subst (λ d. TypeChecksTest test vars d) (sym k.kept.same) (test_type_checks table t test e (clean_tail (plan_fault code r (plans.Delete table test)) (test_in code r table test) c)) })
  may_do_by (plans.UpdateAt cursor sets) c =
      let P : CodeCursor → Cursor → Type 0 = λ x c. OverQuery r x (λ n. IfSome (slice_get code.tables n) (MayChangeAt code.keys tables n vars sets c)) in
      if_some (λ x. IfSome (slice_get cursors cursor) (P x)) (slice_get r.cursors cursor) (λ x e.
      if_some (P x) (slice_get cursors cursor) (λ d f.
      if_some (λ q. IfSome (slice_get code.tables q.table) (MayChangeAt code.keys tables q.table vars sets d)) (slice_get r.queries x.query) (λ q a.
      if_some (MayChangeAt code.keys tables q.table vars sets d) (slice_get code.tables q.table) (λ t b.
      let k = has_table code tables h.well_formed_code h.kept q.table t b in
      let table : cursor_table r cursor ≡ Some q.table = ap (λ o. table_of_query r (option_map (λ (c : CodeCursor). c.query) o)) e ∙ ap (λ o. option_map (λ (q : Query). q.table) o) a in
      let parts = clean_tail (plan_fault code r (plans.UpdateAt cursor sets)) (sets_in code r (or_none code (cursor_table r cursor)) sets) c in
      record {
        table = k;
        setting = subst (λ d. SetsTypeCheck sets vars d) (sym k.kept.same) (sets_do q.table t sets b (subst (λ o. Clean (sets_in code r (or_none code o) sets)) table parts));
        stands = stands q t k.contents d b k.kept.same (kept_here cursor x d q e f a);
      }))))
  may_do_by (plans.DeleteAt cursor) c =
      let P : CodeCursor → Cursor → Type 0 = λ x c. OverQuery r x (λ n. IfSome (slice_get code.tables n) (MayEraseAt code.keys tables n c)) in
      if_some (λ x. IfSome (slice_get cursors cursor) (P x)) (slice_get r.cursors cursor) (λ x e.
      if_some (P x) (slice_get cursors cursor) (λ d f.
      if_some (λ q. IfSome (slice_get code.tables q.table) (MayEraseAt code.keys tables q.table d)) (slice_get r.queries x.query) (λ q a.
      if_some (MayEraseAt code.keys tables q.table d) (slice_get code.tables q.table) (λ t b.
      let k = has_table code tables h.well_formed_code h.kept q.table t b in
      record { table = k; stands = stands q t k.contents d b k.kept.same (kept_here cursor x d q e f a) }))))

  pub may_do : (n : ℕ) → IfSome (slice_get r.plans n) (MayDo code r tables vars cursors)
  may_do n = if_some (MayDo code r tables vars cursors) (slice_get r.plans n) (λ p e. may_do_by p (clean_flat (plan_faults code r) r.plans n p well_formed_code.plans e))
