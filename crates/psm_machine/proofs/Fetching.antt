-- Cursors among the parts of an instruction.
use Rattle.std.proofs.Common.{◌≡◌, ℕ, zero, suc, Bool, true, false, List, [], ◌∷◌, slice_get, slice_set, Option, Some, None, IfSome, IsErrAnd, Result, Ok, Err, refl, ap, sym, subst, ◌∙◌}
use Rattle.std.specs.Prelude.{slice_index_or}
use Rattle.psm_sqlstate.specs.declared.state.SqlState.{SqlState}
use Rattle.psm_cond.specs.declared.fault.DataFault.{DataFault}
use Rattle.psm_cond.specs.declared.fault.DataFault.TheVariants as fault
use Rattle.psm_value.specs.declared.datum.Datum.{Datum}
use Rattle.psm_exprcode.specs.declared.items.Items.{Items}
use Rattle.psm_exprcode.specs.declared.items.Items.TheVariants as items
use Rattle.psm_exprcode.specs.declared.query.Query.{Query}
use Rattle.psm_table.specs.Cursors.{advanced, Closed, Cursor, Insensitive, Plain, Position}
use Rattle.psm_table.specs.Evaluator.{mapped}
use Rattle.psm_table.specs.Queries.{Answer, answer}
use Rattle.psm_table.specs.Table.{Contents}
use Rattle.psm_tablecode.specs.Codes.{over, query_of}
use Rattle.psm_tablecode.specs.Faults.{Answers}
use Rattle.psm_tablecode.specs.Rows.{values_for}
use Rattle.psm_store.specs.declared.store.Mark.{Mark}
use Rattle.psm_cursor.specs.Fetching.{fetched, items_found, moved_by, Fetch, Fetches}
use Rattle.psm_cursor.specs.Opened.{is_opened, opened_over}
use Rattle.psm_cursor.specs.TypeChecks.{HasRows}
use Rattle.psm_code.specs.declared.code.CodeCursor.{CodeCursor}
use Rattle.psm_code.specs.declared.code.RawRoutine.{RawRoutine}
use Rattle.psm_code.specs.Querying.{items_of_found, items_on, let_go, next, next_of, open_as}
use Rattle.psm_code.specs.State.{Machine, with_cursor}
use Rattle.psm_code.specs.Steps.{Act, Came, change, got, of_state, raises, tried, ◌>>=◌, ◌>>◌}
use Rattle.psm_unwind.specs.declared.run.Run.{Run}
use Rattle.psm_unwind.specs.View.{machine_of}
use Rattle.psm_machine.specs.declared.stop.Stop.{Stop}
use Rattle.psm_machine.specs.Allowed.{MayAsk, MayMove, OfCursor}
use Rattle.psm_machine.specs.ActResults.{Evaluates}
use Rattle.psm_machine.specs.Over.{as_successor, part_of}
use Rattle.psm_machine.proofs.Asking.{of_some, raised_comes}

-- ---- OPEN and CLOSE

-- a cursor is opened, or the instruction stops
abbrev pub Opens : Act (Unit {0}) → ℕ → Machine → Result Cursor Stop → Type 0
Opens act number m (Ok c) = act m ≡ change (with_cursor number c) m
Opens act number m (Err s) = Evaluates {A = Unit {0}} (act m) (Err s) m

opens_by : (number : ℕ) (x : Result Answer SqlState) (res : Result Cursor DataFault) (m : Machine) → Answers (mapped (λ a. Insensitive a.rows) x) res
    → Opens (◌>>=◌ (tried x) (λ a. change (with_cursor number (Insensitive a.rows)))) number m (part_of res)
opens_by number (Ok a) (Ok c) m h = let same : Insensitive a.rows ≡ c = cc in ap (λ c. change (with_cursor number c) m) same
opens_by number (Ok a) (Err (fault.Raised e)) m h = absurd h
opens_by number (Ok a) (Err fault.Memory) m h = tt
opens_by number (Err s) (Ok c) m h = absurd (cc)
opens_by number (Err s) (Err (fault.Raised e)) m h = ap (λ x. raises {A = Unit {0}} x m) (sym h)
opens_by number (Err s) (Err fault.Memory) m h = tt

opens_like : (act other : Act (Unit {0})) (number : ℕ) (m : Machine) (p : Result Cursor Stop) → act m ≡ other m → Opens other number m p → Opens act number m p
opens_like act other number m (Ok c) e h = e ∙ h
opens_like act other number m (Err s) e h = subst (λ (came : Came (Unit {0})). Evaluates came (Err s) m) (sym e) h

pub opens : (number : ℕ) (q : Query) (tables : List Contents) (at : Mark → List Contents) (r : Run) (res : Result Cursor DataFault) → MayAsk tables r.running.variables.items q
    → IfSome (slice_get tables q.table) (λ t. Answers (opened_over q r.running.variables.items t) res) → Opens (open_as true number q) number (machine_of tables at r) (part_of res)
opens number q tables at r res h f =
    let vars = r.running.variables.items in
    let x = answer (over vars) (query_of q) h.table.rows in
    opens_like (open_as true number q) (◌>>=◌ (tried x) (λ a. change (with_cursor number (Insensitive a.rows)))) number (machine_of tables at r) (part_of res) (rw h.there refl)
    (opens_by number x res (machine_of tables at r) (of_some (λ t. Answers (opened_over q vars t) res) (slice_get tables q.table) h.table h.there f))

pub lets_go : (number : ℕ) (x : CodeCursor) (c : Cursor) (m : Machine) → is_opened c ≡ true → let_go number x c m ≡ change (with_cursor number Closed) m
lets_go number x Closed m e = absurd (cc)
lets_go number x (Plain p vars) m e = refl
lets_go number x (Insensitive rows) m e = refl

-- ---- the next row

same_set : {A : Type 0} (xs : List A) (i : ℕ) (x : A) → slice_get xs i ≡ Some x → slice_set xs i x ≡ xs
same_set [] i x e = refl
same_set (y ∷ ys) zero x e = let same : y ≡ x = cc in ap (λ z. z ∷ ys) (sym same)
same_set (y ∷ ys) (suc i) x e = ap (λ zs. y ∷ zs) (same_set ys i x e)

pub value_is : {A : Type 0} (xs : List A) (i : ℕ) (x y : A) → slice_get xs i ≡ Some x → y ≡ slice_index_or xs i y → y ≡ x
value_is [] i x y e f = absurd (cc)
value_is (z ∷ zs) zero x y e f = let same : z ≡ x = cc in f ∙ same
value_is (z ∷ zs) (suc i) x y e f = value_is zs i x y e f

same_cursor : (number : ℕ) (c : Cursor) (m : Machine) → slice_get m.running.cursors number ≡ Some c → m ≡ with_cursor number c m
same_cursor number c m e = ap (λ cs. record m { running = record m.running { cursors = cs } }) (sym (same_set m.running.cursors number c e))

items_come : (i : Items) (vars row : List Datum) (m : Machine) → HasRows i → ◌>>=◌ (items_on i vars row) (λ ds. got (Some ds)) m ≡ tried (mapped (λ ds. Some ds) (values_for vars i row)) m
items_come (items.Rows codes) vars row m h = by (values_for vars (items.Rows codes) row) where
  by : (x : Result (List Datum) SqlState) → ◌>>=◌ (tried x) (λ ds. got (Some ds)) m ≡ tried (mapped (λ ds. Some ds) x) m
  by (Ok ds) = refl
  by (Err s) = refl
items_come (items.Sets sets) vars row m h = absurd h

found_comes : (q : Query) (vars : List Datum) (o : Option (List Datum)) (m : Machine) → HasRows q.items → items_of_found q vars o m ≡ tried (items_found q vars o) m
found_comes q vars None m h = refl
found_comes q vars (Some row) m h = items_come q.items vars row m h

plain_comes : (number : ℕ) (q : Query) (p : Position) (vars : List Datum) (x : Result (Option (List Datum) × Position) SqlState) (m : Machine) → HasRows q.items → slice_get m.running.cursors number ≡ Some (Plain p vars)
    → ◌>>=◌ (tried x) (λ found. ◌>>◌ (change (with_cursor number (Plain found.1 vars))) (items_of_found q vars found.0)) m
    ≡ tried (moved_by q vars p x).expected (with_cursor number (Plain (moved_by q vars p x).position vars) m)
plain_comes number q p vars (Ok found) m h e = found_comes q vars found.0 (with_cursor number (Plain found.1 vars) m) h
plain_comes number q p vars (Err s) m h e = ap (λ n. raises {A = Option (List Datum)} (of_state s) n) (same_cursor number (Plain p vars) m e)

-- the act gives what is expected, and leaves the cursor where it is expected
next_is : (r : RawRoutine) (number : ℕ) (x : CodeCursor) (c : Cursor) (m : Machine) → (may : MayMove r m.tables x c) → is_opened c ≡ true → slice_get m.running.cursors number ≡ Some c
    → next_of r number x c m ≡ tried (fetched may.query may.table c).expected (with_cursor number (fetched may.query may.table c).position m)
next_is r number x Closed m may o e = absurd (cc)
next_is r number x (Insensitive []) m may o e = ap (λ n. got {A = Option (List Datum)} None n) (same_cursor number (Insensitive []) m e)
next_is r number x (Insensitive (row ∷ rows)) m may o e = refl
next_is r number x (Plain p vars) m may o e =
    rw (may.asked, may.there) (plain_comes number may.query p vars (advanced (over vars) (query_of may.query) may.table.def.key may.table.rows p) m may.type_checks.0.rows e)

fetch_by : (act : Act (Option (List Datum))) (m : Machine) (number : ℕ) (c after : Cursor) (f : Fetch Cursor) (res : Result (Option (List Datum)) DataFault) → act m ≡ tried f.expected (with_cursor number f.position m)
    → Fetches f c after res → Evaluates (act m) (part_of res) (with_cursor number after m)
fetch_by act m number c after f (Ok row) e h = e ∙ ap (λ d. tried d (with_cursor number f.position m)) h.0 ∙ ap (λ c. got row (with_cursor number c m)) (sym h.1)
fetch_by act m number c after f (Err (fault.Raised x)) e h =
    e ∙ raised_comes f.expected x (with_cursor number f.position m) h.0 ∙ ap (λ c. raises {A = Option (List Datum)} x (with_cursor number c m)) (sym h.1)
fetch_by act m number c after f (Err fault.Memory) e h = tt

-- the cursor of a number is moved
pub next_comes : (r : RawRoutine) (number : ℕ) (x : CodeCursor) (q : Query) (c before after : Cursor) (m : Machine) (res : Result (Option (List Datum)) DataFault) → OfCursor r m.running.cursors number (MayMove r m.tables)
    → slice_get r.cursors number ≡ Some x → slice_get m.running.cursors number ≡ Some c → is_opened c ≡ true → slice_get r.queries x.query ≡ Some q → before ≡ c
    → IfSome (slice_get m.tables q.table) (λ t. Fetches (fetched q t before) before after res) → Evaluates (next r number m) (part_of res) (with_cursor number after m)
next_comes r number x q c before after m res h d s o a b f =
    let may = of_some (MayMove r m.tables x) (slice_get m.running.cursors number) c s (of_some (λ x. IfSome (slice_get m.running.cursors number) (MayMove r m.tables x)) (slice_get r.cursors number) x d h) in
    let same : q ≡ may.query = of_same q may.query (sym a ∙ may.asked) in
    let g = subst (λ q. IfSome (slice_get m.tables q.table) (λ t. Fetches (fetched q t c) c after res)) same (subst (λ b. IfSome (slice_get m.tables q.table) (λ t. Fetches (fetched q t b) b after res)) b f) in
    let moved = of_some (λ t. Fetches (fetched may.query t c) c after res) (slice_get m.tables may.query.table) may.table may.there g in
    rw (d, s) (fetch_by (next_of r number x c) m number c after (fetched may.query may.table c) res (next_is r number x c m may o s) moved) where
      of_same : (q k : Query) → ◌≡◌ {A = Option Query} (Some q) (Some k) → q ≡ k
      of_same q k e = cc

-- ---- the next row of FOR

pub successor_stops : (end : ℕ) (r : Result Bool Stop) (s : Stop) → IsErrAnd r (λ e. e ≡ s) → IsErrAnd (as_successor end r) (λ e. e ≡ s)
successor_stops end (Ok b) s h = absurd h
successor_stops end (Err e) s h = h

pub closed_is : (c : Cursor) → is_opened c ≡ false → c ≡ Closed
closed_is Closed e = refl
closed_is (Plain p vars) e = absurd (cc)
closed_is (Insensitive rows) e = absurd (cc)
