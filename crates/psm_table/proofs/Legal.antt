-- Tables that are legal for their CHECKs, before and after a statement.
use Rattle.std.proofs.Common.{◌≡◌, ℕ, List, [], ◌∷◌, ◌++◌, Bool, true, false, ◌&&◌, refl, ap, subst, sym, ◌∙◌, Result, Ok, Err}
use Rattle.std.specs.Prelude.{All, Option, codes, if◌then◌else◌, length, nat_lt}
use Rattle.std.specs.List.{list_all}
use Rattle.std.proofs.lemmas.List.Elements.{All-cons, All-head, All-tail}
use Rattle.psm_sqlstate.specs.declared.state.SqlState.{SqlState}
use Rattle.psm_value.specs.declared.datum.Datum.{Datum}
use Rattle.psm_value.specs.declared.truth.Truth.{Truth}
use Rattle.psm_value.specs.declared.truth.Truth.TheVariants.{True, False, Unknown}
use Rattle.psm_table.specs.declared.definition.TableDef.{TableDef}
use Rattle.psm_table.specs.Changing.{all_apart, are_apart, counting, deleted, deleted_at, divided, ended, ended_with, has_moved, in_order, inserted, is_filled, keep_rules, moving, row_is_stored, rows_but, rows_pass, set_row, stored_rows, then_of, updated, updated_at, with_left, with_made, Changed, Division, Failure, IsLegal, Moved, OfTable, Schema, SetItem}
use Rattle.psm_table.specs.Definition.{kinds_of}
use Rattle.psm_table.specs.Evaluator.{Evaluator, and_then, mapped, test_of}
use Rattle.psm_table.specs.Queries.{is_met}
use Rattle.psm_table.specs.Table.{most_rows}
use Rattle.psm_table.proofs.Checks.{all_pass, each_passes, Passes}
use Rattle.psm_table.proofs.Rules.{all-in_order, both, first_true, keep-in_order, second_true}
use Rattle.psm_table.proofs.AsStored.{append_all, but_one_all, rows_as_stored, set_row_as_stored}

abbrev Row : Type 0
Row = List Datum

-- each row of a legal table passes
pub legal_passes : {E : Type 0} (ev : Evaluator E) (schema : Schema E) (rows : List Row) → IsLegal ev schema rows → All (Passes ev schema.checks) rows
legal_passes ev schema rows h = each_passes ev schema.checks rows h.pass

-- ---- what holds of each division of rows

module _ {E : Type 0} (ev : Evaluator E) (test : Option E) (make : Row → Result Row SqlState) (Q : List Row → Division → Type 0) where
  abbrev Left : Type 0
  Left = (row : Row) (rows : List Row) (p : Division) → Q rows p → Q (row ∷ rows) (with_left row p)

  abbrev Made : Type 0
  Made = (row new : Row) (rows : List Row) (p : Division) → make row ≡ Ok new → Q rows p → Q (row ∷ rows) (with_made new p)

  division_step : (row : Row) (rows : List Row) (p : Division) (t : Result Truth SqlState) (m : Result Row SqlState) (d : Result Division SqlState) → Left → Made
      → make row ≡ m → ((q : Division) → d ≡ Ok q → Q rows q)
      → and_then t (λ met. if is_met met then and_then m (λ new. mapped (with_made new) d) else mapped (with_left row) d) ≡ Ok p → Q (row ∷ rows) p
  division_step row rows p (Ok True) (Ok new) (Ok d) left made e h f = let same : with_made new d ≡ p = cc in subst (Q (row ∷ rows)) same (made row new rows d e (h d refl))
  division_step row rows p (Ok True) (Ok new) (Err s) left made e h f = cc
  division_step row rows p (Ok True) (Err s) d left made e h f = cc
  division_step row rows p (Ok False) m (Ok d) left made e h f = let same : with_left row d ≡ p = cc in subst (Q (row ∷ rows)) same (left row rows d (h d refl))
  division_step row rows p (Ok False) m (Err s) left made e h f = cc
  division_step row rows p (Ok Unknown) m (Ok d) left made e h f = let same : with_left row d ≡ p = cc in subst (Q (row ∷ rows)) same (left row rows d (h d refl))
  division_step row rows p (Ok Unknown) m (Err s) left made e h f = cc
  division_step row rows p (Err s) m d left made e h f = cc

  pub by_division : (let none : Division = record { left = []; made = [] } in Q [] none) → Left → Made → (rows : List Row) (p : Division) → divided ev test make rows ≡ Ok p → Q rows p
  by_division q left made [] p e =
      let none : Division = record { left = []; made = [] } in
      let same : none ≡ p = cc in subst (Q []) same q
  by_division q left made (row ∷ rows) p e =
      division_step row rows p (test_of ev test row) (make row) (divided ev test make rows) left made refl (by_division q left made rows) e

module _ {E : Type 0} (ev : Evaluator E) (test : Option E) (make : Row → Result Row SqlState) where
  -- what holds of each row holds of those that are left
  pub left_all : (P : Row → Type 0) (rows : List Row) (p : Division) → divided ev test make rows ≡ Ok p → All P rows → All P p.left
  left_all P rows p = by_division ev test make (λ rows p. All P rows → All P p.left) (λ h. h)
      (λ row rows p q h. All-cons P row p.left (All-head P row rows h) (q (All-tail P row rows h)))
      (λ row new rows p e q h. q (All-tail P row rows h)) rows p

  pub left_test : (t : Row → Bool) (rows : List Row) (p : Division) → divided ev test make rows ≡ Ok p → list_all t rows ≡ true → list_all t p.left ≡ true
  left_test t rows p = by_division ev test make (λ rows p. list_all t rows ≡ true → list_all t p.left ≡ true) (λ h. h)
      (λ row rows p q h. both (t row) (list_all t p.left) (first_true (t row) (list_all t rows) h) (q (second_true (t row) (list_all t rows) h)))
      (λ row new rows p e q h. q (second_true (t row) (list_all t rows) h)) rows p

  abbrev StayApart : TableDef → List Row → Division → Type 0
  StayApart def rows p = (((t : Row → Bool) → list_all t rows ≡ true → list_all t p.left ≡ true) × (all_apart def rows ≡ true → all_apart def p.left ≡ true))

  left_apart : (def : TableDef) (rows : List Row) (p : Division) → divided ev test make rows ≡ Ok p → StayApart def rows p
  left_apart def rows p = by_division ev test make (StayApart def) (λ t h. h, λ h. h)
      (λ row rows p q. (
        λ t h. both (t row) (list_all t p.left) (first_true (t row) (list_all t rows) h) (q.0 t (second_true (t row) (list_all t rows) h)),
        λ h. both (list_all (are_apart def row) p.left) (all_apart def p.left) (q.0 (are_apart def row) (first_true (list_all (are_apart def row) rows) (all_apart def rows) h)) (q.1 (second_true (list_all (are_apart def row) rows) (all_apart def rows) h)),
      ))
      (λ row new rows p e q. (λ t h. q.0 t (second_true (t row) (list_all t rows) h), λ h. q.1 (second_true (list_all (are_apart def row) rows) (all_apart def rows) h))) rows p

  pub left_rules : (def : TableDef) (rows : List Row) (p : Division) → divided ev test make rows ≡ Ok p → keep_rules def rows ≡ true → keep_rules def p.left ≡ true
  left_rules def rows p e h =
      both (list_all (is_filled def) p.left) (all_apart def p.left)
      ((left_apart def rows p e).0 (is_filled def) (first_true (list_all (is_filled def) rows) (all_apart def rows) h))
      ((left_apart def rows p e).1 (second_true (list_all (is_filled def) rows) (all_apart def rows) h))

-- what is made of stored rows is stored
made_stored : {E : Type 0} (ev : Evaluator E) (def : TableDef) (sets : List (SetItem E)) (test : Option E) (rows : List Row) (p : Division) → divided ev test (set_row ev def sets) rows ≡ Ok p → list_all (row_is_stored (kinds_of def.columns)) rows ≡ true
    → list_all (row_is_stored (kinds_of def.columns)) p.made ≡ true
made_stored ev def sets test rows p = by_division ev test (set_row ev def sets) (λ rows p. list_all (row_is_stored (kinds_of def.columns)) rows ≡ true → list_all (row_is_stored (kinds_of def.columns)) p.made ≡ true) (λ h. refl)
    (λ row rows p q h. q (second_true (row_is_stored (kinds_of def.columns) row) (list_all (row_is_stored (kinds_of def.columns)) rows) h))
    (λ row new rows p e q h.
    both (row_is_stored (kinds_of def.columns) new) (list_all (row_is_stored (kinds_of def.columns)) p.made)
    (set_row_as_stored ev def sets row new (first_true (row_is_stored (kinds_of def.columns) row) (list_all (row_is_stored (kinds_of def.columns)) rows) h) e)
    (q (second_true (row_is_stored (kinds_of def.columns) row) (list_all (row_is_stored (kinds_of def.columns)) rows) h))) rows p

-- the rows that are left of a legal table are legal
pub legal_left : {E : Type 0} (ev plain : Evaluator E) (schema : Schema E) (test : Option E) (make : Row → Result Row SqlState) (rows : List Row) (p : Division) → divided ev test make rows ≡ Ok p → IsLegal plain schema rows → IsLegal plain schema p.left
legal_left ev plain schema test make rows p e h = record {
  stored = left_test ev test make (row_is_stored (kinds_of schema.def.columns)) rows p e h.stored;
  pass = all_pass plain schema.checks p.left (left_all ev test make (Passes plain schema.checks) rows p e (legal_passes plain schema rows h));
  rules = left_rules ev test make schema.def rows p e h.rules;
}

-- ---- the end of a statement

pub record EndedOk (passed : Result Bool SqlState) (kept among : Bool) (ordered rows : List Row) : Type 0 where
  pub pass : passed ≡ Ok true
  pub rules : kept ≡ true
  pub keyed : among ≡ true
  pub same : ordered ≡ rows

ended_ok : (def : TableDef) (full : Bool) (passed : Result Bool SqlState) (kept keyed : Bool) (ordered rows : List Row)
    → (let many : Result (List Row) Failure = Err (OfTable (codes "X0002")) in if full then many else then_of passed (λ ok. ended_with def ordered (ok && (kept && keyed)))) ≡ Ok rows → EndedOk passed kept keyed ordered rows
ended_ok def true passed kept keyed ordered rows e = cc
ended_ok def false (Ok true) true true ordered rows e = record { pass = refl; rules = refl; keyed = refl; same = cc }
ended_ok def false (Ok true) true false ordered rows e = cc
ended_ok def false (Ok true) false keyed ordered rows e = cc
ended_ok def false (Ok false) kept keyed ordered rows e = cc
ended_ok def false (Err s) kept keyed ordered rows e = cc

module _ {E : Type 0} (ev : Evaluator E) (schema : Schema E) where
  pub ended_is : (rows after : List Row) → ended ev schema rows ≡ Ok after → EndedOk (rows_pass ev schema.checks (in_order schema.def.key rows)) (keep_rules schema.def rows) (schema.keyed (in_order schema.def.key rows)) (in_order schema.def.key rows) after
  ended_is rows after e =
      ended_ok schema.def (nat_lt most_rows (length rows)) (rows_pass ev schema.checks (in_order schema.def.key rows)) (keep_rules schema.def rows) (schema.keyed (in_order schema.def.key rows)) (in_order schema.def.key rows) after e

  pub legal_ended : (rows after : List Row) → list_all (row_is_stored (kinds_of schema.def.columns)) rows ≡ true → ended ev schema rows ≡ Ok after → IsLegal ev schema after
  legal_ended rows after s e =
      let h = ended_is rows after e in
      let order : IsLegal ev schema (in_order schema.def.key rows) = record { stored = all-in_order schema.def.key (row_is_stored (kinds_of schema.def.columns)) rows ∙ s; pass = h.pass; rules = keep-in_order schema.def schema.def.key rows ∙ h.rules } in
      subst (IsLegal ev schema) h.same order

  -- and among the tables with its rows all FOREIGN KEY constraints hold
  pub keyed_ended : (rows after : List Row) → ended ev schema rows ≡ Ok after → schema.keyed after ≡ true
  keyed_ended rows after e =
      let h = ended_is rows after e in
      subst (λ (l : List Row). schema.keyed l ≡ true) h.same h.keyed

-- ---- statements

then_ok : {A B : Type 0} (r : Result A SqlState) (go : A → Result B Failure) (b : B) → then_of r go ≡ Ok b → (a : A) × (r ≡ Ok a) × (go a ≡ Ok b)
then_ok (Ok a) go b e = (a, refl, e)
then_ok (Err s) go b e = cc

counting_ok : (n : ℕ) (r : Result (List Row) Failure) (c : Changed) → counting n r ≡ Ok c → r ≡ Ok c.rows
counting_ok n (Ok rows) c e = let one : Changed = record { rows = rows; count = n } in let same : one ≡ c = cc in ap (λ (d : Changed). Ok d.rows) same
counting_ok n (Err failure) c e = cc

moving_ok : (b : Bool) (r : Result (List Row) Failure) (m : Moved) → moving b r ≡ Ok m → r ≡ Ok m.rows
moving_ok b (Ok rows) m e = let one : Moved = record { rows = rows; moved = b } in let same : one ≡ m = cc in ap (λ (d : Moved). Ok d.rows) same
moving_ok b (Err failure) m e = cc

module _ {E : Type 0} (plain : Evaluator E) (schema : Schema E) where
  pub legal_inserted : (new rows : List Row) (c : Changed) → list_all (row_is_stored (kinds_of schema.def.columns)) rows ≡ true → inserted plain schema new rows ≡ Ok c → IsLegal plain schema c.rows
  legal_inserted new rows c l e =
      let h = then_ok (stored_rows (kinds_of schema.def.columns) new) (λ more. counting (length more) (ended plain schema (rows ++ more))) c e in
      legal_ended plain schema (rows ++ h.0) c.rows
      (append_all (row_is_stored (kinds_of schema.def.columns)) rows h.0 l (rows_as_stored (kinds_of schema.def.columns) new h.0 h.1)) (counting_ok (length h.0) (ended plain schema (rows ++ h.0)) c h.2)

module _ {E : Type 0} (ev plain : Evaluator E) (schema : Schema E) where
  pub legal_updated : (sets : List (SetItem E)) (test : Option E) (rows : List Row) (c : Changed) → list_all (row_is_stored (kinds_of schema.def.columns)) rows ≡ true → updated ev plain schema sets test rows ≡ Ok c → IsLegal plain schema c.rows
  legal_updated sets test rows c l e =
      let h = then_ok (divided ev test (set_row ev schema.def sets) rows) (λ p. counting (length p.made) (ended plain schema (p.left ++ p.made))) c e in
      legal_ended plain schema (h.0.left ++ h.0.made) c.rows
      (append_all (row_is_stored (kinds_of schema.def.columns)) h.0.left h.0.made (left_test ev test (set_row ev schema.def sets) (row_is_stored (kinds_of schema.def.columns)) rows h.0 h.1 l)
      (made_stored ev schema.def sets test rows h.0 h.1 l)) (counting_ok (length h.0.made) (ended plain schema (h.0.left ++ h.0.made)) c h.2)

  pub legal_deleted : (test : Option E) (rows : List Row) (c : Changed) → list_all (row_is_stored (kinds_of schema.def.columns)) rows ≡ true → deleted ev plain schema test rows ≡ Ok c → IsLegal plain schema c.rows
  legal_deleted test rows c l e =
      let h = then_ok (divided ev test (λ row. Ok row) rows) (λ p. counting (length p.made) (ended plain schema p.left)) c e in
      legal_ended plain schema h.0.left c.rows (left_test ev test (λ row. Ok row) (row_is_stored (kinds_of schema.def.columns)) rows h.0 h.1 l)
      (counting_ok (length h.0.made) (ended plain schema h.0.left) c h.2)

  pub legal_updated_at : (sets : List (SetItem E)) (row : Row) (rows : List Row) (m : Moved) → row_is_stored (kinds_of schema.def.columns) row ≡ true → list_all (row_is_stored (kinds_of schema.def.columns)) rows ≡ true → updated_at ev plain schema sets row rows ≡ Ok m → IsLegal plain schema m.rows
  legal_updated_at sets row rows m r l e =
      let h = then_ok (set_row ev schema.def sets row) (λ new. moving (has_moved schema.def row new) (ended plain schema (rows_but schema.def row rows ++ new ∷ []))) m e in
      legal_ended plain schema (rows_but schema.def row rows ++ h.0 ∷ []) m.rows
      (append_all (row_is_stored (kinds_of schema.def.columns)) (rows_but schema.def row rows) (h.0 ∷ [])
      (but_one_all (row_is_stored (kinds_of schema.def.columns)) schema.def row rows l)
      (both (row_is_stored (kinds_of schema.def.columns) h.0) true (set_row_as_stored ev schema.def sets row h.0 r h.1) refl)) (moving_ok (has_moved schema.def row h.0) (ended plain schema (rows_but schema.def row rows ++ h.0 ∷ [])) m h.2)

  pub legal_deleted_at : (row : Row) (rows after : List Row) → list_all (row_is_stored (kinds_of schema.def.columns)) rows ≡ true → deleted_at plain schema row rows ≡ Ok after → IsLegal plain schema after
  legal_deleted_at row rows after l e =
      legal_ended plain schema (rows_but schema.def row rows) after (but_one_all (row_is_stored (kinds_of schema.def.columns)) schema.def row rows l) e

-- ---- FOREIGN KEY constraints after each statement

module _ {E : Type 0} (plain : Evaluator E) (schema : Schema E) where
  pub keyed_inserted : (new rows : List Row) (c : Changed) → inserted plain schema new rows ≡ Ok c → schema.keyed c.rows ≡ true
  keyed_inserted new rows c e =
      let h = then_ok (stored_rows (kinds_of schema.def.columns) new) (λ more. counting (length more) (ended plain schema (rows ++ more))) c e in
      keyed_ended plain schema (rows ++ h.0) c.rows (counting_ok (length h.0) (ended plain schema (rows ++ h.0)) c h.2)

  pub keyed_deleted_at : (row : Row) (rows after : List Row) → deleted_at plain schema row rows ≡ Ok after → schema.keyed after ≡ true
  keyed_deleted_at row rows after e = keyed_ended plain schema (rows_but schema.def row rows) after e

module _ {E : Type 0} (ev plain : Evaluator E) (schema : Schema E) where
  pub keyed_updated : (sets : List (SetItem E)) (test : Option E) (rows : List Row) (c : Changed) → updated ev plain schema sets test rows ≡ Ok c → schema.keyed c.rows ≡ true
  keyed_updated sets test rows c e =
      let h = then_ok (divided ev test (set_row ev schema.def sets) rows) (λ p. counting (length p.made) (ended plain schema (p.left ++ p.made))) c e in
      keyed_ended plain schema (h.0.left ++ h.0.made) c.rows (counting_ok (length h.0.made) (ended plain schema (h.0.left ++ h.0.made)) c h.2)

  pub keyed_deleted : (test : Option E) (rows : List Row) (c : Changed) → deleted ev plain schema test rows ≡ Ok c → schema.keyed c.rows ≡ true
  keyed_deleted test rows c e =
      let h = then_ok (divided ev test (λ row. Ok row) rows) (λ p. counting (length p.made) (ended plain schema p.left)) c e in
      keyed_ended plain schema h.0.left c.rows (counting_ok (length h.0.made) (ended plain schema h.0.left) c h.2)

  pub keyed_updated_at : (sets : List (SetItem E)) (row : Row) (rows : List Row) (m : Moved) → updated_at ev plain schema sets row rows ≡ Ok m → schema.keyed m.rows ≡ true
  keyed_updated_at sets row rows m e =
      let h = then_ok (set_row ev schema.def sets row) (λ new. moving (has_moved schema.def row new) (ended plain schema (rows_but schema.def row rows ++ new ∷ []))) m e in
      keyed_ended plain schema (rows_but schema.def row rows ++ h.0 ∷ []) m.rows (moving_ok (has_moved schema.def row h.0) (ended plain schema (rows_but schema.def row rows ++ h.0 ∷ [])) m h.2)

-- a legal table is so whatever holds among the tables
pub legal_alone : {E : Type 0} (ev : Evaluator E) (a b : Schema E) → a.def ≡ b.def → a.checks ≡ b.checks → (rows : List Row) → IsLegal ev a rows → IsLegal ev b rows
legal_alone ev a b d c rows h = record {
  stored = ap (λ (def : TableDef). list_all (row_is_stored (kinds_of def.columns)) rows) (sym d) ∙ h.stored;
  pass = ap (λ checks. rows_pass ev checks rows) (sym c) ∙ h.pass;
  rules = ap (λ def. keep_rules def rows) (sym d) ∙ h.rules;
}
