-- A statement ends as it does where no FOREIGN KEY constraint is asked, and then these are tested on the rows that it leaves.
use Rattle.std.proofs.Common.{◌≡◌, List, [], ◌∷◌, ◌++◌, Bool, true, false, ◌&&◌, ℕ, length, refl, ap, ◌∙◌, Result, Ok, Err}
use Rattle.std.specs.Prelude.{Option, codes, if◌then◌else◌, nat_lt}
use Rattle.psm_sqlstate.specs.declared.state.SqlState.{SqlState}
use Rattle.psm_value.specs.declared.datum.Datum.{Datum}
use Rattle.psm_table.specs.Changing.{changed_if_keyed, counting, deleted, deleted_at, divided, ended, ended_with, has_moved, if_keyed, in_order, inserted, keep_rules, keyless, moved_if_keyed, moving, rows_but, rows_pass, set_row, stored_rows, then_of, updated, updated_at, Changed, Division, Failure, Moved, OfTable, Schema, SetItem}
use Rattle.psm_table.specs.Definition.{kinds_of}
use Rattle.psm_table.specs.Evaluator.{Evaluator}
use Rattle.psm_table.specs.Table.{most_rows}

abbrev Row : Type 0
Row = List Datum

module _ {E : Type 0} (schema : Schema E) where
  abbrev at_end : Bool → Result Bool SqlState → Bool → Bool → List Row → Result (List Row) Failure
  at_end full passed kept keyed ordered = let many : Result (List Row) Failure = Err (OfTable (codes "X0002")) in if full then many else then_of passed (λ ok. ended_with schema.def ordered (ok && (kept && keyed)))

  end_apart : (full : Bool) (passed : Result Bool SqlState) (kept : Bool) (ordered : List Row) → at_end full passed kept (schema.keyed ordered) ordered ≡ if_keyed schema (at_end full passed kept true ordered)
  end_apart true passed kept ordered = refl
  end_apart false (Ok true) true ordered = refl
  end_apart false (Ok true) false ordered = refl
  end_apart false (Ok false) kept ordered = refl
  end_apart false (Err s) kept ordered = refl

  counted : (n : ℕ) (r : Result (List Row) Failure) → counting n (if_keyed schema r) ≡ changed_if_keyed schema (counting n r)
  counted n (Ok rows) = refl
  counted n (Err f) = refl

  moved : (b : Bool) (r : Result (List Row) Failure) → moving b (if_keyed schema r) ≡ moved_if_keyed schema (moving b r)
  moved b (Ok rows) = refl
  moved b (Err f) = refl

  then_counted : {A : Type 0} (r : Result A SqlState) (f g : A → Result Changed Failure) → ((a : A) → f a ≡ changed_if_keyed schema (g a)) → then_of r f ≡ changed_if_keyed schema (then_of r g)
  then_counted (Ok a) f g h = h a
  then_counted (Err s) f g h = refl

  then_moved : {A : Type 0} (r : Result A SqlState) (f g : A → Result Moved Failure) → ((a : A) → f a ≡ moved_if_keyed schema (g a)) → then_of r f ≡ moved_if_keyed schema (then_of r g)
  then_moved (Ok a) f g h = h a
  then_moved (Err s) f g h = refl

module _ {E : Type 0} (plain : Evaluator E) (schema : Schema E) where
  pub ended_apart : (rows : List Row) → ended plain schema rows ≡ if_keyed schema (ended plain (keyless schema) rows)
  ended_apart rows = end_apart schema (nat_lt most_rows (length rows)) (rows_pass plain schema.checks (in_order schema.def.key rows)) (keep_rules schema.def rows) (in_order schema.def.key rows)

  pub deleted_at_apart : (row : Row) (rows : List Row) → deleted_at plain schema row rows ≡ if_keyed schema (deleted_at plain (keyless schema) row rows)
  deleted_at_apart row rows = ended_apart (rows_but schema.def row rows)

  pub inserted_apart : (new rows : List Row) → inserted plain schema new rows ≡ changed_if_keyed schema (inserted plain (keyless schema) new rows)
  inserted_apart new rows =
      then_counted schema (stored_rows (kinds_of schema.def.columns) new) (λ new. counting (length new) (ended plain schema (rows ++ new))) (λ new. counting (length new) (ended plain (keyless schema) (rows ++ new)))
      (λ new. ap (counting (length new)) (ended_apart (rows ++ new)) ∙ counted schema (length new) (ended plain (keyless schema) (rows ++ new)))

module _ {E : Type 0} (ev plain : Evaluator E) (schema : Schema E) where
  pub updated_apart : (sets : List (SetItem E)) (test : Option E) (rows : List Row) → updated ev plain schema sets test rows ≡ changed_if_keyed schema (updated ev plain (keyless schema) sets test rows)
  updated_apart sets test rows =
      then_counted schema (divided ev test (set_row ev schema.def sets) rows) (λ p. counting (length p.made) (ended plain schema (p.left ++ p.made))) (λ p. counting (length p.made) (ended plain (keyless schema) (p.left ++ p.made)))
      (λ (p : Division). ap (counting (length p.made)) (ended_apart plain schema (p.left ++ p.made)) ∙ counted schema (length p.made) (ended plain (keyless schema) (p.left ++ p.made)))

  pub deleted_apart : (test : Option E) (rows : List Row) → deleted ev plain schema test rows ≡ changed_if_keyed schema (deleted ev plain (keyless schema) test rows)
  deleted_apart test rows =
      then_counted schema (divided ev test (λ row. Ok row) rows) (λ p. counting (length p.made) (ended plain schema p.left)) (λ p. counting (length p.made) (ended plain (keyless schema) p.left))
      (λ (p : Division). ap (counting (length p.made)) (ended_apart plain schema p.left) ∙ counted schema (length p.made) (ended plain (keyless schema) p.left))

  pub updated_at_apart : (sets : List (SetItem E)) (row : Row) (rows : List Row) → updated_at ev plain schema sets row rows ≡ moved_if_keyed schema (updated_at ev plain (keyless schema) sets row rows)
  updated_at_apart sets row rows =
      then_moved schema (set_row ev schema.def sets row) (λ new. moving (has_moved schema.def row new) (ended plain schema (rows_but schema.def row rows ++ new ∷ []))) (λ new. moving (has_moved schema.def row new) (ended plain (keyless schema) (rows_but schema.def row rows ++ new ∷ [])))
      (λ (new : Row). ap (moving (has_moved schema.def row new)) (ended_apart plain schema (rows_but schema.def row rows ++ new ∷ [])) ∙ moved schema (has_moved schema.def row new) (ended plain (keyless schema) (rows_but schema.def row rows ++ new ∷ [])))
