-- Two evaluators that give expressions the same values make the same of the rows of a table: queries, cursors and changes.
use Rattle.std.proofs.Common.{◌≡◌, ℕ, ◌+◌, Bool, false, List, [], ◌∷◌, ◌++◌, length, Option, Some, None, ap, refl, ◌∙◌, if◌then◌else◌, Result, Ok}
use mathlib.Core.Path.{fun_ext}
use Rattle.psm_sqlstate.specs.declared.state.SqlState.{SqlState}
use Rattle.psm_value.specs.declared.datum.Datum.{Datum}
use Rattle.psm_value.specs.declared.truth.Truth.{Truth}
use Rattle.psm_value.specs.Stored.{stored}
use Rattle.std.specs.Prelude.{nat_lt, codes, slice_set, ◌&&◌, Err}
use Rattle.psm_table.specs.declared.definition.TableDef.{TableDef}
use Rattle.psm_table.specs.Changing.{Changed, Division, Failure, Moved, OfTable, Schema, SetItem, counting, deleted, deleted_at, divided, ended, ended_with, has_moved, in_order, inserted, is_kept, keep_rules, kind_of, moving, new_values, row_passes, rows_but, rows_pass, set_row, stored_rows, then_of, updated, updated_at, with_left, with_made, with_values}
use Rattle.psm_table.specs.Cursors.{Position, advanced, arrived, first_met, rows_past}
use Rattle.psm_table.specs.Definition.{kinds_of}
use Rattle.psm_table.specs.Evaluator.{Evaluator, and_then, collected, mapped, test_of, values_of}
use Rattle.psm_table.specs.Queries.{Aggregate, Items, Rows, Sets, Query, answer, answered, column, finished, function_of, has_nulls, in_walk, is_met, known, operand_of, operands_of, walked}
use Rattle.psm_table.specs.Table.{most_rows}

-- what is taken of each of two lists is the same, one for one
abbrev pub Alike : {A B C : Type 0} → (A → C) → (B → C) → List A → List B → Type 0
Alike f g [] [] = Unit {0}
Alike f g [] (b ∷ bs) = ⊥
Alike f g (a ∷ others) [] = ⊥
Alike f g (a ∷ others) (b ∷ bs) = (f a ≡ g b) × Alike f g others bs

collected-same : {A B C : Type 0} (f : A → Result C SqlState) (g : B → Result C SqlState) (xs : List A) (ys : List B) → Alike f g xs ys → collected f xs ≡ collected g ys
collected-same f g [] [] h = refl
collected-same f g [] (y ∷ ys) h = absurd h
collected-same f g (x ∷ xs) [] h = absurd h
collected-same {C = C} f g (x ∷ xs) (y ∷ ys) h =
    ap (λ a. and_then a (λ c. mapped (λ cs. c ∷ cs) (collected f xs))) h.0 ∙ ap (λ others. and_then (g y) (λ c. mapped (λ cs. c ∷ cs) others)) (collected-same f g xs ys h.1)

-- ---- expressions of two kinds

module _ {E F : Type 0} (ev : Evaluator E) (fv : Evaluator F) where
  -- the same over each row
  pub record Same (a : E) (b : F) : Type 0 where
    pub value : (row : List Datum) → ev.value a row ≡ fv.value b row
    pub truth : (row : List Datum) → ev.truth a row ≡ fv.truth b row

  abbrev pub SameAll : List E → List F → Type 0
  SameAll [] [] = Unit {0}
  SameAll [] (b ∷ bs) = ⊥
  SameAll (a ∷ others) [] = ⊥
  SameAll (a ∷ others) (b ∷ bs) = Same a b × SameAll others bs

  abbrev pub SamePerhaps : Option E → Option F → Type 0
  SamePerhaps None None = Unit {0}
  SamePerhaps None (Some b) = ⊥
  SamePerhaps (Some a) None = ⊥
  SamePerhaps (Some a) (Some b) = Same a b

  values-alike : (xs : List E) (ys : List F) → SameAll xs ys → (row : List Datum) → Alike (λ e. ev.value e row) (λ f. fv.value f row) xs ys
  values-alike [] [] h row = tt
  values-alike [] (y ∷ ys) h row = absurd h
  values-alike (x ∷ xs) [] h row = absurd h
  values-alike (x ∷ xs) (y ∷ ys) h row = (h.0.value row, values-alike xs ys h.1 row)

  pub values-same : (xs : List E) (ys : List F) → SameAll xs ys → (row : List Datum) → values_of ev xs row ≡ values_of fv ys row
  values-same xs ys h row = collected-same (λ e. ev.value e row) (λ f. fv.value f row) xs ys (values-alike xs ys h row)

  pub test-same : (a : Option E) (b : Option F) → SamePerhaps a b → (row : List Datum) → test_of ev a row ≡ test_of fv b row
  test-same None None h row = refl
  test-same None (Some b) h row = absurd h
  test-same (Some a) None h row = absurd h
  test-same (Some a) (Some b) h row = h.truth row

  -- ---- queries

  abbrev pub SameAggregates : List (Aggregate E) → List (Aggregate F) → Type 0
  SameAggregates [] [] = Unit {0}
  SameAggregates [] (b ∷ bs) = ⊥
  SameAggregates (a ∷ others) [] = ⊥
  SameAggregates (a ∷ others) (b ∷ bs) = (a.function ≡ b.function) × SamePerhaps a.operand b.operand × SameAggregates others bs

  abbrev pub SameOf : Items E → Items F → Type 0
  SameOf (Rows xs) (Rows ys) = SameAll xs ys
  SameOf (Rows xs) (Sets bs) = ⊥
  SameOf (Sets others) (Rows ys) = ⊥
  SameOf (Sets others) (Sets bs) = SameAggregates others bs

  -- the same way, items and test
  pub record SameQuery (a : Query E) (b : Query F) : Type 0 where
    pub downward : a.downward ≡ b.downward
    pub items : SameOf a.items b.items
    pub test : SamePerhaps a.test b.test

  operand-same : (a : Option E) (b : Option F) → SamePerhaps a b → (row : List Datum) → operand_of ev a row ≡ operand_of fv b row
  operand-same None None h row = refl
  operand-same None (Some b) h row = absurd h
  operand-same (Some a) None h row = absurd h
  operand-same (Some a) (Some b) h row = h.value row

  operands-alike : (xs : List (Aggregate E)) (ys : List (Aggregate F)) → SameAggregates xs ys → (row : List Datum) → Alike (λ a. operand_of ev a.operand row) (λ b. operand_of fv b.operand row) xs ys
  operands-alike [] [] h row = tt
  operands-alike [] (y ∷ ys) h row = absurd h
  operands-alike (x ∷ xs) [] h row = absurd h
  operands-alike (x ∷ xs) (y ∷ ys) h row = (operand-same x.operand y.operand h.1 row, operands-alike xs ys h.2 row)

  operands-same : (xs : List (Aggregate E)) (ys : List (Aggregate F)) → SameAggregates xs ys → (row : List Datum) → operands_of ev xs row ≡ operands_of fv ys row
  operands-same xs ys h row = collected-same (λ a. operand_of ev a.operand row) (λ b. operand_of fv b.operand row) xs ys (operands-alike xs ys h row)

  finished-same : (xs : List (Aggregate E)) (ys : List (Aggregate F)) → SameAggregates xs ys → (rows : List (List Datum)) (i : ℕ) → finished rows i xs ≡ finished rows i ys
  finished-same [] [] h rows i = refl
  finished-same [] (y ∷ ys) h rows i = absurd h
  finished-same (x ∷ xs) [] h rows i = absurd h
  finished-same (x ∷ xs) (y ∷ ys) h rows i =
      ap (λ f. and_then (function_of f (known (column rows i))) (λ v. mapped (λ vs. v ∷ vs) (finished rows (i + 1) xs))) h.0
      ∙ ap (λ others. and_then (function_of y.function (known (column rows i))) (λ v. mapped (λ vs. v ∷ vs) others)) (finished-same xs ys h.2 rows (i + 1))

  answered-same : (a : Option E) (b : Option F) → SamePerhaps a b → (xs : Items E) (ys : Items F) → SameOf xs ys → (rows : List (List Datum)) → answered ev a xs rows ≡ answered fv b ys rows
  answered-same a b t (Rows xs) (Rows ys) h rows =
      ap (λ test. mapped (λ found. record { rows = found; skipped = false }) (walked test (values_of ev xs) rows)) (fun_ext (test-same a b t))
      ∙ ap (λ take. mapped (λ found. record { rows = found; skipped = false }) (walked (test_of fv b) take rows)) (fun_ext (values-same xs ys h))
  answered-same a b t (Rows xs) (Sets ys) h rows = absurd h
  answered-same a b t (Sets xs) (Rows ys) h rows = absurd h
  answered-same a b t (Sets xs) (Sets ys) h rows =
      ap (λ test. and_then (walked test (operands_of ev xs) rows) (λ found. mapped (λ vs. record { rows = vs ∷ []; skipped = has_nulls found }) (finished found 0 xs))) (fun_ext (test-same a b t))
      ∙ ap (λ take. and_then (walked (test_of fv b) take rows) (λ found. mapped (λ vs. record { rows = vs ∷ []; skipped = has_nulls found }) (finished found 0 xs))) (fun_ext (operands-same xs ys h))
      ∙ ap (λ ends. and_then (walked (test_of fv b) (operands_of fv ys) rows) (λ found. mapped (λ vs. record { rows = vs ∷ []; skipped = has_nulls found }) (ends found))) (fun_ext (λ found. finished-same xs ys h found 0))

  pub answer-same : (a : Query E) (b : Query F) → SameQuery a b → (rows : List (List Datum)) → answer ev a rows ≡ answer fv b rows
  answer-same a b h rows = ap (λ d. answered ev a.test a.items (in_walk d rows)) h.downward ∙ answered-same a.test b.test h.test a.items b.items h.items (in_walk b.downward rows)

  -- ---- cursors

  pub advanced-same : (a : Query E) (b : Query F) → SameQuery a b → (key : List ℕ) (rows : List (List Datum)) (p : Position) → advanced ev a key rows p ≡ advanced fv b key rows p
  advanced-same a b h key rows p =
      ap (λ d. if p.is_past_last then Ok (None, p) else mapped (arrived key p) (first_met (test_of ev a.test) (rows_past key d p.bound rows))) h.downward
      ∙ ap (λ test. if p.is_past_last then Ok (None, p) else mapped (arrived key p) (first_met test (rows_past key b.downward p.bound rows))) (fun_ext (test-same a.test b.test h.test))

  -- ---- SET

  abbrev pub SameSets : List (SetItem E) → List (SetItem F) → Type 0
  SameSets [] [] = Unit {0}
  SameSets [] (b ∷ bs) = ⊥
  SameSets (a ∷ others) [] = ⊥
  SameSets (a ∷ others) (b ∷ bs) = (a.column ≡ b.column) × Same a.source b.source × SameSets others bs

  sources-alike : (xs : List (SetItem E)) (ys : List (SetItem F)) → SameSets xs ys → (row : List Datum) → Alike (λ s. ev.value s.source row) (λ s. fv.value s.source row) xs ys
  sources-alike [] [] h row = tt
  sources-alike [] (y ∷ ys) h row = absurd h
  sources-alike (x ∷ xs) [] h row = absurd h
  sources-alike (x ∷ xs) (y ∷ ys) h row = (h.1.value row, sources-alike xs ys h.2 row)

  new_values-same : (xs : List (SetItem E)) (ys : List (SetItem F)) → SameSets xs ys → (row : List Datum) → new_values ev xs row ≡ new_values fv ys row
  new_values-same xs ys h row = collected-same (λ s. ev.value s.source row) (λ s. fv.value s.source row) xs ys (sources-alike xs ys h row)

  with_values-same : (def : TableDef) (xs : List (SetItem E)) (ys : List (SetItem F)) → SameSets xs ys → (vs row : List Datum) → with_values def xs vs row ≡ with_values def ys vs row
  with_values-same def [] [] h vs row = refl
  with_values-same def [] (y ∷ ys) h vs row = absurd h
  with_values-same def (x ∷ xs) [] h vs row = absurd h
  with_values-same def (x ∷ xs) (y ∷ ys) h [] row = refl
  with_values-same def (x ∷ xs) (y ∷ ys) h (v ∷ vs) row =
      ap (λ c. and_then (stored (kind_of def c) v) (λ d. with_values def xs vs (slice_set row c d))) h.0
      ∙ ap (λ more. and_then (stored (kind_of def y.column) v) (λ d. more (slice_set row y.column d))) (fun_ext (λ r. with_values-same def xs ys h.2 vs r))

  pub set_row-same : (def : TableDef) (xs : List (SetItem E)) (ys : List (SetItem F)) → SameSets xs ys → (row : List Datum) → set_row ev def xs row ≡ set_row fv def ys row
  set_row-same def xs ys h row =
      ap (λ vs. and_then vs (λ vs. with_values def xs vs row)) (new_values-same xs ys h row)
      ∙ ap (λ put. and_then (new_values fv ys row) put) (fun_ext (λ vs. with_values-same def xs ys h vs row))

  -- ---- the rows that meet a test

  divided-same : (a : Option E) (b : Option F) → SamePerhaps a b → (make other : List Datum → Result (List Datum) SqlState) → ((row : List Datum) → make row ≡ other row) → (rows : List (List Datum)) → divided ev a make rows ≡ divided fv b other rows
  divided-same a b t make other m [] = refl
  divided-same a b t make other m (row ∷ rows) =
      let made : Result Truth SqlState → Result (List Datum) SqlState → Result Division SqlState → Result Division SqlState = λ test new more. and_then test (λ met. if is_met met then and_then new (λ n. mapped (with_made n) more) else mapped (with_left row) more) in
      ap (λ test. made test (make row) (divided ev a make rows)) (test-same a b t row)
      ∙ ap (λ new. made (test_of fv b row) new (divided ev a make rows)) (m row)
      ∙ ap (λ more. made (test_of fv b row) (other row) more) (divided-same a b t make other m rows)

  -- ---- the rules of a table

  -- one definition, the same CHECKs, and the same FOREIGN KEY constraints among the tables
  pub record SameSchema (a : Schema E) (b : Schema F) : Type 0 where
    pub def : a.def ≡ b.def
    pub checks : SameAll a.checks b.checks
    pub keyed : a.keyed ≡ b.keyed

  row_passes-same : (xs : List E) (ys : List F) → SameAll xs ys → (row : List Datum) → row_passes ev xs row ≡ row_passes fv ys row
  row_passes-same [] [] h row = refl
  row_passes-same [] (y ∷ ys) h row = absurd h
  row_passes-same (x ∷ xs) [] h row = absurd h
  row_passes-same (x ∷ xs) (y ∷ ys) h row =
      ap (λ t. and_then t (λ t. mapped (λ more. is_kept t && more) (row_passes ev xs row))) (h.0.truth row)
      ∙ ap (λ others. and_then (fv.truth y row) (λ t. mapped (λ more. is_kept t && more) others)) (row_passes-same xs ys h.1 row)

  rows_pass-same : (xs : List E) (ys : List F) → SameAll xs ys → (rows : List (List Datum)) → rows_pass ev xs rows ≡ rows_pass fv ys rows
  rows_pass-same xs ys h [] = refl
  rows_pass-same xs ys h (row ∷ rows) =
      ap (λ a. and_then a (λ ok. mapped (λ more. ok && more) (rows_pass ev xs rows))) (row_passes-same xs ys h row)
      ∙ ap (λ others. and_then (row_passes fv ys row) (λ ok. mapped (λ more. ok && more) others)) (rows_pass-same xs ys h rows)

  -- the end of a statement, where it is known what the CHECKs evaluate to and which rules are kept
  abbrev at_end : List (List Datum) → Result Bool SqlState → (List (List Datum) → Bool) → TableDef → Result (List (List Datum)) Failure
  at_end rows pass keyed def = if nat_lt most_rows (length rows) then Err (OfTable (codes "X0002"))
      else then_of pass (λ ok. ended_with def (in_order def.key rows) (ok && (keep_rules def rows && keyed (in_order def.key rows))))

  pub ended-same : (a : Schema E) (b : Schema F) → SameSchema a b → (rows : List (List Datum)) → ended ev a rows ≡ ended fv b rows
  ended-same a b h rows =
      ap (λ pass. at_end rows pass a.keyed a.def) (rows_pass-same a.checks b.checks h.checks (in_order a.def.key rows))
      ∙ ap (λ keyed. at_end rows (rows_pass fv b.checks (in_order a.def.key rows)) keyed a.def) h.keyed
      ∙ ap (λ def. at_end rows (rows_pass fv b.checks (in_order def.key rows)) b.keyed def) h.def

  pub inserted-same : (a : Schema E) (b : Schema F) → SameSchema a b → (new rows : List (List Datum)) → inserted ev a new rows ≡ inserted fv b new rows
  inserted-same a b h new rows =
      ap (λ end. then_of (stored_rows (kinds_of a.def.columns) new) (λ new. counting (length new) (end (rows ++ new)))) (fun_ext (ended-same a b h))
      ∙ ap (λ def. then_of (stored_rows (kinds_of def.columns) new) (λ new. counting (length new) (ended fv b (rows ++ new)))) h.def

-- ---- UPDATE and DELETE, where CHECKs have evaluators of their own

module _ {E F : Type 0} (ev ep : Evaluator E) (fv fp : Evaluator F) where
  pub updated-same : (a : Schema E) (b : Schema F) → SameSchema ep fp a b → (xs : List (SetItem E)) (ys : List (SetItem F)) → SameSets ev fv xs ys → (t : Option E) (u : Option F) → SamePerhaps ev fv t u → (rows : List (List Datum))
      → updated ev ep a xs t rows ≡ updated fv fp b ys u rows
  updated-same a b s xs ys h t u o rows =
      let makes : (List (List Datum) → Result (List (List Datum)) Failure) → Result Division SqlState → Result Changed Failure = λ end d. then_of d (λ p. counting (length p.made) (end (p.left ++ p.made))) in
      ap (λ end. makes end (divided ev t (set_row ev a.def xs) rows)) (fun_ext (ended-same ep fp a b s))
      ∙ ap (λ def. makes (ended fp b) (divided ev t (set_row ev def xs) rows)) s.def
      ∙ ap (makes (ended fp b)) (divided-same ev fv t u o (set_row ev b.def xs) (set_row fv b.def ys) (set_row-same ev fv b.def xs ys h) rows)

  pub updated_at-same : (a : Schema E) (b : Schema F) → SameSchema ep fp a b → (xs : List (SetItem E)) (ys : List (SetItem F)) → SameSets ev fv xs ys → (row : List Datum) (rows : List (List Datum))
      → updated_at ev ep a xs row rows ≡ updated_at fv fp b ys row rows
  updated_at-same a b s xs ys h row rows =
      let makes : (List (List Datum) → Result (List (List Datum)) Failure) → TableDef → Result (List Datum) SqlState → Result Moved Failure = λ end def r. then_of r (λ new. moving (has_moved def row new) (end (rows_but def row rows ++ new ∷ []))) in
      ap (λ end. makes end a.def (set_row ev a.def xs row)) (fun_ext (ended-same ep fp a b s))
      ∙ ap (λ def. makes (ended fp b) def (set_row ev def xs row)) s.def
      ∙ ap (makes (ended fp b) b.def) (set_row-same ev fv b.def xs ys h row)

  pub deleted-same : (a : Schema E) (b : Schema F) → SameSchema ep fp a b → (t : Option E) (u : Option F) → SamePerhaps ev fv t u → (rows : List (List Datum)) → deleted ev ep a t rows ≡ deleted fv fp b u rows
  deleted-same a b s t u o rows =
      let makes : (List (List Datum) → Result (List (List Datum)) Failure) → Result Division SqlState → Result Changed Failure = λ end d. then_of d (λ p. counting (length p.made) (end p.left)) in
      ap (λ end. makes end (divided ev t (λ row. Ok row) rows)) (fun_ext (ended-same ep fp a b s))
      ∙ ap (makes (ended fp b)) (divided-same ev fv t u o (λ row. Ok row) (λ row. Ok row) (λ row. refl) rows)

  pub deleted_at-same : (a : Schema E) (b : Schema F) → SameSchema ep fp a b → (row : List Datum) (rows : List (List Datum)) → deleted_at ep a row rows ≡ deleted_at fp b row rows
  deleted_at-same a b s row rows =
      ap (λ def. ended ep a (rows_but def row rows)) s.def ∙ ended-same ep fp a b s (rows_but b.def row rows)
