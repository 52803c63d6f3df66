-- INSERT, SELECT, COMMIT and ROLLBACK over code run what they mean, and so does each command.
use Rattle.std.proofs.Common.{arith, ◌≡◌, ◌≤◌, ◌++◌, ℕ, Bool, List, [], ◌∷◌, map, slice_get, Option, Some, Result, Ok, Err, option_map, refl, ap, sym, subst, ◌∙◌}
use Rattle.std.specs.Prelude.{codes as text}
use Rattle.std.proofs.lemmas.Option.{same_Some, slice_get-map}
use Rattle.psm_sqlstate.specs.declared.state.SqlState.{SqlState}
use Rattle.psm_value.specs.declared.datum.Datum.{Datum}
use Rattle.psm_exprcode.specs.declared.query.Query.{Query}
use Rattle.psm_table.specs.Changing.{Changed, Failure, OfTable, Schema, inserted as rows_inserted}
use Rattle.psm_table.specs.Changing as changing
use Rattle.psm_table.specs.Queries.{Answer, answer}
use Rattle.psm_table.specs.declared.definition.ForeignKey.{ForeignKey}
use Rattle.psm_table.specs.Keyed.{are_keyed_with, rows_in}
use Rattle.psm_table.specs.Table.{Contents}
use Rattle.psm_tablecode.specs.Codes as codes
use Rattle.psm_tablecode.specs.NewRows.{new_row}
use Rattle.psm_resolved.specs.declared.expr.ResolvedExpr.{ResolvedExpr}
use Rattle.psm_resolved.specs.declared.expr.ResolvedQuery.{ResolvedQuery}
use Rattle.psm_resolved.specs.declared.file.ResolvedFile.{ResolvedFile}
use Rattle.psm_resolved.specs.declared.file.ResolvedTable.{ResolvedTable}
use Rattle.psm_meaning.specs.Acts.{Act, Meaning, got, present, read, tried, ◌>>=◌, ◌>>◌}
use Rattle.psm_meaning.specs.Data.{leaves, schema_of as schema_of_tree, plain as plain_trees, unless_failed}
use Rattle.psm_meaning.specs.Fuel.{fuel_for}
use Rattle.psm_meaning.specs.Lines.{first_line, naming, ok_line}
use Rattle.psm_meaning.specs.Meaning.{meaning}
use Rattle.psm_meaning.specs.Rows as trees
use Rattle.psm_meaning.specs.Session.{Command, Call, Insert, Select, Commit, Rollback, CommandResult, Standing, Went, answer_lines, at_command, command_name, inserted, procedure_name, run, selected, table_name}
use Rattle.psm_meaning.proofs.PureActs.{pure-inserted}
use Rattle.psm_code.specs.declared.code.CodeTable.{CodeTable}
use Rattle.psm_code.specs.declared.code.RawCode.{RawCode}
use Rattle.psm_code.specs.Plans as plans
use Rattle.psm_simulation.specs.Changes.{TableStands}
use Rattle.psm_simulation.specs.Simulation.{FileStands}
use Rattle.psm_typing.specs.Files.{IsWellTyped}
use Rattle.psm_typing.specs.Scripts.{outside}
use Rattle.psm_typing.specs.States.{AreFilled}
use Rattle.psm_typing.proofs.Changing.{holds-put_in}
use Rattle.psm_typing.proofs.Holding.{Anything, Holds, holds-bind, holds-got}
use Rattle.psm_session.specs.declared.command.ScriptCommand.{ScriptCommand}
use Rattle.psm_session.specs.declared.command.ScriptCommand.TheVariants as commands
use Rattle.psm_session.specs.CommandSteps as going
use Rattle.psm_session.specs.CommandSteps.{CommandExecutes, Executes, name_of_routine, name_of_table, put_in}
use Rattle.psm_session_simulation.specs.Standing.{CommandStands, InsertStands, SelectStands}
use Rattle.psm_session_simulation.proofs.Asking.{answers-same}
use Rattle.psm_session_simulation.proofs.Calling.{does-call}
use Rattle.psm_session_simulation.proofs.Keeping.{Does, IsKept, IsCommandResult, run-kept}

-- ---- INSERT

-- what is done, where the rows that are left are known
abbrev leaving : ℕ → Contents → ResolvedTable → Result Changed Failure → Act (List ℕ)
leaving table c t v = ◌>>◌ (◌>>=◌ (unless_failed t.definition v) (λ x. leaves table c x.rows x.count)) (got ok_line)

leaving-same : (m : Meaning) (first : List ℕ) (s : Standing) (table : ℕ) (c : Contents) (t : ResolvedTable) (u : CodeTable) → u.definition ≡ t.definition → (v : Result Changed Failure) → run first s (leaving table c t v) m ≡ put_in first s table u c v
leaving-same m first s table c t u same (Ok change) = refl
leaving-same m first s table c t u same (Err (changing.Raised state)) = refl
leaving-same m first s table c t u same (Err (OfTable state)) = refl

module _ (file : ResolvedFile) (well_typed : IsWellTyped file) (h turns : ℕ) (s : Standing) (tables : AreFilled file.tables s.tables) (left : s.turns ≤ turns) (first : List ℕ) (table : ℕ) (columns : List ℕ) (rows : List (List Datum))
    (t : ResolvedTable) (there : slice_get file.tables table ≡ Some t) (u : CodeTable) (stands : TableStands t u) (c : Contents) (at : slice_get s.tables table ≡ Some c) (keys : List ForeignKey) (same_keys : keys ≡ file.keys) where
  abbrev m : Meaning
  m = meaning file h

  -- whether these constraints hold among the tables with other rows in this one
  abbrev keyed : List ForeignKey → List (List Datum) → Bool
  keyed some = are_keyed_with some (rows_in s.tables) table

  -- after the table's definition and its rows
  abbrev with_schema : Schema ResolvedExpr → Option Contents → Act (List ℕ)
  with_schema x y = ◌>>◌ (◌>>=◌ (present y) (λ c. ◌>>=◌ (unless_failed x.def (rows_inserted plain_trees x (map (new_row x.def columns) rows) c.rows)) (λ n. leaves table c n.rows n.count))) (got ok_line)

  schema-there : slice_get (map (schema_of_tree (keyed file.keys)) file.tables) table ≡ Some (schema_of_tree (keyed file.keys) t)
  schema-there = slice_get-map (schema_of_tree (keyed file.keys)) file.tables table ∙ ap (option_map (schema_of_tree (keyed file.keys))) there

  insert-same : run first s (inserted file table columns rows) m ≡ put_in first s table u c (rows_inserted plans.plain (plans.schema_of (keyed keys) u) (map (new_row u.definition columns) rows) c.rows)
  insert-same =
      let one = ap (λ x. run first s (◌>>◌ (◌>>=◌ (present x) (λ x. ◌>>=◌ (trees.table_now table) (λ c. ◌>>=◌ (unless_failed x.def (rows_inserted plain_trees x (map (new_row x.def columns) rows) c.rows)) (λ n. leaves table c n.rows n.count)))) (got ok_line)) m) schema-there in
      let two = ap (λ y. run first s (with_schema (schema_of_tree (keyed file.keys) t) y) m) at in
      let three = ap (λ d. run first s (leaving table c t (rows_inserted plain_trees (schema_of_tree (keyed file.keys) t) (map (new_row d columns) rows) c.rows)) m) (sym stands.definition) in
      let four = ap (λ v. run first s (leaving table c t v) m) (sym (stands.inserts (keyed file.keys) (map (new_row u.definition columns) rows) c.rows)) in
      let five = leaving-same m first s table c t u stands.definition (rows_inserted plans.plain (plans.schema_of (keyed file.keys) u) (map (new_row u.definition columns) rows) c.rows) in
      one ∙ two ∙ three ∙ four ∙ five ∙ ap (λ some. put_in first s table u c (rows_inserted plans.plain (plans.schema_of (keyed some) u) (map (new_row u.definition columns) rows) c.rows)) (sym same_keys)

  does-insert : Does file h turns first s (Insert table columns rows) (put_in first s table u c (rows_inserted plans.plain (plans.schema_of (keyed keys) u) (map (new_row u.definition columns) rows) c.rows))
  does-insert =
      let holds : Holds (outside file) m Anything (inserted file table columns rows) = holds-bind (holds-put_in table t columns rows there) (λ u w. holds-got ok_line tt) in
      let filled = holds.well (at_command s) (record { tables = tables; variables = refl; cursors = tt }) in
      let as_many = (pure-inserted file table columns rows).turns m (at_command s) in
      record { same = insert-same; kept = λ committed. subst (IsCommandResult file turns) insert-same (run-kept file turns m first s (inserted file table columns rows) committed filled.state.tables (omega (arith, as_many, left))) }

-- ---- SELECT

answer-shown : (m : Meaning) (first : List ℕ) (s : Standing) (skipped : Bool) (rows : List (List Datum)) → run first s (answer_lines skipped rows) m ≡ Went (first ++ going.rows_shown skipped rows) s
answer-shown m first s skipped [] = refl
answer-shown m first s skipped (r ∷ rows) = refl

answer-selected : (m : Meaning) (first : List ℕ) (s : Standing) (v : Result Answer SqlState) → run first s (◌>>=◌ (tried v) (λ a. answer_lines a.skipped a.rows)) m ≡ going.selected first s v
answer-selected m first s (Ok a) = answer-shown m first s a.skipped a.rows
answer-selected m first s (Err state) = refl

selected-kept : (file : ResolvedFile) (turns : ℕ) (first : List ℕ) (s : Standing) (v : Result Answer SqlState) → IsKept file turns s → IsCommandResult file turns (going.selected first s v)
selected-kept file turns first s (Ok a) k = k
selected-kept file turns first s (Err state) k = k

select-same : (m : Meaning) (first : List ℕ) (s : Standing) (query : ResolvedQuery) (coded : Query) → SelectStands query coded → (c : Contents) → slice_get s.tables coded.table ≡ Some c
    → run first s (selected query) m ≡ going.selected first s (answer (codes.over []) (codes.query_of coded) c.rows)
select-same m first s query coded q c at =
    let shown : Answer → Act (List ℕ) = λ a. answer_lines a.skipped a.rows in
    let asked : Option Contents → Act Answer = λ x. ◌>>=◌ (present x) (λ t. ◌>>=◌ (read (λ st. st.variables)) (λ vars. tried (answer (trees.over vars) (trees.query_of query) t.rows))) in
    let one = ap (λ n. run first s (◌>>=◌ (asked (slice_get s.tables n)) shown) m) (sym q.made.table) in
    let two = ap (λ x. run first s (◌>>=◌ (asked x) shown) m) at in
    let three = ap (λ v. run first s (◌>>=◌ (tried v) shown) m) (sym (answers-same query coded q c.rows)) in
    one ∙ two ∙ three ∙ answer-selected m first s (answer (codes.over []) (codes.query_of coded) c.rows)

-- ---- each command

module _ (file : ResolvedFile) (code : RawCode) (stands : FileStands file code) (well_typed : IsWellTyped file) (h turns : ℕ) (enough : fuel_for file turns ≤ h) (s : Standing) (tables : AreFilled file.tables s.tables) (left : s.turns ≤ turns) (first : List ℕ) where
  -- where both commands say the same
  does-named : (table other : ℕ) (columns places : List ℕ) (rows others : List (List Datum)) (u : CodeTable) (c : Contents) → table ≡ other → columns ≡ places → rows ≡ others → InsertStands file code table → slice_get code.tables other ≡ Some u → slice_get s.tables other ≡ Some c
      → Does file h turns first s (Insert table columns rows) (put_in first s other u c (rows_inserted plans.plain (plans.schema_of (are_keyed_with code.keys (rows_in s.tables) other) u) (map (new_row u.definition places) others) c.rows))
  does-named table other columns places rows others u c e f g q at here =
      let command = ap (λ x. Insert x columns rows) e ∙ ap (λ x. Insert other x rows) f ∙ ap (λ x. Insert other places x) g in
      let there = subst (λ x. slice_get file.tables x ≡ Some q.named) e q.there in
      let coded = subst (λ x. slice_get code.tables x ≡ Some q.coded) e q.at in
      let stands = subst (λ x. TableStands q.named x) (same_Some q.coded u (sym coded ∙ at)) q.stands in
      subst (λ x. Does file h turns first s x (put_in first s other u c (rows_inserted plans.plain (plans.schema_of (are_keyed_with code.keys (rows_in s.tables) other) u) (map (new_row u.definition places) others) c.rows))) (sym command)
      (does-insert file well_typed h turns s tables left first other places others q.named there u stands c here code.keys q.keys)

  executes-does : (c : Command) (d : ScriptCommand) (p : CommandResult) → CommandStands file code c d → Executes code first s d p → Does file h turns first s c p
  executes-does (Call procedure values) (commands.Call n others) p q (going.call {r = r} {end = end} {last = last} at ran) =
      subst (λ x. Does file h turns first s (Call procedure x) (going.called first s r end last)) (sym q.0)
      (subst (λ x. Does file h turns first s (Call procedure others) (going.called first s x end last)) (same_Some q.1.coded r (sym q.1.at ∙ at))
      (does-call file code stands well_typed h turns enough s tables left first procedure n others q.1 end last ran))
  executes-does (Insert table columns rows) (commands.Insert other places others) p q (going.insert {t = t} {c = c} at here) = does-named table other columns places rows others t c q.0 q.1 q.2 q.3 at here
  executes-does (Select query) (commands.Select coded) p q (going.select {c = c} at) =
      let same = select-same (meaning file h) first s query coded q c at in
      record { same = same; kept = λ committed. selected-kept file turns first s _ (record { tables = tables; committed = committed; left = left }) }
  executes-does Commit commands.Commit p q going.commit = record { same = refl; kept = λ committed. record { tables = tables; committed = tables; left = left } }
  executes-does Rollback commands.Rollback p q going.rollback = record { same = refl; kept = λ committed. record { tables = committed; committed = committed; left = left } }
  executes-does c d p q g = absurd q

-- their first lines say the same
name-same : (file : ResolvedFile) (code : RawCode) (c : Command) (d : ScriptCommand) → CommandStands file code c d → going.command_name code d ≡ command_name file c
name-same file code (Call procedure values) (commands.Call n others) q =
    ap (λ x. naming (text "CALL ") (name_of_routine x)) q.1.at ∙ ap (λ x. naming (text "CALL ") x) q.1.name ∙ ap (λ x. naming (text "CALL ") (procedure_name x)) (sym q.1.named)
name-same file code (Insert table columns rows) (commands.Insert other places others) q =
    ap (λ n. naming (text "INSERT ") (name_of_table (slice_get code.tables n))) (sym q.0) ∙ ap (λ x. naming (text "INSERT ") (name_of_table x)) q.3.at
    ∙ ap (λ x. naming (text "INSERT ") x.name) q.3.stands.definition ∙ ap (λ x. naming (text "INSERT ") (table_name x)) (sym q.3.there)
name-same file code (Select query) (commands.Select coded) q = refl
name-same file code Commit commands.Commit q = refl
name-same file code Rollback commands.Rollback q = refl
name-same file code c d q = absurd q

pub command-does : (file : ResolvedFile) (code : RawCode) → FileStands file code → IsWellTyped file → (h turns : ℕ) → fuel_for file turns ≤ h → (k : ℕ) (s : Standing) → AreFilled file.tables s.tables → s.turns ≤ turns → (c : Command) (d : ScriptCommand) (p : CommandResult) → CommandStands file code c d → CommandExecutes code k s d p
    → Does file h turns (first_line k (command_name file c)) s c p
command-does file code stands well_typed h turns enough k s tables left c d p q g =
    subst (λ name. Does file h turns (first_line k name) s c p) (name-same file code c d q) (executes-does file code stands well_typed h turns enough s tables left (first_line k (going.command_name code d)) c d p q g)
