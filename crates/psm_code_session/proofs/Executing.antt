-- A command that fits well-formed code ends: it goes on, or the turns run out in it. It ends in one way.
use Rattle.std.proofs.Common.{◌≡◌, ℕ, true, List, [], ◌∷◌, ◌++◌, map, slice_get, Option, Some, None, Result, Ok, Err, refl, ap, sym, subst, ◌∙◌}
use Rattle.std.specs.Prelude.{IsSome, slice_set}
use Rattle.std.proofs.lemmas.Option.{same_Some}
use Rattle.psm_value.specs.declared.datum.Datum.{Datum}
use Rattle.psm_sqlstate.specs.declared.state.SqlState.{SqlState}
use Rattle.psm_exprcode.specs.declared.query.Query.{Query}
use Rattle.psm_table.specs.Changing.{Changed, Failure, inserted}
use Rattle.psm_table.specs.Keyed.{are_keyed_with, rows_in}
use Rattle.psm_table.specs.Queries.{Answer, answer}
use Rattle.psm_table.specs.Table.{Contents}
use Rattle.psm_tablecode.specs.Codes.{over, query_of}
use Rattle.psm_tablecode.specs.NewRows.{new_row}
use Rattle.psm_code.specs.declared.code.CodeTable.{CodeTable}
use Rattle.psm_code.specs.declared.code.RawCode.{RawCode}
use Rattle.psm_code.specs.MachineInvariant.{AreLawful, is_due}
use Rattle.psm_code.specs.Plans.{plain, schema_of}
use Rattle.psm_code.specs.RoutineRules.{first_fault}
use Rattle.psm_code.specs.Run.{Ran}
use Rattle.psm_code.specs.State as state
use Rattle.psm_code.specs.State.{End, Ended, Raised, Stuck, Machine}
use Rattle.psm_code.proofs.Ending.{one_end}
use Rattle.psm_code.proofs.NeverStuck.{run_well_formed}
use Rattle.psm_code.proofs.Queried.{kept_at}
use Rattle.psm_termination.proofs.Rows.{run_ends}
use Rattle.psm_machine.specs.Running.{Takes}
use Rattle.psm_machine.proofs.CodeGuarantees.{put_kept}
use Rattle.psm_meaning.specs.Acts.{NoTurns}
use Rattle.psm_meaning.specs.Lines.{condition_lines, first_line, ok_line}
use Rattle.psm_meaning.specs.Session.{CommandResult, Standing, Stopped, Went}
use Rattle.psm_session.specs.CommandSteps.{CommandExecutes, Executes, call, insert, select, commit, rollback, after_run, called, command_name, condition_of, put_in, selected, with_tables}
use Rattle.psm_session.specs.Ends.{FitsCommand, FitsQuery}
use Rattle.psm_session.specs.declared.command.ScriptCommand.{ScriptCommand}
use Rattle.psm_session.specs.declared.command.ScriptCommand.TheVariants as commands

-- the tables are those of the code, and so are those to which ROLLBACK goes
pub record StaysKept (code : RawCode) (s : Standing) : Type 0 where
  pub tables : AreLawful code s.tables
  pub committed : AreLawful code s.committed

-- how a command ends
pub data Executed (code : RawCode) (k : ℕ) (s : Standing) (c : ScriptCommand) : Type 0 where
  goes_on : (piece : List ℕ) (t : Standing) → CommandExecutes code k s c (Went piece t) → StaysKept code t → Executed code k s c
  runs_out : (piece : List ℕ) → CommandExecutes code k s c (Stopped NoTurns (piece ∷ [])) → Executed code k s c

module _ (code : RawCode) (well_formed_code : first_fault code ≡ None) (k : ℕ) (s : Standing) (kept : StaysKept code s) where
  -- ---- CALL

  call_executed : (n : ℕ) (values : List Datum) → Takes code n values → Executed code k s (commands.Call n values)
  call_executed n values takes =
      let run = run_ends code well_formed_code n takes.routine takes.there values s.tables s.turns takes.many kept.tables in
      let right = run_well_formed code well_formed_code n takes.routine takes.there values s.tables s.turns takes.many kept.tables run.0 run.1 run.2 in
      by run.0 run.1 run.2 right.0 right.1
    where
      by : (e : End) (last : Machine) → Ran code n values s.tables s.turns e last → is_due e ≡ true → AreLawful code last.tables → Executed code k s (commands.Call n values)
      by (Ended ds) last ran expected h = goes_on _ (after_run s last) (call takes.there ran) (record { tables = h; committed = kept.committed })
      by (Raised c) last ran expected h = goes_on _ (after_run s last) (call takes.there ran) (record { tables = h; committed = kept.committed })
      by state.NoTurns last ran expected h = runs_out _ (call takes.there ran)
      by Stuck last ran expected h = absurd cc

  -- ---- INSERT

  module _ (n : ℕ) (columns : List ℕ) (rows : List (List Datum)) where
    abbrev Insert : ScriptCommand
    Insert = commands.Insert n columns rows

    abbrev insert_first : List ℕ
    insert_first = first_line k (command_name code Insert)

    put_executed : (t : CodeTable) (c : Contents) → slice_get code.tables n ≡ Some t → slice_get s.tables n ≡ Some c → (expected : Result Changed Failure) → inserted plain (schema_of (are_keyed_with code.keys (rows_in s.tables) n) t) (map (new_row t.definition columns) rows) c.rows ≡ expected → Executed code k s Insert
    put_executed t c there here (Ok change) e =
        goes_on (insert_first ++ ok_line) (with_tables (slice_set s.tables n (record c { rows = change.rows })) s)
        (subst (λ expected. CommandExecutes code k s Insert (put_in insert_first s n t c expected)) e (insert there here))
        (record { tables = put_kept code s.tables well_formed_code kept.tables n t c there here columns rows change e; committed = kept.committed })
    put_executed t c there here (Err f) e =
        goes_on (insert_first ++ condition_lines (condition_of t f)) s (subst (λ expected. CommandExecutes code k s Insert (put_in insert_first s n t c expected)) e (insert there here)) kept

    insert_executed : IsSome (slice_get code.tables n) → Executed code k s Insert
    insert_executed there = by (slice_get code.tables n) refl there
      where
        by : (o : Option CodeTable) → slice_get code.tables n ≡ o → IsSome o → Executed code k s Insert
        by None e h = absurd cc
        by (Some t) e h = let c = kept_at code.tables s.tables n t kept.tables.kept e in put_executed t c.0 e c.1 (inserted plain (schema_of (are_keyed_with code.keys (rows_in s.tables) n) t) (map (new_row t.definition columns) rows) c.0.rows) refl

  -- ---- SELECT

  select_executed : (q : Query) → FitsQuery code q → Executed code k s (commands.Select q)
  select_executed q fits = let c = kept_at code.tables s.tables q.table fits.table kept.tables.kept fits.there in by c.0 c.1 (answer (over []) (query_of q) c.0.rows) refl
    where
      by : (c : Contents) → slice_get s.tables q.table ≡ Some c → (a : Result Answer SqlState) → answer (over []) (query_of q) c.rows ≡ a → Executed code k s (commands.Select q)
      by c here (Ok a) e = goes_on _ s (subst (λ a. CommandExecutes code k s (commands.Select q) (selected (first_line k (command_name code (commands.Select q))) s a)) e (select here)) kept
      by c here (Err x) e = goes_on _ s (subst (λ a. CommandExecutes code k s (commands.Select q) (selected (first_line k (command_name code (commands.Select q))) s a)) e (select here)) kept

  -- ---- each command

  pub executed : (c : ScriptCommand) → FitsCommand code c → Executed code k s c
  executed (commands.Call n values) fits = call_executed n values fits
  executed (commands.Insert n columns rows) fits = insert_executed n columns rows fits
  executed (commands.Select q) fits = select_executed q fits
  executed commands.Commit fits = goes_on _ _ commit (record { tables = kept.tables; committed = kept.tables })
  executed commands.Rollback fits = goes_on _ _ rollback (record { tables = kept.committed; committed = kept.committed })

-- ---- one end

pub executes_once : (code : RawCode) (first : List ℕ) (s : Standing) (c : ScriptCommand) (p q : CommandResult) → Executes code first s c p → Executes code first s c q → p ≡ q
executes_once code first s (commands.Call n values) p q (call {r = r} {end = e} {last = m} at ran) (call {r = r2} {end = f} {last = m2} at2 ran2) =
    let one = one_end code n values s.tables s.turns e f m m2 ran ran2 in
    ap (λ x. called first s x e m) (same_Some r r2 (sym at ∙ at2)) ∙ ap (λ x. called first s r2 x m) one.0 ∙ ap (λ x. called first s r2 f x) one.1
executes_once code first s (commands.Insert n columns rows) p q (insert {t = t} {c = c} at here) (insert {t = u} {c = d} at2 here2) =
    ap (λ x. put_in first s n x c (inserted plain (schema_of (are_keyed_with code.keys (rows_in s.tables) n) x) (map (new_row x.definition columns) rows) c.rows)) (same_Some t u (sym at ∙ at2))
    ∙ ap (λ x. put_in first s n u x (inserted plain (schema_of (are_keyed_with code.keys (rows_in s.tables) n) u) (map (new_row u.definition columns) rows) x.rows)) (same_Some c d (sym here ∙ here2))
executes_once code first s (commands.Select query) p q (select {c = c} at) (select {c = d} at2) =
    ap (λ x. selected first s (answer (over []) (query_of query) x.rows)) (same_Some c d (sym at ∙ at2))
executes_once code first s commands.Commit p q commit commit = refl
executes_once code first s commands.Rollback p q rollback rollback = refl
