-- INSERT: the piece that rows put into a table end in.
use Rattle.std.proofs.Common.{◌≡◌, ℕ, true, List, ◌++◌, slice_get, Some, None, IfOk, Result, Ok, Err, ap, sym, subst}
use Rattle.std.specs.Prelude.{codes}
use Rattle.std.specs.declared.alloc.AllocError.{AllocError}
use Rattle.psm_value.specs.declared.datum.Datum.{Datum}
use Rattle.psm_cond.specs.Condition.{Entries}
use Rattle.psm_cond.specs.declared.fault.DataFault.{DataFault}
use Rattle.psm_cond.specs.declared.fault.DataFault.TheVariants as fault
use Rattle.psm_table.specs.Changing.{Changed, Failure, Raised, OfTable}
use Rattle.psm_table.specs.Keyed.{are_keyed_with, rows_in}
use Rattle.psm_table.specs.Table.{Contents}
use Rattle.psm_dml.specs.Ends.{IsExpected}
use Rattle.psm_code.specs.declared.code.CodeTable.{CodeTable}
use Rattle.psm_code.specs.declared.code.RawCode.{RawCode}
use Rattle.psm_code.specs.RoutineRules.{first_fault}
use Rattle.psm_code.specs.MachineInvariant.{AreLawful}
use Rattle.psm_code.proofs.Queried.{kept_at}
use Rattle.psm_machine.proofs.Asking.{of_some}
use Rattle.psm_machine.proofs.CodeGuarantees.{put_kept}
use Rattle.psm_machine.specs.Inserting.{EndsIn, PutsInto, PutsRows, put_expected}
use Rattle.psm_meaning.specs.Lines.{condition_lines, first_line, naming, ok_line}
use Rattle.psm_meaning.specs.Session.{Standing, Went}
use Rattle.psm_session.specs.CommandSteps.{CommandExecutes, Executes, insert, name_of_table, put_in}
use Rattle.psm_session.specs.Steps.{Makes, standing}
use Rattle.psm_session.specs.declared.command.ScriptCommand.{ScriptCommand}
use Rattle.psm_session.specs.declared.command.ScriptCommand.TheVariants as commands

-- what holds of a result holds of what follows from it
pub if_ok_map : {A : Type 0} (P Q : A → Type 0) (r : Result A AllocError) → ((a : A) → P a → Q a) → IfOk r P → IfOk r Q
if_ok_map P Q (Ok a) f h = f a h
if_ok_map P Q (Err e) f h = tt

module _ (code : RawCode) (k n : ℕ) (columns : List ℕ) (rows : List (List Datum)) (old new : List Contents) (t : CodeTable) (there : slice_get code.tables n ≡ Some t) (kept : AreLawful code old) where
  abbrev First : List ℕ
  First = first_line k (naming (codes "INSERT ") t.definition.name)

  abbrev Command : ScriptCommand
  Command = commands.Insert n columns rows

  -- the table as it was
  record Found (r : Result ℕ DataFault) : Type 0 where
    contents : Contents
    here : slice_get old n ≡ Some contents
    ends : EndsIn t contents (put_expected (are_keyed_with code.keys (rows_in old) n) t columns rows contents) old n new r

  found : (r : Result ℕ DataFault) → PutsRows code n columns rows old new r → Found r
  found r puts =
      let k = kept_at code.tables old n t kept.kept there in
      let into = of_some (λ (t : CodeTable). PutsInto code.keys t n columns rows old new r) (slice_get code.tables n) t there puts in
      record { contents = k.0; here = k.1; ends = of_some (λ (c : Contents). EndsIn t c (put_expected (are_keyed_with code.keys (rows_in old) n) t columns rows c) old n new r) (slice_get old n) k.0 k.1 into }

  -- ---- the tables

  kept_by : first_fault code ≡ None → (r : Result ℕ DataFault) → Found r → AreLawful code new
  kept_by well_formed_code (Ok count) f =
      let changed : Changed = record { rows = f.ends.0; count = count } in
      subst (AreLawful code) (sym f.ends.2) (put_kept code old well_formed_code kept n t f.contents there f.here columns rows changed f.ends.1)
  kept_by well_formed_code (Err (fault.Raised condition)) f = subst (AreLawful code) (sym f.ends.1) kept
  kept_by well_formed_code (Err fault.Memory) f = subst (AreLawful code) (sym f.ends) kept

  pub kept_after : first_fault code ≡ None → (r : Result ℕ DataFault) → PutsRows code n columns rows old new r → AreLawful code new
  kept_after well_formed_code r puts = kept_by well_formed_code r (found r puts)

  -- ---- the piece

  module _ (turns : ℕ) (committed : List Contents) where
    abbrev Before : Standing
    Before = standing old turns committed

    abbrev Piece : List ℕ → Type 0
    Piece piece = Makes code k Before Command true piece (standing new turns committed)

    first_is : first_line k (naming (codes "INSERT ") (name_of_table (slice_get code.tables n))) ≡ First
    first_is = ap (λ o. first_line k (naming (codes "INSERT ") (name_of_table o))) there

    goes : (c : Contents) → slice_get old n ≡ Some c → CommandExecutes code k Before Command (put_in First Before n t c (put_expected (are_keyed_with code.keys (rows_in old) n) t columns rows c))
    goes c here = subst (λ first. Executes code first Before Command (put_in First Before n t c (put_expected (are_keyed_with code.keys (rows_in old) n) t columns rows c))) (sym first_is) (insert there here)

    raised : (c : Contents) (expected : Result Changed Failure) (condition : Entries) → IsExpected t.definition expected condition → put_in First Before n t c expected ≡ Went (First ++ condition_lines condition) Before
    raised c (Ok a) condition h = absurd h
    raised c (Err (Raised s)) condition h = ap (λ x. Went (First ++ condition_lines x) Before) (sym h)
    raised c (Err (OfTable s)) condition h = ap (λ x. Went (First ++ condition_lines x) Before) (sym h)

    pub put_well : (count : ℕ) (piece : List ℕ) → PutsRows code n columns rows old new (Ok count) → piece ≡ First ++ ok_line → Piece piece
    put_well count piece puts e =
        let f = found (Ok count) puts in
        let changed : Changed = record { rows = f.ends.0; count = count } in
        let expected = subst (λ d. CommandExecutes code k Before Command (put_in First Before n t f.contents d)) f.ends.1 (goes f.contents f.here) in
        let tables = subst (λ x. Makes code k Before Command true (First ++ ok_line) (standing x turns committed)) (sym f.ends.2) expected in
        subst Piece (sym e) tables

    pub put_raised : (condition : Entries) (piece : List ℕ) → PutsRows code n columns rows old new (Err (fault.Raised condition)) → piece ≡ First ++ condition_lines condition → Piece piece
    put_raised condition piece puts e =
        let f = found (Err (fault.Raised condition)) puts in
        let expected = subst (CommandExecutes code k Before Command) (raised f.contents (put_expected (are_keyed_with code.keys (rows_in old) n) t columns rows f.contents) condition f.ends.0) (goes f.contents f.here) in
        let tables = subst (λ x. Makes code k Before Command true (First ++ condition_lines condition) (standing x turns committed)) (sym f.ends.1) expected in
        subst Piece (sym e) tables
