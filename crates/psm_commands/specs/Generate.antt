-- What is expected of the command that runs a generated script over a generated module file.
use Rattle.std.specs.Prelude.{◌≡◌, ℕ, suc, ◌-◌, ◌⊎◌, Bool, true, false, List, [], ◌∷◌, ◌++◌, codes, decimal, nat_eq, drop, take, Option, Some, None, if◌then◌else◌}
use Rattle.psm_build.specs.Program.{EndsIn, IsModuleFault, IsScriptFault}
use Rattle.psm_files.specs.Expected.{Expected, with_line}
use Rattle.psm_files.specs.Given.{Given}
use Rattle.psm_files.specs.declared.status.Status.TheVariants.{Done as IsDone, TurnsUsed}
use Rattle.psm_meaning.specs.Acts.{NoTurns, OutOfFuel, Stuck}
use Rattle.psm_meaning.specs.Lines.{turns_used_line}
use Rattle.psm_meaning.specs.Session.{Session, End, Cut, Done}
use Rattle.psm_session.specs.Ends.{last_or}
use Rattle.psm_commands.specs.Generated.{generated_module, generated_script, generated_turns}
use Rattle.psm_commands.specs.Sources.{IsRefused}
use Rattle.psm_commands.specs.declared.source.Which.TheVariants.{Module, Script}

-- ---- lines

-- how many bytes the first line has, with its line feed
abbrev pub line_length : List ℕ → ℕ
line_length [] = 0
line_length (b ∷ bs) = if nat_eq b 10 then 1 else suc (line_length bs)

abbrev pub after_line : List ℕ → List ℕ
after_line text = drop (line_length text) text

abbrev pub first_line_of : List ℕ → List ℕ
first_line_of text = take (line_length text) text

-- how many calls there were, the turns that they used, and the second line of the last piece, which has the row of the query
abbrev pub summary : ℕ → ℕ → List ℕ → List ℕ
summary calls used piece = codes "CALLS " ++ decimal calls ++ codes "\nTURNS " ++ decimal used ++ codes "\n" ++ first_line_of (after_line piece)

-- ---- what is expected

-- of a session in which all commands were run, or the turns ran out, with that last piece and the turns that are left
abbrev pub expected_after : ℕ → Bool → List ℕ → ℕ → Expected
expected_after calls true piece turns = with_line IsDone (summary calls (generated_turns - turns) piece)
expected_after calls false piece turns = with_line TurnsUsed turns_used_line

abbrev pub expected_at : ℕ → Session → End → Option Expected
expected_at calls s Done = Some (expected_after calls true (last_or [] s.pieces) s.turns)
expected_at calls s (Cut NoTurns) = Some (expected_after calls false (last_or [] s.pieces) s.turns)
expected_at calls s (Cut OutOfFuel) = None
expected_at calls s (Cut Stuck) = None

-- the generated script has that session over the generated module file, for which this is expected
pub record IsSummed (given : Given) (calls : ℕ) (expected : Expected) : Type 0 where
  pub session : Session
  pub ends_in : EndsIn generated_module (generated_script calls) generated_turns session
  pub none_fails : given.NoneFails
  pub expected_is : expected_at calls session session.end ≡ Some expected

-- the two are accepted as other module files and scripts are
abbrev pub ForGenerate : Given → ℕ → Expected → Type 0
ForGenerate given calls expected =
    IsRefused given Module (IsModuleFault generated_module) expected
    ⊎ IsRefused given Script (IsScriptFault generated_module (generated_script calls)) expected
    ⊎ IsSummed given calls expected

-- ---- what a run of them ends in

-- a session is found by whether all commands were run, the last piece, and the turns that are left
pub record IsFound (calls : ℕ) (goes_on : Bool) (piece : List ℕ) (turns : ℕ) : Type 0 where
  pub session : Session
  pub ends_in : EndsIn generated_module (generated_script calls) generated_turns session
  pub expected_is : expected_at calls session session.end ≡ Some (expected_after calls goes_on piece turns)
