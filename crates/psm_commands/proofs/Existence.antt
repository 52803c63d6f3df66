-- Where the shelf is known to hold the files of a command, something is expected of it.
use Rattle.std.proofs.Common.{◌≡◌, ℕ, ◌<◌, ◌≤◌, true, false, List, [], ◌∷◌, length, Option, Some, None, refl, inl, inr}
use Rattle.std.specs.Prelude.{◌⊎◌, All, IsSome}
use Rattle.std.proofs.lemmas.Bool.{cases_lt}
use Rattle.std.proofs.lemmas.List.Elements.{All-head, All-tail}
use Rattle.psm_faults.specs.declared.fault.Fault.{Fault}
use Rattle.psm_build.specs.ModuleCode.{IsScriptFaultOver}
use Rattle.psm_build.specs.Once.{HasFault, IsEnd, Total}
use Rattle.psm_build.specs.Program.{EndsIn, IsModuleFault, IsModuleFile, IsScriptFault, IsScriptFile, IsScriptOf}
use Rattle.psm_code.specs.declared.code.RawCode.{RawCode}
use Rattle.psm_code.specs.RoutineRules.{first_fault}
use Rattle.psm_code_session.specs.CodeSession.{CodeEndsIn, EndIn, IsScriptOver}
use Rattle.psm_load.specs.Loading.{IsObject, IsObjectFault}
use Rattle.psm_load.specs.declared.fault.ObjectFault.{ObjectFault}
use Rattle.psm_meaning.specs.Acts.{NoTurns, OutOfFuel, Stuck}
use Rattle.psm_meaning.specs.Session.{Session, End, Cut, Done as AfterAll}
use Rattle.psm_session.specs.Ends.{last_or}
use Rattle.psm_session.specs.declared.command.ScriptCommand.{ScriptCommand}
use Rattle.psm_files.specs.Expected.{Expected, with_line}
use Rattle.psm_files.specs.Fetches.{most_bytes}
use Rattle.psm_files.specs.Given.{ForFile, as_held}
use Rattle.psm_files.specs.Message.{too_long}
use Rattle.psm_files.specs.declared.status.Status.TheVariants.{Done, TooLong}
use Rattle.psm_commands.specs.Command.{Command, Files, Run, Compile, Exec, Generate, files_of}
use Rattle.psm_commands.specs.Contract.{StatusFor}
use Rattle.psm_commands.specs.Run.{ForRun, RunsScript}
use Rattle.psm_commands.specs.Compile.{StatusForCompile}
use Rattle.psm_commands.specs.Exec.{ForExec, IsOver, RunsScriptOver}
use Rattle.psm_commands.specs.Generate.{ForGenerate, IsSummed, expected_after, expected_at}
use Rattle.psm_commands.specs.Generated.{generated_module, generated_script, generated_turns}
use Rattle.psm_commands.specs.Sources.{ForScript, IsObjectRefused, IsRefused, with_object_refusal, with_refusal}
use Rattle.psm_commands.specs.declared.source.Which.{Which}
use Rattle.psm_commands.specs.declared.source.Which.TheVariants.{Module, Script}
use Rattle.psm_commands.proofs.Answering.{session_expected}

-- something is expected, with that cause
abbrev Something : (Expected → Type 0) → Type 0
Something Is = (expected : Expected) × Is expected

module _ (held : List ℕ → Option (List ℕ)) where
  abbrev IsHeld : List ℕ → Type 0
  IsHeld name = IsSome (held name)

  some_bytes : (o : Option (List ℕ)) → IsSome o → (bytes : List ℕ) × (o ≡ Some bytes)
  some_bytes None h = absurd cc
  some_bytes (Some bytes) h = (bytes, refl)

  for_file : (name : List ℕ) → IsSome (held name) → (For : List ℕ → Expected → Type 0) → ((bytes : List ℕ) → Something (For bytes)) → Something (ForFile (as_held held) name For)
  for_file name h For some =
      let b = some_bytes (held name) h in
      by b.0 b.1 (cases_lt most_bytes (length b.0))
    where
      by : (bytes : List ℕ) → held name ≡ Some bytes → (most_bytes < length bytes) ⊎ (length bytes ≤ most_bytes) → Something (ForFile (as_held held) name For)
      by bytes e (inl long) = (with_line TooLong (too_long name), inr (inl (record { bytes = bytes; gives = e; long = long; none_fails = tt; expected_is = refl })))
      by bytes e (inr short) = let s = some bytes in (s.0, inr (inr (record { bytes = bytes; gives = e; short = short; for_bytes = s.1 })))

  refused : (w : Which) (IsFault : ℕ → ℕ → Fault → Type 0) (For : Expected → Type 0) → HasFault IsFault → Something (λ e. IsRefused (as_held held) w IsFault e ⊎ For e)
  refused w IsFault For h = (with_refusal w h.0 h.1 h.2, inl (record { line = h.0; column = h.1; fault = h.2; is_fault = h.3; none_fails = tt; expected_is = refl }))

  -- what is so of all bytes of files
  pub record AreSomething : Type 0 where
    pub modules : (ms : List ℕ) → Total (IsModuleFile ms) (IsModuleFault ms)
    pub scripts : (ms ss : List ℕ) → IsModuleFile ms → Total (IsScriptFile ms ss) (IsScriptFault ms ss)
    pub sessions : (ms ss : List ℕ) (turns : ℕ) → IsScriptFile ms ss → (s : Session) × EndsIn ms ss turns s
    pub ends : (ms ss : List ℕ) (turns : ℕ) (s : Session) → EndsIn ms ss turns s → IsEnd s.end
    pub objects : (os : List ℕ) → ((c : RawCode) × IsObject os c) ⊎ ((line : ℕ) × (fault : ObjectFault) × IsObjectFault os line fault)
    pub scripts_over : (code : RawCode) (ss : List ℕ) → Total (IsScriptOver code ss) (IsScriptFaultOver code ss)
    pub sessions_over : (code : RawCode) → first_fault code ≡ None → (ss : List ℕ) (commands : List ScriptCommand) → IsScriptOf code ss commands → (turns : ℕ) → (s : Session) × EndIn code commands turns s
    pub ends_over : (code : RawCode) (ss : List ℕ) (turns : ℕ) (s : Session) → CodeEndsIn code ss turns s → IsEnd s.end

  module _ (all : AreSomething) where
    for_script : (f : Files) (ms : List ℕ) → IsModuleFile ms → (ss : List ℕ) → Something (λ e. IsRefused (as_held held) Script (IsScriptFault ms ss) e ⊎ RunsScript (as_held held) ms ss f.turns e)
    for_script f ms is ss = by (all.scripts ms ss is)
      where
        by : Total (IsScriptFile ms ss) (IsScriptFault ms ss) → Something (λ e. IsRefused (as_held held) Script (IsScriptFault ms ss) e ⊎ RunsScript (as_held held) ms ss f.turns e)
        by (inr h) = refused Script (IsScriptFault ms ss) (RunsScript (as_held held) ms ss f.turns) h
        by (inl script) =
            let s = all.sessions ms ss f.turns script in
            let e = session_expected s.0 (all.ends ms ss f.turns s.0 s.1) in
            (e.0, inr (record { session = s.0; ends_in = s.1; none_fails = tt; expected_is = e.1 }))

    for_run : (f : Files) → IsSome (held f.for_code) → IsSome (held f.for_script) → Something (ForRun (as_held held) f)
    for_run f hm hs = for_file f.for_code hm _ (λ ms. by ms (all.modules ms))
      where
        by : (ms : List ℕ) → Total (IsModuleFile ms) (IsModuleFault ms)
            → Something (λ e. IsRefused (as_held held) Module (IsModuleFault ms) e ⊎ (IsModuleFile ms × ForScript (as_held held) (IsScriptFault ms) f.for_script (λ ss. RunsScript (as_held held) ms ss f.turns) e))
        by ms (inr h) = refused Module (IsModuleFault ms) _ h
        by ms (inl is) = let s = for_file f.for_script hs _ (for_script f ms is) in (s.0, inr (is, s.1))

    for_compile : (name : List ℕ) → IsSome (held name) → Something (StatusForCompile (as_held held) name)
    for_compile name h = for_file name h _ (λ ms. by ms (all.modules ms))
      where
        by : (ms : List ℕ) → Total (IsModuleFile ms) (IsModuleFault ms) → Something (λ e. IsRefused (as_held held) Module (IsModuleFault ms) e ⊎ (IsModuleFile ms × (e.status ≡ Done)))
        by ms (inr h) = refused Module (IsModuleFault ms) _ h
        by ms (inl is) = (record { status = Done; pieces = [] }, inr (is, refl))

    for_script_over : (f : Files) (os : List ℕ) (code : RawCode) → IsObject os code → (ss : List ℕ) → Something (λ e. IsRefused (as_held held) Script (IsScriptFaultOver code ss) e ⊎ RunsScriptOver (as_held held) code ss f.turns e)
    for_script_over f os code is ss = by (all.scripts_over code ss)
      where
        by : Total (IsScriptOver code ss) (IsScriptFaultOver code ss)
            → Something (λ e. IsRefused (as_held held) Script (IsScriptFaultOver code ss) e ⊎ RunsScriptOver (as_held held) code ss f.turns e)
        by (inr h) = refused Script (IsScriptFaultOver code ss) (RunsScriptOver (as_held held) code ss f.turns) h
        by (inl script) =
            let s = all.sessions_over code is.well_formed ss script.commands script.script f.turns in
            let in_session : CodeEndsIn code ss f.turns s.0 = record { commands = script.commands; script = script.script; session = s.1 } in
            let e = session_expected s.0 (all.ends_over code ss f.turns s.0 in_session) in
            (e.0, inr (record { session = s.0; ends_in = in_session; none_fails = tt; expected_is = e.1 }))

    for_exec : (f : Files) → IsSome (held f.for_code) → IsSome (held f.for_script) → Something (ForExec (as_held held) f)
    for_exec f ho hs = for_file f.for_code ho _ (λ os. by os (all.objects os))
      where
        by : (os : List ℕ) → ((c : RawCode) × IsObject os c) ⊎ ((line : ℕ) × (fault : ObjectFault) × IsObjectFault os line fault) → Something (λ e. IsObjectRefused (as_held held) os e ⊎ IsOver (as_held held) f os e)
        by os (inr h) = (with_object_refusal h.0 h.1, inl (record { line = h.0; fault = h.1; is_fault = h.2; none_fails = tt; expected_is = refl }))
        by os (inl c) = let s = for_file f.for_script hs _ (for_script_over f os c.0 c.1) in (s.0, inr (record { code = c.0; object = c.1; for_script = s.1 }))

    -- something is expected of a session of generated calls that ends
    generated_expected : (calls : ℕ) (s : Session) → IsEnd s.end → (e : Expected) × (expected_at calls s s.end ≡ Some e)
    generated_expected calls s h = by s.end h
      where
        by : (e : End) → IsEnd e → (x : Expected) × (expected_at calls s e ≡ Some x)
        by AfterAll k = (expected_after calls true (last_or [] s.pieces) s.turns, refl)
        by (Cut NoTurns) k = (expected_after calls false (last_or [] s.pieces) s.turns, refl)
        by (Cut OutOfFuel) k = absurd k
        by (Cut Stuck) k = absurd k

    for_generate : (calls : ℕ) → Something (ForGenerate (as_held held) calls)
    for_generate calls = by (all.modules generated_module)
      where
        over : Total (IsScriptFile generated_module (generated_script calls)) (IsScriptFault generated_module (generated_script calls)) → Something (ForGenerate (as_held held) calls)
        over (inr h) = let r = refused Script (IsScriptFault generated_module (generated_script calls)) (IsSummed (as_held held) calls) h in (r.0, inr r.1)
        over (inl script) =
            let s = all.sessions generated_module (generated_script calls) generated_turns script in
            let e = generated_expected calls s.0 (all.ends generated_module (generated_script calls) generated_turns s.0 s.1) in
            (e.0, inr (inr (record { session = s.0; ends_in = s.1; none_fails = tt; expected_is = e.1 })))

        by : Total (IsModuleFile generated_module) (IsModuleFault generated_module) → Something (ForGenerate (as_held held) calls)
        by (inr h) = refused Module (IsModuleFault generated_module) _ h
        by (inl is) = over (all.scripts generated_module (generated_script calls) is)

    code_held : (f : Files) → All IsHeld (f.for_code ∷ f.for_script ∷ []) → IsHeld f.for_code
    code_held f h = All-head IsHeld f.for_code (f.for_script ∷ []) h

    script_held : (f : Files) → All IsHeld (f.for_code ∷ f.for_script ∷ []) → IsHeld f.for_script
    script_held f h = All-head IsHeld f.for_script [] (All-tail IsHeld f.for_code (f.for_script ∷ []) h)

    pub for_command : (command : Command) → All (λ name. IsSome (held name)) (files_of command) → Something (StatusFor (as_held held) command)
    for_command (Run f) h = for_run f (code_held f h) (script_held f h)
    for_command (Compile name) h = for_compile name (All-head IsHeld name [] h)
    for_command (Exec f) h = for_exec f (code_held f h) (script_held f h)
    for_command (Generate calls) h = for_generate calls
