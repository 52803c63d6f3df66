-- What is expected for what the shelf holds has the status that is answered.
use Rattle.std.proofs.Common.{◌≡◌, ℕ, List, [], ◌∷◌, Option, Some, sym, ap, ◌∙◌, None, inl, inr, subst}
use Rattle.std.specs.Prelude.{◌⊎◌, All}
use Rattle.std.proofs.lemmas.List.Elements.{All-head, All-tail}
use Rattle.std.proofs.lemmas.Option.{same_Some}
use Rattle.psm_faults.specs.declared.fault.Fault.{Fault}
use Rattle.psm_build.specs.ModuleCode.{IsScriptFaultOver}
use Rattle.psm_build.specs.Once.{Exclusive}
use Rattle.psm_build.specs.Program.{EndsIn, IsModuleFault, IsModuleFile, IsScriptFault, IsScriptFile}
use Rattle.psm_code.specs.declared.code.RawCode.{RawCode}
use Rattle.psm_code.specs.RoutineRules.{first_fault}
use Rattle.psm_code_session.specs.CodeSession.{CodeEndsIn, IsScriptOver}
use Rattle.psm_load.specs.Loading.{IsObject, IsObjectFault}
use Rattle.psm_load.specs.declared.fault.ObjectFault.{ObjectFault}
use Rattle.psm_meaning.specs.Session.{Session}
use Rattle.psm_session.specs.Put.{Sunk}
use Rattle.psm_files.specs.Answer.{Answers, Completes, IsCut, IsPut, IsPutInPart, Says, Stayed}
use Rattle.psm_files.specs.Expected.{Expected}
use Rattle.psm_files.specs.Fetches.{Fetches}
use Rattle.psm_files.specs.Given.{Given, as_fetched, as_held}
use Rattle.psm_files.specs.declared.status.Status.{Status}
use Rattle.psm_files.specs.declared.status.Status.TheVariants.{Done}
use Rattle.psm_commands.specs.Command.{Command, Files, Run, Compile, Exec, Generate}
use Rattle.psm_commands.specs.Compile.{ForCompile, IsListed, StatusForCompile}
use Rattle.psm_commands.specs.Contract.{AreFetched, CommandCompletes, CommandSays, ForCommand, StatusFor}
use Rattle.psm_commands.specs.Exec.{ForExec, IsOver, RunsScriptOver}
use Rattle.psm_commands.specs.Generate.{ForGenerate, IsSummed, expected_at}
use Rattle.psm_commands.specs.Generated.{generated_module, generated_script, generated_turns}
use Rattle.psm_commands.specs.Run.{ForRun, RunsScript, expected_for_session}
use Rattle.psm_commands.specs.Sources.{ForScript, IsObjectRefused, IsRefused}
use Rattle.psm_commands.specs.declared.source.Which.{Which}
use Rattle.psm_commands.specs.declared.source.Which.TheVariants.{Module, Script}
use Rattle.psm_commands.proofs.Fetched.{for_file_same}

-- where all that is expected of a call has the status of all that is due, the call answers what is due
pub says_completes : (IsExpected IsDue : Expected → Type 0) (sunk : Sunk) (answer : Status) → ((e d : Expected) → IsExpected e → IsDue d → e.status ≡ d.status) → Says IsExpected sunk answer → Completes IsDue sunk answer
says_completes IsExpected IsDue sunk answer same (inr r) = λ d stayed due. inr r.answer_is
says_completes IsExpected IsDue sunk answer same (inl s) = λ d stayed due. by d stayed (same s.expected d s.cause due) s.put
  where
    by : (d : Expected) → Stayed sunk.faults_before sunk.faults_after → s.expected.status ≡ d.status → IsPut s.expected sunk answer ⊎ IsPutInPart s.expected sunk answer ⊎ IsCut s.expected sunk answer → Answers d.status answer
    by d stayed e (inl p) = inl (p.answer_is ∙ e)
    by d stayed e (inr (inl p)) = absurd (stayed p.put.rose)
    by d stayed e (inr (inr p)) = inr p.answer_is

-- two refusals of one kind of file have one status
refused_same : {Given Given' : _} (w : Which) (IsFault IsFault' : _) (e d : Expected) → IsRefused Given w IsFault e → IsRefused Given' w IsFault' d → e.status ≡ d.status
refused_same w IsFault IsFault' e d h k = ap (λ (x : Expected). x.status) h.expected_is ∙ sym (ap (λ (x : Expected). x.status) k.expected_is)

-- two sessions for which something is expected are one
session_same : (s u : Session) (e d : Expected) → s ≡ u → expected_for_session s ≡ Some e → expected_for_session u ≡ Some d → e.status ≡ d.status
session_same s u e d one h k = ap (λ (x : Expected). x.status) (same_Some e d (sym h ∙ ap expected_for_session one ∙ k))

-- a script is refused, or has a session, and its faults and what is a script exclude each other
script_same : {Given Given' : _} (IsFile : Type 0) (IsFault : ℕ → ℕ → Fault → Type 0) → Exclusive IsFile IsFault → (For For' : Expected → Type 0) → ((e : Expected) → For e → IsFile) → ((d : Expected) → For' d → IsFile)
    → ((e d : Expected) → For e → For' d → e.status ≡ d.status) → (e d : Expected) → IsRefused Given Script IsFault e ⊎ For e → IsRefused Given' Script IsFault d ⊎ For' d → e.status ≡ d.status
script_same IsFile IsFault one For For' file file' same e d (inl h) (inl k) = refused_same Script _ _ e d h k
script_same IsFile IsFault one For For' file file' same e d (inl h) (inr k) = absurd (one.file_or_fault h.line h.column h.fault (file' d k) h.is_fault)
script_same IsFile IsFault one For For' file file' same e d (inr h) (inl k) = absurd (one.file_or_fault k.line k.column k.fault (file e h) k.is_fault)
script_same IsFile IsFault one For For' file file' same e d (inr h) (inr k) = same e d h k

-- what is so of the bytes of files, whoever reads them
pub record AreOneThing : Type 0 where
  pub modules : (ms : List ℕ) → Exclusive (IsModuleFile ms) (IsModuleFault ms)
  pub scripts : (ms ss : List ℕ) → Exclusive (IsScriptFile ms ss) (IsScriptFault ms ss)
  pub sessions : (ms ss : List ℕ) (turns : ℕ) (a b : Session) → EndsIn ms ss turns a → EndsIn ms ss turns b → a ≡ b
  pub codes : (os : List ℕ) (c d : RawCode) → IsObject os c → IsObject os d → c ≡ d
  pub objects : (os : List ℕ) (c : RawCode) → IsObject os c → (line : ℕ) (fault : ObjectFault) → IsObjectFault os line fault → ⊥
  pub scripts_over : (code : RawCode) (ss : List ℕ) → Exclusive (IsScriptOver code ss) (IsScriptFaultOver code ss)
  pub sessions_over : (code : RawCode) → first_fault code ≡ None → (ss : List ℕ) (turns : ℕ) (a b : Session) → CodeEndsIn code ss turns a → CodeEndsIn code ss turns b → a ≡ b

module _ (one : AreOneThing) (fetches : Fetches) where
  -- ---- run

  in_script : (ms ss : List ℕ) (turns : ℕ) (e d : Expected) → IsRefused (as_fetched fetches) Script (IsScriptFault ms ss) e ⊎ RunsScript (as_fetched fetches) ms ss turns e
      → IsRefused (as_held fetches.held) Script (IsScriptFault ms ss) d ⊎ RunsScript (as_held fetches.held) ms ss turns d → e.status ≡ d.status
  in_script ms ss turns e d h k = script_same (IsScriptFile ms ss) (IsScriptFault ms ss) (one.scripts ms ss) (RunsScript (as_fetched fetches) ms ss turns) (RunsScript (as_held fetches.held) ms ss turns)
      (λ e p. p.ends_in.script) (λ d p. p.ends_in.script) (λ e d p q. session_same p.session q.session e d (one.sessions ms ss turns p.session q.session p.ends_in q.ends_in) p.expected_is q.expected_is) e d h k

  in_module : (f : Files) → Stayed (fetches.before f.for_script) (fetches.after f.for_script) → (ms : List ℕ) (e d : Expected)
      → IsRefused (as_fetched fetches) Module (IsModuleFault ms) e ⊎ (IsModuleFile ms × ForScript (as_fetched fetches) (IsScriptFault ms) f.for_script (λ ss. RunsScript (as_fetched fetches) ms ss f.turns) e)
      → IsRefused (as_held fetches.held) Module (IsModuleFault ms) d ⊎ (IsModuleFile ms × ForScript (as_held fetches.held) (IsScriptFault ms) f.for_script (λ ss. RunsScript (as_held fetches.held) ms ss f.turns) d)
      → e.status ≡ d.status
  in_module f stayed ms e d (inl h) (inl k) = refused_same Module _ _ e d h k
  in_module f stayed ms e d (inl h) (inr k) = absurd ((one.modules ms).file_or_fault h.line h.column h.fault k.0 h.is_fault)
  in_module f stayed ms e d (inr h) (inl k) = absurd ((one.modules ms).file_or_fault k.line k.column k.fault h.0 k.is_fault)
  in_module f stayed ms e d (inr h) (inr k) = for_file_same fetches f.for_script stayed _ _ (λ ss x y. in_script ms ss f.turns x y) e d h.1 k.1

  run_same : (f : Files) → Stayed (fetches.before f.for_code) (fetches.after f.for_code) → Stayed (fetches.before f.for_script) (fetches.after f.for_script)
      → (e d : Expected) → ForRun (as_fetched fetches) f e → ForRun (as_held fetches.held) f d → e.status ≡ d.status
  run_same f sm ss e d h k = for_file_same fetches f.for_code sm _ _ (in_module f ss) e d h k

  -- ---- compile

  listed_same : (ms : List ℕ) (e d : Expected) → IsRefused (as_fetched fetches) Module (IsModuleFault ms) e ⊎ IsListed (as_fetched fetches) ms e
      → IsRefused (as_held fetches.held) Module (IsModuleFault ms) d ⊎ (IsModuleFile ms × (d.status ≡ Done)) → e.status ≡ d.status
  listed_same ms e d (inl h) (inl k) = refused_same Module _ _ e d h k
  listed_same ms e d (inl h) (inr k) = absurd ((one.modules ms).file_or_fault h.line h.column h.fault k.0 h.is_fault)
  listed_same ms e d (inr h) (inl k) = absurd ((one.modules ms).file_or_fault k.line k.column k.fault h.compiles.stands.file k.is_fault)
  listed_same ms e d (inr h) (inr k) = ap (λ (x : Expected). x.status) h.expected_is ∙ sym k.1

  compile_same : (name : List ℕ) → Stayed (fetches.before name) (fetches.after name) → (e d : Expected) → ForCompile (as_fetched fetches) name e → StatusForCompile (as_held fetches.held) name d → e.status ≡ d.status
  compile_same name stayed e d h k = for_file_same fetches name stayed _ _ listed_same e d h k

  -- ---- exec

  in_script_over : (code : RawCode) → first_fault code ≡ None → (turns : ℕ) (ss : List ℕ) (e d : Expected) → IsRefused (as_fetched fetches) Script (IsScriptFaultOver code ss) e ⊎ RunsScriptOver (as_fetched fetches) code ss turns e
      → IsRefused (as_held fetches.held) Script (IsScriptFaultOver code ss) d ⊎ RunsScriptOver (as_held fetches.held) code ss turns d → e.status ≡ d.status
  in_script_over code well_formed turns ss e d h k = script_same (IsScriptOver code ss) (IsScriptFaultOver code ss) (one.scripts_over code ss) (RunsScriptOver (as_fetched fetches) code ss turns) (RunsScriptOver (as_held fetches.held) code ss turns)
      (λ e p. record { commands = p.ends_in.commands; script = p.ends_in.script }) (λ d p. record { commands = p.ends_in.commands; script = p.ends_in.script })
      (λ e d p q. session_same p.session q.session e d (one.sessions_over code well_formed ss turns p.session q.session p.ends_in q.ends_in) p.expected_is q.expected_is) e d h k

  in_object : (f : Files) → Stayed (fetches.before f.for_script) (fetches.after f.for_script) → (os : List ℕ) (e d : Expected)
      → IsObjectRefused (as_fetched fetches) os e ⊎ IsOver (as_fetched fetches) f os e → IsObjectRefused (as_held fetches.held) os d ⊎ IsOver (as_held fetches.held) f os d → e.status ≡ d.status
  in_object f stayed os e d (inl h) (inl k) = ap (λ (x : Expected). x.status) h.expected_is ∙ sym (ap (λ (x : Expected). x.status) k.expected_is)
  in_object f stayed os e d (inl h) (inr k) = absurd (one.objects os k.code k.object h.line h.fault h.is_fault)
  in_object f stayed os e d (inr h) (inl k) = absurd (one.objects os h.code h.object k.line k.fault k.is_fault)
  in_object f stayed os e d (inr h) (inr k) =
      let for_script = subst (λ (c : RawCode). ForScript (as_held fetches.held) (IsScriptFaultOver c) f.for_script (λ ss. RunsScriptOver (as_held fetches.held) c ss f.turns) d) (one.codes os k.code h.code k.object h.object) k.for_script in
      for_file_same fetches f.for_script stayed _ _ (λ ss x y. in_script_over h.code h.object.well_formed f.turns ss x y) e d h.for_script for_script

  exec_same : (f : Files) → Stayed (fetches.before f.for_code) (fetches.after f.for_code) → Stayed (fetches.before f.for_script) (fetches.after f.for_script)
      → (e d : Expected) → ForExec (as_fetched fetches) f e → ForExec (as_held fetches.held) f d → e.status ≡ d.status
  exec_same f sm ss e d h k = for_file_same fetches f.for_code sm _ _ (in_object f ss) e d h k

  -- ---- gen

  summed_same : (calls : ℕ) (s u : Session) (e d : Expected) → s ≡ u → expected_at calls s s.end ≡ Some e → expected_at calls u u.end ≡ Some d → e.status ≡ d.status
  summed_same calls s u e d one h k = ap (λ (x : Expected). x.status) (same_Some e d (sym h ∙ ap (λ (x : Session). expected_at calls x x.end) one ∙ k))

  in_generated_script : (calls : ℕ) (e d : Expected) → IsRefused (as_fetched fetches) Script (IsScriptFault generated_module (generated_script calls)) e ⊎ IsSummed (as_fetched fetches) calls e
      → IsRefused (as_held fetches.held) Script (IsScriptFault generated_module (generated_script calls)) d ⊎ IsSummed (as_held fetches.held) calls d → e.status ≡ d.status
  in_generated_script calls e d h k = script_same (IsScriptFile generated_module (generated_script calls)) (IsScriptFault generated_module (generated_script calls)) (one.scripts generated_module (generated_script calls))
      (IsSummed (as_fetched fetches) calls) (IsSummed (as_held fetches.held) calls) (λ e p. p.ends_in.script) (λ d p. p.ends_in.script)
      (λ e d p q. summed_same calls p.session q.session e d (one.sessions generated_module (generated_script calls) generated_turns p.session q.session p.ends_in q.ends_in) p.expected_is q.expected_is) e d h k

  -- a generated script has a fault, or a session, only over a module file
  over_generated : (given : Given) (calls : ℕ) (e : Expected) → IsRefused given Script (IsScriptFault generated_module (generated_script calls)) e ⊎ IsSummed given calls e → IsModuleFile generated_module
  over_generated given calls e (inl h) = h.is_fault.over
  over_generated given calls e (inr h) = h.ends_in.script.over

  generate_same : (calls : ℕ) (e d : Expected) → ForGenerate (as_fetched fetches) calls e → ForGenerate (as_held fetches.held) calls d → e.status ≡ d.status
  generate_same calls e d (inl h) (inl k) = refused_same Module _ _ e d h k
  generate_same calls e d (inl h) (inr k) = absurd ((one.modules generated_module).file_or_fault h.line h.column h.fault (over_generated (as_held fetches.held) calls d k) h.is_fault)
  generate_same calls e d (inr h) (inl k) = absurd ((one.modules generated_module).file_or_fault k.line k.column k.fault (over_generated (as_fetched fetches) calls e h) k.is_fault)
  generate_same calls e d (inr h) (inr k) = in_generated_script calls e d h k

  -- ---- all commands

  abbrev IsFetched : List ℕ → Type 0
  IsFetched name = Stayed (fetches.before name) (fetches.after name)

  code_fetched : (f : Files) → All IsFetched (f.for_code ∷ f.for_script ∷ []) → IsFetched f.for_code
  code_fetched f fetched = All-head IsFetched f.for_code (f.for_script ∷ []) fetched

  script_fetched : (f : Files) → All IsFetched (f.for_code ∷ f.for_script ∷ []) → IsFetched f.for_script
  script_fetched f fetched = All-head IsFetched f.for_script [] (All-tail IsFetched f.for_code (f.for_script ∷ []) fetched)

  command_same : (command : Command) → AreFetched fetches command → (e d : Expected) → ForCommand (as_fetched fetches) command e → StatusFor (as_held fetches.held) command d → e.status ≡ d.status
  command_same (Run f) fetched e d h k = run_same f (code_fetched f fetched) (script_fetched f fetched) e d h k
  command_same (Compile name) fetched e d h k = compile_same name (All-head IsFetched name [] fetched) e d h k
  command_same (Exec f) fetched e d h k = exec_same f (code_fetched f fetched) (script_fetched f fetched) e d h k
  command_same (Generate calls) fetched e d h k = generate_same calls e d h k

  pub command_completes : (command : Command) (sunk : Sunk) (answer : Status) → CommandSays fetches command sunk answer → CommandCompletes fetches command sunk answer
  command_completes command sunk answer says = λ fetched. says_completes (ForCommand (as_fetched fetches) command) (StatusFor (as_held fetches.held) command) sunk answer (command_same command fetched) says
