-- What is expected for the files of a command, from the steps by which they are read.
use Rattle.std.proofs.Common.{◌≡◌, ℕ, List, Option, Some, None, Result, Ok, Err, refl, sym, ◌∙◌, subst, inl, inr}
use Rattle.std.specs.Prelude.{◌⊎◌, IfSome}
use Rattle.psm_io.specs.Count.{Rose}
use Rattle.psm_code.specs.declared.code.RawCode.{RawCode}
use Rattle.psm_session.specs.declared.command.ScriptCode.{ScriptCode}
use Rattle.psm_faults.specs.declared.fault.Fault.{Fault}
use Rattle.psm_faults.specs.declared.fault.BuildFault.{BuildFault}
use Rattle.psm_faults.specs.declared.fault.BuildFault.TheVariants as builds
use Rattle.psm_build.specs.Building.{Builds, BuildsScript}
use Rattle.psm_build.specs.ModuleCode.{IsScriptFaultOver}
use Rattle.psm_build.specs.Program.{IsModuleFault, StandsFor}
use Rattle.psm_files.specs.Expected.{Expected}
use Rattle.psm_files.specs.Fetches.{Fetches, IsRead, IsUnread, NoneFailed, AreHeld}
use Rattle.psm_files.specs.Given.{ForFile, Given, as_fetched}
use Rattle.psm_load.specs.Loading.{IsObject, Loads}
use Rattle.psm_load.specs.declared.fault.LoadFault.{LoadFault}
use Rattle.psm_load.specs.declared.fault.LoadFault.TheVariants as loads
use Rattle.psm_commands.specs.Reading.{Gives, GivesBytes, GivesModule, GivesObject, GivesScript, IsFaultOf, IsFaultOfObject, IsScriptBy, Makes, expected_of, refusal_of, refusal_of_load}
use Rattle.psm_commands.specs.Sources.{ForScript, IsObjectRefused, IsRefused, with_refusal}
use Rattle.psm_commands.specs.declared.source.Which.{Which}
use Rattle.psm_commands.specs.declared.source.Which.TheVariants.{Module, Script}
use Rattle.psm_commands.specs.declared.source.Refusal.{Refusal}
use Rattle.psm_commands.specs.declared.source.Refusal.TheVariants as refusal
use Rattle.psm_commands.proofs.Fetched.{for_file_weaker}

-- ---- why nothing is made of bytes

pub module_refused_by : (ms : List ℕ) (fault : BuildFault) → Builds ms (Err fault) → IsFaultOf Module (IsModuleFault ms) (refusal_of Module fault)
module_refused_by ms (builds.Refused line column fault) h = (refl, h)
module_refused_by ms builds.Memory h = tt

pub script_refused_by : (code : RawCode) (ss : List ℕ) (fault : BuildFault) → BuildsScript code ss (Err fault) → IsFaultOf Script (IsScriptFaultOver code ss) (refusal_of Script fault)
script_refused_by code ss (builds.Refused line column fault) h = (refl, h)
script_refused_by code ss builds.Memory h = tt

pub object_refused_by : (os : List ℕ) (fault : LoadFault) → Loads os (Err fault) → IsFaultOfObject os (refusal_of_load fault)
object_refused_by os (loads.Refused line fault) h = h
object_refused_by os loads.Memory h = tt

-- ---- what is made of a file

-- a fetch that gives no bytes
pub unread : {A : Type 0} (fetches : Fetches) (name : List ℕ) (Is : List ℕ → A → Type 0) (IsDue : List ℕ → Expected → Type 0) (e : Refusal) → GivesBytes fetches name (Err e) → Gives fetches name Is IsDue (Err e)
unread fetches name Is IsDue refusal.Unread h = inl (record { fails = h; expected_is = refl })
unread fetches name Is IsDue refusal.TooLong h = inr (inl (record { bytes = h.bytes; gives = h.contents; long = h.long; none_fails = h.none_failed; expected_is = refl }))
unread fetches name Is IsDue (refusal.Refused w line column fault) h = absurd h
unread fetches name Is IsDue (refusal.NoObject line fault) h = absurd h
unread fetches name Is IsDue refusal.Memory h = tt

module _ (fetches : Fetches) (name bytes : List ℕ) (read : IsRead fetches name bytes) where
  in_file : (IsDue : List ℕ → Expected → Type 0) (o : Option Expected) → IfSome o (IsDue bytes) → IfSome o (ForFile (as_fetched fetches) name IsDue)
  in_file IsDue None h = tt
  in_file IsDue (Some e) h = inr (inr (record { bytes = bytes; gives = read.contents; short = read.short; for_bytes = h }))

  -- the bytes were read, and for each reason that is expected for which nothing is made of them
  made : {A : Type 0} (Is : List ℕ → A → Type 0) (IsDue : List ℕ → Expected → Type 0) (IsReason : Refusal → Type 0) → ((e : Refusal) → IsReason e → IfSome (expected_of name e) (IsDue bytes))
      → (answer : Result A Refusal) → Makes (Is bytes) IsReason answer → Gives fetches name Is IsDue answer
  made Is IsDue IsReason due (Ok a) h = record { bytes = bytes; read = read; is = h }
  made Is IsDue IsReason due (Err e) h = in_file IsDue (expected_of name e) (due e h)

  fault_due : (w : Which) (IsFault : ℕ → ℕ → Fault → Type 0) (e : Refusal) → IsFaultOf w IsFault e → IfSome (expected_of name e) (IsRefused (as_fetched fetches) w IsFault)
  fault_due w IsFault refusal.Unread h = absurd h
  fault_due w IsFault refusal.TooLong h = absurd h
  fault_due w IsFault (refusal.Refused v line column fault) h = subst (λ (x : Which). IsRefused (as_fetched fetches) w IsFault (with_refusal x line column fault)) (sym h.0)
      (record { line = line; column = column; fault = fault; is_fault = h.1; none_fails = read.none_failed; expected_is = refl })
  fault_due w IsFault (refusal.NoObject line fault) h = absurd h
  fault_due w IsFault refusal.Memory h = tt

  object_fault_due : (e : Refusal) → IsFaultOfObject bytes e → IfSome (expected_of name e) (IsObjectRefused (as_fetched fetches) bytes)
  object_fault_due refusal.Unread h = absurd h
  object_fault_due refusal.TooLong h = absurd h
  object_fault_due (refusal.Refused w line column fault) h = absurd h
  object_fault_due (refusal.NoObject line fault) h = record { line = line; fault = fault; is_fault = h; none_fails = read.none_failed; expected_is = refl }
  object_fault_due refusal.Memory h = tt

  pub module_read : (answer : Result RawCode Refusal) → Makes (StandsFor bytes) (IsFaultOf Module (IsModuleFault bytes)) answer → GivesModule fetches name answer
  module_read answer h = made StandsFor (λ ms. IsRefused (as_fetched fetches) Module (IsModuleFault ms)) (IsFaultOf Module (IsModuleFault bytes)) (fault_due Module (IsModuleFault bytes)) answer h

  pub object_read : (answer : Result RawCode Refusal) → Makes (IsObject bytes) (IsFaultOfObject bytes) answer → GivesObject fetches name answer
  object_read answer h = made IsObject (IsObjectRefused (as_fetched fetches)) (IsFaultOfObject bytes) object_fault_due answer h

  pub script_read : (code : RawCode) (answer : Result ScriptCode Refusal) → Makes (IsScriptBy code bytes) (IsFaultOf Script (IsScriptFaultOver code bytes)) answer → GivesScript fetches code name answer
  script_read code answer h =
      made (IsScriptBy code) (λ ss. IsRefused (as_fetched fetches) Script (IsScriptFaultOver code ss)) (IsFaultOf Script (IsScriptFaultOver code bytes)) (fault_due Script (IsScriptFaultOver code bytes)) answer h

-- ---- a file of which nothing is made decides, whatever is expected of one of which something is

pub decides : (given : Given) (name : List ℕ) (IsDue For : List ℕ → Expected → Type 0) (o : Option Expected) → IfSome o (ForFile given name IsDue) → IfSome o (ForFile given name (λ bytes e. IsDue bytes e ⊎ For bytes e))
decides given name IsDue For None h = tt
decides given name IsDue For (Some e) h = for_file_weaker given name IsDue (λ bytes e. IsDue bytes e ⊎ For bytes e) (λ bytes x k. inl k) e h

-- ---- two fetches, one after the other

-- the fetches of one step
abbrev pub between : (List ℕ → Option (List ℕ)) → (List ℕ → ℕ) → (List ℕ → ℕ) → Fetches
between held before after = record { held = held; before = before; after = after }

module _ (held held' : List ℕ → Option (List ℕ)) (before mid after : List ℕ → ℕ) (same : (n : List ℕ) → held' n ≡ held n) (first : NoneFailed (between held before mid)) where
  pub both_stay : NoneFailed (between held' mid after) → NoneFailed (between held before after)
  both_stay second n = second n ∙ first n

  -- what the second fetch says, seen from the beginning
  unread_from : (name : List ℕ) → IsUnread (between held' mid after) name → IsUnread (between held before after) name
  unread_from name h = record {
    rose = subst (λ (n : ℕ). Rose n (after name)) (first name) h.rose;
    others = λ other n. h.others other n ∙ first other;
  }

  pub held_from : (name bytes : List ℕ) → AreHeld (held' name) bytes → AreHeld (held name) bytes
  held_from name bytes h = subst (λ (o : Option (List ℕ)). AreHeld o bytes) (same name) h

  -- a script that is refused decides, where its fault over the code is one of those that are asked for
  module _ (IsFault IsFault' : List ℕ → ℕ → ℕ → Fault → Type 0) (faults : (ss : List ℕ) (l c : ℕ) (f : Fault) → IsFault ss l c f → IsFault' ss l c f) where
    refused_from : (ss : List ℕ) (e : Expected) → IsRefused (as_fetched (between held' mid after)) Script (IsFault ss) e → IsRefused (as_fetched (between held before after)) Script (IsFault' ss) e
    refused_from ss e h = record {
      line = h.line;
      column = h.column;
      fault = h.fault;
      is_fault = faults ss h.line h.column h.fault h.is_fault;
      none_fails = both_stay h.none_fails;
      expected_is = h.expected_is;
    }

    pub script_decides : (name : List ℕ) (For : List ℕ → Expected → Type 0) (e : Expected)
        → ForFile (as_fetched (between held' mid after)) name (λ ss. IsRefused (as_fetched (between held' mid after)) Script (IsFault ss)) e → ForScript (as_fetched (between held before after)) IsFault' name For e
    script_decides name For e (inl h) = inl (record { fails = unread_from name h.fails; expected_is = h.expected_is })
    script_decides name For e (inr (inl h)) = inr (inl (record {
      bytes = h.bytes;
      gives = held_from name h.bytes h.gives;
      long = h.long;
      none_fails = both_stay h.none_fails;
      expected_is = h.expected_is;
    }))
    script_decides name For e (inr (inr h)) = inr (inr (record {
      bytes = h.bytes;
      gives = held_from name h.bytes h.gives;
      short = h.short;
      for_bytes = inl (refused_from h.bytes e h.for_bytes);
    }))
