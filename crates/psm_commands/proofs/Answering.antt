-- The causes of the answer, from what was read of the files and what was put.
use Rattle.std.proofs.Common.{◌≡◌, ℕ, List, Option, Some, None, Err, refl, sym, ap, subst, inl, inr}
use Rattle.std.specs.Prelude.{◌⊎◌, IfSome}
use Rattle.psm_code.specs.declared.code.RawCode.{RawCode}
use Rattle.psm_meaning.specs.Acts.{NoTurns, OutOfFuel, Stuck}
use Rattle.psm_meaning.specs.Session.{Session, End, Cut, Done}
use Rattle.psm_object.specs.Listing.{listing}
use Rattle.psm_session.specs.Put.{Sunk, PutFirst, PutSome}
use Rattle.psm_session.specs.declared.command.ScriptCode.{ScriptCode}
use Rattle.psm_faults.specs.declared.fault.Fault.{Fault}
use Rattle.psm_build.specs.ModuleCode.{IsScriptFaultOver, MeansModule}
use Rattle.psm_build.specs.Once.{IsEnd}
use Rattle.psm_build.specs.Program.{EndsIn, IsModuleFault, IsScriptFault, StandsFor, session_of}
use Rattle.psm_code_session.specs.CodeSession.{CodeEndsIn, EndIn}
use Rattle.psm_files.specs.Answer.{IsPut, IsPutInPart, IsCut, RunsOut, PutsLine, Says}
use Rattle.psm_files.specs.Expected.{Expected, with_line}
use Rattle.psm_files.specs.Fetches.{Fetches, IsRead, NoneFailed}
use Rattle.psm_files.specs.Given.{ForFile, as_fetched}
use Rattle.psm_files.specs.declared.status.Status.{Status}
use Rattle.psm_files.specs.declared.status.Status.TheVariants as status
use Rattle.psm_load.specs.Loading.{IsObject}
use Rattle.psm_commands.specs.Command.{Files}
use Rattle.psm_commands.specs.Compile.{ForCompile}
use Rattle.psm_commands.specs.Exec.{ForExec, RunsScriptOver}
use Rattle.psm_commands.specs.Reading.{GivesModule, GivesObject, GivesScript, IsMade, IsScriptBy, expected_of}
use Rattle.psm_commands.specs.Report.{Reports, Runs}
use Rattle.psm_commands.specs.Run.{ForRun, RunsScript, expected_for_session, status_at, with_status}
use Rattle.psm_commands.specs.Sources.{ForModule, ForObject, ForScript, IsObjectRefused, IsRefused}
use Rattle.psm_commands.specs.declared.source.Refusal.{Refusal}
use Rattle.psm_commands.specs.declared.source.Refusal.TheVariants as refusal
use Rattle.psm_commands.specs.declared.source.Which.TheVariants.{Module, Script}
use Rattle.psm_commands.proofs.Reading.{between, both_stay, decides, script_decides, held_from}

-- ---- lines

-- the same line
pub puts_same : (line line' : List ℕ) (expected_status : Status) (sunk : Sunk) (answer : Status) → line ≡ line' → PutsLine (with_line expected_status line) sunk answer → PutsLine (with_line expected_status line') sunk answer
puts_same line line' expected_status sunk answer e puts = subst (λ (l : List ℕ). PutsLine (with_line expected_status l) sunk answer) e puts

-- a line that is expected is put, or a put failed, or memory ran out
pub says_line : (IsExpected : Expected → Type 0) (expected : Expected) (sunk : Sunk) (answer : Status) → IsExpected expected → PutsLine expected sunk answer → Says IsExpected sunk answer
says_line IsExpected expected sunk answer is (inl p) = inl (record { expected = expected; cause = is; put = inl p })
says_line IsExpected expected sunk answer is (inr (inl p)) = inl (record { expected = expected; cause = is; put = inr (inl p) })
says_line IsExpected expected sunk answer is (inr (inr p)) = inr p

-- the line of a refusal is the one that is expected
pub says_refusal : (IsExpected : Expected → Type 0) (name : List ℕ) (r : Refusal) (sunk : Sunk) (answer : Status) → IfSome (expected_of name r) IsExpected → Reports r name sunk answer → Says IsExpected sunk answer
says_refusal IsExpected name refusal.Unread sunk answer is puts = says_line IsExpected _ sunk answer is puts
says_refusal IsExpected name refusal.TooLong sunk answer is puts = says_line IsExpected _ sunk answer is puts
says_refusal IsExpected name (refusal.Refused w line column fault) sunk answer is puts = says_line IsExpected _ sunk answer is puts
says_refusal IsExpected name (refusal.NoObject line fault) sunk answer is puts = says_line IsExpected _ sunk answer is puts
says_refusal IsExpected name refusal.Memory sunk answer is puts = inr puts

-- ---- sessions

-- something is expected for a session: the pieces that it prints, with a status
record Due (s : Session) : Type 0 where
  expected : Expected
  expected_is : expected_for_session s ≡ Some expected
  pieces : expected.pieces ≡ s.pieces

session_due : (s : Session) → IsEnd s.end → Due s
session_due s ends = by s.end refl ends
  where
    by : (e : End) → s.end ≡ e → IsEnd e → Due s
    by Done is h = record { expected = record { status = status.Done; pieces = s.pieces }; expected_is = ap (λ (x : End). with_status s.pieces (status_at x)) is; pieces = refl }
    by (Cut NoTurns) is h = record { expected = record { status = status.TurnsUsed; pieces = s.pieces }; expected_is = ap (λ (x : End). with_status s.pieces (status_at x)) is; pieces = refl }
    by (Cut OutOfFuel) is h = absurd h
    by (Cut Stuck) is h = absurd h

-- something is expected for a session that ends
pub session_expected : (s : Session) → IsEnd s.end → (expected : Expected) × (expected_for_session s ≡ Some expected)
session_expected s ends = let d = session_due s ends in (d.expected, d.expected_is)

-- what a session leaves is what is put for it
record Ran (s : Session) (sunk : Sunk) (answer : Status) : Type 0 where
  expected : Expected
  expected_is : expected_for_session s ≡ Some expected
  put : IsPut expected sunk answer ⊎ IsPutInPart expected sunk answer ⊎ IsCut expected sunk answer

ran : (s : Session) (sunk : Sunk) (answer : Status) → IsEnd s.end → Runs s sunk answer → Ran s sunk answer
ran s sunk status.Done ends r = record {
  expected = record { status = status.Done; pieces = s.pieces };
  expected_is = ap (λ (x : End). with_status s.pieces (status_at x)) r.0;
  put = inl (record { answer_is = refl; put = r.1 });
}
ran s sunk status.TurnsUsed ends r = record {
  expected = record { status = status.TurnsUsed; pieces = s.pieces };
  expected_is = ap (λ (x : End). with_status s.pieces (status_at x)) r.0;
  put = inl (record { answer_is = refl; put = r.1 });
}
ran s sunk status.WriteFault ends r =
    let d = session_due s ends in
    record { expected = d.expected; expected_is = d.expected_is; put = inr (inl (record { answer_is = refl; put = subst (PutSome sunk) (sym d.pieces) r })) }
ran s sunk status.Memory ends r =
    let d = session_due s ends in
    record { expected = d.expected; expected_is = d.expected_is; put = inr (inr (record { answer_is = refl; put = subst (PutFirst sunk) (sym d.pieces) r })) }
ran s sunk status.Usage ends r = absurd r
ran s sunk status.ReadFault ends r = absurd r
ran s sunk status.ModuleRefused ends r = absurd r
ran s sunk status.ScriptRefused ends r = absurd r
ran s sunk status.ObjectRefused ends r = absurd r
ran s sunk status.TooLong ends r = absurd r

-- a session is run, for which that is expected
says_session : (IsExpected : Expected → Type 0) (s : Session) (sunk : Sunk) (answer : Status) → IsEnd s.end → ((expected : Expected) → expected_for_session s ≡ Some expected → IsExpected expected) → Runs s sunk answer
    → Says IsExpected sunk answer
says_session IsExpected s sunk answer ends due runs =
    let r = ran s sunk answer ends runs in
    inl (record { expected = r.expected; cause = due r.expected r.expected_is; put = r.put })

-- ---- the file that gives code

pub says_module : (fetches : Fetches) (name : List ℕ) (For : List ℕ → Expected → Type 0) (r : Refusal) (sunk : Sunk) (answer : Status) → GivesModule fetches name (Err r) → Reports r name sunk answer
    → Says (ForModule (as_fetched fetches) name For) sunk answer
says_module fetches name For r sunk answer h puts =
    says_refusal (ForModule (as_fetched fetches) name For) name r sunk answer (decides (as_fetched fetches) name (λ ms. IsRefused (as_fetched fetches) Module (IsModuleFault ms)) For (expected_of name r) h) puts

pub says_object : (fetches : Fetches) (name : List ℕ) (For : List ℕ → Expected → Type 0) (r : Refusal) (sunk : Sunk) (answer : Status) → GivesObject fetches name (Err r) → Reports r name sunk answer
    → Says (ForObject (as_fetched fetches) name For) sunk answer
says_object fetches name For r sunk answer h puts =
    says_refusal (ForObject (as_fetched fetches) name For) name r sunk answer (decides (as_fetched fetches) name (IsObjectRefused (as_fetched fetches)) For (expected_of name r) h) puts

-- ---- the script over it

module _ (held held' : List ℕ → Option (List ℕ)) (before mid after : List ℕ → ℕ) (f : Files) (code : RawCode) (sunk : Sunk) (answer : Status) (same : (n : List ℕ) → held' n ≡ held n) where
  -- what is expected of a script that is refused is expected of both files
  refusal_over : (first : NoneFailed (between held before mid)) (IsFault' : List ℕ → ℕ → ℕ → Fault → Type 0) → ((ss : List ℕ) (l c : ℕ) (g : Fault) → IsScriptFaultOver code ss l c g → IsFault' ss l c g)
      → (For : List ℕ → Expected → Type 0) (IsExpected : Expected → Type 0) → ((e : Expected) → ForScript (as_fetched (between held before after)) IsFault' f.for_script For e → IsExpected e)
      → (r : Refusal) → GivesScript (between held' mid after) code f.for_script (Err r) → Reports r f.for_script sunk answer → Says IsExpected sunk answer
  refusal_over first IsFault' faults For IsExpected over r h puts = says_refusal IsExpected f.for_script r sunk answer (by (expected_of f.for_script r) h) puts
    where
      by : (o : Option Expected) → IfSome o (ForFile (as_fetched (between held' mid after)) f.for_script (λ ss. IsRefused (as_fetched (between held' mid after)) Script (IsScriptFaultOver code ss))) → IfSome o IsExpected
      by None k = tt
      by (Some e) k = over e (script_decides held held' before mid after same first (IsScriptFaultOver code) IsFault' faults f.for_script For e k)

  -- a file that was read, seen from the beginning
  for_read : (first : NoneFailed (between held before mid)) (ss : List ℕ) → IsRead (between held' mid after) f.for_script ss → (For : List ℕ → Expected → Type 0) (e : Expected) → For ss e
      → ForFile (as_fetched (between held before after)) f.for_script For e
  for_read first ss read For e h = inr (inr (record { bytes = ss; gives = held_from held held' before mid after same first f.for_script ss read.contents; short = read.short; for_bytes = h }))

  -- ---- run

  module _ (first : IsMade (between held before mid) f.for_code StandsFor code) (means : MeansModule first.bytes code) where
    over_module : (expected : Expected) → ForScript (as_fetched (between held before after)) (IsScriptFault first.bytes) f.for_script (λ ss. RunsScript (as_fetched (between held before after)) first.bytes ss f.turns) expected
        → ForRun (as_fetched (between held before after)) f expected
    over_module expected h = inr (inr (record { bytes = first.bytes; gives = first.read.contents; short = first.read.short; for_bytes = inr (first.is.file, h) }))

    pub run_refuses : (r : Refusal) → GivesScript (between held' mid after) code f.for_script (Err r) → Reports r f.for_script sunk answer → Says (ForRun (as_fetched (between held before after)) f) sunk answer
    run_refuses r h puts = refusal_over first.read.none_failed (IsScriptFault first.bytes) means.fault_over_file (λ ss. RunsScript (as_fetched (between held before after)) first.bytes ss f.turns)
        (ForRun (as_fetched (between held before after)) f) over_module r h puts

    pub run_runs : (script : ScriptCode) (second : IsMade (between held' mid after) f.for_script (IsScriptBy code) script) → ((ms ss : List ℕ) (turns : ℕ) (s : Session) → EndsIn ms ss turns s → IsEnd s.end)
        → Runs (session_of (means.runs second.bytes script.commands second.is).script f.turns) sunk answer → Says (ForRun (as_fetched (between held before after)) f) sunk answer
    run_runs script second ends runs =
        let over = means.runs second.bytes script.commands second.is in
        let s = session_of over.script f.turns in
        let in_session : EndsIn first.bytes second.bytes f.turns s = record { script = over.script; session_is = refl } in
        let none = both_stay held held' before mid after same first.read.none_failed second.read.none_failed in
        says_session (ForRun (as_fetched (between held before after)) f) s sunk answer (ends first.bytes second.bytes f.turns s in_session)
        (λ expected e. over_module expected (for_read first.read.none_failed second.bytes second.read _ expected (inr (record { session = s; ends_in = in_session; none_fails = none; expected_is = e })))) runs

  -- ---- exec

  module _ (first : IsMade (between held before mid) f.for_code IsObject code) where
    over_object : (expected : Expected) → ForScript (as_fetched (between held before after)) (IsScriptFaultOver code) f.for_script (λ ss. RunsScriptOver (as_fetched (between held before after)) code ss f.turns) expected
        → ForExec (as_fetched (between held before after)) f expected
    over_object expected h = inr (inr (record { bytes = first.bytes; gives = first.read.contents; short = first.read.short; for_bytes = inr (record { code = code; object = first.is; for_script = h }) }))

    pub exec_refuses : (r : Refusal) → GivesScript (between held' mid after) code f.for_script (Err r) → Reports r f.for_script sunk answer → Says (ForExec (as_fetched (between held before after)) f) sunk answer
    exec_refuses r h puts = refusal_over first.read.none_failed (IsScriptFaultOver code) (λ ss l c g k. k) (λ ss. RunsScriptOver (as_fetched (between held before after)) code ss f.turns)
        (ForExec (as_fetched (between held before after)) f) over_object r h puts

    pub exec_runs : (script : ScriptCode) (second : IsMade (between held' mid after) f.for_script (IsScriptBy code) script) (s : Session) → EndIn code script.commands f.turns s → IsEnd s.end
        → Runs s sunk answer → Says (ForExec (as_fetched (between held before after)) f) sunk answer
    exec_runs script second s has ends runs =
        let in_session : CodeEndsIn code second.bytes f.turns s = record { commands = script.commands; script = second.is; session = has } in
        let none = both_stay held held' before mid after same first.read.none_failed second.read.none_failed in
        says_session (ForExec (as_fetched (between held before after)) f) s sunk answer ends
        (λ expected e. over_object expected (for_read first.read.none_failed second.bytes second.read _ expected (inr (record { session = s; ends_in = in_session; none_fails = none; expected_is = e })))) runs

-- ---- compile

pub says_listing : (fetches : Fetches) (name : List ℕ) (code : RawCode) (sunk : Sunk) (answer : Status) → (h : IsMade fetches name StandsFor code) → MeansModule h.bytes code
    → PutsLine (with_line status.Done (listing code)) sunk answer → Says (ForCompile (as_fetched fetches) name) sunk answer
says_listing fetches name code sunk answer h means puts =
    says_line (ForCompile (as_fetched fetches) name) (with_line status.Done (listing code)) sunk answer
    (inr (inr (record {
      bytes = h.bytes;
      gives = h.read.contents;
      short = h.read.short;
      for_bytes = inr (record {
        text = listing code;
        compiles = record { code = code; stands = h.is; means = means; text_is = refl };
        none_fails = h.read.none_failed;
        expected_is = refl;
      });
    })))
    puts
