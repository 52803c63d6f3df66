-- The commands that are made where the numbers of the procedures and the letters of the columns are at hand are those of the code.
use Rattle.std.proofs.Common.{◌≡◌, ℕ, zero, suc, ◌+◌, Bool, true, false, List, [], ◌∷◌, ◌++◌, Option, Some, ap, sym, ◌∙◌, subst, arith}
use Rattle.std.specs.Prelude.{slice_get, if◌then◌else◌}
use Rattle.std.specs.List.{All, AllByRecursion}
use Rattle.std.proofs.lemmas.List.{map_push}
use Rattle.std.proofs.lemmas.List.Elements.{recursion_from_All}
use Rattle.psm_code.specs.declared.code.RawCode.{RawCode}
use Rattle.psm_code.specs.declared.code.RawRoutine.{RawRoutine}
use Rattle.psm_meaning.specs.Session.{Command, Call, Insert, Select, Commit, Rollback}
use Rattle.psm_exprgen.specs.declared.known.Known.{Known}
use Rattle.psm_exprgen.specs.Written.{number_at}
use Rattle.psm_check_script.specs.Seen.{command_seen, commands_seen}
use Rattle.psm_check_script.specs.declared.command.ResolvedCommand.{ResolvedCommand}
use Rattle.psm_check_script.specs.There.{IsThere, procedures_in}
use Rattle.psm_session.specs.declared.command.ScriptCommand.{ScriptCommand}
use Rattle.psm_session.specs.declared.command.ScriptCommand.TheVariants as made
use Rattle.psm_script_code.specs.Lowered.{AllLowered, Lowered, procedure_numbers, routine_of}
use Rattle.psm_script_code.specs.Made.{CommandMade, CommandsMade, known_of_tables}

-- ---- procedures by their numbers

-- the routine that the procedure is, so far after the first one
abbrev StandsAt : ℕ → List RawRoutine → List ℕ → ℕ → RawRoutine → Type 0
StandsAt n rs numbers procedure r = (following : ℕ) × (slice_get numbers procedure ≡ Some (n + following)) × (slice_get rs following ≡ Some r)

stands_further : (n : ℕ) (x : RawRoutine) (rs : List RawRoutine) (numbers : List ℕ) (procedure : ℕ) (r : RawRoutine) → StandsAt (suc n) rs numbers procedure r → StandsAt n (x ∷ rs) numbers procedure r
stands_further n x rs numbers procedure r h = let on : suc n + h.0 ≡ n + suc h.0 = omega arith in (suc h.0, h.1 ∙ ap Some on, h.2)

stands_first : (n : ℕ) (x : RawRoutine) (rs : List RawRoutine) (numbers : List ℕ) (r : RawRoutine) → ◌≡◌ {A = Option RawRoutine} (Some x) (Some r) → StandsAt n (x ∷ rs) (n ∷ numbers) 0 r
stands_first n x rs numbers r h = let on : n ≡ n + 0 = omega arith in (0, ap Some on, h)

stands_at : (n : ℕ) (rs : List RawRoutine) (procedure : ℕ) (r : RawRoutine) → slice_get (procedures_in rs) procedure ≡ Some r → StandsAt n rs (procedure_numbers n rs) procedure r
stands_at n [] procedure r is = absurd cc
stands_at n (x ∷ rs) procedure r is = by x.is_function (λ p is. stands_further n x rs (procedure_numbers (suc n) rs) p r (stands_at (suc n) rs p r is)) procedure is
  where
    by : (b : Bool) → ((p : ℕ) → slice_get (procedures_in rs) p ≡ Some r → StandsAt n (x ∷ rs) (procedure_numbers (suc n) rs) p r) → (p : ℕ)
        → slice_get (if b then procedures_in rs else x ∷ procedures_in rs) p ≡ Some r
        → StandsAt n (x ∷ rs) (if b then procedure_numbers (suc n) rs else n ∷ procedure_numbers (suc n) rs) p r
    by true more p is = more p is
    by false more zero is = stands_first n x rs (procedure_numbers (suc n) rs) r is
    by false more (suc p) is = let m = more p is in (m.0, m.1, m.2)

procedure_is : (rs : List RawRoutine) (procedure : ℕ) (r : RawRoutine) → slice_get (procedures_in rs) procedure ≡ Some r → slice_get rs (routine_of (procedure_numbers 0 rs) procedure) ≡ slice_get (procedures_in rs) procedure
procedure_is rs procedure r is =
    let s = stands_at 0 rs procedure r is in
    let from : 0 + s.0 ≡ s.0 = omega arith in
    ap (λ o. slice_get rs (number_at o)) s.1 ∙ ap (slice_get rs) from ∙ s.2 ∙ sym is

-- ---- commands

one_made : (code : RawCode) (c : Command) (m : ScriptCommand) → IsThere code c → Lowered (known_of_tables code) (procedure_numbers 0 code.routines) c m → CommandMade code c m
one_made code (Call procedure values) (made.Call routine args) there h = (ap (slice_get code.routines) h.0 ∙ procedure_is code.routines procedure there.routine there.there, h.1)
one_made code (Insert table columns rows) (made.Insert at places values) there h = h
one_made code (Select query) (made.Select lines) there h = h
one_made code Commit made.Commit there h = tt
one_made code Rollback made.Rollback there h = tt
one_made code command other there h = absurd h

each_made : (code : RawCode) (cs : List Command) (ms : List ScriptCommand) → AllByRecursion (IsThere code) cs → AllLowered (known_of_tables code) (procedure_numbers 0 code.routines) cs ms → CommandsMade code cs ms
each_made code [] [] there h = tt
each_made code [] (m ∷ ms) there h = absurd h
each_made code (c ∷ cs) [] there h = absurd h
each_made code (c ∷ cs) (m ∷ ms) there h = (one_made code c m there.0 h.0, each_made code cs ms there.1 h.1)

pub all_made : (code : RawCode) (known : Known) (procedures : List ℕ) (cs : List Command) (ms : List ScriptCommand) → known ≡ known_of_tables code → procedures ≡ procedure_numbers 0 code.routines
    → All (IsThere code) cs → AllLowered known procedures cs ms → CommandsMade code cs ms
all_made code known procedures cs ms k p there h =
    each_made code cs ms (recursion_from_All (IsThere code) cs there)
    (subst (λ k. AllLowered k (procedure_numbers 0 code.routines) cs ms) k (subst (λ ns. AllLowered known ns cs ms) p h))

-- ---- one command more

more_lowered : (known : Known) (procedures : List ℕ) (cs : List Command) (ms : List ScriptCommand) (c : Command) (m : ScriptCommand) → AllLowered known procedures cs ms → Lowered known procedures c m
    → AllLowered known procedures (cs ++ c ∷ []) (ms ++ m ∷ [])
more_lowered known procedures [] [] c m h one = (one, tt)
more_lowered known procedures [] (y ∷ ms) c m h one = absurd h
more_lowered known procedures (x ∷ cs) [] c m h one = absurd h
more_lowered known procedures (x ∷ cs) (y ∷ ms) c m h one = (h.0, more_lowered known procedures cs ms c m h.1 one)

pub lowered_more : (known : Known) (procedures : List ℕ) (cs : List ResolvedCommand) (ms ns : List ScriptCommand) (c : ResolvedCommand) (m : ScriptCommand) → ns ≡ ms ++ m ∷ []
    → AllLowered known procedures (commands_seen cs) ms → Lowered known procedures (command_seen c) m → AllLowered known procedures (commands_seen (cs ++ c ∷ [])) ns
lowered_more known procedures cs ms ns c m is h one =
    subst (AllLowered known procedures (commands_seen (cs ++ c ∷ []))) (sym is)
    (subst (λ l. AllLowered known procedures l (ms ++ m ∷ [])) (sym (map_push command_seen cs c)) (more_lowered known procedures (commands_seen cs) ms (command_seen c) m h one))
