-- Commands one after another over code run what they mean, and so does a script.
use Rattle.std.proofs.Common.{arith, ◌≡◌, ◌≤◌, ◌+◌, ◌++◌, ℕ, suc, List, [], ◌∷◌, length, ap, ◌∙◌}
use Rattle.psm_resolved.specs.declared.file.ResolvedFile.{ResolvedFile}
use Rattle.psm_meaning.specs.Fuel.{fuel_for}
use Rattle.psm_meaning.specs.Meaning.{meaning}
use Rattle.psm_meaning.specs.Session.{Command, Standing, Went, commands_from, going_on}
use Rattle.psm_code.specs.declared.code.RawCode.{RawCode}
use Rattle.psm_simulation.specs.Simulation.{FileStands}
use Rattle.psm_typing.specs.Files.{IsWellTyped}
use Rattle.psm_session.specs.declared.command.ScriptCommand.{ScriptCommand}
use Rattle.psm_session.specs.CommandSteps.{CommandExecutes, Runs}
use Rattle.psm_session.specs.CommandSteps as going
use Rattle.psm_session_simulation.specs.Pieces.{following}
use Rattle.psm_session_simulation.specs.Standing.{CommandStands, CommandsStand}
use Rattle.psm_session_simulation.proofs.Commands.{command-does}
use Rattle.psm_session_simulation.proofs.Keeping.{IsKept}

-- what commands that run so leave to those after them
pub record Leave (file : ResolvedFile) (h turns k : ℕ) (s : Standing) (cs : List Command) (pieces : List (List ℕ)) (t : Standing) : Type 0 where
  pub same : (later : List Command) → commands_from file (meaning file h) k (cs ++ later) s ≡ following pieces (commands_from file (meaning file h) (k + length cs) later t)
  pub kept : IsKept file turns t

module _ (file : ResolvedFile) (code : RawCode) (stands : FileStands file code) (well_typed : IsWellTyped file) (h turns : ℕ) (enough : fuel_for file turns ≤ h) where
  leave-none : (k : ℕ) (s : Standing) → IsKept file turns s → Leave file h turns k s [] [] s
  leave-none k s kept = let none : k ≡ k + length {A = Command} [] = omega arith in record { same = λ later. ap (λ n. commands_from file (meaning file h) n later s) none; kept = kept }

  leave-next : (k : ℕ) (s t u : Standing) (c : Command) (d : ScriptCommand) (cs : List Command) (piece : List ℕ) (pieces : List (List ℕ)) → CommandStands file code c d → IsKept file turns s → CommandExecutes code k s d (Went piece t) → (IsKept file turns t → Leave file h turns (suc k) t cs pieces u)
      → Leave file h turns k s (c ∷ cs) (piece ∷ pieces) u
  leave-next k s t u c d cs piece pieces q kept g next =
      let one = command-does file code stands well_typed h turns enough k s kept.tables kept.left c d (Went piece t) q g in
      let others = next (one.kept kept.committed) in
      let as_many : suc k + length cs ≡ k + length (c ∷ cs) = omega arith in
      record {
        same = λ later.
            ap (λ p. going_on s p (commands_from file (meaning file h) (suc k) (cs ++ later))) one.same
            ∙ ap (λ rest. following (piece ∷ []) rest) (others.same later)
            ∙ ap (λ n. following (piece ∷ pieces) (commands_from file (meaning file h) n later u)) as_many;
        kept = others.kept;
      }

  pub leaves : (k : ℕ) (s t : Standing) (cs : List Command) (ds : List ScriptCommand) (pieces : List (List ℕ)) → CommandsStand file code cs ds → IsKept file turns s → Runs code k s ds pieces t → Leave file h turns k s cs pieces t
  leaves k s t [] [] pieces q kept going.none = leave-none k s kept
  leaves k s t [] (d ∷ ds) pieces q kept p = absurd q
  leaves k s t (c ∷ cs) [] pieces q kept p = absurd q
  leaves k s u (c ∷ cs) (d ∷ ds) pieces q kept (going.next {t = t} {piece = piece} {pieces = others} g rest) = leave-next k s t u c d cs piece others q.0 kept g (λ after. leaves (suc k) t u cs ds others q.1 after rest)
