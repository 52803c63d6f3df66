-- The session of two files ends after its last command, or where the turns run out.
use Rattle.std.proofs.Common.{◌≡◌, ℕ, List, refl, sym, ap, subst, arith}
use Rattle.psm_meaning.specs.Acts.{NoTurns, OutOfFuel, Stuck}
use Rattle.psm_meaning.specs.Fuel.{fuel_for}
use Rattle.psm_meaning.specs.Session.{End, Cut, Done, Session}
use Rattle.psm_meaning.proofs.EnoughSession.{session-enough}
use Rattle.psm_wellformed.proofs.WellTyped.{well_typed-file}
use Rattle.psm_wellformed.specs.Files.{WellFormedFile}
use Rattle.psm_typing.proofs.Scripting.{session-well_typed}
use Rattle.psm_script_code.proofs.WellTyped.{commands_well_typed}
use Rattle.psm_build.specs.Once.{IsEnd}
use Rattle.psm_build.specs.Program.{EndsIn, IsScriptFile, commands_of, file_of, session_of}
use Rattle.psm_build.proofs.Compiled.{read_script_stands, tree_is_well_formed}

ends_so : (end : End) → (end ≡ Cut OutOfFuel → ⊥) → (end ≡ Cut Stuck → ⊥) → IsEnd end
ends_so Done h l = tt
ends_so (Cut NoTurns) h l = tt
ends_so (Cut OutOfFuel) h l = absurd (h refl)
ends_so (Cut Stuck) h l = absurd (l refl)

module _ (ms ss : List ℕ) (script : IsScriptFile ms ss) (turns : ℕ) where
  well_formed : WellFormedFile (file_of script.over)
  well_formed = tree_is_well_formed ms script.over.tree script.over.tree_is script.over.accepted

  script_ends : IsEnd (session_of script turns).end
  script_ends =
      ends_so (session_of script turns).end
      (session-enough (file_of script.over) (fuel_for (file_of script.over) turns) (commands_of script) turns (omega arith))
      (session-well_typed (file_of script.over) (well_typed-file (file_of script.over) well_formed) (fuel_for (file_of script.over) turns) (commands_of script) turns
      (commands_well_typed (file_of script.over) well_formed script.tree (read_script_stands ss script.tree script.tree_is) script.accepted))

pub session_ends : (ms ss : List ℕ) (turns : ℕ) (s : Session) → EndsIn ms ss turns s → IsEnd s.end
session_ends ms ss turns s c = subst (λ (x : Session). IsEnd x.end) (sym c.session_is) (script_ends ms ss c.script turns)
