-- What more fuel does to a meaning: nothing, where the fuel was enough.
use Rattle.std.specs.Prelude.{◌≡◌, ◌⊎◌}
use Rattle.psm_resolved.specs.declared.expr.ResolvedExpr.{ResolvedExpr}
use Rattle.psm_meaning.specs.State.{State, EvalContext}
use Rattle.psm_meaning.specs.Session.{Session, Cut}
use Rattle.psm_meaning.specs.Acts.{Ends, Stopped, OutOfFuel, Evaluated, Done, Task, Meaning}

-- the fuel was not enough for the first, or the two are the same
abbrev pub Same : {A : Type 0} → Evaluated A → Evaluated A → Type 0
Same r s = (r.given ≡ Ends OutOfFuel) ⊎ (r ≡ s)

abbrev pub SameEnd : Done → Done → Type 0
SameEnd r s = (r.outcome ≡ Stopped OutOfFuel) ⊎ (r ≡ s)

-- wherever the fuel was enough for the first meaning, the second is the same
pub record Fits (m n : Meaning) : Type 0 where
  pub value : (e : ResolvedExpr) (st : State) → Same (m.value e st) (n.value e st)
  pub done : (t : Task) (eval_context : EvalContext) (st : State) → SameEnd (m.done t eval_context st) (n.done t eval_context st)

-- the same of sessions
abbrev pub SameSession : Session → Session → Type 0
SameSession r s = (r.end ≡ Cut OutOfFuel) ⊎ (r ≡ s)
