-- Where a well-typed statement may be done: at a place with its routine and the cursors that it sees, where the handlers in scope are well-typed.
use Rattle.std.specs.Prelude.{◌≡◌, ◌<◌, ℕ, List, [], ◌∷◌}
use Rattle.psm_meaning.specs.State.{EvalContext, Scope}
use Rattle.psm_typing.specs.TypingContext.{Each, TypingContext}
use Rattle.psm_typing.specs.Statements.{AreHandlers, IsCursor, StatementScope}

-- the levels of scopes, innermost first, become smaller, and are smaller than a bound
abbrev pub AreScopes : TypingContext → ℕ → List Scope → Type 0
AreScopes e bound [] = Unit {0}
AreScopes e bound (s ∷ outer) = (s.level < bound) × Each (IsCursor e) s.cursors × AreHandlers e s.level s.cursors s.handlers × AreScopes e s.level outer

pub record IsEvalContext (e : TypingContext) (s : StatementScope) (eval_context : EvalContext) : Type 0 where
  pub routine : eval_context.routine ≡ e.routine
  pub cursors : eval_context.cursors ≡ s.cursors
  pub known : Each (IsCursor e) s.cursors
  pub scopes : AreScopes e s.bound eval_context.scopes
