-- What the resolver knows where an expression stands, as it is known apart from it: a variable by its slot, and a condition by what
-- stands for it.
use Rattle.std.specs.Prelude.{ℕ, map}
use Rattle.psm_scope.specs.Scopes.{Declared, Scope, Routine, Compound, Loop, For, Action}
use Rattle.psm_scope.specs.declared.known.Variable.{Variable}
use Rattle.psm_scope.specs.declared.known.DeclaredCondition.{DeclaredCondition}
use Rattle.psm_resolved.specs.declared.statement.ResolvedCondition.{ResolvedCondition}
use Rattle.psm_resolve_expr.specs.ResolverScope.{ResolverScope, Scopes}
use Rattle.psm_resolve.specs.Statements.{state_or_number}
use Rattle.psm_names.specs.Occurrences.{EnclosingScopes, KnownVariable, Site}

abbrev pub variable_known : Variable → KnownVariable
variable_known v = record { ordinal = v.slot; kind = v.kind }

abbrev pub condition_known : DeclaredCondition → ResolvedCondition
condition_known c = state_or_number c.state c.number

abbrev pub declared_known : Declared Variable DeclaredCondition ℕ → Declared KnownVariable ResolvedCondition ℕ
declared_known d = record { variables = map (λ p. (p.0, variable_known p.1)) d.variables; conditions = map (λ p. (p.0, condition_known p.1)) d.conditions; cursors = d.cursors }

abbrev pub scope_known : Scope Variable DeclaredCondition ℕ → Scope KnownVariable ResolvedCondition ℕ
scope_known (Routine name d) = Routine name (declared_known d)
scope_known (Compound label d) = Compound label (declared_known d)
scope_known (Loop label) = Loop label
scope_known (For label name d) = For label name (declared_known d)
scope_known Action = Action

abbrev pub known : Scopes → EnclosingScopes
known scopes = map scope_known scopes

abbrev pub site_of : ResolverScope → Site
site_of s = record { symbols = s.symbols; scopes = known s.scopes; row = s.row }
