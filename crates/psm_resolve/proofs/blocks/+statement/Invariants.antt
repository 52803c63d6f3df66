use Rattle.std.proofs.Common.{◌≡◌, ◌++◌, drop, map}
use Rattle.psm_list.specs.Several.{several_map}
use Rattle.psm_rules.specs.StatementFaults.{several}
use Rattle.psm_declare.specs.Seen.{control}
use Rattle.psm_resolve.specs.Blocks.{all, resolve_branch, resolve_handler, resolve_statement}
use Rattle.psm_resolve.proofs.blocks.+statement.Given as goal

abbrev pub invariant-all-loop-statement : goal.invariant-all-loop-statement
invariant-all-loop-statement l = (l.scopes ≡ l.fn.scopes)
    × (l.resolved.items ++ (all (control l.resolver l.fn.scopes) (map resolve_statement (drop l.statement-index l.statement-items)) l.numbering).0 ≡ (all (control l.resolver l.fn.scopes) (map resolve_statement l.statements) l.fn.numbering).0)
    × ((all (control l.resolver l.fn.scopes) (map resolve_statement (drop l.statement-index l.statement-items)) l.numbering).1 ≡ (all (control l.resolver l.fn.scopes) (map resolve_statement l.statements) l.fn.numbering).1)

abbrev pub invariant-several-loop-statement : goal.invariant-several-loop-statement
invariant-several-loop-statement l = (l.scopes ≡ l.fn.scopes)
    × (l.resolved.items ++ (all (control l.resolver l.fn.scopes) (map resolve_statement (drop l.statement-index l.statement-items)) l.numbering).0 ≡ (all (control l.resolver l.fn.scopes) (several (several_map resolve_statement l.statements)) l.fn.numbering).0)
    × ((all (control l.resolver l.fn.scopes) (map resolve_statement (drop l.statement-index l.statement-items)) l.numbering).1 ≡ (all (control l.resolver l.fn.scopes) (several (several_map resolve_statement l.statements)) l.fn.numbering).1)

abbrev pub invariant-resolve_branches-loop-branch : goal.invariant-resolve_branches-loop-branch
invariant-resolve_branches-loop-branch l = (l.scopes ≡ l.fn.scopes)
    × (l.resolved.items ++ (all (control l.resolver l.fn.scopes) (map resolve_branch (drop l.branch-index l.branch-items)) l.numbering).0 ≡ (all (control l.resolver l.fn.scopes) (several (several_map resolve_branch l.branches)) l.fn.numbering).0)
    × ((all (control l.resolver l.fn.scopes) (map resolve_branch (drop l.branch-index l.branch-items)) l.numbering).1 ≡ (all (control l.resolver l.fn.scopes) (several (several_map resolve_branch l.branches)) l.fn.numbering).1)

abbrev pub invariant-resolve_handlers-loop-handler : goal.invariant-resolve_handlers-loop-handler
invariant-resolve_handlers-loop-handler l = (l.scopes ≡ l.fn.scopes)
    × (l.resolved.items ++ (all (control l.resolver l.fn.scopes) (map resolve_handler (drop l.handler-index l.handler-items)) l.numbering).0 ≡ (all (control l.resolver l.fn.scopes) (map resolve_handler l.handlers) l.fn.numbering).0)
    × ((all (control l.resolver l.fn.scopes) (map resolve_handler (drop l.handler-index l.handler-items)) l.numbering).1 ≡ (all (control l.resolver l.fn.scopes) (map resolve_handler l.handlers) l.fn.numbering).1)
