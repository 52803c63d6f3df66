-- The lines of a routine's parts that stand before its own lines.
use Rattle.std.specs.Prelude.{List, [], ◌∷◌, ◌++◌, map, Option}
use Rattle.std.specs.List.{flat_map}
use Rattle.psm_code.specs.declared.code.RawCode.{RawCode}
use Rattle.psm_code.specs.declared.code.RawRoutine.{RawRoutine}
use Rattle.psm_code.specs.declared.rule.CodeRule.{CodeRule}
use Rattle.psm_code.specs.PlanRules.{cursor_fault, plan_faults, query_faults}
use Rattle.psm_code.specs.Rules.{each_after}
use Rattle.psm_code.specs.RoutineRules.{context_faults, declared_fault, handler_fault, parameter_fault, routine_fault, type_fault}

-- those before the plans
abbrev pub first_faults : RawCode → List RawRoutine → RawRoutine → List (Option CodeRule)
first_faults code before r =
    routine_fault before r
    ∷ each_after (parameter_fault r) [] r.parameters
    ++ map type_fault r.variables
    ++ flat_map (query_faults code r) r.queries
    ++ map (cursor_fault r) r.cursors

abbrev pub part_faults : RawCode → List RawRoutine → RawRoutine → List (Option CodeRule)
part_faults code before r =
    first_faults code before r
    ++ flat_map (plan_faults code r) r.plans
    ++ map declared_fault r.handlers.declared
    ++ context_faults r 1 r.handlers.contexts
    ++ each_after (handler_fault r) [] r.handlers.handlers
