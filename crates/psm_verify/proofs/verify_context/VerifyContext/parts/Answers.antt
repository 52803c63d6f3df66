use Rattle.std.proofs.Common.{◌≡◌, [], ◌++◌, Ok, Err, map, refl, rules, ◌∙◌}
use Rattle.std.specs.List.{flat_map}
use Rattle.psm_code.specs.PlanRules.{plan_faults}
use Rattle.psm_code.specs.Rules.{each_after}
use Rattle.psm_code.specs.RoutineRules.{context_faults, declared_fault, handler_fault}
use Rattle.psm_verify.specs.Listed.{first_faults}
use Rattle.psm_verify.specs.Checked.{checked}
use Rattle.psm_verify.proofs.LinesInOrder.{go, going_on, stop}
use Rattle.psm_verify.proofs.verify_context.VerifyContext.parts.Goals as goal

pub returns-in_err-line : goal.returns-in_err-line
returns-in_err-line c =
    stop ((((first_faults c.args.self.now.code.now c.args.before.now c.args.self.now.routine.now) ++ (flat_map (plan_faults c.args.self.now.code.now c.args.self.now.routine.now) c.args.self.now.routine.now.plans)) ++ (map declared_fault c.args.self.now.routine.now.handlers.declared)) ++ (context_faults c.args.self.now.routine.now 1 c.args.self.now.routine.now.handlers.contexts)) (each_after (handler_fault c.args.self.now.routine.now) [] c.args.self.now.routine.now.handlers.handlers) c.args.line (search rules)
    (stop (((first_faults c.args.self.now.code.now c.args.before.now c.args.self.now.routine.now) ++ (flat_map (plan_faults c.args.self.now.code.now c.args.self.now.routine.now) c.args.self.now.routine.now.plans)) ++ (map declared_fault c.args.self.now.routine.now.handlers.declared)) (context_faults c.args.self.now.routine.now 1 c.args.self.now.routine.now.handlers.contexts) c.args.line refl
    (stop ((first_faults c.args.self.now.code.now c.args.before.now c.args.self.now.routine.now) ++ (flat_map (plan_faults c.args.self.now.code.now c.args.self.now.routine.now) c.args.self.now.routine.now.plans)) (map declared_fault c.args.self.now.routine.now.handlers.declared) c.args.line refl
    (stop (first_faults c.args.self.now.code.now c.args.before.now c.args.self.now.routine.now) (flat_map (plan_faults c.args.self.now.code.now c.args.self.now.routine.now) c.args.self.now.routine.now.plans) c.args.line refl
    (c.in_err-line.ensures))))

pub returns-in_err-line-2 : goal.returns-in_err-line-2
returns-in_err-line-2 c =
    let passed_1 : checked c.args.line (first_faults c.args.self.now.code.now c.args.before.now c.args.self.now.routine.now) ≡ Ok c.in_ok-line.line = c.in_ok-line.ensures in
    stop ((((first_faults c.args.self.now.code.now c.args.before.now c.args.self.now.routine.now) ++ (flat_map (plan_faults c.args.self.now.code.now c.args.self.now.routine.now) c.args.self.now.routine.now.plans)) ++ (map declared_fault c.args.self.now.routine.now.handlers.declared)) ++ (context_faults c.args.self.now.routine.now 1 c.args.self.now.routine.now.handlers.contexts)) (each_after (handler_fault c.args.self.now.routine.now) [] c.args.self.now.routine.now.handlers.handlers) c.args.line (search rules)
    (stop (((first_faults c.args.self.now.code.now c.args.before.now c.args.self.now.routine.now) ++ (flat_map (plan_faults c.args.self.now.code.now c.args.self.now.routine.now) c.args.self.now.routine.now.plans)) ++ (map declared_fault c.args.self.now.routine.now.handlers.declared)) (context_faults c.args.self.now.routine.now 1 c.args.self.now.routine.now.handlers.contexts) c.args.line refl
    (stop ((first_faults c.args.self.now.code.now c.args.before.now c.args.self.now.routine.now) ++ (flat_map (plan_faults c.args.self.now.code.now c.args.self.now.routine.now) c.args.self.now.routine.now.plans)) (map declared_fault c.args.self.now.routine.now.handlers.declared) c.args.line refl
    (go (first_faults c.args.self.now.code.now c.args.before.now c.args.self.now.routine.now) (flat_map (plan_faults c.args.self.now.code.now c.args.self.now.routine.now) c.args.self.now.routine.now.plans) c.args.line (Err c.in_err-line-2.field-0.0) passed_1 c.in_err-line-2.ensures)))

pub returns-in_err-line-3 : goal.returns-in_err-line-3
returns-in_err-line-3 c =
    let passed_1 : checked c.args.line (first_faults c.args.self.now.code.now c.args.before.now c.args.self.now.routine.now) ≡ Ok c.in_ok-line.line = c.in_ok-line.ensures in
    let passed_2 : checked c.args.line ((first_faults c.args.self.now.code.now c.args.before.now c.args.self.now.routine.now) ++ (flat_map (plan_faults c.args.self.now.code.now c.args.self.now.routine.now) c.args.self.now.routine.now.plans)) ≡ Ok c.in_ok-line-2.line = going_on (first_faults c.args.self.now.code.now c.args.before.now c.args.self.now.routine.now) (flat_map (plan_faults c.args.self.now.code.now c.args.self.now.routine.now) c.args.self.now.routine.now.plans) c.args.line c.in_ok-line.line passed_1 ∙ c.in_ok-line-2.ensures in
    stop ((((first_faults c.args.self.now.code.now c.args.before.now c.args.self.now.routine.now) ++ (flat_map (plan_faults c.args.self.now.code.now c.args.self.now.routine.now) c.args.self.now.routine.now.plans)) ++ (map declared_fault c.args.self.now.routine.now.handlers.declared)) ++ (context_faults c.args.self.now.routine.now 1 c.args.self.now.routine.now.handlers.contexts)) (each_after (handler_fault c.args.self.now.routine.now) [] c.args.self.now.routine.now.handlers.handlers) c.args.line (search rules)
    (stop (((first_faults c.args.self.now.code.now c.args.before.now c.args.self.now.routine.now) ++ (flat_map (plan_faults c.args.self.now.code.now c.args.self.now.routine.now) c.args.self.now.routine.now.plans)) ++ (map declared_fault c.args.self.now.routine.now.handlers.declared)) (context_faults c.args.self.now.routine.now 1 c.args.self.now.routine.now.handlers.contexts) c.args.line refl
    (go ((first_faults c.args.self.now.code.now c.args.before.now c.args.self.now.routine.now) ++ (flat_map (plan_faults c.args.self.now.code.now c.args.self.now.routine.now) c.args.self.now.routine.now.plans)) (map declared_fault c.args.self.now.routine.now.handlers.declared) c.args.line (Err c.in_err-line-3.field-0.0) passed_2 c.in_err-line-3.ensures))

pub returns-in_err-line-4 : goal.returns-in_err-line-4
returns-in_err-line-4 c =
    let passed_1 : checked c.args.line (first_faults c.args.self.now.code.now c.args.before.now c.args.self.now.routine.now) ≡ Ok c.in_ok-line.line = c.in_ok-line.ensures in
    let passed_2 : checked c.args.line ((first_faults c.args.self.now.code.now c.args.before.now c.args.self.now.routine.now) ++ (flat_map (plan_faults c.args.self.now.code.now c.args.self.now.routine.now) c.args.self.now.routine.now.plans)) ≡ Ok c.in_ok-line-2.line = going_on (first_faults c.args.self.now.code.now c.args.before.now c.args.self.now.routine.now) (flat_map (plan_faults c.args.self.now.code.now c.args.self.now.routine.now) c.args.self.now.routine.now.plans) c.args.line c.in_ok-line.line passed_1 ∙ c.in_ok-line-2.ensures in
    let passed_3 : checked c.args.line (((first_faults c.args.self.now.code.now c.args.before.now c.args.self.now.routine.now) ++ (flat_map (plan_faults c.args.self.now.code.now c.args.self.now.routine.now) c.args.self.now.routine.now.plans)) ++ (map declared_fault c.args.self.now.routine.now.handlers.declared)) ≡ Ok c.in_ok-line-3.line = going_on ((first_faults c.args.self.now.code.now c.args.before.now c.args.self.now.routine.now) ++ (flat_map (plan_faults c.args.self.now.code.now c.args.self.now.routine.now) c.args.self.now.routine.now.plans)) (map declared_fault c.args.self.now.routine.now.handlers.declared) c.args.line c.in_ok-line-2.line passed_2 ∙ c.in_ok-line-3.ensures in
    stop ((((first_faults c.args.self.now.code.now c.args.before.now c.args.self.now.routine.now) ++ (flat_map (plan_faults c.args.self.now.code.now c.args.self.now.routine.now) c.args.self.now.routine.now.plans)) ++ (map declared_fault c.args.self.now.routine.now.handlers.declared)) ++ (context_faults c.args.self.now.routine.now 1 c.args.self.now.routine.now.handlers.contexts)) (each_after (handler_fault c.args.self.now.routine.now) [] c.args.self.now.routine.now.handlers.handlers) c.args.line (search rules)
    (go (((first_faults c.args.self.now.code.now c.args.before.now c.args.self.now.routine.now) ++ (flat_map (plan_faults c.args.self.now.code.now c.args.self.now.routine.now) c.args.self.now.routine.now.plans)) ++ (map declared_fault c.args.self.now.routine.now.handlers.declared)) (context_faults c.args.self.now.routine.now 1 c.args.self.now.routine.now.handlers.contexts) c.args.line (Err c.in_err-line-4.field-0.0) passed_3 c.in_err-line-4.ensures)

pub returns : goal.returns
returns c =
    let passed_1 : checked c.args.line (first_faults c.args.self.now.code.now c.args.before.now c.args.self.now.routine.now) ≡ Ok c.in_ok-line.line = c.in_ok-line.ensures in
    let passed_2 : checked c.args.line ((first_faults c.args.self.now.code.now c.args.before.now c.args.self.now.routine.now) ++ (flat_map (plan_faults c.args.self.now.code.now c.args.self.now.routine.now) c.args.self.now.routine.now.plans)) ≡ Ok c.in_ok-line-2.line = going_on (first_faults c.args.self.now.code.now c.args.before.now c.args.self.now.routine.now) (flat_map (plan_faults c.args.self.now.code.now c.args.self.now.routine.now) c.args.self.now.routine.now.plans) c.args.line c.in_ok-line.line passed_1 ∙ c.in_ok-line-2.ensures in
    let passed_3 : checked c.args.line (((first_faults c.args.self.now.code.now c.args.before.now c.args.self.now.routine.now) ++ (flat_map (plan_faults c.args.self.now.code.now c.args.self.now.routine.now) c.args.self.now.routine.now.plans)) ++ (map declared_fault c.args.self.now.routine.now.handlers.declared)) ≡ Ok c.in_ok-line-3.line = going_on ((first_faults c.args.self.now.code.now c.args.before.now c.args.self.now.routine.now) ++ (flat_map (plan_faults c.args.self.now.code.now c.args.self.now.routine.now) c.args.self.now.routine.now.plans)) (map declared_fault c.args.self.now.routine.now.handlers.declared) c.args.line c.in_ok-line-2.line passed_2 ∙ c.in_ok-line-3.ensures in
    let passed_4 : checked c.args.line ((((first_faults c.args.self.now.code.now c.args.before.now c.args.self.now.routine.now) ++ (flat_map (plan_faults c.args.self.now.code.now c.args.self.now.routine.now) c.args.self.now.routine.now.plans)) ++ (map declared_fault c.args.self.now.routine.now.handlers.declared)) ++ (context_faults c.args.self.now.routine.now 1 c.args.self.now.routine.now.handlers.contexts)) ≡ Ok c.in_ok-line-4.line = going_on (((first_faults c.args.self.now.code.now c.args.before.now c.args.self.now.routine.now) ++ (flat_map (plan_faults c.args.self.now.code.now c.args.self.now.routine.now) c.args.self.now.routine.now.plans)) ++ (map declared_fault c.args.self.now.routine.now.handlers.declared)) (context_faults c.args.self.now.routine.now 1 c.args.self.now.routine.now.handlers.contexts) c.args.line c.in_ok-line-3.line passed_3 ∙ c.in_ok-line-4.ensures in
    go ((((first_faults c.args.self.now.code.now c.args.before.now c.args.self.now.routine.now) ++ (flat_map (plan_faults c.args.self.now.code.now c.args.self.now.routine.now) c.args.self.now.routine.now.plans)) ++ (map declared_fault c.args.self.now.routine.now.handlers.declared)) ++ (context_faults c.args.self.now.routine.now 1 c.args.self.now.routine.now.handlers.contexts)) (each_after (handler_fault c.args.self.now.routine.now) [] c.args.self.now.routine.now.handlers.handlers) c.args.line c.handlers.result passed_4 (c.handlers.ensures)
