use Rattle.std.proofs.Common.{◌≡◌, [], ◌∷◌, ◌++◌, Ok, Err, map, refl, rules, ap, sym, ◌∙◌}
use Rattle.std.specs.List.{flat_map}
use Rattle.psm_code.specs.PlanRules.{cursor_fault, query_faults}
use Rattle.psm_code.specs.Rules.{each_after}
use Rattle.psm_code.specs.RoutineRules.{parameter_fault, routine_fault, type_fault}
use Rattle.psm_verify.specs.Checked.{checked}
use Rattle.psm_verify.proofs.LinesInOrder.{go, going_on, stop}
use Rattle.psm_verify.proofs.verify_context.VerifyContext.first_parts.Goals as goal

pub returns-in_err-line-2 : goal.returns-in_err-line-2
returns-in_err-line-2 c =
    let passed_1 : checked c.args.line (routine_fault c.args.before.now c.args.self.now.routine.now ∷ []) ≡ Ok c.in_ok-line.line = (ap (λ f. checked c.args.line (f ∷ [])) (sym c.routine_fault.ensures) ∙ c.in_ok-line.ensures) in
    stop ((((routine_fault c.args.before.now c.args.self.now.routine.now ∷ []) ++ (each_after (parameter_fault c.args.self.now.routine.now) [] c.args.self.now.routine.now.parameters)) ++ (map type_fault c.args.self.now.routine.now.variables)) ++ (flat_map (query_faults c.args.self.now.code.now c.args.self.now.routine.now) c.args.self.now.routine.now.queries)) (map (cursor_fault c.args.self.now.routine.now) c.args.self.now.routine.now.cursors) c.args.line (search rules)
    (stop (((routine_fault c.args.before.now c.args.self.now.routine.now ∷ []) ++ (each_after (parameter_fault c.args.self.now.routine.now) [] c.args.self.now.routine.now.parameters)) ++ (map type_fault c.args.self.now.routine.now.variables)) (flat_map (query_faults c.args.self.now.code.now c.args.self.now.routine.now) c.args.self.now.routine.now.queries) c.args.line refl
    (stop ((routine_fault c.args.before.now c.args.self.now.routine.now ∷ []) ++ (each_after (parameter_fault c.args.self.now.routine.now) [] c.args.self.now.routine.now.parameters)) (map type_fault c.args.self.now.routine.now.variables) c.args.line refl
    (go (routine_fault c.args.before.now c.args.self.now.routine.now ∷ []) (each_after (parameter_fault c.args.self.now.routine.now) [] c.args.self.now.routine.now.parameters) c.args.line (Err c.in_err-line-2.field-0.0) passed_1 c.in_err-line-2.ensures)))

pub returns-in_err-line-3 : goal.returns-in_err-line-3
returns-in_err-line-3 c =
    let passed_1 : checked c.args.line (routine_fault c.args.before.now c.args.self.now.routine.now ∷ []) ≡ Ok c.in_ok-line.line = (ap (λ f. checked c.args.line (f ∷ [])) (sym c.routine_fault.ensures) ∙ c.in_ok-line.ensures) in
    let passed_2 : checked c.args.line ((routine_fault c.args.before.now c.args.self.now.routine.now ∷ []) ++ (each_after (parameter_fault c.args.self.now.routine.now) [] c.args.self.now.routine.now.parameters)) ≡ Ok c.in_ok-line-2.line = going_on (routine_fault c.args.before.now c.args.self.now.routine.now ∷ []) (each_after (parameter_fault c.args.self.now.routine.now) [] c.args.self.now.routine.now.parameters) c.args.line c.in_ok-line.line passed_1 ∙ c.in_ok-line-2.ensures in
    stop ((((routine_fault c.args.before.now c.args.self.now.routine.now ∷ []) ++ (each_after (parameter_fault c.args.self.now.routine.now) [] c.args.self.now.routine.now.parameters)) ++ (map type_fault c.args.self.now.routine.now.variables)) ++ (flat_map (query_faults c.args.self.now.code.now c.args.self.now.routine.now) c.args.self.now.routine.now.queries)) (map (cursor_fault c.args.self.now.routine.now) c.args.self.now.routine.now.cursors) c.args.line (search rules)
    (stop (((routine_fault c.args.before.now c.args.self.now.routine.now ∷ []) ++ (each_after (parameter_fault c.args.self.now.routine.now) [] c.args.self.now.routine.now.parameters)) ++ (map type_fault c.args.self.now.routine.now.variables)) (flat_map (query_faults c.args.self.now.code.now c.args.self.now.routine.now) c.args.self.now.routine.now.queries) c.args.line refl
    (go ((routine_fault c.args.before.now c.args.self.now.routine.now ∷ []) ++ (each_after (parameter_fault c.args.self.now.routine.now) [] c.args.self.now.routine.now.parameters)) (map type_fault c.args.self.now.routine.now.variables) c.args.line (Err c.in_err-line-3.field-0.0) passed_2 c.in_err-line-3.ensures))

pub returns-in_err-line-4 : goal.returns-in_err-line-4
returns-in_err-line-4 c =
    let passed_1 : checked c.args.line (routine_fault c.args.before.now c.args.self.now.routine.now ∷ []) ≡ Ok c.in_ok-line.line = (ap (λ f. checked c.args.line (f ∷ [])) (sym c.routine_fault.ensures) ∙ c.in_ok-line.ensures) in
    let passed_2 : checked c.args.line ((routine_fault c.args.before.now c.args.self.now.routine.now ∷ []) ++ (each_after (parameter_fault c.args.self.now.routine.now) [] c.args.self.now.routine.now.parameters)) ≡ Ok c.in_ok-line-2.line = going_on (routine_fault c.args.before.now c.args.self.now.routine.now ∷ []) (each_after (parameter_fault c.args.self.now.routine.now) [] c.args.self.now.routine.now.parameters) c.args.line c.in_ok-line.line passed_1 ∙ c.in_ok-line-2.ensures in
    let passed_3 : checked c.args.line (((routine_fault c.args.before.now c.args.self.now.routine.now ∷ []) ++ (each_after (parameter_fault c.args.self.now.routine.now) [] c.args.self.now.routine.now.parameters)) ++ (map type_fault c.args.self.now.routine.now.variables)) ≡ Ok c.in_ok-line-3.line = going_on ((routine_fault c.args.before.now c.args.self.now.routine.now ∷ []) ++ (each_after (parameter_fault c.args.self.now.routine.now) [] c.args.self.now.routine.now.parameters)) (map type_fault c.args.self.now.routine.now.variables) c.args.line c.in_ok-line-2.line passed_2 ∙ c.in_ok-line-3.ensures in
    stop ((((routine_fault c.args.before.now c.args.self.now.routine.now ∷ []) ++ (each_after (parameter_fault c.args.self.now.routine.now) [] c.args.self.now.routine.now.parameters)) ++ (map type_fault c.args.self.now.routine.now.variables)) ++ (flat_map (query_faults c.args.self.now.code.now c.args.self.now.routine.now) c.args.self.now.routine.now.queries)) (map (cursor_fault c.args.self.now.routine.now) c.args.self.now.routine.now.cursors) c.args.line (search rules)
    (go (((routine_fault c.args.before.now c.args.self.now.routine.now ∷ []) ++ (each_after (parameter_fault c.args.self.now.routine.now) [] c.args.self.now.routine.now.parameters)) ++ (map type_fault c.args.self.now.routine.now.variables)) (flat_map (query_faults c.args.self.now.code.now c.args.self.now.routine.now) c.args.self.now.routine.now.queries) c.args.line (Err c.in_err-line-4.field-0.0) passed_3 c.in_err-line-4.ensures)

pub returns : goal.returns
returns c =
    let passed_1 : checked c.args.line (routine_fault c.args.before.now c.args.self.now.routine.now ∷ []) ≡ Ok c.in_ok-line.line = (ap (λ f. checked c.args.line (f ∷ [])) (sym c.routine_fault.ensures) ∙ c.in_ok-line.ensures) in
    let passed_2 : checked c.args.line ((routine_fault c.args.before.now c.args.self.now.routine.now ∷ []) ++ (each_after (parameter_fault c.args.self.now.routine.now) [] c.args.self.now.routine.now.parameters)) ≡ Ok c.in_ok-line-2.line = going_on (routine_fault c.args.before.now c.args.self.now.routine.now ∷ []) (each_after (parameter_fault c.args.self.now.routine.now) [] c.args.self.now.routine.now.parameters) c.args.line c.in_ok-line.line passed_1 ∙ c.in_ok-line-2.ensures in
    let passed_3 : checked c.args.line (((routine_fault c.args.before.now c.args.self.now.routine.now ∷ []) ++ (each_after (parameter_fault c.args.self.now.routine.now) [] c.args.self.now.routine.now.parameters)) ++ (map type_fault c.args.self.now.routine.now.variables)) ≡ Ok c.in_ok-line-3.line = going_on ((routine_fault c.args.before.now c.args.self.now.routine.now ∷ []) ++ (each_after (parameter_fault c.args.self.now.routine.now) [] c.args.self.now.routine.now.parameters)) (map type_fault c.args.self.now.routine.now.variables) c.args.line c.in_ok-line-2.line passed_2 ∙ c.in_ok-line-3.ensures in
    let passed_4 : checked c.args.line ((((routine_fault c.args.before.now c.args.self.now.routine.now ∷ []) ++ (each_after (parameter_fault c.args.self.now.routine.now) [] c.args.self.now.routine.now.parameters)) ++ (map type_fault c.args.self.now.routine.now.variables)) ++ (flat_map (query_faults c.args.self.now.code.now c.args.self.now.routine.now) c.args.self.now.routine.now.queries)) ≡ Ok c.in_ok-line-4.line = going_on (((routine_fault c.args.before.now c.args.self.now.routine.now ∷ []) ++ (each_after (parameter_fault c.args.self.now.routine.now) [] c.args.self.now.routine.now.parameters)) ++ (map type_fault c.args.self.now.routine.now.variables)) (flat_map (query_faults c.args.self.now.code.now c.args.self.now.routine.now) c.args.self.now.routine.now.queries) c.args.line c.in_ok-line-3.line passed_3 ∙ c.in_ok-line-4.ensures in
    go ((((routine_fault c.args.before.now c.args.self.now.routine.now ∷ []) ++ (each_after (parameter_fault c.args.self.now.routine.now) [] c.args.self.now.routine.now.parameters)) ++ (map type_fault c.args.self.now.routine.now.variables)) ++ (flat_map (query_faults c.args.self.now.code.now c.args.self.now.routine.now) c.args.self.now.routine.now.queries)) (map (cursor_fault c.args.self.now.routine.now) c.args.self.now.routine.now.cursors) c.args.line c.cursors.result passed_4 (c.cursors.ensures)
