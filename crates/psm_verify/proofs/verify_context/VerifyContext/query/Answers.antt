use Rattle.std.proofs.Common.{◌≡◌, [], ◌∷◌, ◌++◌, Ok, Err, rules, ap, sym, ◌∙◌}
use Rattle.psm_code.specs.PlanRules.{items_in, query_fault, test_in}
use Rattle.psm_verify.specs.Checked.{checked}
use Rattle.psm_verify.proofs.LinesInOrder.{go, going_on, stop}
use Rattle.psm_verify.proofs.verify_context.VerifyContext.query.Goals as goal

pub returns-in_err-line-2 : goal.returns-in_err-line-2
returns-in_err-line-2 c =
    let passed_1 : checked c.args.line (query_fault c.args.self.now.code.now c.args.query.now ∷ []) ≡ Ok c.in_ok-line.line = (ap (λ f. checked c.args.line (f ∷ [])) (sym c.query_fault.ensures) ∙ c.in_ok-line.ensures) in
    stop ((query_fault c.args.self.now.code.now c.args.query.now ∷ []) ++ (items_in c.args.self.now.code.now c.args.self.now.routine.now c.args.query.now.table c.args.query.now.items)) (test_in c.args.self.now.code.now c.args.self.now.routine.now c.args.query.now.table c.args.query.now.test) c.args.line (search rules)
    (go (query_fault c.args.self.now.code.now c.args.query.now ∷ []) (items_in c.args.self.now.code.now c.args.self.now.routine.now c.args.query.now.table c.args.query.now.items) c.args.line (Err c.in_err-line-2.field-0.0) passed_1 c.in_err-line-2.ensures)

pub returns : goal.returns
returns c =
    let passed_1 : checked c.args.line (query_fault c.args.self.now.code.now c.args.query.now ∷ []) ≡ Ok c.in_ok-line.line = (ap (λ f. checked c.args.line (f ∷ [])) (sym c.query_fault.ensures) ∙ c.in_ok-line.ensures) in
    let passed_2 : checked c.args.line ((query_fault c.args.self.now.code.now c.args.query.now ∷ []) ++ (items_in c.args.self.now.code.now c.args.self.now.routine.now c.args.query.now.table c.args.query.now.items)) ≡ Ok c.in_ok-line-2.line = going_on (query_fault c.args.self.now.code.now c.args.query.now ∷ []) (items_in c.args.self.now.code.now c.args.self.now.routine.now c.args.query.now.table c.args.query.now.items) c.args.line c.in_ok-line.line passed_1 ∙ c.in_ok-line-2.ensures in
    go ((query_fault c.args.self.now.code.now c.args.query.now ∷ []) ++ (items_in c.args.self.now.code.now c.args.self.now.routine.now c.args.query.now.table c.args.query.now.items)) (test_in c.args.self.now.code.now c.args.self.now.routine.now c.args.query.now.table c.args.query.now.test) c.args.line c.test.result passed_2 (c.test.ensures)
