use Rattle.std.proofs.Common.{◌≡◌, [], ◌∷◌, Ok, map, ap, sym, ◌∙◌}
use Rattle.psm_code.specs.TableRules.{key_fault, unique_fault}
use Rattle.psm_verify.specs.Checked.{checked}
use Rattle.psm_verify.proofs.LinesInOrder.{go}
use Rattle.psm_verify.proofs.tables.keys.Goals as goal

pub returns : goal.returns
returns c =
    let passed_1 : checked c.args.line (key_fault c.args.def.now ∷ []) ≡ Ok c.in_ok-line.line = (ap (λ f. checked c.args.line (f ∷ [])) (sym c.in_ok-fault.ensures) ∙ c.in_ok-line.ensures) in
    go (key_fault c.args.def.now ∷ []) (map (unique_fault c.args.def.now) c.args.def.now.unique) c.args.line c.uniques.result passed_1 (c.uniques.ensures)
