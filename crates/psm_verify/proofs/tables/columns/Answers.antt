use Rattle.std.proofs.Common.{◌≡◌, ◌<◌, Ok, Some, ap, length, sym, take, arith, ◌∙◌}
use Rattle.std.specs.Prelude.{slice_get}
use Rattle.psm_code.specs.Rules.{is_same}
use Rattle.psm_code.specs.TableRules.{column_fault}
use Rattle.psm_keys.specs.Fresh.{is_new, with_new}
use Rattle.psm_verify.specs.Checked.{checked, item_at, item_in}
use Rattle.psm_verify.proofs.Earlier.{column_passed, got, step}
use Rattle.psm_verify.proofs.tables.columns.Goals as goal

pub loop-at-preserved : goal.loop-at-preserved
loop-at-preserved c =
    let xs = c.args.def.now.columns in
    let at = c.loop-at.at in
    let x = c.index-columns-at.result in
    let within : at < length c.items-columns.result.now = omega arith in
    let here : slice_get xs at ≡ Some x = ap (λ zs. slice_get zs at) (sym c.items-columns.ensures) ∙ got c.items-columns.result.now at x within c.index-columns-at.is in
    let there : slice_get xs at ≡ Some c.index-columns-at-in-loop-at.result =
    ap (λ zs. slice_get zs at) (sym c.items-columns.ensures) ∙ got c.items-columns.result.now at c.index-columns-at-in-loop-at.result within c.index-columns-at-in-loop-at.is in
    let passed : checked c.loop-at.line (item_at column_fault xs at) ≡ Ok c.in_ok-line.line =
    ap (λ o. checked c.loop-at.line (item_in column_fault (take at xs) o)) there ∙ ap (λ zs. checked c.loop-at.line (column_fault (take at zs) c.index-columns-at-in-loop-at.result)) (sym c.items-columns.ensures)
    ∙ ap (checked c.loop-at.line) c.column_fault.ensures ∙ c.in_ok-line.ensures in
    step column_fault is_same (λ d. d.name) column_passed xs at c.args.line c.loop-at.line c.in_ok-line.line x c.in_ok-is_new.is_new c.loop-at.names c.add.new.self here c.loop-at.invariant
    (c.in_ok-is_new.ensures.answer ∙ ap (λ d. is_new is_same d.name c.loop-at.names) (sym c.index-columns-at.is))
    (c.in_ok-is_new.ensures.after ∙ ap (λ d. with_new c.in_ok-is_new.is_new d.name c.loop-at.names) (sym c.index-columns-at.is)) passed
