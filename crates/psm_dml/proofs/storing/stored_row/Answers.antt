use Rattle.std.proofs.Common.{◌≡◌, ◌<◌, List, length, sym, subst, ◌∙◌, ap, Ok, Err, arith}
use Rattle.std.specs.List.{zip}
use Rattle.std.proofs.lemmas.Result.{err_from_is_err_and}
use Rattle.psm_value.specs.declared.datum.Datum.{Datum}
use Rattle.psm_table.specs.declared.definition.Column.{Column}
use Rattle.psm_table.specs.Changing as changing_of
use Rattle.psm_table.specs.Definition.{kinds_of}
use Rattle.psm_table.specs.Evaluator.{collected}
use Rattle.psm_tablecode.proofs.Collecting.{collects_end, collects_fault, collects_next, Collects}
use Rattle.psm_tablecode.proofs.Results.{gives_by}
use Rattle.psm_dml.proofs.Storings.{length-paired, pair_at, row_collected, storing, type_at}
use Rattle.psm_dml.proofs.storing.stored_row.Goals as goal

pub stored_value-requires : goal.stored_value-requires
stored_value-requires c = type_at c.args.columns.now c.loop-at.at c.index-columns-at.result c.requires.types c.loop-at-test.true c.index-columns-at.is

pub returns-in_err-value : goal.returns-in_err-value
returns-in_err-value c =
    let pairs : List (Column × Datum) = zip c.args.columns.now c.args.values.now in
    let pair : Column × Datum = (c.index-columns-at.result, c.index-values-at.result) in
    let long : length pairs ≡ length c.args.columns.now = length-paired c.args.columns.now c.args.values.now c.requires.long in
    let inside : c.loop-at.at < length pairs = omega (arith, long, c.loop-at-test.true) in
    let here = pair_at c.args.columns.now c.args.values.now c.loop-at.at c.index-columns-at.result c.index-values-at.result pair c.loop-at-test.true c.requires.long c.index-columns-at.is c.index-values-at.is in
    let p = err_from_is_err_and c.from_residual-in_err-value.result c.from_residual-in_err-value.ensures.1 in
    rw (p.1, p.2)
    (gives_by (changing_of.stored_row (kinds_of c.args.columns.now) c.args.values.now) (collected storing pairs) (Err c.in_err-value.field-0.0) (row_collected c.args.columns.now c.args.values.now)
    (collects_fault storing pairs c.loop-at.at pair c.loop-at.stored.items c.in_err-value.field-0.0 inside (sym here) c.in_err-value.ensures c.loop-at.invariant))

pub loop-at-preserved : goal.loop-at-preserved
loop-at-preserved c =
    let pairs : List (Column × Datum) = zip c.args.columns.now c.args.values.now in
    let pair : Column × Datum = (c.index-columns-at.result, c.index-values-at.result) in
    let long : length pairs ≡ length c.args.columns.now = length-paired c.args.columns.now c.args.values.now c.requires.long in
    let inside : c.loop-at.at < length pairs = omega (arith, long, c.loop-at-test.true) in
    let here = pair_at c.args.columns.now c.args.values.now c.loop-at.at c.index-columns-at.result c.index-values-at.result pair c.loop-at-test.true c.requires.long c.index-columns-at.is c.index-values-at.is in
    collects_next storing pairs c.loop-at.at pair c.loop-at.stored.items c.in_ok-value.value c.push.new.self.items inside (sym here) c.in_ok-value.ensures c.in_ok-push.ensures.items c.loop-at.invariant

pub returns : goal.returns
returns c =
    let pairs : List (Column × Datum) = zip c.args.columns.now c.args.values.now in
    let long : length pairs ≡ length c.args.columns.now = length-paired c.args.columns.now c.args.values.now c.requires.long in
    let end : c.loop-at.at ≡ length pairs = omega (arith, long, c.loop-at-test.false, c.loop-at.auto.at-end) in
    row_collected c.args.columns.now c.args.values.now
    ∙ collects_end storing pairs c.loop-at.stored.items (subst (λ n. Collects storing pairs n c.loop-at.stored.items) end c.loop-at.invariant)
    ∙ ap Ok (sym c.of.ensures)
