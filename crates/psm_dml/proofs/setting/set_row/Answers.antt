use Rattle.std.proofs.Common.{List, length, ap, sym, subst, ◌∙◌, Result, Err}
use Rattle.std.specs.Prelude.{map, slice_index_or}
use Rattle.psm_value.specs.declared.datum.Datum.{Datum}
use Rattle.psm_exprcode.specs.declared.set_item.SetItem.{SetItem}
use Rattle.psm_exprcode.specs.Evaluated.{evaluated}
use Rattle.psm_tablecode.specs.Codes.{value_in}
use Rattle.psm_tablecode.specs.TypeChecks.{Runs}
use Rattle.std.proofs.lemmas.Result.{err_from_is_err_and}
use Rattle.psm_sqlstate.specs.declared.state.SqlState.{SqlState}
use Rattle.psm_table.specs.Changing.{with_values}
use Rattle.psm_table.specs.Evaluator.{and_then, collected}
use Rattle.psm_tablecode.proofs.Results.{gives_by}
use Rattle.psm_dml.specs.Changes.{row_set, set_of}
use Rattle.psm_dml.proofs.Assigned.{fault_first, length-collected, row_set_by}
use Rattle.psm_dml.proofs.setting.set_row.Goals as goal

pub new_values-requires : goal.new_values-requires
new_values-requires c = λ k d l. subst (λ (r : List Datum). Runs r c.args.vars.now (slice_index_or c.args.sets.now k d).source) (sym c.values.ensures) (c.requires.sets k d l).runs

pub with_values-requires-clause-values : goal.with_values-requires-clause-values
with_values-requires-clause-values c =
    ap length c.items.ensures ∙ length-collected (λ (s : SetItem). value_in (evaluated s.source c.values.result.now c.args.vars.now)) c.args.sets.now c.in_ok-values.values c.in_ok-values.ensures

pub returns-in_err-values : goal.returns-in_err-values
returns-in_err-values c =
    let take : SetItem → Result Datum SqlState = λ s. value_in (evaluated s.source c.values.result.now c.args.vars.now) in
    let go : List Datum → Result (List Datum) SqlState = λ vs. with_values c.args.def.now (map set_of c.args.sets.now) vs c.args.row.now in
    let p = err_from_is_err_and c.from_residual.result c.from_residual.ensures.1 in
    rw (p.1, p.2)
    (gives_by (row_set c.args.vars.now c.args.def.now c.args.sets.now c.args.row.now) (and_then (collected take c.args.sets.now) go) (Err c.in_err-values.field-0.0)
    (row_set_by c.args.vars.now c.args.def.now c.args.sets.now c.args.row.now c.values.result.now c.values.ensures)
    (fault_first (collected take c.args.sets.now) go c.in_err-values.field-0.0 c.in_err-values.ensures))

pub returns : goal.returns
returns c =
    let take : SetItem → Result Datum SqlState = λ s. value_in (evaluated s.source c.values.result.now c.args.vars.now) in
    let go : List Datum → Result (List Datum) SqlState = λ vs. with_values c.args.def.now (map set_of c.args.sets.now) vs c.args.row.now in
    gives_by (row_set c.args.vars.now c.args.def.now c.args.sets.now c.args.row.now) (go c.items.result.now) c.with_values.result
    (row_set_by c.args.vars.now c.args.def.now c.args.sets.now c.args.row.now c.values.result.now c.values.ensures
    ∙ ap (λ r. and_then r go) c.in_ok-values.ensures ∙ ap go (sym c.items.ensures))
    c.with_values.ensures
