use Rattle.std.proofs.Common.{◌≡◌, ap, sym, subst, ◌∙◌, List, Some}
use Rattle.psm_value.specs.declared.datum.Datum.{Datum}
use Rattle.psm_table.specs.Held.{row_of, the_row}
use Rattle.psm_table.specs.Key.{values_at}
use Rattle.psm_table.specs.Map.{with_value}
use Rattle.psm_table.specs.PairPosition.{IsAt, IsGap}
use Rattle.psm_table.proofs.Pairs.{replaced, value_found, with_value-absent}
use Rattle.psm_table.proofs.run.Run+Option+Row.replace_row.Goals as goal

pub returns-in-Ok-clause-row : goal.returns-in-Ok-clause-row
returns-in-Ok-clause-row c =
    let same : c.self.inside.pairs.items ≡ c.args.self.now = c.self.view_is in
    let key = values_at c.args.columns.now c.args.row in
    let here = subst (λ (r : List Datum). IsAt (values_at c.args.columns.now r) c.args.self.now c.in-Ok.at) c.values.ensures c.in-Ok.ensures.found in
    let found = subst (λ l. IsAt key l c.in-Ok.at) (sym same) here in
    c.replace.ensures.value
    ∙ sym (ap the_row (value_found key c.self.inside.pairs.items c.in-Ok.at c.index_mut.result.now found c.index_mut.ensures.value))
    ∙ ap (row_of key) same

pub returns-in-Ok-clause-pairs : goal.returns-in-Ok-clause-pairs
returns-in-Ok-clause-pairs c =
    let same : c.self.inside.pairs.items ≡ c.args.self.now = c.self.view_is in
    let key = values_at c.args.columns.now c.args.row in
    let here = subst (λ (r : List Datum). IsAt (values_at c.args.columns.now r) c.args.self.now c.in-Ok.at) c.values.ensures c.in-Ok.ensures.found in
    let found = subst (λ l. IsAt key l c.in-Ok.at) (sym same) here in
    rw c.replace.ensures.after
    (replaced key (Some c.args.row) c.self.inside.pairs.items c.in-Ok.at c.index_mut.result.now c.self.invariant.0 found c.index_mut.ensures.value
    ∙ ap (with_value key (Some c.args.row)) same)

pub returns-in-Err-clause-pairs : goal.returns-in-Err-clause-pairs
returns-in-Err-clause-pairs c =
    let here = subst (λ (r : List Datum). IsGap (values_at c.args.columns.now r) c.args.self.now c.in-Err.field-0) c.values.ensures c.in-Err.ensures.absent in
    sym (with_value-absent (values_at c.args.columns.now c.args.row) (Some c.args.row) c.args.self.now here.has)
