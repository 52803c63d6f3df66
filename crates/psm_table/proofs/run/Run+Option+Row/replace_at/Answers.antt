use Rattle.std.proofs.Common.{◌≡◌, ap, sym, subst, ◌∙◌, Some}
use Rattle.psm_table.specs.Held.{row_of, the_row}
use Rattle.psm_table.specs.Map.{with_value}
use Rattle.psm_table.specs.PairPosition.{IsAt}
use Rattle.psm_table.proofs.Pairs.{replaced, value_found}
use Rattle.psm_table.proofs.run.Run+Option+Row.replace_at.Goals as goal

pub returns-clause-row : goal.returns-clause-row
returns-clause-row c key h =
    let same : c.self.inside.pairs.items ≡ c.args.self.now = c.self.view_is in
    let found = subst (λ l. IsAt key l c.args.at) (sym same) h in
    c.replace.ensures.value
    ∙ sym (ap the_row (value_found key c.self.inside.pairs.items c.args.at c.index_mut.result.now found c.index_mut.ensures.value))
    ∙ ap (row_of key) same

pub returns-clause-pairs : goal.returns-clause-pairs
returns-clause-pairs c key h =
    let same : c.self.inside.pairs.items ≡ c.args.self.now = c.self.view_is in
    let found = subst (λ l. IsAt key l c.args.at) (sym same) h in
    rw c.replace.ensures.after
    (replaced key (Some c.args.row) c.self.inside.pairs.items c.args.at c.index_mut.result.now c.self.invariant.0 found c.index_mut.ensures.value
    ∙ ap (with_value key (Some c.args.row)) same)
