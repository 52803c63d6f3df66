use Rattle.std.proofs.Common.{ap, ◌∙◌}
use Rattle.std.specs.Prelude.{slice_get}
use Rattle.std.specs.Option.{option_copied}
use Rattle.psm_table.specs.Map.{pairs_above}
use Rattle.psm_table.proofs.MatchingEntries.{high-above, high-from, nothing, one_row, several}
use Rattle.psm_table.proofs.unique.look_up.Goals as goal

pub first_found-requires-clause-high : goal.first_found-requires-clause-high
first_found-requires-clause-high c = high-from c.args.columns.now c.args.values.now c.args.rows.now.pairs c.args.entries.now.pairs (option_copied c.from-from.result) c.from-from.ensures.ordered c.from-from.ensures.pair

pub returns-in_default : goal.returns-in_default
returns-in_default c =
    nothing c.args.columns.now c.args.values.now c.args.rows.now.pairs c.args.def.now c.requires.order c.requires.at_keys c.requires.ascend c.args.entries.now.pairs c.requires.entered (option_copied c.from-from.result)
    c.from-from.ensures.ordered c.from-from.ensures.pair c.in_default.ensures.none

pub first_found-requires-2-clause-high : goal.first_found-requires-2-clause-high
first_found-requires-2-clause-high c =
    high-above c.args.columns.now c.args.values.now c.args.rows.now.pairs c.args.entries.now.pairs c.in-Some.first.entry.now (option_copied c.after-rest.result) c.from-from.ensures.ordered c.in-Some.ensures.first.begins
    (c.after-rest.ensures.pair ∙ ap (λ k. slice_get (pairs_above k c.args.entries.now.pairs) 0) c.probe.ensures.key)

pub returns-in-Some-first_found : goal.returns-in-Some-first_found
returns-in-Some-first_found c =
    several c.args.columns.now c.args.values.now c.args.rows.now.pairs c.args.def.now c.requires.order c.requires.at_keys c.requires.ascend c.args.entries.now.pairs c.requires.entered
    (option_copied c.from-from.result) (option_copied c.after-rest.result) c.in-Some.first.entry.now c.in-Some.first.row.now c.in-Some-first_found.field-0.entry.now c.in-Some-first_found.field-0.row.now c.from-from.ensures.ordered
    c.in-Some.ensures.first (c.after-rest.ensures.pair ∙ ap (λ k. slice_get (pairs_above k c.args.entries.now.pairs) 0) c.probe.ensures.key) c.in-Some-first_found.ensures.first

pub returns-in-None : goal.returns-in-None
returns-in-None c =
    one_row c.args.columns.now c.args.values.now c.args.rows.now.pairs c.args.def.now c.requires.order c.requires.at_keys c.requires.ascend c.args.entries.now.pairs c.requires.entered
    (option_copied c.from-from.result) (option_copied c.after-rest.result) c.in-Some.first.entry.now c.in-Some.first.row.now c.from-from.ensures.ordered c.from-from.ensures.pair
    c.in-Some.ensures.first (c.after-rest.ensures.pair ∙ ap (λ k. slice_get (pairs_above k c.args.entries.now.pairs) 0) c.probe.ensures.key) c.in-None.ensures.none
