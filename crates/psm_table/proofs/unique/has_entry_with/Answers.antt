use Rattle.std.proofs.Common.{◌∙◌}
use Rattle.std.specs.Option.{option_copied}
use Rattle.psm_table.proofs.MatchingEntries.{high-from, is_found}
use Rattle.psm_table.proofs.unique.has_entry_with.Goals as goal

pub first_found-requires-clause-high : goal.first_found-requires-clause-high
first_found-requires-clause-high c = high-from c.args.columns.now c.args.values.now c.args.rows.now.pairs c.args.entries.now.pairs (option_copied c.from-from.result) c.from-from.ensures.ordered c.from-from.ensures.pair

pub returns : goal.returns
returns c =
    c.is_some.ensures
    ∙ is_found c.args.columns.now c.args.values.now c.args.rows.now.pairs c.args.def.now c.requires.order c.requires.at_keys c.requires.ascend c.args.entries.now.pairs c.requires.entered
    (option_copied c.from-from.result) c.first_found.result c.from-from.ensures.ordered c.from-from.ensures.pair c.first_found.ensures.none c.first_found.ensures.first
