use Rattle.std.proofs.Common.{map, ◌∙◌}
use Rattle.psm_resolve.specs.Seen.{item_seen}
use Rattle.psm_resolve.proofs.Places.{items_step}
use Rattle.psm_resolve.proofs.fors.push_each_column.Goals as goal

pub loop-place-preserved : goal.loop-place-preserved
loop-place-preserved c =
    items_step (map item_seen c.loop-place.items.items) (map item_seen c.push_column.new.items.items) c.args.columns.now c.loop-place.place c.name.result.now c.at.result.now
    c.name.ensures c.at.ensures c.in_ok-push_column.ensures ∙ c.loop-place.invariant
