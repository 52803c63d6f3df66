use Rattle.std.proofs.Common.{◌∙◌, arith}
use Rattle.psm_symbols.proofs.EachColumn.{places_step}
use Rattle.psm_symbols.proofs.columns.each_place.Goals as goal

pub loop-place-preserved : goal.loop-place-preserved
loop-place-preserved c =
    places_step c.loop-place.places.items c.push.new.self.items c.args.columns.now c.loop-place.place (grind (arith, c.loop-place-test.true, c.len-place-end.ensures)) c.in_ok-push.ensures.items ∙ c.loop-place.invariant
