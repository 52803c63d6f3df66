use Rattle.psm_io.proofs.Known.{prefix_kept, prefix_more}
use Rattle.psm_io.proofs.std_sink.write_whole.Goals as goal

pub loop-rest-preserved : goal.loop-rest-preserved
loop-rest-preserved g c = let so_far = c.loop-rest.invariant in
    prefix_more (g.W.Write.contents c.args.out.now) (g.W.Write.contents c.loop-rest.out) (g.W.Write.contents c.write_once.new.out)
    c.args.piece.now so_far.0 c.loop-rest.rest.now c.in-Some.count so_far.1 so_far.2 c.in-Some.ensures.some

pub returns-in_default : goal.returns-in_default
returns-in_default g c = let so_far = c.loop-rest.invariant in
    prefix_kept (g.W.Write.contents c.args.out.now) (g.W.Write.contents c.loop-rest.out) (g.W.Write.contents c.write_once.new.out)
    c.args.piece.now so_far.0 c.loop-rest.rest.now so_far.1 so_far.2 c.in_default.ensures.none
