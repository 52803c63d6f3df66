use Rattle.std.proofs.Common.{rules, string_bytes, take}
use Rattle.std.specs.Str.{chars}
use Rattle.psm_token.proofs.Steps.{gather_next}
use Rattle.psm_token.proofs.scan.gathered.Goals as goal

pub loop-i-preserved : goal.loop-i-preserved
loop-i-preserved c = (
  search rules,
  gather_next (chars (string_bytes c.loop-i.text)) (chars (string_bytes c.push.new.text)) (take c.args.count (chars c.args.rest.now)) (chars c.in-Some.following.now) (chars c.loop-i.left.now)
      c.in-Some.c c.args.count c.loop-i._i c.loop-i-test.true c.in-Some.ensures.parts c.in_ok-push-in-Some.ensures c.loop-i.invariant.1,
)
