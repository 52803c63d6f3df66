use Rattle.std.proofs.Common.{rules, string_bytes, take}
use Rattle.std.specs.Str.{chars}
use Rattle.psm_token.specs.Forms.{folded}
use Rattle.psm_token.proofs.Steps.{fold_next}
use Rattle.psm_token.proofs.scan.folded.Goals as goal

pub loop-i-preserved : goal.loop-i-preserved
loop-i-preserved c = (
  search rules,
  fold_next (chars (string_bytes c.loop-i.text)) (chars (string_bytes c.push.new.text)) (folded (take c.args.count (chars c.args.rest.now))) (chars c.in-Some.following.now) (chars c.loop-i.left.now)
      c.in-Some.c c.to_ascii_uppercase.result c.args.count c.loop-i._i c.loop-i-test.true c.in-Some.ensures.parts c.to_ascii_uppercase.ensures.value c.in_ok-push-in-Some.ensures c.loop-i.invariant.1,
)
