use Rattle.std.proofs.Common.{string_bytes}
use Rattle.std.specs.Str.{chars}
use Rattle.psm_spell.proofs.Pushing.{quoted_start, quoted_next, quoted_end}
use Rattle.psm_spell.proofs.spell.push_quoted.Goals as goal

pub loop-c-init : goal.loop-c-init
loop-c-init c = quoted_start (chars (string_bytes c.args.text.now)) (chars (string_bytes c.push.new.text)) c.args.kept.now c.args.quote c.in_ok-push.ensures

pub loop-c-preserved : goal.loop-c-preserved
loop-c-preserved c = quoted_next (chars (string_bytes c.loop-c.text)) (chars (string_bytes c.push_doubled.new.text)) _ c.args.kept.now c.args.quote c.c-item.result c.loop-c.c-index c.loop-c-test.true c.c-item.is
    c.in_ok-push_doubled.ensures c.loop-c.invariant

pub returns : goal.returns
returns c = quoted_end c.push-2.result (chars (string_bytes c.loop-c.text)) (chars (string_bytes c.push-2.new.text)) (chars (string_bytes c.args.text.now)) c.args.kept.now c.args.quote c.loop-c.c-index
    c.loop-c-test.false c.push-2.ensures c.loop-c.invariant
