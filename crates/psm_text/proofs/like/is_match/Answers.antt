use Rattle.std.proofs.Common.{rules, arith, length, sym, ◌∙◌}
use Rattle.psm_text.proofs.Retries.{room, going_room, going_skip, going_stop, going_take, again_at, skip_nonempty, smaller_items}
use Rattle.psm_text.proofs.like.is_match.Goals as goal

pub loop-rest-smaller-in-Skip : goal.loop-rest-smaller-in-Skip
loop-rest-smaller-in-Skip c =
    smaller_items (length c.loop-rest.rest.now) (room c.loop-rest.retry c.args.text.now) (length c.args.pattern.now)
    (length c.after_item-items.result.now) (length c.loop-rest.items.now)
    (going_room c.args.escape c.loop-rest.retry c.args.pattern.now c.args.text.now c.loop-rest.items.now c.loop-rest.rest.now c.loop-rest.invariant.going)
    (c.after_item-items.ensures.shorter (skip_nonempty c.args.escape c.loop-rest.items.now c.index-rest-0.result (sym c.first_step.ensures ∙ c.in-Skip.is)))

pub loop-rest-preserved-in-Skip : goal.loop-rest-preserved-in-Skip
loop-rest-preserved-in-Skip c = record {
  going =
      going_skip c.args.escape c.loop-rest.retry c.args.pattern.now c.args.text.now c.loop-rest.items.now c.after_item-items.result.now c.loop-rest.rest.now
      c.index-rest-0.result (sym c.first_step.ensures ∙ c.in-Skip.is) c.after_item-items.ensures.items (omega arith) c.loop-rest.invariant.going;
  items_within = omega arith;
}

pub loop-rest-preserved-in-Take : goal.loop-rest-preserved-in-Take
loop-rest-preserved-in-Take c = record {
  going =
      going_take c.args.escape c.loop-rest.retry c.args.pattern.now c.args.text.now c.loop-rest.items.now c.after_item-items-in-Take.result.now
      c.loop-rest.rest.now c.rest-rest.result.now c.index-rest-0.result (search rules) c.index-rest-0.is
      (sym c.first_step.ensures ∙ c.in-Take.is) c.after_item-items-in-Take.ensures.items c.rest-rest.ensures c.loop-rest.invariant.going;
  items_within = omega arith;
}

pub loop-rest-preserved : goal.loop-rest-preserved
loop-rest-preserved c =
    let again =
    again_at c.args.escape c.loop-rest.retry (c.in-Some.others, c.in-Some.from) c.args.pattern.now c.args.text.now c.loop-rest.items.now c.loop-rest.rest.now
    c.in-Some.is c.loop-rest.invariant.going
    in record {
      going =
          going_stop c.args.escape c.args.pattern.now c.args.text.now c.in-Some.others.now c.in-Some.from.now c.rest-later.result.now c.loop-rest.items.now
          c.loop-rest.rest.now c.index-rest-0.result (search rules) c.index-rest-0.is (sym c.first_step.ensures ∙ c.in-Stop.is) c.rest-later.ensures again;
      items_within = again.others_within;
    }
