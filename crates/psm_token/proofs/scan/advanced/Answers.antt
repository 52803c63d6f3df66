use Rattle.std.proofs.Common.{rules, ◌∙◌, arith, sym}
use Rattle.std.specs.Str.{chars}
use Rattle.psm_token.proofs.Steps.{place_next, drop_next, room_at, room_here}
use Rattle.psm_token.proofs.scan.advanced.Goals as goal

pub next-at-requires-clause-lines : goal.next-at-requires-clause-lines
next-at-requires-clause-lines c = (room_here c.loop-i.at c.in-Some.c (chars c.in-Some.following.now) (chars c.loop-i.left.now) c.in-Some.ensures.parts c.loop-i.invariant.3).0

pub next-at-requires-clause-columns : goal.next-at-requires-clause-columns
next-at-requires-clause-columns c = (room_here c.loop-i.at c.in-Some.c (chars c.in-Some.following.now) (chars c.loop-i.left.now) c.in-Some.ensures.parts c.loop-i.invariant.3).1

pub loop-i-preserved : goal.loop-i-preserved
loop-i-preserved c = (
  search rules,
  place_next c.args.count c.loop-i._i c.in-Some.c c.loop-i.at c.next-at.result (chars c.in-Some.following.now) (chars c.loop-i.left.now) c.loop-i-test.true c.in-Some.ensures.parts c.next-at.ensures ∙ c.loop-i.invariant.1,
  sym (drop_next c.args.count c.loop-i._i c.in-Some.c (chars c.in-Some.following.now) (chars c.loop-i.left.now) c.loop-i-test.true c.in-Some.ensures.parts) ∙ c.loop-i.invariant.2,
  room_at c.loop-i.at c.next-at.result c.in-Some.c (chars c.in-Some.following.now) (chars c.loop-i.left.now) c.next-at.ensures c.in-Some.ensures.parts c.loop-i.invariant.3,
  omega (arith, c.in-Some.ensures.shorter),
  (λ z. omega (arith, c.in-Some.ensures.shorter)),
  (λ z. absurd (omega arith)),
)
