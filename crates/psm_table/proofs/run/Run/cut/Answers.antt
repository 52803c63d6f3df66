use Rattle.std.proofs.Common.{◌≤◌, ◌∙◌, subst, ap, length, arith}
use Rattle.std.proofs.lemmas.List.{length-append}
use Rattle.psm_table.specs.Map.{AreAscending}
use Rattle.psm_table.specs.Runs.{head_of}
use Rattle.psm_table.proofs.Heads.{head-append}
use Rattle.psm_table.proofs.Joined.{ascending-first, ascending-second}
use Rattle.psm_table.proofs.run.Run.cut.Goals as goal

pub invariant_of-self : goal.invariant_of-self
invariant_of-self g c =
    let long : c.args.kept ≤ length c.loop-self.self-inside.pairs.items = c.loop-self.invariant.1 in (
      ascending-first c.loop-self.self-inside.pairs.items c.loop-self.upper-inside.pairs.items (subst AreAscending c.loop-self.invariant.0 c.self.invariant.0),
      omega (arith, ap length c.loop-self.invariant.0, length-append c.loop-self.self-inside.pairs.items c.loop-self.upper-inside.pairs.items, c.self.invariant.1),
      c.loop-self.invariant.2,
      c.loop-self.invariant.4 ∙ c.self.invariant.3 ∙ ap head_of c.loop-self.invariant.0
          ∙ head-append c.loop-self.self-inside.pairs.items c.loop-self.upper-inside.pairs.items (omega (arith, long, c.requires.some)),
    )

pub invariant_of-upper : goal.invariant_of-upper
invariant_of-upper g c = (
  ascending-second c.loop-self.self-inside.pairs.items c.loop-self.upper-inside.pairs.items (subst AreAscending c.loop-self.invariant.0 c.self.invariant.0),
  omega (arith, ap length c.loop-self.invariant.0, length-append c.loop-self.self-inside.pairs.items c.loop-self.upper-inside.pairs.items, c.self.invariant.1),
  c.loop-self.invariant.3,
  c.head_of-upper-inside.ensures ∙ ap head_of c.as_slice.ensures.value,
)
