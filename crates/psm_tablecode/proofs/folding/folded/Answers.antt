use Rattle.std.proofs.Common.{◌≡◌, arith, ap, length, subst, ◌∙◌}
use Rattle.std.specs.Prelude.{reverse}
use Rattle.psm_tablecode.specs.Folding.{IsDone}
use Rattle.psm_tablecode.specs.Tests.{are_quiet}
use Rattle.psm_tablecode.proofs.FoldSteps.{done_all, quiet_end}
use Rattle.psm_tablecode.proofs.folding.folded.Goals as goal

pub returns : goal.returns
returns c =
    let all : c.loop-at.at ≡ length c.args.lines.now = omega (arith, c.loop-at-test.false, c.loop-at.auto.at-end, c.len-at-end.ensures) in
    let is : IsDone c.args.vars.now c.args.lines.now (length c.args.lines.now) (reverse c.loop-at.done.items) =
    subst (λ at. IsDone c.args.vars.now c.args.lines.now at (reverse c.loop-at.done.items)) all c.loop-at.invariant in
    (c.in_ok-bare.ensures ∙ done_all c.args.vars.now c.args.lines.now c.loop-at.done.items is, ap are_quiet c.in_ok-bare.ensures ∙ quiet_end c.args.vars.now c.args.lines.now c.loop-at.done.items is)
