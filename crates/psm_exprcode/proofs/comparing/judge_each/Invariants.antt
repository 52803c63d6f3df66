use Rattle.std.proofs.Common.{◌≡◌, take}
use Rattle.std.specs.Prelude.{reverse}
use Rattle.psm_exprcode.specs.Among.{data_in}
use Rattle.psm_exprcode.specs.Comparison.{among}
use Rattle.psm_exprcode.proofs.comparing.judge_each.Given as goal

abbrev pub invariant-loop-other : goal.invariant-loop-other
invariant-loop-other l = l.truth ≡ among l.value (data_in (reverse (take l.other-index l.others)))
