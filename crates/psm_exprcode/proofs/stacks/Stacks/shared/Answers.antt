use Rattle.std.proofs.Common.{◌≡◌, ◌-◌, true, rules}
use Rattle.std.specs.Prelude.{slice_get}
use Rattle.psm_exprcode.specs.WellFormed.{is_known}
use Rattle.psm_exprcode.proofs.Sharing.{sharing_same}
use Rattle.psm_exprcode.proofs.stacks.Stacks.shared.Goals as goal

pub loop-letter-preserved : goal.loop-letter-preserved
loop-letter-preserved c =
    let known : is_known c.in-Some.letter (slice_get c.args.letters.now (c.loop-letter.depth - 1)) ≡ true = search rules in
    sharing_same c.args.self.now c.args.letters.now c.loop-letter.rest c.in-Some.below c.loop-letter.shared c.loop-letter.depth c.loop-letter.count c.in-Some.letter c.loop-letter.invariant
    c.in-Some.ensures.parts c.in-Some.ensures.earlier known
