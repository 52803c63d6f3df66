use Rattle.std.proofs.Common.{◌≡◌, ◌∙◌, ◌+◌, ◌<◌, length, drop, ap, arith}
use Rattle.psm_exprcode.specs.Lent.{lines_in}
use Rattle.psm_exprcode.specs.Numbered.{line_of}
use Rattle.psm_exprcode.specs.Ways.{allowed}
use Rattle.psm_exprcode.specs.WellFormed.{is_line}
use Rattle.psm_exprcode.proofs.Sharing.{stated_there, line_wrong, line_right}
use Rattle.psm_exprcode.proofs.checking.are_right.Goals as goal

pub is_right-requires : goal.is_right-requires
is_right-requires c =
    let there : c.line-item.result.stack < length c.args.lines.now.stacks.now =
    stated_there c.args.lines.now.stacks.now c.args.lines.now.lines.now c.loop-at.at c.line-item.result c.args.lines.now.stated (omega arith) c.line-item.is in
    omega (arith, there, ap length c.after.ensures.stacks)

pub returns-then-not-is_right : goal.returns-then-not-is_right
returns-then-not-is_right c =
    let right : c.is_right.result ≡ is_line (allowed c.args.kinds) c.args.end c.loop-at.at (line_of c.args.lines.now.stacks.now c.line-item.result) (drop (c.loop-at.at + 1) (lines_in c.args.lines.now)) =
    c.is_right.ensures ∙ ap (λ s. is_line (allowed c.args.kinds) c.args.end c.loop-at.at (line_of s c.line-item.result) (lines_in c.after.result)) c.after.ensures.stacks
    ∙ ap (is_line (allowed c.args.kinds) c.args.end c.loop-at.at (line_of c.args.lines.now.stacks.now c.line-item.result)) c.after.ensures.lines in
    line_wrong (allowed c.args.kinds) c.args.end c.args.lines.now.stacks.now c.args.lines.now.lines.now c.loop-at.at c.line-item.result c.is_right.result (omega arith) c.line-item.is right c.if-not-is_right.true
    ∙ c.loop-at.invariant

pub loop-at-preserved : goal.loop-at-preserved
loop-at-preserved c =
    let right : c.is_right.result ≡ is_line (allowed c.args.kinds) c.args.end c.loop-at.at (line_of c.args.lines.now.stacks.now c.line-item.result) (drop (c.loop-at.at + 1) (lines_in c.args.lines.now)) =
    c.is_right.ensures ∙ ap (λ s. is_line (allowed c.args.kinds) c.args.end c.loop-at.at (line_of s c.line-item.result) (lines_in c.after.result)) c.after.ensures.stacks
    ∙ ap (is_line (allowed c.args.kinds) c.args.end c.loop-at.at (line_of c.args.lines.now.stacks.now c.line-item.result)) c.after.ensures.lines in
    line_right (allowed c.args.kinds) c.args.end c.args.lines.now.stacks.now c.args.lines.now.lines.now c.loop-at.at c.line-item.result c.is_right.result (omega arith) c.line-item.is right c.if-not-is_right.false
    ∙ c.loop-at.invariant
