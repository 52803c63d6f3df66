use Rattle.std.proofs.Common.{suc, ◌+◌, ◌-◌, ◌≤◌, ◌≡◌, length, arith}
use Rattle.psm_exprcode.proofs.Among.{enough, below_is}
use Rattle.psm_exprcode.proofs.comparing.index_below.Goals as goal

pub overflow_sub-result-2 : goal.overflow_sub-result-2
overflow_sub-result-2 c =
    let e : suc c.args.count ≤ length c.args.operands.now = enough (suc c.args.count) c.args.operands.now c.requires in
    omega arith

pub returns-clause-index : goal.returns-clause-index
returns-clause-index c =
    let e : suc c.args.count ≤ length c.args.operands.now = enough (suc c.args.count) c.args.operands.now c.requires in
    omega arith

pub returns-clause-below : goal.returns-clause-below
returns-clause-below c =
    let e : suc c.args.count ≤ length c.args.operands.now = enough (suc c.args.count) c.args.operands.now c.requires in
    let f : length c.args.operands.now - 1 - c.args.count + suc c.args.count ≡ length c.args.operands.now = omega arith in
    below_is (suc c.args.count) (length c.args.operands.now - 1 - c.args.count) c.args.operands.now f
