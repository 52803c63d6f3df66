use Rattle.std.proofs.Common.{sym, ap, ◌∙◌, Some}
use Rattle.std.specs.Option.{option_copied}
use Rattle.psm_tablecode.specs.Tests.{made_equal}
use Rattle.psm_tablecode.proofs.Windows.{three_by}
use Rattle.psm_query.proofs.firsts.three_at.Goals as goal

pub returns : goal.returns
returns c =
    c.made_equal.ensures
    ∙ three_by (made_equal c.args.column c.args.vars.now) c.args.lines.now c.args.at (Some c.in_ok-left.left.now) (Some c.in_ok-right.right.now) (Some c.in_ok-test.test.now)
    (sym (ap option_copied c.in_ok-left.was) ∙ c.op.ensures.op) (sym (ap option_copied c.in_ok-right.was) ∙ c.op-2.ensures.op) (sym (ap option_copied c.in_ok-test.was) ∙ c.op-3.ensures.op)
