use Rattle.std.proofs.Common.{◌-◌, sym, ap, ◌∙◌}
use Rattle.std.specs.Option.{option_copied}
use Rattle.psm_tablecode.proofs.Windows.{free_back, free_none}
use Rattle.psm_tablecode.proofs.asking.free_after.Goals as goal

pub returns-in-Some-clause-value : goal.returns-in-Some-clause-value
returns-in-Some-clause-value c =
    free_back c.args.lines.now c.args.at c.args.free c.free_before.result c.in-Some.op.now c.requires.within
    (sym (ap option_copied c.in-Some.is) ∙ c.op.ensures.op) c.requires.after c.free_before.ensures.value

pub returns-in-None-clause-value : goal.returns-in-None-clause-value
returns-in-None-clause-value c = sym (free_none c.args.lines.now (c.args.at - 1) (sym (ap option_copied c.in-None.is) ∙ c.op.ensures.op))
