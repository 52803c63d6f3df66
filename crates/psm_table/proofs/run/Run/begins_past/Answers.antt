use Rattle.std.proofs.Common.{ap, ◌∙◌}
use Rattle.psm_table.specs.Leading.{leading_order}
use Rattle.psm_table.specs.PairPosition.{probe_key}
use Rattle.psm_table.specs.Runs.{head_of}
use Rattle.psm_table.proofs.Heads.{head_short, head_past}
use Rattle.psm_table.proofs.run.Run.begins_past.Goals as goal

pub returns-in-Less : goal.returns-in-Less
returns-in-Less g c =
    head_short c.args.self.now (probe_key c.args.probe) c.args.is_after
    (c.in-Less.ensures ∙ ap (λ h. leading_order h c.args.leading.now) (c.self.invariant.3 ∙ ap head_of c.self.view_is) ∙ ap (leading_order (head_of c.args.self.now)) c.requires.leading)

pub returns-in-Greater : goal.returns-in-Greater
returns-in-Greater g c =
    head_past c.args.self.now (probe_key c.args.probe) c.args.is_after
    (c.in-Greater.ensures ∙ ap (λ h. leading_order h c.args.leading.now) (c.self.invariant.3 ∙ ap head_of c.self.view_is) ∙ ap (leading_order (head_of c.args.self.now)) c.requires.leading)
