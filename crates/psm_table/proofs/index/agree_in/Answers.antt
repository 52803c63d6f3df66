use Rattle.std.proofs.Common.{sym, ◌∙◌, arith}
use Rattle.psm_table.proofs.Uniques.{agree_false, agree_true}
use Rattle.psm_table.proofs.index.agree_in.Goals as goal

pub returns-then-not-agree_at : goal.returns-then-not-agree_at
returns-then-not-agree_at c =
    agree_false c.args.a.now c.args.b.now c.args.columns.now c.loop-column.column-index c.loop-column-test.true
    (sym c.agree_at.ensures ∙ c.if-not-agree_at.true)

pub returns : goal.returns
returns c = agree_true c.args.a.now c.args.b.now c.args.columns.now c.loop-column.column-index (omega arith) c.loop-column.invariant
