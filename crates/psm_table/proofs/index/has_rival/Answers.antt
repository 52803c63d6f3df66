use Rattle.std.proofs.Common.{sym, arith}
use Rattle.std.proofs.lemmas.List.Folds.{list_any_none}
use Rattle.psm_table.specs.Held.{live_rows}
use Rattle.psm_table.specs.Unique.{is_rival}
use Rattle.psm_table.proofs.Rivals.{no_rival}
use Rattle.psm_table.proofs.index.has_rival.Goals as goal

pub returns : goal.returns
returns c =
    sym (list_any_none (is_rival c.args.def.now c.args.row.now) (live_rows c.args.rows.now.pairs)
    (λ n d l. no_rival c.args.def.now c.args.row.now c.args.rows.now.pairs c.requires.order c.requires.at_keys c.requires.ascend n d l c.args.indexes.now
    (c.requires.entered n d l) (λ k x m i null. c.loop-i.invariant k x m (omega (arith, i, c.loop-i-test.false)) null)))
