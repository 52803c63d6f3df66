use Rattle.std.proofs.Common.{◌∙◌, ap, sym, subst}
use Rattle.std.specs.Prelude.{All}
use Rattle.psm_table.specs.Runs.{joined, IsRun}
use Rattle.psm_table.proofs.Joined.{pairs_cut, runs_cut}
use Rattle.psm_table.proofs.runs.cut_at.Goals as goal

pub returns-clause-pairs : goal.returns-clause-pairs
returns-clause-pairs g c =
    ap joined c.insert_reserved.ensures.items
    ∙ pairs_cut c.args.runs.now.items c.args.at c.cut-upper.new.self c.cut-upper.result c.index_mut.result.now c.requires.inside c.index_mut.ensures.value c.cut-upper.ensures.pairs

pub returns-clause-runs : goal.returns-clause-runs
returns-clause-runs g c =
    subst (All IsRun) (sym c.insert_reserved.ensures.items)
    (runs_cut c.args.runs.now.items c.args.at c.cut-upper.new.self c.cut-upper.result c.requires.others c.cut-upper.ensures.lower c.cut-upper.ensures.upper c.requires.inside)
