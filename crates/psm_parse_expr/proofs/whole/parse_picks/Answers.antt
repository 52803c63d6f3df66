use Rattle.std.proofs.Common.{◌-◌, arith}
use Rattle.psm_tree.proofs.ExprFits.{picks_fit}
use Rattle.psm_parse_expr.proofs.RunAnswered.{run_answered}
use Rattle.psm_parse_expr.proofs.whole.parse_picks.Goals as goal

pub returns : goal.returns
returns c = run_answered picks_fit (100 - c.args.depth) c.args.depth (omega (arith, c.requires.shallow)) c.args.tokens.now c.args.at
    c.items.result.now c.of-cursor.result.rest.now c.items.ensures c.of-cursor.ensures
    c.picks-read.result c.picks-read.new.tokens.rest.now c.picks-read.ensures c.numbered.result c.numbered.ensures
