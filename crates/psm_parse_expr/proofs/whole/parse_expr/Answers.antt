use Rattle.std.proofs.Common.{◌-◌, arith}
use Rattle.psm_tree.proofs.ExprFits.{expr_fit}
use Rattle.psm_parse_expr.proofs.RunAnswered.{run_answered}
use Rattle.psm_parse_expr.proofs.whole.parse_expr.Goals as goal

pub returns : goal.returns
returns c = run_answered expr_fit (100 - c.args.depth) c.args.depth (omega (arith, c.requires.shallow)) c.args.tokens.now c.args.at
    c.items.result.now c.of-cursor.result.rest.now c.items.ensures c.of-cursor.ensures
    c.expr-read.result c.expr-read.new.tokens.rest.now c.expr-read.ensures c.numbered.result c.numbered.ensures
