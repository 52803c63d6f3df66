use Rattle.std.proofs.Common.{◌-◌, length, Ok, Err, ap, ◌∙◌, arith}
use Rattle.psm_parse_expr.proofs.RunAnswered.{run_answered, type_fit}
use Rattle.psm_parse_expr.proofs.whole.parse_type.Goals as goal

pub returns-in-Ok : goal.returns-in-Ok
returns-in-Ok c = run_answered type_fit (100 - c.args.depth) c.args.depth (omega (arith, c.requires.shallow)) c.args.tokens.now c.args.at
    c.items-items.result.now c.of-cursor.result.rest.now c.items-items.ensures c.of-cursor.ensures
    (Ok c.in-Ok.kind) c.data_type-read.new.tokens.rest.now c.in-Ok.ensures (Ok (c.in-Ok.kind, c.saturating_sub.result))
    (ap (λ n. Ok (c.in-Ok.kind, n)) (c.saturating_sub.ensures ∙ ap (λ ts. length ts - length c.data_type-read.new.tokens.rest.now) c.items-items.ensures))

pub returns-in-Err : goal.returns-in-Err
returns-in-Err c = run_answered type_fit (100 - c.args.depth) c.args.depth (omega (arith, c.requires.shallow)) c.args.tokens.now c.args.at
    c.items-items.result.now c.of-cursor.result.rest.now c.items-items.ensures c.of-cursor.ensures
    (Err c.in-Err.halt) c.data_type-read.new.tokens.rest.now c.in-Err.ensures (Err c.fault_of.result) (ap Err c.fault_of.ensures)
