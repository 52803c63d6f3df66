use Rattle.std.proofs.Common.{◌∙◌, ap, arith}
use Rattle.psm_rules.specs.FileFaults.{keys_of, table_elements}
use Rattle.psm_check_stmt.specs.Keys.{NoKey, and_keys, first_kept, is_one, kept}
use Rattle.psm_check_stmt.proofs.TableKeys.{first_is_kept, keys_end, keys_next, one_kept}
use Rattle.psm_check_stmt.proofs.tables.keys_of.Goals as goal

pub loop-element-preserved : goal.loop-element-preserved
loop-element-preserved c =
    keys_next c.items-element-items.result.now c.loop-element.element-index c.element-item.result (kept c.loop-element.keys) (kept c.with_keys-keys-in-loop-element.result)
    (and_keys NoKey (keys_of (table_elements c.args.table.now))) (omega arith) c.element-item.is c.with_keys-keys-in-loop-element.ensures c.loop-element.invariant

pub returns-clause-one : goal.returns-clause-one
returns-clause-one c =
    let keys = keys_of (table_elements c.args.table.now) in
    ap is_one (keys_end c.items-element-items.result.now c.loop-element.element-index (kept c.loop-element.keys) keys (omega arith) c.loop-element.invariant) ∙ one_kept keys

pub returns-clause-first : goal.returns-clause-first
returns-clause-first c =
    let keys = keys_of (table_elements c.args.table.now) in
    ap first_kept (keys_end c.items-element-items.result.now c.loop-element.element-index (kept c.loop-element.keys) keys (omega arith) c.loop-element.invariant) ∙ first_is_kept keys
