use Rattle.std.proofs.lemmas.Result.{err_from_is_err_and}
use Rattle.psm_check_script.specs.Seen.{commands_seen}
use Rattle.psm_build.proofs.Building.{script_refused, script_there, script_without_tree}
use Rattle.psm_build.proofs.code.script_over.Goals as goal

pub returns-in_err-tree : goal.returns-in_err-tree
returns-in_err-tree c =
    let p = err_from_is_err_and c.from_residual.result c.from_residual.ensures.1 in
    rw (p.1, p.2) (script_without_tree c.args.code.now _ _ c.in_err-tree.ensures)

pub lower_script-requires : goal.lower_script-requires
lower_script-requires c = script_there c.args.code.now c.in_ok-tree.tree (commands_seen c.in-Ok.script.commands) c.in-Ok.ensures.0 c.in-Ok.ensures.1

pub returns : goal.returns
returns c = rw c.refused_script.ensures (script_refused c.args.code.now c.args.bytes.now c.in_ok-tree.tree c.in-Err.fault c.in_ok-tree.ensures c.in-Err.ensures)
