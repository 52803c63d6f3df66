use Rattle.std.proofs.Common.{◌∙◌}
use Rattle.psm_check_stmt.proofs.Once.{table_added}
use Rattle.psm_check_stmt.proofs.files.declare_table.Goals as goal

pub returns : goal.returns
returns c =
    let inside = c.symbols.inside in
    table_added inside.functions inside.procedures c.args.symbols.now inside.tables c.add.new.self inside.keys c.add-2.new.self c.args.table.now c.in_ok-columns.columns c.first.result
    c.in_ok-add.field-0 c.in_ok-add-2.field-0 c.symbols.view_is c.in_ok-columns.ensures (c.first.ensures ∙ c.keys_of.ensures.first) c.in_ok-add.ensures c.in_ok-add-2.ensures
