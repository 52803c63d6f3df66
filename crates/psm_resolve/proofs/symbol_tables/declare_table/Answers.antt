use Rattle.std.proofs.Common.{map}
use Rattle.psm_check_expr.specs.Keys.{key_names}
use Rattle.psm_resolve.proofs.Once.{table_added}
use Rattle.psm_resolve.proofs.symbol_tables.declare_table.Goals as goal

pub returns : goal.returns
returns c =
    let inside = c.symbols.inside in
    table_added (map (λ p. (p.0, key_names p.1)) inside.keys) inside.functions inside.procedures c.args.symbols.now inside.tables c.add.new.self c.args.table.now c.in_ok-columns.columns
    c.in_ok-add.field-0 c.symbols.view_is c.in_ok-columns.ensures c.in_ok-add.ensures
