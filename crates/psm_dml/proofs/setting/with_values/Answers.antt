use Rattle.std.proofs.Common.{◌<◌, List, length, get_or, sym, subst}
use Rattle.std.specs.Prelude.{All}
use Rattle.psm_value.specs.SqlType.{IsType}
use Rattle.psm_table.specs.declared.definition.Column.{Column}
use Rattle.psm_table.specs.Definition.{kinds_of}
use Rattle.psm_dml.proofs.Storings.{type_at}
use Rattle.psm_dml.proofs.setting.with_values.Goals as goal

pub stored_value-requires : goal.stored_value-requires
stored_value-requires c =
    let column = (get_or c.args.sets.now c.loop-at.at c.index-sets-at.result).column in
    let inside : column < length c.args.def.now.columns = c.requires.columns c.loop-at.at c.index-sets-at.result c.loop-at-test.true in
    type_at c.items.result.now column c.index-items-column.result (subst (λ (l : List Column). All IsType (kinds_of l)) (sym c.items.ensures) c.requires.types)
    (subst (λ (l : List Column). column < length l) (sym c.items.ensures) inside) c.index-items-column.is
