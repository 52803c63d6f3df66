use Rattle.std.proofs.Common.{refl}
use Rattle.psm_table.specs.Table.{with_row}
use Rattle.psm_store.proofs.Seen.{defs-seen, seen-after}
use Rattle.psm_store.proofs.tables.Tables.change.Goals as goal

pub returns-clause-tables : goal.returns-clause-tables
returns-clause-tables c =
    seen-after (λ x. with_row x c.args.row) c.change_row.result c.self.inside.tables.items c.args.self.now c.args.t c.index_mut.result.now c.change_row.new.table
    c.self.view_is c.requires.exists c.index_mut.ensures.value c.change_row.ensures.table

pub returns-clause-defs : goal.returns-clause-defs
returns-clause-defs c =
    defs-seen (λ x. with_row x c.args.row) c.change_row.result c.self.inside.tables.items c.args.self.now c.args.t c.index_mut.result.now c.change_row.new.table
    c.self.view_is c.requires.exists c.index_mut.ensures.value c.change_row.ensures.table (λ x. refl)
