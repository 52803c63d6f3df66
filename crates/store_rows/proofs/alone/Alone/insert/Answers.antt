use Rattle.store_rows.proofs.PartsRows.{row_fits}
use Rattle.store_rows.proofs.alone.Alone.insert.Goals as goal

pub insert-requires : goal.insert-requires
insert-requires g c = row_fits c.args.self.now.table.contents.def c.args.row c.requires.alone.parts c.requires.parts
