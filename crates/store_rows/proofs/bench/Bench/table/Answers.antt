use Rattle.store_rows.proofs.PartsRows.{table_of}
use Rattle.store_rows.proofs.bench.Bench.table.Goals as goal

pub returns : goal.returns
returns g c = table_of (g.S.Store.tables c.args.self.now.store) c.args.t c.table.result.now.contents c.requires.bench.parts c.table.ensures
