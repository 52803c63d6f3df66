use Rattle.std.proofs.Common.{arith}
use Rattle.store_rows.proofs.Rooms.{room_with}
use Rattle.store_rows.proofs.alone.Alone.revive.Goals as goal

pub revive-requires-clause-room : goal.revive-requires-clause-room
revive-requires-clause-room g c = room_with c.args.self.now.table.contents c.in_ok-row.row (omega (arith, c.len.ensures.value, c.len.ensures.table.bound, c.if-len-eq-MOST_ROWS.false))
