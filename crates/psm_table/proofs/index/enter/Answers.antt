use Rattle.std.proofs.Common.{◌∙◌}
use Rattle.psm_table.proofs.Entered.{entered-put, grow-put, one-put, room-for}
use Rattle.psm_table.proofs.index.enter.Goals as goal

pub put_all-requires-clause-room : goal.put_all-requires-clause-room
put_all-requires-clause-room c = room-for c.args.def.now c.args.lists.now c.args.row.now c.prepare_all.new.indexes.items c.in_ok-entries.entries.items c.in_ok-entries.ensures.entries

pub returns-clause-entered : goal.returns-clause-entered
returns-clause-entered c =
    entered-put c.args.def.now c.args.lists.now c.args.row.now c.prepare_all.new.indexes.items c.in_ok-entries.entries.items c.in_ok-entries.ensures.entries c.put_all.new.indexes.items
    (c.prepare_all.ensures.lists ∙ c.requires.lists) c.put_all.ensures.lists c.put_all.ensures.put

pub returns-clause-grow : goal.returns-clause-grow
returns-clause-grow c =
    grow-put c.args.indexes.now.items c.prepare_all.new.indexes.items c.put_all.new.indexes.items c.in_ok-entries.entries.items c.prepare_all.ensures.same c.put_all.ensures.lists c.put_all.ensures.put

pub returns-clause-one : goal.returns-clause-one
returns-clause-one c =
    one-put c.args.indexes.now.items c.prepare_all.new.indexes.items c.put_all.new.indexes.items c.in_ok-entries.entries.items c.prepare_all.ensures.same c.put_all.ensures.lists c.put_all.ensures.put
