use Rattle.std.proofs.Common.{◌∙◌, arith, sym}
use Rattle.psm_undostore.proofs.Undoings.{next_good, next_undoing, nothing_left}
use Rattle.psm_undostore.proofs.journal.undo_from.Goals as goal

pub undo_entry-requires-clause-good : goal.undo_entry-requires-clause-good
undo_entry-requires-clause-good g c =
    next_good c.args.position c.args.tables.now c.args.entries.now.items c.args.steps.now c.loop-entries.tables c.loop-entries.entries.items c.pop.new.self.items c.loop-entries.steps c.in-Some.entry
    c.loop-entries.invariant c.in-Some.ensures.items

pub loop-entries-preserved-in-Some : goal.loop-entries-preserved-in-Some
loop-entries-preserved-in-Some g c =
    next_undoing c.args.position c.args.tables.now c.args.entries.now.items c.args.steps.now c.loop-entries.tables c.loop-entries.entries.items c.pop.new.self.items c.loop-entries.steps c.in-Some.entry
    c.loop-entries.invariant c.in-Some.ensures.items c.undo_entry.new.tables c.undo_entry.new.steps
    (omega (arith, c.loop-entries-test.true, c.len.ensures)) c.undo_entry.ensures.taken c.undo_entry.ensures.steps

pub returns-clause-tables : goal.returns-clause-tables
returns-clause-tables g c =
    sym (nothing_left c.args.position c.loop-entries.tables c.loop-entries.entries.items (omega (arith, c.loop-entries-test.false, c.len.ensures)))
    ∙ c.loop-entries.invariant.tables
