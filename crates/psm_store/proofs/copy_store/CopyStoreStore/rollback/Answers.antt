use Rattle.std.proofs.Common.{arith}
use Rattle.psm_store.proofs.Marked.{rolled_kept, rolled_tables, rolled_defs, rolled_keeps}
use Rattle.psm_store.proofs.copy_store.CopyStoreStore.rollback.Goals as goal

pub invariant_of-self : goal.invariant_of-self
invariant_of-self g c =
    rolled_kept c.args.self.now c.args.mark c.self.inside.tables c.restore.new.tables c.self.inside.copies c.restore.new.self c.self.inside.uncopied c.len.result
    c.self.view_is c.requires.depth c.restore.ensures.outside c.len.ensures c.restore.ensures.restored c.self.invariant

pub returns-clause-tables : goal.returns-clause-tables
returns-clause-tables g c =
    rolled_tables c.args.self.now c.args.mark c.self.inside.tables c.restore.new.tables c.self.inside.copies c.restore.new.self c.self.inside.uncopied c.len.result
    c.self.view_is c.requires.depth c.restore.ensures.outside c.len.ensures c.restore.ensures.restored

pub returns-clause-defs : goal.returns-clause-defs
returns-clause-defs g c =
    rolled_defs c.args.self.now c.args.mark c.self.inside.tables c.restore.new.tables c.self.inside.copies c.restore.new.self c.self.inside.uncopied c.len.result
    c.self.view_is c.requires.depth c.restore.ensures.outside c.len.ensures c.restore.ensures.restored c.self.invariant

pub returns-clause-stands : goal.returns-clause-stands
returns-clause-stands g c =
    (rolled_keeps c.args.self.now c.args.mark c.self.inside.tables c.restore.new.tables c.self.inside.copies c.restore.new.self c.self.inside.uncopied c.len.result
    c.self.view_is c.requires.depth c.restore.ensures.outside c.len.ensures c.restore.ensures.restored c.args.mark c.requires (omega arith)).1

pub returns-clause-keeps : goal.returns-clause-keeps
returns-clause-keeps g c = λ m held outside.
    rolled_keeps c.args.self.now c.args.mark c.self.inside.tables c.restore.new.tables c.self.inside.copies c.restore.new.self c.self.inside.uncopied c.len.result
    c.self.view_is c.requires.depth c.restore.ensures.outside c.len.ensures c.restore.ensures.restored m held (omega (arith, outside.0))
