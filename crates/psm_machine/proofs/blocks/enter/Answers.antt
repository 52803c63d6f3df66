use Rattle.std.proofs.Common.{refl, ap, sym, ◌∙◌}
use Rattle.std.specs.Option.{option_copied}
use Rattle.psm_machine.proofs.Standing.{still_marks}
use Rattle.psm_machine.proofs.blocks.enter.Goals as goal

pub returns-else-block-clause-expected : goal.returns-else-block-clause-expected
returns-else-block-clause-expected g c =
    rw (sym c.block_at.ensures ∙ ap option_copied c.in-Some.is, c.if-block.false) (c.enter_plain.ensures.expected (g.S.Store.tables c.args.store.now) (g.S.Store.at c.args.store.now))

pub returns-in-None-clause-still : goal.returns-in-None-clause-still
returns-in-None-clause-still g c =
    still_marks (g.S.Store.holds c.args.store.now) (g.S.Store.at c.args.store.now) (g.S.Store.marks c.args.store.now) c.args.run.now c.args.run.now (record { marks = refl; bound = refl; base = refl })

pub returns-else-block-clause-still : goal.returns-else-block-clause-still
returns-else-block-clause-still g c =
    still_marks (g.S.Store.holds c.args.store.now) (g.S.Store.at c.args.store.now) (g.S.Store.marks c.args.store.now) c.args.run.now c.enter_plain.new.run c.enter_plain.ensures.marks

pub returns-then-block-clause-still : goal.returns-then-block-clause-still
returns-then-block-clause-still g c = record { stand = λ s. c.enter_atomic.ensures.stand; outer = c.enter_atomic.ensures.outer }
