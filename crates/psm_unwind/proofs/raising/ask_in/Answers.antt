use Rattle.std.proofs.Common.{refl}
use Rattle.psm_code.specs.Parts.{line_at}
use Rattle.psm_unwind.specs.View.{machine_of}
use Rattle.psm_unwind.proofs.Arriving.{if_ok_map, placed}
use Rattle.psm_unwind.proofs.Unwinding.{unwinds_none, unwinds_same}
use Rattle.psm_unwind.proofs.raising.ask_in.Goals as goal

pub returns-in_err-hold-in-Some-clause-unwinds : goal.returns-in_err-hold-in-Some-clause-unwinds
returns-in_err-hold-in-Some-clause-unwinds g c = unwinds_same (g.S.Store.holds c.args.store.now) (g.S.Store.at c.args.store.now) (g.S.Store.marks c.args.store.now) (g.S.Store.tables c.args.store.now) c.args.run.now c.hold.new.run c.requires.nested c.hold.ensures.same

pub returns-in-None-clause-unwinds : goal.returns-in-None-clause-unwinds
returns-in-None-clause-unwinds g c = unwinds_none (g.S.Store.holds c.args.store.now) (g.S.Store.at c.args.store.now) (g.S.Store.marks c.args.store.now) (g.S.Store.tables c.args.store.now) c.args.run.now c.args.run.now c.requires.nested refl refl refl refl

pub returns-in_ok-hold-in-Some-clause-expected : goal.returns-in_ok-hold-in-Some-clause-expected
returns-in_ok-hold-in-Some-clause-expected g c =
    if_ok_map c.meet.result c.meet.ensures.expected
    (λ x h. placed c.args.routine.now (line_at c.args.routine.now c.args.run.now.running.line) c.in-Some.place c.args.condition.now (machine_of (g.S.Store.tables c.args.store.now) (g.S.Store.at c.args.store.now) c.args.run.now) (machine_of (g.S.Store.tables c.args.store.now) (g.S.Store.at c.args.store.now) c.hold.new.run) (machine_of (g.S.Store.tables c.meet.new.store) (g.S.Store.at c.meet.new.store) c.meet.new.run) x
    c.in-Some.ensures (c.in_ok-hold-in-Some.ensures.held (g.S.Store.tables c.args.store.now) (g.S.Store.at c.args.store.now)) h)
