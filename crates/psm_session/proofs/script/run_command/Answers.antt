use Rattle.std.proofs.Common.{List, refl, sym, subst}
use Rattle.psm_table.specs.Table.{Contents}
use Rattle.psm_code.specs.MachineInvariant.{AreLawful}
use Rattle.psm_session.specs.Put.{sunk_of}
use Rattle.psm_session.specs.Steps.{Closes, standing}
use Rattle.psm_session.proofs.CommandResults.{settles_comes, settles_committed, settles_tables}
use Rattle.psm_session.proofs.script.run_command.Goals as goal

pub returns-clause-comes : goal.returns-clause-comes
returns-clause-comes g c =
    let mark = c.args.mark.now in
    let before : List Contents = g.S.Store.at c.args.store.now mark in
    let after : List Contents = g.S.Store.at c.show-step.new.store mark in
    let shown = standing (g.S.Store.tables c.show-step.new.store) c.show-step.new.turns in
    let sunk = sunk_of g.K.Sink.written g.K.Sink.faults c.args.out.now c.show-step.new.out in
    let start = standing (g.S.Store.tables c.args.store.now) c.args.turns.now before in
    let same = (c.show-step.ensures.keeps mark c.requires.held tt).1 in
    settles_comes c.args.code.now c.args.number start c.args.command.now (shown after) (standing (g.S.Store.tables c.settle.new.store) c.show-step.new.turns (g.S.Store.at c.settle.new.store c.settle.new.mark)) sunk
    c.show-step.result c.settle.result refl
    (subst (λ (committed : List Contents). Closes c.args.code.now c.args.number start c.args.command.now sunk (shown committed) c.show-step.result) (sym same) (c.show-step.ensures.shows before))
    (c.settle.ensures.settles c.show-step.new.turns)

pub returns-clause-kept : goal.returns-clause-kept
returns-clause-kept g c =
    let mark = c.args.mark.now in
    let turns = c.show-step.new.turns in
    settles_tables (AreLawful c.args.code.now) c.show-step.result c.args.command.now (standing (g.S.Store.tables c.show-step.new.store) turns (g.S.Store.at c.show-step.new.store mark))
    (standing (g.S.Store.tables c.settle.new.store) turns (g.S.Store.at c.settle.new.store c.settle.new.mark)) c.settle.result (c.settle.ensures.settles turns)
    c.show-step.ensures.kept (subst (AreLawful c.args.code.now) (sym (c.show-step.ensures.keeps mark c.requires.held tt).1) c.requires.committed)

pub returns-clause-committed : goal.returns-clause-committed
returns-clause-committed g c =
    let mark = c.args.mark.now in
    let turns = c.show-step.new.turns in
    settles_committed (AreLawful c.args.code.now) c.show-step.result c.args.command.now (standing (g.S.Store.tables c.show-step.new.store) turns (g.S.Store.at c.show-step.new.store mark))
    (standing (g.S.Store.tables c.settle.new.store) turns (g.S.Store.at c.settle.new.store c.settle.new.mark)) c.settle.result (c.settle.ensures.settles turns)
    c.show-step.ensures.kept (subst (AreLawful c.args.code.now) (sym (c.show-step.ensures.keeps mark c.requires.held tt).1) c.requires.committed)
