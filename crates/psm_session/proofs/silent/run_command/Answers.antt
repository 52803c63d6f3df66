use Rattle.std.proofs.Common.{List, Ok, refl, sym, subst}
use Rattle.psm_table.specs.Table.{Contents}
use Rattle.psm_code.specs.MachineInvariant.{AreLawful}
use Rattle.psm_session.specs.Steps.{Makes, Settled, settled, standing}
use Rattle.psm_session.specs.declared.step.Step.{Step}
use Rattle.psm_session.proofs.CommandResults.{settled_makes, settles_committed, settles_tables}
use Rattle.psm_session.proofs.silent.run_command.Goals as goal

pub returns-clause-makes : goal.returns-clause-makes
returns-clause-makes g c =
    let mark = c.args.mark.now in
    let before : List Contents = g.S.Store.at c.args.store.now mark in
    let after : List Contents = g.S.Store.at c.work.new.store mark in
    let worked = standing (g.S.Store.tables c.work.new.store) c.work.new.turns in
    let start = standing (g.S.Store.tables c.args.store.now) c.args.turns.now before in
    let ended = standing (g.S.Store.tables c.settle.new.store) c.work.new.turns (g.S.Store.at c.settle.new.store c.settle.new.mark) in
    let end = c.in_ok-end.end in
    let made = subst (λ (committed : List Contents). Makes c.args.code.now c.args.number start c.args.command.now end.goes_on end.piece.items (settled c.args.command.now (worked committed)))
    (sym (c.in_ok-end.ensures.keeps mark c.requires.held tt).1) (c.in_ok-end.ensures.made before) in
    let settles = subst (λ (step : Step). Settled step c.args.command.now (worked after) ended) c.step_of.ensures (c.in_ok-settle.ensures.settles c.work.new.turns).1 in
    settled_makes c.args.code.now c.args.number start c.args.command.now (worked after) ended end.goes_on end.piece.items refl made settles

pub returns-clause-kept : goal.returns-clause-kept
returns-clause-kept g c =
    let mark = c.args.mark.now in
    let turns = c.work.new.turns in
    settles_tables (AreLawful c.args.code.now) c.step_of.result c.args.command.now (standing (g.S.Store.tables c.work.new.store) turns (g.S.Store.at c.work.new.store mark))
    (standing (g.S.Store.tables c.settle.new.store) turns (g.S.Store.at c.settle.new.store c.settle.new.mark)) c.settle.result (c.settle.ensures.settles turns)
    c.in_ok-end.ensures.kept (subst (AreLawful c.args.code.now) (sym (c.in_ok-end.ensures.keeps mark c.requires.held tt).1) c.requires.committed)

pub returns-clause-committed : goal.returns-clause-committed
returns-clause-committed g c =
    let mark = c.args.mark.now in
    let turns = c.work.new.turns in
    settles_committed (AreLawful c.args.code.now) c.step_of.result c.args.command.now (standing (g.S.Store.tables c.work.new.store) turns (g.S.Store.at c.work.new.store mark))
    (standing (g.S.Store.tables c.settle.new.store) turns (g.S.Store.at c.settle.new.store c.settle.new.mark)) (Ok c.in_ok-settle.field-0) (c.in_ok-settle.ensures.settles turns)
    c.in_ok-end.ensures.kept (subst (AreLawful c.args.code.now) (sym (c.in_ok-end.ensures.keeps mark c.requires.held tt).1) c.requires.committed)
