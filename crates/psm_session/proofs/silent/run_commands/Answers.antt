use Rattle.std.proofs.Common.{◌+◌, ℕ, Bool, List, [], ap, refl, sym, subst, ◌∙◌, arith}
use Rattle.psm_table.specs.Table.{Contents}
use Rattle.psm_code.specs.MachineInvariant.{AreLawful}
use Rattle.psm_session.specs.Ends.{EndsWith, beginning}
use Rattle.psm_session.specs.Steps.{Makes, standing}
use Rattle.psm_session.proofs.Commands.{SoFarSilent, not_false, not_true, silent_cut, silent_next, silent_none}
use Rattle.psm_session.proofs.silent.run_commands.Goals as goal

pub loop-index-init : goal.loop-index-init
loop-index-init g c =
    let tables : List Contents = g.S.Store.tables c.args.store.now in
    let s = beginning tables c.args.turns in
    let begun = subst (λ (committed : List Contents). SoFarSilent c.args.code.now c.args.commands.now 0 s [] (standing tables c.args.turns committed)) (sym c.requires.stands) (silent_none c.args.code.now c.args.commands.now s) in
    record {
      so_far = subst (λ (last : List ℕ). SoFarSilent c.args.code.now c.args.commands.now 0 s last (standing tables c.args.turns (g.S.Store.at c.args.store.now c.args.mark.now))) (sym c.new.ensures.items) begun;
      goes = refl;
      kept = c.requires.kept;
      committed = subst (AreLawful c.args.code.now) (sym c.requires.stands) c.requires.kept;
      marked = record { held = c.requires.held; depth_is = refl; counted = c.requires.counted };
    }

pub returns-then-not-end : goal.returns-then-not-end
returns-then-not-end g c =
    let end = c.in_ok-end.end in
    let s = beginning (g.S.Store.tables c.args.store.now) c.args.turns in
    let before = standing (g.S.Store.tables c.loop-index.store) c.loop-index.left (g.S.Store.at c.loop-index.store c.loop-index.mark) in
    let after = standing (g.S.Store.tables c.run_command.new.store) c.run_command.new.turns (g.S.Store.at c.run_command.new.store c.run_command.new.mark) in
    let stops = not_true end.goes_on c.if-not-end.true in
    subst (λ (b : Bool). EndsWith c.args.code.now c.args.commands.now s b end.piece.items c.run_command.new.turns) (sym stops)
    (silent_cut c.args.code.now c.args.commands.now c.loop-index.index c.index-commands-index.result (omega arith) c.index-commands-index.is s before after c.loop-index.last.piece.items end.piece.items c.loop-index.invariant.so_far
    (subst (λ (b : Bool). Makes c.args.code.now (c.loop-index.index + 1) before c.index-commands-index.result b end.piece.items after) stops c.in_ok-end.ensures.makes))

pub loop-index-preserved : goal.loop-index-preserved
loop-index-preserved g c =
    let end = c.in_ok-end.end in
    let s = beginning (g.S.Store.tables c.args.store.now) c.args.turns in
    let before = standing (g.S.Store.tables c.loop-index.store) c.loop-index.left (g.S.Store.at c.loop-index.store c.loop-index.mark) in
    let after = standing (g.S.Store.tables c.run_command.new.store) c.run_command.new.turns (g.S.Store.at c.run_command.new.store c.run_command.new.mark) in
    let goes = not_false end.goes_on c.if-not-end.false in
    let marked = c.in_ok-end.ensures.marked in
    let depth = c.loop-index.invariant.marked.depth_is in
    record {
      so_far =
          silent_next c.args.code.now c.args.commands.now c.loop-index.index c.index-commands-index.result (omega arith) c.index-commands-index.is s before after c.loop-index.last.piece.items end.piece.items c.loop-index.invariant.so_far
          (subst (λ (b : Bool). Makes c.args.code.now (c.loop-index.index + 1) before c.index-commands-index.result b end.piece.items after) goes c.in_ok-end.ensures.makes);
      goes = goes;
      kept = c.in_ok-end.ensures.kept;
      committed = c.in_ok-end.ensures.committed;
      marked = record { held = marked.held; depth_is = marked.depth_is ∙ depth; counted = marked.counted ∙ ap (λ (d : ℕ). d + 1) depth };
    }
