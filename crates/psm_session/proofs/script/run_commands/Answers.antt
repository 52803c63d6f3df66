use Rattle.std.proofs.Common.{◌+◌, ◌<◌, ℕ, List, ap, sym, subst, ◌∙◌, arith}
use Rattle.psm_table.specs.Table.{Contents}
use Rattle.psm_code.specs.MachineInvariant.{AreLawful}
use Rattle.psm_unwind.specs.Marks.{most_open}
use Rattle.psm_session.specs.Ends.{beginning}
use Rattle.psm_session.specs.Steps.{standing}
use Rattle.psm_session.proofs.Marking.{keeps_first, keeps_further, marked_first, marked_further}
use Rattle.psm_session.proofs.Puts.{sunk}
use Rattle.psm_session.proofs.Scripts.{SoFar, done, ends_memory, ends_turns_used, ends_unmarked, ends_write_fault, so_far_next, so_far_none}
use Rattle.psm_session.proofs.script.run_commands.Goals as goal

pub loop-index-init : goal.loop-index-init
loop-index-init g c =
    let tables : List Contents = g.S.Store.tables c.args.store.now in
    let s = beginning tables c.args.turns.now in
    let w = g.K.Sink.written c.args.out.now in
    let f = g.K.Sink.faults c.args.out.now in
    record {
      so_far = subst (λ (committed : List Contents). SoFar c.args.code.now c.args.commands.now 0 s (sunk w f w f) (standing tables c.args.turns.now committed)) (sym c.requires.stands) (so_far_none c.args.code.now c.args.commands.now s w f);
      kept = c.requires.kept;
      committed = subst (AreLawful c.args.code.now) (sym c.requires.stands) c.requires.kept;
      marked = marked_first (g.S.Store.holds c.args.store.now) c.args.mark (g.S.Store.marks c.args.store.now) c.requires.held c.requires.counted;
      keeps = keeps_first c.args.mark (g.S.Store.holds c.args.store.now) (g.S.Store.at c.args.store.now);
    }

pub run_command-requires-clause-kept : goal.run_command-requires-clause-kept
run_command-requires-clause-kept g c = c.loop-index.invariant.kept

pub run_command-requires-clause-few : goal.run_command-requires-clause-few
run_command-requires-clause-few g c = subst (λ (n : ℕ). n + 1 < most_open) (c.requires.counted ∙ sym c.loop-index.invariant.marked.count) c.requires.few

pub run_command-requires-clause-held : goal.run_command-requires-clause-held
run_command-requires-clause-held g c = c.loop-index.invariant.marked.held

pub run_command-requires-clause-counted : goal.run_command-requires-clause-counted
run_command-requires-clause-counted g c = c.loop-index.invariant.marked.count ∙ ap (λ (d : ℕ). d + 1) (sym c.loop-index.invariant.marked.depth)

pub run_command-requires-clause-committed : goal.run_command-requires-clause-committed
run_command-requires-clause-committed g c = c.loop-index.invariant.committed

pub returns-in-Ok-TurnsUsed-clause-ends : goal.returns-in-Ok-TurnsUsed-clause-ends
returns-in-Ok-TurnsUsed-clause-ends g c =
    ends_turns_used c.args.code.now c.args.commands.now c.loop-index.index c.index-commands-index.result (omega arith) c.index-commands-index.is (beginning (g.S.Store.tables c.args.store.now) c.args.turns.now)
    (standing (g.S.Store.tables c.loop-index.store) c.loop-index.turns (g.S.Store.at c.loop-index.store c.loop-index.transaction))
    (standing (g.S.Store.tables c.run_command.new.store) c.run_command.new.turns (g.S.Store.at c.run_command.new.store c.run_command.new.mark))
    (g.K.Sink.written c.args.out.now) (g.K.Sink.written c.loop-index.out) (g.K.Sink.written c.run_command.new.out) (g.K.Sink.faults c.args.out.now) (g.K.Sink.faults c.loop-index.out) (g.K.Sink.faults c.run_command.new.out)
    c.loop-index.invariant.so_far c.in-Ok-TurnsUsed.field-0 c.in-Ok-TurnsUsed.field-0-is c.in-Ok-TurnsUsed.ensures.comes

pub returns-in-Ok-TurnsUsed-clause-marked : goal.returns-in-Ok-TurnsUsed-clause-marked
returns-in-Ok-TurnsUsed-clause-marked g c =
    marked_further c.args.mark (g.S.Store.holds c.args.store.now) (g.S.Store.at c.args.store.now) c.loop-index.transaction (g.S.Store.holds c.loop-index.store) (g.S.Store.at c.loop-index.store) (g.S.Store.marks c.loop-index.store)
    c.loop-index.invariant.marked c.loop-index.invariant.keeps
    (g.S.Store.holds c.run_command.new.store) (g.S.Store.marks c.run_command.new.store) c.run_command.new.mark c.in-Ok-TurnsUsed.ensures.marked

pub returns-in-Ok-TurnsUsed-clause-keeps : goal.returns-in-Ok-TurnsUsed-clause-keeps
returns-in-Ok-TurnsUsed-clause-keeps g c =
    keeps_further c.args.mark (g.S.Store.holds c.args.store.now) (g.S.Store.at c.args.store.now) c.loop-index.transaction (g.S.Store.holds c.loop-index.store) (g.S.Store.at c.loop-index.store) (g.S.Store.marks c.loop-index.store)
    c.loop-index.invariant.marked c.loop-index.invariant.keeps
    (g.S.Store.holds c.run_command.new.store) (g.S.Store.at c.run_command.new.store) c.run_command.ensures.keeps

pub returns-in-Ok-WriteFault-clause-ends : goal.returns-in-Ok-WriteFault-clause-ends
returns-in-Ok-WriteFault-clause-ends g c =
    ends_write_fault c.args.code.now c.args.commands.now c.loop-index.index c.index-commands-index.result (omega arith) c.index-commands-index.is (beginning (g.S.Store.tables c.args.store.now) c.args.turns.now)
    (standing (g.S.Store.tables c.loop-index.store) c.loop-index.turns (g.S.Store.at c.loop-index.store c.loop-index.transaction))
    (standing (g.S.Store.tables c.run_command.new.store) c.run_command.new.turns (g.S.Store.at c.run_command.new.store c.run_command.new.mark))
    (g.K.Sink.written c.args.out.now) (g.K.Sink.written c.loop-index.out) (g.K.Sink.written c.run_command.new.out) (g.K.Sink.faults c.args.out.now) (g.K.Sink.faults c.loop-index.out) (g.K.Sink.faults c.run_command.new.out)
    c.loop-index.invariant.so_far c.in-Ok-WriteFault.field-0 c.in-Ok-WriteFault.field-0-is c.in-Ok-WriteFault.ensures.comes

pub returns-in-Ok-WriteFault-clause-marked : goal.returns-in-Ok-WriteFault-clause-marked
returns-in-Ok-WriteFault-clause-marked g c =
    marked_further c.args.mark (g.S.Store.holds c.args.store.now) (g.S.Store.at c.args.store.now) c.loop-index.transaction (g.S.Store.holds c.loop-index.store) (g.S.Store.at c.loop-index.store) (g.S.Store.marks c.loop-index.store)
    c.loop-index.invariant.marked c.loop-index.invariant.keeps
    (g.S.Store.holds c.run_command.new.store) (g.S.Store.marks c.run_command.new.store) c.run_command.new.mark c.in-Ok-WriteFault.ensures.marked

pub returns-in-Ok-WriteFault-clause-keeps : goal.returns-in-Ok-WriteFault-clause-keeps
returns-in-Ok-WriteFault-clause-keeps g c =
    keeps_further c.args.mark (g.S.Store.holds c.args.store.now) (g.S.Store.at c.args.store.now) c.loop-index.transaction (g.S.Store.holds c.loop-index.store) (g.S.Store.at c.loop-index.store) (g.S.Store.marks c.loop-index.store)
    c.loop-index.invariant.marked c.loop-index.invariant.keeps
    (g.S.Store.holds c.run_command.new.store) (g.S.Store.at c.run_command.new.store) c.run_command.ensures.keeps

pub returns-in-Ok-Memory-clause-ends : goal.returns-in-Ok-Memory-clause-ends
returns-in-Ok-Memory-clause-ends g c =
    ends_memory c.args.code.now c.args.commands.now c.loop-index.index c.index-commands-index.result (omega arith) c.index-commands-index.is (beginning (g.S.Store.tables c.args.store.now) c.args.turns.now)
    (standing (g.S.Store.tables c.loop-index.store) c.loop-index.turns (g.S.Store.at c.loop-index.store c.loop-index.transaction))
    (standing (g.S.Store.tables c.run_command.new.store) c.run_command.new.turns (g.S.Store.at c.run_command.new.store c.run_command.new.mark))
    (g.K.Sink.written c.args.out.now) (g.K.Sink.written c.loop-index.out) (g.K.Sink.written c.run_command.new.out) (g.K.Sink.faults c.args.out.now) (g.K.Sink.faults c.loop-index.out) (g.K.Sink.faults c.run_command.new.out)
    c.loop-index.invariant.so_far c.in-Ok-Memory.field-0 c.in-Ok-Memory.field-0-is c.in-Ok-Memory.ensures.comes

pub returns-in-Ok-Memory-clause-marked : goal.returns-in-Ok-Memory-clause-marked
returns-in-Ok-Memory-clause-marked g c =
    marked_further c.args.mark (g.S.Store.holds c.args.store.now) (g.S.Store.at c.args.store.now) c.loop-index.transaction (g.S.Store.holds c.loop-index.store) (g.S.Store.at c.loop-index.store) (g.S.Store.marks c.loop-index.store)
    c.loop-index.invariant.marked c.loop-index.invariant.keeps
    (g.S.Store.holds c.run_command.new.store) (g.S.Store.marks c.run_command.new.store) c.run_command.new.mark c.in-Ok-Memory.ensures.marked

pub returns-in-Ok-Memory-clause-keeps : goal.returns-in-Ok-Memory-clause-keeps
returns-in-Ok-Memory-clause-keeps g c =
    keeps_further c.args.mark (g.S.Store.holds c.args.store.now) (g.S.Store.at c.args.store.now) c.loop-index.transaction (g.S.Store.holds c.loop-index.store) (g.S.Store.at c.loop-index.store) (g.S.Store.marks c.loop-index.store)
    c.loop-index.invariant.marked c.loop-index.invariant.keeps
    (g.S.Store.holds c.run_command.new.store) (g.S.Store.at c.run_command.new.store) c.run_command.ensures.keeps

pub returns-in-Err-clause-ends : goal.returns-in-Err-clause-ends
returns-in-Err-clause-ends g c =
    ends_unmarked c.args.code.now c.args.commands.now c.loop-index.index c.index-commands-index.result (omega arith) c.index-commands-index.is (beginning (g.S.Store.tables c.args.store.now) c.args.turns.now)
    (standing (g.S.Store.tables c.loop-index.store) c.loop-index.turns (g.S.Store.at c.loop-index.store c.loop-index.transaction))
    (standing (g.S.Store.tables c.run_command.new.store) c.run_command.new.turns (g.S.Store.at c.run_command.new.store c.run_command.new.mark))
    (g.K.Sink.written c.args.out.now) (g.K.Sink.written c.loop-index.out) (g.K.Sink.written c.run_command.new.out) (g.K.Sink.faults c.args.out.now) (g.K.Sink.faults c.loop-index.out) (g.K.Sink.faults c.run_command.new.out)
    c.loop-index.invariant.so_far c.in-Err.ensures.comes

pub returns-in-Err-clause-marked : goal.returns-in-Err-clause-marked
returns-in-Err-clause-marked g c = c.in-Err.ensures.marked ∙ c.loop-index.invariant.marked.depth

pub returns-in-Err-clause-keeps : goal.returns-in-Err-clause-keeps
returns-in-Err-clause-keeps g c =
    keeps_further c.args.mark (g.S.Store.holds c.args.store.now) (g.S.Store.at c.args.store.now) c.loop-index.transaction (g.S.Store.holds c.loop-index.store) (g.S.Store.at c.loop-index.store) (g.S.Store.marks c.loop-index.store)
    c.loop-index.invariant.marked c.loop-index.invariant.keeps
    (g.S.Store.holds c.run_command.new.store) (g.S.Store.at c.run_command.new.store) c.run_command.ensures.keeps

pub loop-index-preserved : goal.loop-index-preserved
loop-index-preserved g c = record {
  so_far =
      so_far_next c.args.code.now c.args.commands.now c.loop-index.index c.index-commands-index.result (omega arith) c.index-commands-index.is (beginning (g.S.Store.tables c.args.store.now) c.args.turns.now)
      (standing (g.S.Store.tables c.loop-index.store) c.loop-index.turns (g.S.Store.at c.loop-index.store c.loop-index.transaction))
      (standing (g.S.Store.tables c.run_command.new.store) c.run_command.new.turns (g.S.Store.at c.run_command.new.store c.run_command.new.mark))
      (g.K.Sink.written c.args.out.now) (g.K.Sink.written c.loop-index.out) (g.K.Sink.written c.run_command.new.out) (g.K.Sink.faults c.args.out.now) (g.K.Sink.faults c.loop-index.out) (g.K.Sink.faults c.run_command.new.out)
      c.loop-index.invariant.so_far c.in-Ok-Next.field-0 c.in-Ok-Next.field-0-is c.in-Ok-Next.ensures.comes;
  kept = c.run_command.ensures.kept;
  committed = c.in-Ok-Next.ensures.committed;
  marked =
      marked_further c.args.mark (g.S.Store.holds c.args.store.now) (g.S.Store.at c.args.store.now) c.loop-index.transaction (g.S.Store.holds c.loop-index.store) (g.S.Store.at c.loop-index.store) (g.S.Store.marks c.loop-index.store)
      c.loop-index.invariant.marked c.loop-index.invariant.keeps
      (g.S.Store.holds c.run_command.new.store) (g.S.Store.marks c.run_command.new.store) c.run_command.new.mark c.in-Ok-Next.ensures.marked;
  keeps =
      keeps_further c.args.mark (g.S.Store.holds c.args.store.now) (g.S.Store.at c.args.store.now) c.loop-index.transaction (g.S.Store.holds c.loop-index.store) (g.S.Store.at c.loop-index.store) (g.S.Store.marks c.loop-index.store)
      c.loop-index.invariant.marked c.loop-index.invariant.keeps
      (g.S.Store.holds c.run_command.new.store) (g.S.Store.at c.run_command.new.store) c.run_command.ensures.keeps;
}

pub returns-clause-ends : goal.returns-clause-ends
returns-clause-ends g c =
    done c.args.code.now c.args.commands.now c.loop-index.index (beginning (g.S.Store.tables c.args.store.now) c.args.turns.now) (standing (g.S.Store.tables c.loop-index.store) c.loop-index.turns (g.S.Store.at c.loop-index.store c.loop-index.transaction))
    _ (omega arith) c.loop-index.invariant.so_far

pub returns-clause-kept : goal.returns-clause-kept
returns-clause-kept g c = c.loop-index.invariant.kept

pub returns-clause-marked : goal.returns-clause-marked
returns-clause-marked g c = c.loop-index.invariant.marked

pub returns-clause-keeps : goal.returns-clause-keeps
returns-clause-keeps g c = c.loop-index.invariant.keeps
