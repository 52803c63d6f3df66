use Rattle.std.proofs.Common.{Bool, sym, subst}
use Rattle.psm_session.specs.Put.{sunk_of}
use Rattle.psm_files.specs.Answer.{PutsLine}
use Rattle.psm_commands.specs.Generate.{expected_after}
use Rattle.psm_commands.proofs.generate.put_summary.Goals as goal

pub returns-then-not-end : goal.returns-then-not-end
returns-then-not-end g c =
    let end = c.args.end.now in
    subst (λ (b : Bool). PutsLine (expected_after c.args.calls b end.last.piece.items end.turns) (sunk_of g.K.Sink.written g.K.Sink.faults c.args.out.now c.put_line.new.out) c.put_line.result)
    (sym c.if-not-end.true) c.put_line.ensures
