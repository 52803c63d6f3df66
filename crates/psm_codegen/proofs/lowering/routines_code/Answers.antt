use Rattle.std.proofs.Common.{[], ◌∷◌, arith, rules, ap, subst, sym, ◌∙◌}
use Rattle.std.proofs.lemmas.List.Elements.{All-append, All-cons, All-nil}
use Rattle.std.specs.List.{All}
use Rattle.std.specs.Prelude.{IsTrue}
use Rattle.psm_cond.specs.WellFormed.{is_numbered}
use Rattle.psm_code.specs.declared.code.RawRoutine.{RawRoutine}
use Rattle.psm_exprgen.proofs.Lists.{makes_all, makes_next}
use Rattle.psm_codegen.specs.FileKnown.{with_routine}
use Rattle.psm_codegen.specs.Files.{RoutineWritten, RoutinesWritten}
use Rattle.psm_codegen.proofs.FileKnowns.{known_first}
use Rattle.psm_codegen.proofs.lowering.routines_code.Goals as goal

abbrev numbered : RawRoutine → Type 0
numbered r = IsTrue (is_numbered r.handlers)

pub loop-routine-init : goal.loop-routine-init
loop-routine-init c = record { known = λ r. known_first c.args.file.now r c.in_ok-known.known c.in_ok-known.ensures; numbered = search rules; written = search rules }

pub loop-routine-preserved : goal.loop-routine-preserved
loop-routine-preserved c = record {
  known = λ r. ap (with_routine r) c.in_ok-for_routine.ensures.ok ∙ c.loop-routine.invariant.known r;
  numbered = subst (All numbered) (sym c.in_ok-push.ensures.items)
      (All-append numbered c.loop-routine.codes.items (c.in_ok-routine_code.field-0 ∷ []) c.loop-routine.invariant.numbered (All-cons numbered c.in_ok-routine_code.field-0 [] c.in_ok-routine_code.ensures.numbered (All-nil numbered)));
  written = makes_next (RoutinesWritten c.args.file.now) c.items-routine-items.result.now c.loop-routine.routine-index c.routine-item.result c.loop-routine.codes.items c.in_ok-routine_code.field-0 c.push.new.self.items
      (λ others rest m. (subst (λ k. RoutineWritten k c.routine-item.result c.in_ok-routine_code.field-0) (c.in_ok-for_routine.ensures.ok ∙ c.loop-routine.invariant.known c.routine-item.result) c.in_ok-routine_code.ensures.written, m))
      (omega arith) c.routine-item.is c.in_ok-push.ensures.items c.loop-routine.invariant.written;
}

pub returns-clause-written : goal.returns-clause-written
returns-clause-written c = makes_all (RoutinesWritten c.args.file.now) c.items-routine-items.result.now c.args.file.now.routines c.loop-routine.routine-index c.loop-routine.codes.items c.of.result
    (sym c.items-routine-items.ensures) (omega arith) c.of.ensures tt c.loop-routine.invariant.written
