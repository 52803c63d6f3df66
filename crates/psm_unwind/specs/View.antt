-- A run over a store as a machine.
use Rattle.std.specs.Prelude.{◌≡◌, List, [], ◌∷◌, drop, map, reverse, option_map}
use Rattle.psm_exprcode.specs.declared.operand.Operand.{Operand}
use Rattle.psm_operands.specs.Stacked.{first_of}
use Rattle.psm_table.specs.Table.{Contents}
use Rattle.psm_store.specs.declared.store.Mark.{Mark}
use Rattle.psm_code.specs.State as code
use Rattle.psm_unwind.specs.declared.ending.Ending.{Ending}
use Rattle.psm_unwind.specs.declared.ending.Ending.TheVariants as ending
use Rattle.psm_unwind.specs.declared.ending.Outcome.{Outcome}
use Rattle.psm_unwind.specs.declared.ending.Outcome.TheVariants.{More, Over}
use Rattle.psm_unwind.specs.declared.run.Activation.{Activation}
use Rattle.psm_unwind.specs.declared.run.Frame.{Frame}
use Rattle.psm_unwind.specs.declared.run.Frame.TheVariants.{Block, Action}
use Rattle.psm_unwind.specs.declared.run.Run.{Run}

-- a frame, where a mark stands for these tables
abbrev pub frame_of : (Mark → List Contents) → Frame → code.Frame
frame_of at (Block k found) = code.InBlock k (option_map at found)
frame_of at (Action h resume c rows) = code.InAction h resume (record { entries = c; rows = rows })

-- frames, of which the innermost comes first
abbrev pub frames_of : (Mark → List Contents) → List Frame → List code.Frame
frames_of at frames = map (frame_of at) frames

-- an activation with these operands
abbrev pub activation_of : (Mark → List Contents) → List Operand → Activation → code.Activation
activation_of at os a = record {
  routine = a.routine;
  line = a.line;
  variables = a.variables.items;
  cursors = a.cursors.items;
  operands = os;
  frames = frames_of at (reverse a.frames.items);
}

-- callers, the innermost first, with the operands of each
abbrev pub callers_of : (Mark → List Contents) → List (List Operand) → List Activation → List code.Activation
callers_of at stacks [] = []
callers_of at stacks (a ∷ callers) = activation_of at (first_of stacks) a ∷ callers_of at (drop 1 stacks) callers

-- the machine of a run, with these tables
abbrev pub machine_of : List Contents → (Mark → List Contents) → Run → code.Machine
machine_of tables at r = record {
  running = activation_of at r.operands.own r.running;
  callers = callers_of at r.operands.callers (reverse r.callers.items);
  area = r.area;
  pending = r.pending;
  turns = r.turns;
  tables = tables;
}

abbrev pub end_of : Ending → code.End
end_of (ending.Ended ds) = code.Ended ds
end_of (ending.Raised c) = code.Raised c
end_of ending.NoTurns = code.NoTurns
end_of ending.Stuck = code.Stuck

-- what an end leaves of a machine: all but the operands and the frames of the activation that runs, some of which are gone by then
abbrev pub at_end : code.Machine → code.Machine
at_end m = code.with_running (λ a. record a { operands = []; frames = [] }) m

-- a run goes on as expected; or it is over, with the end that is expected, and with what that leaves of the machine
abbrev pub LeadsTo : code.Stepped → Outcome → code.Machine → Type 0
LeadsTo (code.More m) More now = m ≡ now
LeadsTo (code.More m) (Over e) now = ⊥
LeadsTo (code.Over e m) More now = ⊥
LeadsTo (code.Over e m) (Over f) now = (e ≡ end_of f) × (at_end m ≡ at_end now)
