-- What falls from row to row of a run.
use Rattle.std.specs.Prelude.{◌≡◌, ℕ, suc, ◌+◌, ◌-◌, ◌*◌, ◌<◌, ◌≤◌, List, [], ◌∷◌, length, Option, Some, None, if◌then◌else◌}
use Rattle.psm_code.specs.declared.code.RawCode.{RawCode}
use Rattle.psm_code.specs.declared.code.RawRoutine.{RawRoutine}
use Rattle.psm_code.specs.declared.lines.CodeLine.{CodeLine}
use Rattle.psm_code.specs.Parts.{line_at, routine_at}
use Rattle.psm_code.specs.RoutineRules.{is_turn}
use Rattle.psm_code.specs.State.{Activation, Frame, InBlock, InAction, Machine}

-- the turns that are left, where the activation that runs stands, its frames, and those that called it
pub record Shape : Type 0 where
  pub turns : ℕ
  pub routine : ℕ
  pub line : ℕ
  pub frames : List Frame
  pub callers : List Activation

abbrev pub shape : Machine → Shape
shape m = record { turns = m.turns; routine = m.running.routine; line = m.running.line; frames = m.running.frames; callers = m.callers }

-- ---- how many activations and actions run

abbrev pub actions : List Frame → ℕ
actions [] = 0
actions (InBlock k found ∷ frames) = actions frames
actions (InAction n resume area ∷ frames) = suc (actions frames)

abbrev pub running : List Activation → ℕ
running [] = 0
running (a ∷ activations) = suc (actions a.frames + running activations)

abbrev pub depth : Shape → ℕ
depth s = suc (actions s.frames + running s.callers)

-- ---- how many lines there are from one to the end of its routine; a line that uses a turn counts as none

abbrev pub lines_from : RawRoutine → ℕ → Option CodeLine → ℕ
lines_from r at None = 0
lines_from r at (Some l) = if is_turn l.instruction then 0 else length r.lines - at

abbrev pub lines_in : Option RawRoutine → ℕ → ℕ
lines_in None at = 0
lines_in (Some r) at = lines_from r at (line_at r at)

abbrev pub lines : RawCode → Shape → ℕ
lines code s = lines_in (routine_at code s.routine) s.line

-- ---- the turns fall, and one activation or action more may run; or the turns stay and the depth falls; or both stay and the lines fall

pub data Falls (code : RawCode) (s t : Shape) : Type 0 where
  by_turns : t.turns < s.turns → depth t ≤ suc (depth s) → Falls code s t
  by_depth : t.turns ≡ s.turns → depth t < depth s → Falls code s t
  by_lines : t.turns ≡ s.turns → depth t ≡ depth s → lines code t < lines code s → Falls code s t

-- ---- how many rows there may still be at most

abbrev pub all_lines : List RawRoutine → ℕ
all_lines [] = 0
all_lines (r ∷ routines) = length r.lines + all_lines routines

-- each activation and each action that runs goes over no more lines than the code has, and each turn that is left begins one more of them
-- at most, or goes on in the same one
abbrev pub steps_at_most : RawCode → Shape → ℕ
steps_at_most code s = (s.turns + s.turns + depth s) * suc (all_lines code.routines) + lines code s
