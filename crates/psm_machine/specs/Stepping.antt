-- Instructions about queries, plans and cursors.
use Rattle.psm_code.specs.declared.code.RawCode.{RawCode}
use Rattle.psm_code.specs.declared.code.RawRoutine.{RawRoutine}
use Rattle.psm_code.specs.declared.instruction.Instruction.{Instruction}
use Rattle.psm_code.specs.declared.instruction.Instruction.TheVariants as instruction
use Rattle.psm_code.specs.Plans.{plan}
use Rattle.psm_code.specs.Querying.{close, exists, fetch, «open», scalar, select_row}
use Rattle.psm_code.specs.State.{Stuck}
use Rattle.psm_code.specs.Steps.{Act, ends}

-- those that go on at the line that follows, or raise a condition
abbrev pub data_act : RawCode → RawRoutine → Instruction → Act (Unit {0})
data_act code r (instruction.Exists n) = exists r n
data_act code r (instruction.Scalar n) = scalar r n
data_act code r (instruction.Row n) = select_row r n
data_act code r (instruction.Data n) = plan code r n
data_act code r (instruction.Open cursor) = «open» r cursor
data_act code r (instruction.Close cursor) = close r cursor
data_act code r (instruction.Fetch cursor) = fetch r cursor
data_act code r i = ends Stuck
