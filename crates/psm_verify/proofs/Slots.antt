-- Slots, and the letters of their types.
use Rattle.std.proofs.Common.{◌≡◌, ℕ, List, refl, ap, ◌∙◌, Option, Some, None}
use Rattle.std.specs.Prelude.{option_map, slice_get}
use Rattle.std.proofs.lemmas.Option.{slice_get-map}
use Rattle.psm_value.specs.declared.sqltype.SqlType.{SqlType}
use Rattle.psm_exprcode.specs.declared.op.Letter.{Letter}
use Rattle.psm_exprcode.specs.Kinds.{letter_of}
use Rattle.psm_code.specs.declared.code.RawRoutine.{RawRoutine}
use Rattle.psm_code.specs.Instructions.{variables_of}
use Rattle.psm_code.specs.Parts.{slots_of}
use Rattle.psm_code.specs.Rules.{is_there, there}
use Rattle.psm_code.specs.RoutineRules.{slot_there}

there_map : (o : Option SqlType) → there (option_map letter_of o) ≡ there o
there_map None = refl
there_map (Some t) = refl

pub slot_is_there : (r : RawRoutine) (variables : List Letter) (slot : ℕ) → variables ≡ variables_of r → is_there variables slot ≡ slot_there r slot
slot_is_there r variables slot h =
    ap (λ vs. is_there vs slot) h ∙ ap there (slice_get-map letter_of (slots_of r) slot) ∙ there_map (slice_get (slots_of r) slot)
