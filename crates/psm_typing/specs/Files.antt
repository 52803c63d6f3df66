-- Well-typed files: each routine is well-typed, and so is its body.
use Rattle.std.specs.Prelude.{◌≡◌, List, [], length}
use Rattle.psm_resolved.specs.declared.file.ResolvedFile.{ResolvedFile}
use Rattle.psm_resolved.specs.declared.file.ResolvedRoutine.{ResolvedRoutine}
use Rattle.psm_typing.specs.TypingContext.{Begin, Each, Shape}
use Rattle.psm_typing.specs.Statements.{IsStatement}

-- the cursors of a routine have shapes, with which its body is well-typed where it sees no cursor and nothing can be left
pub record IsRoutine (file : ResolvedFile) (r : ResolvedRoutine) : Type 0 where
  pub shapes : List Shape
  pub many : length shapes ≡ r.cursors
  pub parameters : Begin r.parameters r.slots
  pub body : IsStatement (record { file = file; routine = r; shapes = shapes }) (record { cursors = []; bound = 0; leaves = []; iterates = [] }) r.body

abbrev pub IsWellTyped : ResolvedFile → Type 0
IsWellTyped file = Each (IsRoutine file) file.routines
