-- What is expected of a call: a status and pieces of text.
use Rattle.std.specs.Prelude.{ℕ, List, [], ◌∷◌}
use Rattle.psm_files.specs.declared.status.Status.{Status}

pub record Expected : Type 0 where
  pub status : Status
  pub pieces : List (List ℕ)

-- one piece, which is the line of a status
abbrev pub with_line : Status → List ℕ → Expected
with_line s line = record { status = s; pieces = line ∷ [] }
