-- Code of a module file.
use Rattle.std.specs.Prelude.{ℕ, List}
use Rattle.psm_code.specs.declared.code.RawCode.{RawCode}
use Rattle.psm_build.specs.Program.{StandsFor}

abbrev pub IsBuilt : RawCode → Type 0
IsBuilt code = (bytes : List ℕ) × StandsFor bytes code
