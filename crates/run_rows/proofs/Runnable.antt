-- Code that is built stands for a module file.
use Rattle.std.proofs.Common.{ℕ, List}
use Rattle.psm_code.specs.declared.code.RawCode.{RawCode}
use Rattle.psm_build.specs.Program.{StandsFor}
use Rattle.run_rows.specs.Built.{IsBuilt}

pub built : (bytes : List ℕ) (code : RawCode) → StandsFor bytes code → IsBuilt code
built bytes code stands = (bytes, stands)
