-- What is known of a routine comes of what is known of its file, and of another of its routines.
use Rattle.std.proofs.Common.{◌≡◌, ap}
use Rattle.psm_resolved.specs.declared.file.ResolvedFile.{ResolvedFile}
use Rattle.psm_resolved.specs.declared.file.ResolvedRoutine.{ResolvedRoutine}
use Rattle.psm_exprgen.specs.declared.known.Known.{Known}
use Rattle.psm_codegen.specs.FileKnown.{known_of_file, with_routine}
use Rattle.psm_codegen.specs.Files.{known_of}

pub known_first : (file : ResolvedFile) (routine : ResolvedRoutine) (known : Known) → known ≡ known_of_file file → with_routine routine known ≡ known_of file routine
known_first file routine known h = ap (with_routine routine) h

pub known_next : (file : ResolvedFile) (before routine : ResolvedRoutine) (known : Known) → known ≡ known_of file before → with_routine routine known ≡ known_of file routine
known_next file before routine known h = ap (with_routine routine) h
