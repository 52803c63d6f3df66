use Rattle.std.proofs.Common.{◌≡◌, nat_eq}
use Rattle.std.specs.Cmp.Lexicographic.{pointwise}
use Rattle.psm_io.specs.MemShelf.{file_of}
use Rattle.psm_io.proofs.Found.{found_from}
use Rattle.psm_io.proofs.mem_shelf.find.Given as goal

abbrev pub invariant-loop-file : goal.invariant-loop-file
invariant-loop-file l =
    found_from file_of (λ f. pointwise nat_eq f.0 l.name) l.files l.file-index
    ≡ found_from file_of (λ f. pointwise nat_eq f.0 l.name) l.files 0
