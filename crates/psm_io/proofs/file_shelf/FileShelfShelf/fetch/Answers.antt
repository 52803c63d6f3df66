use Rattle.std.proofs.Common.{◌∙◌, ap}
use Rattle.psm_io.specs.Failures.{times}
use Rattle.psm_io.proofs.file_shelf.FileShelfShelf.fetch.Goals as goal

pub returns-in-Err-Failed-clause-others : goal.returns-in-Err-Failed-clause-others
returns-in-Err-Failed-clause-others g c = λ n other. c.keep.ensures.others n other ∙ ap (times n) c.self.view_is
