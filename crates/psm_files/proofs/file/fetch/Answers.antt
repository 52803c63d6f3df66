use Rattle.psm_files.proofs.Fetched.{stay_all, long_file}
use Rattle.psm_files.proofs.file.fetch.Goals as goal

pub returns-in-Err-TooLong-clause-gets : goal.returns-in-Err-TooLong-clause-gets
returns-in-Err-TooLong-clause-gets g c =
    let answer = rw c.in-Err-TooLong.field-0-is at c.in-Err-TooLong.ensures.answer in
    let file = long_file (g.F.Shelf.held c.args.shelf.now c.args.name.now) c.in-Err-TooLong.field-0-0 _ answer.0 answer.1 in
    record {
      bytes = file.0;
      contents = file.1;
      long = file.2;
      none_failed = stay_all (g.F.Shelf.faults c.args.shelf.now) (g.F.Shelf.faults c.fetch.new.self) c.args.name.now answer.2 c.in-Err-TooLong.ensures.others;
    }
