use Rattle.std.proofs.Common.{sym}
use Rattle.std.specs.Str.{chars}
use Rattle.psm_token.proofs.Looking.{digit_front}
use Rattle.psm_token.proofs.piece.piece_at.Goals as goal

pub read_number-requires-clause-some : goal.read_number-requires-clause-some
read_number-requires-clause-some c = digit_front c.args.after_name (chars c.args.rest.now) (sym c.in-Digit.ensures)
