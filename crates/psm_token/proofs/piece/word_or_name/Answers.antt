use Rattle.std.proofs.Common.{sym}
use Rattle.psm_token.proofs.WordTexts.{lookup_takes}
use Rattle.psm_token.proofs.piece.word_or_name.Goals as goal

pub returns-in-Some : goal.returns-in-Some
returns-in-Some c = lookup_takes c.args.text.now c.in-Some.word (sym c.in-Some.ensures)
