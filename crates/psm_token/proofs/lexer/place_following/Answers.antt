use Rattle.std.proofs.Common.{◌∙◌, take, length, arith}
use Rattle.std.proofs.lemmas.List.{length-take}
use Rattle.psm_token.proofs.Utf8.{start_room_of, place_all}
use Rattle.psm_token.proofs.lexer.place_following.Goals as goal

pub advanced-requires : goal.advanced-requires
advanced-requires c = start_room_of c.in-Ok.front.now (take c.args.count c.args.bytes.now) (length c.args.bytes.now) c.in-Ok.ensures.cases.0 c.requires.utf8 (omega (arith, length-take c.args.count c.args.bytes.now)) c.requires.size

pub returns : goal.returns
returns c = c.advanced.ensures.place ∙ place_all c.in-Ok.front.now (take c.args.count c.args.bytes.now) c.args.count c.in-Ok.ensures.cases.0 c.requires.utf8 (omega (arith, length-take c.args.count c.args.bytes.now))
