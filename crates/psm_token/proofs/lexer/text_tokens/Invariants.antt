use Rattle.std.proofs.Common.{length}
use denote.Text.{Utf8}
use denote.Shadow.{shadow}
use Rattle.std.specs.Str.{chars}
use Rattle.psm_token.specs.Places.{HasRoom}
use Rattle.psm_token.specs.Spells.{Reaches}
use Rattle.psm_token.proofs.lexer.text_tokens.Given as goal

abbrev pub invariant-loop-items : goal.invariant-loop-items
invariant-loop-items l = shadow (Utf8 l.rest)
    × Reaches l.text l.items.items (record { after_name = l.after_name; place = l.place; rest = chars l.rest })
    × HasRoom l.place (chars l.rest)

abbrev pub decreases-loop-items : goal.decreases-loop-items
decreases-loop-items l = length l.rest
