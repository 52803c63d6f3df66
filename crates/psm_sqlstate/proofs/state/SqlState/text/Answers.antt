use Rattle.std.proofs.Common.{rules}
use Rattle.std.proofs.lemmas.Str.{IsUtf8-from_ascii}
use Rattle.psm_sqlstate.proofs.Ascii.{state_ascii}
use Rattle.psm_sqlstate.proofs.state.SqlState.text.Goals as goal

pub unwrap-requires : goal.unwrap-requires
unwrap-requires c = let utf8 = IsUtf8-from_ascii c.self.inside.bytes (state_ascii c.self.inside.bytes c.self.invariant.0.1) in search (rules, utf8)
