use Rattle.std.proofs.Common.{◌≡◌, ◌++◌, drop}
use Rattle.std.specs.Prelude.{encode_utf8_all}
use Rattle.psm_session.proofs.lines.put_characters.Given as goal

abbrev pub invariant-loop-c : goal.invariant-loop-c
invariant-loop-c l = l.out.items ++ encode_utf8_all (drop l.c-index l.characters) ≡ l.fn.out.items ++ encode_utf8_all l.characters
