use Rattle.std.proofs.Common.{◌≡◌, ◌-◌, ◌++◌, take, string_bytes}
use denote.Text.{Utf8}
use denote.Shadow.{shadow}
use Rattle.std.specs.Str.{chars}
use Rattle.psm_token.proofs.scan.gathered.Given as goal

abbrev pub invariant-loop-i : goal.invariant-loop-i
invariant-loop-i l = shadow (Utf8 l.left)
    × (chars (string_bytes l.text) ++ take (l.count - l._i) (chars l.left) ≡ take l.count (chars l.rest))
