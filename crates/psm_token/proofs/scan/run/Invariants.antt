use Rattle.std.proofs.Common.{◌≡◌, ◌+◌, ◌≤◌, drop, length}
use denote.Text.{Utf8}
use denote.Shadow.{shadow}
use Rattle.std.specs.Str.{chars}
use Rattle.std.specs.List.{prefix_len}
use Rattle.psm_token.specs.Characters.{is_of}
use Rattle.psm_token.proofs.scan.run.Given as goal

abbrev pub invariant-loop-c : goal.invariant-loop-c
invariant-loop-c l = shadow (Utf8 l.left)
    × (prefix_len (is_of l.class) (chars l.rest) ≡ l.count + prefix_len (is_of l.class) (chars l.left))
    × (drop l.count (chars l.rest) ≡ chars l.left)
    × (l.count + length l.left ≤ length l.rest)

abbrev pub decreases-loop-c : goal.decreases-loop-c
decreases-loop-c l = length l.left
