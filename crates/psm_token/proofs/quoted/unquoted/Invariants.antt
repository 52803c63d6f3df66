use Rattle.std.proofs.Common.{◌+◌, ◌≤◌, length, string_bytes}
use denote.Text.{Utf8}
use denote.Shadow.{shadow}
use Rattle.std.specs.Str.{chars}
use Rattle.psm_token.proofs.Quoting.{KeptSo}
use Rattle.psm_token.proofs.quoted.unquoted.Given as goal

abbrev pub invariant-loop-kept : goal.invariant-loop-kept
invariant-loop-kept l = shadow (Utf8 l.left)
    × KeptSo l.quote l.limit (chars l.rest) (chars (string_bytes l.kept)) l.size l.count (chars l.left)
    × (l.count + length l.left ≤ length l.rest + 1)
    × (l.size ≤ l.count)

abbrev pub decreases-loop-kept : goal.decreases-loop-kept
decreases-loop-kept l = length l.left
