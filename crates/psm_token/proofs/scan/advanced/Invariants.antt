use Rattle.std.proofs.Common.{◌≡◌, ◌-◌, ◌<◌, ◌≤◌, take, drop, length}
use denote.Text.{Utf8}
use denote.Shadow.{shadow}
use Rattle.std.specs.Str.{chars}
use Rattle.psm_token.specs.Places.{HasRoom, place_after}
use Rattle.psm_token.proofs.scan.advanced.Given as goal

abbrev pub invariant-loop-i : goal.invariant-loop-i
invariant-loop-i l = shadow (Utf8 l.left)
    × (place_after (take (l.count - l._i) (chars l.left)) l.at ≡ place_after (take l.count (chars l.rest)) l.fn.place)
    × (drop (l.count - l._i) (chars l.left) ≡ drop l.count (chars l.rest))
    × HasRoom l.at (chars l.left)
    × (length l.left ≤ length l.rest)
    × (0 < l._i → length l.left < length l.rest)
    × (l._i ≡ 0 → chars l.left ≡ chars l.rest)
