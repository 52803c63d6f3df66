use Rattle.std.proofs.Common.{◌≡◌, ◌++◌, drop, map}
use Rattle.std.specs.Prelude.{IsTrue}
use Rattle.psm_scope.specs.KeptScopes.{can_declare_here}
use Rattle.psm_declare.specs.Numbering.{next_slot}
use Rattle.psm_resolve.specs.Seen.{item_seen}
use Rattle.psm_resolve.specs.Blocks.{item_slots, numbered_items}
use Rattle.psm_resolve.proofs.fors.declare_items.Given as goal

abbrev pub invariant-loop-item : goal.invariant-loop-item
invariant-loop-item l = IsTrue (can_declare_here l.scopes)
    × (l.slots.items ++ item_slots (next_slot l.numbering) (map item_seen (drop l.item-index l.items)) ≡ item_slots (next_slot l.fn.numbering) (map item_seen l.items))
    × ((numbered_items (l.scopes, l.numbering) (map item_seen (drop l.item-index l.items))).0 ≡ (numbered_items (l.fn.scopes, l.fn.numbering) (map item_seen l.items)).0)
    × ((numbered_items (l.scopes, l.numbering) (map item_seen (drop l.item-index l.items))).1 ≡ (numbered_items (l.fn.scopes, l.fn.numbering) (map item_seen l.items)).1)
