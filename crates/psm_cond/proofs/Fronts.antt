-- An entry in front of those of a condition.
use Rattle.std.proofs.Common.{◌≡◌, ◌≤◌, Bool, ◌||◌, nat_eq, List, length, take, arith}
use Rattle.std.specs.List.{insert}
use Rattle.psm_cond.specs.declared.entry.Entry.{Entry}
use Rattle.psm_cond.specs.Condition.{Entries, following}

pub after_is : (e : Entry) (c : Entries) (others : List Entry) (more : Bool) → length c.others ≤ 3
    → others ≡ insert (take 2 c.others) 0 c.first → more ≡ (c.more || nat_eq (length c.others) 3)
    → record { first = e; others = others; more = more } ≡ following e c
after_is e c others more h p q = grind (arith, h, p, q)
