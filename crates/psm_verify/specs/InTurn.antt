-- FOREIGN KEY constraints in the order of the referencing tables: those of one table stand side by side.
use Rattle.std.specs.Prelude.{ℕ, zero, suc, nat_eq, List, [], ◌∷◌, drop, take, if◌then◌else◌}
use Rattle.psm_table.specs.declared.definition.ForeignKey.{ForeignKey}

-- how many at the front are of a table
abbrev pub count_of : ℕ → List ForeignKey → ℕ
count_of n [] = 0
count_of n (key ∷ keys) = if nat_eq key.from n then suc (count_of n keys) else 0

-- those at the front that are of it, and the others
abbrev pub own_of : ℕ → List ForeignKey → List ForeignKey
own_of n keys = take (count_of n keys) keys

abbrev pub others_of : ℕ → List ForeignKey → List ForeignKey
others_of n keys = drop (count_of n keys) keys

-- what is left of them before a table
abbrev pub left_at : List ForeignKey → ℕ → List ForeignKey
left_at keys zero = keys
left_at keys (suc n) = others_of n (left_at keys n)
