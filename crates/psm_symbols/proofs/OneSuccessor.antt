-- An order that goes one way.
use Rattle.std.proofs.Common.{◌≡◌, Bool, true, false, ◌&&◌, ◌||◌, not, List, ◌∷◌, refl, ap, sym, ◌∙◌}
use Rattle.std.specs.List.{list_all}
use Rattle.psm_tree.specs.declared.statement.OrderColumn.{OrderColumn}

or_none : (a : Bool) → a ≡ (a || false)
or_none true = refl
or_none false = refl

one_way_at : (b : Bool) (down up : Bool) → b ≡ true → down ≡ ((b && down) || (not b && up))
one_way_at b down up e = or_none down ∙ ap (λ b. (b && down) || (not b && up)) (sym e)

other_way_at : (b : Bool) (down up : Bool) → b ≡ false → up ≡ ((b && down) || (not b && up))
other_way_at b down up e = ap (λ b. (b && down) || (not b && up)) (sym e)

pub all_down : (first : OrderColumn) (rest : List OrderColumn) → first.descending ≡ true
    → list_all (λ c. c.descending) rest ≡ (list_all (λ c. c.descending) (first ∷ rest) || list_all (λ c. not c.descending) (first ∷ rest))
all_down first rest e = one_way_at first.descending (list_all (λ c. c.descending) rest) (list_all (λ c. not c.descending) rest) e

pub all_up : (first : OrderColumn) (rest : List OrderColumn) → first.descending ≡ false
    → list_all (λ c. not c.descending) rest ≡ (list_all (λ c. c.descending) (first ∷ rest) || list_all (λ c. not c.descending) (first ∷ rest))
all_up first rest e = other_way_at first.descending (list_all (λ c. c.descending) rest) (list_all (λ c. not c.descending) rest) e

pub ruleset one_way = (all_down, all_up)
