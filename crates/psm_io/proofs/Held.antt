-- What a shelf in memory holds, and what a call finds.
use Rattle.std.proofs.Common.{◌≡◌, ◌≢◌, ◌∙◌, sym, ap, subst, ℕ, nat_eq, List, [], Option, None, IsSome, cond}
use Rattle.std.specs.List.{list_any}
use Rattle.psm_io.specs.Count.{next_count}
use Rattle.psm_io.specs.MemShelf.{Shelved, first_named, found_next}

-- where no call is to fail, a name that is held is not one of which nothing is found
pub held_other : (shelf : Shelved) (name n : List ℕ) → found_next shelf name ≡ None → shelf.fails ≡ [] →
    IsSome (first_named n shelf.files) → n ≢ name
held_other shelf name n nothing none held same =
    let absent : first_named n shelf.files ≡ None = ap (λ m. first_named m shelf.files) same
    ∙ ap (λ fails. cond (list_any (λ k. nat_eq k (next_count shelf.calls)) fails) None (first_named name shelf.files)) (sym none)
    ∙ nothing in
    let P = λ (o : Option (List ℕ)). IsSome o in
    let gone : IsSome {T = List ℕ} None = subst P absent held in
    cc
