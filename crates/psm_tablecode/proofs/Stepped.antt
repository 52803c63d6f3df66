-- Lists the other way round.
use Rattle.std.proofs.Common.{◌≡◌, List, [], ◌∷◌, ◌++◌, Bool, true, false, refl, ap, sym, ◌∙◌}
use Rattle.std.specs.Prelude.{cond, filter, reverse}
use Rattle.std.proofs.lemmas.List.{append-nil, reverse-append}
use Rattle.std.proofs.lemmas.List.Elements.{filter-append}

filter-reverse-first : {X : Type 0} (t : X → Bool) (x : X) (xs : List X) (b : Bool) → reverse (filter t xs) ≡ filter t (reverse xs)
    → reverse (cond b (x ∷ filter t xs) (filter t xs)) ≡ filter t (reverse xs) ++ cond b (x ∷ []) []
filter-reverse-first t x xs true e = reverse-append (x ∷ []) (filter t xs) ∙ ap (λ l. l ++ x ∷ []) e
filter-reverse-first t x xs false e = e ∙ sym (append-nil (filter t (reverse xs)))

pub filter-reverse : {X : Type 0} (t : X → Bool) (xs : List X) → reverse (filter t xs) ≡ filter t (reverse xs)
filter-reverse t [] = refl
filter-reverse t (x ∷ xs) =
    filter-reverse-first t x xs (t x) (filter-reverse t xs) ∙ sym (filter-append t (reverse xs) (x ∷ [])) ∙ sym (ap (filter t) (reverse-append (x ∷ []) xs))
