-- What is written piece by piece.
use Rattle.std.proofs.Common.{◌≡◌, ℕ, ◌+◌, ◌<◌, List, [], ◌∷◌, ◌++◌, length, take, get_or, ap, sym, ◌∙◌}
use Rattle.std.specs.List.{flat_map}
use Rattle.std.proofs.lemmas.List.{take_more, append-nil, append_assoc}
use Rattle.std.proofs.lemmas.Grind.{flat_map-append}

-- the words of the first elements, and of one more
one_more : {X : Type 0} (word : X → List ℕ) (xs : List X) (i : ℕ) (x : X) → i < length xs → x ≡ get_or xs i x → flat_map word (take (i + 1) xs) ≡ flat_map word (take i xs) ++ word x
one_more word xs i x h e =
    ap (flat_map word) (take_more xs i x h ∙ ap (λ y. take i xs ++ y ∷ []) (sym e))
    ∙ flat_map-append word (take i xs) (x ∷ []) ∙ ap (λ u. flat_map word (take i xs) ++ u) (append-nil (word x))

pub written_on : {X : Type 0} (word : X → List ℕ) (xs : List X) (start before after : List ℕ) (i : ℕ) (x : X) → i < length xs → x ≡ get_or xs i x
    → before ≡ start ++ flat_map word (take i xs) → after ≡ before ++ word x → after ≡ start ++ flat_map word (take (i + 1) xs)
written_on word xs start before after i x h e f g =
    g ∙ ap (λ u. u ++ word x) f ∙ append_assoc start (flat_map word (take i xs)) (word x) ∙ ap (λ u. start ++ u) (sym (one_more word xs i x h e))
