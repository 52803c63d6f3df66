-- Blanks taken off one by one at the end.
use Rattle.std.proofs.Common.{◌≡◌, ◌≢◌, ℕ, false, nat_eq, List, [], ◌∷◌, ◌++◌, refl, ap, sym, ◌∙◌}
use Rattle.std.specs.Prelude.{reverse, if◌then◌else◌}
use Rattle.std.proofs.lemmas.Bool.{ne_eqb}
use Rattle.std.proofs.lemmas.List.{reverse-append}
use Rattle.psm_value.specs.Cast.{without_front}

reverse_twice : (t : List ℕ) → reverse (reverse t) ≡ t
reverse_twice [] = refl
reverse_twice (c ∷ t) = ap reverse (reverse-append (c ∷ []) t) ∙ reverse-append (reverse t) (c ∷ []) ∙ ap (λ u. c ∷ u) (reverse_twice t)

pub one_blank_off : (t before : List ℕ) → t ≡ before ++ 32 ∷ [] → without_front (reverse t) ≡ without_front (reverse before)
one_blank_off t before e = ap (λ u. without_front (reverse u)) e ∙ ap without_front (reverse-append before (32 ∷ []))

pub no_blank_left : (t before : List ℕ) (c : ℕ) → t ≡ before ++ c ∷ [] → c ≢ 32 → reverse (without_front (reverse t)) ≡ t
no_blank_left t before c e h =
    let turned : reverse t ≡ c ∷ reverse before = ap reverse e ∙ reverse-append before (c ∷ []) in
    let other : nat_eq c 32 ≡ false = ne_eqb c 32 h in
    ap (λ u. reverse (without_front u)) turned ∙ ap (λ b. reverse (if b then without_front (reverse before) else c ∷ reverse before)) other ∙ ap reverse (sym turned) ∙ reverse_twice t
