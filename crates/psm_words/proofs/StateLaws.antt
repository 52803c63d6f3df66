-- A state that is written is read again, and a state that is read was written so.
use Rattle.std.proofs.Common.{◌≡◌, ℕ, Bool, true, false, ◌&&◌, List, ◌++◌, length, take, drop, Option, Some, None, refl, sym, ap, subst, ◌∙◌}
use Rattle.std.specs.Prelude.{nat_eq, if◌then◌else◌}
use Rattle.std.specs.List.{list_all}
use Rattle.std.proofs.lemmas.Bool.{eqb-true, eq-eqb}
use Rattle.std.proofs.lemmas.List.{take-append-drop, take_at, drop_at}
use Rattle.psm_words.specs.Words.{is_state_byte, state_word, IsStateWord}
use Rattle.psm_words.specs.Reading.{state_at}
use Rattle.psm_words.proofs.Several.{some_is}

-- what is read, by the tests of the size and of the bytes
abbrev read_by : Bool → Bool → List ℕ → List ℕ → Option (List ℕ × List ℕ)
read_by a b t rest = if a && b then Some (t, rest) else None

abbrev parts : List ℕ → List ℕ → Option (List ℕ × List ℕ)
parts t rest = read_by (nat_eq (length t) 5) (list_all is_state_byte t) t rest

pub state_again : (t rest : List ℕ) → IsStateWord t → state_at (state_word t ++ rest) ≡ Some (t, rest)
state_again t rest h =
    let five : nat_eq (length t) 5 ≡ true = eq-eqb (length t) 5 h.0 in
    let bytes : list_all is_state_byte t ≡ true = h.1 in
    ap (λ (u : List ℕ). parts u (drop 5 (t ++ rest))) (take_at t rest 5 h.0)
    ∙ ap (λ (u : List ℕ). parts t u) (drop_at t rest 5 h.0)
    ∙ ap (λ b. read_by b (list_all is_state_byte t) t rest) five
    ∙ ap (λ b. read_by true b t rest) bytes

abbrev Took : List ℕ → List ℕ × List ℕ → Type 0
Took s x = (s ≡ state_word x.0 ++ x.1) × IsStateWord x.0

pub state_takes : (s t rest : List ℕ) → state_at s ≡ Some (t, rest) → (s ≡ state_word t ++ rest) × IsStateWord t
state_takes s t rest e = by (nat_eq (length (take 5 s)) 5) (list_all is_state_byte (take 5 s)) refl refl e
  where
    by : (a b : Bool) → nat_eq (length (take 5 s)) 5 ≡ a → list_all is_state_byte (take 5 s) ≡ b → read_by a b (take 5 s) (drop 5 s) ≡ Some (t, rest) → Took s (t, rest)
    by false b f g e = absurd cc
    by true false f g e = absurd cc
    by true true f g e =
        let made : List ℕ × List ℕ = (take 5 s, drop 5 s) in
        subst (Took s) (some_is made (t, rest) e) (sym (take-append-drop 5 s), (eqb-true (length (take 5 s)) 5 f, g))
