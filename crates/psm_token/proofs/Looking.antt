-- What the first characters say of what stands at the front.
use Rattle.std.proofs.Common.{◌≡◌, ℕ, ◌+◌, ◌<◌, ◌⊎◌, Bool, true, false, not, ◌&&◌, cond, eqb, List, [], ◌∷◌, length, inl, inr, refl, sym, ap, subst, arith}
use Rattle.std.specs.Char.{is_ascii_digit, is_ascii_alphabetic}
use Rattle.std.specs.List.{prefix_len}
use Rattle.std.proofs.lemmas.Bool.{eqb-true}
use Rattle.std.proofs.lemmas.List.Folds.{length-prefix_len}
use Rattle.psm_num.specs.Literal.{literal_digits}
use Rattle.psm_token.specs.declared.front.Front.{Front}
use Rattle.psm_token.specs.declared.front.Front.TheVariants.{Separator, Comment, Letter, Digit, Quote, Apostrophe, Other}
use Rattle.psm_token.specs.Characters.{is_separator, begins}
use Rattle.psm_token.specs.Fronts.{front_of}
use Rattle.psm_token.specs.Numbers.{digits_at, literal_at}

-- the tests in their order, and what they say
abbrev pub chosen : Bool → Bool → Bool → Bool → Bool → Bool → Bool → Front
chosen s l d q a m p = cond s Separator (cond l Letter (cond d Digit (cond q Quote (cond a Apostrophe (cond m Comment (cond p Digit Other))))))

digit_by : (s l d q a m p : Bool) → chosen s l d q a m p ≡ Digit → (d ≡ true) ⊎ (p ≡ true)
digit_by true l d q a m p h = absurd cc
digit_by false true d q a m p h = absurd cc
digit_by false false true q a m p h = inl refl
digit_by false false false true a m p h = absurd cc
digit_by false false false false true m p h = absurd cc
digit_by false false false false false true p h = absurd cc
digit_by false false false false false false true h = inr refl
digit_by false false false false false false false h = absurd cc

digits_some : (ds : List ℕ) → begins is_ascii_digit ds ≡ true → 0 < length (digits_at ds)
digits_some [] h = absurd cc
digits_some (c ∷ ds) h =
    let one : prefix_len is_ascii_digit (c ∷ ds) ≡ 1 + prefix_len is_ascii_digit ds = ap (λ (t : Bool). cond t (1 + prefix_len is_ascii_digit ds) 0) h in
    omega (arith, length-prefix_len is_ascii_digit (c ∷ ds), one)

and_left : (a b : Bool) → (a && b) ≡ true → a ≡ true
and_left true b h = refl
and_left false b h = absurd cc

and_right : (a b : Bool) → (a && b) ≡ true → b ≡ true
and_right true b h = h
and_right false b h = absurd cc

-- a number at the front has a digit
pub digit_front : (after_name : Bool) (cs : List ℕ) → front_of after_name cs ≡ Digit → 0 < literal_digits (literal_at cs)
digit_front after_name [] h = absurd cc
digit_front after_name (c ∷ ds) h =
    elim (digit_by (is_separator c) (is_ascii_alphabetic c) (is_ascii_digit c) (eqb c 34) (eqb c 39) (eqb c 45 && begins (eqb 45) ds) (eqb c 46 && not after_name && begins is_ascii_digit ds) h)
    as (λ _. 0 < literal_digits (literal_at (c ∷ ds))) [
      | inl d ↦ (let some : 0 < length (digits_at (c ∷ ds)) = digits_some (c ∷ ds) d in omega (arith, some))
      | inr p ↦ pointed p
    ]
  where
    pointed : (eqb c 46 && not after_name && begins is_ascii_digit ds) ≡ true → 0 < literal_digits (literal_at (c ∷ ds))
    pointed p =
        let dot : c ≡ 46 = eqb-true c 46 (and_left (eqb c 46) (not after_name) (and_left (eqb c 46 && not after_name) (begins is_ascii_digit ds) p)) in
        let some : 0 < length (digits_at ds) = digits_some ds (and_right (eqb c 46 && not after_name) (begins is_ascii_digit ds) p) in
        subst (λ (x : ℕ). 0 < literal_digits (literal_at (x ∷ ds))) (sym dot) (omega (arith, some))
