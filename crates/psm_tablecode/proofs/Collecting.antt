-- What is taken of each of some things, one after another.
use Rattle.std.proofs.Common.{◌≡◌, ℕ, suc, ◌+◌, ◌<◌, List, [], ◌∷◌, ◌++◌, length, get_or, drop, append_assoc, refl, ap, sym, subst, ◌∙◌, arith, Result, Ok, Err}
use Rattle.std.specs.Prelude.{map}
use Rattle.std.proofs.Math.Seq.{drop-cons, drop-length}
use Rattle.std.proofs.lemmas.List.{append-nil}
use Rattle.psm_sqlstate.specs.declared.state.SqlState.{SqlState}
use Rattle.psm_value.specs.Answer.{Gives}
use Rattle.psm_value.specs.declared.fault.ValueFault.{ValueFault}
use Rattle.psm_value.specs.declared.fault.ValueFault.TheVariants.{Condition, Memory}
use Rattle.psm_table.specs.Evaluator.{and_then, collected, mapped}
use Rattle.psm_tablecode.proofs.Results.{mapped-same}

-- with what is done, what is taken of the rest is what is taken of all
abbrev pub Collects : {A B : Type 0} → (A → Result B SqlState) → List A → ℕ → List B → Type 0
Collects take xs at done = mapped (λ bs. done ++ bs) (collected take (drop at xs)) ≡ collected take xs

pub first_of : {A : Type 0} (xs : List A) (at : ℕ) (a : A) → at < length xs → a ≡ get_or xs at a → drop at xs ≡ a ∷ drop (at + 1) xs
first_of xs at a l e =
    let n : suc at ≡ at + 1 = omega arith in
    drop-cons xs at a l ∙ ap (λ x. x ∷ drop (suc at) xs) (sym e) ∙ ap (λ k. a ∷ drop k xs) n

pub collects_first : {A B : Type 0} (take : A → Result B SqlState) (xs : List A) (done : List B) → done ≡ [] → Collects take xs 0 done
collects_first take xs done e = subst (λ d. Collects take xs 0 d) (sym e) (mapped-same (collected take xs))

module _ {A B : Type 0} (take : A → Result B SqlState) (xs : List A) (at : ℕ) (a : A) (done : List B) where
  -- what is taken of the next is as expected
  taken_next : (b : B) (r : Result (List B) SqlState) → mapped (λ bs. (done ++ b ∷ []) ++ bs) r ≡ mapped (λ bs. done ++ bs) (mapped (λ bs. b ∷ bs) r)
  taken_next b (Ok bs) = ap Ok (append_assoc done (b ∷ []) bs)
  taken_next b (Err s) = refl

  rest_is : at < length xs → a ≡ get_or xs at a → collected take (drop at xs) ≡ and_then (take a) (λ b. mapped (λ bs. b ∷ bs) (collected take (drop (at + 1) xs)))
  rest_is l e = ap (collected take) (first_of xs at a l e)

  pub collects_next : (b : B) (more : List B) → at < length xs → a ≡ get_or xs at a → take a ≡ Ok b → more ≡ done ++ b ∷ [] → Collects take xs at done → Collects take xs (at + 1) more
  collects_next b more l e t m h =
      subst (λ d. Collects take xs (at + 1) d) (sym m)
      (taken_next b (collected take (drop (at + 1) xs))
      ∙ sym (ap (λ r. mapped (λ bs. done ++ bs) (and_then r (λ c. mapped (λ bs. c ∷ bs) (collected take (drop (at + 1) xs))))) t)
      ∙ sym (ap (mapped (λ bs. done ++ bs)) (rest_is l e)) ∙ h)

  raised : (s : SqlState) → at < length xs → a ≡ get_or xs at a → take a ≡ Err s → Collects take xs at done → collected take xs ≡ Err s
  raised s l e t h =
      sym h ∙ ap (mapped (λ bs. done ++ bs)) (rest_is l e)
      ∙ ap (λ r. mapped (λ bs. done ++ bs) (and_then r (λ c. mapped (λ bs. c ∷ bs) (collected take (drop (at + 1) xs))))) t

  pub collects_fault : (fault : ValueFault) → at < length xs → a ≡ get_or xs at a → Gives (take a) (Err fault) → Collects take xs at done → Gives (collected take xs) (Err fault)
  collects_fault (Condition s) l e t h = raised s l e t h
  collects_fault Memory l e t h = tt

pub collects_end : {A B : Type 0} (take : A → Result B SqlState) (xs : List A) (done : List B) → Collects take xs (length xs) done → collected take xs ≡ Ok done
collects_end take xs done h = sym h ∙ ap (λ l. mapped (λ bs. done ++ bs) (collected take l)) (drop-length xs) ∙ ap Ok (append-nil done)

pub collected-map : {A B C : Type 0} (take : B → Result C SqlState) (f : A → B) (xs : List A) → collected take (map f xs) ≡ collected (λ a. take (f a)) xs
collected-map take f [] = refl
collected-map take f (a ∷ xs) = ap (λ r. and_then (take (f a)) (λ b. mapped (λ bs. b ∷ bs) r)) (collected-map take f xs)
