-- The position of a part is the one that the search from position to position finds.
use Rattle.std.proofs.Common.{◌≡◌, ℕ, zero, suc, ◌+◌, ◌-◌, ◌<◌, ◌≤◌, Bool, true, false, List, [], ◌∷◌, drop, nat_eq, refl, ap, sym, ◌∙◌, arith}
use Rattle.std.specs.Prelude.{if◌then◌else◌}
use Rattle.std.specs.List.{starts_with}
use Rattle.std.proofs.Math.Seq.{drop-nil}
use Rattle.psm_text.specs.Parts.{IsPosition}
use Rattle.psm_exprcode.specs.Texts.{first_position, first_position_from}

-- the position, if it isn't 0, is the first from k on at which the part stands, where the text begins at k
record FirstFrom (k : ℕ) (part t : List ℕ) (position : ℕ) : Type 0 where
  pub low : 0 < position → k ≤ position
  pub found : (j : ℕ) → 0 < position → position ≡ k + j → starts_with nat_eq (drop j t) part ≡ true
  pub first : (j : ℕ) → k + j < position → starts_with nat_eq (drop j t) part ≡ false
  pub none : (j : ℕ) → position ≡ 0 → starts_with nat_eq (drop j t) part ≡ false

same_index : (k position : ℕ) → 0 < k → (0 < position → k ≤ position) → (position ≡ 0 → ⊥) → (k + 0 < position → ⊥) → position ≡ k
same_index k position p l z n = omega arith

here : (k position other : ℕ) (part t : List ℕ) (b : Bool) → 0 < k → FirstFrom k part t position → starts_with nat_eq (drop 0 t) part ≡ b → (b ≡ false → position ≡ other)
    → position ≡ (if b then k else other)
here k position other part t true p h e r = same_index k position p h.low (λ z. let n = h.none 0 z in cc) (λ l. let n = h.first 0 l in cc)
here k position other part t false p h e r = r refl

after : (k position c : ℕ) (part t : List ℕ) → FirstFrom k part (c ∷ t) position → starts_with nat_eq (c ∷ t) part ≡ false → FirstFrom (suc k) part t position
after k position c part t h e = record {
  low = λ l. later l (h.low l);
  found = λ j l q. h.found (suc j) l (omega (arith, q));
  first = λ j q. h.first (suc j) (omega (arith, q));
  none = λ j z. h.none (suc j) z;
} where
  different : 0 < position → (position ≡ k + 0 → ⊥)
  different l q = let f = h.found 0 l q in cc

  later : 0 < position → k ≤ position → suc k ≤ position
  later l m = let d : position ≡ k + 0 → ⊥ = different l in omega arith

ends : (k position : ℕ) (part : List ℕ) → FirstFrom k part [] position → starts_with nat_eq [] part ≡ false → position ≡ 0
ends k zero part h e = refl
ends k (suc m) part h e =
    let l : k ≤ suc m = h.low (omega arith) in
    let f : starts_with nat_eq (drop (suc m - k) []) part ≡ true = h.found (suc m - k) (omega arith) (omega arith) in
    let g : starts_with nat_eq [] part ≡ true = ap (λ u. starts_with nat_eq u part) (sym (drop-nil (suc m - k))) ∙ f in
    absurd (cc)

first_position_from_is : (k : ℕ) (part t : List ℕ) (position : ℕ) → 0 < k → FirstFrom k part t position → position ≡ first_position_from k part t
first_position_from_is k part [] position p h = here k position 0 part [] (starts_with nat_eq [] part) p h refl (ends k position part h)
first_position_from_is k part (c ∷ t) position p h =
    here k position (first_position_from (suc k) part t) part (c ∷ t) (starts_with nat_eq (c ∷ t) part) p h refl
    (λ e. first_position_from_is (suc k) part t position (omega arith) (after k position c part t h e))

at_one : (j : ℕ) → (1 + j) - 1 ≡ j
at_one j = omega arith

pub position_is : (part t : List ℕ) (position : ℕ) → IsPosition part t position → position ≡ first_position part t
position_is part t position h = first_position_from_is 1 part t position (omega arith) (record {
  low = λ l. omega arith;
  found = λ j l q. ap (λ i. starts_with nat_eq (drop i t) part) (sym (ap (λ i. i - 1) q ∙ at_one j)) ∙ h.found l;
  first = λ j q. ap (λ i. starts_with nat_eq (drop i t) part) (sym (at_one j)) ∙ h.first (1 + j) (omega arith) q;
  none = λ j z. ap (λ i. starts_with nat_eq (drop i t) part) (sym (at_one j)) ∙ h.none z (1 + j) (omega arith);
})
