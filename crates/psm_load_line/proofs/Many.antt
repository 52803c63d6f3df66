-- Words are read one after another, up to the end of a line.
use Rattle.std.proofs.Common.{◌≡◌, ℕ, ◌+◌, ◌<◌, ◌≤◌, true, false, List, [], ◌∷◌, ◌++◌, length, get_or, map, drop, Option, Some, None, refl, sym, ap, subst, ◌∙◌, append_assoc, arith, eqb-true}
use Rattle.std.specs.Prelude.{nat_eq, option_map}
use Rattle.std.proofs.lemmas.List.{append-nil, drop_all, drop_more, map-id}
use Rattle.psm_words.specs.Reading.{◌>>=◌}
use Rattle.psm_words.proofs.Several.{some_is}
use Rattle.psm_load_line.specs.Readers.{many, many_within, some, Reader}

abbrev with_first : {A : Type 0} → A → List A → Option (A × List A)
with_first a others = Some (a, others)

module _ {A B : Type 0} (make : A → B) (p : Reader A) where
  -- what stands in a list with what is made of what is read
  abbrev pub grown : List B → Option (List A) → Option (List B)
  grown before None = None
  grown before (Some more) = Some (before ++ map make more)

  pushed : (before : List B) (a : A) (o : Option (List A)) → grown before (o >>= λ others. Some (a ∷ others)) ≡ grown (before ++ make a ∷ []) o
  pushed before a None = refl
  pushed before a (Some more) = ap Some (sym (append_assoc before (make a ∷ []) (map make more)))

  not_empty : (s : List ℕ) → nat_eq (length s) 0 ≡ false → 0 < length s
  not_empty [] e = absurd cc
  not_empty (c ∷ s) e = omega arith

  one_read : (before : List B) (m : ℕ) (most left after : List ℕ) (a : A) → 0 < length left → p left ≡ Some (a, after) → grown before (many_within p (m ∷ most) left) ≡ grown (before ++ make a ∷ []) (many_within p most after)
  one_read before m most [] after a l e = absurd (omega (arith, l))
  one_read before m most (c ∷ s) after a l e =
      ap (λ (o : Option (A × List ℕ)). grown before (o >>= λ x. many_within p most x.1 >>= λ others. Some (x.0 ∷ others))) e
      ∙ pushed before a (many_within p most after)

  all_read : (most left : List ℕ) → length left ≡ 0 → many_within p most left ≡ Some []
  all_read [] [] l = refl
  all_read (m ∷ most) [] l = refl
  all_read most (c ∷ s) l = absurd (omega (arith, l))

  grown_some : (before after : List B) (o : Option (List A)) → grown before o ≡ Some after → (more : List A) × (o ≡ Some more) × (after ≡ before ++ map make more)
  grown_some before after None e = absurd cc
  grown_some before after (Some more) e = (more, refl, sym (some_is (before ++ map make more) after e))

  pub some_read : (s rest : List ℕ) (a : A) (more : List A) → p s ≡ Some (a, rest) → many p rest ≡ Some more → some p s ≡ Some (a, more)
  some_read s rest a more e f =
      ap (λ (o : Option (A × List ℕ)). o >>= λ x. many p x.1 >>= with_first x.0) e
      ∙ ap (λ (o : Option (List A)). o >>= with_first a) f

  none_read : (m : ℕ) (most left : List ℕ) → p left ≡ None → nat_eq (length left) 0 ≡ false → many_within p (m ∷ most) left ≡ None
  none_read m most [] e l = absurd cc
  none_read m most (c ∷ s) e l = ap (λ (o : Option (A × List ℕ)). o >>= λ x. many_within p most x.1 >>= λ others. Some (x.0 ∷ others)) e

  too_many : (left : List ℕ) → nat_eq (length left) 0 ≡ false → many_within p [] left ≡ None
  too_many [] l = absurd cc
  too_many (c ∷ s) l = refl

  grown_none : (before : List B) (o : Option (List A)) → grown before o ≡ None → o ≡ None
  grown_none before None e = refl
  grown_none before (Some more) e = absurd cc

  -- ---- where a loop has come, which has read as many words as k

  -- what the list had before the loop and has now, and what is left of the line
  abbrev pub Going : List B → List B → List ℕ → ℕ → List ℕ → Type 0
  Going old now rest k left = grown old (many p rest) ≡ grown now (many_within p (drop k rest) left)

  pub goes_on : (old now : List B) (rest : List ℕ) (k : ℕ) (left after : List ℕ) (a : A) → k < length rest → nat_eq (length left) 0 ≡ false → p left ≡ Some (a, after) → Going old now rest k left → Going old (now ++ make a ∷ []) rest (k + 1) after
  goes_on old now rest k left after a h l e going =
      going
      ∙ ap (λ (most : List ℕ). grown now (many_within p most left)) (drop_more rest k 0 h)
      ∙ one_read now (get_or rest k 0) (drop (k + 1) rest) left after a (not_empty left l) e

  abbrev pub with_made : A × List ℕ → B × List ℕ
  with_made x = (make x.0, x.1)

  mapped : (o : Option (A × List ℕ)) (b : B) (after : List ℕ) → option_map with_made o ≡ Some (b, after) → (a : A) × (o ≡ Some (a, after)) × (b ≡ make a)
  mapped None b after e = absurd cc
  mapped (Some x) b after e =
      let same : (make x.0, x.1) ≡ (b, after) = some_is (make x.0, x.1) (b, after) e in
      (x.0, ap (λ (r : List ℕ). Some (x.0, r)) (ap (λ (y : B × List ℕ). y.1) same), sym (ap (λ (y : B × List ℕ). y.0) same))

  -- the same where what is made of a word is known
  pub goes_on_made : (old now : List B) (rest : List ℕ) (k : ℕ) (left after : List ℕ) (b : B) → k < length rest → nat_eq (length left) 0 ≡ false → option_map with_made (p left) ≡ Some (b, after) → Going old now rest k left → Going old (now ++ b ∷ []) rest (k + 1) after
  goes_on_made old now rest k left after b h l e going =
      let m = mapped (p left) b after e in
      subst (λ (x : B). Going old (now ++ x ∷ []) rest (k + 1) after) (sym m.2) (goes_on old now rest k left after m.0 h l m.1 going)

  pub some_made : (s rest : List ℕ) (b : B) (more : List A) → option_map with_made (p s) ≡ Some (b, rest) → many p rest ≡ Some more → (x : A × List A) × (some p s ≡ Some x) × (b ≡ make x.0) × (more ≡ x.1)
  some_made s rest b more e f =
      let m = mapped (p s) b rest e in
      ((m.0, more), some_read s rest m.0 more m.1 f, m.2, refl)

  none_made : (o : Option (A × List ℕ)) → option_map with_made o ≡ None → o ≡ None
  none_made None e = refl
  none_made (Some x) e = absurd cc

  pub meets_another : (old now : List B) (rest : List ℕ) (k : ℕ) (left : List ℕ) → k < length rest → nat_eq (length left) 0 ≡ false → option_map with_made (p left) ≡ None → Going old now rest k left → many p rest ≡ None
  meets_another old now rest k left h l e going =
      grown_none old (many p rest) (going ∙ ap (λ (most : List ℕ). grown now (many_within p most left)) (drop_more rest k 0 h) ∙ ap (grown now) (none_read (get_or rest k 0) (drop (k + 1) rest) left (none_made (p left) e) l))

  pub meets_too_many : (old now : List B) (rest : List ℕ) (k : ℕ) (left : List ℕ) → length rest ≤ k → nat_eq (length left) 0 ≡ false → Going old now rest k left → many p rest ≡ None
  meets_too_many old now rest k left h l going =
      grown_none old (many p rest) (going ∙ ap (λ (most : List ℕ). grown now (many_within p most left)) (drop_all k rest h) ∙ ap (grown now) (too_many left l))

  pub comes_to_end : (old now : List B) (rest : List ℕ) (k : ℕ) (left : List ℕ) → nat_eq (length left) 0 ≡ true → Going old now rest k left → (more : List A) × (many p rest ≡ Some more) × (now ≡ old ++ map make more)
  comes_to_end old now rest k left l going =
      grown_some old now (many p rest) (going ∙ ap (grown now) (all_read (drop k rest) left (eqb-true (length left) 0 l)) ∙ ap Some (append-nil now))

-- the same of numbers, which are kept as they are
pub comes_to_last : (p : Reader ℕ) (old now rest : List ℕ) (k : ℕ) (left : List ℕ) → nat_eq (length left) 0 ≡ true → Going (λ n. n) p old now rest k left → (more : List ℕ) × (many p rest ≡ Some more) × (now ≡ old ++ more)
comes_to_last p old now rest k left l going =
    let h : (more : List ℕ) × (many p rest ≡ Some more) × (now ≡ old ++ map (λ n. n) more) = comes_to_end (λ n. n) p old now rest k left l going in
    (h.0, h.1, h.2 ∙ ap (λ ns. old ++ ns) (map-id h.0))
