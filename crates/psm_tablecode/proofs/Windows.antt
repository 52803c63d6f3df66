-- Lines of code looked at one after another.
use Rattle.std.proofs.Common.{◌≡◌, ℕ, zero, suc, ◌+◌, ◌-◌, ◌<◌, ◌≤◌, Bool, true, false, ◌&&◌, List, [], ◌∷◌, length, length-drop, drop, refl, ap, sym, ◌∙◌, arith, Option, Some, None}
use Rattle.std.specs.Prelude.{nat_eq, option_map, slice_get, if◌then◌else◌}
use Rattle.std.specs.Option.{option_or}
use Rattle.std.proofs.Math.Seq.{drop-length}
use Rattle.std.proofs.lemmas.Option.{get_or_from_slice_get, slice_get_within}
use Rattle.psm_exprcode.specs.declared.op.Line.{Line}
use Rattle.psm_exprcode.specs.declared.op.Op.{Op}
use Rattle.psm_tablecode.specs.Tests.{are_quiet, first_four, first_three, free, free_before, is_quiet, made}
use Rattle.psm_tablecode.proofs.Collecting.{first_of}

-- the operation of the line at an index
abbrev pub op_at : List Line → ℕ → Option Op
op_at lines at = option_map (λ l. l.op) (slice_get lines at)

pub line_of : (m : Option Line) (o : Op) → Some o ≡ option_map (λ (l : Line). l.op) m → (l : Line) × (m ≡ Some l) × (l.op ≡ o)
line_of (Some l) o e = (l, refl, (let same : l.op ≡ o = cc in same))
line_of None o e = absurd (cc)

pub line_none : (m : Option Line) → None ≡ option_map (λ (l : Line). l.op) m → m ≡ None
line_none None e = refl
line_none (Some l) e = cc

none_past : (lines : List Line) (at : ℕ) → slice_get lines at ≡ None → (drop at lines ≡ []) × (drop (suc at) lines ≡ [])
none_past [] zero e = (refl, refl)
none_past [] (suc at) e = (refl, refl)
none_past (l ∷ lines) zero e = absurd (cc)
none_past (l ∷ lines) (suc at) e = none_past lines at e

module _ (lines : List Line) (at : ℕ) where
  next_is : suc at ≡ at + 1
  next_is = omega arith

  pub line_is : (l : Line) → slice_get lines at ≡ Some l → drop at lines ≡ l ∷ drop (at + 1) lines
  line_is l e = first_of lines at l (slice_get_within lines at l e) (sym (get_or_from_slice_get lines at l l e))

  pub past_is : slice_get lines at ≡ None → (drop at lines ≡ []) × (drop (at + 1) lines ≡ [])
  past_is e = let p = none_past lines at e in (p.0, ap (λ n. drop n lines) (sym next_is) ∙ p.1)

  -- ---- lines that raise nothing

  pub quiet_some : (o : Op) → Some o ≡ op_at lines at → are_quiet (drop at lines) ≡ (is_quiet o && are_quiet (drop (at + 1) lines))
  quiet_some o e =
      let l = line_of (slice_get lines at) o e in
      ap are_quiet (line_is l.0 l.1) ∙ ap (λ (p : Op). is_quiet p && are_quiet (drop (at + 1) lines)) l.2

  pub quiet_none : None ≡ op_at lines at → are_quiet (drop at lines) ≡ are_quiet (drop (at + 1) lines)
  quiet_none e = let p = past_is (line_none (slice_get lines at) e) in ap are_quiet p.0 ∙ sym (ap are_quiet p.1)

  -- ---- operands that needn't be true

  pub free_some : (o : Op) → Some o ≡ op_at lines at → free (drop at lines) ≡ free_before o (free (drop (at + 1) lines))
  free_some o e =
      let l = line_of (slice_get lines at) o e in
      ap free (line_is l.0 l.1) ∙ ap (λ (p : Op). free_before p (free (drop (at + 1) lines))) l.2

  pub free_none : None ≡ op_at lines at → free (drop at lines) ≡ 0
  free_none e = let p = past_is (line_none (slice_get lines at) e) in ap free p.0

module _ (lines : List Line) (at : ℕ) where
  pub free_end : at ≡ length lines → 0 ≡ free (drop at lines)
  free_end e = sym (ap (λ n. free (drop n lines)) e ∙ ap free (drop-length lines))

  pub free_back : (n now : ℕ) (o : Op) → 1 ≤ at → Some o ≡ op_at lines (at - 1) → n ≡ free (drop at lines) → now ≡ free_before o n → now ≡ free (drop (at - 1) lines)
  free_back n now o h e f g =
      let p : at ≡ at - 1 + 1 = omega (arith, h) in
      g ∙ ap (free_before o) (f ∙ ap (λ m. free (drop m lines)) p) ∙ sym (free_some lines (at - 1) o e)

-- ---- one, two or three operations, where there are that many

abbrev pub of_three_ops : {X : Type 0} → (Op → Op → Op → Option X) → Option Op → Option Op → Option Op → Option X
of_three_ops make None b e = None
of_three_ops make (Some a) None e = None
of_three_ops make (Some a) (Some b) None = None
of_three_ops make (Some a) (Some b) (Some e) = make a b e

abbrev pub of_four_ops : {X : Type 0} → (Op → Op → Op → Op → Option X) → Option Op → Option Op → Option Op → Option Op → Option X
of_four_ops make None a b e = None
of_four_ops make (Some x) None b e = None
of_four_ops make (Some x) (Some a) None e = None
of_four_ops make (Some x) (Some a) (Some b) None = None
of_four_ops make (Some x) (Some a) (Some b) (Some e) = make x a b e

get-drop : (n : ℕ) (lines : List Line) (k : ℕ) → slice_get (drop n lines) k ≡ slice_get lines (n + k)
get-drop zero lines k = let e : k ≡ 0 + k = omega arith in ap (slice_get lines) e
get-drop (suc n) [] k = refl
get-drop (suc n) (l ∷ lines) k = let e : suc (n + k) ≡ suc n + k = omega arith in get-drop n lines k ∙ ap (slice_get (l ∷ lines)) e

op_drop : (lines : List Line) (at k : ℕ) → op_at (drop at lines) k ≡ op_at lines (at + k)
op_drop lines at k = ap (λ m. option_map (λ (l : Line). l.op) m) (get-drop at lines k)

op_first : (lines : List Line) (at : ℕ) → op_at (drop at lines) 0 ≡ op_at lines at
op_first lines at = let z : at + 0 ≡ at = omega arith in op_drop lines at 0 ∙ ap (op_at lines) z

module _ {X : Type 0} (make : Op → Op → Op → Option X) where
  three_ops : (ls : List Line) → first_three make ls ≡ of_three_ops make (op_at ls 0) (op_at ls 1) (op_at ls 2)
  three_ops [] = refl
  three_ops (a ∷ []) = refl
  three_ops (a ∷ b ∷ []) = refl
  three_ops (a ∷ b ∷ e ∷ lines) = refl

  pub three_by : (lines : List Line) (at : ℕ) (a b e : Option Op) → a ≡ op_at lines at → b ≡ op_at lines (at + 1) → e ≡ op_at lines (at + 2)
      → of_three_ops make a b e ≡ first_three make (drop at lines)
  three_by lines at a b e p q r =
      sym (three_ops (drop at lines)
      ∙ (λ i. of_three_ops make ((op_first lines at ∙ sym p) i) ((op_drop lines at 1 ∙ sym q) i) ((op_drop lines at 2 ∙ sym r) i)))

module _ {X : Type 0} (make : Op → Op → Op → Op → Option X) where
  four_ops : (ls : List Line) → first_four make ls ≡ of_four_ops make (op_at ls 0) (op_at ls 1) (op_at ls 2) (op_at ls 3)
  four_ops [] = refl
  four_ops (x ∷ []) = refl
  four_ops (x ∷ a ∷ []) = refl
  four_ops (x ∷ a ∷ b ∷ []) = refl
  four_ops (x ∷ a ∷ b ∷ e ∷ lines) = refl

  pub four_by : (lines : List Line) (at : ℕ) (x a b e : Option Op) → x ≡ op_at lines at → a ≡ op_at lines (at + 1) → b ≡ op_at lines (at + 2) → e ≡ op_at lines (at + 3)
      → of_four_ops make x a b e ≡ first_four make (drop at lines)
  four_by lines at x a b e o p q r =
      sym (four_ops (drop at lines)
      ∙ (λ i. of_four_ops make ((op_first lines at ∙ sym o) i) ((op_drop lines at 1 ∙ sym p) i) ((op_drop lines at 2 ∙ sym q) i) ((op_drop lines at 3 ∙ sym r) i)))

-- ---- what is made by some lines

module _ {X : Type 0} (width : ℕ) (make : List Line → Option X) (wide : 1 ≤ width) (short : (ls : List Line) → length ls < width → make ls ≡ None) where
  none_either : (b : Bool) (o : Option X) → option_or (if b then None else None) o ≡ o
  none_either true o = refl
  none_either false o = refl

  none_made : (ls : List Line) → length ls < width → made width make ls ≡ None
  none_made [] h = refl
  none_made (l ∷ ls) h =
      ap (λ o. option_or (if nat_eq (free (drop width (l ∷ ls))) 0 then o else None) (made width make ls)) (short (l ∷ ls) h)
      ∙ none_either (nat_eq (free (drop width (l ∷ ls))) 0) (made width make ls) ∙ none_made ls (omega (arith, h))

  from_index : (ls : List Line) (p : ℕ) → p < length ls
      → made width make (drop p ls) ≡ option_or (if nat_eq (free (drop (p + width) ls)) 0 then make (drop p ls) else None) (made width make (drop (p + 1) ls))
  from_index [] p h = absurd (omega (arith, h))
  from_index (l ∷ ls) zero h = let e : width ≡ 0 + width = omega arith in ap (λ n. option_or (if nat_eq (free (drop n (l ∷ ls))) 0 then make (l ∷ ls) else None) (made width make ls)) e
  from_index (l ∷ ls) (suc p) h =
      let e : suc (p + width) ≡ suc p + width = omega arith in
      let f : suc (p + 1) ≡ suc p + 1 = omega arith in
      from_index ls p (omega (arith, h))
      ∙ ap (λ n. option_or (if nat_eq (free (drop n (l ∷ ls))) 0 then make (drop p ls) else None) (made width make (drop (p + 1) ls))) e
      ∙ ap (λ n. option_or (if nat_eq (free (drop (suc p + width) (l ∷ ls))) 0 then make (drop p ls) else None) (made width make (drop n (l ∷ ls)))) f

  module _ (lines : List Line) where
    -- what n lines make that end at an index or later
    abbrev pub made_from : ℕ → Option X
    made_from at = made width make (drop (at + 1 - width) lines)

    -- at the end none is made
    pub made_last : (at : ℕ) → at ≡ length lines → None ≡ made_from at
    made_last at e = sym (none_made (drop (at + 1 - width) lines) (omega (arith, length-drop (at + 1 - width) lines, e, wide)))

    pub made_first : (at : ℕ) → at < width → made_from at ≡ made width make lines
    made_first at h = let e : at + 1 - width ≡ 0 = omega (arith, h) in ap (λ n. made width make (drop n lines)) e

    pub made_before : (at n : ℕ) (found now : Option X) → width ≤ at → at ≤ length lines → n ≡ free (drop at lines) → found ≡ made_from at
        → now ≡ option_or (if nat_eq n 0 then make (drop (at - width) lines) else None) found → now ≡ made_from (at - 1)
    made_before at n found now h b f g e =
        let p : at ≡ at - width + width = omega (arith, h) in
        let q : at + 1 - width ≡ at - width + 1 = omega (arith, h) in
        let r : at - width ≡ at - 1 + 1 - width = omega (arith, h, wide) in
        e ∙ ap (λ o. option_or (if nat_eq n 0 then make (drop (at - width) lines) else None) o) (g ∙ ap (λ m. made width make (drop m lines)) q)
        ∙ ap (λ m. option_or (if nat_eq m 0 then make (drop (at - width) lines) else None) (made width make (drop (at - width + 1) lines))) (f ∙ ap (λ m. free (drop m lines)) p)
        ∙ sym (from_index lines (at - width) (omega (arith, h, b, wide))) ∙ ap (λ m. made width make (drop m lines)) r
