-- The last items of a list, as those on top of a stack.
use Rattle.std.proofs.Common.{◌≡◌, ◌<◌, ◌-◌, suc, length, drop, set, List, [], ◌∷◌, ◌++◌, reverse, refl, ap, sym, ◌∙◌, arith}
use Rattle.std.proofs.lemmas.List.{length-reverse, reverse-append, reverse-reverse}
use Rattle.std.proofs.Math.Seq.{set-append_seam}

-- another item on top
on_those : {A : Type 0} (items rest : List A) (top other : A) → reverse items ≡ top ∷ rest → reverse (set items (length items - 1) other) ≡ other ∷ rest
on_those items rest top other e =
    let front : items ≡ reverse rest ++ top ∷ [] = sym (reverse-reverse items) ∙ ap reverse e ∙ reverse-append (top ∷ []) rest in
    let m : length items - 1 ≡ length (reverse rest) = let k : length items ≡ suc (length rest) = sym (length-reverse items) ∙ ap length e in omega (arith, k, length-reverse rest) in
    ap (λ k. reverse (set items k other)) m
    ∙ ap (λ l. reverse (set l (length (reverse rest)) other)) front
    ∙ ap reverse (set-append_seam (reverse rest) top [] other)
    ∙ reverse-append (reverse rest) (other ∷ [])
    ∙ ap (λ l. other ∷ l) (reverse-reverse rest)

split : {A : Type 0} (items turned : List A) (other : A) → reverse items ≡ turned → 0 < length items → reverse (set items (length items - 1) other) ≡ other ∷ drop 1 turned
split items [] other e lt = absurd (let n : length items ≡ 0 = sym (length-reverse items) ∙ ap length e in omega (arith, n, lt))
split items (top ∷ rest) other e lt = on_those items rest top other e

-- the same below an item that is taken off
pub on_top : {A : Type 0} (old items : List A) (taken other : A) → reverse old ≡ taken ∷ reverse items → 1 < length old → reverse (set items (length items - 1) other) ≡ other ∷ drop 2 (reverse old)
on_top old items taken other e lt =
    let n : length old ≡ suc (length items) = sym (length-reverse old) ∙ ap length e ∙ ap suc (length-reverse items) in
    split items (reverse items) other refl (omega (arith, n, lt)) ∙ ap (λ l. other ∷ drop 2 l) (sym e)
