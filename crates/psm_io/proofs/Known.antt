-- Bytes that a writer holds, over several calls.
use Rattle.std.proofs.Common.{◌≡◌, ◌∙◌, sym, ap, ℕ, ◌-◌, List, ◌++◌, append_assoc, take-append-drop, length, take, drop, subst, Option, None, Some, arith}
use Rattle.std.proofs.lemmas.Grind.{common_steps}
use Rattle.std.proofs.Math.Seq.{take-append_seam}
use Rattle.std.specs.Io.KnownBytes.{Appends, Keeps}

pub Appends-then : (a b c : Option (List ℕ)) (xs ys : List ℕ) → Appends a b xs → Appends b c ys → Appends a c (xs ++ ys)
Appends-then None b c xs ys p q = tt
Appends-then (Some a) None c xs ys p q = absurd p
Appends-then (Some a) (Some b) None xs ys p q = q
Appends-then (Some a) (Some b) (Some c) xs ys p q = q ∙ ap (λ z. z ++ ys) p ∙ append_assoc a xs ys

pub Appends-Keeps : (a b c : Option (List ℕ)) (xs : List ℕ) → Appends a b xs → Keeps b c → Appends a c xs
Appends-Keeps None b c xs p q = tt
Appends-Keeps (Some a) None c xs p q = absurd p
Appends-Keeps (Some a) (Some b) None xs p q = q
Appends-Keeps (Some a) (Some b) (Some c) xs p q = q ∙ p

-- a prefix of the piece is written, and the writer then kept what it held
pub prefix_kept : (a b c : Option (List ℕ)) (piece done rest : List ℕ) → piece ≡ done ++ rest → Appends a b done → Keeps b c →
    (kept : ℕ) × Appends a c (take kept piece)
prefix_kept a b c piece done rest split so_far stays =
    let front : take (length done) piece ≡ done = ap (take (length done)) split ∙ take-append_seam done rest in
    let P : List ℕ → Type 0 = λ z. Appends a c z in
    (length done, subst P (sym front) (Appends-Keeps a b c done so_far stays))

all_left : (rest : List ℕ) (n : ℕ) → take (length rest - n) (drop n rest) ≡ drop n rest
all_left rest n = grind (arith, common_steps)

-- a further part of the piece is written
pub prefix_more : (a b c : Option (List ℕ)) (piece done rest : List ℕ) (n : ℕ) → piece ≡ done ++ rest → Appends a b done →
    Appends b c (take n rest) → (more : List ℕ) × (piece ≡ more ++ take (length rest - n) (drop n rest)) × Appends a c more
prefix_more a b c piece done rest n split so_far now = (
  done ++ take n rest,
  split ∙ ap (λ z. done ++ z) (sym (take-append-drop n rest)) ∙ sym (append_assoc done (take n rest) (drop n rest))
      ∙ ap (λ z. (done ++ take n rest) ++ z) (sym (all_left rest n)),
  Appends-then a b c done (take n rest) so_far now,
)
