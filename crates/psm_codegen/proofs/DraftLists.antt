-- What is written with labels for a list, one after another. W is what is written of the rest of the list, G what is said of all.
use Rattle.std.proofs.Common.{◌≡◌, ◌<◌, ◌≤◌, ◌+◌, ℕ, List, [], ◌∷◌, length, drop, get_or, Option, refl, sym, subst}
use Rattle.std.proofs.lemmas.List.{drop_all}
use Rattle.psm_exprgen.specs.Labels.{Draft}
use Rattle.psm_exprgen.proofs.Drafts.{begins-same, one, two}
use Rattle.psm_codegen.proofs.Dropping.{left_next}

-- with what is written of the rest, all is written
abbrev pub Left : {S A : Type 0} → ((ℕ → ℕ) → List A → S → S → Type 0) → ((ℕ → ℕ) → S → S → Type 0) → List A → (ℕ → ℕ) → S → S → Type 0
Left {S} W G rest σ p q = (r : S) → W σ rest q r → G σ p r

-- one is written, and others after it as V says
abbrev pub First : {S A : Type 0} → ((ℕ → ℕ) → List A → S → S → Type 0) → ((ℕ → ℕ) → List A → S → S → Type 0) → A → (ℕ → ℕ) → S → S → Type 0
First {S} {A} W V x σ p q = (xs : List A) (r : S) → V σ xs q r → W σ (x ∷ xs) p r

module _ {S A : Type 0} {labels_in : S → List (Option ℕ)} {patch : (ℕ → ℕ) → S → S} where
  pub all_left : (W : (ℕ → ℕ) → List A → S → S → Type 0) {w : S} (items all : List A) → items ≡ all → Draft labels_in patch (Left W (λ σ. W σ all) items) w w
  all_left W {w} items all e = record { labels = begins-same refl; is = λ σ r q x. subst (λ xs. W σ xs (patch σ w) q) e x }

  pub next_left : (W V : (ℕ → ℕ) → List A → S → S → Type 0) (G : (ℕ → ℕ) → S → S → Type 0) {w u v : S} (items : List A) (i : ℕ) (b c : A) → i < length items → b ≡ get_or items i b → c ≡ b
      → Draft labels_in patch (Left W G (drop i items)) w u → Draft labels_in patch (First W V c) u v → Draft labels_in patch (Left V G (drop (i + 1) items)) w v
  next_left W V G {u = u} items i b c h e n a x = two a x (λ σ before next r y. before r (subst (λ ys. W σ ys (patch σ u) r) (sym (left_next items i b c h e n)) (next (drop (i + 1) items) r y)))

  pub none_left : (W : (ℕ → ℕ) → List A → S → S → Type 0) (G : (ℕ → ℕ) → S → S → Type 0) {w v : S} (items : List A) (i : ℕ) → length items ≤ i → Draft labels_in patch (Left W G (drop i items)) w v
      → ((σ : ℕ → ℕ) (q : S) → W σ [] q q) → Draft labels_in patch G w v
  none_left W G {v = v} items i h a none = one a (λ σ before. before (patch σ v) (subst (λ ys. W σ ys (patch σ v) (patch σ v)) (sym (drop_all i items h)) (none σ (patch σ v))))
