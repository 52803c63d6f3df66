-- What is written piece by piece, from its last piece on.
use Rattle.std.proofs.Common.{◌≡◌, ℕ, List, [], ◌∷◌, ◌++◌, OnOk, sym, ap, refl, ◌∙◌, append_assoc}
use Rattle.std.specs.Prelude.{Result, Ok, Err}
use Rattle.std.proofs.lemmas.Grind.{flat_map-append}
use Rattle.psm_object.specs.Words.{ended, further, spaced, text}

further-append : (vs ws : List (List ℕ)) → further (vs ++ ws) ≡ further vs ++ further ws
further-append [] ws = refl
further-append (v ∷ vs) ws = ap (λ (t : List ℕ). 32 ∷ v ++ t) (further-append vs ws) ∙ sym (append_assoc (32 ∷ v) (further vs) (further ws))

-- ---- a line

-- a piece before the rest of a line
line_piece : {A E : Type 0} (r : Result A E) (o o1 o2 u s : List ℕ) → o1 ≡ o ++ u → OnOk r (o2 ≡ o1 ++ ended s) → OnOk r (o2 ≡ o ++ ended (u ++ s))
line_piece (Ok x) o o1 o2 u s e h = h ∙ ap (λ (t : List ℕ). t ++ ended s) e ∙ append_assoc o u (ended s) ∙ ap (λ (t : List ℕ). o ++ t) (sym (append_assoc u s (10 ∷ [])))
line_piece (Err x) o o1 o2 u s e h = tt

pub line_word : {A E : Type 0} (r : Result A E) (o o1 o2 w : List ℕ) (ws : List (List ℕ)) → o1 ≡ o ++ 32 ∷ w → OnOk r (o2 ≡ o1 ++ ended (further ws)) → OnOk r (o2 ≡ o ++ ended (further (w ∷ ws)))
line_word r o o1 o2 w ws e h = line_piece r o o1 o2 (32 ∷ w) (further ws) e h

same_line : {A E : Type 0} (r : Result A E) (o o2 s t : List ℕ) → s ≡ t → OnOk r (o2 ≡ o ++ ended s) → OnOk r (o2 ≡ o ++ ended t)
same_line (Ok x) o o2 s t e h = h ∙ ap (λ (u : List ℕ). o ++ ended u) e
same_line (Err x) o o2 s t e h = tt

pub line_words : {A E : Type 0} (r : Result A E) (o o1 o2 : List ℕ) (vs ws : List (List ℕ)) → o1 ≡ o ++ further vs → OnOk r (o2 ≡ o1 ++ ended (further ws)) → OnOk r (o2 ≡ o ++ ended (further (vs ++ ws)))
line_words r o o1 o2 vs ws e h = same_line r o o2 (further vs ++ further ws) (further (vs ++ ws)) (sym (further-append vs ws)) (line_piece r o o1 o2 (further vs) (further ws) e h)

pub line_start : {A E : Type 0} (r : Result A E) (o o1 o2 w : List ℕ) (vs ws : List (List ℕ)) → o1 ≡ o ++ spaced (w ∷ vs) → OnOk r (o2 ≡ o1 ++ ended (further ws)) → OnOk r (o2 ≡ o ++ ended (spaced (w ∷ (vs ++ ws))))
line_start r o o1 o2 w vs ws e h =
    same_line r o o2 (spaced (w ∷ vs) ++ further ws) (spaced (w ∷ (vs ++ ws))) (append_assoc w (further vs) (further ws) ∙ ap (λ (t : List ℕ). w ++ t) (sym (further-append vs ws)))
    (line_piece r o o1 o2 (spaced (w ∷ vs)) (further ws) e h)

-- ---- lines

pub text_after : (o o1 o2 l : List ℕ) (b : List (List ℕ)) → o1 ≡ o ++ ended l → o2 ≡ o1 ++ text b → o2 ≡ o ++ text (l ∷ b)
text_after o o1 o2 l b e h = h ∙ ap (λ (t : List ℕ). t ++ text b) e ∙ append_assoc o (ended l) (text b)

pub text_more : (o o1 o2 : List ℕ) (a b : List (List ℕ)) → o1 ≡ o ++ text a → o2 ≡ o1 ++ text b → o2 ≡ o ++ text (a ++ b)
text_more o o1 o2 a b e h = h ∙ ap (λ (t : List ℕ). t ++ text b) e ∙ append_assoc o (text a) (text b) ∙ ap (λ (t : List ℕ). o ++ t) (sym (flat_map-append ended a b))

pub text_last : {A E : Type 0} (r : Result A E) (o o1 o2 : List ℕ) (a b : List (List ℕ)) → o1 ≡ o ++ text a → OnOk r (o2 ≡ o1 ++ text b) → OnOk r (o2 ≡ o ++ text (a ++ b))
text_last (Ok x) o o1 o2 a b e h = text_more o o1 o2 a b e h
text_last (Err x) o o1 o2 a b e h = tt
