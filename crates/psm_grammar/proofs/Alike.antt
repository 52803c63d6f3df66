-- A word beside what was read: while it has the same tokens it has them at the same levels, and where it
-- goes on as the rest does, a fact is known of what is left of it.
use Rattle.std.proofs.Common.{◌≡◌, List, [], ◌∷◌, ◌++◌, Some, None, refl, sym, ap, subst, ◌∙◌, append_assoc}
use Rattle.std.proofs.lemmas.List.{map-append}
use Rattle.psm_grammar.specs.Language.{Words, toks}
use Rattle.psm_grammar.specs.Exact.{head, Levels}

pub toks_after : {T : Type 0} (u v : Words T) (k : List T) → toks (u ++ v) ++ k ≡ toks u ++ (toks v ++ k)
toks_after u v k = ap (λ ts. ts ++ k) (map-append (λ x. x.0) u v) ∙ append_assoc (toks u) (toks v) k

-- Q is known of what is left where w goes on as the rest does, and R where w ends there
abbrev pub Alike : {T : Type 0} → (Words T → Type 0) → (Words T → Type 0) → Words T → List T → Words T → List T → Type 0
Alike Q R [] rest w k = (head (toks w ++ k) ≡ head rest → Q w) × (head (toks w ++ k) ≡ None → R w)
Alike Q R (f ∷ front) rest [] k = head k ≡ Some f.0 → ⊥
Alike Q R (f ∷ front) rest (x ∷ w) k = x.0 ≡ f.0 → (x.1 ≡ f.1) × Alike Q R front rest w k

module _ {T : Type 0} where
  -- it is enough to look at words with the same first token, and at those that end where nothing was read
  pub guarded : (Q R : Words T → Type 0) (front : Words T) (rest : List T) (w : Words T) (k : List T)
      → (head (toks w ++ k) ≡ head (toks front ++ rest) → Alike Q R front rest w k) → (front ≡ [] → head (toks w ++ k) ≡ None → R w) → Alike Q R front rest w k
  guarded Q R [] rest w k g h = (λ e. (g e).0 e, h refl)
  guarded Q R (f ∷ front) rest [] k g h = λ e. g e e
  guarded Q R (f ∷ front) rest (x ∷ w) k g h = λ e. g (ap Some e) e

  pub alike_map : (Q R Q' R' : Words T → Type 0) (front : Words T) (rest : List T) (w : Words T) (k : List T)
      → ((m : Words T) → Q m → Q' m) → ((m : Words T) → R m → R' m) → Alike Q R front rest w k → Alike Q' R' front rest w k
  alike_map Q R Q' R' [] rest w k g h a = (λ e. g w (a.0 e), λ e. h w (a.1 e))
  alike_map Q R Q' R' (f ∷ front) rest [] k g h a = a
  alike_map Q R Q' R' (f ∷ front) rest (x ∷ w) k g h a = λ e. ((a e).0, alike_map Q R Q' R' front rest w k g h (a e).1)

  -- the first of two parts stopped
  pub alike_left : (Q R Q' R' : Words T → Type 0) (front : Words T) (rest : List T) (u v : Words T) (k : List T)
      → ((m : Words T) → Q m → Q' (m ++ v)) → ((m : Words T) → R m → R' (m ++ v)) → Alike Q R front rest u (toks v ++ k) → Alike Q' R' front rest (u ++ v) k
  alike_left Q R Q' R' [] rest u v k g h a =
      let same = ap head (sym (toks_after u v k)) in
      (λ e. g u (a.0 (same ∙ e)), λ e. h u (a.1 (same ∙ e)))
  alike_left Q R Q' R' (f ∷ front) rest [] [] k g h a = a
  alike_left Q R Q' R' (f ∷ front) rest [] (y ∷ v) k g h a = λ e. absurd (a (ap Some e))
  alike_left Q R Q' R' (f ∷ front) rest (x ∷ u) v k g h a = λ e. ((a e).0, alike_left Q R Q' R' front rest u v k g h (a e).1)

  -- the first of two parts was read, and then the second
  pub alike_both : (Q R : Words T → Type 0) (E : Type 0) (one two : Words T) (rest : List T) (u v : Words T) (k : List T)
      → Alike (λ m. (m ≡ []) × E) (λ m. (m ≡ []) × E) one (toks two ++ rest) u (toks v ++ k) → (E → Alike Q R two rest v k) → Alike Q R (one ++ two) rest (u ++ v) k
  alike_both Q R E [] two rest u v k a b =
      let same = ap head (sym (toks_after u v k)) in
      guarded Q R two rest (u ++ v) k
      (λ e. let known = a.0 (same ∙ e) in subst (λ (s : Words T). Alike Q R two rest (s ++ v) k) (sym known.0) (b known.1))
      (λ n e. let known = a.1 (same ∙ e) in subst (λ (s : Words T). R (s ++ v)) (sym known.0) (ends two n (b known.1) v (ap (λ (s : Words T). head (toks (s ++ v) ++ k)) (sym known.0) ∙ e)))
    where
      ends : (two : Words T) → two ≡ [] → Alike Q R two rest v k → (w : Words T) → head (toks v ++ k) ≡ None → R v
      ends [] n a w e = a.1 e
      ends (x ∷ two) n a w e = absurd (cc n)
  alike_both Q R E (f ∷ one) two rest [] [] k a b = a
  alike_both Q R E (f ∷ one) two rest [] (y ∷ v) k a b = λ e. absurd (a (ap Some e))
  alike_both Q R E (f ∷ one) two rest (x ∷ u) v k a b = λ e. ((a e).0, alike_both Q R E one two rest u v k (a e).1 b)

  -- the same levels
  pub alike_levels : (Q R : Words T → Type 0) (front : Words T) (rest : List T) (w : Words T) (k : List T) → Alike Q R front rest w k → Levels front w k
  alike_levels Q R [] rest w k a = tt
  alike_levels Q R (f ∷ front) rest [] k a = a
  alike_levels Q R (f ∷ front) rest (x ∷ w) k a = λ e. ((a e).0, alike_levels Q R front rest w k (a e).1)

  pub some_same : (a b : T) → Some a ≡ Some b → a ≡ b
  some_same a b e = cc

  tail : List T → List T
  tail [] = []
  tail (t ∷ ts) = ts

  -- a word that goes on as the rest does
  pub alike_on : (Q R : Words T → Type 0) (front : Words T) (rest : List T) (w : Words T) (k : List T) (more : List T)
      → toks w ++ k ≡ toks front ++ more → head more ≡ head rest → Alike Q R front rest w k → (m : Words T) × (w ≡ front ++ m) × Q m
  unfolding tail
  alike_on Q R [] rest w k more e h a = (w, refl, a.0 (ap head e ∙ h))
  alike_on Q R (f ∷ front) rest [] k more e h a = absurd (a (ap head e))
  alike_on Q R (f ∷ front) rest (x ∷ w) k more e h a =
      let same : x.0 ≡ f.0 = some_same x.0 f.0 (ap head e) in
      let b = a same in
      let on = alike_on Q R front rest w k more (ap tail e) h b.1 in
      let both : x ≡ f = λ i. (same i, b.0 i) in
      (on.0, (λ i. both i ∷ on.1 i), on.2)

  -- a word that ends there
  pub alike_end : (Q R : Words T → Type 0) (front : Words T) (rest : List T) (w : Words T) → toks w ≡ toks front → Alike Q R front rest w [] → (w ≡ front) × R []
  unfolding tail
  alike_end Q R [] rest [] e a = (refl, a.1 refl)
  alike_end Q R [] rest (x ∷ w) e a = absurd (cc e)
  alike_end Q R (f ∷ front) rest [] e a = absurd (cc e)
  alike_end Q R (f ∷ front) rest (x ∷ w) e a =
      let same : x.0 ≡ f.0 = some_same x.0 f.0 (ap head e) in
      let b = a same in
      let on = alike_end Q R front rest w (ap tail e) b.1 in
      let both : x ≡ f = λ i. (same i, b.0 i) in
      ((λ i. both i ∷ on.0 i), on.1)
