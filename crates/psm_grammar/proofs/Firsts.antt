-- How the words of a part begin.
use Rattle.std.proofs.Common.{◌≡◌, ◌⊎◌, inl, inr, ℕ, suc, true, false, cond, List, [], ◌∷◌, ◌++◌, refl, sym, ap, subst, ◌∙◌}
use Rattle.psm_grammar.specs.Language.{Words, toks, Lang, has, Many}
use Rattle.psm_grammar.specs.Grammar.{Grammar, token, level, next, nothing, seq, or, ahead, many, image, lang}
use Rattle.psm_grammar.specs.Readers.{empty, first}
use Rattle.psm_grammar.specs.Exact.{Next}
use Rattle.psm_grammar.specs.Follow.{apart, leads, openers, seconds}
use Rattle.psm_grammar.proofs.KindLists.{and_true, both_true, true_false, if_true, if_false, one_of, first_holds, second_holds, has_left, has_right, has_none, apart_false, next_more}
use Rattle.psm_grammar.proofs.Alike.{toks_after}

-- ---- lists

pub nil_parts : {A : Type 0} (u v : List A) → [] ≡ u ++ v → (u ≡ []) × (v ≡ [])
nil_parts [] v e = (refl, sym e)
nil_parts (x ∷ u) v e = absurd cc

pub split_cons : {A : Type 0} (t : A) (w u v : List A) → t ∷ w ≡ u ++ v → ((u ≡ []) × (v ≡ t ∷ w)) ⊎ ((s : List A) × (u ≡ t ∷ s) × (w ≡ s ++ v))
split_cons t w [] v e = inl (refl, sym e)
split_cons t w (x ∷ u) v e = inr (u, cc, cc)

-- how one item begins, so do many
pub many_first : {T X : Type 0} (L : Lang T X) (P : T × ℕ → Type 0) → ((t : T × ℕ) (w : Words T) (x : X) → L (t ∷ w) x → P t)
    → (t : T × ℕ) (w : Words T) (xs : List X) → Many L (t ∷ w) xs → P t
many_first L P h t w [] l = absurd (cc l)
many_first L P h t w (x ∷ xs) l = elim (split_cons t w l.0 l.1 l.2) [
  | inl s ↦ many_first L P h t w xs (subst (λ v. Many L v xs) s.1 l.4)
  | inr s ↦ h t s.0 x (subst (λ u. L u x) s.1 l.3)
]

module _ {T N : Type 0} {kind : T → ℕ} {V : N → Type 0} (inner same : (n : N) → Lang T (V n)) (d : ℕ) where
  -- ---- words of no token

  pub blank : {X : Type 0} (g : Grammar kind V X) (x : X) → lang inner same d g [] x → empty g ≡ true
  blank (token test) x l = absurd (let e = l.whole in cc e)
  blank (level n test f) x l = absurd (let e = l.whole ∙ ap (λ u. u ++ l.back) l.left.whole in cc e)
  blank (next n test f) x l = absurd (let e = l.whole ∙ ap (λ u. u ++ l.back) l.left.whole in cc e)
  blank (nothing y) x l = refl
  blank (seq f p q) x l =
      let parts = nil_parts l.front l.back l.whole in
      both_true (empty p) (empty q) (blank p l.one (subst (λ u. lang inner same d p u l.one) parts.0 l.left)) (blank q l.two (subst (λ v. lang inner same d q v l.two) parts.1 l.right))
  blank (or p q) x (inl l) = first_holds (empty p) (empty q) (blank p x l)
  blank (or p q) x (inr l) = second_holds (empty p) (empty q) (blank q x l)
  blank (ahead ones twos p q) x (inl l) = first_holds (empty p) (empty q) (blank p x l)
  blank (ahead ones twos p q) x (inr l) = second_holds (empty p) (empty q) (blank q x l)
  blank (many p) x l = refl
  blank (image f p) x l = blank p l.one l.left

  pub none : {X : Type 0} (g : Grammar kind V X) → empty g ≡ true → (x : X) × lang inner same d g [] x
  none (token test) e = absurd cc
  none (level n test f) e = absurd cc
  none (next n test f) e = absurd cc
  none (nothing y) e = (y, record { whole = refl; made = refl })
  none (seq f p q) e =
      let h = and_true (empty p) (empty q) e in
      let a = none p h.0 in
      let b = none q h.1 in
      (f a.0 b.0, record { front = []; back = []; one = a.0; two = b.0; whole = refl; left = a.1; right = b.1; made = refl })
  none (or p q) e = elim (one_of (empty p) (empty q) e) [ inl t ↦ let a = none p t in (a.0, inl a.1) | inr t ↦ let b = none q t in (b.0, inr b.1) ]
  none (ahead ones twos p q) e = elim (one_of (empty p) (empty q) e) [ inl t ↦ let a = none p t in (a.0, inl a.1) | inr t ↦ let b = none q t in (b.0, inr b.1) ]
  none (many p) e = ([], refl)
  none (image f p) e = let a = none p e in (f a.0, record { one = a.0; left = a.1; made = refl })

  -- ---- the first token

  pub begins : {X : Type 0} (g : Grammar kind V X) (t : T × ℕ) (w : Words T) (x : X) → lang inner same d g (t ∷ w) x → has (kind t.0) (first g) ≡ true
  begins (token test) t w x l = let same : l.at ≡ t.0 = (let e = l.whole in cc e) in subst (λ s. has (kind s) test.kinds ≡ true) same l.known
  begins (level n test f) t w x l =
      let e : t ∷ w ≡ (l.left.at, suc d) ∷ l.back = l.whole ∙ ap (λ u. u ++ l.back) l.left.whole in
      let same : l.left.at ≡ t.0 = cc e in
      subst (λ s. has (kind s) test.kinds ≡ true) same l.left.known
  begins (next n test f) t w x l =
      let e : t ∷ w ≡ (l.left.at, d) ∷ l.back = l.whole ∙ ap (λ u. u ++ l.back) l.left.whole in
      let same : l.left.at ≡ t.0 = cc e in
      subst (λ s. has (kind s) test.kinds ≡ true) same l.left.known
  begins (nothing y) t w x l = absurd (let e = l.whole in cc e)
  begins (seq f p q) t w x l = elim (split_cons t w l.front l.back l.whole) [
    | inl s ↦ let more : has (kind t.0) (first q) ≡ true = begins q t w l.two (subst (λ v. lang inner same d q v l.two) s.1 l.right) in
        let e : empty p ≡ true = blank p l.one (subst (λ u. lang inner same d p u l.one) s.0 l.left) in
        has_right (kind t.0) (first p) (cond (empty p) (first q) []) (ap (has (kind t.0)) (if_true (empty p) (first q) [] e) ∙ more)
    | inr s ↦ has_left (kind t.0) (first p) (cond (empty p) (first q) []) (begins p t s.0 l.one (subst (λ u. lang inner same d p u l.one) s.1 l.left))
  ]
  begins (or p q) t w x (inl l) = has_left (kind t.0) (first p) (first q) (begins p t w x l)
  begins (or p q) t w x (inr l) = has_right (kind t.0) (first p) (first q) (begins q t w x l)
  begins (ahead ones twos p q) t w x (inl l) = has_left (kind t.0) (first p) (first q) (begins p t w x l)
  begins (ahead ones twos p q) t w x (inr l) = has_right (kind t.0) (first p) (first q) (begins q t w x l)
  begins (many p) t w x l = many_first (lang inner same d p) (λ s. has (kind s.0) (first p) ≡ true) (begins p) t w x l
  begins (image f p) t w x l = begins p t w l.one l.left

  -- what stands where a part is read
  pub led : {X : Type 0} (g : Grammar kind V X) (follow : List ℕ) (w : Words T) (x : X) (k : List T) → lang inner same d g w x → Next kind follow k → Next kind (leads g follow) (toks w ++ k)
  led g follow [] x k l n = next_more kind follow (leads g follow) k (λ m h. has_right m (first g) (cond (empty g) follow []) (ap (has m) (if_true (empty g) follow [] (blank g x l)) ∙ h)) n
  led g follow (t ∷ w) x k l n = has_left (kind t.0) (first g) (cond (empty g) follow []) (begins g t w x l)

  -- ---- the level of the first token

  pub plain : {X : Type 0} (g : Grammar kind V X) (t : T × ℕ) (w : Words T) (x : X) → lang inner same d g (t ∷ w) x → has (kind t.0) (openers g) ≡ false → t.1 ≡ d
  plain (token test) t w x l o = let e = l.whole in cc e
  plain (level n test f) t w x l o =
      let e : t ∷ w ≡ (l.left.at, suc d) ∷ l.back = l.whole ∙ ap (λ u. u ++ l.back) l.left.whole in
      let same : l.left.at ≡ t.0 = cc e in
      absurd (true_false (has (kind t.0) test.kinds) (subst (λ s. has (kind s) test.kinds ≡ true) same l.left.known) o)
  plain (next n test f) t w x l o =
      let e : t ∷ w ≡ (l.left.at, d) ∷ l.back = l.whole ∙ ap (λ u. u ++ l.back) l.left.whole in
      let same : l.left.at ≡ t.0 = cc e in
      absurd (true_false (has (kind t.0) test.kinds) (subst (λ s. has (kind s) test.kinds ≡ true) same l.left.known) o)
  plain (nothing y) t w x l o = absurd (let e = l.whole in cc e)
  plain (seq f p q) t w x l o =
      let parts = has_none (kind t.0) (openers p) (cond (empty p) (openers q) []) o in
      elim (split_cons t w l.front l.back l.whole) [
        | inl s ↦ let e : empty p ≡ true = blank p l.one (subst (λ u. lang inner same d p u l.one) s.0 l.left) in
            plain q t w l.two (subst (λ v. lang inner same d q v l.two) s.1 l.right) (sym (ap (has (kind t.0)) (if_true (empty p) (openers q) [] e)) ∙ parts.1)
        | inr s ↦ plain p t s.0 l.one (subst (λ u. lang inner same d p u l.one) s.1 l.left) parts.0
      ]
  plain (or p q) t w x (inl l) o = plain p t w x l (has_none (kind t.0) (openers p) (openers q) o).0
  plain (or p q) t w x (inr l) o = plain q t w x l (has_none (kind t.0) (openers p) (openers q) o).1
  plain (ahead ones twos p q) t w x (inl l) o = plain p t w x l (has_none (kind t.0) (openers p) (openers q) o).0
  plain (ahead ones twos p q) t w x (inr l) o = plain q t w x l (has_none (kind t.0) (openers p) (openers q) o).1
  plain (many p) t w x l o = many_first (lang inner same d p) (λ s. has (kind s.0) (openers p) ≡ false → s.1 ≡ d) (plain p) t w x l o
  plain (image f p) t w x l o = plain p t w l.one l.left o

  -- ---- the second token

  -- what stands after many items
  pub many_after : {X : Type 0} (p : Grammar kind V X) (follow : List ℕ) (v : Words T) (xs : List X) (k : List T) → Many (lang inner same d p) v xs → Next kind follow k → Next kind (first p ++ follow) (toks v ++ k)
  many_after p follow [] xs k l n = next_more kind follow (first p ++ follow) k (λ m h. has_right m (first p) follow h) n
  many_after p follow (t ∷ v) xs k l n = has_left (kind t.0) (first p) follow (many_first (lang inner same d p) (λ s. has (kind s.0) (first p) ≡ true) (begins p) t v xs l)

  abbrev Second : {X : Type 0} → List ℕ → Grammar kind V X → Type 0
  Second {X} ones g = (follow : List ℕ) (t : T × ℕ) (w : Words T) (x : X) (k : List T) → lang inner same d g (t ∷ w) x → Next kind follow k
      → has (kind t.0) ones ≡ true → has (kind t.0) (openers g) ≡ false → Next kind (seconds ones follow g) (toks w ++ k)

  many_second : {X : Type 0} (ones : List ℕ) (p : Grammar kind V X) → Second ones p
      → (follow : List ℕ) (t : T × ℕ) (w : Words T) (xs : List X) (k : List T) → Many (lang inner same d p) (t ∷ w) xs → Next kind follow k
      → has (kind t.0) ones ≡ true → has (kind t.0) (openers p) ≡ false → Next kind (seconds ones (first p ++ follow) p) (toks w ++ k)
  many_second ones p h follow t w [] k l n o c = absurd (cc l)
  many_second ones p h follow t w (x ∷ xs) k l n o c = elim (split_cons t w l.0 l.1 l.2) [
    | inl s ↦ many_second ones p h follow t w xs k (subst (λ v. Many (lang inner same d p) v xs) s.1 l.4) n o c
    | inr s ↦ let following = many_after p follow l.1 xs k l.4 n in
        let here = h (first p ++ follow) t s.0 x (toks l.1 ++ k) (subst (λ u. lang inner same d p u x) s.1 l.3) following o c in
        subst (λ ts. Next kind (seconds ones (first p ++ follow) p) ts) (sym (ap (λ (u : Words T). toks u ++ k) s.2 ∙ toks_after s.0 l.1 k)) here
  ]

  pub second : {X : Type 0} (ones : List ℕ) (g : Grammar kind V X) → Second ones g
  second ones (token test) follow t w x k l n o c =
      let same : l.at ≡ t.0 = (let e = l.whole in cc e) in
      let nothing : w ≡ [] = (let e = l.whole in cc e) in
      let known : has (kind t.0) test.kinds ≡ true = subst (λ s. has (kind s) test.kinds ≡ true) same l.known in
      let stands : cond (apart ones test.kinds) [] follow ≡ follow = if_false (apart ones test.kinds) [] follow (apart_false (kind t.0) ones test.kinds o known) in
      subst (λ (u : Words T). Next kind (cond (apart ones test.kinds) [] follow) (toks u ++ k)) (sym nothing) (subst (λ ks. Next kind ks k) (sym stands) n)
  second ones (level m test f) follow t w x k l n o c =
      let e : t ∷ w ≡ (l.left.at, suc d) ∷ l.back = l.whole ∙ ap (λ u. u ++ l.back) l.left.whole in
      let same : l.left.at ≡ t.0 = cc e in
      absurd (true_false (has (kind t.0) test.kinds) (subst (λ s. has (kind s) test.kinds ≡ true) same l.left.known) c)
  second ones (next m test f) follow t w x k l n o c =
      let e : t ∷ w ≡ (l.left.at, d) ∷ l.back = l.whole ∙ ap (λ u. u ++ l.back) l.left.whole in
      let same : l.left.at ≡ t.0 = cc e in
      absurd (true_false (has (kind t.0) test.kinds) (subst (λ s. has (kind s) test.kinds ≡ true) same l.left.known) c)
  second ones (nothing y) follow t w x k l n o c = absurd (let e = l.whole in cc e)
  second ones (seq f p q) follow t w x k l n o c =
      let parts = has_none (kind t.0) (openers p) (cond (empty p) (openers q) []) c in
      let left = seconds ones (leads q follow) p in
      let right = cond (empty p) (seconds ones follow q) [] in
      elim (split_cons t w l.front l.back l.whole) [
        | inl s ↦ let e : empty p ≡ true = blank p l.one (subst (λ u. lang inner same d p u l.one) s.0 l.left) in
            let here = second ones q follow t w l.two k (subst (λ v. lang inner same d q v l.two) s.1 l.right) n o (sym (ap (has (kind t.0)) (if_true (empty p) (openers q) [] e)) ∙ parts.1) in
            next_more kind (seconds ones follow q) (left ++ right) (toks w ++ k) (λ m h. has_right m left right (ap (has m) (if_true (empty p) (seconds ones follow q) [] e) ∙ h)) here
        | inr s ↦ let following = led q follow l.back l.two k l.right n in
            let here = second ones p (leads q follow) t s.0 l.one (toks l.back ++ k) (subst (λ u. lang inner same d p u l.one) s.1 l.left) following o parts.0 in
            next_more kind left (left ++ right) (toks w ++ k) (λ m h. has_left m left right h)
            (subst (λ ts. Next kind left ts) (sym (ap (λ (u : Words T). toks u ++ k) s.2 ∙ toks_after s.0 l.back k)) here)
      ]
  second ones (or p q) follow t w x k (inl l) n o c = next_more kind (seconds ones follow p) (seconds ones follow p ++ seconds ones follow q) (toks w ++ k)
      (λ m h. has_left m (seconds ones follow p) (seconds ones follow q) h) (second ones p follow t w x k l n o (has_none (kind t.0) (openers p) (openers q) c).0)
  second ones (or p q) follow t w x k (inr l) n o c = next_more kind (seconds ones follow q) (seconds ones follow p ++ seconds ones follow q) (toks w ++ k)
      (λ m h. has_right m (seconds ones follow p) (seconds ones follow q) h) (second ones q follow t w x k l n o (has_none (kind t.0) (openers p) (openers q) c).1)
  second ones (ahead others twos p q) follow t w x k (inl l) n o c = next_more kind (seconds ones follow p) (seconds ones follow p ++ seconds ones follow q) (toks w ++ k)
      (λ m h. has_left m (seconds ones follow p) (seconds ones follow q) h) (second ones p follow t w x k l n o (has_none (kind t.0) (openers p) (openers q) c).0)
  second ones (ahead others twos p q) follow t w x k (inr l) n o c = next_more kind (seconds ones follow q) (seconds ones follow p ++ seconds ones follow q) (toks w ++ k)
      (λ m h. has_right m (seconds ones follow p) (seconds ones follow q) h) (second ones q follow t w x k l n o (has_none (kind t.0) (openers p) (openers q) c).1)
  second ones (many p) follow t w x k l n o c = many_second ones p (second ones p) follow t w x k l n o c
  second ones (image f p) follow t w x k l n o c = second ones p follow t w l.one k l.left n o c
