-- Tokens that are those of a word when mapped spell a value that is the word's when mapped.
use Rattle.std.proofs.Common.{◌≡◌, inl, inr, ℕ, zero, suc, true, List, [], ◌∷◌, ◌++◌, map, refl, sym, ap, ◌∙◌}
use Rattle.psm_grammar.specs.Language.{Words, toks, Lang, has, Test, Token, Many}
use Rattle.psm_grammar.specs.Grammar.{Grammar, token, level, next, nothing, seq, or, ahead, many, image, lang, Productions, nested, words, Spells}
use Rattle.psm_grammar.specs.Places.{moved, CarriesToken, Carries, Unnoticed}

tail : {A : Type 0} → List A → List A
tail [] = []
tail (x ∷ xs) = xs

head_or : {A : Type 0} → A → List A → A
head_or a [] = a
head_or a (x ∷ xs) = x

-- this word is of the language too, with a value that is x when mapped
pub record Respelled {T X : Type 0} (L : Lang T X) (h : X → X) (u : Words T) (x : X) : Type 0 where
  pub value : X
  pub spells : L u value
  pub same : h value ≡ h x

module _ {T : Type 0} (e : T → T) where
  -- a word of these tokens, at the levels of another whose tokens they are when mapped
  pub word_of : (ts : List T) (w : Words T) → map e ts ≡ map e (toks w) → (u : Words T) × (toks u ≡ ts) × (moved e u ≡ moved e w)
  unfolding tail head_or
  word_of [] [] m = ([], refl, refl)
  word_of [] (x ∷ w) m = absurd (cc m)
  word_of (t ∷ ts) [] m = absurd (cc m)
  word_of (t ∷ ts) (x ∷ w) m =
      let r = word_of ts w (ap tail m) in
      ((t, x.1) ∷ r.0, ap (λ l. t ∷ l) r.1, λ i. (ap (head_or (e t)) m i, x.1) ∷ r.2 i)

  none : (u : Words T) → moved e u ≡ [] → u ≡ []
  none [] m = refl
  none (y ∷ u) m = absurd (cc m)

  -- a word that is two words when mapped is two words
  parted : (u front back : Words T) → moved e u ≡ moved e (front ++ back) → (v : Words T) × (w : Words T) × (u ≡ v ++ w) × (moved e v ≡ moved e front) × (moved e w ≡ moved e back)
  unfolding tail head_or
  parted u [] back m = ([], u, refl, refl, m)
  parted [] (x ∷ front) back m = absurd (cc m)
  parted (y ∷ u) (x ∷ front) back m =
      let r = parted u front back (ap tail m) in
      (y ∷ r.0, r.1, ap (λ l. y ∷ l) r.2, λ i. ap (head_or (e y.0, y.1)) m i ∷ r.3 i, r.4)

  module _ {A : Type 0} (kind : T → ℕ) (same : (t : T) → kind (e t) ≡ kind t) (h : A → A) (test : Test T A) (c : CarriesToken kind e h test) (d : ℕ) where
    one_respelled : (x : A) (t y : T) (k : ℕ) → has (kind t) test.kinds ≡ true → x ≡ test.value t → e y ≡ e t → k ≡ d → Respelled (Token kind test d) h ((y, k) ∷ []) x
    one_respelled x t y k known made moves at =
        let is_known : has (kind y) test.kinds ≡ true = ap (λ n. has n test.kinds) (sym (same y) ∙ ap kind moves ∙ same t) ∙ known in
        record {
          value = test.value y;
          spells = record { at = y; whole = ap (λ n. (y, n) ∷ []) at; known = is_known; made = refl };
          same = sym (c y is_known) ∙ ap test.value moves ∙ c t known ∙ ap h (sym made);
        }

    only : (x : A) (t : T) (u : Words T) → has (kind t) test.kinds ≡ true → x ≡ test.value t → moved e u ≡ (e t, d) ∷ [] → Respelled (Token kind test d) h u x
    unfolding tail head_or
    only x t [] known made m = absurd (cc m)
    only x t (y ∷ []) known made m = let one = ap (head_or (e t, d)) m in one_respelled x t y.0 y.1 known made (ap (λ (p : T × ℕ). p.0) one) (ap (λ (p : T × ℕ). p.1) one)
    only x t (y ∷ z ∷ u) known made m = absurd (cc (ap tail m))

    token_respelled : (w : Words T) (x : A) → Token kind test d w x → (u : Words T) → moved e u ≡ moved e w → Respelled (Token kind test d) h u x
    token_respelled w x l u m = only x l.at u l.known l.made (m ∙ ap (moved e) l.whole)

  many_respelled : {X : Type 0} (L : Lang T X) (a : X → X) → ((w : Words T) (x : X) → L w x → (u : Words T) → moved e u ≡ moved e w → Respelled L a u x)
      → (w : Words T) (xs : List X) → Many L w xs → (u : Words T) → moved e u ≡ moved e w → Respelled (Many L) (map a) u xs
  many_respelled L a h w [] l u m = record { value = []; spells = none u (m ∙ ap (moved e) l); same = refl }
  many_respelled L a h w (x ∷ xs) l u m =
      let s = parted u l.0 l.1 (m ∙ ap (moved e) l.2) in
      let p = h l.0 x l.3 s.0 s.3 in
      let q = many_respelled L a h l.1 xs l.4 s.1 s.4 in
      record { value = p.value ∷ q.value; spells = (s.0, s.1, s.2, p.spells, q.spells); same = λ i. p.same i ∷ q.same i }

module _ {T N : Type 0} {kind : T → ℕ} {V : N → Type 0} (e : T → T) (v : (n : N) → V n → V n) (same : (t : T) → kind (e t) ≡ kind t)
    (inner others : (n : N) → Lang T (V n)) (d : ℕ)
    (deep : (n : N) (w : Words T) (x : V n) → inner n w x → (u : Words T) → moved e u ≡ moved e w → Respelled (inner n) (v n) u x)
    (here : (n : N) (w : Words T) (x : V n) → others n w x → (u : Words T) → moved e u ≡ moved e w → Respelled (others n) (v n) u x) where
  lang_respelled : {X : Type 0} (g : Grammar kind V X) (h : X → X) → Carries e v h g → (w : Words T) (x : X) → lang inner others d g w x → (u : Words T) → moved e u ≡ moved e w → Respelled (lang inner others d g) h u x
  lang_respelled (token test) h c w x l u m = token_respelled e kind same h test c d w x l u m
  lang_respelled (level n test f) h c w x l u m =
      let s = parted e u l.front l.back (m ∙ ap (moved e) l.whole) in
      let p = token_respelled e kind same c.0 test c.1 (suc d) l.front l.one l.left s.0 s.3 in
      let q = deep n l.back l.two l.right s.1 s.4 in
      record {
        value = f p.value q.value;
        spells = record { front = s.0; back = s.1; one = p.value; two = q.value; whole = s.2; left = p.spells; right = q.spells; made = refl };
        same = sym (c.2 p.value q.value) ∙ (λ i. f (p.same i) (q.same i)) ∙ c.2 l.one l.two ∙ ap h (sym l.made);
      }
  lang_respelled (next n test f) h c w x l u m =
      let s = parted e u l.front l.back (m ∙ ap (moved e) l.whole) in
      let p = token_respelled e kind same c.0 test c.1 d l.front l.one l.left s.0 s.3 in
      let q = here n l.back l.two l.right s.1 s.4 in
      record {
        value = f p.value q.value;
        spells = record { front = s.0; back = s.1; one = p.value; two = q.value; whole = s.2; left = p.spells; right = q.spells; made = refl };
        same = sym (c.2 p.value q.value) ∙ (λ i. f (p.same i) (q.same i)) ∙ c.2 l.one l.two ∙ ap h (sym l.made);
      }
  lang_respelled (nothing y) h c w x l u m = record { value = y; spells = record { whole = none e u (m ∙ ap (moved e) l.whole); made = refl }; same = ap h (sym l.made) }
  lang_respelled (seq f p q) h c w x l u m =
      let s = parted e u l.front l.back (m ∙ ap (moved e) l.whole) in
      let a = lang_respelled p c.0 c.2 l.front l.one l.left s.0 s.3 in
      let b = lang_respelled q c.1 c.3 l.back l.two l.right s.1 s.4 in
      record {
        value = f a.value b.value;
        spells = record { front = s.0; back = s.1; one = a.value; two = b.value; whole = s.2; left = a.spells; right = b.spells; made = refl };
        same = sym (c.4 a.value b.value) ∙ (λ i. f (a.same i) (b.same i)) ∙ c.4 l.one l.two ∙ ap h (sym l.made);
      }
  lang_respelled (or p q) h c w x (inl l) u m = let r = lang_respelled p h c.0 w x l u m in record { value = r.value; spells = inl r.spells; same = r.same }
  lang_respelled (or p q) h c w x (inr l) u m = let r = lang_respelled q h c.1 w x l u m in record { value = r.value; spells = inr r.spells; same = r.same }
  lang_respelled (ahead ones twos p q) h c w x (inl l) u m = let r = lang_respelled p h c.0 w x l u m in record { value = r.value; spells = inl r.spells; same = r.same }
  lang_respelled (ahead ones twos p q) h c w x (inr l) u m = let r = lang_respelled q h c.1 w x l u m in record { value = r.value; spells = inr r.spells; same = r.same }
  lang_respelled (many p) h c w xs l u m =
      let r = many_respelled e (lang inner others d p) c.0 (lang_respelled p c.0 c.1) w xs l u m in
      record { value = r.value; spells = r.spells; same = sym (c.2 r.value) ∙ r.same ∙ c.2 xs }
  lang_respelled (image f p) h c w x l u m =
      let r = lang_respelled p c.0 c.1 w l.one l.left u m in
      record { value = f r.value; spells = record { one = r.value; left = r.spells; made = refl }; same = sym (c.2 r.value) ∙ ap f r.same ∙ c.2 l.one ∙ ap h (sym l.made) }

module _ {T N : Type 0} {kind : T → ℕ} {V : N → Type 0} (prods : Productions kind V) (e : T → T) (v : (n : N) → V n → V n) (unnoticed : Unnoticed prods e v) where
  nested_respelled : (h d : ℕ) (n : N) (w : Words T) (x : V n) → nested prods h d n w x → (u : Words T) → moved e u ≡ moved e w → Respelled (nested prods h d n) (v n) u x
  nested_respelled zero d n w x l u m = absurd l
  nested_respelled (suc h) d n w x l u m = lang_respelled e v unnoticed.kinds (nested prods h (suc d)) (nested prods h d) d (nested_respelled h (suc d)) (nested_respelled h d) (prods n) (v n) (unnoticed.values n) w x l u m

  words_respelled : (d : ℕ) (n : N) (w : Words T) (x : V n) → words prods d n w x → (u : Words T) → moved e u ≡ moved e w → Respelled (words prods d n) (v n) u x
  words_respelled d n w x l u m = let r = nested_respelled l.height d n w x l.word u m in record { value = r.value; spells = record { height = l.height; word = r.spells }; same = r.same }

  -- a word that is another when mapped spells a value that is the other's when mapped
  pub spells_respelled : (d : ℕ) {X : Type 0} (g : Grammar kind V X) (h : X → X) → Carries e v h g → (w : Words T) (x : X) → Spells prods d g w x → (u : Words T) → moved e u ≡ moved e w → Respelled (Spells prods d g) h u x
  spells_respelled d g h c w x l u m = lang_respelled e v unnoticed.kinds (words prods (suc d)) (words prods d) d (words_respelled (suc d)) (words_respelled d) g h c w x l u m
