-- The language of a grammar, with no limit on nesting, is what one more production makes of itself.
use Rattle.std.proofs.Common.{◌≡◌, inl, inr, ℕ, zero, suc, ◌+◌, ◌≤◌, Bool, true, List, [], ◌∷◌, ◌++◌, refl, arith, Option, Some, None}
use Rattle.psm_grammar.specs.Language.{Words, Lang, Many, Any}
use Rattle.psm_grammar.specs.Grammar.{Grammar, token, level, next, nothing, seq, or, ahead, many, image, lang, Productions, nested, words, Spells}
use Rattle.psm_grammar.specs.Follow.{Fits, fits, lives, lives_in}
use Rattle.psm_grammar.proofs.KindLists.{and_true, one_of}
use Rattle.psm_grammar.proofs.Some.{Word}

-- ---- more of the nonterminals gives more of a part

pub many_sub : {T X : Type 0} (L K : Lang T X) → ((w : Words T) (x : X) → L w x → K w x) → (w : Words T) (xs : List X) → Many L w xs → Many K w xs
many_sub L K h w [] l = l
many_sub L K h w (x ∷ xs) l = (l.0, l.1, l.2, h l.0 x l.3, many_sub L K h l.1 xs l.4)

module _ {T N : Type 0} {kind : T → ℕ} {V : N → Type 0} (low low' high high' : (n : N) → Lang T (V n)) (d : ℕ)
    (sub : (n : N) (w : Words T) (x : V n) → low n w x → high n w x) (sub' : (n : N) (w : Words T) (x : V n) → low' n w x → high' n w x) where
  pub lang_sub : {X : Type 0} (g : Grammar kind V X) (w : Words T) (x : X) → lang low low' d g w x → lang high high' d g w x
  lang_sub (token test) w x l = l
  lang_sub (level n test f) w x l = record { front = l.front; back = l.back; one = l.one; two = l.two; whole = l.whole; left = l.left; right = sub n l.back l.two l.right; made = l.made }
  lang_sub (next n test f) w x l = record { front = l.front; back = l.back; one = l.one; two = l.two; whole = l.whole; left = l.left; right = sub' n l.back l.two l.right; made = l.made }
  lang_sub (nothing y) w x l = l
  lang_sub (seq f p q) w x l = record { front = l.front; back = l.back; one = l.one; two = l.two; whole = l.whole; left = lang_sub p l.front l.one l.left; right = lang_sub q l.back l.two l.right; made = l.made }
  lang_sub (or p q) w x (inl l) = inl (lang_sub p w x l)
  lang_sub (or p q) w x (inr l) = inr (lang_sub q w x l)
  lang_sub (ahead ones twos p q) w x (inl l) = inl (lang_sub p w x l)
  lang_sub (ahead ones twos p q) w x (inr l) = inr (lang_sub q w x l)
  lang_sub (many p) w x l = many_sub (lang low low' d p) (lang high high' d p) (lang_sub p) w x l
  lang_sub (image f p) w x l = record { one = l.one; left = lang_sub p w l.one l.left; made = l.made }

-- ---- each word has a height

-- from some height on
abbrev From : {T X : Type 0} → (ℕ → Lang T X) → Words T → X → Type 0
From L w x = (h : ℕ) × ((j : ℕ) → h ≤ j → L j w x)

many_from : {T X : Type 0} (L : Lang T X) (K : ℕ → Lang T X) → ((w : Words T) (x : X) → L w x → From K w x) → (w : Words T) (xs : List X) → Many L w xs → From (λ h. Many (K h)) w xs
many_from L K h w [] l = (zero, λ j a. l)
many_from L K h w (x ∷ xs) l =
    let a = h l.0 x l.3 in
    let b = many_from L K h l.1 xs l.4 in
    (a.0 + b.0, λ j e. (l.0, l.1, l.2, a.1 j (omega (arith, e)), b.1 j (omega (arith, e))))

module _ {T N : Type 0} {kind : T → ℕ} {V : N → Type 0} (operator_chain operator_chain' : ℕ → (n : N) → Lang T (V n)) (d : ℕ)
    (rises : (h j : ℕ) → h ≤ j → (n : N) (w : Words T) (x : V n) → operator_chain h n w x → operator_chain j n w x)
    (rises' : (h j : ℕ) → h ≤ j → (n : N) (w : Words T) (x : V n) → operator_chain' h n w x → operator_chain' j n w x) where
  pub lang_from : {X : Type 0} (g : Grammar kind V X) (w : Words T) (x : X) → lang (λ n. Any (λ h. operator_chain h n)) (λ n. Any (λ h. operator_chain' h n)) d g w x → From (λ h. lang (operator_chain h) (operator_chain' h) d g) w x
  lang_from (token test) w x l = (zero, λ j a. l)
  lang_from (level n test f) w x l = (l.right.height, λ j e. record { front = l.front; back = l.back; one = l.one; two = l.two; whole = l.whole; left = l.left; right = rises l.right.height j e n l.back l.two l.right.word; made = l.made })
  lang_from (next n test f) w x l = (l.right.height, λ j e. record { front = l.front; back = l.back; one = l.one; two = l.two; whole = l.whole; left = l.left; right = rises' l.right.height j e n l.back l.two l.right.word; made = l.made })
  lang_from (nothing y) w x l = (zero, λ j a. l)
  lang_from (seq f p q) w x l =
      let a = lang_from p l.front l.one l.left in
      let b = lang_from q l.back l.two l.right in
      (a.0 + b.0, λ j e. record { front = l.front; back = l.back; one = l.one; two = l.two; whole = l.whole; left = a.1 j (omega (arith, e)); right = b.1 j (omega (arith, e)); made = l.made })
  lang_from (or p q) w x (inl l) = let a = lang_from p w x l in (a.0, λ j e. inl (a.1 j e))
  lang_from (or p q) w x (inr l) = let a = lang_from q w x l in (a.0, λ j e. inr (a.1 j e))
  lang_from (ahead ones twos p q) w x (inl l) = let a = lang_from p w x l in (a.0, λ j e. inl (a.1 j e))
  lang_from (ahead ones twos p q) w x (inr l) = let a = lang_from q w x l in (a.0, λ j e. inr (a.1 j e))
  lang_from (many p) w x l = many_from (lang (λ n. Any (λ h. operator_chain h n)) (λ n. Any (λ h. operator_chain' h n)) d p) (λ h. lang (operator_chain h) (operator_chain' h) d p) (lang_from p) w x l
  lang_from (image f p) w x l = let a = lang_from p w l.one l.left in (a.0, λ j e. record { one = l.one; left = a.1 j e; made = l.made })

-- ---- the fixed point

module _ {T N : Type 0} {kind : T → ℕ} {V : N → Type 0} (prods : Productions kind V) where
  pub nested_rises : (h j : ℕ) → h ≤ j → (d : ℕ) (n : N) (w : Words T) (x : V n) → nested prods h d n w x → nested prods j d n w x
  nested_rises zero j a d n w x l = absurd l
  nested_rises (suc h) zero a d n w x l = absurd (omega (arith, a))
  nested_rises (suc h) (suc j) a d n w x l =
      let b : h ≤ j = omega (arith, a) in
      lang_sub (nested prods h (suc d)) (nested prods h d) (nested prods j (suc d)) (nested prods j d) d (nested_rises h j b (suc d)) (nested_rises h j b d) (prods n) w x l

  -- a word of a nonterminal is one of its production
  pub unrolled : (d : ℕ) (n : N) (w : Words T) (x : V n) → words prods d n w x → Spells prods d (prods n) w x
  unrolled d n w x l = by l.height l.word
    where
      by : (h : ℕ) → nested prods h d n w x → Spells prods d (prods n) w x
      by zero m = absurd m
      by (suc h) m = lang_sub (nested prods h (suc d)) (nested prods h d) (words prods (suc d)) (words prods d) d
          (λ n w x l. record { height = h; word = l }) (λ n w x l. record { height = h; word = l }) (prods n) w x m

  pub rolled : (d : ℕ) (n : N) (w : Words T) (x : V n) → Spells prods d (prods n) w x → words prods d n w x
  rolled d n w x l =
      let a = lang_from (λ h. nested prods h (suc d)) (λ h. nested prods h d) d (λ h j e. nested_rises h j e (suc d)) (λ h j e. nested_rises h j e d) (prods n) w x l in
      record { height = suc a.0; word = a.1 a.0 (omega arith) }

-- ---- each nonterminal has a word

module _ {T N : Type 0} {kind : T → ℕ} {V : N → Type 0} (inner same : (n : N) → Lang T (V n)) (d : ℕ) (after : N → Option (List ℕ)) (live : N → Bool)
    (words : (n : N) → live n ≡ true → Word (inner n)) (others : (n : N) → live n ≡ true → Word (same n)) where
  pub lives_so : {X : Type 0} (g : Grammar kind V X) (follow : List ℕ) → fits after follow g ≡ true → lives live g ≡ true → Word (lang inner same d g)
  lives_so (token test) follow h k = ((test.example, d) ∷ [], test.value test.example, record { at = test.example; whole = refl; known = h; made = refl })
  lives_so (level n test f) follow h k =
      let w = words n k in (
        (test.example, suc d) ∷ w.0,
        f (test.value test.example) w.1,
        record {
          front = (test.example, suc d) ∷ [];
          back = w.0;
          one = test.value test.example;
          two = w.1;
          whole = refl;
          left = record { at = test.example; whole = refl; known = (and_true _ _ h).0; made = refl };
          right = w.2;
          made = refl;
        },
      )
  lives_so (next n test f) follow h k =
      let w = others n k in (
        (test.example, d) ∷ w.0,
        f (test.value test.example) w.1,
        record {
          front = (test.example, d) ∷ [];
          back = w.0;
          one = test.value test.example;
          two = w.1;
          whole = refl;
          left = record { at = test.example; whole = refl; known = (and_true _ _ h).0; made = refl };
          right = w.2;
          made = refl;
        },
      )
  lives_so (nothing y) follow h k = ([], y, record { whole = refl; made = refl })
  lives_so (seq f p q) follow h k =
      let parts = and_true _ _ h in
      let alive = and_true (lives live p) (lives live q) k in
      let a = lives_so p _ parts.0 alive.0 in
      let b = lives_so q _ parts.1 alive.1 in
      (a.0 ++ b.0, f a.1 b.1, record { front = a.0; back = b.0; one = a.1; two = b.1; whole = refl; left = a.2; right = b.2; made = refl })
  lives_so (or p q) follow h k =
      let parts = and_true (fits after follow p) (fits after follow q) (and_true _ _ h).1 in
      elim (one_of (lives live p) (lives live q) k) [ inl e ↦ let a = lives_so p follow parts.0 e in (a.0, a.1, inl a.2) | inr e ↦ let a = lives_so q follow parts.1 e in (a.0, a.1, inr a.2) ]
  lives_so (ahead ones twos p q) follow h k =
      let parts = and_true (fits after follow p) (fits after follow q) (and_true _ _ h).1 in
      elim (one_of (lives live p) (lives live q) k) [ inl e ↦ let a = lives_so p follow parts.0 e in (a.0, a.1, inl a.2) | inr e ↦ let a = lives_so q follow parts.1 e in (a.0, a.1, inr a.2) ]
  lives_so (many p) follow h k = ([], [], refl)
  lives_so (image f p) follow h k = let a = lives_so p follow h k in (a.0, f a.1, record { one = a.1; left = a.2; made = refl })

-- what may follow a production
pub ends : Option (List ℕ) → List ℕ
ends None = []
ends (Some kinds) = kinds

pub fits_at : {T N : Type 0} {kind : T → ℕ} {V : N → Type 0} {X : Type 0} (after : N → Option (List ℕ)) (o : Option (List ℕ)) (g : Grammar kind V X) → Fits after o g → fits after (ends o) g ≡ true
unfolding ends
fits_at after None g h = h []
fits_at after (Some kinds) g h = h

module _ {T N : Type 0} {kind : T → ℕ} {V : N → Type 0} (prods : Productions kind V) (after : N → Option (List ℕ)) (fit : (n : N) → Fits after (after n) (prods n)) where
  nested_some : (h d : ℕ) (n : N) → lives_in prods h n ≡ true → Word (nested prods h d n)
  nested_some zero d n k = absurd cc
  nested_some (suc h) d n k = lives_so (nested prods h (suc d)) (nested prods h d) d after (lives_in prods h) (nested_some h (suc d)) (nested_some h d) (prods n)
      (ends (after n)) (fits_at after (after n) (prods n) (fit n)) k

  pub words_some : (height : ℕ) → ((n : N) → lives_in prods height n ≡ true) → (d : ℕ) (n : N) → Word (words prods d n)
  words_some height alive d n = let a = nested_some height d n (alive n) in (a.0, a.1, record { height = height; word = a.2 })
