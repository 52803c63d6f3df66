-- Mapped tokens spell mapped values, so that up to positions tokens spell one value.
use Rattle.std.proofs.Common.{◌≡◌, inl, inr, ℕ, zero, suc, true, List, [], ◌∷◌, ◌++◌, map, refl, sym, ap, subst, ◌∙◌, Option}
use Rattle.std.proofs.lemmas.List.{map-append}
use Rattle.psm_grammar.specs.Language.{Words, toks, Lang, has, Test, Token, Many}
use Rattle.psm_grammar.specs.Grammar.{Grammar, token, level, next, nothing, seq, or, ahead, many, image, lang, Productions, nested, words, Spells}
use Rattle.psm_grammar.specs.Follow.{fits, IsReadable}
use Rattle.psm_grammar.specs.Places.{moved, CarriesToken, Carries, Unnoticed}
use Rattle.psm_grammar.proofs.Unique.{one_tree}

module _ {T : Type 0} (e : T → T) where
  moved-append : (u v : Words T) → moved e (u ++ v) ≡ moved e u ++ moved e v
  moved-append u v = map-append (λ x. (e x.0, x.1)) u v

  pub toks-moved : (w : Words T) → toks (moved e w) ≡ map e (toks w)
  toks-moved [] = refl
  toks-moved (x ∷ w) = ap (λ ts. e x.0 ∷ ts) (toks-moved w)

  token_moved : {A : Type 0} (kind : T → ℕ) → ((t : T) → kind (e t) ≡ kind t) → (h : A → A) (test : Test T A) → CarriesToken kind e h test → (d : ℕ) (w : Words T) (x : A) → Token kind test d w x → Token kind test d (moved e w) (h x)
  token_moved kind same h test c d w x l = record {
    at = e l.at;
    whole = ap (moved e) l.whole;
    known = ap (λ k. has k test.kinds) (same l.at) ∙ l.known;
    made = ap h l.made ∙ sym (c l.at l.known);
  }

  many_moved : {X : Type 0} (L : Lang T X) (a : X → X) → ((w : Words T) (x : X) → L w x → L (moved e w) (a x)) → (w : Words T) (xs : List X) → Many L w xs → Many L (moved e w) (map a xs)
  many_moved L a h w [] l = ap (moved e) l
  many_moved L a h w (x ∷ xs) l = (moved e l.0, moved e l.1, ap (moved e) l.2 ∙ moved-append l.0 l.1, h l.0 x l.3, many_moved L a h l.1 xs l.4)

module _ {T N : Type 0} {kind : T → ℕ} {V : N → Type 0} (e : T → T) (v : (n : N) → V n → V n) (same : (t : T) → kind (e t) ≡ kind t)
    (inner others : (n : N) → Lang T (V n)) (d : ℕ)
    (deep : (n : N) (w : Words T) (x : V n) → inner n w x → inner n (moved e w) (v n x)) (here : (n : N) (w : Words T) (x : V n) → others n w x → others n (moved e w) (v n x)) where
  lang_moved : {X : Type 0} (g : Grammar kind V X) (h : X → X) → Carries e v h g → (w : Words T) (x : X) → lang inner others d g w x → lang inner others d g (moved e w) (h x)
  lang_moved (token test) h c w x l = token_moved e kind same h test c d w x l
  lang_moved (level n test f) h c w x l = record {
    front = moved e l.front;
    back = moved e l.back;
    one = c.0 l.one;
    two = v n l.two;
    whole = ap (moved e) l.whole ∙ moved-append e l.front l.back;
    left = token_moved e kind same c.0 test c.1 (suc d) l.front l.one l.left;
    right = deep n l.back l.two l.right;
    made = ap h l.made ∙ sym (c.2 l.one l.two);
  }
  lang_moved (next n test f) h c w x l = record {
    front = moved e l.front;
    back = moved e l.back;
    one = c.0 l.one;
    two = v n l.two;
    whole = ap (moved e) l.whole ∙ moved-append e l.front l.back;
    left = token_moved e kind same c.0 test c.1 d l.front l.one l.left;
    right = here n l.back l.two l.right;
    made = ap h l.made ∙ sym (c.2 l.one l.two);
  }
  lang_moved (nothing y) h c w x l = record { whole = ap (moved e) l.whole; made = ap h l.made ∙ sym c }
  lang_moved (seq f p q) h c w x l = record {
    front = moved e l.front;
    back = moved e l.back;
    one = c.0 l.one;
    two = c.1 l.two;
    whole = ap (moved e) l.whole ∙ moved-append e l.front l.back;
    left = lang_moved p c.0 c.2 l.front l.one l.left;
    right = lang_moved q c.1 c.3 l.back l.two l.right;
    made = ap h l.made ∙ sym (c.4 l.one l.two);
  }
  lang_moved (or p q) h c w x (inl l) = inl (lang_moved p h c.0 w x l)
  lang_moved (or p q) h c w x (inr l) = inr (lang_moved q h c.1 w x l)
  lang_moved (ahead ones twos p q) h c w x (inl l) = inl (lang_moved p h c.0 w x l)
  lang_moved (ahead ones twos p q) h c w x (inr l) = inr (lang_moved q h c.1 w x l)
  lang_moved (many p) h c w xs l = subst (Many (lang inner others d p) (moved e w)) (c.2 xs) (many_moved e (lang inner others d p) c.0 (lang_moved p c.0 c.1) w xs l)
  lang_moved (image f p) h c w x l = record { one = c.0 l.one; left = lang_moved p c.0 c.1 w l.one l.left; made = ap h l.made ∙ sym (c.2 l.one) }

module _ {T N : Type 0} {kind : T → ℕ} {V : N → Type 0} (prods : Productions kind V) (e : T → T) (v : (n : N) → V n → V n) (unnoticed : Unnoticed prods e v) where
  nested_moved : (h d : ℕ) (n : N) (w : Words T) (x : V n) → nested prods h d n w x → nested prods h d n (moved e w) (v n x)
  nested_moved zero d n w x l = l
  nested_moved (suc h) d n w x l = lang_moved e v unnoticed.kinds (nested prods h (suc d)) (nested prods h d) d (nested_moved h (suc d)) (nested_moved h d) (prods n) (v n) (unnoticed.values n) w x l

  -- mapped tokens spell the mapped value
  pub spells_moved : (d : ℕ) {X : Type 0} (g : Grammar kind V X) (h : X → X) → Carries e v h g → (w : Words T) (x : X) → Spells prods d g w x → Spells prods d g (moved e w) (h x)
  spells_moved d g h c w x l = lang_moved e v unnoticed.kinds (words prods (suc d)) (words prods d) d (λ n u y m. record { height = m.height; word = nested_moved m.height (suc d) n u y m.word })
      (λ n u y m. record { height = m.height; word = nested_moved m.height d n u y m.word }) g h c w x l

  -- tokens that are the same when mapped spell values that are the same when mapped
  pub one_apart : (after : N → Option (List ℕ)) (height : ℕ) → IsReadable prods after height → (d : ℕ) {X : Type 0} (g : Grammar kind V X) (follow : List ℕ) → fits after follow g ≡ true
      → (h : X → X) → Carries e v h g → (w u : Words T) (x y : X) → Spells prods d g w x → Spells prods d g u y → map e (toks w) ≡ map e (toks u) → h x ≡ h y
  one_apart after height readable d g follow fit h c w u x y l k same =
      (one_tree prods after height readable d g follow fit (moved e w) (moved e u) (h x) (h y) (spells_moved d g h c w x l) (spells_moved d g h c u y k)
      (toks-moved e w ∙ same ∙ sym (toks-moved e u))).1
