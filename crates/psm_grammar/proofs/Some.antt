-- Each part has words: some word, and one for each kind of first token.
use Rattle.std.proofs.Common.{◌≡◌, inl, inr, ℕ, suc, ◌+◌, ◌≤◌, true, false, not, ◌&&◌, cond, List, [], ◌∷◌, ◌++◌, length, refl, sym, ap, ◌∙◌, arith, Option}
use Rattle.std.proofs.lemmas.List.{append-nil, length-append}
use Rattle.psm_grammar.specs.Language.{Words, Lang, has}
use Rattle.psm_grammar.specs.Grammar.{Grammar, token, level, next, nothing, seq, or, ahead, many, image, lang}
use Rattle.psm_grammar.specs.Readers.{empty, first}
use Rattle.psm_grammar.specs.Follow.{apart, within, may_follow, leads, is_long, is_one, opens_two, two_decide, fits}
use Rattle.psm_grammar.proofs.KindLists.{and_true, not_true, true_false, decide, if_true, if_false, one_of, has_either, within_has}
use Rattle.psm_grammar.proofs.Firsts.{blank, none}

-- a word of a part, with its value
abbrev pub Word : {T X : Type 0} → Lang T X → Type 0
Word {T} {X} L = (w : Words T) × (x : X) × L w x

-- a word of a part that begins with a token
abbrev pub Begun : {T X : Type 0} → T → Lang T X → Type 0
Begun {T} {X} t L = (l : ℕ) × (w : Words T) × (x : X) × L ((t, l) ∷ w) x

-- a word of a part that begins with two tokens
abbrev pub BegunTwo : {T X : Type 0} → T → T → Lang T X → Type 0
BegunTwo {T} {X} t u L = (l m : ℕ) × (w : Words T) × (x : X) × L ((t, l) ∷ (u, m) ∷ w) x

nothing_on : (m : ℕ) → has m [] ≡ true → ⊥
nothing_on m h = cc

module _ {T N : Type 0} {kind : T → ℕ} {V : N → Type 0} (inner same : (n : N) → Lang T (V n)) (d : ℕ) (after : N → Option (List ℕ)) (words : (n : N) → Word (inner n)) (others : (n : N) → Word (same n)) where
  pub some : {X : Type 0} (g : Grammar kind V X) (follow : List ℕ) → fits after follow g ≡ true → Word (lang inner same d g)
  some (token test) follow h = ((test.example, d) ∷ [], test.value test.example, record { at = test.example; whole = refl; known = h; made = refl })
  some (level n test f) follow h =
      let known = (and_true (has (kind test.example) test.kinds) (may_follow follow (after n)) h).0 in
      let w = words n in (
        (test.example, suc d) ∷ w.0,
        f (test.value test.example) w.1,
        record {
          front = (test.example, suc d) ∷ [];
          back = w.0;
          one = test.value test.example;
          two = w.1;
          whole = refl;
          left = record { at = test.example; whole = refl; known = known; made = refl };
          right = w.2;
          made = refl;
        },
      )
  some (next n test f) follow h =
      let known = (and_true (has (kind test.example) test.kinds) (may_follow follow (after n)) h).0 in
      let w = others n in (
        (test.example, d) ∷ w.0,
        f (test.value test.example) w.1,
        record {
          front = (test.example, d) ∷ [];
          back = w.0;
          one = test.value test.example;
          two = w.1;
          whole = refl;
          left = record { at = test.example; whole = refl; known = known; made = refl };
          right = w.2;
          made = refl;
        },
      )
  some (nothing y) follow h = ([], y, record { whole = refl; made = refl })
  some (seq f p q) follow h =
      let parts = and_true (fits after (leads q follow) p) (fits after follow q) h in
      let a = some p (leads q follow) parts.0 in
      let b = some q follow parts.1 in
      (a.0 ++ b.0, f a.1 b.1, record { front = a.0; back = b.0; one = a.1; two = b.1; whole = refl; left = a.2; right = b.2; made = refl })
  some (or p q) follow h =
      let parts = and_true (fits after follow p) (fits after follow q) (and_true (not (empty p) && apart (first p) (leads q follow)) (fits after follow p && fits after follow q) h).1 in
      let a = some p follow parts.0 in
      (a.0, a.1, inl a.2)
  some (ahead ones twos p q) follow h =
      let parts = and_true (fits after follow p) (fits after follow q) (and_true (two_decide ones twos follow p q) (fits after follow p && fits after follow q) h).1 in
      let a = some p follow parts.0 in
      (a.0, a.1, inl a.2)
  some (many p) follow h = ([], [], refl)
  some (image f p) follow h = let a = some p follow h in (a.0, f a.1, record { one = a.1; left = a.2; made = refl })

  pub begun : {X : Type 0} (g : Grammar kind V X) (follow : List ℕ) (t : T) → fits after follow g ≡ true → has (kind t) (first g) ≡ true → Begun t (lang inner same d g)
  begun (token test) follow t h k = (d, [], test.value t, record { at = t; whole = refl; known = k; made = refl })
  begun (level n test f) follow t h k =
      let w = words n in (
        suc d,
        w.0,
        f (test.value t) w.1,
        record {
          front = (t, suc d) ∷ [];
          back = w.0;
          one = test.value t;
          two = w.1;
          whole = refl;
          left = record { at = t; whole = refl; known = k; made = refl };
          right = w.2;
          made = refl;
        },
      )
  begun (next n test f) follow t h k =
      let w = others n in (
        d,
        w.0,
        f (test.value t) w.1,
        record {
          front = (t, d) ∷ [];
          back = w.0;
          one = test.value t;
          two = w.1;
          whole = refl;
          left = record { at = t; whole = refl; known = k; made = refl };
          right = w.2;
          made = refl;
        },
      )
  begun (nothing y) follow t h k = absurd cc
  begun (seq f p q) follow t h k =
      let parts = and_true (fits after (leads q follow) p) (fits after follow q) h in
      elim (has_either (kind t) (first p) (cond (empty p) (first q) []) k) [
        | inl a ↦ let b = begun p (leads q follow) t parts.0 a in
            let c = some q follow parts.1 in
            (b.0, b.1 ++ c.0, f b.2 c.1, record { front = (t, b.0) ∷ b.1; back = c.0; one = b.2; two = c.1; whole = refl; left = b.3; right = c.2; made = refl })
        | inr a ↦ elim (decide (empty p)) [
          | inl e ↦ let b = begun q follow t parts.1 (sym (ap (has (kind t)) (if_true (empty p) (first q) [] e)) ∙ a) in
              let c = none inner same d p e in
              (b.0, b.1, f c.0 b.2, record { front = []; back = (t, b.0) ∷ b.1; one = c.0; two = b.2; whole = refl; left = c.1; right = b.3; made = refl })
          | inr e ↦ absurd (nothing_on (kind t) (sym (ap (has (kind t)) (if_false (empty p) (first q) [] e)) ∙ a))
        ]
      ]
  begun (or p q) follow t h k =
      let parts = and_true (fits after follow p) (fits after follow q) (and_true (not (empty p) && apart (first p) (leads q follow)) (fits after follow p && fits after follow q) h).1 in
      elim (has_either (kind t) (first p) (first q) k) [
        | inl a ↦ let b = begun p follow t parts.0 a in (b.0, b.1, b.2, inl b.3)
        | inr a ↦ let b = begun q follow t parts.1 a in (b.0, b.1, b.2, inr b.3)
      ]
  begun (ahead ones twos p q) follow t h k =
      let parts = and_true (fits after follow p) (fits after follow q) (and_true (two_decide ones twos follow p q) (fits after follow p && fits after follow q) h).1 in
      elim (has_either (kind t) (first p) (first q) k) [
        | inl a ↦ let b = begun p follow t parts.0 a in (b.0, b.1, b.2, inl b.3)
        | inr a ↦ let b = begun q follow t parts.1 a in (b.0, b.1, b.2, inr b.3)
      ]
  begun (many p) follow t h k =
      let parts = and_true (not (empty p) && apart (first p) follow) (fits after (first p ++ follow) p) h in
      let b = begun p (first p ++ follow) t parts.1 k in
      (b.0, b.1, b.2 ∷ [], ((t, b.0) ∷ b.1, [], sym (append-nil ((t, b.0) ∷ b.1)), b.3, refl))
  begun (image f p) follow t h k = let b = begun p follow t h k in (b.0, b.1, f b.2, record { one = b.2; left = b.3; made = refl })

  -- a word of one token
  one_token : {X : Type 0} (ones : List ℕ) (g : Grammar kind V X) (t : T) → has (kind t) ones ≡ true → is_one ones g ≡ true → (l : ℕ) × (x : X) × lang inner same d g ((t, l) ∷ []) x
  one_token ones (token test) t h k = (d, test.value t, record { at = t; whole = refl; known = within_has (kind t) ones test.kinds k h; made = refl })
  one_token ones (level n test f) t h k = absurd cc
  one_token ones (next n test f) t h k = absurd cc
  one_token ones (nothing y) t h k = absurd cc
  one_token ones (seq f p q) t h k =
      let parts = and_true (is_one ones p) (empty q) k in
      let a = one_token ones p t h parts.0 in
      let b = none inner same d q parts.1 in
      (a.0, f a.1 b.0, record { front = (t, a.0) ∷ []; back = []; one = a.1; two = b.0; whole = refl; left = a.2; right = b.1; made = refl })
  one_token ones (or p q) t h k = elim (one_of (is_one ones p) (is_one ones q) k) [
    | inl e ↦ let a = one_token ones p t h e in (a.0, a.1, inl a.2)
    | inr e ↦ let a = one_token ones q t h e in (a.0, a.1, inr a.2)
  ]
  one_token ones (ahead more twos p q) t h k = elim (one_of (is_one ones p) (is_one ones q) k) [
    | inl e ↦ let a = one_token ones p t h e in (a.0, a.1, inl a.2)
    | inr e ↦ let a = one_token ones q t h e in (a.0, a.1, inr a.2)
  ]
  one_token ones (many p) t h k = let a = one_token ones p t h k in (a.0, a.1 ∷ [], ((t, a.0) ∷ [], [], refl, a.2, refl))
  one_token ones (image f p) t h k = let a = one_token ones p t h k in (a.0, f a.1, record { one = a.1; left = a.2; made = refl })

  pub begun_two : {X : Type 0} (ones twos : List ℕ) (g : Grammar kind V X) (follow : List ℕ) (t u : T) → fits after follow g ≡ true → has (kind t) ones ≡ true → has (kind u) twos ≡ true
      → opens_two ones twos g ≡ true → BegunTwo t u (lang inner same d g)
  begun_two ones twos (token test) follow t u fit h k o = absurd cc
  begun_two ones twos (level n test f) follow t u fit h k o = absurd cc
  begun_two ones twos (next n test f) follow t u fit h k o = absurd cc
  begun_two ones twos (nothing y) follow t u fit h k o = absurd cc
  begun_two ones twos (seq f p q) follow t u fit h k o =
      let fits_both = and_true (fits after (leads q follow) p) (fits after follow q) fit in
      elim (one_of (opens_two ones twos p) (is_one ones p && within twos (first q)) o) [
        | inl e ↦ let a = begun_two ones twos p (leads q follow) t u fits_both.0 h k e in
            let b = some q follow fits_both.1 in
            (a.0, a.1, a.2 ++ b.0, f a.3 b.1, record { front = (t, a.0) ∷ (u, a.1) ∷ a.2; back = b.0; one = a.3; two = b.1; whole = refl; left = a.4; right = b.2; made = refl })
        | inr e ↦ let parts = and_true (is_one ones p) (within twos (first q)) e in
            let a = one_token ones p t h parts.0 in
            let b = begun q follow u fits_both.1 (within_has (kind u) twos (first q) parts.1 k) in
            (a.0, b.0, b.1, f a.1 b.2, record { front = (t, a.0) ∷ []; back = (u, b.0) ∷ b.1; one = a.1; two = b.2; whole = refl; left = a.2; right = b.3; made = refl })
      ]
  begun_two ones twos (or p q) follow t u fit h k o =
      let parts = and_true (fits after follow p) (fits after follow q) (and_true (not (empty p) && apart (first p) (leads q follow)) (fits after follow p && fits after follow q) fit).1 in
      elim (one_of (opens_two ones twos p) (opens_two ones twos q) o) [
        | inl e ↦ let a = begun_two ones twos p follow t u parts.0 h k e in (a.0, a.1, a.2, a.3, inl a.4)
        | inr e ↦ let a = begun_two ones twos q follow t u parts.1 h k e in (a.0, a.1, a.2, a.3, inr a.4)
      ]
  begun_two ones twos (ahead sets more p q) follow t u fit h k o =
      let parts = and_true (fits after follow p) (fits after follow q) (and_true (two_decide sets more follow p q) (fits after follow p && fits after follow q) fit).1 in
      elim (one_of (opens_two ones twos p) (opens_two ones twos q) o) [
        | inl e ↦ let a = begun_two ones twos p follow t u parts.0 h k e in (a.0, a.1, a.2, a.3, inl a.4)
        | inr e ↦ let a = begun_two ones twos q follow t u parts.1 h k e in (a.0, a.1, a.2, a.3, inr a.4)
      ]
  begun_two ones twos (many p) follow t u fit h k o =
      let parts = and_true (not (empty p) && apart (first p) follow) (fits after (first p ++ follow) p) fit in
      let a = begun_two ones twos p (first p ++ follow) t u parts.1 h k o in
      (a.0, a.1, a.2, a.3 ∷ [], ((t, a.0) ∷ (u, a.1) ∷ a.2, [], sym (append-nil ((t, a.0) ∷ (u, a.1) ∷ a.2)), a.4, refl))
  begun_two ones twos (image f p) follow t u fit h k o = let a = begun_two ones twos p follow t u fit h k o in (a.0, a.1, a.2, f a.3, record { one = a.3; left = a.4; made = refl })

module _ {T N : Type 0} {kind : T → ℕ} {V : N → Type 0} (inner same : (n : N) → Lang T (V n)) (d : ℕ) where
  pub not_blank : {X : Type 0} (g : Grammar kind V X) (w : Words T) (x : X) → empty g ≡ false → lang inner same d g w x → 1 ≤ length w
  not_blank g [] x e l = absurd (true_false (empty g) (blank inner same d g x l) e)
  not_blank g (t ∷ w) x e l = omega arith

  pub long : {X : Type 0} (g : Grammar kind V X) (w : Words T) (x : X) → is_long g ≡ true → lang inner same d g w x → 2 ≤ length w
  long (token test) w x h l = absurd cc
  long (level n test f) w x h l = absurd cc
  long (next n test f) w x h l = absurd cc
  long (nothing y) w x h l = absurd cc
  long (seq f p q) w x h l =
      let all : length w ≡ length l.front + length l.back = ap length l.whole ∙ length-append l.front l.back in
      elim (one_of (is_long p) (cond (is_long q) true (not (empty p) && not (empty q))) h) [
        | inl a ↦ omega (arith, all, long p l.front l.one a l.left)
        | inr b ↦ elim (one_of (is_long q) (not (empty p) && not (empty q)) b) [
          | inl a ↦ omega (arith, all, long q l.back l.two a l.right)
          | inr a ↦ let parts = and_true (not (empty p)) (not (empty q)) a in
              omega (arith, all, not_blank p l.front l.one (not_true (empty p) parts.0) l.left, not_blank q l.back l.two (not_true (empty q) parts.1) l.right)
        ]
      ]
  long (or p q) w x h (inl l) = long p w x (and_true (is_long p) (is_long q) h).0 l
  long (or p q) w x h (inr l) = long q w x (and_true (is_long p) (is_long q) h).1 l
  long (ahead ones twos p q) w x h (inl l) = long p w x (and_true (is_long p) (is_long q) h).0 l
  long (ahead ones twos p q) w x h (inr l) = long q w x (and_true (is_long p) (is_long q) h).1 l
  long (many p) w x h l = absurd cc
  long (image f p) w x h l = long p w l.one h l.left
