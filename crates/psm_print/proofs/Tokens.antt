-- Single tokens go over into printed ones, and so do the tokens before what nonterminals stand for.
use Rattle.std.proofs.Common.{◌≡◌, ℕ, suc, ◌+◌, ◌≤◌, true, false, List, [], ◌∷◌, ◌++◌, length, refl, sym, ap, subst, if◌then◌else◌}
use Rattle.std.proofs.lemmas.List.{length-append}
use Rattle.std.proofs.lemmas.Bool.{eq-eqb}
use native.Mathlib.Omega.{arith}
use Rattle.psm_token.specs.declared.place.Place.{Place}
use Rattle.psm_token.specs.declared.word.Word.{Word}
use Rattle.psm_token.specs.declared.sign.Sign.{Sign}
use Rattle.psm_token.specs.declared.token.Token.{Token}
use Rattle.psm_token.specs.declared.token.Token.TheVariants as t
use Rattle.psm_token.specs.declared.token.Placed.{Placed}
use Rattle.psm_grammar.specs.Language.{Words, Lang, has, Test, Token as OneToken, Seq}
use Rattle.psm_grammar.specs.Grammar.{token, level, next, seq, many}
use Rattle.psm_grammar.specs.Forms.{after_token, before_token}
use Rattle.psm_token.specs.Words.{word_kind}
use Rattle.psm_token.specs.Signs.{sign_kind}
use Rattle.psm_token.specs.Kinds.{token_kind, kind}
use Rattle.psm_tree.specs.Tests.{word, sign}
use Rattle.psm_tree.specs.Parts.{Part, V}
use Rattle.psm_token.specs.declared.sign.Sign.TheVariants as s
use Rattle.psm_list.specs.Several.{several_map}
use Rattle.psm_tree.specs.ExprValues.{several}
use Rattle.psm_tree.specs.ExprGrammar.{Gram, closed, within_parens}
use Rattle.psm_print.specs.Spelling.{sign as one_sign, separated, in_parens}
use Rattle.psm_print.proofs.Printed.{AllGood, Printed}
use Rattle.psm_print.proofs.PartTokens.{part_tokens, Shaped}
use Rattle.psm_print.proofs.Into.{PrintContext, Claim, Into, into_seq, into_separated, joined, good_front, good_back, respelled, shorter}

abbrev pub placed_at : Place → Token → Placed
placed_at p t = record { token = t; place = p }

-- the tokens of a test go over into these
pub record Says (z : PrintContext) {A : Type 0} (from to : Test Placed A) (tok : A → Token) : Type 0 where
  pub place : A → Place
  pub known : (y : Placed) → has (kind y) from.kinds ≡ true → has (token_kind (tok (from.value y))) to.kinds ≡ true
  pub again : (y : Placed) → has (kind y) from.kinds ≡ true → to.value (placed_at (place (from.value y)) (tok (from.value y))) ≡ from.value y
  pub kept : (y : Placed) → has (kind y) from.kinds ≡ true → z.good y.token → z.good (tok (from.value y))

-- where that holds of any value
pub says_all : {z : PrintContext} {A : Type 0} {from to : Test Placed A} {tok : A → Token} (place : A → Place) → ((a : A) → has (token_kind (tok a)) to.kinds ≡ true) → ((a : A) → to.value (placed_at (place a) (tok a)) ≡ a)
    → ((y : Placed) → has (kind y) from.kinds ≡ true → z.good y.token → z.good (tok (from.value y))) → Says z from to tok
says_all {from = from} place known again kept = record { place = place; known = λ y e. known (from.value y); again = λ y e. again (from.value y); kept = kept }

token_into : {z : PrintContext} {A : Type 0} {from to : Test Placed A} {tok : A → Token} → Says z from to tok
    → (d : ℕ) (w : Words Placed) (x : A) → OneToken kind from d w x → AllGood z.good w → Printed z.good (OneToken kind to d) x (tok x ∷ []) (length w)
token_into {z} {from = from} {to = to} {tok = tok} s d w x l a =
    let v = from.value l.at in
    subst (λ v. Printed z.good (OneToken kind to d) v (tok v ∷ []) (length w)) (sym l.made) (record {
      word = (placed_at (s.place v) (tok v), d) ∷ [];
      spells = record { at = placed_at (s.place v) (tok v); whole = refl; known = s.known l.at l.known; made = sym (s.again l.at l.known) };
      bare = refl;
      short = omega (arith, ap length l.whole);
      kept = (s.kept l.at l.known (subst (AllGood z.good) l.whole a).0, tt);
    })

pub into_token : {z : PrintContext} {A : Type 0} {from to : Test Placed A} {tok : A → Token} → Says z from to tok → Into z (token from) (token to) (λ a. tok a ∷ [])
into_token {z} s = record { into = token_into s z.depth }

-- ---- levels

-- a token and a word of what stands after it
after_into : {z : PrintContext} {A Y : Type 0} {n : Part} {from : Test Placed A} {f : A → V n → Y} {tok : A → Token} (c : Y → List Token) → Says z from from tok → (L : (n : Part) → Lang Placed (V n)) → Claim z.good L
    → ((a : A) (u : Words Placed) (y : V n) → L n u y → tok a ∷ part_tokens n y ≡ c (f a y)) → (d : ℕ) (w : Words Placed) (x : Y) → Seq f (OneToken kind from d) (L n) w x → AllGood z.good w → Printed z.good (Seq f (OneToken kind from d) (L n)) x (c x) (length w)
after_into {z} {n = n} {from = from} {f = f} c s L printed e d w x l a =
    let g = subst (AllGood z.good) l.whole a in
    let p = token_into s d l.front l.one l.left (good_front z.good l.front l.back g) in
    let q = printed n l.back l.two l.right (good_back z.good l.front l.back g) in
    let m : length l.front + length l.back ≤ length w = omega (arith, length-append l.front l.back, ap length l.whole) in
    subst (λ v. Printed z.good (Seq f (OneToken kind from d) (L n)) v (c v) (length w)) (sym l.made) (respelled (e l.one l.back l.two l.right) (shorter m (joined f p q)))

pub into_level : {z : PrintContext} {A Y : Type 0} {n : Part} {from : Test Placed A} {f : A → V n → Y} {tok : A → Token} (c : Y → List Token) → Says z from from tok
    → ((a : A) (y : V n) → tok a ∷ part_tokens n y ≡ c (f a y)) → Into z (level n from f) (level n from f) c
into_level {z} c s e = record { into = after_into c s z.inner z.inner_printed (λ a u y m. e a y) (suc z.depth) }

pub into_next : {z : PrintContext} {A Y : Type 0} {n : Part} {from : Test Placed A} {f : A → V n → Y} {tok : A → Token} (c : Y → List Token) → Says z from from tok
    → ((a : A) (y : V n) → Shaped n y → tok a ∷ part_tokens n y ≡ c (f a y)) → Into z (next n from f) (next n from f) c
into_next {z} {n = n} c s e = record { into = after_into c s z.same z.same_printed (λ a u y m. e a y (z.shaped n u y m)) z.depth }

-- ---- words and signs

known_one : (n : ℕ) → has n (n ∷ []) ≡ true
known_one n = ap (λ b. if b then true else false) (eq-eqb n n refl)

pub says_word : {z : PrintContext} (x : Word) → Says z (word x) (word x) (λ a. t.Word x)
says_word {z} x = says_all (λ a. a) (λ a. known_one (word_kind x)) (λ a. refl) (λ y e g. z.kept.of_word x)

pub says_sign : {z : PrintContext} (x : Sign) → Says z (sign x) (sign x) (λ a. t.Sign x)
says_sign {z} x = says_all (λ a. a) (λ a. known_one (sign_kind x)) (λ a. refl) (λ y e g. z.kept.of_sign x)

pub into_word : {z : PrintContext} (x : Word) → Into z (token (word x)) (token (word x)) (λ a. t.Word x ∷ [])
into_word x = into_token (says_word x)

pub into_sign : {z : PrintContext} (x : Sign) → Into z (token (sign x)) (token (sign x)) (λ a. t.Sign x ∷ [])
into_sign x = into_token (says_sign x)

pub after_word : {z : PrintContext} {X : Type 0} {p h : Gram X} {b : X → List Token} (x : Word) → Into z p h b → Into z (after_token (word x) p) (after_token (word x) h) (λ y. t.Word x ∷ b y)
after_word x i = into_seq _ (into_word x) i (λ a y. refl)

pub after_sign : {z : PrintContext} {X : Type 0} {p h : Gram X} {b : X → List Token} (x : Sign) → Into z p h b → Into z (after_token (sign x) p) (after_token (sign x) h) (λ y. t.Sign x ∷ b y)
after_sign x i = into_seq _ (into_sign x) i (λ a y. refl)

pub before_word : {z : PrintContext} {X : Type 0} {p h : Gram X} {b : X → List Token} (x : Word) → Into z p h b → Into z (before_token p (word x)) (before_token h (word x)) (λ y. b y ++ (t.Word x ∷ []))
before_word x i = into_seq _ i (into_word x) (λ y a. refl)

pub before_sign : {z : PrintContext} {X : Type 0} {p h : Gram X} {b : X → List Token} (x : Sign) → Into z p h b → Into z (before_token p (sign x)) (before_token h (sign x)) (λ y. b y ++ (t.Sign x ∷ []))
before_sign x i = into_seq _ i (into_sign x) (λ y a. refl)

-- in parentheses
pub into_closed : {z : PrintContext} {X : Type 0} {p h : Gram X} {b : X → List Token} → Into z p h b → Into z (closed p) (closed h) (λ y. b y ++ (t.Sign s.RightParen ∷ []))
into_closed i = before_sign s.RightParen i

pub into_parens : {z : PrintContext} {X : Type 0} {p h : Gram X} {b : X → List Token} → Into z p h b → Into z (within_parens p) (within_parens h) (λ y. in_parens (b y))
into_parens i = after_sign s.LeftParen (into_closed i)

-- with a comma between two of them
pub into_commas : {z : PrintContext} {X : Type 0} {p h : Gram X} (tokens : X → List Token) → Into z p h tokens
    → Into z (seq several p (many (after_token (sign s.Comma) p))) (seq several h (many (after_token (sign s.Comma) h))) (λ xs. separated (one_sign s.Comma) (several_map tokens xs))
into_commas tokens i = into_separated (one_sign s.Comma) tokens i (after_sign s.Comma i) (λ x. refl)
