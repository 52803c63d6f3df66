-- Words of a part of the grammar go over into printed words, with the same values and in no more tokens.
use Rattle.std.proofs.Common.{◌≡◌, inl, inr, ℕ, ◌+◌, ◌≤◌, List, [], ◌∷◌, ◌++◌, length, map, Option, Some, None, option_map, refl, sym, ap, subst, ◌∙◌}
use Rattle.std.proofs.lemmas.List.{append_assoc, append-nil, map-append, length-append}
use Rattle.std.proofs.Math.Nat.{le_trans}
use native.Mathlib.Omega.{arith}
use Rattle.psm_list.specs.Several.{several_map}
use Rattle.psm_token.specs.declared.token.Token.{Token}
use Rattle.psm_token.specs.declared.token.Placed.{Placed}
use Rattle.psm_grammar.specs.Language.{Words, Lang, Test, Seq, Many}
use Rattle.psm_grammar.specs.Grammar.{nothing, seq, or, ahead, many, image, lang}
use Rattle.psm_grammar.specs.Forms.{earlier, optional, after_token}
use Rattle.psm_tree.specs.Parts.{Part, V}
use Rattle.psm_tree.specs.ExprValues.{pair, several}
use Rattle.psm_tree.specs.ExprGrammar.{Gram}
use Rattle.psm_token.specs.declared.sign.Sign.TheVariants as s
use Rattle.psm_print.specs.Spelling.{sign, perhaps, each, separated, ended}
use Rattle.psm_print.proofs.Printed.{AllGood, Kept, Printed}
use Rattle.psm_print.proofs.PartTokens.{part_tokens, Shaped}

-- ---- good tokens

pub good_append : (good : Token → Type 0) (u v : Words Placed) → AllGood good u → AllGood good v → AllGood good (u ++ v)
good_append good [] v a b = b
good_append good (y ∷ u) v a b = (a.0, good_append good u v a.1 b)

pub good_front : (good : Token → Type 0) (u v : Words Placed) → AllGood good (u ++ v) → AllGood good u
good_front good [] v a = tt
good_front good (y ∷ u) v a = (a.0, good_front good u v a.1)

pub good_back : (good : Token → Type 0) (u v : Words Placed) → AllGood good (u ++ v) → AllGood good v
good_back good [] v a = a
good_back good (y ∷ u) v a = good_back good u v a.1

-- ---- printed words

module _ {good : Token → Type 0} {X : Type 0} {L : Lang Placed X} {x : X} where
  pub respelled : {ts us : List Token} {n : ℕ} → ts ≡ us → Printed good L x ts n → Printed good L x us n
  respelled e p = record { word = p.word; spells = p.spells; bare = p.bare ∙ e; short = p.short; kept = p.kept }

  pub shorter : {ts : List Token} {n m : ℕ} → n ≤ m → Printed good L x ts n → Printed good L x ts m
  shorter e p = record { word = p.word; spells = p.spells; bare = p.bare; short = le_trans p.short e; kept = p.kept }

  pub reread : {Y : Type 0} {K : Lang Placed Y} {y : Y} {ts : List Token} {n : ℕ} → ((w : Words Placed) → L w x → K w y) → Printed good L x ts n → Printed good K y ts n
  reread h p = record { word = p.word; spells = h p.word p.spells; bare = p.bare; short = p.short; kept = p.kept }

-- a word after another
pub joined : {good : Token → Type 0} {X Y Z : Type 0} {L : Lang Placed X} {K : Lang Placed Y} {x : X} {y : Y} {ts us : List Token} {n m : ℕ} (f : X → Y → Z) → Printed good L x ts n → Printed good K y us m → Printed good (Seq f L K) (f x y) (ts ++ us) (n + m)
joined {good} {x = x} {y = y} {n = n} {m = m} f p q = record {
  word = p.word ++ q.word;
  spells = record { front = p.word; back = q.word; one = x; two = y; whole = refl; left = p.spells; right = q.spells; made = refl };
  bare = map-append _ p.word q.word ∙ (λ i. p.bare i ++ q.bare i);
  short = omega (arith, length-append p.word q.word, p.short, q.short);
  kept = good_append good p.word q.word p.kept q.kept;
}

-- ---- where words are read: what nonterminals stand for, and what is known of their words

abbrev pub Claim : (Token → Type 0) → ((n : Part) → Lang Placed (V n)) → Type 0
Claim good L = (n : Part) (w : Words Placed) (x : V n) → L n w x → AllGood good w → Printed good (L n) x (part_tokens n x) (length w)

pub record PrintContext : Type 1 where
  pub good : Token → Type 0
  pub kept : Kept good
  pub inner : (n : Part) → Lang Placed (V n)
  pub same : (n : Part) → Lang Placed (V n)
  pub depth : ℕ
  pub inner_printed : Claim good inner
  pub same_printed : Claim good same
  pub shaped : (n : Part) (w : Words Placed) (x : V n) → same n w x → Shaped n x

-- the language of a part there
abbrev pub said : {X : Type 0} → PrintContext → Gram X → Lang Placed X
said z g w x = lang z.inner z.same z.depth g w x

-- each word of g has a printed word of h
pub record Into (z : PrintContext) {X : Type 0} (g h : Gram X) (c : X → List Token) : Type 0 where
  pub into : (w : Words Placed) (x : X) → said z g w x → AllGood z.good w → Printed z.good (said z h) x (c x) (length w)

pub into_equal : {z : PrintContext} {X : Type 0} {g h : Gram X} {b : X → List Token} (c : X → List Token) → ((x : X) → b x ≡ c x) → Into z g h b → Into z g h c
into_equal c e i = record { into = λ w x l a. respelled (e x) (i.into w x l a) }

-- where the value is of one kind
pub into_equal_if : {z : PrintContext} {X : Type 0} {g h : Gram X} {b : X → List Token} (c : X → List Token) → ((w : Words Placed) (x : X) → said z g w x → b x ≡ c x) → Into z g h b → Into z g h c
into_equal_if c e i = record { into = λ w x l a. respelled (e w x l) (i.into w x l a) }

-- ---- parts in a row

-- where something is known of the values of the back
pub into_seq_if : {z : PrintContext} {X Y Z : Type 0} {f : X → Y → Z} {p h : Gram X} {q k : Gram Y} {b : X → List Token} {d : Y → List Token} (c : Z → List Token) (Q : Y → Type 0)
    → ((w : Words Placed) (y : Y) → said z q w y → Q y) → Into z p h b → Into z q k d → ((x : X) (y : Y) → Q y → b x ++ d y ≡ c (f x y)) → Into z (seq f p q) (seq f h k) c
into_seq_if {z} {f = f} {h = h} {k = k} c Q known i j e = record {
  into = λ w x l a.
      let g = subst (AllGood z.good) l.whole a in
      let p = i.into l.front l.one l.left (good_front z.good l.front l.back g) in
      let q = j.into l.back l.two l.right (good_back z.good l.front l.back g) in
      let n : length l.front + length l.back ≤ length w = omega (arith, length-append l.front l.back, ap length l.whole) in
      subst (λ v. Printed z.good (said z (seq f h k)) v (c v) (length w)) (sym l.made) (respelled (e l.one l.two (known l.back l.two l.right)) (shorter n (joined f p q)));
}

pub into_seq : {z : PrintContext} {X Y Z : Type 0} {f : X → Y → Z} {p h : Gram X} {q k : Gram Y} {b : X → List Token} {d : Y → List Token} (c : Z → List Token)
    → Into z p h b → Into z q k d → ((x : X) (y : Y) → b x ++ d y ≡ c (f x y)) → Into z (seq f p q) (seq f h k) c
into_seq c i j e = into_seq_if c (λ y. Unit {0}) (λ w y l. tt) i j (λ x y t. e x y)

-- the front alone is printed
pub into_front : {z : PrintContext} {X Y : Type 0} {p h : Gram X} {q : Gram Y} {c : X → List Token} → Into z p h c → Into z (seq earlier p (optional q)) (seq earlier h (optional q)) c
into_front {z} {c = c} i = record {
  into = λ w x l a.
      let p = i.into l.front l.one l.left (good_front z.good l.front l.back (subst (AllGood z.good) l.whole a)) in
      let n : length l.front ≤ length w = omega (arith, length-append l.front l.back, ap length l.whole) in
      reread (λ u m. record { front = u; back = []; one = l.one; two = None; whole = sym (append-nil u); left = m; right = inr (record { whole = refl; made = refl }); made = l.made })
      (respelled (ap c (sym l.made)) (shorter n p));
}

-- what may stand between two parts is left out, where the value doesn't say it
pub into_both : {z : PrintContext} {X Y Z A : Type 0} {f : X → Option A × Y → Z} {p h : Gram X} {q : Gram A} {r k : Gram Y} {b : X → List Token} {d : Y → List Token} (c : Z → List Token)
    → Into z p h b → Into z r k d → ((x : X) (o : Option A) (y : Y) → f x (o, y) ≡ f x (None, y)) → ((x : X) (y : Y) → b x ++ d y ≡ c (f x (None, y))) → Into z (seq f p (seq pair (optional q) r)) (seq f h (seq pair (optional q) k)) c
into_both {z} {X} {Y} {A = A} {f = f} {h = h} {q = q} {k = k} c i j same e = record {
  into = λ w x l a.
      let g = subst (AllGood z.good) l.whole a in
      let m = l.right in
      let u = i.into l.front l.one l.left (good_front z.good l.front l.back g) in
      let v = j.into m.back m.two m.right (good_back z.good m.front m.back (subst (AllGood z.good) m.whole (good_back z.good l.front l.back g))) in
      let made : x ≡ f l.one (None, m.two) = l.made ∙ ap (f l.one) m.made ∙ same l.one m.one m.two in
      let n : length l.front + length m.back ≤ length w = omega (arith, length-append l.front l.back, ap length l.whole, length-append m.front m.back, ap length m.whole) in
      let back : Printed z.good (said z (seq pair (optional q) k)) (None, m.two) _ (length m.back) =
      reread (λ t s. record { front = []; back = t; one = None; two = m.two; whole = refl; left = inr (record { whole = refl; made = refl }); right = s; made = refl }) v in
      subst (λ y. Printed z.good (said z (seq f h (seq pair (optional q) k))) y (c y) (length w)) (sym made) (respelled (e l.one m.two) (shorter n (joined f u back)));
}

-- what may stand after two parts is left out, where the value doesn't say it
pub into_before : {z : PrintContext} {X Y Z A : Type 0} {f : X → Y × Option A → Z} {p h : Gram X} {q : Gram A} {r k : Gram Y} {b : X → List Token} {d : Y → List Token} (c : Z → List Token)
    → Into z p h b → Into z r k d → ((x : X) (y : Y) (o : Option A) → f x (y, o) ≡ f x (y, None)) → ((x : X) (y : Y) → b x ++ d y ≡ c (f x (y, None))) → Into z (seq f p (seq pair r (optional q))) (seq f h (seq pair k (optional q))) c
into_before {z} {X} {Y} {A = A} {f = f} {h = h} {q = q} {k = k} c i j same e = record {
  into = λ w x l a.
      let g = subst (AllGood z.good) l.whole a in
      let m = l.right in
      let u = i.into l.front l.one l.left (good_front z.good l.front l.back g) in
      let v = j.into m.front m.one m.left (good_front z.good m.front m.back (subst (AllGood z.good) m.whole (good_back z.good l.front l.back g))) in
      let made : x ≡ f l.one (m.one, None) = l.made ∙ ap (f l.one) m.made ∙ same l.one m.one m.two in
      let n : length l.front + length m.front ≤ length w = omega (arith, length-append l.front l.back, ap length l.whole, length-append m.front m.back, ap length m.whole) in
      let back : Printed z.good (said z (seq pair k (optional q))) (m.one, None) _ (length m.front) =
      reread (λ t s. record { front = t; back = []; one = m.one; two = None; whole = sym (append-nil t); left = s; right = inr (record { whole = refl; made = refl }); made = refl }) v in
      subst (λ y. Printed z.good (said z (seq f h (seq pair k (optional q)))) y (c y) (length w)) (sym made) (respelled (e l.one m.one) (shorter n (joined f u back)));
}

-- a token before the printed word is left out
pub left_out : {z : PrintContext} {A X : Type 0} {test : Test Placed A} {p h : Gram X} {c : X → List Token} → Into z p h c → Into z (after_token test p) h c
left_out {z} {h = h} {c = c} i = record {
  into = λ w x l a.
      let p = i.into l.back l.two l.right (good_back z.good l.front l.back (subst (AllGood z.good) l.whole a)) in
      let n : length l.back ≤ length w = omega (arith, length-append l.front l.back, ap length l.whole) in
      subst (λ y. Printed z.good (said z h) y (c y) (length w)) (sym l.made) (shorter n p);
}

-- ---- choices

pub or_from : {z : PrintContext} {X : Type 0} {p q h : Gram X} {c : X → List Token} → Into z p h c → Into z q h c → Into z (or p q) h c
or_from i j = record { into = λ w x l a. elim l [ inl m ↦ i.into w x m a | inr m ↦ j.into w x m a ] }

pub or_left : {z : PrintContext} {X : Type 0} {g h k : Gram X} {c : X → List Token} → Into z g h c → Into z g (or h k) c
or_left i = record { into = λ w x l a. reread (λ u m. inl m) (i.into w x l a) }

pub or_right : {z : PrintContext} {X : Type 0} {g h k : Gram X} {c : X → List Token} → Into z g k c → Into z g (or h k) c
or_right i = record { into = λ w x l a. reread (λ u m. inr m) (i.into w x l a) }

pub into_or : {z : PrintContext} {X : Type 0} {p q h k : Gram X} {c : X → List Token} → Into z p h c → Into z q k c → Into z (or p q) (or h k) c
into_or i j = or_from (or_left i) (or_right j)

pub ahead_from : {z : PrintContext} {X : Type 0} {ones twos : List ℕ} {p q h : Gram X} {c : X → List Token} → Into z p h c → Into z q h c → Into z (ahead ones twos p q) h c
ahead_from i j = record { into = λ w x l a. elim l [ inl m ↦ i.into w x m a | inr m ↦ j.into w x m a ] }

pub ahead_right : {z : PrintContext} {X : Type 0} {ones twos : List ℕ} {g h k : Gram X} {c : X → List Token} → Into z g k c → Into z g (ahead ones twos h k) c
ahead_right i = record { into = λ w x l a. reread (λ u m. inr m) (i.into w x l a) }

-- a choice after a word is a choice of both
pub seq_or : {z : PrintContext} {X Y Z : Type 0} {f : X → Y → Z} {p : Gram X} {q r : Gram Y} {h : Gram Z} {c : Z → List Token} → Into z (seq f p q) h c → Into z (seq f p r) h c → Into z (seq f p (or q r)) h c
seq_or i j = record {
  into = λ w x l a. elim l.right [
    | inl m ↦ i.into w x (record { front = l.front; back = l.back; one = l.one; two = l.two; whole = l.whole; left = l.left; right = m; made = l.made }) a
    | inr m ↦ j.into w x (record { front = l.front; back = l.back; one = l.one; two = l.two; whole = l.whole; left = l.left; right = m; made = l.made }) a
  ];
}

pub seq_ahead : {z : PrintContext} {X Y Z : Type 0} {f : X → Y → Z} {ones twos : List ℕ} {p : Gram X} {q r : Gram Y} {h : Gram Z} {c : Z → List Token} → Into z (seq f p q) h c → Into z (seq f p r) h c → Into z (seq f p (ahead ones twos q r)) h c
seq_ahead i j = record {
  into = λ w x l a. elim l.right [
    | inl m ↦ i.into w x (record { front = l.front; back = l.back; one = l.one; two = l.two; whole = l.whole; left = l.left; right = m; made = l.made }) a
    | inr m ↦ j.into w x (record { front = l.front; back = l.back; one = l.one; two = l.two; whole = l.whole; left = l.left; right = m; made = l.made }) a
  ];
}

-- a word after two is after the second of them
pub seq_again : {z : PrintContext} {X Y Z A B C : Type 0} {f : X → A → B} {g : Y → Z → A} {p : Gram X} {q : Gram Y} {r : Gram Z} {h : Gram B} {c : B → List Token} (k : C → Z → B) (m : X → Y → C)
    → ((x : X) (y : Y) (v : Z) → f x (g y v) ≡ k (m x y) v) → Into z (seq k (seq m p q) r) h c → Into z (seq f p (seq g q r)) h c
seq_again {f = f} k m e i = record {
  into = λ w x l a.
      i.into w x (record {
        front = l.front ++ l.right.front;
        back = l.right.back;
        one = m l.one l.right.one;
        two = l.right.two;
        whole = l.whole ∙ ap (λ u. l.front ++ u) l.right.whole ∙ sym (append_assoc l.front l.right.front l.right.back);
        left = record { front = l.front; back = l.right.front; one = l.one; two = l.right.one; whole = refl; left = l.left; right = l.right.left; made = refl };
        right = l.right.right;
        made = l.made ∙ ap (f l.one) l.right.made ∙ e l.one l.right.one l.right.two;
      }) a;
}

-- ---- values

pub into_image : {z : PrintContext} {X Y : Type 0} {f : X → Y} {p h : Gram X} {b : X → List Token} (c : Y → List Token) → Into z p h b → ((x : X) → b x ≡ c (f x)) → Into z (image f p) (image f h) c
into_image c i e = record {
  into = λ w x l a.
      reread (λ u m. record { one = l.one; left = m; made = l.made }) (respelled (e l.one ∙ ap c (sym l.made)) (i.into w l.one l.left a));
}

pub into_nothing : {z : PrintContext} {X : Type 0} {y : X} (c : X → List Token) → c y ≡ [] → Into z (nothing y) (nothing y) c
into_nothing {z} c e = record { into = λ w x l a. record { word = []; spells = record { whole = refl; made = l.made }; bare = sym (ap c l.made ∙ e); short = omega arith; kept = tt } }

-- words of one value are left out
pub into_gone : {z : PrintContext} {X : Type 0} {g : Gram X} {y : X} (c : X → List Token) → c y ≡ [] → ((w : Words Placed) (x : X) → said z g w x → x ≡ y) → Into z g (nothing y) c
into_gone {z} c e one = record { into = λ w x l a. record { word = []; spells = record { whole = refl; made = one w x l }; bare = sym (ap c (one w x l) ∙ e); short = omega arith; kept = tt } }

pub into_optional : {z : PrintContext} {X : Type 0} {p h : Gram X} {b : X → List Token} (c : Option X → List Token) → Into z p h b → c None ≡ [] → ((x : X) → b x ≡ c (Some x)) → Into z (optional p) (optional h) c
into_optional c i none some = into_or (into_image c i some) (into_nothing c none)

-- ---- many

many_into : {z : PrintContext} {X : Type 0} {p h : Gram X} {b : X → List Token} (c : List X → List Token) → Into z p h b → c [] ≡ [] → ((x : X) (xs : List X) → b x ++ c xs ≡ c (x ∷ xs))
    → (w : Words Placed) (xs : List X) → Many (said z p) w xs → AllGood z.good w → Printed z.good (Many (said z h)) xs (c xs) (length w)
many_into {z} c i e f w [] l a = record { word = []; spells = refl; bare = sym e; short = omega arith; kept = tt }
many_into {z} c i e f w (x ∷ xs) l a =
    let g = subst (AllGood z.good) l.2 a in
    let p = i.into l.0 x l.3 (good_front z.good l.0 l.1 g) in
    let q = many_into c i e f l.1 xs l.4 (good_back z.good l.0 l.1 g) in
    record {
      word = p.word ++ q.word;
      spells = (p.word, q.word, refl, p.spells, q.spells);
      bare = map-append _ p.word q.word ∙ (λ i. p.bare i ++ q.bare i) ∙ f x xs;
      short = omega (arith, length-append p.word q.word, p.short, q.short, length-append l.0 l.1, ap length l.2);
      kept = good_append z.good p.word q.word p.kept q.kept;
    }

pub into_many : {z : PrintContext} {X : Type 0} {p h : Gram X} {b : X → List Token} (c : List X → List Token) → Into z p h b → c [] ≡ [] → ((x : X) (xs : List X) → b x ++ c xs ≡ c (x ∷ xs)) → Into z (many p) (many h) c
into_many c i e f = record { into = many_into c i e f }

-- ---- how trees hold what may come or comes often

pub into_perhaps : {z : PrintContext} {X : Type 0} {p h : Gram X} {b : X → List Token} (before : List Token) (tokens : X → List Token) → Into z p h b → ((x : X) → b x ≡ before ++ tokens x)
    → Into z (optional p) (optional h) (λ x. perhaps before (option_map tokens x))
into_perhaps before tokens i e = into_optional (λ x. perhaps before (option_map tokens x)) i refl e

pub into_each : {z : PrintContext} {X : Type 0} {p h : Gram X} {b : X → List Token} (before : List Token) (tokens : X → List Token) → Into z p h b → ((x : X) → b x ≡ before ++ tokens x)
    → Into z (many p) (many h) (λ xs. each before (map tokens xs))
into_each before tokens i e = into_many (λ xs. each before (map tokens xs)) i refl (λ x xs. ap (λ ts. ts ++ each before (map tokens xs)) (e x))

pub into_ended : {z : PrintContext} {X : Type 0} {p h : Gram X} {b : X → List Token} (tokens : X → List Token) → Into z p h b → ((x : X) → b x ≡ tokens x ++ sign s.Semicolon)
    → Into z (many p) (many h) (λ xs. ended (map tokens xs))
into_ended tokens i e = into_many (λ xs. ended (map tokens xs)) i refl (λ x xs. ap (λ ts. ts ++ ended (map tokens xs)) (e x))

pub into_separated : {z : PrintContext} {X : Type 0} {p h q k : Gram X} {b : X → List Token} (between : List Token) (tokens : X → List Token) → Into z p h tokens → Into z q k b → ((x : X) → b x ≡ between ++ tokens x)
    → Into z (seq several p (many q)) (seq several h (many k)) (λ xs. separated between (several_map tokens xs))
into_separated between tokens i j e = into_seq (λ xs. separated between (several_map tokens xs)) i (into_each between tokens j e) (λ x xs. refl)
