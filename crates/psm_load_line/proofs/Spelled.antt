-- A line that is written is read again, and a line that is read was written so: readers made of others.
use Rattle.std.proofs.Common.{◌≡◌, ℕ, ◌+◌, ◌≤◌, Bool, true, false, ◌&&◌, not, List, [], ◌∷◌, ◌++◌, length, map, drop, Option, Some, None, refl, sym, ap, subst, ◌∙◌, append_assoc, arith, length-append}
use Rattle.std.specs.Prelude.{nat_eq, if◌then◌else◌}
use Rattle.std.specs.List.{list_all}
use Rattle.std.specs.Cmp.Lexicographic.{pointwise, same_text}
use Rattle.std.proofs.lemmas.Bool.{eq-eqb}
use Rattle.std.proofs.lemmas.List.{append-nil, take_at, drop_at}
use Rattle.psm_num.proofs.Literals.{and_first, and_second}
use Rattle.psm_words.specs.Reading.{◌>>=◌, after}
use Rattle.psm_words.proofs.Several.{after_takes, bind_some, some_is}
use Rattle.psm_object.specs.Words.{further, spaced}
use Rattle.psm_load_line.specs.Heads.{EachIs}
use Rattle.psm_load_line.specs.Readers.{alone, at_end, bare, before, both, by_word, chosen, last, line, made, many, many_within, on, one_of, paired, some, word, LineReader, Reader}

-- ---- where a word ends: at the end of the line, or before a blank

abbrev pub is_boundary : List ℕ → Bool
is_boundary [] = true
is_boundary (c ∷ s) = nat_eq c 32

boundary_before : (ws : List (List ℕ)) (rest : List ℕ) → is_boundary rest ≡ true → is_boundary (further ws ++ rest) ≡ true
boundary_before [] rest h = h
boundary_before (w ∷ ws) rest h = refl

boundary_of : (ws : List (List ℕ)) → is_boundary (further ws) ≡ true
boundary_of [] = refl
boundary_of (w ∷ ws) = refl

pub further_append : (ws vs : List (List ℕ)) → further (ws ++ vs) ≡ further ws ++ further vs
further_append [] vs = refl
further_append (w ∷ ws) vs = ap (λ u. 32 ∷ u) (ap (λ u. w ++ u) (further_append ws vs) ∙ sym (append_assoc w (further ws) (further vs)))

-- ---- one word that stands first

same_self : (w : List ℕ) → pointwise nat_eq w w ≡ true
same_self [] = refl
same_self (c ∷ w) = ap (λ b. b && pointwise nat_eq w w) (eq-eqb c c refl) ∙ same_self w

pub after_again : (w rest : List ℕ) → after w (w ++ rest) ≡ Some rest
after_again w rest =
    ap (λ u. if pointwise nat_eq w u then Some (drop (length w) (w ++ rest)) else None) (take_at w rest (length w) refl)
    ∙ ap (λ b. if b then Some (drop (length w) (w ++ rest)) else None) (same_self w)
    ∙ ap Some (drop_at w rest (length w) refl)

-- ---- readers of words, and of lines

-- what is written for a value is read again, and what is read was written for a value that is valid
pub record Spelled {A : Type 0} (write : A → List ℕ) (Valid : A → Type 0) (read : Reader A) : Type 0 where
  pub again : (a : A) (rest : List ℕ) → Valid a → is_boundary rest ≡ true → read (write a ++ rest) ≡ Some (a, rest)
  pub takes : (s : List ℕ) (a : A) (rest : List ℕ) → read s ≡ Some (a, rest) → (s ≡ write a ++ rest) × Valid a

pub record Written {A : Type 0} (write : A → List ℕ) (Valid : A → Type 0) (read : LineReader A) : Type 0 where
  pub again : (a : A) → Valid a → read (write a) ≡ Some a
  pub takes : (s : List ℕ) (a : A) → read s ≡ Some a → (s ≡ write a) × Valid a

-- the same of words of which each stands after a blank
abbrev pub Fields : {A : Type 0} → (A → List (List ℕ)) → (A → Type 0) → Reader A → Type 0
Fields words Valid read = Spelled (λ a. further (words a)) Valid read

abbrev pub Rest : {A : Type 0} → (A → List (List ℕ)) → (A → Type 0) → LineReader A → Type 0
Rest words Valid read = Written (λ a. further (words a)) Valid read

-- a word after a blank
pub field : {A : Type 0} (write : A → List ℕ) (Valid : A → Type 0) (read : Reader A) → Spelled write Valid read → Fields (λ a. write a ∷ []) Valid (word read)
field {A} write Valid read s = record { again = again; takes = takes } where
  again : (a : A) (rest : List ℕ) → Valid a → is_boundary rest ≡ true → word read (further (write a ∷ []) ++ rest) ≡ Some (a, rest)
  again a rest v b = ap (λ u. read (u ++ rest)) (append-nil (write a)) ∙ s.again a rest v b

  takes : (t : List ℕ) (a : A) (rest : List ℕ) → word read t ≡ Some (a, rest) → (t ≡ further (write a ∷ []) ++ rest) × Valid a
  takes t a rest e =
      let f = bind_some (after (32 ∷ []) t) read (a, rest) e in
      let k = s.takes f.0 a rest f.2 in
      (after_takes (32 ∷ []) t f.0 f.1 ∙ ap (λ u. 32 ∷ u) (k.0 ∙ ap (λ u. u ++ rest) (sym (append-nil (write a)))), k.1)

-- words after another, which may stand without a blank
pub start : {A B : Type 0} (write : A → List ℕ) (V : A → Type 0) (p : Reader A) (vs : B → List (List ℕ)) (U : B → Type 0) (q : Reader B) → Spelled write V p → Fields vs U q
    → Spelled (λ (x : A × B). write x.0 ++ further (vs x.1)) (λ (x : A × B). (V x.0 × U x.1)) (both p q)
start {A} {B} write V p vs U q s t = record { again = again; takes = takes } where
  again : (x : A × B) (rest : List ℕ) → (V x.0 × U x.1) → is_boundary rest ≡ true → both p q ((write x.0 ++ further (vs x.1)) ++ rest) ≡ Some (x, rest)
  again x rest v b =
      ap (both p q) (append_assoc (write x.0) (further (vs x.1)) rest)
      ∙ ap (λ (o : Option (A × List ℕ)). o >>= λ a. q a.1 >>= paired a.0) (s.again x.0 (further (vs x.1) ++ rest) v.0 (boundary_before (vs x.1) rest b))
      ∙ ap (λ (o : Option (B × List ℕ)). o >>= paired x.0) (t.again x.1 rest v.1 b)

  takes : (u : List ℕ) (x : A × B) (rest : List ℕ) → both p q u ≡ Some (x, rest) → (u ≡ (write x.0 ++ further (vs x.1)) ++ rest) × (V x.0 × U x.1)
  takes u x rest e =
      let f = bind_some (p u) (λ a. q a.1 >>= paired a.0) (x, rest) e in
      let g = bind_some (q f.0.1) (paired f.0.0) (x, rest) f.2 in
      let made : (A × B) × List ℕ = ((f.0.0, g.0.0), g.0.1) in
      let left = s.takes u f.0.0 f.0.1 f.1 in
      let right = t.takes f.0.1 g.0.0 g.0.1 g.1 in
      subst (λ (y : (A × B) × List ℕ). (u ≡ (write y.0.0 ++ further (vs y.0.1)) ++ y.1) × (V y.0.0 × U y.0.1)) (some_is made (x, rest) g.2) (left.0 ∙ ap (λ r. write f.0.0 ++ r) right.0 ∙ sym (append_assoc (write f.0.0) (further (vs g.0.0)) g.0.1), (left.1, right.1))

pub pair : {A B : Type 0} (ws : A → List (List ℕ)) (V : A → Type 0) (p : Reader A) (vs : B → List (List ℕ)) (U : B → Type 0) (q : Reader B) → Fields ws V p → Fields vs U q
    → Fields (λ (x : A × B). ws x.0 ++ vs x.1) (λ (x : A × B). (V x.0 × U x.1)) (both p q)
pair {A} {B} ws V p vs U q s t =
    let k = start (λ a. further (ws a)) V p vs U q s t in
    record {
      again = λ x rest v b. ap (λ u. both p q (u ++ rest)) (further_append (ws x.0) (vs x.1)) ∙ k.again x rest v b;
      takes = λ u x rest e. let h = k.takes u x rest e in (h.0 ∙ ap (λ r. r ++ rest) (sym (further_append (ws x.0) (vs x.1))), h.1);
    }

-- ---- the end of a line

ended : {A : Type 0} (x : A × List ℕ) (a : A) → at_end x ≡ Some a → x ≡ (a, [])
ended (b, []) a e = ap (λ y. (y, [])) (some_is b a e)
ended (b, c ∷ s) a e = absurd cc

pub ends : {A : Type 0} (ws : A → List (List ℕ)) (V : A → Type 0) (p : Reader A) → Fields ws V p → Rest ws V (last p)
ends {A} ws V p s = record { again = again; takes = takes } where
  again : (a : A) → V a → last p (further (ws a)) ≡ Some a
  again a v = ap (λ (o : Option (A × List ℕ)). o >>= at_end) (ap p (sym (append-nil (further (ws a)))) ∙ s.again a [] v refl)

  takes : (u : List ℕ) (a : A) → last p u ≡ Some a → (u ≡ further (ws a)) × V a
  takes u a e =
      let f = bind_some (p u) at_end a e in
      let k = s.takes u a [] (f.1 ∙ ap Some (ended f.0 a f.2)) in
      (k.0 ∙ append-nil (further (ws a)), k.1)

abbrev joined : {A B : Type 0} → A → B → Option (A × B)
joined a b = Some (a, b)

-- words, and then what the rest of the line says; the words may begin without a blank
pub follow : {A B : Type 0} (write : A → List ℕ) (V : A → Type 0) (p : Reader A) (vs : B → List (List ℕ)) (U : B → Type 0) (q : LineReader B) → Spelled write V p → Rest vs U q
    → Written (λ (x : A × B). write x.0 ++ further (vs x.1)) (λ (x : A × B). (V x.0 × U x.1)) (on p q)
follow {A} {B} write V p vs U q s t = record { again = again; takes = takes } where
  again : (x : A × B) → (V x.0 × U x.1) → on p q (write x.0 ++ further (vs x.1)) ≡ Some x
  again x v =
      ap (λ (o : Option (A × List ℕ)). o >>= λ a. q a.1 >>= joined a.0) (s.again x.0 (further (vs x.1)) v.0 (boundary_of (vs x.1)))
      ∙ ap (λ (o : Option B). o >>= joined x.0) (t.again x.1 v.1)

  takes : (u : List ℕ) (x : A × B) → on p q u ≡ Some x → (u ≡ write x.0 ++ further (vs x.1)) × (V x.0 × U x.1)
  takes u x e =
      let f = bind_some (p u) (λ a. q a.1 >>= joined a.0) x e in
      let g = bind_some (q f.0.1) (joined f.0.0) x f.2 in
      let made : A × B = (f.0.0, g.0) in
      let left = s.takes u f.0.0 f.0.1 f.1 in
      let right = t.takes f.0.1 g.0 g.1 in
      subst (λ (y : A × B). (u ≡ write y.0 ++ further (vs y.1)) × (V y.0 × U y.1)) (some_is made x g.2) (left.0 ∙ ap (λ r. write f.0.0 ++ r) right.0, (left.1, right.1))

-- where each word stands after a blank, so do those of both
pub follow_fields : {A B : Type 0} (ws : A → List (List ℕ)) (V : A → Type 0) (p : Reader A) (vs : B → List (List ℕ)) (U : B → Type 0) (q : LineReader B) → Fields ws V p → Rest vs U q
    → Rest (λ (x : A × B). ws x.0 ++ vs x.1) (λ (x : A × B). (V x.0 × U x.1)) (on p q)
follow_fields {A} {B} ws V p vs U q s t =
    let k = follow (λ a. further (ws a)) V p vs U q s t in
    record {
      again = λ x v. ap (on p q) (further_append (ws x.0) (vs x.1)) ∙ k.again x v;
      takes = λ u x e. let h = k.takes u x e in (h.0 ∙ sym (further_append (ws x.0) (vs x.1)), h.1);
    }

-- a line that begins with a word
pub begin : {A : Type 0} (keyword : List ℕ) (ws : A → List (List ℕ)) (V : A → Type 0) (p : LineReader A) → Rest ws V p → Written (λ a. spaced (keyword ∷ ws a)) V (line keyword p)
begin {A} keyword ws V p s = record { again = again; takes = takes } where
  again : (a : A) → V a → line keyword p (spaced (keyword ∷ ws a)) ≡ Some a
  again a v = ap (λ (o : Option (List ℕ)). o >>= p) (after_again keyword (further (ws a))) ∙ s.again a v

  takes : (u : List ℕ) (a : A) → line keyword p u ≡ Some a → (u ≡ spaced (keyword ∷ ws a)) × V a
  takes u a e =
      let f = bind_some (after keyword u) p a e in
      let k = s.takes f.0 a f.2 in
      (after_takes keyword u f.0 f.1 ∙ ap (λ r. keyword ++ r) k.0, k.1)

-- values that stand for others one for one
pub convert : {A B : Type 0} (write : A → List ℕ) (V : A → Type 0) (p : LineReader A) (f : A → B) (g : B → A) → ((a : A) → g (f a) ≡ a) → ((b : B) → f (g b) ≡ b) → Written write V p
    → Written (λ b. write (g b)) (λ b. V (g b)) (made f p)
convert {A} {B} write V p f g gf fg s = record { again = again; takes = takes } where
  again : (b : B) → V (g b) → made f p (write (g b)) ≡ Some b
  again b v = ap (λ (o : Option A). o >>= λ a. Some (f a)) (s.again (g b) v) ∙ ap Some (fg b)

  takes : (u : List ℕ) (b : B) → made f p u ≡ Some b → (u ≡ write (g b)) × V (g b)
  takes u b e =
      let h = bind_some (p u) (λ a. Some (f a)) b e in
      let k = s.takes u h.0 h.1 in
      let same : g b ≡ h.0 = ap g (sym (some_is (f h.0) b h.2)) ∙ gf h.0 in
      subst (λ (a : A). (u ≡ write a) × V a) (sym same) k

-- the same line, and the same values
pub same_line : {A : Type 0} (write other : A → List ℕ) (V U : A → Type 0) (p : LineReader A) → ((a : A) → write a ≡ other a) → ((a : A) → V a → U a) → ((a : A) → U a → V a) → Written write V p → Written other U p
same_line write other V U p e f g s = record {
  again = λ a u. ap p (sym (e a)) ∙ s.again a (g a u);
  takes = λ u a q. let k = s.takes u a q in (k.0 ∙ e a, f a k.1);
}

-- ---- words up to the end of the line

module _ {A : Type 0} (write : A → List ℕ) (V : A → Type 0) (p : Reader A) (s : Fields (λ a. write a ∷ []) V p) where
  regroup : (a : A) (xs : List A) → further (map write (a ∷ xs)) ≡ further (write a ∷ []) ++ further (map write xs)
  regroup a xs = further_append (write a ∷ []) (map write xs)

  many_again : (most : List ℕ) (xs : List A) → EachIs V xs → length xs ≤ length most → many_within p most (further (map write xs)) ≡ Some xs
  many_again most [] v h = refl
  many_again [] (a ∷ xs) v h = absurd (omega (arith, h))
  many_again (m ∷ most) (a ∷ xs) v h =
      let first : p (further (map write (a ∷ xs))) ≡ Some (a, further (map write xs)) = ap p (regroup a xs) ∙ s.again a (further (map write xs)) v.0 (boundary_of (map write xs)) in
      ap (λ (o : Option (A × List ℕ)). o >>= λ b. many_within p most b.1 >>= λ others. Some (b.0 ∷ others)) first
      ∙ ap (λ (o : Option (List A)). o >>= λ others. Some (a ∷ others)) (many_again most xs v.1 (omega (arith, h)))

  many_takes : (most u : List ℕ) (xs : List A) → many_within p most u ≡ Some xs → (u ≡ further (map write xs)) × EachIs V xs
  many_takes most [] xs e = by xs (some_is [] xs e) where
    by : (xs : List A) → [] ≡ xs → ([] ≡ further (map write xs)) × EachIs V xs
    by xs q = subst (λ (xs : List A). ([] ≡ further (map write xs)) × EachIs V xs) q (refl, tt)
  many_takes [] (c ∷ u) xs e = absurd cc
  many_takes (m ∷ most) (c ∷ u) xs e =
      let f = bind_some (p (c ∷ u)) (λ a. many_within p most a.1 >>= λ others. Some (a.0 ∷ others)) xs e in
      let g = bind_some (many_within p most f.0.1) (λ others. Some (f.0.0 ∷ others)) xs f.2 in
      let first = s.takes (c ∷ u) f.0.0 f.0.1 f.1 in
      let others = many_takes most f.0.1 g.0 g.1 in
      let whole : c ∷ u ≡ further (map write (f.0.0 ∷ g.0)) = first.0 ∙ ap (λ r. further (write f.0.0 ∷ []) ++ r) others.0 ∙ sym (regroup f.0.0 g.0) in
      subst (λ (xs : List A). (c ∷ u ≡ further (map write xs)) × EachIs V xs) (some_is (f.0.0 ∷ g.0) xs g.2) (whole, (first.1, others.1))

  enough : (xs : List A) → length xs ≤ length (further (map write xs))
  enough [] = omega arith
  enough (a ∷ xs) =
      let more : length (write a ++ further (map write xs)) ≡ length (write a) + length (further (map write xs)) = length-append (write a) (further (map write xs)) in
      let others : length xs ≤ length (further (map write xs)) = enough xs in
      omega (arith, more, others)

  pub all_words : Rest (λ xs. map write xs) (EachIs V) (many p)
  all_words = record {
    again = λ xs v. many_again (further (map write xs)) xs v (enough xs);
    takes = λ u xs e. many_takes u u xs e;
  }

  -- one word or more
  pub some_words : Rest (λ (x : A × List A). map write (x.0 ∷ x.1)) (λ (x : A × List A). (V x.0 × EachIs V x.1)) (some p)
  some_words = follow_fields (λ a. write a ∷ []) V p (λ xs. map write xs) (EachIs V) (many p) s all_words

-- ---- words of a table

abbrev pub is_solid : List ℕ → Bool
is_solid w = list_all (λ c. not (nat_eq c 32)) w

bare_again : (w rest : List ℕ) → is_solid w ≡ true → is_boundary rest ≡ true → bare (w ++ rest) ≡ (w, rest)
bare_again [] [] h b = refl
bare_again [] (c ∷ s) h b = ap (λ t. if t then ([], c ∷ s) else before c (bare s)) b
bare_again (c ∷ w) rest h b =
    ap (λ t. if t then ([], c ∷ (w ++ rest)) else before c (bare (w ++ rest))) (no (nat_eq c 32) (and_first (not (nat_eq c 32)) (is_solid w) h))
    ∙ ap (before c) (bare_again w rest (and_second (not (nat_eq c 32)) (is_solid w) h) b) where
      no : (b : Bool) → not b ≡ true → b ≡ false
      no true h = absurd (cc)
      no false h = refl

bare_takes : (s : List ℕ) → s ≡ (bare s).0 ++ (bare s).1
bare_takes [] = refl
bare_takes (c ∷ s) = by (nat_eq c 32) (bare_takes s) where
  by : (b : Bool) → s ≡ (bare s).0 ++ (bare s).1 → c ∷ s ≡ (if b then ([], c ∷ s) else before c (bare s)).0 ++ (if b then ([], c ∷ s) else before c (bare s)).1
  by true e = refl
  by false e = ap (λ u. c ∷ u) e

-- each entry of a table is the word of its value, which is valid
abbrev pub AreWritten : {A : Type 0} → (A → List ℕ) → (A → Type 0) → List (List ℕ × A) → Type 0
AreWritten write V [] = Unit {0}
AreWritten write V (entry ∷ entries) = ((write entry.1 ≡ entry.0) × V entry.1) × AreWritten write V entries

chosen_takes : {A : Type 0} (write : A → List ℕ) (V : A → Type 0) (entries : List (List ℕ × A)) (w : List ℕ) (a : A) → AreWritten write V entries → chosen entries w ≡ Some a → (w ≡ write a) × V a
chosen_takes write V [] w a t e = absurd cc
chosen_takes {A} write V (entry ∷ entries) w a t e = by (pointwise nat_eq entry.0 w) refl (λ f. chosen_takes write V entries w a t.1 f) e where
  by : (b : Bool) → pointwise nat_eq entry.0 w ≡ b → (chosen entries w ≡ Some a → (w ≡ write a) × V a) → (if b then Some entry.1 else chosen entries w) ≡ Some a → (w ≡ write a) × V a
  by true q more e = subst (λ (x : A). (w ≡ write x) × V x) (some_is entry.1 a e) (sym (same_text entry.0 w (sym q)) ∙ sym t.0.0, t.0.1)
  by false q more e = more e

abbrev word_on : {A : Type 0} → List ℕ → A → Option (A × List ℕ)
word_on u a = Some (a, u)

pub table_word : {A : Type 0} (write : A → List ℕ) (V : A → Type 0) (entries : List (List ℕ × A)) → ((a : A) → V a → is_solid (write a) ≡ true) → ((a : A) → V a → chosen entries (write a) ≡ Some a) → AreWritten write V entries
    → Spelled write V (one_of entries)
table_word {A} write V entries solid found written = record { again = again; takes = takes } where
  again : (a : A) (rest : List ℕ) → V a → is_boundary rest ≡ true → one_of entries (write a ++ rest) ≡ Some (a, rest)
  again a rest v b =
      ap (λ (x : List ℕ × List ℕ). chosen entries x.0 >>= word_on x.1) (bare_again (write a) rest (solid a v) b)
      ∙ ap (λ (o : Option A). o >>= word_on rest) (found a v)

  takes : (s : List ℕ) (a : A) (rest : List ℕ) → one_of entries s ≡ Some (a, rest) → (s ≡ write a ++ rest) × V a
  takes s a rest e =
      let f = bind_some (chosen entries (bare s).0) (word_on (bare s).1) (a, rest) e in
      let made : A × List ℕ = (f.0, (bare s).1) in
      let w = chosen_takes write V entries (bare s).0 f.0 written f.1 in
      subst (λ (x : A × List ℕ). (s ≡ write x.0 ++ x.1) × V x.0) (some_is made (a, rest) f.2) (bare_takes s ∙ ap (λ u. u ++ (bare s).1) w.0, w.1)

-- ---- a word that says how the rest of the line is read

infixr 5 ◌&◌
-- what is known of the entries of a table, one after another
pub ◌&◌ : {A B : Type 0} → A → B → A × B
x & y = (x, y)

module _ {A : Type 0} (name : A → List ℕ) (details : A → List (List ℕ)) (V : A → Type 0) where
  -- what is read after a word has that name
  abbrev pub After : List ℕ → LineReader A → Type 0
  After w p = (u : List ℕ) (a : A) → p u ≡ Some a → (name a ≡ w) × (u ≡ further (details a)) × V a

  abbrev pub Leads : List (List ℕ × LineReader A) → Type 0
  Leads [] = Unit {0}
  Leads (entry ∷ entries) = After entry.0 entry.1 × Leads entries

  pub alone_after : (w : List ℕ) (a : A) → name a ≡ w → details a ≡ [] → V a → After w (alone a)
  alone_after w a n d v u b e =
      let q : (a, u) ≡ (b, []) = ended (a, u) b e in
      let same : a ≡ b = ap (λ (x : A × List ℕ). x.0) q in
      subst (λ (b : A). (name b ≡ w) × (u ≡ further (details b)) × V b) same (n, ap (λ (x : A × List ℕ). x.1) q ∙ sym (ap further d), v)

  pub made_after : {B : Type 0} (w : List ℕ) (ds : B → List (List ℕ)) (U : B → Type 0) (p : LineReader B) (f : B → A) → Rest ds U p → ((b : B) → name (f b) ≡ w) → ((b : B) → details (f b) ≡ ds b) → ((b : B) → U b → V (f b)) → After w (made f p)
  made_after {B} w ds U p f s n d v u a e =
      let h = bind_some (p u) (λ b. Some (f b)) a e in
      let k = s.takes u h.0 h.1 in
      subst (λ (a : A). (name a ≡ w) × (u ≡ further (details a)) × V a) (some_is (f h.0) a h.2) (n h.0, k.0 ∙ sym (ap further (d h.0)), v h.0 k.1)

  pub made_again : {B : Type 0} (ds : B → List (List ℕ)) (U : B → Type 0) (p : LineReader B) (f : B → A) → Rest ds U p → (b : B) → U b → made f p (further (ds b)) ≡ Some (f b)
  made_again {B} ds U p f s b v = ap (λ (o : Option B). o >>= λ b. Some (f b)) (s.again b v)

  -- the reader that stands for the name reads the rest
  abbrev pub Found : List (List ℕ × LineReader A) → Type 0
  Found entries = (a : A) → V a → (p : LineReader A) × (chosen entries (name a) ≡ Some p) × (p (further (details a)) ≡ Some a)

  chosen_after : (entries : List (List ℕ × LineReader A)) (w u : List ℕ) (p : LineReader A) (a : A) → Leads entries → chosen entries w ≡ Some p → p u ≡ Some a → (name a ≡ w) × (u ≡ further (details a)) × V a
  chosen_after [] w u p a l e g = absurd cc
  chosen_after (entry ∷ entries) w u p a l e g = by (pointwise nat_eq entry.0 w) refl (λ f. chosen_after entries w u p a l.1 f g) e where
    by : (b : Bool) → pointwise nat_eq entry.0 w ≡ b → (chosen entries w ≡ Some p → (name a ≡ w) × (u ≡ further (details a)) × V a) → (if b then Some entry.1 else chosen entries w) ≡ Some p → (name a ≡ w) × (u ≡ further (details a)) × V a
    by true q more e =
        let k = l.0 u a (ap (λ (r : LineReader A). r u) (some_is entry.1 p e) ∙ g) in
        (k.0 ∙ same_text entry.0 w (sym q), k.1, k.2)
    by false q more e = more e

  -- without the blank before the name
  abbrev of_word : List (List ℕ × LineReader A) → LineReader A
  of_word entries s = one_of entries s >>= λ p. p.0 p.1

  abbrev reader_on : List ℕ → LineReader A → Option (LineReader A × List ℕ)
  reader_on u p = Some (p, u)

  abbrev read_on : LineReader A × List ℕ → Option A
  read_on p = p.0 p.1

  named_again : (entries : List (List ℕ × LineReader A)) → ((a : A) → is_solid (name a) ≡ true) → Found entries → (a : A) → V a → of_word entries (name a ++ further (details a)) ≡ Some a
  named_again entries solid found a v =
      let f = found a v in
      ap (λ (x : List ℕ × List ℕ). (chosen entries x.0 >>= reader_on x.1) >>= read_on) (bare_again (name a) (further (details a)) (solid a) (boundary_of (details a)))
      ∙ ap (λ (o : Option (LineReader A)). (o >>= reader_on (further (details a))) >>= read_on) f.1
      ∙ f.2

  named_takes : (entries : List (List ℕ × LineReader A)) → Leads entries → (s : List ℕ) (a : A) → of_word entries s ≡ Some a → (s ≡ name a ++ further (details a)) × V a
  named_takes entries leads s a e =
      let f = bind_some (one_of entries s) read_on a e in
      let g = bind_some (chosen entries (bare s).0) (reader_on (bare s).1) f.0 f.1 in
      let made : LineReader A × List ℕ = (g.0, (bare s).1) in
      let read : g.0 (bare s).1 ≡ Some a = ap (λ (x : LineReader A × List ℕ). x.0 x.1) (some_is made f.0 g.2) ∙ f.2 in
      let k = chosen_after entries (bare s).0 (bare s).1 g.0 a leads g.1 read in
      (bare_takes s ∙ ap (λ w. w ++ (bare s).1) (sym k.0) ∙ ap (λ r. name a ++ r) k.1, k.2)

  pub first_word : (entries : List (List ℕ × LineReader A)) → ((a : A) → is_solid (name a) ≡ true) → Found entries → Leads entries → Written (λ a. spaced (name a ∷ details a)) V (of_word entries)
  first_word entries solid found leads = record { again = named_again entries solid found; takes = named_takes entries leads }

  pub next_word : (entries : List (List ℕ × LineReader A)) → ((a : A) → is_solid (name a) ≡ true) → Found entries → Leads entries → Rest (λ a. name a ∷ details a) V (by_word entries)
  next_word entries solid found leads = record { again = again; takes = takes } where
    again : (a : A) → V a → by_word entries (further (name a ∷ details a)) ≡ Some a
    again a v = named_again entries solid found a v

    takes : (s : List ℕ) (a : A) → by_word entries s ≡ Some a → (s ≡ further (name a ∷ details a)) × V a
    takes s a e =
        let f = bind_some (word (one_of entries) s) read_on a e in
        let g = bind_some (after (32 ∷ []) s) (one_of entries) f.0 f.1 in
        let k = named_takes entries leads g.0 a (ap (λ (o : Option (LineReader A × List ℕ)). o >>= read_on) g.2 ∙ f.2) in
        (after_takes (32 ∷ []) s g.0 g.1 ∙ ap (λ u. 32 ∷ u) k.0, k.1)
