-- The reader of each kind of part is exact, where the readers of its parts are.
use Rattle.std.proofs.Common.{◌≡◌, ◌⊎◌, inl, inr, ℕ, zero, suc, ◌≤◌, ◌<◌, Bool, true, false, cond, List, [], ◌∷◌, ◌++◌, length, Some, None, Ok, Err, refl, sym, ap, subst, ◌∙◌, arith}
use Rattle.std.proofs.lemmas.List.{append-nil, length-append}
use Rattle.psm_grammar.specs.Language.{Words, toks, Lang, has, Test, Token, Nothing, Seq, Many}
use Rattle.psm_grammar.specs.Readers.{Wrong, TooDeep, Reader, and_then, starts, one, repeat, opened, followed}
use Rattle.psm_grammar.specs.Exact.{head, Next}
use Rattle.psm_grammar.proofs.Alike.{Alike, some_same}
use Rattle.psm_grammar.proofs.KindLists.{true_false}
use Rattle.psm_grammar.proofs.Some.{Word, Begun}
use Rattle.psm_grammar.proofs.Runs.{Run, Done, Opens, Whatever, Never, Reads, reads_begun, reads_seq}

module _ {T A : Type 0} (kind : T → ℕ) (test : Test T A) (d : ℕ) (F : List T → Type 0) (limit : ℕ) (known : has (kind test.example) test.kinds ≡ true) where
  token_first : (w : Words T) (x : A) (k : List T) (l : Token kind test d w x) → head (toks w ++ k) ≡ Some l.at
  token_first w x k l = ap (λ u. head (toks u ++ k)) l.whole

  -- a token of the kinds
  pub token_read : (t : T) (ts : List T) → d ≤ limit → has (kind t) test.kinds ≡ true → Run (Token kind test d) F limit (t ∷ ts) ts (Done (test.value t)) (Done (test.value t)) (Done (test.value t))
  token_read t ts low h = record {
    front = (t, d) ∷ [];
    more = [];
    value = test.value t;
    parts = refl;
    begins = record { at = t; whole = refl; known = h; made = refl };
    so = (refl, refl);
    low = (low, tt);
    alike = λ w x k l n. subst (λ (u : Words T). Alike (λ m. Done (test.value t) m x) (λ m. Done (test.value t) m x) ((t, d) ∷ []) ts u k) (sym l.whole)
        (λ e. (refl, (λ f. (refl, l.made ∙ ap test.value e), λ f. (refl, l.made ∙ ap test.value e))));
  }

  -- no token of the kinds
  pub token_wrong : (ts : List T) → starts kind test.kinds ts ≡ false → Run (Token kind test d) F limit ts ts Whatever Never Never
  token_wrong ts h = record {
    front = [];
    more = (test.example, d) ∷ [];
    value = test.value test.example;
    parts = refl;
    begins = record { at = test.example; whole = refl; known = known; made = refl };
    so = tt;
    low = tt;
    alike = λ w x k l n. (λ e. refused ts h w x k l (sym (token_first w x k l) ∙ e), λ e. let f = sym (token_first w x k l) ∙ e in cc f);
  }
    where
      refused : (ts : List T) → starts kind test.kinds ts ≡ false → (w : Words T) (x : A) (k : List T) (l : Token kind test d w x) → Some l.at ≡ head ts → ⊥
      refused [] h w x k l e = cc e
      refused (t ∷ ts) h w x k l e = true_false (has (kind l.at) test.kinds) l.known (ap (λ s. has (kind s) test.kinds) (some_same l.at t e) ∙ h)

  pub reads_token : (ts : List T) → d ≤ limit → Reads (Token kind test d) F limit ts (one kind test ts)
  reads_token [] low = token_wrong [] refl
  reads_token (t ∷ ts) low = by (has (kind t) test.kinds) refl
    where
      by : (b : Bool) → has (kind t) test.kinds ≡ b → Reads (Token kind test d) F limit (t ∷ ts) (cond b (Ok (test.value t, ts)) (Err (Wrong (t ∷ ts))))
      by true h = token_read t ts low h
      by false h = token_wrong (t ∷ ts) h

-- ---- a token, and then a nonterminal

module _ {T A Y Z : Type 0} (kind : T → ℕ) (test : Test T A) (f : A → Y → Z) (inner : Lang T Y) (word : Word inner)
    (e : ℕ) (F : List T → Type 0) (limit : ℕ) (known : has (kind test.example) test.kinds ≡ true) where
  abbrev L : Lang T Z
  L w x = Seq f (Token kind test (e)) inner w x

  opens_first : (w : Words T) (x : Z) (l : L w x) → w ≡ (l.left.at, e) ∷ l.back
  opens_first w x l = l.whole ∙ ap (λ u. u ++ l.back) l.left.whole

  level_wrong : (ts : List T) → starts kind test.kinds ts ≡ false → Run L F limit ts ts Whatever Never Never
  level_wrong ts h = record {
    front = [];
    more = (test.example, e) ∷ word.0;
    value = f (test.value test.example) word.1;
    parts = refl;
    begins = record {
      front = (test.example, e) ∷ [];
      back = word.0;
      one = test.value test.example;
      two = word.1;
      whole = refl;
      left = record { at = test.example; whole = refl; known = known; made = refl };
      right = word.2;
      made = refl;
    };
    so = tt;
    low = tt;
    alike = λ w x k l n.
        let first : head (toks w ++ k) ≡ Some l.left.at = ap (λ u. head (toks u ++ k)) (opens_first w x l) in
        (λ e. refused ts h w x k l (sym first ∙ e), λ e. let f = sym first ∙ e in cc f);
  }
    where
      refused : (ts : List T) → starts kind test.kinds ts ≡ false → (w : Words T) (x : Z) (k : List T) (l : L w x) → Some l.left.at ≡ head ts → ⊥
      refused [] h w x k l e = cc e
      refused (t ∷ ts) h w x k l e = true_false (has (kind l.left.at) test.kinds) l.left.known (ap (λ s. has (kind s) test.kinds) (some_same l.left.at t e) ∙ h)

  level_deep : (t : T) (ts : List T) → e ≡ suc limit → has (kind t) test.kinds ≡ true
      → Run L F limit (t ∷ ts) (t ∷ ts) (λ m x. Opens limit (t ∷ ts) m) (λ m x. Opens limit (t ∷ ts) m) Whatever
  level_deep t ts top h = record {
    front = [];
    more = (t, e) ∷ word.0;
    value = f (test.value t) word.1;
    parts = refl;
    begins = record {
      front = (t, e) ∷ [];
      back = word.0;
      one = test.value t;
      two = word.1;
      whole = refl;
      left = record { at = t; whole = refl; known = h; made = refl };
      right = word.2;
      made = refl;
    };
    so = ap (λ n. (t, n)) top;
    low = tt;
    alike = λ w x k l n. (
      subst (λ (u : Words T). head (toks u ++ k) ≡ Some t → Opens limit (t ∷ ts) u) (sym (opens_first w x l))
          (λ e. let same : l.left.at ≡ t = some_same l.left.at t e in λ i. (same i, top i)),
      λ e. tt,
    );
  }

  pub reads_over : (t : T) (ts : List T) → e ≡ suc limit → (b : Bool) → has (kind t) test.kinds ≡ b → Reads L F limit (t ∷ ts) (cond b (Err (TooDeep (t ∷ ts))) (Err (Wrong (t ∷ ts))))
  reads_over t ts top true h = level_deep t ts top h
  reads_over t ts top false h = level_wrong (t ∷ ts) h

  pub reads_deeper : (q : Reader T Y) (t : T) (ts : List T) → e ≤ limit → Reads inner F limit ts (q ts) → (b : Bool) → has (kind t) test.kinds ≡ b
      → Reads L F limit (t ∷ ts) (cond b (and_then (q ts) (λ y end. Ok (f (test.value t) y, end))) (Err (Wrong (t ∷ ts))))
  reads_deeper q t ts low h true b = reads_seq (Token kind test e) (λ k. Unit {0}) limit f (λ w y k l g. tt) (t ∷ ts) (Ok (test.value t, ts)) q
      (token_read kind test e (λ k. Unit {0}) limit known t ts low b) word (λ u x rest s l. subst (λ r. Reads inner F limit r (q r)) (same_rest u rest x s l) h)
    where
      same_rest : (u : Words T) (rest : List T) (x : A) → t ∷ ts ≡ toks u ++ rest → Token kind test e u x → ts ≡ rest
      same_rest u rest x s l = let a = s ∙ ap (λ (v : Words T). toks v ++ rest) l.whole in cc a
  reads_deeper q t ts low h false b = level_wrong (t ∷ ts) b

pub reads_opened : {T N A Z : Type 0} {V : N → Type 0} (kind : T → ℕ) (test : Test T A) (n : N) (f : A → V n → Z) (inner : Lang T (V n)) (word : Word inner)
    (d : ℕ) (F : List T → Type 0) (limit : ℕ) (known : has (kind test.example) test.kinds ≡ true) (readers : (m : N) → Reader T (V m)) (ts : List T)
    → suc d ≤ limit → ((rest : List T) → Reads inner F limit rest (readers n rest)) → Reads (Seq f (Token kind test (suc d)) inner) F limit ts (opened kind test n f (Some readers) ts)
reads_opened kind test n f inner word d F limit known readers [] low h = level_wrong kind test f inner word (suc d) F limit known [] refl
reads_opened kind test n f inner word d F limit known readers (t ∷ ts) low h = reads_deeper kind test f inner word (suc d) F limit known (readers n) t ts low (h ts) (has (kind t) test.kinds) refl

pub reads_deep : {T N A Z : Type 0} (V : N → Type 0) (kind : T → ℕ) (test : Test T A) (n : N) (f : A → V n → Z) (inner : Lang T (V n)) (word : Word inner)
    (d : ℕ) (F : List T → Type 0) (limit : ℕ) (known : has (kind test.example) test.kinds ≡ true) (ts : List T)
    → d ≡ limit → Reads (Seq f (Token kind test (suc d)) inner) F limit ts (opened {V = V} kind test n f None ts)
reads_deep V kind test n f inner word d F limit known [] top = level_wrong kind test f inner word (suc d) F limit known [] refl
reads_deep V kind test n f inner word d F limit known (t ∷ ts) top = reads_over kind test f inner word (suc d) F limit known t ts (ap suc top) (has (kind t) test.kinds) refl

pub reads_followed : {T A Y Z : Type 0} (kind : T → ℕ) (test : Test T A) (f : A → Y → Z) (same : Lang T Y) (word : Word same)
    (d : ℕ) (F : List T → Type 0) (limit : ℕ) (known : has (kind test.example) test.kinds ≡ true) (q : Reader T Y) (ts : List T)
    → d ≤ limit → ((rest : List T) → length rest < length ts → Reads same F limit rest (q rest)) → Reads (Seq f (Token kind test d) same) F limit ts (followed kind test f q ts)
reads_followed kind test f same word d F limit known q [] low h = level_wrong kind test f same word d F limit known [] refl
reads_followed kind test f same word d F limit known q (t ∷ ts) low h = reads_deeper kind test f same word d F limit known q t ts low (h ts (omega arith)) (has (kind t) test.kinds) refl

-- ---- no token

pub reads_nothing : {T X : Type 0} (x : X) (F : List T → Type 0) (limit : ℕ) (ts : List T) → Reads (Nothing x) F limit ts (Ok (x, ts))
reads_nothing x F limit ts = record {
  front = [];
  more = [];
  value = x;
  parts = refl;
  begins = record { whole = refl; made = refl };
  so = (refl, refl);
  low = tt;
  alike = λ w z k l n. (λ e. (l.whole, l.made), λ e. (l.whole, l.made));
}

-- ---- again and again

module _ {T X : Type 0} (kind : T → ℕ) (first follow : List ℕ) (L : Lang T X) (limit : ℕ) (p : Reader T X)
    (some : (w : Words T) (x : X) → L w x → 1 ≤ length w)
    (begins : (t : T × ℕ) (w : Words T) (x : X) → L (t ∷ w) x → has (kind t.0) first ≡ true)
    (begun : (t : T) → has (kind t) first ≡ true → Begun t L)
    (stops : (n : ℕ) → has n first ≡ true → has n follow ≡ false)
    (following : (w : Words T) (xs : List X) (k : List T) → Many L w xs → Next kind follow k → Next kind (first ++ follow) (toks w ++ k))
    (most : ℕ) (exact : (ts : List T) → length ts ≤ most → Reads L (Next kind (first ++ follow)) limit ts (p ts)) where
  many_end : (ts : List T) → starts kind first ts ≡ false → Reads (Many L) (Next kind follow) limit ts (Ok ([], ts))
  many_end ts h = record {
    front = [];
    more = [];
    value = [];
    parts = refl;
    begins = refl;
    so = (refl, refl);
    low = tt;
    alike = λ w xs k l n. (λ e. by w xs k l (inl e), λ e. by w xs k l (inr e));
  }
    where
      refused : (ts : List T) → starts kind first ts ≡ false → (t : T × ℕ) → has (kind t.0) first ≡ true → Some t.0 ≡ head ts → ⊥
      refused [] h t b e = cc e
      refused (s ∷ ts) h t b e = true_false (has (kind t.0) first) b (ap (λ u. has (kind u) first) (some_same t.0 s e) ∙ h)

      item : (u v : Words T) (x : X) (k : List T) → L u x → (head (toks (u ++ v) ++ k) ≡ head ts) ⊎ (head (toks (u ++ v) ++ k) ≡ None) → ⊥
      item [] v x k l e = let one = some [] x l in omega (arith, one)
      item (t ∷ u) v x k l (inl e) = refused ts h t (begins t u x l) e
      item (t ∷ u) v x k l (inr e) = cc e

      by : (w : Words T) (xs : List X) (k : List T) → Many L w xs → (head (toks w ++ k) ≡ head ts) ⊎ (head (toks w ++ k) ≡ None) → Done [] w xs
      by w [] k l e = (l, refl)
      by w (x ∷ xs) k l e = absurd (item l.0 l.1 x k l.3 (subst (λ (u : Words T). (head (toks u ++ k) ≡ head ts) ⊎ (head (toks u ++ k) ≡ None)) l.2 e))

  abbrev cons : X → List X → List X
  cons x xs = x ∷ xs

  into : (w : Words T) (xs : List X) → Seq cons L (Many L) w xs → Many L w xs
  into w xs l = subst (Many L w) (sym l.made) (l.front, l.back, l.whole, l.left, l.right)

  others : (t : T) → has (kind t) first ≡ true → (w : Words T) (xs : List X) (k : List T) → Many L w xs → Next kind follow k → head (toks w ++ k) ≡ Some t → Seq cons L (Many L) w xs
  others t h w (x ∷ xs) k l n e = record { front = l.0; back = l.1; one = x; two = xs; whole = l.2; left = l.3; right = l.4; made = refl }
  others t h w [] k l n e = absurd (by k n (ap (λ (u : Words T). head (toks u ++ k)) (sym l) ∙ e))
    where
      by : (k : List T) → Next kind follow k → head k ≡ Some t → ⊥
      by [] n e = cc e
      by (s ∷ k) n e = true_false (has (kind s) follow) n (stops (kind s) (ap (λ u. has (kind u) first) (some_same s t e) ∙ h))

  seq_begun : (t : T) → Begun t L → Begun t (λ w xs. Seq cons L (Many L) w xs)
  seq_begun t b = (b.0, b.1, b.2 ∷ [], record { front = (t, b.0) ∷ b.1; back = []; one = b.2; two = []; whole = sym (append-nil ((t, b.0) ∷ b.1)); left = b.3; right = refl; made = refl })

  shorter : (ts : List T) (u : Words T) (rest : List T) → ts ≡ toks u ++ rest → 1 ≤ length u → length rest < length ts
  shorter ts [] rest e b = absurd (omega (arith, b))
  shorter ts (x ∷ u) rest e b = omega (arith, ap length e, length-append (toks u) rest)

  many_more : (n : ℕ) (t : T) (ts : List T) → length (t ∷ ts) ≤ most → has (kind t) first ≡ true
      → ((rest : List T) → length rest < length (t ∷ ts) → Reads (Many L) (Next kind follow) limit rest (repeat kind first p n rest))
      → Reads (Many L) (Next kind follow) limit (t ∷ ts) (and_then (p (t ∷ ts)) (λ x rest. and_then (repeat kind first p n rest) (λ xs end. Ok (x ∷ xs, end))))
  many_more n t ts short e again = reads_begun (λ w xs. Seq cons L (Many L) w xs) (Next kind follow) limit (Many L) t ts
      (and_then (p (t ∷ ts)) (λ x rest. and_then (repeat kind first p n rest) (λ xs end. Ok (x ∷ xs, end))))
      (seq_begun t (begun t e)) tt
      (reads_seq L (Next kind (first ++ follow)) limit cons following (t ∷ ts) (p (t ∷ ts)) (repeat kind first p n) (exact (t ∷ ts) short) ([], [], refl)
      (λ u x rest s l. again rest (shorter (t ∷ ts) u rest s (some u x l))))
      into (others t e)

  pub reads_many : (n : ℕ) (ts : List T) → length ts ≤ n → length ts ≤ most → Reads (Many L) (Next kind follow) limit ts (repeat kind first p n ts)
  reads_many zero [] h short = many_end [] refl
  reads_many zero (t ∷ ts) h short = absurd (omega (arith, h))
  reads_many (suc n) [] h short = many_end [] refl
  reads_many (suc n) (t ∷ ts) h short = by (has (kind t) first) refl (λ rest less. reads_many n rest (omega (arith, less, h)) (omega (arith, less, short)))
    where
      by : (b : Bool) → has (kind t) first ≡ b → ((rest : List T) → length rest < length (t ∷ ts) → Reads (Many L) (Next kind follow) limit rest (repeat kind first p n rest))
          → Reads (Many L) (Next kind follow) limit (t ∷ ts)
          (cond b (and_then (p (t ∷ ts)) (λ x rest. and_then (repeat kind first p n rest) (λ xs end. Ok (x ∷ xs, end)))) (Ok ([], t ∷ ts)))
      by false e again = many_end (t ∷ ts) e
      by true e again = many_more n t ts short e again
