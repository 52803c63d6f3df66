-- The run of a language over tokens, and the runs of languages that are made of others.
use Rattle.std.proofs.Common.{◌≡◌, ◌⊎◌, inl, inr, ℕ, suc, List, [], ◌∷◌, ◌++◌, Some, None, Ok, Err, refl, sym, ap, subst, ◌∙◌, append_assoc}
use Rattle.std.proofs.lemmas.List.{append-nil}
use Rattle.psm_grammar.specs.Language.{Words, toks, Lang, Seq, Image}
use Rattle.psm_grammar.specs.Readers.{Wrong, TooDeep, Out, Reader, and_then}
use Rattle.psm_grammar.specs.Exact.{head, Low}
use Rattle.psm_grammar.proofs.Alike.{Alike, toks_after, guarded, alike_map, alike_left, alike_both}
use Rattle.psm_grammar.proofs.Some.{Word, Begun}

-- ts is begun as a word of L up to rest. What is left of that word is as B says, and what is left of each
-- word of L that goes on as rest does is as E says, and of each that ends there as R says.
pub record Run {T X : Type 0} (L : Lang T X) (F : List T → Type 0) (limit : ℕ) (ts rest : List T) (B E R : Words T → X → Type 0) : Type 0 where
  pub front : Words T
  pub more : Words T
  pub value : X
  pub parts : ts ≡ toks front ++ rest
  pub begins : L (front ++ more) value
  pub so : B more value
  pub low : Low limit front
  pub alike : (w : Words T) (x : X) (k : List T) → L w x → F k → Alike (λ m. E m x) (λ m. R m x) front rest w k

-- nothing is left, and the value is known
abbrev pub Done : {T X : Type 0} → X → Words T → X → Type 0
Done x m y = (m ≡ []) × (y ≡ x)

-- the next token is the first of ts, and opens the level above the limit
abbrev pub Opens : {T : Type 0} → ℕ → List T → Words T → Type 0
Opens limit [] m = ⊥
Opens limit (t ∷ ts) [] = ⊥
Opens limit (t ∷ ts) (x ∷ m) = x ≡ (t, suc limit)

abbrev pub Whatever : {T X : Type 0} → Words T → X → Type 0
Whatever m x = Unit {0}

abbrev pub Never : {T X : Type 0} → Words T → X → Type 0
Never m x = ⊥

-- an answer is exact
abbrev pub Reads : {T X : Type 0} → Lang T X → (List T → Type 0) → ℕ → List T → Out T X → Type 0
Reads L F limit ts (Ok r) = Run L F limit ts r.1 (Done r.0) (Done r.0) (Done r.0)
Reads L F limit ts (Err (Wrong rest)) = Run L F limit ts rest Whatever Never Never
Reads L F limit ts (Err (TooDeep rest)) = Run L F limit ts rest (λ m x. Opens limit rest m) (λ m x. Opens limit rest m) Whatever

pub opens_more : {T : Type 0} (limit : ℕ) (ts : List T) (m v : Words T) → Opens limit ts m → Opens limit ts (m ++ v)
opens_more limit [] m v h = absurd h
opens_more limit (t ∷ ts) [] v h = absurd h
opens_more limit (t ∷ ts) (x ∷ m) v h = h

pub low_append : {T : Type 0} (limit : ℕ) (u v : Words T) → Low limit u → Low limit v → Low limit (u ++ v)
low_append limit [] v h k = k
low_append limit (x ∷ u) v h k = (h.0, low_append limit u v h.1 k)

module _ {T X : Type 0} {L : Lang T X} {F : List T → Type 0} {limit : ℕ} {ts rest : List T} where
  -- what was read whole
  pub spelled : {x : X} (r : Run L F limit ts rest (Done x) (Done x) (Done x)) → L r.front x
  spelled {x} r =
      let whole : r.front ++ r.more ≡ r.front = ap (λ m. r.front ++ m) r.so.0 ∙ append-nil r.front in
      subst (λ y. L r.front y) r.so.1 (subst (λ w. L w r.value) whole r.begins)

  -- another language with the words that matter here
  pub run_in : {B E R : Words T → X → Type 0} {K : Lang T X} (r : Run L F limit ts rest B E R) → ((w : Words T) (x : X) → L w x → K w x)
      → ((w : Words T) (x : X) (k : List T) → K w x → F k → head (toks w ++ k) ≡ head ts → L w x)
      → ((w : Words T) (x : X) (k : List T) → r.front ≡ [] → K w x → F k → head (toks w ++ k) ≡ None → R w x) → Run K F limit ts rest B E R
  run_in {E} {R} r into others ends = record {
    front = r.front;
    more = r.more;
    value = r.value;
    parts = r.parts;
    begins = into (r.front ++ r.more) r.value r.begins;
    so = r.so;
    low = r.low;
    alike = λ w x k l n. guarded (λ m. E m x) (λ m. R m x) r.front rest w k (λ e. r.alike w x k (others w x k l n (e ∙ sym (ap head r.parts))) n) (λ none e. ends w x k none l n e);
  }

  -- a word that ends where nothing was read
  pub run_ends : {B E R : Words T → X → Type 0} (r : Run L F limit ts rest B E R) (w : Words T) (x : X) (k : List T) → r.front ≡ [] → L w x → F k → head (toks w ++ k) ≡ None → R w x
  run_ends {E} {R} r w x k none l n e = by r.front none (r.alike w x k l n)
    where
      by : (front : Words T) → front ≡ [] → Alike (λ m. E m x) (λ m. R m x) front rest w k → R w x
      by [] none a = a.1 e
      by (f ∷ front) none a = absurd (cc none)

  -- less may follow
  pub run_before : {B E R : Words T → X → Type 0} {G : List T → Type 0} → Run L F limit ts rest B E R → ((k : List T) → G k → F k) → Run L G limit ts rest B E R
  run_before r less = record {
    front = r.front;
    more = r.more;
    value = r.value;
    parts = r.parts;
    begins = r.begins;
    so = r.so;
    low = r.low;
    alike = λ w x k l n. r.alike w x k l (less k n);
  }

  pub run_image : {Y : Type 0} {B E R : Words T → X → Type 0} {C D S : Words T → Y → Type 0} (f : X → Y) → Run L F limit ts rest B E R
      → ((m : Words T) (x : X) → B m x → C m (f x)) → ((m : Words T) (x : X) → E m x → D m (f x)) → ((m : Words T) (x : X) → R m x → S m (f x)) → Run (Image f L) F limit ts rest C D S
  run_image {E} {R} {D} {S} f r c d s = record {
    front = r.front;
    more = r.more;
    value = f r.value;
    parts = r.parts;
    begins = record { one = r.value; left = r.begins; made = refl };
    so = c r.more r.value r.so;
    low = r.low;
    alike = λ w z k l n. alike_map (λ m. E m l.one) (λ m. R m l.one) (λ m. D m z) (λ m. S m z) r.front rest w k
        (λ m e. subst (D m) (sym l.made) (d m l.one e)) (λ m e. subst (S m) (sym l.made) (s m l.one e)) (r.alike w l.one k l.left n);
  }

  -- the first of two parts stopped
  pub run_left : {Y Z : Type 0} {K : Lang T Y} {G : List T → Type 0} {B E R : Words T → X → Type 0} {C D S : Words T → Z → Type 0} (f : X → Y → Z)
      → Run L F limit ts rest B E R → ((w : Words T) (y : Y) (k : List T) → K w y → G k → F (toks w ++ k)) → Word K
      → ((m v : Words T) (x : X) (y : Y) → B m x → C (m ++ v) (f x y)) → ((m v : Words T) (x : X) (y : Y) → E m x → D (m ++ v) (f x y))
      → ((m v : Words T) (x : X) (y : Y) → R m x → S (m ++ v) (f x y)) → Run (Seq f L K) G limit ts rest C D S
  run_left {E} {R} {D} {S} f r follow word c d s = record {
    front = r.front;
    more = r.more ++ word.0;
    value = f r.value word.1;
    parts = r.parts;
    begins = record { front = r.front ++ r.more; back = word.0; one = r.value; two = word.1; whole = sym (append_assoc r.front r.more word.0); left = r.begins; right = word.2; made = refl };
    so = c r.more word.0 r.value word.1 r.so;
    low = r.low;
    alike = λ w z k l n.
        let both = alike_left (λ m. E m l.one) (λ m. R m l.one) (λ m. D m z) (λ m. S m z) r.front rest l.front l.back k
        (λ m e. subst (D (m ++ l.back)) (sym l.made) (d m l.back l.one l.two e)) (λ m e. subst (S (m ++ l.back)) (sym l.made) (s m l.back l.one l.two e))
        (r.alike l.front l.one (toks l.back ++ k) l.left (follow l.back l.two k l.right n)) in
        subst (λ (u : Words T). Alike (λ m. D m z) (λ m. S m z) r.front rest u k) (sym l.whole) both;
  }

  -- the first of two parts was read
  pub run_both : {Y Z : Type 0} {K : Lang T Y} {G : List T → Type 0} {x : X} {end : List T} {B E R : Words T → Y → Type 0} {C D S : Words T → Z → Type 0} (f : X → Y → Z)
      → Run L F limit ts rest (Done x) (Done x) (Done x) → Run K G limit rest end B E R → ((w : Words T) (y : Y) (k : List T) → K w y → G k → F (toks w ++ k))
      → ((m : Words T) (y : Y) → B m y → C m (f x y)) → ((m : Words T) (y : Y) → E m y → D m (f x y)) → ((m : Words T) (y : Y) → R m y → S m (f x y))
      → Run (Seq f L K) G limit ts end C D S
  run_both {x} {end} {E} {R} {D} {S} f r s follow c d g = record {
    front = r.front ++ s.front;
    more = s.more;
    value = f x s.value;
    parts = r.parts ∙ ap (λ k. toks r.front ++ k) s.parts ∙ sym (toks_after r.front s.front end);
    begins = record { front = r.front; back = s.front ++ s.more; one = x; two = s.value; whole = append_assoc r.front s.front s.more; left = spelled r; right = s.begins; made = refl };
    so = c s.more s.value s.so;
    low = low_append limit r.front s.front r.low s.low;
    alike = λ w z k l n.
        let first = subst (λ k'. Alike (λ m. (m ≡ []) × (l.one ≡ x)) (λ m. (m ≡ []) × (l.one ≡ x)) r.front k' l.front (toks l.back ++ k)) s.parts
        (r.alike l.front l.one (toks l.back ++ k) l.left (follow l.back l.two k l.right n)) in
        let value : l.one ≡ x → z ≡ f x l.two = (λ same. l.made ∙ ap (λ o. f o l.two) same) in
        let second : l.one ≡ x → Alike (λ m. D m z) (λ m. S m z) s.front end l.back k =
        (λ same. alike_map (λ m. E m l.two) (λ m. R m l.two) (λ m. D m z) (λ m. S m z) s.front end l.back k
        (λ m e. subst (D m) (sym (value same)) (d m l.two e)) (λ m e. subst (S m) (sym (value same)) (g m l.two e)) (s.alike l.back l.two k l.right n)) in
        subst (λ (u : Words T). Alike (λ m. D m z) (λ m. S m z) (r.front ++ s.front) end u k) (sym l.whole)
        (alike_both (λ m. D m z) (λ m. S m z) (l.one ≡ x) r.front s.front end l.front l.back k first second);
  }

-- ---- answers

module _ {T X : Type 0} (L : Lang T X) (F : List T → Type 0) (limit : ℕ) where
  pub reads_in : (K : Lang T X) (ts : List T) (o : Out T X) → Reads L F limit ts o → ((w : Words T) (x : X) → L w x → K w x)
      → ((w : Words T) (x : X) (k : List T) → K w x → F k → (head (toks w ++ k) ≡ head ts) ⊎ (head (toks w ++ k) ≡ None) → L w x) → Reads K F limit ts o
  reads_in K ts (Ok r) h into others = run_in h into (λ w x k l n e. others w x k l n (inl e)) (λ w x k none l n e. run_ends h w x k none (others w x k l n (inr e)) n e)
  reads_in K ts (Err (Wrong rest)) h into others = run_in h into (λ w x k l n e. others w x k l n (inl e)) (λ w x k none l n e. run_ends h w x k none (others w x k l n (inr e)) n e)
  reads_in K ts (Err (TooDeep rest)) h into others = run_in h into (λ w x k l n e. others w x k l n (inl e)) (λ w x k none l n e. tt)

  -- where a word begins with the first token, something is read
  moved : {rest : List T} {B E R : Words T → X → Type 0} (t : T) (ts : List T) → Begun t L → F [] → ((x : T × ℕ) (m : Words T) (y : X) → E (x ∷ m) y → ⊥)
      → (r : Run L F limit (t ∷ ts) rest B E R) → r.front ≡ [] → ⊥
  moved {rest} {B} {E} {R} t ts b end away r none = by r.front none r.parts (r.alike ((t, b.0) ∷ b.1) b.2 [] b.3 end)
    where
      by : (front : Words T) → front ≡ [] → t ∷ ts ≡ toks front ++ rest → Alike (λ m. E m b.2) (λ m. R m b.2) front rest ((t, b.0) ∷ b.1) [] → ⊥
      by [] none p a = away (t, b.0) b.1 b.2 (a.0 (ap head p))
      by (f ∷ front) none p a = cc none

  -- the same, where a word of L begins with the first token
  pub reads_begun : (K : Lang T X) (t : T) (ts : List T) (o : Out T X) → Begun t L → F [] → Reads L F limit (t ∷ ts) o → ((w : Words T) (x : X) → L w x → K w x)
      → ((w : Words T) (x : X) (k : List T) → K w x → F k → head (toks w ++ k) ≡ Some t → L w x) → Reads K F limit (t ∷ ts) o
  reads_begun K t ts (Ok r) b end h into others = run_in h into others (λ w x k none l n e. absurd (moved t ts b end (λ y m z d. cc (d.0)) h none))
  reads_begun K t ts (Err (Wrong rest)) b end h into others = run_in h into others (λ w x k none l n e. absurd (moved t ts b end (λ y m z d. d) h none))
  reads_begun K t ts (Err (TooDeep rest)) b end h into others = run_in h into others (λ w x k none l n e. tt)

  pub reads_before : (G : List T → Type 0) (ts : List T) (o : Out T X) → Reads L F limit ts o → ((k : List T) → G k → F k) → Reads L G limit ts o
  reads_before G ts (Ok r) h less = run_before h less
  reads_before G ts (Err (Wrong rest)) h less = run_before h less
  reads_before G ts (Err (TooDeep rest)) h less = run_before h less

  pub reads_image : {Y : Type 0} (f : X → Y) (ts : List T) (o : Out T X) → Reads L F limit ts o → Reads (Image f L) F limit ts (and_then o (λ x rest. Ok (f x, rest)))
  reads_image f ts (Ok r) h = run_image f h (λ m x e. (e.0, ap f e.1)) (λ m x e. (e.0, ap f e.1)) (λ m x e. (e.0, ap f e.1))
  reads_image f ts (Err (Wrong rest)) h = run_image f h (λ m x e. tt) (λ m x e. e) (λ m x e. e)
  reads_image f ts (Err (TooDeep rest)) h = run_image f h (λ m x e. e) (λ m x e. e) (λ m x e. tt)

  module _ {Y Z : Type 0} {K : Lang T Y} {G : List T → Type 0} (f : X → Y → Z) (follow : (w : Words T) (y : Y) (k : List T) → K w y → G k → F (toks w ++ k)) where
    reads_both : (ts : List T) (x : X) (rest : List T) (o : Out T Y) → Run L F limit ts rest (Done x) (Done x) (Done x) → Reads K G limit rest o
        → Reads (Seq f L K) G limit ts (and_then o (λ y end. Ok (f x y, end)))
    reads_both ts x rest (Ok r) h s = run_both f h s follow (λ m y e. (e.0, ap (f x) e.1)) (λ m y e. (e.0, ap (f x) e.1)) (λ m y e. (e.0, ap (f x) e.1))
    reads_both ts x rest (Err (Wrong end)) h s = run_both f h s follow (λ m y e. tt) (λ m y e. e) (λ m y e. e)
    reads_both ts x rest (Err (TooDeep end)) h s = run_both f h s follow (λ m y e. e) (λ m y e. e) (λ m y e. tt)

    pub reads_seq : (ts : List T) (o : Out T X) (q : Reader T Y) → Reads L F limit ts o → Word K
        → ((u : Words T) (x : X) (rest : List T) → ts ≡ toks u ++ rest → L u x → Reads K G limit rest (q rest))
        → Reads (Seq f L K) G limit ts (and_then o (λ x rest. and_then (q rest) (λ y end. Ok (f x y, end))))
    reads_seq ts (Ok r) q h word s = reads_both ts r.0 r.1 (q r.1) h (s h.front r.0 r.1 h.parts (spelled h))
    reads_seq ts (Err (Wrong rest)) q h word s = run_left f h follow word (λ m v x y e. tt) (λ m v x y e. e) (λ m v x y e. e)
    reads_seq ts (Err (TooDeep rest)) q h word s = run_left f h follow word (λ m v x y e. opens_more limit rest m v e) (λ m v x y e. opens_more limit rest m v e) (λ m v x y e. tt)
