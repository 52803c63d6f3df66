-- There is one exact answer.
use Rattle.std.proofs.Common.{◌≡◌, ◌⊎◌, inl, inr, ℕ, suc, ◌≤◌, List, [], ◌∷◌, ◌++◌, Some, Ok, Err, refl, sym, ap, subst, ◌∙◌, append_assoc, arith}
use Rattle.std.proofs.lemmas.List.{append-nil}
use Rattle.psm_grammar.specs.Language.{Words, toks, Lang}
use Rattle.psm_grammar.specs.Readers.{Wrong, TooDeep, Out}
use Rattle.psm_grammar.specs.Exact.{head, Low, AtEnd, Tracks, Levels, Good, Bad, Deep, Holds}
use Rattle.psm_grammar.proofs.Alike.{Alike, toks_after, some_same, alike_on, alike_end}
use Rattle.psm_grammar.proofs.Runs.{Run, Done, Opens, Whatever, Never, Reads, spelled}

tail : {A : Type 0} → List A → List A
tail [] = []
tail (x ∷ xs) = xs

-- two fronts of one list: the second goes as far as the first, or less far
fronts : {T : Type 0} (a b c d : List T) → a ++ b ≡ c ++ d → ((m : List T) × (c ≡ a ++ m) × (b ≡ m ++ d)) ⊎ ((t : T) × (m : List T) × (a ≡ c ++ t ∷ m) × (d ≡ t ∷ (m ++ b)))
unfolding tail
fronts [] b c d e = inl (c, refl, e)
fronts (x ∷ a) b [] d e = inr (x, a, refl, sym e)
fronts {T} (x ∷ a) b (y ∷ c) d e =
    let same : x ≡ y = some_same x y (ap head e) in
    elim (fronts a b c d (ap tail e)) [
      | inl r ↦ inl (r.0, ap (λ z. z ∷ c) (sym same) ∙ ap (λ z. x ∷ z) r.1, r.2)
      | inr r ↦ inr (r.0, r.1, ap (λ z. z ∷ a) same ∙ ap (λ z. y ∷ z) r.2, r.3)
    ]

-- ---- from the facts that contracts cite

cons_tracks : {T : Type 0} (f x : T × ℕ) (front w : Words T) (k rest : List T) → x.0 ≡ f.0 → Tracks front w k rest → Tracks (f ∷ front) (x ∷ w) k rest
cons_tracks f x front w k rest e t = record { more = t.more; split = (λ i. e i ∷ t.split i); same = t.same }

alike_of : {T : Type 0} (Q R : Words T → Type 0) (front : Words T) (rest : List T) (w : Words T) → Levels front w []
    → (Tracks front w [] rest → (m : Words T) × (w ≡ front ++ m) × Q m) → (toks w ≡ toks front → R []) → Alike Q R front rest w []
unfolding tail
alike_of Q R [] rest [] l q r = (λ e. let a = q (record { more = []; split = refl; same = e }) in subst Q (sym a.1) a.2, λ e. r refl)
alike_of Q R [] rest (x ∷ w) l q r = (λ e. let a = q (record { more = toks (x ∷ w) ++ []; split = refl; same = e }) in subst Q (sym a.1) a.2, λ e. absurd (cc e))
alike_of Q R (f ∷ front) rest [] l q r = l
alike_of {T} Q R (f ∷ front) rest (x ∷ w) l q r = λ e.
    let both = l e in (
      both.0,
      alike_of Q R front rest w both.1
          (λ t. let a = q (cons_tracks f x front w [] rest e t) in (a.0, ap tail a.1, a.2))
          (λ s. r (λ i. e i ∷ s i)),
    )

same_word : {T : Type 0} (front w : Words T) → Levels front w [] → toks w ≡ toks front → w ≡ front
unfolding tail
same_word [] [] l e = refl
same_word [] (x ∷ w) l e = absurd (cc e)
same_word (f ∷ front) [] l e = absurd (cc e)
same_word {T} (f ∷ front) (x ∷ w) l e =
    let same : x.0 ≡ f.0 = some_same x.0 f.0 (ap head e) in
    let both = l same in
    let here : x ≡ f = λ i. (same i, both.0 i) in
    ap (λ y. y ∷ w) here ∙ ap (λ v. f ∷ v) (same_word front w both.1 (ap tail e))

module _ {T X : Type 0} (L : Lang T X) (limit : ℕ) (ts : List T) where
  from_good : (x : X) (rest : List T) → Good L AtEnd limit ts x rest → Run L AtEnd limit ts rest (Done x) (Done x) (Done x)
  from_good x rest g = record {
    front = g.front;
    more = [];
    value = x;
    parts = g.parts;
    begins = subst (λ w. L w x) (sym (append-nil g.front)) g.spelled;
    so = (refl, refl);
    low = g.low;
    alike = λ w y k l n. subst (λ k. Alike (λ m. Done x m y) (λ m. Done x m y) g.front rest w k) (sym n)
        (alike_of (λ m. Done x m y) (λ m. Done x m y) g.front rest w (g.levels w y [] l refl)
        (λ t. let a = g.only w y [] l refl t in ([], a.0 ∙ sym (append-nil g.front), (refl, a.1)))
        (λ s. (refl, g.alone y (subst (λ v. L v y) (same_word g.front w (g.levels w y [] l refl) s) l))));
  }

  from_bad : (rest : List T) → Bad L AtEnd limit ts rest → Run L AtEnd limit ts rest Whatever Never Never
  from_bad rest b = record {
    front = b.front;
    more = b.more;
    value = b.value;
    parts = b.parts;
    begins = b.begins;
    so = tt;
    low = b.low;
    alike = λ w y k l n. subst (λ k. Alike (λ m. Never m y) (λ m. Never m y) b.front rest w k) (sym n)
        (alike_of (λ m. Never m y) (λ m. Never m y) b.front rest w (b.levels w y [] l refl)
        (λ t. absurd (b.none w y [] l refl t))
        (λ s. b.unfinished y (subst (λ v. L v y) (same_word b.front w (b.levels w y [] l refl) s) l)));
  }

  from_deep : (t : T) (rest : List T) → Deep L AtEnd limit ts (t ∷ rest) → Run L AtEnd limit ts (t ∷ rest) (λ m x. Opens limit (t ∷ rest) m) (λ m x. Opens limit (t ∷ rest) m) Whatever
  from_deep t rest d =
      let same : (d.opening, suc limit) ≡ (t, suc limit) = ap (λ s. (s, suc limit)) (sym (some_same t d.opening (ap head d.reached))) in
      record {
        front = d.front;
        more = (d.opening, suc limit) ∷ d.more;
        value = d.value;
        parts = d.parts;
        begins = d.begins;
        so = same;
        low = d.low;
        alike = λ w y k l n. subst (λ k. Alike (λ m. Opens limit (t ∷ rest) m) (λ m. Whatever m y) d.front (t ∷ rest) w k) (sym n)
            (alike_of (λ m. Opens limit (t ∷ rest) m) (λ m. Whatever m y) d.front (t ∷ rest) w (d.levels w y [] l refl)
            (λ tr. let a = d.opens w y [] l refl tr in ((d.opening, suc limit) ∷ a.0, a.1, same))
            (λ s. tt));
      }

  pub reads_of : (o : Out T X) → Holds L AtEnd limit ts o → Reads L AtEnd limit ts o
  reads_of (Ok r) h = from_good r.0 r.1 h
  reads_of (Err (Wrong rest)) h = from_bad rest h
  reads_of (Err (TooDeep [])) h = absurd (let e = h.reached in cc e)
  reads_of (Err (TooDeep (t ∷ rest))) h = from_deep t rest h

-- ---- two exact answers

-- the second of two words goes further, by a token below the limit
further : {T : Type 0} (limit : ℕ) (Q : Words T → Type 0) → ((x : T × ℕ) (m : Words T) → x.1 ≤ limit → Q (x ∷ m) → ⊥)
    → (front back more v : Words T) (t : T) (m : List T) → front ++ more ≡ back ++ v → Low limit front → toks front ≡ toks back ++ t ∷ m → Q v → ⊥
unfolding tail
further limit Q away [] [] more v t m e low s q = cc s
further limit Q away [] (b ∷ back) more v t m e low s q = cc s
further limit Q away (f ∷ front) [] more v t m e low s q = away f (front ++ more) low.0 (subst Q (sym e) q)
further limit Q away (f ∷ front) (b ∷ back) more v t m e low s q = further limit Q away front back more v t m (ap tail e) low.1 (ap tail s) q

opens_away : {T : Type 0} (limit : ℕ) (rest : List T) (x : T × ℕ) (m : Words T) → x.1 ≤ limit → Opens limit rest (x ∷ m) → ⊥
opens_away limit [] x m h o = o
opens_away {T} limit (t ∷ rest) x m h o = let l : x.1 ≡ suc limit = ap (λ (z : T × ℕ). z.1) o in omega (arith, h, l)

module _ {T X : Type 0} (L : Lang T X) (limit : ℕ) (ts : List T) where
  -- one of the two goes further
  strict : {rest rest' : List T} {B E R B' E' R' : Words T → X → Type 0} (r : Run L AtEnd limit ts rest B E R) (s : Run L AtEnd limit ts rest' B' E' R')
      → ((y : X) (x : T × ℕ) (m : Words T) → x.1 ≤ limit → E (x ∷ m) y → ⊥) → (t : T) (m : List T) → toks s.front ≡ toks r.front ++ t ∷ m → rest ≡ t ∷ (m ++ rest') → ⊥
  strict {rest} {rest'} {B} {E} {R} r s away t m e f =
      let whole : toks (s.front ++ s.more) ++ [] ≡ toks r.front ++ (t ∷ (m ++ (toks s.more ++ []))) =
      toks_after s.front s.more [] ∙ ap (λ k. k ++ (toks s.more ++ [])) e ∙ append_assoc (toks r.front) (t ∷ m) (toks s.more ++ []) in
      let goes = alike_on (λ m. E m s.value) (λ m. R m s.value) r.front rest (s.front ++ s.more) [] (t ∷ (m ++ (toks s.more ++ []))) whole (sym (ap head f))
      (r.alike (s.front ++ s.more) s.value [] s.begins refl) in
      further limit (λ v. E v s.value) (away s.value) s.front r.front s.more goes.0 t m goes.1 s.low e goes.2

  abbrev Away : (Words T → X → Type 0) → Type 0
  Away E = (y : X) (x : T × ℕ) (m : Words T) → x.1 ≤ limit → E (x ∷ m) y → ⊥

  -- neither goes further
  meet : {rest rest' : List T} {B E R B' E' R' : Words T → X → Type 0} (r : Run L AtEnd limit ts rest B E R) (s : Run L AtEnd limit ts rest' B' E' R') → Away E → Away E'
      → (toks s.front ≡ toks r.front) × (rest ≡ rest')
  meet {rest} {rest'} r s away away' = by (fronts (toks r.front) rest (toks s.front) rest' (sym r.parts ∙ s.parts))
    where
      by : ((m : List T) × (toks s.front ≡ toks r.front ++ m) × (rest ≡ m ++ rest')) ⊎ ((t : T) × (m : List T) × (toks r.front ≡ toks s.front ++ t ∷ m) × (rest' ≡ t ∷ (m ++ rest)))
          → (toks s.front ≡ toks r.front) × (rest ≡ rest')
      by (inl z) = here z.0 z.1 z.2
        where
          here : (m : List T) → toks s.front ≡ toks r.front ++ m → rest ≡ m ++ rest' → (toks s.front ≡ toks r.front) × (rest ≡ rest')
          here [] e f = (e ∙ append-nil (toks r.front), f)
          here (t ∷ m) e f = absurd (strict r s away t m e f)
      by (inr z) = absurd (strict s r away' z.0 z.1 z.2 z.3)

  same_back : (a b c d : Words T) → toks a ≡ toks b → a ++ c ≡ b ++ d → c ≡ d
  unfolding tail
  same_back [] [] c d s e = e
  same_back [] (y ∷ b) c d s e = absurd (cc s)
  same_back (x ∷ a) [] c d s e = absurd (cc s)
  same_back (x ∷ a) (y ∷ b) c d s e = same_back a b c d (ap tail s) (ap tail e)

  -- what is left of a word that goes on
  goes_on : {rest rest' : List T} {B E R B' E' R' : Words T → X → Type 0} (r : Run L AtEnd limit ts rest B E R) (s : Run L AtEnd limit ts rest' B' E' R')
      → toks s.front ≡ toks r.front → rest ≡ rest' → head (toks s.more) ≡ head rest' → E s.more s.value
  goes_on {rest} {rest'} {B} {E} {R} r s e f h =
      let whole : toks (s.front ++ s.more) ++ [] ≡ toks r.front ++ toks s.more =
      toks_after s.front s.more [] ∙ ap (λ k. k ++ (toks s.more ++ [])) e ∙ ap (λ k. toks r.front ++ k) (append-nil (toks s.more)) in
      let on = alike_on (λ m. E m s.value) (λ m. R m s.value) r.front rest (s.front ++ s.more) [] (toks s.more) whole (h ∙ sym (ap head f))
      (r.alike (s.front ++ s.more) s.value [] s.begins refl) in
      subst (λ v. E v s.value) (sym (same_back s.front r.front s.more on.0 e on.1)) on.2

  done_away : (x : X) → Away (Done x)
  done_away x y z m h e = cc (e.0)

  opens_head : (rest : List T) (m : Words T) → Opens limit rest m → head (toks m) ≡ head rest
  opens_head [] m o = absurd o
  opens_head (t ∷ rest) [] o = absurd o
  opens_head (t ∷ rest) (x ∷ m) o = ap (λ (z : T × ℕ). Some z.0) o

  opens_some : (rest : List T) (m : Words T) → Opens limit rest m → m ≡ [] → ⊥
  opens_some [] m o e = o
  opens_some (t ∷ rest) [] o e = o
  opens_some (t ∷ rest) (x ∷ m) o e = cc e

  -- a word of the language is unfinished for none
  finished : {rest : List T} {B E R : Words T → X → Type 0} (r : Run L AtEnd limit ts rest B E R) (w : Words T) (x : X) → L w x → toks w ≡ toks r.front → R [] x
  finished {rest} {B} {E} {R} r w x l e = (alike_end (λ m. E m x) (λ m. R m x) r.front rest w e (r.alike w x [] l refl)).1

  pub one_answer : (o p : Out T X) → Reads L AtEnd limit ts o → Reads L AtEnd limit ts p → o ≡ p
  one_answer (Ok r) (Ok s) h k =
      let m = meet h k (done_away r.0) (done_away s.0) in
      let same : r.0 ≡ s.0 = sym (finished h k.front s.0 (spelled k) m.0).1 in
      λ i. Ok (same i, m.1 i)
  one_answer (Ok r) (Err (Wrong rest)) h k = absurd (
      let m = meet k h (λ y x v a e. e) (done_away r.0) in finished k h.front r.0 (spelled h) m.0)
  one_answer (Ok r) (Err (TooDeep rest)) h k = absurd (
      let m = meet h k (done_away r.0) (λ y x v. opens_away limit rest x v) in opens_some rest k.more k.so (goes_on h k m.0 m.1 (opens_head rest k.more k.so)).0)
  one_answer (Err (Wrong rest)) (Ok s) h k = absurd (
      let m = meet h k (λ y x v a e. e) (done_away s.0) in finished h k.front s.0 (spelled k) m.0)
  one_answer (Err (Wrong rest)) (Err (Wrong rest')) h k = let m = meet h k (λ y x v a e. e) (λ y x v a e. e) in ap (λ ts. Err (Wrong ts)) m.1
  one_answer (Err (Wrong rest)) (Err (TooDeep rest')) h k = absurd (
      let m = meet h k (λ y x v a e. e) (λ y x v. opens_away limit rest' x v) in goes_on h k m.0 m.1 (opens_head rest' k.more k.so))
  one_answer (Err (TooDeep rest)) (Ok s) h k = absurd (
      let m = meet k h (done_away s.0) (λ y x v. opens_away limit rest x v) in opens_some rest h.more h.so (goes_on k h m.0 m.1 (opens_head rest h.more h.so)).0)
  one_answer (Err (TooDeep rest)) (Err (Wrong rest')) h k = absurd (
      let m = meet k h (λ y x v a e. e) (λ y x v. opens_away limit rest x v) in goes_on k h m.0 m.1 (opens_head rest h.more h.so))
  one_answer (Err (TooDeep rest)) (Err (TooDeep rest')) h k = let m = meet h k (λ y x v. opens_away limit rest x v) (λ y x v. opens_away limit rest' x v) in ap (λ ts. Err (TooDeep ts)) m.1
