-- The reader of each part of a grammar is exact, where the readers of the nonterminals are.
use Rattle.std.proofs.Common.{◌≡◌, ◌⊎◌, inl, inr, ℕ, suc, ◌≤◌, ◌<◌, Bool, true, false, not, ◌&&◌, cond, List, [], ◌∷◌, ◌++◌, length, Option, Some, None, Ok, Err, refl, sym, ap, subst, ◌∙◌, arith}
use Rattle.std.proofs.lemmas.List.{length-append}
use Rattle.psm_grammar.specs.Language.{Words, toks, Lang, has, Test, Token, Seq}
use Rattle.psm_grammar.specs.Grammar.{Grammar, token, level, next, nothing, seq, or, ahead, many, image, lang}
use Rattle.psm_grammar.specs.Readers.{Wrong, TooDeep, Out, Reader, starts, starts_two, one, Deeper, opened, empty, first, read}
use Rattle.psm_grammar.specs.Exact.{head, Next}
use Rattle.psm_grammar.specs.Follow.{apart, within, may_follow, leads, openers, seconds, is_long, opens_two, two_decide, fits}
use Rattle.psm_grammar.proofs.Alike.{Alike, guarded, some_same}
use Rattle.psm_grammar.proofs.KindLists.{and_true, not_true, true_false, decide, apart_none, within_has}
use Rattle.psm_grammar.proofs.Firsts.{blank, begins, led, plain, second, many_after}
use Rattle.psm_grammar.proofs.Some.{Word, Begun, BegunTwo, some, begun, begun_two, not_blank, long}
use Rattle.psm_grammar.proofs.Runs.{Run, Reads, reads_in, reads_begun, reads_image, reads_seq}
use Rattle.psm_grammar.proofs.Parts.{reads_token, reads_opened, reads_deep, reads_followed, reads_nothing, reads_many}

-- the readers of the nonterminals are exact one level deeper, or no level is left
abbrev pub DeeperReads : {T N : Type 0} {V : N → Type 0} → (T → ℕ) → ((n : N) → Lang T (V n)) → (N → Option (List ℕ)) → ℕ → ℕ → Deeper T V → Type 0
DeeperReads kind inner after limit d None = d ≡ limit
DeeperReads {T} kind inner after limit d (Some readers) = (suc d ≤ limit) × ((n : _) (follow : List ℕ) → may_follow follow (after n) ≡ true → (ts : List T) → Reads (inner n) (Next kind follow) limit ts (readers n ts))

-- ---- a choice by two tokens

module _ {T X : Type 0} (F : List T → Type 0) (limit : ℕ) (L K : Lang T X) (t : T) (ts : List T) (d : ℕ)
    (low : d ≤ limit) (end : F [])
    (known : (l : ℕ) (w : Words T) (x : X) → L ((t, l) ∷ w) x → l ≡ d)
    (begun_so : Begun t L)
    (other : (l : ℕ) (w : Words T) (x : X) (k : List T) → K ((t, l) ∷ w) x → F k → (l ≡ d) × (head (toks w ++ k) ≡ head ts → ⊥))
    (some : (w : Words T) (x : X) → K w x → 1 ≤ length w) where
  tail_same : (a b : T) (u v : List T) → a ∷ u ≡ b ∷ v → u ≡ v
  tail_same a b u v e = cc

  -- a word of the other part that ends after its first token
  abbrev Ends : (Words T → X → Type 0) → Type 0
  Ends R = (l : ℕ) (w : Words T) (x : X) (k : List T) → K ((t, l) ∷ w) x → F k → head (toks w ++ k) ≡ None → R w x

  two_run : {rest : List T} {B E R : Words T → X → Type 0} (J : Lang T X) (r : Run L F limit (t ∷ ts) rest B E R)
      → ((x : T × ℕ) (m : Words T) (y : X) → x.1 ≤ limit → E (x ∷ m) y → ⊥) → ((f : T × ℕ) → r.front ≡ f ∷ [] → Ends R)
      → ((w : Words T) (x : X) → L w x → J w x) → ((w : Words T) (x : X) → J w x → L w x ⊎ K w x) → Run J F limit (t ∷ ts) rest B E R
  two_run {rest} {B} {E} {R} J r away ends into back = record {
    front = r.front;
    more = r.more;
    value = r.value;
    parts = r.parts;
    begins = into (r.front ++ r.more) r.value r.begins;
    so = r.so;
    low = r.low;
    alike = λ w x k j n. elim (back w x j) [ inl l ↦ r.alike w x k l n | inr l ↦ apart r.front ends r.parts r.begins r.alike w x k l n ];
  }
    where
      apart : (front : Words T) → ((f : T × ℕ) → front ≡ f ∷ [] → Ends R) → t ∷ ts ≡ toks front ++ rest → L (front ++ r.more) r.value
          → ((w : Words T) (x : X) (k : List T) → L w x → F k → Alike (λ m. E m x) (λ m. R m x) front rest w k)
          → (w : Words T) (x : X) (k : List T) → K w x → F k → Alike (λ m. E m x) (λ m. R m x) front rest w k
      apart [] ends p b a w x k l n = absurd (
          let word = begun_so in
          let e : Some t ≡ head rest = ap head p in
          let there = a ((t, word.0) ∷ word.1) word.2 [] word.3 end in
          away (t, word.0) word.1 word.2 (subst (λ h. h ≤ limit) (sym (known word.0 word.1 word.2 word.3)) low) (there.0 e))
      apart (f ∷ front) ends p b a [] x k l n = absurd (let one = some [] x l in omega (arith, one))
      apart (f ∷ front) ends p b a (y ∷ w) x k l n = λ e.
          let same : f.0 ≡ t = sym (some_same t f.0 (ap head p)) in
          let here : L ((t, f.1) ∷ (front ++ r.more)) r.value = subst (λ s. L ((s, f.1) ∷ (front ++ r.more)) r.value) same b in
          let there : K ((t, y.1) ∷ w) x = subst (λ s. K ((s, y.1) ∷ w) x) (e ∙ same) l in
          let o = other y.1 w x k there n in (
            o.0 ∙ sym (known f.1 (front ++ r.more) r.value here),
            guarded (λ m. E m x) (λ m. R m x) front rest w k (λ g. absurd (o.1 (g ∙ sym (ap head (tail_same t f.0 ts (toks front ++ rest) p)))))
                (λ z g. ends f (ap (λ m. f ∷ m) z) y.1 w x k there n g),
          )

  -- where a word begins with the first two tokens, more than one is read
  moved_two : {rest : List T} {B E R : Words T → X → Type 0} (u : T) (us : List T) → ts ≡ u ∷ us → BegunTwo t u L → ((x : T × ℕ) (m : Words T) (y : X) → E (x ∷ m) y → ⊥)
      → (r : Run L F limit (t ∷ ts) rest B E R) (f : T × ℕ) → r.front ≡ f ∷ [] → ⊥
  moved_two {rest} {B} {E} {R} u us two b away r f one = by r.front one r.parts (r.alike ((t, b.0) ∷ (u, b.1) ∷ b.2) b.3 [] b.4 end)
    where
      by : (front : Words T) → front ≡ f ∷ [] → t ∷ ts ≡ toks front ++ rest → Alike (λ m. E m b.3) (λ m. R m b.3) front rest ((t, b.0) ∷ (u, b.1) ∷ b.2) [] → ⊥
      by [] one p a = cc one
      by (g ∷ []) one p a = away (u, b.1) b.2 b.3 ((a (some_same t g.0 (ap head p))).1.0 (ap head (sym two ∙ tail_same t g.0 ts rest p)))
      by (g ∷ h ∷ front) one p a = cc one

  -- either no word of the other part ends there, or words of this part go on as these tokens do
  abbrev Stops : Type 0
  Stops = Ends (λ w x. ⊥) ⊎ ((u : T) × (us : List T) × (ts ≡ u ∷ us) × BegunTwo t u L)

  stopped : {rest : List T} {B E R : Words T → X → Type 0} → Stops → ((x : T × ℕ) (m : Words T) (y : X) → E (x ∷ m) y → ⊥) → (r : Run L F limit (t ∷ ts) rest B E R) (f : T × ℕ) → r.front ≡ f ∷ [] → Ends R
  stopped (inl s) away r f one = λ l w x k h n e. absurd (s l w x k h n e)
  stopped (inr s) away r f one = absurd (moved_two s.0 s.1 s.2 s.3 away r f one)

  pub reads_two : (J : Lang T X) (o : Out T X) → Stops → Reads L F limit (t ∷ ts) o
      → ((w : Words T) (x : X) → L w x → J w x) → ((w : Words T) (x : X) → J w x → L w x ⊎ K w x) → Reads J F limit (t ∷ ts) o
  reads_two J (Ok r) s h into back = two_run J h (λ x m y a e. cc (e.0)) (stopped s (λ x m y e. cc (e.0)) h) into back
  reads_two J (Err (Wrong rest)) s h into back = two_run J h (λ x m y a e. e) (stopped s (λ x m y e. e) h) into back
  reads_two J (Err (TooDeep [])) s h into back = absurd h.so
  reads_two J (Err (TooDeep (u ∷ rest))) s h into back = two_run J h (λ x m y a e. let l : x.1 ≡ suc limit = ap (λ (z : T × ℕ). z.1) e in omega (arith, a, l)) (λ f one l w x k j n e. tt) into back

-- ---- all parts

-- no token stands at the front of two lists of which one begins otherwise
starts_same : {T : Type 0} (kind : T → ℕ) (ks : List ℕ) (a b : List T) → head a ≡ head b → starts kind ks a ≡ starts kind ks b
starts_same kind ks [] [] e = refl
starts_same kind ks [] (t ∷ b) e = absurd (cc e)
starts_same kind ks (t ∷ a) [] e = absurd (cc e)
starts_same kind ks (t ∷ a) (s ∷ b) e = ap (λ u. has (kind u) ks) (some_same t s e)

-- a word that starts with these kinds, beside tokens that don't
starts_not : {T : Type 0} (kind : T → ℕ) (ks : List ℕ) (k ts : List T) → starts kind ks k ≡ true → starts kind ks ts ≡ false → (head k ≡ head ts) ⊎ (head k ≡ None) → ⊥
starts_not kind ks k ts a b (inl e) = true_false (starts kind ks ts) (sym (starts_same kind ks k ts e) ∙ a) b
starts_not kind ks k ts a b (inr e) = true_false (starts kind ks k) a (starts_same kind ks k [] e)

starts_within : {T : Type 0} (kind : T → ℕ) (ms ns : List ℕ) (k : List T) → ((n : ℕ) → has n ms ≡ true → has n ns ≡ false) → Next kind ms k → starts kind ns k ≡ false
starts_within kind ms ns [] h n = refl
starts_within kind ms ns (t ∷ k) h n = h (kind t) n

reads_level : {T N A Z : Type 0} {V : N → Type 0} (kind : T → ℕ) (inner : (n : N) → Lang T (V n)) (d : ℕ) (after : N → Option (List ℕ)) (words : (n : N) → Word (inner n)) (limit : ℕ)
    (n : N) (test : Test T A) (f : A → V n → Z) (follow : List ℕ) (known : has (kind test.example) test.kinds ≡ true) (fit : may_follow follow (after n) ≡ true)
    (deeper : Deeper T V) → DeeperReads kind inner after limit d deeper → (ts : List T)
    → Reads (Seq f (Token kind test (suc d)) (inner n)) (Next kind follow) limit ts (opened kind test n f deeper ts)
reads_level {V} kind inner d after words limit n test f follow known fit None top ts = reads_deep V kind test n f (inner n) (words n) d (Next kind follow) limit known ts top
reads_level kind inner d after words limit n test f follow known fit (Some readers) h ts =
    reads_opened kind test n f (inner n) (words n) d (Next kind follow) limit known readers ts h.0 (h.1 n follow fit)

rest_short : {T : Type 0} (most : ℕ) (ts : List T) (u : Words T) (rest : List T) → length ts ≤ most → ts ≡ toks u ++ rest → length rest ≤ most
rest_short most ts u rest h e = omega (arith, h, ap length e, length-append (toks u) rest)

module _ {T N : Type 0} {kind : T → ℕ} {V : N → Type 0} (inner same : (n : N) → Lang T (V n)) (d : ℕ) (after : N → Option (List ℕ)) (words : (n : N) → Word (inner n)) (others : (n : N) → Word (same n))
    (limit : ℕ) (low : d ≤ limit) (deeper : Deeper T V) (deep : DeeperReads kind inner after limit d deeper)
    (readers : (n : N) → Reader T (V n)) (most : ℕ) (sames : (n : N) (follow : List ℕ) → may_follow follow (after n) ≡ true → (ts : List T) → length ts < most → Reads (same n) (Next kind follow) limit ts (readers n ts)) where
  -- the words of a part that has no word of no token start with its kinds
  starts_first : {X : Type 0} (g : Grammar kind V X) → empty g ≡ false → (w : Words T) (x : X) (k : List T) → lang inner same d g w x → starts kind (first g) (toks w ++ k) ≡ true
  starts_first g e [] x k l = absurd (true_false (empty g) (blank inner same d g x l) e)
  starts_first g e (t ∷ w) x k l = begins inner same d g t w x l

  -- one of two parts, by the first token
  reads_pick : {X : Type 0} (p q : Grammar kind V X) (follow : List ℕ) (ts : List T) (o o' : Out T X) → fits after follow p ≡ true → empty p ≡ false → apart (first p) (leads q follow) ≡ true
      → Reads (lang inner same d p) (Next kind follow) limit ts o → Reads (lang inner same d q) (Next kind follow) limit ts o'
      → (b : Bool) → starts kind (first p) ts ≡ b → Reads (lang inner same d (or p q)) (Next kind follow) limit ts (cond b o o')
  reads_pick p q follow [] o o' fit e a h k true s = absurd (cc s)
  reads_pick p q follow (t ∷ ts) o o' fit e a h k true s = reads_begun (lang inner same d p) (Next kind follow) limit (lang inner same d (or p q)) t ts o
      (begun inner same d after words others p follow t fit s) tt h (λ w x l. inl l)
      (λ w x k l n f. elim l [
        | inl m ↦ m
        | inr m ↦ absurd (true_false (has (kind t) (first p)) s (sym (starts_same kind (first p) (toks w ++ k) (t ∷ ts) f) ∙ refuses w x k m n))
      ])
    where
      refuses : (w : Words T) (x : _) (k : List T) → lang inner same d q w x → Next kind follow k → starts kind (first p) (toks w ++ k) ≡ false
      refuses w x k m n = starts_within kind (leads q follow) (first p) (toks w ++ k) (λ c h. elim (decide (has c (first p))) [
        | inl t ↦ absurd (true_false (has c (leads q follow)) h (apart_none c (first p) (leads q follow) a t))
        | inr f ↦ f
      ]) (led inner same d q follow w x k m n)
  reads_pick p q follow ts o o' fit e a h k false s = reads_in (lang inner same d q) (Next kind follow) limit (lang inner same d (or p q)) ts o' k (λ w x l. inr l)
      (λ w x k l n f. elim l [
        | inr m ↦ m
        | inl m ↦ absurd (starts_not kind (first p) (toks w ++ k) ts (starts_first p e w x k m) s f)
      ])

  -- one of two parts, by the first two tokens
  module _ {X : Type 0} (ones twos follow : List ℕ) (p q : Grammar kind V X) (rule : two_decide ones twos follow p q ≡ true)
      (fit : fits after follow p ≡ true) (fit' : fits after follow q ≡ true) where
    record Rule : Type 0 where
      long_p : is_long p ≡ true
      some_q : empty q ≡ false
      from_p : within (first p) ones ≡ true
      to_p : opens_two ones twos p ≡ true
      to_q : within ones (first q) ≡ true
      plain_p : apart ones (openers p) ≡ true
      plain_q : apart ones (openers q) ≡ true
      next_p : within (seconds ones follow p) twos ≡ true
      next_q : apart twos (seconds ones follow q) ≡ true

    the_rule : Rule
    the_rule =
        let a = and_true (is_long p) _ rule in
        let b = and_true (not (empty q)) _ a.1 in
        let c = and_true (within (first p) ones) _ b.1 in
        let e = and_true (opens_two ones twos p) _ c.1 in
        let f = and_true (within ones (first q)) _ e.1 in
        let g = and_true (apart ones (openers p)) _ f.1 in
        let h = and_true (apart ones (openers q)) _ g.1 in
        let i = and_true (within (seconds ones follow p) twos) _ h.1 in
        record { long_p = a.0; some_q = not_true (empty q) b.0; from_p = c.0; to_p = e.0; to_q = f.0; plain_p = g.0; plain_q = h.0; next_p = i.0; next_q = i.1 }

    abbrev F : List T → Type 0
    F k = Next kind follow k

    p_starts : (w : Words T) (x : X) (k : List T) → lang inner same d p w x → starts kind ones (toks w ++ k) ≡ true
    p_starts [] x k l = let two = long inner same d p [] x the_rule.long_p l in absurd (omega (arith, two))
    p_starts (t ∷ w) x k l = within_has (kind t.0) (first p) ones the_rule.from_p (begins inner same d p t w x l)

    p_second : (t : T) → has (kind t) ones ≡ true → (l : ℕ) (w : Words T) (x : X) (k : List T) → lang inner same d p ((t, l) ∷ w) x → F k → starts kind twos (toks w ++ k) ≡ true
    p_second t h l w x k m n = by w (long inner same d p ((t, l) ∷ w) x the_rule.long_p m)
        (second inner same d ones p follow (t, l) w x k m n h (apart_none (kind t) ones (openers p) the_rule.plain_p h))
      where
        by : (w : Words T) → 2 ≤ length ((t, l) ∷ w) → Next kind (seconds ones follow p) (toks w ++ k) → starts kind twos (toks w ++ k) ≡ true
        by [] a n = absurd (omega (arith, a))
        by (s ∷ w) a n = within_has (kind s.0) (seconds ones follow p) twos the_rule.next_p n

    q_second : (t : T) → has (kind t) ones ≡ true → (l : ℕ) (w : Words T) (x : X) (k : List T) → lang inner same d q ((t, l) ∷ w) x → F k → starts kind twos (toks w ++ k) ≡ false
    q_second t h l w x k m n = starts_within kind (seconds ones follow q) twos (toks w ++ k)
        (λ c e. elim (decide (has c twos)) [ inl y ↦ absurd (true_false (has c (seconds ones follow q)) e (apart_none c twos (seconds ones follow q) the_rule.next_q y)) | inr y ↦ y ])
        (second inner same d ones q follow (t, l) w x k m n h (apart_none (kind t) ones (openers q) the_rule.plain_q h))

    p_level : (t : T) → has (kind t) ones ≡ true → (l : ℕ) (w : Words T) (x : X) → lang inner same d p ((t, l) ∷ w) x → l ≡ d
    p_level t h l w x m = plain inner same d p (t, l) w x m (apart_none (kind t) ones (openers p) the_rule.plain_p h)

    q_level : (t : T) → has (kind t) ones ≡ true → (l : ℕ) (w : Words T) (x : X) → lang inner same d q ((t, l) ∷ w) x → l ≡ d
    q_level t h l w x m = plain inner same d q (t, l) w x m (apart_none (kind t) ones (openers q) the_rule.plain_q h)

    abbrev J : Lang T X
    J w x = lang inner same d p w x ⊎ lang inner same d q w x

    swap : (w : Words T) (x : X) → J w x → lang inner same d q w x ⊎ lang inner same d p w x
    swap w x (inl l) = inr l
    swap w x (inr l) = inl l

    only_q : (ts : List T) (o : Out T X) → starts kind ones ts ≡ false → Reads (lang inner same d q) F limit ts o → Reads J F limit ts o
    only_q ts o s h = reads_in (lang inner same d q) F limit J ts o h (λ w x l. inr l)
        (λ w x k l n f. elim l [
          | inr m ↦ m
          | inl m ↦ absurd (starts_not kind ones (toks w ++ k) ts (p_starts w x k m) s f)
        ])

    reads_ahead : (ts : List T) (o o' : Out T X) → Reads (lang inner same d p) F limit ts o → Reads (lang inner same d q) F limit ts o'
        → (a b : Bool) → starts kind ones ts ≡ a → starts_two kind ones twos ts ≡ b → Reads J F limit ts (cond b o o')
    reads_ahead ts o o' h k false false s e = only_q ts o' s k
    reads_ahead [] o o' h k true b s e = absurd (cc s)
    reads_ahead [] o o' h k a true s e = absurd (cc e)
    reads_ahead (t ∷ ts) o o' h k false true s e = absurd (true_false (has (kind t) ones) (and_true (has (kind t) ones) (starts kind twos ts) e).0 s)
    reads_ahead (t ∷ []) o o' h k true true s e = absurd (let n = (and_true (has (kind t) ones) false e).1 in cc n)
    reads_ahead (t ∷ u ∷ us) o o' h k true true s e =
        let next : has (kind u) twos ≡ true = (and_true (has (kind t) ones) (has (kind u) twos) e).1 in
        let two = begun_two inner same d after words others ones twos p follow t u fit s next the_rule.to_p in
        reads_two F limit (lang inner same d p) (lang inner same d q) t (u ∷ us) d low tt (p_level t s) (two.0, (u, two.1) ∷ two.2, two.3, two.4)
        (λ l w x c m n. (q_level t s l w x m, λ g. true_false (has (kind u) twos) next (sym (starts_same kind twos (toks w ++ c) (u ∷ us) g) ∙ q_second t s l w x c m n)))
        (λ w x m. not_blank inner same d q w x the_rule.some_q m) J o (inr (u, us, refl, two)) h (λ w x m. inl m) (λ w x m. m)
    reads_ahead (t ∷ ts) o o' h k true false s e =
        let next : starts kind twos ts ≡ false = ap (λ y. y && starts kind twos ts) (sym s) ∙ e in
        reads_two F limit (lang inner same d q) (lang inner same d p) t ts d low tt (q_level t s) (begun inner same d after words others q follow t fit' (within_has (kind t) ones (first q) the_rule.to_q s))
        (λ l w x c m n. (p_level t s l w x m, λ g. starts_not kind twos (toks w ++ c) ts (p_second t s l w x c m n) next (inl g)))
        (λ w x m. let two = long inner same d p w x the_rule.long_p m in omega (arith, two)) J o'
        (inl (λ l w x c m n g. starts_not kind twos (toks w ++ c) ts (p_second t s l w x c m n) next (inr g))) k (λ w x m. inr m) swap

  pub exact : {X : Type 0} (g : Grammar kind V X) (follow : List ℕ) → fits after follow g ≡ true → (ts : List T) → length ts ≤ most → Reads (lang inner same d g) (Next kind follow) limit ts (read deeper readers g ts)
  exact (token test) follow h ts short = reads_token kind test d (Next kind follow) limit h ts low
  exact (level n test f) follow h ts short =
      let parts = and_true (has (kind test.example) test.kinds) (may_follow follow (after n)) h in
      reads_level kind inner d after words limit n test f follow parts.0 parts.1 deeper deep ts
  exact (next n test f) follow h ts short =
      let parts = and_true (has (kind test.example) test.kinds) (may_follow follow (after n)) h in
      reads_followed kind test f (same n) (others n) d (Next kind follow) limit parts.0 (readers n) ts low (λ rest less. sames n follow parts.1 rest (omega (arith, less, short)))
  exact (nothing x) follow h ts short = reads_nothing x (Next kind follow) limit ts
  exact (seq f p q) follow h ts short =
      let parts = and_true (fits after (leads q follow) p) (fits after follow q) h in
      reads_seq (lang inner same d p) (Next kind (leads q follow)) limit f (led inner same d q follow) ts (read deeper readers p ts) (read deeper readers q)
      (exact p (leads q follow) parts.0 ts short) (some inner same d after words others q follow parts.1) (λ u x rest s l. exact q follow parts.1 rest (rest_short most ts u rest short s))
  exact (or p q) follow h ts short =
      let all = and_true (not (empty p) && apart (first p) (leads q follow)) (fits after follow p && fits after follow q) h in
      let rule = and_true (not (empty p)) (apart (first p) (leads q follow)) all.0 in
      let parts = and_true (fits after follow p) (fits after follow q) all.1 in
      reads_pick p q follow ts (read deeper readers p ts) (read deeper readers q ts) parts.0 (not_true (empty p) rule.0) rule.1 (exact p follow parts.0 ts short) (exact q follow parts.1 ts short) (starts kind (first p) ts) refl
  exact (ahead ones twos p q) follow h ts short =
      let all = and_true (two_decide ones twos follow p q) (fits after follow p && fits after follow q) h in
      let parts = and_true (fits after follow p) (fits after follow q) all.1 in
      reads_ahead ones twos follow p q all.0 parts.0 parts.1 ts (read deeper readers p ts) (read deeper readers q ts) (exact p follow parts.0 ts short) (exact q follow parts.1 ts short)
      (starts kind ones ts) (starts_two kind ones twos ts) refl refl
  exact (many p) follow h ts short =
      let all = and_true (not (empty p) && apart (first p) follow) (fits after (first p ++ follow) p) h in
      let rule = and_true (not (empty p)) (apart (first p) follow) all.0 in
      reads_many kind (first p) follow (lang inner same d p) limit (read deeper readers p) (λ w x l. not_blank inner same d p w x (not_true (empty p) rule.0) l) (begins inner same d p)
      (λ t. begun inner same d after words others p (first p ++ follow) t all.1)
      (λ n. apart_none n (first p) follow rule.1) (many_after inner same d p follow) most (exact p (first p ++ follow) all.1) (length ts) ts (omega arith) short
  exact (image f p) follow h ts short = reads_image (lang inner same d p) (Next kind follow) limit f ts (read deeper readers p ts) (exact p follow h ts short)
