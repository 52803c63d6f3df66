-- The reader with n more levels is exact for the grammar without limit.
use Rattle.std.proofs.Common.{◌≡◌, ℕ, zero, suc, ◌+◌, ◌≤◌, ◌<◌, length, true, List, [], ◌∷◌, ◌++◌, Option, Some, None, Ok, Err, refl, sym, ap, subst, ◌∙◌, arith}
use Rattle.std.proofs.lemmas.List.{append-nil}
use Rattle.psm_grammar.specs.Language.{Words, Lang}
use Rattle.psm_grammar.specs.Grammar.{Grammar, Productions, words, Spells}
use Rattle.psm_grammar.specs.Readers.{Wrong, TooDeep, Out, Reader, Deeper, read, again, deeper, reads}
use Rattle.psm_grammar.specs.Exact.{AtEnd, Next, Good, Bad, Deep, Holds}
use Rattle.psm_grammar.specs.Follow.{Fits, may_follow, fits, IsReadable}
use Rattle.psm_grammar.proofs.Alike.{alike_levels, alike_on, alike_end}
use Rattle.psm_grammar.proofs.KindLists.{within_has, next_more}
use Rattle.psm_grammar.proofs.Some.{Word}
use Rattle.psm_grammar.proofs.Runs.{Run, Done, Opens, Whatever, Never, Reads, spelled, reads_in, reads_before}
use Rattle.psm_grammar.proofs.Answer.{one_answer, reads_of}
use Rattle.psm_grammar.proofs.Exactness.{DeeperReads, exact}
use Rattle.psm_grammar.proofs.Heights.{unrolled, rolled, words_some}

-- ---- the facts that contracts cite

opens_so : {T : Type 0} (limit : ℕ) (t : T) (rest : List T) (m : Words T) → Opens limit (t ∷ rest) m → (v : Words T) × (m ≡ (t, suc limit) ∷ v)
opens_so limit t rest [] h = absurd h
opens_so limit t rest (x ∷ m) h = (m, ap (λ y. y ∷ m) h)

module _ {T X : Type 0} {L : Lang T X} {F : List T → Type 0} {limit : ℕ} {ts : List T} (end : F []) where
  good : (x : X) (rest : List T) → Run L F limit ts rest (Done x) (Done x) (Done x) → Good L F limit ts x rest
  good x rest r = record {
    front = r.front;
    parts = r.parts;
    spelled = spelled r;
    low = r.low;
    alone = λ y l. (alike_end (λ m. Done x m y) (λ m. Done x m y) r.front rest r.front refl (r.alike r.front y [] l end)).1.1;
    only = λ w y k l n t.
        let on = alike_on (λ m. Done x m y) (λ m. Done x m y) r.front rest w k t.more t.split t.same (r.alike w y k l n) in
        (on.1 ∙ ap (λ m. r.front ++ m) on.2.0 ∙ append-nil r.front, on.2.1);
    levels = λ w y k l n. alike_levels (λ m. Done x m y) (λ m. Done x m y) r.front rest w k (r.alike w y k l n);
  }

  bad : (rest : List T) → Run L F limit ts rest Whatever Never Never → Bad L F limit ts rest
  bad rest r = record {
    front = r.front;
    more = r.more;
    value = r.value;
    parts = r.parts;
    begins = r.begins;
    low = r.low;
    unfinished = λ y l. (alike_end (λ m. Never m y) (λ m. Never m y) r.front rest r.front refl (r.alike r.front y [] l end)).1;
    none = λ w y k l n t. (alike_on (λ m. Never m y) (λ m. Never m y) r.front rest w k t.more t.split t.same (r.alike w y k l n)).2;
    levels = λ w y k l n. alike_levels (λ m. Never m y) (λ m. Never m y) r.front rest w k (r.alike w y k l n);
  }

  deep_at : (t : T) (rest : List T) → Run L F limit ts (t ∷ rest) (λ m x. Opens limit (t ∷ rest) m) (λ m x. Opens limit (t ∷ rest) m) Whatever → Deep L F limit ts (t ∷ rest)
  deep_at t rest r =
      let more = opens_so limit t rest r.more r.so in
      record {
        front = r.front;
        opening = t;
        after = rest;
        more = more.0;
        value = r.value;
        parts = r.parts;
        reached = refl;
        begins = subst (λ (m : Words T). L (r.front ++ m) r.value) more.1 r.begins;
        low = r.low;
        opens = λ w y k l n tr.
            let on = alike_on (λ m. Opens limit (t ∷ rest) m) (λ m. Whatever m y) r.front (t ∷ rest) w k tr.more tr.split tr.same (r.alike w y k l n) in
            let v = opens_so limit t rest on.0 on.2 in
            (v.0, on.1 ∙ ap (λ m. r.front ++ m) v.1);
        levels = λ w y k l n. alike_levels (λ m. Opens limit (t ∷ rest) m) (λ m. Whatever m y) r.front (t ∷ rest) w k (r.alike w y k l n);
      }

  deep : (rest : List T) → Run L F limit ts rest (λ m x. Opens limit rest m) (λ m x. Opens limit rest m) Whatever → Deep L F limit ts rest
  deep [] r = absurd r.so
  deep (t ∷ rest) r = deep_at t rest r

pub holds : {T X : Type 0} (L : Lang T X) (F : List T → Type 0) (limit : ℕ) (ts : List T) (o : Out T X) → F [] → Reads L F limit ts o → Holds L F limit ts o
holds L F limit ts (Ok r) end h = good end r.0 r.1 h
holds L F limit ts (Err (Wrong rest)) end h = bad end rest h
holds L F limit ts (Err (TooDeep rest)) end h = deep end rest h

-- ---- all levels

module _ {T N : Type 0} {kind : T → ℕ} {V : N → Type 0} (prods : Productions kind V) (after : N → Option (List ℕ)) (height : ℕ) (readable : IsReadable prods after height) where
  word_of : (d : ℕ) (n : N) → Word (words prods d n)
  word_of = words_some prods after readable.by_first height readable.alive

  -- a production, whatever may follow that it says
  reads_production : (d limit : ℕ) → d ≤ limit → (deep : Deeper T V) → DeeperReads kind (words prods (suc d)) after limit d deep → (readers : (n : N) → Reader T (V n)) (m : ℕ)
      → ((n : N) (follow : List ℕ) → may_follow follow (after n) ≡ true → (ts : List T) → length ts < m → Reads (words prods d n) (Next kind follow) limit ts (readers n ts))
      → {X : Type 0} (g : Grammar kind V X) (o : Option (List ℕ)) → Fits after o g → (follow : List ℕ) → may_follow follow o ≡ true → (ts : List T) → length ts ≤ m
      → Reads (Spells prods d g) (Next kind follow) limit ts (read deep readers g ts)
  reads_production d limit low deep h readers m sames g None fit follow may ts short =
      exact (words prods (suc d)) (words prods d) d after (word_of (suc d)) (word_of d) limit low deep h readers m sames g follow (fit follow) ts short
  reads_production d limit low deep h readers m sames g (Some kinds) fit follow may ts short =
      reads_before (Spells prods d g) (Next kind kinds) limit (Next kind follow) ts (read deep readers g ts)
      (exact (words prods (suc d)) (words prods d) d after (word_of (suc d)) (word_of d) limit low deep h readers m sames g kinds fit ts short)
      (λ k. next_more kind follow kinds k (λ c. within_has c follow kinds may))

  -- the nonterminals at one level, on few tokens
  reads_again : (n d limit : ℕ) → d + n ≡ limit → DeeperReads kind (words prods (suc d)) after limit d (deeper prods n) → (m : ℕ) (k : N) (follow : List ℕ) → may_follow follow (after k) ≡ true
      → (ts : List T) → length ts < m → Reads (words prods d k) (Next kind follow) limit ts (again prods (deeper prods n) m k ts)
  reads_again n d limit e h zero k follow may ts short = absurd (omega (arith, short))
  reads_again n d limit e h (suc m) k follow may ts short = reads_in (Spells prods d (prods k)) (Next kind follow) limit (words prods d k) ts (again prods (deeper prods n) (suc m) k ts)
      (reads_production d limit (omega (arith, e)) (deeper prods n) h (again prods (deeper prods n) m) m (reads_again n d limit e h m) (prods k) (after k) (readable.by_first k) follow may ts (omega (arith, short)))
      (rolled prods d k) (λ w x q l f s. unrolled prods d k w x l)

  reads_deeper : (n d limit : ℕ) → d + n ≡ limit → DeeperReads kind (words prods (suc d)) after limit d (deeper prods n)
  reads_deeper zero d limit e = omega (arith, e)
  reads_deeper (suc n) d limit e =
      let e' : suc d + n ≡ limit = omega (arith, e) in
      (omega (arith, e), λ k follow may ts. reads_again n (suc d) limit e' (reads_deeper n (suc d) limit e') (suc (length ts)) k follow may ts (omega arith))

  reads_spells : (n d limit : ℕ) → d + n ≡ limit → {X : Type 0} (g : Grammar kind V X) (follow : List ℕ)
      → fits after follow g ≡ true → (ts : List T) → Reads (Spells prods d g) (Next kind follow) limit ts (reads prods n g ts)
  reads_spells n d limit e g follow fit ts =
      exact (words prods (suc d)) (words prods d) d after (word_of (suc d)) (word_of d) limit (omega (arith, e)) (deeper prods n) (reads_deeper n d limit e)
      (again prods (deeper prods n) (length ts)) (length ts) (reads_again n d limit e (reads_deeper n d limit e) (length ts)) g follow fit ts (omega arith)

  -- before other tokens
  pub reads_before_next : (n d limit : ℕ) → d + n ≡ limit → {X : Type 0} (g : Grammar kind V X) (follow : List ℕ) → fits after follow g ≡ true → (ts : List T)
      → Holds (Spells prods d g) (Next kind follow) limit ts (reads prods n g ts)
  reads_before_next n d limit e g follow fit ts = holds (Spells prods d g) (Next kind follow) limit ts (reads prods n g ts) tt (reads_spells n d limit e g follow fit ts)

  pub reads_at_end : (n d limit : ℕ) → d + n ≡ limit → {X : Type 0} (g : Grammar kind V X) (follow : List ℕ) → fits after follow g ≡ true → (ts : List T)
      → Reads (Spells prods d g) AtEnd limit ts (reads prods n g ts)
  reads_at_end n d limit e g follow fit ts = reads_before (Spells prods d g) (Next kind follow) limit AtEnd ts (reads prods n g ts)
      (reads_spells n d limit e g follow fit ts) (λ k same. subst (Next kind follow) (sym same) tt)

  -- the longest run of a part
  pub reads_run : (n d limit : ℕ) → d + n ≡ limit → {X : Type 0} (g : Grammar kind V X) (follow : List ℕ) → fits after follow g ≡ true → (ts : List T)
      → Holds (Spells prods d g) AtEnd limit ts (reads prods n g ts)
  reads_run n d limit e g follow fit ts = holds (Spells prods d g) AtEnd limit ts (reads prods n g ts) refl (reads_at_end n d limit e g follow fit ts)

  may_nothing : (o : Option (List ℕ)) → may_follow [] o ≡ true
  may_nothing None = refl
  may_nothing (Some kinds) = refl

  again_at_end : (n d limit : ℕ) → d + n ≡ limit → (m : ℕ) (k : N) (ts : List T) → length ts < m → Reads (words prods d k) AtEnd limit ts (again prods (deeper prods n) m k ts)
  again_at_end n d limit e m k ts short = reads_before (words prods d k) (Next kind []) limit AtEnd ts (again prods (deeper prods n) m k ts)
      (reads_again n d limit e (reads_deeper n d limit e) m k [] (may_nothing (after k)) ts short) (λ j same. subst (Next kind []) (sym same) tt)

  -- a nonterminal is read alike however many productions may stand after one another, if they are more than the tokens
  pub again_enough : (n m : ℕ) (k : N) (ts : List T) → length ts < m → again prods (deeper prods n) m k ts ≡ again prods (deeper prods n) (suc (length ts)) k ts
  again_enough n m k ts short = one_answer (words prods 0 k) n ts (again prods (deeper prods n) m k ts) (again prods (deeper prods n) (suc (length ts)) k ts)
      (again_at_end n 0 n (omega arith) m k ts short) (again_at_end n 0 n (omega arith) (suc (length ts)) k ts (omega arith))

  -- an exact answer is the reader's
  pub only_answer : (n d limit : ℕ) → d + n ≡ limit → {X : Type 0} (g : Grammar kind V X) (follow : List ℕ) → fits after follow g ≡ true → (ts : List T) (o : Out T X)
      → Holds (Spells prods d g) AtEnd limit ts o → o ≡ reads prods n g ts
  only_answer n d limit e g follow fit ts o h = one_answer (Spells prods d g) limit ts o (reads prods n g ts) (reads_of (Spells prods d g) limit ts o h) (reads_at_end n d limit e g follow fit ts)
