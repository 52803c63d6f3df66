-- A file is one list of tokens at most, or it has one first fault.
use Rattle.std.proofs.Common.{◌≡◌, ℕ, zero, suc, ◌<◌, ◌≤◌, ◌⊎◌, Bool, true, false, ltb, List, [], ◌∷◌, ◌++◌, length, take, inl, inr, refl, sym, ap, subst, ◌∙◌, append_assoc, arith}
use Rattle.std.specs.Prelude.{Result, Ok, Err, IfOk, IfErr}
use Rattle.std.specs.Str.{IsUtf8, chars}
use Rattle.std.specs.Str.Lossy.{utf8_valid_len}
use Rattle.std.proofs.lemmas.Bool.Decides.{nat_tests}
use Rattle.std.proofs.lemmas.List.{append-nil, length-append, length_push}
use Rattle.psm_token.specs.declared.fault.LexFault.{LexFault}
use Rattle.psm_token.specs.declared.fault.LexFault.TheVariants.{BadUtf8, BadChar, OpenText, OpenName, LongText, LongNumber, LongName, ManyTokens, Memory}
use Rattle.psm_token.specs.declared.place.Place.{Place}
use Rattle.psm_token.specs.declared.token.Placed.{Placed}
use Rattle.psm_token.specs.declared.token.Token.{Token}
use Rattle.psm_token.specs.Faults.{IsFaulty}
use Rattle.psm_token.specs.Forms.{IsToken, IsGap}
use Rattle.psm_token.specs.Fronts.{front_of}
use Rattle.psm_token.specs.Listed.{Tokens}
use Rattle.psm_token.specs.Places.{start, place_after}
use Rattle.psm_token.specs.Answers.{OrMemory}
use Rattle.psm_token.specs.Spells.{At, at_start, following, Piece, Pieces, Reaches, Spells, HasToken, StopsAt, IsTokenFault, IsFirstFault, most_tokens}
use Rattle.psm_token.specs.Answers.{GivesTokens, GivesFault}
use Rattle.psm_token.specs.Tokens.{is_name}
use Rattle.psm_token.proofs.TokenOnce.{token_once, gap_once, gap_token, faulty_gap, faulty_token, faulty_once}

piece_once : (s : At) (ts us : List Placed) (s1 s2 : At) → Piece s ts s1 → Piece s us s2 → (ts ≡ us) × (s1 ≡ s2)
piece_once s ts us s1 s2 (inl g) (inl h) =
    let e = gap_once (front_of s.after_name s.rest) s.rest g.size h.size g.form h.form in
    (g.nothing ∙ sym h.nothing, g.leads ∙ ap (λ (n : ℕ). following n false s) e ∙ sym h.leads)
piece_once s ts us s1 s2 (inl g) (inr h) = absurd (gap_token (front_of s.after_name s.rest) s.rest g.size h.size h.token g.form h.form)
piece_once s ts us s1 s2 (inr g) (inl h) = absurd (gap_token (front_of s.after_name s.rest) s.rest h.size g.size g.token h.form g.form)
piece_once s ts us s1 s2 (inr g) (inr h) =
    let e = token_once (front_of s.after_name s.rest) s.rest g.size h.size g.token h.token g.form h.form in
    let one : Token → List Placed = λ t. record { token = t; place = s.place } ∷ [] in
    (g.listed ∙ ap one e.1 ∙ sym h.listed, g.leads ∙ ap (λ (n : ℕ). following n (is_name g.token) s) e.0 ∙ ap (λ (t : Token). following h.size (is_name t) s) e.1 ∙ sym h.leads)

pieces_once : (n : ℕ) (s : At) (ts us : List Placed) (s1 s2 : At) → Pieces n s ts s1 → Pieces n s us s2 → (ts ≡ us) × (s1 ≡ s2)
pieces_once zero s ts us s1 s2 h k = (h.0 ∙ sym k.0, h.1 ∙ sym k.1)
pieces_once (suc n) s ts us s1 s2 h k =
    let e = pieces_once n s h.1 k.1 h.0 k.0 h.3 k.3 in
    let d = piece_once k.0 h.2 k.2 s1 s2 (subst (λ (m : At). Piece m h.2 s1) e.1 h.4) k.4 in
    (h.5 ∙ ap (λ (l : List Placed). l ++ h.2) e.0 ∙ ap (λ (l : List Placed). k.1 ++ l) d.0 ∙ sym k.5, d.1)

-- more pieces begin with fewer, and a piece after them
record Longer (n : ℕ) (s : At) (ts : List Placed) : Type 0 where
  front : List Placed
  next : List Placed
  others : List Placed
  mid : At
  then : At
  before : Pieces n s front mid
  piece : Piece mid next then
  whole : ts ≡ (front ++ next) ++ others

longer : (m n : ℕ) (s s' : At) (ts : List Placed) → n < m → Pieces m s ts s' → Longer n s ts
longer zero n s s' ts lt h = absurd (omega arith)
longer (suc m) n s s' ts lt h = by (ltb n m) refl (longer m n s h.0 h.1)
  where
    by : (b : Bool) → ltb n m ≡ b → (n < m → Pieces m s h.1 h.0 → Longer n s h.1) → Longer n s ts
    by true e again =
        let r = again (grind (arith, nat_tests, e)) h.3 in
        record {
          front = r.front;
          next = r.next;
          others = r.others ++ h.2;
          mid = r.mid;
          then = r.then;
          before = r.before;
          piece = r.piece;
          whole = h.5 ∙ ap (λ (l : List Placed). l ++ h.2) r.whole ∙ append_assoc (r.front ++ r.next) r.others h.2;
        }
    by false e again =
        let ge : m ≤ n = grind (arith, nat_tests, e) in
        let same : m ≡ n = omega arith in
        record {
          front = h.1;
          next = h.2;
          others = [];
          mid = h.0;
          then = s';
          before = subst (λ (k : ℕ). Pieces k s h.1 h.0) same h.3;
          piece = h.4;
          whole = h.5 ∙ sym (append-nil (h.1 ++ h.2));
        }

-- no piece more may be read
abbrev pub IsStuck : List Placed → At → Type 0
IsStuck ts s = (vs : List Placed) (s' : At) → Piece s vs s' → length (ts ++ vs) ≤ most_tokens → ⊥

not_shorter : (bytes : List ℕ) (ts us : List Placed) (s1 s2 : At) → (r : Reaches bytes ts s1) → IsStuck ts s1 → (q : Reaches bytes us s2) → r.count < q.count → ⊥
not_shorter bytes ts us s1 s2 r stuck q lt =
    let l = longer q.count r.count (at_start bytes) s2 us lt q.pieces in
    let e = pieces_once r.count (at_start bytes) ts l.front s1 l.mid r.pieces l.before in
    stuck l.next l.then (subst (λ (m : At). Piece m l.next l.then) (sym e.1) l.piece)
    (omega (arith, q.limit, ap length l.whole, length-append (l.front ++ l.next) l.others, ap (λ (x : List Placed). length (x ++ l.next)) e.0))

same_stop : (bytes : List ℕ) (ts us : List Placed) (s1 s2 : At) → Reaches bytes ts s1 → IsStuck ts s1 → Reaches bytes us s2 → IsStuck us s2 → (ts ≡ us) × (s1 ≡ s2)
same_stop bytes ts us s1 s2 r stuck q blocked = by (ltb r.count q.count) (ltb q.count r.count) refl refl
  where
    by : (a b : Bool) → ltb r.count q.count ≡ a → ltb q.count r.count ≡ b → (ts ≡ us) × (s1 ≡ s2)
    by true b e f = absurd (not_shorter bytes ts us s1 s2 r stuck q (grind (arith, nat_tests, e)))
    by false true e f = absurd (not_shorter bytes us ts s2 s1 q blocked r (grind (arith, nat_tests, f)))
    by false false e f =
        let le : q.count ≤ r.count = grind (arith, nat_tests, e) in
        let ge : r.count ≤ q.count = grind (arith, nat_tests, f) in
        let same : q.count ≡ r.count = omega arith in
        pieces_once r.count (at_start bytes) ts us s1 s2 r.pieces (subst (λ (k : ℕ). Pieces k (at_start bytes) us s2) same q.pieces)

end_stuck : (ts : List Placed) (s : At) → s.rest ≡ [] → IsStuck ts s
end_stuck ts s e vs s' (inl g) l = subst (λ (r : List ℕ). IsGap (front_of s.after_name r) r g.size) e g.form
end_stuck ts s e vs s' (inr g) l = subst (λ (r : List ℕ). IsToken (front_of s.after_name r) r g.size g.token) e g.form

-- ---- stops

-- a faulty token, or one too many
data Stops (ts : List Placed) (s : At) (f : LexFault) : Type 0 where
  Faulty : IsFaulty (front_of s.after_name s.rest) s.rest s.place f → Stops ts s f
  Many : length ts ≡ most_tokens → HasToken s → f ≡ ManyTokens s.place → Stops ts s f

stops_by : (ts : List Placed) (s : At) (f : LexFault) → StopsAt ts s f → Stops ts s f
stops_by ts s (ManyTokens p) h = Many h.0 h.1 (ap (λ (q : Place). ManyTokens q) h.2)
stops_by ts s (BadUtf8 p) h = Faulty h
stops_by ts s (BadChar p) h = Faulty h
stops_by ts s (OpenText p) h = Faulty h
stops_by ts s (OpenName p) h = Faulty h
stops_by ts s (LongText p) h = Faulty h
stops_by ts s (LongNumber p) h = Faulty h
stops_by ts s (LongName p) h = Faulty h
stops_by ts s Memory h = Faulty h

stops_stuck : (ts : List Placed) (s : At) (f : LexFault) → Stops ts s f → IsStuck ts s
stops_stuck ts s f (Faulty h) vs s' (inl g) l = faulty_gap (front_of s.after_name s.rest) s.rest s.place f g.size h g.form
stops_stuck ts s f (Faulty h) vs s' (inr g) l = faulty_token (front_of s.after_name s.rest) s.rest s.place f g.size g.token h g.form
stops_stuck ts s f (Many n t e) vs s' (inl g) l = gap_token (front_of s.after_name s.rest) s.rest g.size t.0 t.1 g.form t.2
stops_stuck ts s f (Many n t e) vs s' (inr g) l = omega (arith, n, l, ap (λ (x : List Placed). length (ts ++ x)) g.listed, length_push ts (record { token = g.token; place = s.place }))

stops_once : (ts : List Placed) (s : At) (f g : LexFault) → Stops ts s f → Stops ts s g → f ≡ g
stops_once ts s f g (Faulty h) (Faulty k) = faulty_once (front_of s.after_name s.rest) s.rest s.place f g h k
stops_once ts s f g (Faulty h) (Many n t e) = absurd (faulty_token (front_of s.after_name s.rest) s.rest s.place f t.0 t.1 h t.2)
stops_once ts s f g (Many n t e) (Faulty h) = absurd (faulty_token (front_of s.after_name s.rest) s.rest s.place g t.0 t.1 h t.2)
stops_once ts s f g (Many n t e) (Many m u d) = e ∙ sym d

stops_not_end : (ts : List Placed) (s : At) (f : LexFault) → Stops ts s f → s.rest ≡ [] → ⊥
stops_not_end ts s f (Faulty h) e = subst (λ (r : List ℕ). IsFaulty (front_of s.after_name r) r s.place f) e h
stops_not_end ts s f (Many n t d) e = subst (λ (r : List ℕ). IsToken (front_of s.after_name r) r t.0 t.1) e t.2

-- ---- the file

pub spells_once : (bytes : List ℕ) (ts us : Tokens) → Spells bytes ts → Spells bytes us → ts ≡ us
spells_once bytes ts us h k =
    let e = same_stop bytes ts.tokens us.tokens h.last k.last h.reaches (end_stuck ts.tokens h.last h.whole) k.reaches (end_stuck us.tokens k.last k.whole) in
    let ends : ts.end ≡ us.end = h.ends ∙ ap (λ (s : At). s.place) e.1 ∙ sym k.ends in
    let listed : List Placed → Place → Tokens = λ l p. record { tokens = l; end = p } in
    ap (λ (l : List Placed). listed l ts.end) e.0 ∙ ap (λ (p : Place). listed us.tokens p) ends

token_fault_once : (bytes : List ℕ) (f g : LexFault) → IsTokenFault bytes f → IsTokenFault bytes g → f ≡ g
token_fault_once bytes f g h k =
    let a = stops_by h.before h.at f h.stops in
    let b = stops_by k.before k.at g k.stops in
    let e = same_stop bytes h.before k.before h.at k.at h.reaches (stops_stuck h.before h.at f a) k.reaches (stops_stuck k.before k.at g b) in
    stops_once k.before k.at f g (subst (λ (s : At). Stops k.before s f) e.1 (subst (λ (l : List Placed). Stops l h.at f) e.0 a)) b

token_fault_not : (bytes : List ℕ) (f : LexFault) (ts : Tokens) → IsTokenFault bytes f → Spells bytes ts → ⊥
token_fault_not bytes f ts h k =
    let a = stops_by h.before h.at f h.stops in
    let e = same_stop bytes h.before ts.tokens h.at k.last h.reaches (stops_stuck h.before h.at f a) k.reaches (end_stuck ts.tokens k.last k.whole) in
    stops_not_end h.before h.at f a (ap (λ (s : At). s.rest) e.1 ∙ k.whole)

-- bytes that are no character, or a token's fault
data First (bytes : List ℕ) (f : LexFault) : Type 0 where
  Bytes : ¬ (IsUtf8 bytes) → f ≡ BadUtf8 (place_after (chars (take (utf8_valid_len bytes) bytes)) start) → First bytes f
  Tokened : IsTokenFault bytes f → First bytes f

first_by : (bytes : List ℕ) (f : LexFault) → IsFirstFault bytes f → First bytes f
first_by bytes (BadUtf8 p) h = Bytes h.0 (ap (λ (q : Place). BadUtf8 q) h.1)
first_by bytes (BadChar p) h = Tokened h
first_by bytes (OpenText p) h = Tokened h
first_by bytes (OpenName p) h = Tokened h
first_by bytes (LongText p) h = Tokened h
first_by bytes (LongNumber p) h = Tokened h
first_by bytes (LongName p) h = Tokened h
first_by bytes (ManyTokens p) h = Tokened h
first_by bytes Memory h = Tokened h

first_first_once : (bytes : List ℕ) (f g : LexFault) → First bytes f → First bytes g → f ≡ g
first_first_once bytes f g (Bytes u e) (Bytes v d) = e ∙ sym d
first_first_once bytes f g (Bytes u e) (Tokened k) = absurd (u k.reaches.utf8)
first_first_once bytes f g (Tokened h) (Bytes v d) = absurd (v h.reaches.utf8)
first_first_once bytes f g (Tokened h) (Tokened k) = token_fault_once bytes f g h k

pub first_fault_once : (bytes : List ℕ) (f g : LexFault) → IsFirstFault bytes f → IsFirstFault bytes g → f ≡ g
first_fault_once bytes f g h k = first_first_once bytes f g (first_by bytes f h) (first_by bytes g k)

first_not : (bytes : List ℕ) (f : LexFault) (ts : Tokens) → First bytes f → Spells bytes ts → ⊥
first_not bytes f ts (Bytes u e) k = u k.reaches.utf8
first_not bytes f ts (Tokened h) k = token_fault_not bytes f ts h k

-- a file with a fault is no list of tokens
pub fault_excludes : (bytes : List ℕ) (f : LexFault) (ts : Tokens) → IsFirstFault bytes f → Spells bytes ts → ⊥
fault_excludes bytes f ts h k = first_not bytes f ts (first_by bytes f h) k

-- ---- answers

or_memory : {P : Type 0} (f : LexFault) → OrMemory f P → (f ≡ Memory) ⊎ P
or_memory (BadUtf8 p) h = inr h
or_memory (BadChar p) h = inr h
or_memory (OpenText p) h = inr h
or_memory (OpenName p) h = inr h
or_memory (LongText p) h = inr h
or_memory (LongNumber p) h = inr h
or_memory (LongName p) h = inr h
or_memory (ManyTokens p) h = inr h
or_memory Memory h = inl refl

pub answers_tokens : (text bytes : List ℕ) (r : Result Tokens LexFault) → text ≡ bytes → IfOk r (λ ts. Spells text ts) → IfErr r (λ f. OrMemory f (IsTokenFault text f))
    → (ts : Tokens) → Spells bytes ts → GivesTokens ts r
answers_tokens text bytes (Ok us) e h k ts s = spells_once text us ts h (subst (λ (b : List ℕ). Spells b ts) (sym e) s)
answers_tokens text bytes (Err f) e h k ts s =
    elim (or_memory {P = IsTokenFault text f} f k) as (λ _. f ≡ Memory) [
      | inl m ↦ m
      | inr t ↦ absurd (token_fault_not text f ts t (subst (λ (b : List ℕ). Spells b ts) (sym e) s))
    ]

pub answers_fault : (text bytes : List ℕ) (r : Result Tokens LexFault) → text ≡ bytes → IfOk r (λ ts. Spells text ts) → IfErr r (λ f. OrMemory f (IsTokenFault text f))
    → (f : LexFault) → IsFirstFault bytes f → GivesFault f r
answers_fault text bytes (Ok us) e h k f s = fault_excludes bytes f us s (subst (λ (b : List ℕ). Spells b us) e h)
answers_fault text bytes (Err g) e h k f s =
    elim (or_memory {P = IsTokenFault text g} g k) as (λ _. (g ≡ f) ⊎ (g ≡ Memory)) [
      | inl m ↦ inr m
      | inr t ↦ inl (first_first_once bytes g f (Tokened (subst (λ (b : List ℕ). IsTokenFault b g) e t)) (first_by bytes f s))
    ]
