-- A type that is written is read again, and a type that is read was written so.
use Rattle.std.proofs.Common.{◌≡◌, ℕ, ◌^◌, ◌<◌, ◌≤◌, Bool, true, false, List, [], ◌∷◌, ◌++◌, Option, Some, None, refl, sym, ap, subst, ◌∙◌, append_assoc, arith}
use Rattle.std.specs.Prelude.{Result, Ok, Err, IfOk, codes, decimal, String, string_bytes, nat_eq, if◌then◌else◌}
use Rattle.psm_value.specs.declared.sqltype.SqlType.{SqlType}
use Rattle.psm_value.specs.declared.sqltype.SqlType.TheVariants as kinds
use Rattle.psm_words.specs.Words.{type_word, FitsType}
use Rattle.psm_words.specs.Reading.{◌>>=◌, after, number_at, closed_number, length_after, digits_and_decimals, numeric_at, plain_type, as_char, as_varchar, type_at}
use Rattle.psm_words.proofs.NumberLaws.{number_again, number_takes}
use Rattle.psm_words.proofs.Several.{bind_some, some_is, after_takes}

-- two numbers, each with a byte after it
regroup : (a b : List ℕ) (c d : ℕ) (rest : List ℕ) → (((a ++ c ∷ []) ++ b) ++ d ∷ []) ++ rest ≡ a ++ (c ∷ (b ++ (d ∷ rest)))
regroup a b c d rest = append_assoc ((a ++ c ∷ []) ++ b) (d ∷ []) rest ∙ append_assoc (a ++ c ∷ []) b (d ∷ rest) ∙ append_assoc a (c ∷ []) (b ++ (d ∷ rest))

-- the pieces that are written one after another
pub numeric_written : {Z E : Type 0} (r : Result (String Z) E) (kind : SqlType) (p d : ℕ) → kind ≡ kinds.Numeric p d
    → IfOk r (λ w. string_bytes w ≡ codes "NUMERIC(" ++ (decimal p ++ (codes "," ++ (decimal d ++ codes ")")))) → IfOk r (λ w. string_bytes w ≡ type_word kind)
numeric_written (Ok w) kind p d e h =
    h ∙ ap (λ (l : List ℕ). codes "NUMERIC(" ++ l) (sym (append_assoc (decimal p ++ 44 ∷ []) (decimal d) (41 ∷ []) ∙ append_assoc (decimal p) (44 ∷ []) (decimal d ++ 41 ∷ []))) ∙ ap type_word (sym e)
numeric_written (Err x) kind p d e h = tt

-- ---- what is written is read

closed_again : (most n : ℕ) (rest : List ℕ) → most < 10 ^ 18 → n ≤ most → closed_number most (decimal n ++ (41 ∷ rest)) ≡ Some (n, rest)
closed_again most n rest small le = ap (λ (o : Option (ℕ × List ℕ)). o >>= λ n. after (codes ")") n.1 >>= λ rest. Some (n.0, rest)) (number_again most n (41 ∷ rest) small le refl)

numeric_again : (p s : ℕ) (rest : List ℕ) → p ≤ 255 → s ≤ 255 → digits_and_decimals (decimal p ++ (44 ∷ (decimal s ++ (41 ∷ rest)))) ≡ Some (kinds.Numeric p s, rest)
numeric_again p s rest hp hs =
    ap (λ (o : Option (ℕ × List ℕ)). o >>= λ p. after (codes ",") p.1 >>= λ t. closed_number 255 t >>= λ d. Some (kinds.Numeric p.0 d.0, d.1)) (number_again 255 p (44 ∷ (decimal s ++ (41 ∷ rest))) (omega arith) hp refl)
    ∙ ap (λ (o : Option (ℕ × List ℕ)). o >>= λ d. Some (kinds.Numeric p d.0, d.1)) (closed_again 255 s rest (omega arith) hs)

pub type_again : (kind : SqlType) (rest : List ℕ) → FitsType kind → type_at (type_word kind ++ rest) ≡ Some (kind, rest)
type_again kinds.SmallInt rest h = refl
type_again kinds.Integer rest h = refl
type_again (kinds.Numeric p s) rest h = ap (λ l. type_at (codes "NUMERIC(" ++ l)) (regroup (decimal p) (decimal s) 44 41 rest) ∙ numeric_again p s rest h.0 h.1
type_again (kinds.Char n) rest h = ap (λ l. type_at (codes "CHAR(" ++ l)) (append_assoc (decimal n) (41 ∷ []) rest) ∙ ap (λ (o : Option (ℕ × List ℕ)). o >>= as_char) (closed_again 65535 n rest (omega arith) h)
type_again (kinds.VarChar n) rest h = ap (λ l. type_at (codes "VARCHAR(" ++ l)) (append_assoc (decimal n) (41 ∷ []) rest) ∙ ap (λ (o : Option (ℕ × List ℕ)). o >>= as_varchar) (closed_again 65535 n rest (omega arith) h)

-- ---- what is read is written so

closed_takes : (most : ℕ) (s : List ℕ) (x : ℕ × List ℕ) → most < 10 ^ 18 → closed_number most s ≡ Some x → (s ≡ decimal x.0 ++ (41 ∷ x.1)) × (x.0 ≤ most)
closed_takes most s x small e =
    let a = bind_some (number_at most s) (λ n. after (codes ")") n.1 >>= λ rest. Some (n.0, rest)) x e in
    let b = bind_some (after (codes ")") a.0.1) (λ rest. Some (a.0.0, rest)) x a.2 in
    let t = number_takes most a.0.0 s a.0.1 small a.1 in
    let u : a.0.1 ≡ 41 ∷ b.0 = after_takes (codes ")") a.0.1 b.0 b.1 in
    let made : ℕ × List ℕ = (a.0.0, b.0) in
    subst (λ (y : ℕ × List ℕ). (s ≡ decimal y.0 ++ (41 ∷ y.1)) × (y.0 ≤ most)) (some_is made x b.2) (t.0 ∙ ap (λ (l : List ℕ). decimal a.0.0 ++ l) u, t.1)

-- what a type that is read says of the text
abbrev Took : List ℕ → SqlType × List ℕ → Type 0
Took s x = (s ≡ type_word x.0 ++ x.1) × FitsType x.0

plain_takes : (word : List ℕ) (kind : SqlType) (s : List ℕ) (x : SqlType × List ℕ) → word ≡ type_word kind → FitsType kind → plain_type word kind s ≡ Some x → Took s x
plain_takes word kind s x w fits e =
    let a = bind_some (after word s) (λ rest. Some (kind, rest)) x e in
    let made : SqlType × List ℕ = (kind, a.0) in
    subst (Took s) (some_is made x a.2) (after_takes word s a.0 a.1 ∙ ap (λ (u : List ℕ). u ++ a.0) w, fits)

-- what the parts of a type say of the whole
numeric_spelled : (s a m b rest : List ℕ) (p d : ℕ) → s ≡ codes "NUMERIC(" ++ a → a ≡ decimal p ++ m → m ≡ 44 ∷ b → b ≡ decimal d ++ (41 ∷ rest) → s ≡ type_word (kinds.Numeric p d) ++ rest
numeric_spelled s a m b rest p d e f g h =
    let inner : a ≡ decimal p ++ (44 ∷ (decimal d ++ (41 ∷ rest))) = f ∙ ap (λ (l : List ℕ). decimal p ++ l) (g ∙ ap (λ (l : List ℕ). 44 ∷ l) h) in
    e ∙ ap (λ (l : List ℕ). codes "NUMERIC(" ++ l) (inner ∙ sym (regroup (decimal p) (decimal d) 44 41 rest))

closed_spelled : (word s a rest : List ℕ) (n : ℕ) → s ≡ word ++ a → a ≡ decimal n ++ (41 ∷ rest) → s ≡ word ++ ((decimal n ++ 41 ∷ []) ++ rest)
closed_spelled word s a rest n e f = e ∙ ap (λ (l : List ℕ). word ++ l) (f ∙ sym (append_assoc (decimal n) (41 ∷ []) rest))

numeric_takes : (s : List ℕ) (x : SqlType × List ℕ) → numeric_at s ≡ Some x → Took s x
numeric_takes s x e =
    let a = bind_some (after (codes "NUMERIC(") s) digits_and_decimals x e in
    let b = bind_some (number_at 255 a.0) (λ p. after (codes ",") p.1 >>= λ t. closed_number 255 t >>= λ d. Some (kinds.Numeric p.0 d.0, d.1)) x a.2 in
    let c = bind_some (after (codes ",") b.0.1) (λ t. closed_number 255 t >>= λ d. Some (kinds.Numeric b.0.0 d.0, d.1)) x b.2 in
    let d = bind_some (closed_number 255 c.0) (λ d. Some (kinds.Numeric b.0.0 d.0, d.1)) x c.2 in
    let digits = number_takes 255 b.0.0 a.0 b.0.1 (omega arith) b.1 in
    let decimals = closed_takes 255 c.0 d.0 (omega arith) d.1 in
    let made : SqlType × List ℕ = (kinds.Numeric b.0.0 d.0.0, d.0.1) in
    subst (Took s) (some_is made x d.2)
    (numeric_spelled s a.0 b.0.1 c.0 d.0.1 b.0.0 d.0.0 (after_takes (codes "NUMERIC(") s a.0 a.1) digits.0 (after_takes (codes ",") b.0.1 c.0 c.1) decimals.0, (digits.1, decimals.1))

char_takes : (s : List ℕ) (x : SqlType × List ℕ) → (length_after (codes "CHAR(") s >>= as_char) ≡ Some x → Took s x
char_takes s x e =
    let a = bind_some (length_after (codes "CHAR(") s) as_char x e in
    let b = bind_some (after (codes "CHAR(") s) (closed_number 65535) a.0 a.1 in
    let inner = closed_takes 65535 b.0 a.0 (omega arith) b.2 in
    let made : SqlType × List ℕ = (kinds.Char a.0.0, a.0.1) in
    subst (Took s) (some_is made x a.2) (closed_spelled (codes "CHAR(") s b.0 a.0.1 a.0.0 (after_takes (codes "CHAR(") s b.0 b.1) inner.0, inner.1)

varchar_takes : (s : List ℕ) (x : SqlType × List ℕ) → (length_after (codes "VARCHAR(") s >>= as_varchar) ≡ Some x → Took s x
varchar_takes s x e =
    let a = bind_some (length_after (codes "VARCHAR(") s) as_varchar x e in
    let b = bind_some (after (codes "VARCHAR(") s) (closed_number 65535) a.0 a.1 in
    let inner = closed_takes 65535 b.0 a.0 (omega arith) b.2 in
    let made : SqlType × List ℕ = (kinds.VarChar a.0.0, a.0.1) in
    subst (Took s) (some_is made x a.2) (closed_spelled (codes "VARCHAR(") s b.0 a.0.1 a.0.0 (after_takes (codes "VARCHAR(") s b.0 b.1) inner.0, inner.1)

type_takes_by : (a b c d e : Bool) (s : List ℕ) (x : SqlType × List ℕ)
    → (if a then plain_type (codes "SMALLINT") kinds.SmallInt s
    else if b then plain_type (codes "INTEGER") kinds.Integer s
    else if c then numeric_at s
    else if d then (length_after (codes "CHAR(") s >>= as_char)
    else if e then (length_after (codes "VARCHAR(") s >>= as_varchar)
    else None) ≡ Some x → Took s x
type_takes_by true b c d e s x h = plain_takes (codes "SMALLINT") kinds.SmallInt s x refl tt h
type_takes_by false true c d e s x h = plain_takes (codes "INTEGER") kinds.Integer s x refl tt h
type_takes_by false false true d e s x h = numeric_takes s x h
type_takes_by false false false true e s x h = char_takes s x h
type_takes_by false false false false true s x h = varchar_takes s x h
type_takes_by false false false false false s x h = absurd cc

pub type_takes : (s : List ℕ) (kind : SqlType) (rest : List ℕ) → type_at s ≡ Some (kind, rest) → (s ≡ type_word kind ++ rest) × FitsType kind
type_takes [] kind rest e = absurd cc
type_takes (c ∷ s) kind rest e = type_takes_by (nat_eq c 83) (nat_eq c 73) (nat_eq c 78) (nat_eq c 67) (nat_eq c 86) (c ∷ s) (kind, rest) e
