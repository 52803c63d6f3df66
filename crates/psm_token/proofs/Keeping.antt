-- What is kept of a quoted text says whether it is within its limit.
use Rattle.std.proofs.Common.{◌≡◌, ℕ, ◌<◌, ◌≤◌, Bool, true, false, cond, eqb, leb, List, length, take, Option, Some, refl, ap, subst, ◌∙◌, arith}
use Rattle.std.specs.Prelude.{Ok, Err, String, string_bytes}
use Rattle.std.specs.Global.{Global}
use Rattle.std.specs.Str.{chars}
use Rattle.std.proofs.lemmas.Bool.Decides.{nat_tests}
use Rattle.psm_text.specs.Name.{name_of, named}
use Rattle.psm_text.specs.Text.{within_most, made}
use Rattle.psm_text.specs.declared.fault.NameFault.TheVariants.{Empty, TooLong as LongName}
use Rattle.psm_text.specs.declared.fault.TextFault.TheVariants.{TooLong as LongText}
use Rattle.psm_token.specs.declared.token.Token.TheVariants.{Name, Text}
use Rattle.psm_token.specs.Faults.{IsLong}
use Rattle.psm_token.specs.Forms.{IsKeptName, IsKeptText}
use Rattle.psm_token.specs.Quotes.{Quoted}
use Rattle.psm_token.specs.Reading.{QuotedRead}
use Rattle.psm_token.proofs.Quoting.{kept_whole, kept_long}

-- the first characters, up to a limit, of what is quoted
abbrev pub FirstKept : ℕ → List ℕ → ℕ → ℕ → List ℕ → Type 0
FirstKept quote cs limit size bs = (all : List ℕ) × Quoted quote cs size all × (chars bs ≡ take limit all)

pub first_kept : (quote : ℕ) (cs : List ℕ) (limit size : ℕ) (o : Option (String Global × ℕ)) (s : String Global) (bs : List ℕ)
    → o ≡ Some (s, size) → QuotedRead quote cs limit o → bs ≡ string_bytes s → FirstKept quote cs limit size bs
first_kept quote cs limit size o s bs e h f =
    let read : QuotedRead quote cs limit (Some (s, size)) = subst (λ (x : Option (String Global × ℕ)). QuotedRead quote cs limit x) e h in
    (read.0, read.1, ap chars f ∙ read.2)

record NameOf (t n : List ℕ) : Type 0 where
  same : n ≡ t
  some : 0 < length t
  limit : length t ≤ 128

name_of_ok : (t n : List ℕ) → name_of t ≡ Ok n → NameOf t n
name_of_ok t n h = by (eqb (length t) 0) (leb (length t) 128) refl refl h
  where
    by : (a b : Bool) → eqb (length t) 0 ≡ a → leb (length t) 128 ≡ b → cond a (Err Empty) (cond b (Ok t) (Err LongName)) ≡ Ok n → NameOf t n
    by true b e f k = absurd cc
    by false true e f k = record { same = cc; some = grind (arith, nat_tests, e); limit = grind (arith, nat_tests, f) }
    by false false e f k = absurd cc

name_of_long : (t : List ℕ) → name_of t ≡ Err LongName → 128 < length t
name_of_long t h = by (eqb (length t) 0) (leb (length t) 128) refl refl h
  where
    by : (a b : Bool) → eqb (length t) 0 ≡ a → leb (length t) 128 ≡ b → cond a (Err Empty) (cond b (Ok t) (Err LongName)) ≡ Err LongName → 128 < length t
    by true b e f k = absurd cc
    by false true e f k = absurd cc
    by false false e f k = grind (arith, nat_tests, f)

pub name_kept : (cs bs name : List ℕ) (size : ℕ) → FirstKept 34 cs 129 size bs → named bs ≡ Ok name → (kept : List ℕ) × Quoted 34 cs size kept × IsKeptName kept (Name name)
name_kept cs bs name size h e =
    let n = name_of_ok (chars bs) name e in
    let whole : take 129 h.0 ≡ h.0 = kept_whole 128 h.0 (omega (arith, n.limit, ap length h.2)) in
    let all : chars bs ≡ h.0 = h.2 ∙ whole in
    (h.0, h.1, record { some = omega (arith, n.some, ap length all); limit = omega (arith, n.limit, ap length all); value = ap (λ (l : List ℕ). Name l) (n.same ∙ all) })

pub name_long : (cs bs : List ℕ) (size : ℕ) → FirstKept 34 cs 129 size bs → named bs ≡ Err LongName → IsLong 34 cs 128
name_long cs bs size h e =
    let n = name_of_long (chars bs) e in
    (size, h.0, h.1, kept_long 128 h.0 (omega (arith, n, ap length h.2)))

record TextOf (t n : List ℕ) : Type 0 where
  same : n ≡ t
  limit : length t ≤ 4000

text_of_ok : (t n : List ℕ) → within_most t ≡ Ok n → TextOf t n
text_of_ok t n h = by (leb (length t) 4000) refl h
  where
    by : (b : Bool) → leb (length t) 4000 ≡ b → cond b (Ok t) (Err LongText) ≡ Ok n → TextOf t n
    by true f k = record { same = cc; limit = grind (arith, nat_tests, f) }
    by false f k = absurd cc

text_of_long : (t : List ℕ) → within_most t ≡ Err LongText → 4000 < length t
text_of_long t h = by (leb (length t) 4000) refl h
  where
    by : (b : Bool) → leb (length t) 4000 ≡ b → cond b (Ok t) (Err LongText) ≡ Err LongText → 4000 < length t
    by true f k = absurd cc
    by false f k = grind (arith, nat_tests, f)

pub text_kept : (cs bs text : List ℕ) (size : ℕ) → FirstKept 39 cs 4001 size bs → made bs ≡ Ok text → (kept : List ℕ) × Quoted 39 cs size kept × IsKeptText kept (Text text)
text_kept cs bs text size h e =
    let n = text_of_ok (chars bs) text e in
    let whole : take 4001 h.0 ≡ h.0 = kept_whole 4000 h.0 (omega (arith, n.limit, ap length h.2)) in
    let all : chars bs ≡ h.0 = h.2 ∙ whole in
    (h.0, h.1, record { limit = omega (arith, n.limit, ap length all); value = ap (λ (l : List ℕ). Text l) (n.same ∙ all) })

pub text_long : (cs bs : List ℕ) (size : ℕ) → FirstKept 39 cs 4001 size bs → made bs ≡ Err LongText → IsLong 39 cs 4000
text_long cs bs size h e =
    let n = text_of_long (chars bs) e in
    (size, h.0, h.1, kept_long 4000 h.0 (omega (arith, n, ap length h.2)))
