-- A value that is written is read again, and a value that is read was written so.
use Rattle.std.proofs.Common.{◌≡◌, ℕ, ◌^◌, ◌<◌, ◌≤◌, Bool, true, false, nat_le, List, [], ◌∷◌, ◌++◌, length, Option, Some, unsigned_abs, refl, sym, ap, subst, ◌∙◌, arith}
use Rattle.std.specs.Prelude.{Result, Ok, Err, codes, nat_eq, if◌then◌else◌}
use Rattle.std.specs.Result.{result_ok}
use Rattle.psm_text.specs.declared.fault.TextFault.{TextFault}
use Rattle.psm_text.specs.declared.fault.TextFault.TheVariants.{TooLong}
use Rattle.std.specs.Str.{all_scalars}
use Rattle.std.proofs.lemmas.Bool.{le-leb, leb-true, ne_eqb}
use Rattle.psm_num.specs.Num.{Num}
use Rattle.psm_num.specs.Printed.{printed}
use Rattle.psm_value.specs.declared.datum.Datum.{Datum}
use Rattle.psm_value.specs.declared.datum.Datum.TheVariants as data_of
use Rattle.psm_words.specs.Words.{quoted, datum_word, IsDatum}
use Rattle.psm_words.specs.Reading.{◌>>=◌, after, quoted_at, decimal_at, as_text, as_number, as_null, datum_at, ends_datum}
use Rattle.psm_words.proofs.QuotedLaws.{quoted_again, quoted_takes}
use Rattle.psm_words.proofs.Several.{bind_some, some_is, after_takes}
use Rattle.psm_words.proofs.DecimalLaws.{decimal_again, decimal_takes, first_printed}

abbrev kept : Bool → List ℕ → Result (List ℕ) TextFault
kept b t = if b then Ok t else Err TooLong

-- ---- what is written is read

number_again : (n : Num) (rest : List ℕ) → n.scale ≤ 18 → unsigned_abs n.coef < 10 ^ 18 → ends_datum (data_of.Num n) rest ≡ true → datum_at (printed n ++ rest) ≡ Some (data_of.Num n, rest)
number_again n rest room small h =
    let f = first_printed n.coef n.scale rest (omega (arith, small)) in
    let low : 45 ≤ f.0 = f.3 in
    let high : f.0 ≤ 57 = f.4 in
    let no_null : nat_eq f.0 78 ≡ false = ne_eqb f.0 78 (λ e. omega (arith, high, e)) in
    let no_quote : nat_eq f.0 39 ≡ false = ne_eqb f.0 39 (λ e. omega (arith, low, e)) in
    ap datum_at f.2
    ∙ ap (λ b. if b then (after (codes "NULL") (f.0 ∷ f.1) >>= as_null) else if nat_eq f.0 39 then (quoted_at (f.0 ∷ f.1) >>= as_text) else (decimal_at (f.0 ∷ f.1) >>= as_number)) no_null
    ∙ ap (λ b. if b then (quoted_at (f.0 ∷ f.1) >>= as_text) else (decimal_at (f.0 ∷ f.1) >>= as_number)) no_quote
    ∙ ap (λ u. decimal_at u >>= as_number) (sym f.2)
    ∙ ap (λ (o : Option (Num × List ℕ)). o >>= as_number) (decimal_again n rest room small h)

pub datum_again : (d : Datum) (rest : List ℕ) → IsDatum d → ends_datum d rest ≡ true → datum_at (datum_word d ++ rest) ≡ Some (d, rest)
datum_again data_of.Null rest fits h = refl
datum_again (data_of.Num n) rest fits h = number_again n rest fits.0 fits.1 h
datum_again (data_of.Text t) rest fits h =
    ap (λ (o : Option (List ℕ × List ℕ)). o >>= as_text) (quoted_again t rest fits.1)
    ∙ ap (λ b. result_ok (kept b t) >>= λ t. Some (data_of.Text t, rest)) (le-leb (length t) 4000 fits.0)

-- ---- what is read is written so

abbrev Took : List ℕ → Datum × List ℕ → Type 0
Took s x = (s ≡ datum_word x.0 ++ x.1) × IsDatum x.0 × (ends_datum x.0 x.1 ≡ true)

null_takes : (s : List ℕ) (x : Datum × List ℕ) → (after (codes "NULL") s >>= as_null) ≡ Some x → Took s x
null_takes s x e =
    let a = bind_some (after (codes "NULL") s) as_null x e in
    let made : Datum × List ℕ = (data_of.Null, a.0) in
    subst (Took s) (some_is made x a.2) (after_takes (codes "NULL") s a.0 a.1, tt, refl)

text_takes : (s : List ℕ) (x : Datum × List ℕ) → (quoted_at s >>= as_text) ≡ Some x → Took s x
text_takes s x e =
    let a = bind_some (quoted_at s) as_text x e in
    let t = quoted_takes s a.0.0 a.0.1 a.1 in
    by a.0.0 a.0.1 t.0 t.1 (nat_le (length a.0.0) 4000) refl a.2
  where
    by : (u rest : List ℕ) → s ≡ quoted u ++ rest → all_scalars u ≡ true → (b : Bool) → nat_le (length u) 4000 ≡ b → (result_ok (kept b u) >>= λ t. Some (data_of.Text t, rest)) ≡ Some x → Took s x
    by u rest p q false f e = absurd cc
    by u rest p q true f e =
        let made : Datum × List ℕ = (data_of.Text u, rest) in
        subst (Took s) (some_is made x e) (p, (leb-true (length u) 4000 f, q), refl)

number_takes : (s : List ℕ) (x : Datum × List ℕ) → (decimal_at s >>= as_number) ≡ Some x → Took s x
number_takes s x e =
    let a = bind_some (decimal_at s) as_number x e in
    let t = decimal_takes s a.0 a.1 in
    let made : Datum × List ℕ = (data_of.Num a.0.0, a.0.1) in
    subst (Took s) (some_is made x a.2) (t.0, (t.1, t.2), t.3)

takes_by : (a b : Bool) (s : List ℕ) (x : Datum × List ℕ)
    → (if a then (after (codes "NULL") s >>= as_null) else if b then (quoted_at s >>= as_text) else (decimal_at s >>= as_number)) ≡ Some x → Took s x
takes_by true b s x e = null_takes s x e
takes_by false true s x e = text_takes s x e
takes_by false false s x e = number_takes s x e

pub datum_takes : (s : List ℕ) (d : Datum) (rest : List ℕ) → datum_at s ≡ Some (d, rest) → (s ≡ datum_word d ++ rest) × IsDatum d × (ends_datum d rest ≡ true)
datum_takes [] d rest e = absurd cc
datum_takes (c ∷ s) d rest e = takes_by (nat_eq c 78) (nat_eq c 39) (c ∷ s) (d, rest) e
