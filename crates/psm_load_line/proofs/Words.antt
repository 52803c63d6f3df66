-- The words of lines are read as they are written.
use Rattle.std.proofs.Common.{◌≡◌, ℕ, zero, suc, ◌<◌, ◌≤◌, ◌^◌, Bool, true, false, ◌&&◌, not, List, [], ◌∷◌, ◌++◌, length, Option, Some, None, Result, Ok, Err, refl, sym, ap, subst, ◌∙◌, arith, eqb-true}
use Rattle.std.specs.Prelude.{codes, decimal, nat_eq, nat_le, if◌then◌else◌}
use Rattle.std.specs.Char.{is_ascii_digit}
use Rattle.std.specs.List.{flat_map}
use Rattle.std.specs.Result.{result_ok}
use Rattle.std.proofs.lemmas.Fmt.{decimal_digit}
use Rattle.psm_text.specs.declared.fault.NameFault.{NameFault}
use Rattle.psm_text.specs.declared.fault.NameFault.TheVariants.{Empty, TooLong}
use Rattle.psm_text.specs.Name.{name_of}
use Rattle.psm_value.specs.declared.datum.Datum.{Datum}
use Rattle.psm_value.specs.declared.datum.Datum.TheVariants as data_of
use Rattle.psm_value.specs.declared.sqltype.SqlType.{SqlType}
use Rattle.psm_value.specs.declared.sqltype.SqlType.TheVariants as kinds
use Rattle.psm_exprcode.specs.declared.op.Letter.{Letter}
use Rattle.psm_words.specs.Words.{character, datum_word, number, quoted, stack_word, state_word, type_word, FitsType, IsDatum, IsStateWord}
use Rattle.psm_words.specs.Reading.{◌>>=◌, begins_with_digit, begins_with_letter, begins_with_point, datum_at, ends_datum, ends_stack, number_at, quoted_at, stack_at, state_at, type_at}
use Rattle.psm_words.proofs.DatumLaws.{datum_again, datum_takes}
use Rattle.psm_words.proofs.NumberLaws.{number_again, number_takes}
use Rattle.psm_words.proofs.QuotedLaws.{quoted_again, quoted_takes}
use Rattle.psm_words.proofs.Several.{bind_some, some_is}
use Rattle.psm_words.proofs.StackLaws.{stack_again, stack_takes}
use Rattle.psm_words.proofs.StateLaws.{state_again, state_takes}
use Rattle.psm_words.proofs.TypeLaws.{type_again, type_takes}
use Rattle.psm_object.specs.Words.{flag}
use Rattle.psm_load_line.specs.Heads.{IfThere, IsIndex, IsName, or_dash}
use Rattle.psm_load_line.specs.Readers.{as_name, as_some, dash_or, flag_at, flag_of, index_at, name_at, Reader}
use Rattle.psm_load_line.proofs.Spelled.{is_boundary, Spelled}

-- ---- a blank is no part of a word

no_digit : (rest : List ℕ) → is_boundary rest ≡ true → begins_with_digit rest ≡ false
no_digit [] h = refl
no_digit (c ∷ s) h = ap is_ascii_digit (eqb-true c 32 h)

no_letter : (rest : List ℕ) → is_boundary rest ≡ true → begins_with_letter rest ≡ false
no_letter [] h = refl
no_letter (c ∷ s) h = ap (λ d. begins_with_letter (d ∷ s)) (eqb-true c 32 h)

no_point : (rest : List ℕ) → is_boundary rest ≡ true → begins_with_point rest ≡ false
no_point [] h = refl
no_point (c ∷ s) h = ap (λ d. begins_with_point (d ∷ s)) (eqb-true c 32 h)

and_false : (b : Bool) → (b && false) ≡ false
and_false true = refl
and_false false = refl

after_datum : (d : Datum) (rest : List ℕ) → is_boundary rest ≡ true → ends_datum d rest ≡ true
after_datum data_of.Null rest h = refl
after_datum (data_of.Num n) rest h =
    ap (λ b. not b && not (nat_eq n.scale 0 && begins_with_point rest)) (no_digit rest h)
    ∙ ap (λ b. not (nat_eq n.scale 0 && b)) (no_point rest h) ∙ ap not (and_false (nat_eq n.scale 0))
after_datum (data_of.Text t) rest h = refl

after_stack : (ls : List Letter) (rest : List ℕ) → is_boundary rest ≡ true → ends_stack ls rest ≡ true
after_stack [] rest h = refl
after_stack (l ∷ ls) rest h = ap not (no_letter rest h)

-- ---- words

pub number_spelled : (most : ℕ) → most < 10 ^ 18 → Spelled number (λ n. n ≤ most) (number_at most)
number_spelled most small = record {
  again = λ n rest v b. number_again most n rest small v (no_digit rest b);
  takes = λ s n rest e. let t = number_takes most n s rest small e in (t.0, t.1);
}

pub index_spelled : Spelled number IsIndex index_at
index_spelled = number_spelled 4294967295 (omega arith)

flag_is : (n : ℕ) → n ≤ 1 → decimal n ≡ flag (nat_eq n 1)
flag_is zero h = decimal_digit 0 (omega arith)
flag_is (suc zero) h = decimal_digit 1 (omega arith)
flag_is (suc (suc n)) h = absurd (omega (arith, h))

flag_number : (b : Bool) → (n : ℕ) × (n ≤ 1) × (decimal n ≡ flag b) × (nat_eq n 1 ≡ b)
flag_number false = (0, omega arith, decimal_digit 0 (omega arith), refl)
flag_number true = (1, omega arith, decimal_digit 1 (omega arith), refl)

pub flag_spelled : Spelled flag (λ b. Unit {0}) flag_at
flag_spelled = record { again = again; takes = takes } where
  again : (b : Bool) (rest : List ℕ) → Unit {0} → is_boundary rest ≡ true → flag_at (flag b ++ rest) ≡ Some (b, rest)
  again b rest v h =
      let n = flag_number b in
      ap (λ w. flag_at (w ++ rest)) (sym n.2)
      ∙ ap (λ (o : Option (ℕ × List ℕ)). o >>= flag_of) (number_again 1 n.0 rest (omega arith) n.1 (no_digit rest h))
      ∙ ap (λ (c : Bool). Some (c, rest)) n.3

  takes : (s : List ℕ) (b : Bool) (rest : List ℕ) → flag_at s ≡ Some (b, rest) → (s ≡ flag b ++ rest) × Unit {0}
  takes s b rest e =
      let f = bind_some (number_at 1 s) flag_of (b, rest) e in
      let t = number_takes 1 f.0.0 s f.0.1 (omega arith) f.1 in
      let made : Bool × List ℕ = (nat_eq f.0.0 1, f.0.1) in
      (subst (λ (x : Bool × List ℕ). s ≡ flag x.0 ++ x.1) (some_is made (b, rest) f.2) (t.0 ∙ ap (λ w. w ++ f.0.1) (flag_is f.0.0 t.1)), tt)

name_is : (t name : List ℕ) → result_ok (name_of t) ≡ Some name → (name ≡ t) × (name_of t ≡ Ok t)
name_is t name e = by (nat_eq (length t) 0) (nat_le (length t) 128) refl refl e where
  by : (a b : Bool) → nat_eq (length t) 0 ≡ a → nat_le (length t) 128 ≡ b → result_ok (if a then Err Empty else if b then Ok t else Err TooLong) ≡ Some name → (name ≡ t) × (name_of t ≡ Ok t)
  by true b p q e = absurd (cc)
  by false false p q e = absurd (cc)
  by false true p q e = (
    sym (some_is t name e),
    ap (λ a. if a then Err Empty else if nat_le (length t) 128 then Ok t else Err TooLong) p ∙ ap (λ b. if b then Ok t else Err TooLong) q,
  )

pub name_spelled : Spelled quoted IsName name_at
name_spelled = record { again = again; takes = takes } where
  again : (t rest : List ℕ) → IsName t → is_boundary rest ≡ true → name_at (quoted t ++ rest) ≡ Some (t, rest)
  again t rest v h =
      ap (λ (o : Option (List ℕ × List ℕ)). o >>= as_name) (quoted_again t rest v.0)
      ∙ ap (λ (r : Result (List ℕ) NameFault). result_ok r >>= λ name. Some (name, rest)) v.1

  takes : (s t rest : List ℕ) → name_at s ≡ Some (t, rest) → (s ≡ quoted t ++ rest) × IsName t
  takes s t rest e =
      let f = bind_some (quoted_at s) as_name (t, rest) e in
      let g = bind_some (result_ok (name_of f.0.0)) (λ name. Some (name, f.0.1)) (t, rest) f.2 in
      let n = name_is f.0.0 g.0 g.1 in
      let q = quoted_takes s f.0.0 f.0.1 f.1 in
      let made : List ℕ × List ℕ = (g.0, f.0.1) in
      subst (λ (x : List ℕ × List ℕ). (s ≡ quoted x.0 ++ x.1) × IsName x.0) (some_is made (t, rest) g.2)
      (subst (λ (u : List ℕ). (s ≡ quoted u ++ f.0.1) × IsName u) (sym n.0) (q.0, (q.1, n.1)))

pub datum_spelled : Spelled datum_word IsDatum datum_at
datum_spelled = record {
  again = λ d rest v b. datum_again d rest v (after_datum d rest b);
  takes = λ s d rest e. let t = datum_takes s d rest e in (t.0, t.1);
}

pub type_spelled : Spelled type_word FitsType type_at
type_spelled = record { again = λ k rest v b. type_again k rest v; takes = type_takes }

pub stack_spelled : Spelled stack_word (λ s. Unit {0}) stack_at
stack_spelled = record {
  again = λ ls rest v b. stack_again ls rest (after_stack ls rest b);
  takes = λ s ls rest e. let t = stack_takes s ls rest e in (t.0, tt);
}

pub state_spelled : Spelled state_word IsStateWord state_at
state_spelled = record { again = λ t rest v b. state_again t rest v; takes = state_takes }

-- ---- a dash for none

-- a word that doesn't begin with a dash
abbrev pub Dashless : List ℕ → Type 0
Dashless w = (c : ℕ) × (u : List ℕ) × (w ≡ c ∷ u) × (nat_eq c 45 ≡ false)

pub dash_spelled : {A : Type 0} (write : A → List ℕ) (V : A → Type 0) (p : Reader A) → ((a : A) → V a → Dashless (write a)) → Spelled write V p → Spelled (or_dash write) (IfThere V) (dash_or p)
dash_spelled {A} write V p d s = record { again = again; takes = takes } where
  some_again : (w : List ℕ) (a : A) (rest : List ℕ) → Dashless w → p (w ++ rest) ≡ Some (a, rest) → dash_or p (w ++ rest) ≡ Some (Some a, rest)
  some_again w a rest h e =
      ap (λ u. dash_or p (u ++ rest)) h.2
      ∙ ap (λ b. if b then Some (None, h.1 ++ rest) else (p (h.0 ∷ (h.1 ++ rest)) >>= as_some)) h.3
      ∙ ap (λ (o : Option (A × List ℕ)). o >>= as_some) (ap (λ u. p (u ++ rest)) (sym h.2) ∙ e)

  again : (o : Option A) (rest : List ℕ) → IfThere V o → is_boundary rest ≡ true → dash_or p (or_dash write o ++ rest) ≡ Some (o, rest)
  again None rest v b = refl
  again (Some a) rest v b = some_again (write a) a rest (d a v) (s.again a rest v b)

  takes : (u : List ℕ) (o : Option A) (rest : List ℕ) → dash_or p u ≡ Some (o, rest) → (u ≡ or_dash write o ++ rest) × IfThere V o
  takes [] o rest e = absurd cc
  takes (c ∷ u) o rest e = by (nat_eq c 45) refl e where
    by : (b : Bool) → nat_eq c 45 ≡ b → (if b then Some (None, u) else (p (c ∷ u) >>= as_some)) ≡ Some (o, rest) → (c ∷ u ≡ or_dash write o ++ rest) × IfThere V o
    by true q e = subst (λ (x : Option A × List ℕ). (c ∷ u ≡ or_dash write x.0 ++ x.1) × IfThere V x.0) (some_is {A = Option A × List ℕ} (None, u) (o, rest) e) (ap (λ d. d ∷ u) (eqb-true c 45 q), tt)
    by false q e =
        let f = bind_some (p (c ∷ u)) as_some (o, rest) e in
        let made : Option A × List ℕ = (Some f.0.0, f.0.1) in
        subst (λ (x : Option A × List ℕ). (c ∷ u ≡ or_dash write x.0 ++ x.1) × IfThere V x.0) (some_is made (o, rest) f.2) (s.takes (c ∷ u) f.0.0 f.0.1 f.1)

-- a number begins with a digit
pub index_dashless : (n : ℕ) → IsIndex n → Dashless (number n)
index_dashless n v = by (number n) refl (number_again 4294967295 n [] (omega arith) v refl) where
  other : (b : Bool) (c : ℕ) (u : List ℕ) → nat_eq c 45 ≡ b → number_at 4294967295 ((c ∷ u) ++ []) ≡ Some (n, []) → nat_eq c 45 ≡ false
  other false c u q e = q
  other true c u q e =
      let none : number_at 4294967295 ((45 ∷ u) ++ []) ≡ Some (n, []) = ap (λ d. number_at 4294967295 ((d ∷ u) ++ [])) (sym (eqb-true c 45 q)) ∙ e in
      absurd (cc)

  by : (w : List ℕ) → number n ≡ w → number_at 4294967295 (w ++ []) ≡ Some (n, []) → Dashless (number n)
  by [] q e = absurd (cc)
  by (c ∷ u) q e = (c, u, q, other (nat_eq c 45) c u refl e)

-- nor does a quoted text or a type begin with a dash
pub quoted_dashless : (t : List ℕ) → Dashless (quoted t)
quoted_dashless t = (39, flat_map character t ++ 39 ∷ [], refl, refl)

pub type_dashless : (k : SqlType) → Dashless (type_word k)
type_dashless kinds.SmallInt = (83, codes "MALLINT", refl, refl)
type_dashless kinds.Integer = (73, codes "NTEGER", refl, refl)
type_dashless (kinds.Numeric p s) = (78, codes "UMERIC(" ++ number p ++ codes "," ++ number s ++ codes ")", refl, refl)
type_dashless (kinds.Char n) = (67, codes "HAR(" ++ number n ++ codes ")", refl, refl)
type_dashless (kinds.VarChar n) = (86, codes "ARCHAR(" ++ number n ++ codes ")", refl, refl)
