-- A part ends at the first line that isn't one of the kind that is due, or goes on after the lines that are due for it.
use Rattle.std.proofs.Common.{◌≡◌, ℕ, zero, suc, Bool, true, false, List, [], ◌∷◌, ◌++◌, Option, Some, None, Result, Ok, Err, refl, sym, ap, subst, ◌∙◌, append_assoc}
use Rattle.std.specs.Prelude.{replicate}
use Rattle.psm_code.specs.declared.rule.CodeRule.{CodeRule}
use Rattle.psm_words.specs.Reading.{◌>>=◌}
use Rattle.psm_load_line.specs.Readers.{LineReader}
use Rattle.psm_load.specs.Due.{Due, due_after, fits, going_on, misfit, test_due, Expression}
use Rattle.psm_load.specs.Parts.{At, Part, after_line, and_then, given, if_there, noting, one, taken, times, ◌>>◌}

abbrev pub Lines : Type 0
Lines = List (List ℕ)

abbrev pub Answer : Type 0 → Type 0
Answer A = Result (A × (At × Lines)) ℕ

-- the first line that doesn't fit, after a part that is followed by others that are due
abbrev pub after_part : {A : Type 0} → Answer A → List Due → Option ℕ
after_part (Err n) ds = Some n
after_part (Ok x) ds = misfit x.1.0.number ds x.1.1

pub record Follows {A : Type 0} (due : List Due) (p : Part A) : Type 0 where
  pub misfits : (at : At) (ds : List Due) (ls : Lines) → misfit at.number (due ++ ds) ls ≡ after_part (p at ls) ds

pub follows_given : {A : Type 0} (a : A) → Follows [] (given a)
follows_given a = record { misfits = λ at ds ls. refl }

pub follows_then : {A B : Type 0} {due more : List Due} {p : Part A} {next : A → Part B} → Follows due p → ((a : A) → Follows more (next a)) → Follows (due ++ more) (p >> next)
follows_then {A} {B} {due} {more} {p} {next} f g = record { misfits = misfits } where
  by : (r : Answer A) (ds : List Due) → after_part r (more ++ ds) ≡ after_part (and_then r next) ds
  by (Err n) ds = refl
  by (Ok x) ds = (g x.0).misfits x.1.0 ds x.1.1

  misfits : (at : At) (ds : List Due) (ls : Lines) → misfit at.number ((due ++ more) ++ ds) ls ≡ after_part ((p >> next) at ls) ds
  misfits at ds ls = ap (λ d. misfit at.number d ls) (append_assoc due more ds) ∙ f.misfits at (more ++ ds) ls ∙ by (p at ls) ds

pub follows_made : {A B : Type 0} {due : List Due} {p : Part A} (f : A → B) → Follows due p → Follows due (p >> λ a. given (f a))
follows_made {A} {B} {due} {p} f g = record { misfits = λ at ds ls. g.misfits at ds ls ∙ by (p at ls) ds } where
  by : (r : Answer A) (ds : List Due) → after_part r ds ≡ after_part (and_then r (λ a. given (f a))) ds
  by (Err n) ds = refl
  by (Ok x) ds = refl

pub follows_due : {A : Type 0} {due other : List Due} {p : Part A} → due ≡ other → Follows due p → Follows other p
follows_due {p = p} e f = subst (λ d. Follows d p) e f

-- a line, and those that stand after it
pub follows_line : {A B : Type 0} {next : A → Part B} (d : Due) (breaks : A → Option CodeRule) (read : LineReader A) (more : A → List Due) → ((l : List ℕ) → due_after d l ≡ (read l >>= λ a. Some (more a))) → ((a : A) → Follows (more a) (next a)) → Follows (d ∷ []) (noting breaks read >> next)
follows_line {A} {B} {next} d breaks read more e f = record { misfits = misfits } where
  by : (at : At) (ds : List Due) (ls : Lines) (o : Option A) → going_on at.number (o >>= λ a. Some (more a)) (λ ms. misfit (suc at.number) (ms ++ ds) ls) ≡ after_part (and_then (taken at breaks ls o) next) ds
  by at ds ls None = refl
  by at ds ls (Some a) = (f a).misfits (after_line at (breaks a)) ds ls

  misfits : (at : At) (ds : List Due) (ls : Lines) → misfit at.number (d ∷ ds) ls ≡ after_part ((noting breaks read >> next) at ls) ds
  misfits at ds [] = refl
  misfits at ds (l ∷ ls) = ap (λ o. going_on at.number o (λ ms. misfit (suc at.number) (ms ++ ds) ls)) (e l) ∙ by at ds ls (read l)

-- the same where others are due after those
pub follows_line_and : {A B : Type 0} {next : A → Part B} (d : Due) (others : List Due) (breaks : A → Option CodeRule) (read : LineReader A) (more : A → List Due) → ((l : List ℕ) → due_after d l ≡ (read l >>= λ a. Some (more a))) → ((a : A) → Follows (more a ++ others) (next a)) → Follows (d ∷ others) (noting breaks read >> next)
follows_line_and {A} {B} {next} d others breaks read more e f = record { misfits = misfits } where
  by : (at : At) (ds : List Due) (ls : Lines) (o : Option A) → going_on at.number (o >>= λ a. Some (more a)) (λ ms. misfit (suc at.number) (ms ++ (others ++ ds)) ls) ≡ after_part (and_then (taken at breaks ls o) next) ds
  by at ds ls None = refl
  by at ds ls (Some a) = ap (λ d. misfit (suc at.number) d ls) (sym (append_assoc (more a) others ds)) ∙ (f a).misfits (after_line at (breaks a)) ds ls

  misfits : (at : At) (ds : List Due) (ls : Lines) → misfit at.number (d ∷ (others ++ ds)) ls ≡ after_part ((noting breaks read >> next) at ls) ds
  misfits at ds [] = refl
  misfits at ds (l ∷ ls) = ap (λ o. going_on at.number o (λ ms. misfit (suc at.number) (ms ++ (others ++ ds)) ls)) (e l) ∙ by at ds ls (read l)

-- a line after which none stands
pub follows_one : {A : Type 0} (d : Due) (read : LineReader A) → ((l : List ℕ) → due_after d l ≡ fits (read l)) → Follows (d ∷ []) (one read)
follows_one {A} d read e = record { misfits = misfits } where
  by : (at : At) (ds : List Due) (ls : Lines) (o : Option A) → going_on at.number (fits o) (λ ms. misfit (suc at.number) (ms ++ ds) ls) ≡ after_part (taken at (λ a. None) ls o) ds
  by at ds ls None = refl
  by at ds ls (Some a) = refl

  misfits : (at : At) (ds : List Due) (ls : Lines) → misfit at.number (d ∷ ds) ls ≡ after_part (one read at ls) ds
  misfits at ds [] = refl
  misfits at ds (l ∷ ls) = ap (λ o. going_on at.number o (λ ms. misfit (suc at.number) (ms ++ ds) ls)) (e l) ∙ by at ds ls (read l)

pub follows_times : {A : Type 0} {d : Due} {p : Part A} (n : ℕ) → Follows (d ∷ []) p → Follows (replicate n d) (times n p)
follows_times zero f = follows_given []
follows_times (suc n) f = follows_then f (λ a. follows_made (λ others. a ∷ others) (follows_times n f))

pub follows_test : {A : Type 0} {p : Part A} (b : Bool) → Follows (Expression ∷ []) p → Follows (test_due b) (if_there b p)
follows_test false f = follows_given None
follows_test true f = follows_made Some f
