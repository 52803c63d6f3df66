-- A stack that is written is read again, and a stack that is read was written so.
use Rattle.std.proofs.Common.{◌≡◌, ℕ, Bool, true, false, List, [], ◌∷◌, ◌++◌, map, Option, Some, None, refl, sym, ap, subst, ◌∙◌, append_assoc}
use Rattle.std.specs.Prelude.{is_some, nat_eq, not, if◌then◌else◌}
use Rattle.std.proofs.lemmas.Bool.{eqb-true}
use Rattle.std.proofs.lemmas.List.{append-nil}
use Rattle.psm_exprcode.specs.declared.op.Letter.{Letter}
use Rattle.psm_exprcode.specs.declared.op.Letter.TheVariants as letters
use Rattle.psm_words.specs.Words.{letter_byte, stack_word}
use Rattle.psm_words.specs.Reading.{letter_of, after_letter, letters_on, some_letters, stack_at, begins_with_letter, ends_stack}
use Rattle.psm_words.proofs.Several.{some_is}

letter_of-byte : (l : Letter) → letter_of (letter_byte l) ≡ Some l
letter_of-byte letters.N = refl
letter_of-byte letters.T = refl
letter_of-byte letters.B = refl

byte-letter_of : (c : ℕ) (l : Letter) → letter_of c ≡ Some l → c ≡ letter_byte l
byte-letter_of c l e = by (nat_eq c 78) (nat_eq c 84) (nat_eq c 66) refl refl refl e
  where
    by : (a b d : Bool) → nat_eq c 78 ≡ a → nat_eq c 84 ≡ b → nat_eq c 66 ≡ d → (if a then Some letters.N else if b then Some letters.T else if d then Some letters.B else None) ≡ Some l → c ≡ letter_byte l
    by true b d f g h e = eqb-true c 78 f ∙ ap letter_byte (some_is letters.N l e)
    by false true d f g h e = eqb-true c 84 g ∙ ap letter_byte (some_is letters.T l e)
    by false false true f g h e = eqb-true c 66 h ∙ ap letter_byte (some_is letters.B l e)
    by false false false f g h e = absurd cc

-- ---- what is written is read

no_letter : (before : List Letter) (rest : List ℕ) → begins_with_letter rest ≡ false → letters_on before rest ≡ (before, rest)
no_letter before [] h = refl
no_letter before (c ∷ s) h = by (letter_of c) h
  where
    by : (o : Option Letter) → is_some o ≡ false → after_letter o before (c ∷ s) (λ ls. letters_on ls s) ≡ (before, c ∷ s)
    by None h = refl
    by (Some l) h = absurd cc

letters_again : (before ls : List Letter) (rest : List ℕ) → begins_with_letter rest ≡ false → letters_on before (map letter_byte ls ++ rest) ≡ (before ++ ls, rest)
letters_again before [] rest h = no_letter before rest h ∙ ap (λ (u : List Letter). (u, rest)) (sym (append-nil before))
letters_again before (l ∷ ls) rest h =
    ap (λ o. after_letter o before (letter_byte l ∷ (map letter_byte ls ++ rest)) (λ u. letters_on u (map letter_byte ls ++ rest))) (letter_of-byte l)
    ∙ letters_again (before ++ l ∷ []) ls rest h
    ∙ ap (λ (u : List Letter). (u, rest)) (append_assoc before (l ∷ []) ls)

not_true : (b : Bool) → not b ≡ true → b ≡ false
not_true true h = absurd cc
not_true false h = refl

some_again : (l : Letter) (ls : List Letter) (rest : List ℕ) → begins_with_letter rest ≡ false
    → some_letters (letters_on [] (map letter_byte (l ∷ ls) ++ rest)).0 (letters_on [] (map letter_byte (l ∷ ls) ++ rest)).1 ≡ Some (l ∷ ls, rest)
some_again l ls rest h = ap (λ (x : List Letter × List ℕ). some_letters x.0 x.1) (letters_again [] (l ∷ ls) rest h)

pub stack_again : (ls : List Letter) (rest : List ℕ) → ends_stack ls rest ≡ true → stack_at (stack_word ls ++ rest) ≡ Some (ls, rest)
stack_again [] rest h = refl
stack_again (letters.N ∷ ls) rest h = some_again letters.N ls rest (not_true (begins_with_letter rest) h)
stack_again (letters.T ∷ ls) rest h = some_again letters.T ls rest (not_true (begins_with_letter rest) h)
stack_again (letters.B ∷ ls) rest h = some_again letters.B ls rest (not_true (begins_with_letter rest) h)

-- ---- what is read is written so

-- what letters that are read say of the text
record Took (before : List Letter) (s : List ℕ) (x : List Letter × List ℕ) : Type 0 where
  read : List Letter
  after : x.0 ≡ before ++ read
  spelled : s ≡ map letter_byte read ++ x.1
  ended : begins_with_letter x.1 ≡ false

took_none : (before : List Letter) (s : List ℕ) → begins_with_letter s ≡ false → Took before s (before, s)
took_none before s h = record { read = []; after = sym (append-nil before); spelled = refl; ended = h }

took_by : (before : List Letter) (c : ℕ) (s : List ℕ) (o : Option Letter) → letter_of c ≡ o → ((ls : List Letter) → Took ls s (letters_on ls s))
    → Took before (c ∷ s) (after_letter o before (c ∷ s) (λ ls. letters_on ls s))
took_by before c s None e more = took_none before (c ∷ s) (ap is_some e)
took_by before c s (Some l) e more =
    let k : Took (before ++ l ∷ []) s (letters_on (before ++ l ∷ []) s) = more (before ++ l ∷ []) in
    record {
      read = l ∷ k.read;
      after = k.after ∙ append_assoc before (l ∷ []) k.read;
      spelled = ap (λ n. n ∷ s) (byte-letter_of c l e) ∙ ap (λ u. letter_byte l ∷ u) k.spelled;
      ended = k.ended;
    }

letters_take : (before : List Letter) (s : List ℕ) → Took before s (letters_on before s)
letters_take before [] = took_none before [] refl
letters_take before (c ∷ s) = took_by before c s (letter_of c) refl (λ ls. letters_take ls s)

abbrev StackTook : List ℕ → List Letter × List ℕ → Type 0
StackTook s x = (s ≡ stack_word x.0 ++ x.1) × (ends_stack x.0 x.1 ≡ true)

some_take : (s : List ℕ) (ls : List Letter) (r : List ℕ) (x : List Letter × List ℕ) → Took [] s (ls, r) → some_letters ls r ≡ Some x → StackTook s x
some_take s [] r x k e = absurd cc
some_take s (l ∷ ls) r x k e =
    let made : List Letter × List ℕ = (l ∷ ls, r) in
    subst (StackTook s) (some_is made x e) (k.spelled ∙ ap (λ (u : List Letter). map letter_byte u ++ r) (sym k.after), ap not k.ended)

pub stack_takes : (s : List ℕ) (ls : List Letter) (rest : List ℕ) → stack_at s ≡ Some (ls, rest) → (s ≡ stack_word ls ++ rest) × (ends_stack ls rest ≡ true)
stack_takes [] ls rest e = absurd cc
stack_takes (c ∷ s) ls rest e = by (nat_eq c 45) refl e
  where
    by : (a : Bool) → nat_eq c 45 ≡ a → (if a then Some ([], s) else some_letters (letters_on [] (c ∷ s)).0 (letters_on [] (c ∷ s)).1) ≡ Some (ls, rest) → StackTook (c ∷ s) (ls, rest)
    by true f e =
        let made : List Letter × List ℕ = ([], s) in
        subst (StackTook (c ∷ s)) (some_is made (ls, rest) e) (ap (λ n. n ∷ s) (eqb-true c 45 f), refl)
    by false f e = some_take (c ∷ s) (letters_on [] (c ∷ s)).0 (letters_on [] (c ∷ s)).1 (ls, rest) (letters_take [] (c ∷ s)) e
