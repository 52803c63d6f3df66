-- What calls of functions and queries take and put.
use Rattle.std.proofs.Common.{◌≡◌, ℕ, true, List, [], ◌∷◌, Some, option_map, ap, refl, sym, ◌∙◌}
use Rattle.std.specs.Prelude.{codes, reverse, slice_get}
use Rattle.psm_exprcode.specs.declared.op.Letter.{Letter}
use Rattle.psm_exprcode.specs.declared.op.Letter.TheVariants.{N, B}
use Rattle.psm_exprcode.specs.declared.op.Op.TheVariants as op
use Rattle.psm_exprcode.specs.declared.query.Query.{Query}
use Rattle.psm_exprcode.specs.Kinds.{is_value, letter_of}
use Rattle.psm_exprcode.specs.Operations.{plain}
use Rattle.psm_code.specs.declared.code.RawCode.{RawCode}
use Rattle.psm_code.specs.declared.code.RawRoutine.{RawRoutine}
use Rattle.psm_code.specs.declared.instruction.Instruction.TheVariants as instruction
use Rattle.psm_code.specs.Instructions.{function_effect, letters_of_query, of_routine, returning_effect, scalar_effect}
use Rattle.psm_code.specs.Rules.{there, where_there}
use Rattle.psm_exprgen.specs.declared.known.Known.{Known}
use Rattle.psm_exprgen.specs.Written.{letter_at}
use Rattle.psm_codegen_wellformed.specs.Kept.{KeepsFunction}
use Rattle.psm_codegen_wellformed.proofs.Lines.{Does}
use Rattle.psm_codegen_wellformed.proofs.Putting.{Calm}

module _ {code : RawCode} {r : RawRoutine} where
  pub call-does : {known : Known} {n : ℕ} {ks : List Letter} {k : Letter} → KeepsFunction known code n ks k → Does code r (instruction.FunctionCall n) (plain (codes "FCALL") (reverse ks) (letter_at known.results n ∷ []))
  call-does {ks = ks} kept = record {
    names = ap there kept.is.there;
    place = ap (λ o. where_there o (λ q. q.is_function)) kept.is.there ∙ kept.is.function;
    fits = refl;
    value = N;
    other = B;
    is_value = refl;
    effect = ap (of_routine function_effect) kept.is.there ∙ ap (option_map (λ t. returning_effect kept.is.routine (letter_of t))) kept.is.returns
        ∙ ap (λ s. Some (plain (codes "FCALL") (reverse s) (letter_of kept.is.type ∷ []))) kept.is.takes ∙ ap (λ l. Some (plain (codes "FCALL") (reverse ks) (l ∷ []))) (kept.is.result ∙ sym kept.result);
  }

  pub scalar-does : {n : ℕ} {made : Query} {k : Letter} → slice_get r.queries n ≡ Some made → letters_of_query code r made ≡ k ∷ [] → Does code r (instruction.Scalar n) (plain (codes "SCALAR") [] (k ∷ []))
  scalar-does at h = record {
    names = ap there at;
    place = refl;
    fits = refl;
    value = N;
    other = B;
    is_value = refl;
    effect = ap (λ o. scalar_effect (option_map (letters_of_query code r) o)) at ∙ ap (λ ls. scalar_effect (Some ls)) h;
  }

  pub exists-does : {n : ℕ} {made : Query} → slice_get r.queries n ≡ Some made → Does code r (instruction.Exists n) (plain (codes "EXISTS") [] (B ∷ []))
  exists-does at = record { names = ap there at; place = refl; fits = refl; value = N; other = B; is_value = refl; effect = refl }

  pub drop-does : (k : Letter) → is_value k ≡ true → Does code r (instruction.Operation op.Drop) (plain (codes "DROP") (k ∷ []) [])
  drop-does k v = record { names = refl; place = refl; fits = refl; value = k; other = B; is_value = v; effect = refl }

  pub duplicate-does : (k : Letter) → is_value k ≡ true → Does code r (instruction.Operation op.Duplicate) (plain (codes "DUP") (k ∷ []) (k ∷ k ∷ []))
  duplicate-does k v = record { names = refl; place = refl; fits = refl; value = k; other = B; is_value = v; effect = refl }

pub calm-call : {r : RawRoutine} (n : ℕ) → Calm r (instruction.FunctionCall n)
calm-call n = record { stands = refl; right = λ l. refl; following = λ l. refl }

pub calm-scalar : {r : RawRoutine} (n : ℕ) → Calm r (instruction.Scalar n)
calm-scalar n = record { stands = refl; right = λ l. refl; following = λ l. refl }

pub calm-exists : {r : RawRoutine} (n : ℕ) → Calm r (instruction.Exists n)
calm-exists n = record { stands = refl; right = λ l. refl; following = λ l. refl }
