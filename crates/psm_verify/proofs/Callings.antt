-- Letters of parameters one after another.
use Rattle.std.proofs.Common.{◌≡◌, ℕ, ◌+◌, ◌<◌, Bool, true, false, List, [], ◌∷◌, ◌++◌, length, get_or, take, refl, ap, sym, ◌∙◌}
use Rattle.std.specs.Prelude.{filter, if◌then◌else◌}
use Rattle.std.proofs.lemmas.List.{take_more, map-append}
use Rattle.psm_code.specs.declared.code.Parameter.{Parameter}
use Rattle.psm_code.specs.Instructions.{parameter_letters}
use Rattle.psm_exprcode.specs.Kinds.{letter_of}

filter-push : (test : Parameter → Bool) (ps : List Parameter) (p : Parameter) → filter test (ps ++ p ∷ []) ≡ filter test ps ++ filter test (p ∷ [])
filter-push test [] p = refl
filter-push test (q ∷ ps) p = by (test q) (filter-push test ps p) where
  by : (t : Bool) → filter test (ps ++ p ∷ []) ≡ filter test ps ++ filter test (p ∷ []) → (if t then q ∷ filter test (ps ++ p ∷ []) else filter test (ps ++ p ∷ [])) ≡ (if t then q ∷ filter test ps else filter test ps) ++ filter test (p ∷ [])
  by true h = ap (λ qs. q ∷ qs) h
  by false h = h

pub letters_next : (test : Parameter → Bool) (ps : List Parameter) (at : ℕ) (p : Parameter) → at < length ps → p ≡ get_or ps at p
    → parameter_letters (filter test (take at ps)) ++ parameter_letters (filter test (p ∷ [])) ≡ parameter_letters (filter test (take (at + 1) ps))
letters_next test ps at p l e =
    sym (map-append (λ q. letter_of q.kind) (filter test (take at ps)) (filter test (p ∷ []))) ∙ ap parameter_letters (sym (filter-push test (take at ps) p))
    ∙ ap (λ q. parameter_letters (filter test (take at ps ++ q ∷ []))) e ∙ ap (λ qs. parameter_letters (filter test qs)) (sym (take_more ps at p l))
