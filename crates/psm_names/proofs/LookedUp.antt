-- Referents that look-up gives for occurrences, part by part.
use Rattle.std.proofs.Common.{◌≡◌, List, [], ◌∷◌, ◌++◌, refl, ap, sym, ◌∙◌}
use Rattle.std.proofs.lemmas.List.{append_assoc, append-nil}
use Rattle.psm_rules.specs.CheckerScope.{SymbolTable}
use Rattle.psm_names.specs.Referents.{Referent}
use Rattle.psm_names.specs.Occurrences.{Occurrence, referents, looked_up}

-- the referents are those of the occurrences
pub record Gives (symbols : SymbolTable) (x : List Referent) (os : List Occurrence) : Type 0 where
  pub is : x ≡ looked_up symbols os

looked_up-append : (symbols : SymbolTable) (xs ys : List Occurrence) → looked_up symbols (xs ++ ys) ≡ looked_up symbols xs ++ looked_up symbols ys
looked_up-append symbols [] ys = refl
looked_up-append symbols (x ∷ xs) ys = ap (λ l. referents symbols x ++ l) (looked_up-append symbols xs ys) ∙ sym (append_assoc (referents symbols x) (looked_up symbols xs) (looked_up symbols ys))

pub gives-as : {symbols : SymbolTable} {x y : List Referent} {os : List Occurrence} → x ≡ y → Gives symbols y os → Gives symbols x os
gives-as e h = record { is = e ∙ h.is }

pub gives-none : {symbols : SymbolTable} → Gives symbols [] []
gives-none = record { is = refl }

pub gives-both : {symbols : SymbolTable} {x y : List Referent} {xs ys : List Occurrence} → Gives symbols x xs → Gives symbols y ys → Gives symbols (x ++ y) (xs ++ ys)
gives-both {symbols} {x} {y} {xs} {ys} h k = record { is = ap (λ l. l ++ y) h.is ∙ ap (λ l. looked_up symbols xs ++ l) k.is ∙ sym (looked_up-append symbols xs ys) }

-- an occurrence, and those after it
pub gives-one : {symbols : SymbolTable} {x : Referent} {y : List Referent} {o : Occurrence} {os : List Occurrence} → x ∷ [] ≡ referents symbols o → Gives symbols y os → Gives symbols (x ∷ y) (o ∷ os)
gives-one {symbols} {x} {y} {o} {os} e h = record { is = ap (λ l. l ++ y) e ∙ ap (λ l. referents symbols o ++ l) h.is }

pub gives-lone : {symbols : SymbolTable} {x : List Referent} {o : Occurrence} → x ≡ referents symbols o → Gives symbols x (o ∷ [])
gives-lone {symbols} {x} {o} e = record { is = e ∙ sym (append-nil (referents symbols o)) }
