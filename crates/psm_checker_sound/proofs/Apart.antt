-- No two routines of a file without a fault are alike.
use Rattle.std.proofs.Common.{◌≡◌, ℕ, Bool, true, false, ◌&&◌, ◌||◌, not, nat_eq, List, [], ◌∷◌, ◌++◌, length, map, Option, Some, None, refl, ap, sym, ◌∙◌, subst, arith}
use Rattle.std.specs.Prelude.{if◌then◌else◌}
use Rattle.std.specs.List.{list_all, list_any}
use Rattle.std.specs.Cmp.Lexicographic.{pointwise}
use Rattle.std.proofs.lemmas.Bool.Decides.{nat_tests}
use Rattle.std.proofs.lemmas.List.{length-map, map-append}
use Rattle.psm_value.specs.declared.sqltype.SqlType.{SqlType}
use Rattle.psm_value.specs.declared.sqltype.SqlType.TheVariants as types
use Rattle.psm_scope.proofs.Found.{spelled_back}
use Rattle.psm_scope.specs.Choice as choice
use Rattle.psm_scope.specs.Scopes.{is_spelled}
use Rattle.psm_scope.specs.KindNumbers.{is_kind}
use Rattle.psm_rules.specs.declared.rule.Rule.TheVariants as rule
use Rattle.psm_rules.specs.Faults.{breaks_if}
use Rattle.psm_rules.specs.FileFaults.{is_function, kind_of, repeats_function, repeats_procedure, same_functions, same_procedures, distinct}
use Rattle.psm_rules.specs.Types.{type_of}
use Rattle.psm_rules.specs.CheckerScope.{SymbolTable}
use Rattle.psm_tree.specs.declared.file.Parameter.{Parameter}
use Rattle.psm_tree.specs.declared.file.Routine.{Routine}
use Rattle.psm_tree.specs.declared.types.DataType.{DataType}
use Rattle.psm_code.specs.RoutineRules.{are_same_kinds, is_same_kind}
use Rattle.psm_resolve_expr.specs.Exprs.{type_known}
use Rattle.psm_resolve.specs.Files.{resolve_parameter, resolve_routine}
use Rattle.psm_simulation.specs.Simulation.{parameter_of}
use Rattle.psm_typing.specs.TypingContext.{Each}
use Rattle.psm_wellformed.specs.Files.{AreApart, is_apart_from}
use Rattle.psm_checker_sound.proofs.Faultless.{unbroken}
use Rattle.psm_checker_sound.proofs.Flags.{both-hold, each-last}
use Rattle.psm_checker_sound.proofs.Routines.{AreDistinct, IsAccepted, IsTypeKnown, known-kind, parameters-known, with_result}

-- ---- kinds of parameters

same-kind : (t u : SqlType) → is_same_kind t u ≡ is_kind (choice.kind_of u) (choice.kind_of t)
same-kind types.SmallInt types.SmallInt = refl
same-kind types.SmallInt types.Integer = refl
same-kind types.SmallInt (types.Numeric q s) = refl
same-kind types.SmallInt (types.Char m) = refl
same-kind types.SmallInt (types.VarChar m) = refl
same-kind types.Integer types.SmallInt = refl
same-kind types.Integer types.Integer = refl
same-kind types.Integer (types.Numeric q s) = refl
same-kind types.Integer (types.Char m) = refl
same-kind types.Integer (types.VarChar m) = refl
same-kind (types.Numeric p r) types.SmallInt = refl
same-kind (types.Numeric p r) types.Integer = refl
same-kind (types.Numeric p r) (types.Numeric q s) = refl
same-kind (types.Numeric p r) (types.Char m) = refl
same-kind (types.Numeric p r) (types.VarChar m) = refl
same-kind (types.Char n) types.SmallInt = refl
same-kind (types.Char n) types.Integer = refl
same-kind (types.Char n) (types.Numeric q s) = refl
same-kind (types.Char n) (types.Char m) = refl
same-kind (types.Char n) (types.VarChar m) = refl
same-kind (types.VarChar n) types.SmallInt = refl
same-kind (types.VarChar n) types.Integer = refl
same-kind (types.VarChar n) (types.Numeric q s) = refl
same-kind (types.VarChar n) (types.Char m) = refl
same-kind (types.VarChar n) (types.VarChar m) = refl

same-kinds : (ps qs : List Parameter) → Each IsTypeKnown ps → Each IsTypeKnown qs
    → are_same_kinds (map parameter_of (map resolve_parameter ps)) (map parameter_of (map resolve_parameter qs)) ≡ pointwise is_kind (map (λ p. kind_of p.kind.form) qs) (map (λ p. kind_of p.kind.form) ps)
same-kinds [] [] h k = refl
same-kinds [] (q ∷ qs) h k = refl
same-kinds (p ∷ ps) [] h k = refl
same-kinds (p ∷ ps) (q ∷ qs) h k =
    ap (λ b. b && are_same_kinds (map parameter_of (map resolve_parameter ps)) (map parameter_of (map resolve_parameter qs)))
    (same-kind (type_known (type_of p.kind)) (type_known (type_of q.kind)) ∙ ap (λ a. is_kind a (choice.kind_of (type_known (type_of p.kind)))) (known-kind q k.0) ∙ ap (is_kind (kind_of q.kind.form)) (known-kind p h.0))
    ∙ ap (λ b. is_kind (kind_of q.kind.form) (kind_of p.kind.form) && b) (same-kinds ps qs h.1 k.1)

-- ---- two routines

count-back : (m n : ℕ) → nat_eq m n ≡ nat_eq n m
count-back m n = grind (arith, nat_tests)

same-count : (ps qs : List Parameter) → nat_eq (length (map resolve_parameter ps)) (length (map resolve_parameter qs)) ≡ nat_eq (length qs) (length ps)
same-count ps qs = ap (λ n. nat_eq n (length (map resolve_parameter qs))) (length-map ps resolve_parameter) ∙ ap (nat_eq (length ps)) (length-map qs resolve_parameter) ∙ count-back (length ps) (length qs)

-- what one routine may not have in common with one before it
abbrev pub alike : Routine → Routine → Bool
alike r b = if is_function r then is_function b && same_functions r b else not (is_function b) && same_procedures r b

two-apart : (symbols : SymbolTable) (b r : Routine) (o q : Option DataType) → Each IsTypeKnown b.parameters → Each IsTypeKnown r.parameters → alike (with_result r q) (with_result b o) ≡ false
    → is_apart_from (resolve_routine symbols (with_result r q)) (resolve_routine symbols (with_result b o)) ≡ true
two-apart symbols b r (Some t) (Some u) hb hr is = ap not
    (ap (λ c. c && are_same_kinds (map parameter_of (map resolve_parameter b.parameters)) (map parameter_of (map resolve_parameter r.parameters))) (spelled_back b.name.name r.name.name)
    ∙ ap (λ c. is_spelled r.name.name b.name.name && c) (same-kinds b.parameters r.parameters hb hr) ∙ is)
two-apart symbols b r None None hb hr is = ap not
    (ap (λ c. c && nat_eq (length (map resolve_parameter b.parameters)) (length (map resolve_parameter r.parameters))) (spelled_back b.name.name r.name.name)
    ∙ ap (λ c. is_spelled r.name.name b.name.name && c) (same-count b.parameters r.parameters) ∙ is)
two-apart symbols b r (Some t) None hb hr is = refl
two-apart symbols b r None (Some u) hb hr is = refl

apart-pair : (symbols : SymbolTable) (b r : Routine) → Each IsTypeKnown b.parameters → Each IsTypeKnown r.parameters → alike r b ≡ false → is_apart_from (resolve_routine symbols r) (resolve_routine symbols b) ≡ true
apart-pair symbols b r hb hr is = two-apart symbols b r b.returns r.returns hb hr is

-- ---- each is apart from those before it

-- the same routines, in two orders
abbrev Same : List Routine → List Routine → Type 0
Same before done = (test : Routine → Bool) → list_any test before ≡ list_any test done

last-any : (test : Routine → Bool) (r : Routine) (rs : List Routine) → test r || list_any test rs ≡ list_any test (rs ++ r ∷ [])
last-any test r [] = refl
last-any test r (x ∷ rs) = by (test r) (test x) (list_any test rs) (list_any test (rs ++ r ∷ [])) (last-any test r rs)
  where
    by : (a b c d : Bool) → a || c ≡ d → a || (b || c) ≡ b || d
    by true true c d h = refl
    by true false c d h = h
    by false true c d h = refl
    by false false c d h = h

same-more : (before done : List Routine) (r : Routine) → Same before done → Same (r ∷ before) (done ++ r ∷ [])
same-more before done r h test = ap (λ b. test r || b) (h test) ∙ last-any test r done

alike-none : (r : Routine) (before : List Routine) → distinct r before ≡ None → list_any (alike r) before ≡ false
alike-none r before none = by (is_function r) none
  where
    by : (b : Bool) → (if b then breaks_if (repeats_function before r) rule.FunctionsNotDistinct r.name.place else breaks_if (repeats_procedure before r) rule.ProcedureRepeated r.name.place) ≡ None
        → list_any (λ x. if b then is_function x && same_functions r x else not (is_function x) && same_procedures r x) before ≡ false
    by true none = unbroken (repeats_function before r) rule.FunctionsNotDistinct r.name.place none
    by false none = unbroken (repeats_procedure before r) rule.ProcedureRepeated r.name.place none

none-alike : (symbols : SymbolTable) (r : Routine) (done : List Routine) → Each IsTypeKnown r.parameters → Each (λ b. Each IsTypeKnown b.parameters) done → list_any (alike r) done ≡ false
    → list_all (is_apart_from (resolve_routine symbols r)) (map (resolve_routine symbols) done) ≡ true
none-alike symbols r [] hr hs is = refl
none-alike symbols r (b ∷ done) hr hs is =
    let parts = neither-of (alike r b) (list_any (alike r) done) is in
    both-hold _ _ (apart-pair symbols b r hs.0 hr parts.0) (none-alike symbols r done hr hs.1 parts.1)
  where
    neither-of : (a c : Bool) → (a || c) ≡ false → (a ≡ false) × (c ≡ false)
    neither-of true c h = absurd cc
    neither-of false c h = (refl, h)

apart-following : (symbols : SymbolTable) (before done rs : List Routine) → Same before done → Each (λ b. Each IsTypeKnown b.parameters) done → Each (λ b. Each IsTypeKnown b.parameters) rs → AreDistinct before rs
    → AreApart (map (resolve_routine symbols) done) (map (resolve_routine symbols) rs)
apart-following symbols before done [] same hs known so_far = tt
apart-following symbols before done (r ∷ rs) same hs known so_far = (
  none-alike symbols r done known.0 hs (sym (same (alike r)) ∙ alike-none r before so_far.0),
  subst (λ l. AreApart l (map (resolve_routine symbols) rs)) (map-append (resolve_routine symbols) done (r ∷ []))
      (apart-following symbols (r ∷ before) (done ++ r ∷ []) rs (same-more before done r same) (each-last _ done r hs known.0) known.1 so_far.1),
)

each-known : (symbols : SymbolTable) (rs : List Routine) → Each (IsAccepted symbols) rs → Each (λ b. Each IsTypeKnown b.parameters) rs
each-known symbols [] h = tt
each-known symbols (r ∷ rs) h = (parameters-known (is_function r) r.parameters h.0.parameters, each-known symbols rs h.1)

-- the symbol tables are that of the checker and that in which names are resolved
pub routines-so_far : (seen symbols : SymbolTable) (rs : List Routine) → Each (IsAccepted seen) rs → AreDistinct [] rs → AreApart [] (map (resolve_routine symbols) rs)
routines-so_far seen symbols rs h so_far = apart-following symbols [] [] rs (λ test. refl) tt (each-known seen rs h) so_far
