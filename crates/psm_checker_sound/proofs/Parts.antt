-- What is found in the parts of an expression, and what they have to be where the whole has a shape.
use Rattle.std.proofs.Common.{◌≡◌, ◌⊎◌, inl, inr, ◌≤◌, Bool, true, false, ◌&&◌, ◌||◌, List, [], ◌∷◌, map, Option, Some, None, refl, ap, sym, ◌∙◌, subst}
use Rattle.std.specs.Prelude.{IsTrue, if◌then◌else◌, is_some}
use Rattle.std.specs.List.{list_all}
use Rattle.psm_token.specs.declared.place.Place.{Place}
use Rattle.psm_exprcode.specs.declared.op.Letter.TheVariants.{B}
use Rattle.psm_exprcode.specs.Kinds.{is_value}
use Rattle.psm_scope.proofs.Lists.{both}
use Rattle.psm_scope.specs.Exact.{is_typed}
use Rattle.psm_rules.specs.declared.fault.Fault.{Fault}
use Rattle.psm_rules.specs.declared.rule.Rule.{Rule}
use Rattle.psm_rules.specs.declared.rule.Rule.TheVariants.{FamiliesMixed}
use Rattle.psm_rules.specs.declared.checked.Checked.{Checked}
use Rattle.psm_rules.specs.declared.shape.Family.{Family}
use Rattle.psm_rules.specs.declared.shape.Family.TheVariants.{Numbers, Texts}
use Rattle.psm_rules.specs.declared.shape.Shape.{Shape}
use Rattle.psm_rules.specs.declared.shape.Shape.TheVariants.{Value, Untyped, Condition}
use Rattle.psm_rules.specs.declared.shape.Typed.{Typed}
use Rattle.psm_rules.specs.Faults.{earlier}
use Rattle.psm_rules.specs.Checked.{all_of, as_condition, as_value, broken, condition_shape, family_shape, faults_in, is_shaped, combined, of_family, shape_of, well_typed, value_shape, with_shape}
use Rattle.psm_rules.specs.Shapes.{family_of, is_family, is_of}
use Rattle.psm_rules.specs.ExprFaults.{compared, compares}
use Rattle.psm_rules.proofs.Earliest.{first_of_cons}
use Rattle.psm_resolved.specs.declared.expr.ResolvedExpr.TheVariants as exprs
use Rattle.psm_resolve_expr.specs.declared.resolved.Resolved.{Resolved}
use Rattle.psm_resolve_expr.specs.Exprs.{expr_in}
use Rattle.psm_typing.specs.TypingContext.{Each, TypingContext}
use Rattle.psm_checker_sound.specs.Agreement.{letter_in}
use Rattle.psm_checker_sound.specs.Stands.{Standing, are_operands, as_operand, as_source}
use Rattle.psm_checker_sound.proofs.Judging.{AllJudged, Judged, Where}

pub true_false : true ≡ false → ⊥
true_false e = cc

-- ---- faults

pub neither : (f g : Option Fault) → earlier f g ≡ None → (f ≡ None) × (g ≡ None)
neither None g h = (refl, h)
neither (Some a) None h = absurd cc
neither (Some a) (Some b) h = absurd cc

-- a part that has no fault has a shape
abbrev pub Clean : Checked → Type 0
Clean f = f.fault ≡ None → is_shaped f ≡ true

pub all_shaped : (fs : List Checked) → Each Clean fs → faults_in fs ≡ None → list_all is_shaped fs ≡ true
all_shaped [] h none = refl
all_shaped (f ∷ fs) h none =
    let parts = neither f.fault (faults_in fs) (sym (first_of_cons f.fault (map (λ f. f.fault) fs)) ∙ none) in
    all_true (is_shaped f) (list_all is_shaped fs) (h.0 parts.0) (all_shaped fs h.1 parts.1)
  where
    all_true : (a b : Bool) → a ≡ true → b ≡ true → (a && b) ≡ true
    all_true true b h k = k
    all_true false b h k = absurd cc

broken-clean : (rule : Rule) (place : Place) → Clean (broken rule place)
broken-clean rule place none = absurd cc

pub combined-clean : (place : Place) (fs : List Checked) (whole : Checked) → Each Clean fs → Clean whole → Clean (combined place fs whole)
combined-clean place fs whole h k = by (list_all is_shaped fs) refl
  where
    by : (b : Bool) → list_all is_shaped fs ≡ b → Clean (if b then whole else record { place = place; fault = faults_in fs; shape = None })
    by true is = k
    by false is = λ none. absurd (true_false (sym (all_shaped fs h none) ∙ is))

pub combined-parts : (place : Place) (fs : List Checked) (whole : Checked) (s : Shape) → (combined place fs whole).shape ≡ Some s → (list_all is_shaped fs ≡ true) × (whole.shape ≡ Some s)
combined-parts place fs whole s h = by (list_all is_shaped fs) refl h
  where
    by : (b : Bool) → list_all is_shaped fs ≡ b → (let f : Checked = if b then whole else record { place = place; fault = faults_in fs; shape = None } in f.shape ≡ Some s) → (list_all is_shaped fs ≡ true) × (whole.shape ≡ Some s)
    by true is h = (is, h)
    by false is h = absurd cc

-- ---- the sort that is due

as_value-clean_at : (f : Checked) (o : Option Shape) → Clean f → Clean (with_shape value_shape f o)
as_value-clean_at f None c = c
as_value-clean_at f (Some (Value t)) c = λ none. refl
as_value-clean_at f (Some Untyped) c = λ none. refl
as_value-clean_at f (Some Condition) c = λ none. absurd cc

pub as_value-clean : (f : Checked) → Clean f → Clean (as_value f)
as_value-clean f c = as_value-clean_at f f.shape c

as_condition-clean_at : (f : Checked) (o : Option Shape) → Clean f → Clean (with_shape condition_shape f o)
as_condition-clean_at f None c = c
as_condition-clean_at f (Some (Value t)) c = λ none. absurd cc
as_condition-clean_at f (Some Untyped) c = λ none. absurd cc
as_condition-clean_at f (Some Condition) c = λ none. refl

pub as_condition-clean : (f : Checked) → Clean f → Clean (as_condition f)
as_condition-clean f c = as_condition-clean_at f f.shape c

-- a value, or NULL
abbrev pub IsValued : Checked → Type 0
IsValued f = ((t : Typed) × (f.shape ≡ Some (Value t)) × (as_value f ≡ well_typed f.place (Value t))) ⊎ ((f.shape ≡ Some Untyped) × (as_value f ≡ well_typed f.place Untyped))

valued_at : (f : Checked) (o : Option Shape) → f.shape ≡ o → is_shaped (with_shape value_shape f o) ≡ true → IsValued f
valued_at f None is h = absurd (true_false (sym h ∙ ap is_some is))
valued_at f (Some (Value t)) is h = inl (t, is, ap (with_shape value_shape f) is)
valued_at f (Some Untyped) is h = inr (is, ap (with_shape value_shape f) is)
valued_at f (Some Condition) is h = absurd cc

pub valued : (f : Checked) → is_shaped (as_value f) ≡ true → IsValued f
valued f h = valued_at f f.shape refl h

condition_at : (f : Checked) (o : Option Shape) → f.shape ≡ o → is_shaped (with_shape condition_shape f o) ≡ true → f.shape ≡ Some Condition
condition_at f None is h = absurd (true_false (sym h ∙ ap is_some is))
condition_at f (Some (Value t)) is h = absurd cc
condition_at f (Some Untyped) is h = absurd cc
condition_at f (Some Condition) is h = is

pub conditional : (f : Checked) → is_shaped (as_condition f) ≡ true → f.shape ≡ Some Condition
conditional f h = condition_at f f.shape refl h

-- ---- families

family_of-clean_at : (family : Family) (place : Place) (s : Shape) (b : Bool) → let f : Checked = if b then well_typed place s else broken FamiliesMixed place in Clean f
family_of-clean_at family place s true = λ none. refl
family_of-clean_at family place s false = λ none. absurd cc

of_family-clean_at : (family : Family) (f : Checked) (o : Option Shape) → Clean f → Clean (with_shape (family_shape family) f o)
of_family-clean_at family f None c = c
of_family-clean_at family f (Some s) c = family_of-clean_at family f.place s (is_of family s)

pub of_family-clean : (family : Family) (f : Checked) → Clean f → Clean (of_family family f)
of_family-clean family f c = of_family-clean_at family f f.shape c

of_shape_at : (family : Family) (place : Place) (s : Shape) (b : Bool) → is_of family s ≡ b → (let f : Checked = if b then well_typed place s else broken FamiliesMixed place in is_shaped f ≡ true) → is_of family s ≡ true
of_shape_at family place s true is h = is
of_shape_at family place s false is h = absurd cc

-- it has a shape of the family, and is as it was
abbrev pub IsOfFamily : Family → Checked → Type 0
IsOfFamily family f = (s : Shape) × (f.shape ≡ Some s) × (is_of family s ≡ true) × (of_family family f ≡ well_typed f.place s)

is_well_typed : (place : Place) (s : Shape) (b : Bool) → b ≡ true → (if b then well_typed place s else broken FamiliesMixed place) ≡ well_typed place s
is_well_typed place s b h = ap (λ b. if b then well_typed place s else broken FamiliesMixed place) h

of_family_at : (family : Family) (f : Checked) (o : Option Shape) → f.shape ≡ o → is_shaped (with_shape (family_shape family) f o) ≡ true → IsOfFamily family f
of_family_at family f None is h = absurd (true_false (sym h ∙ ap is_some is))
of_family_at family f (Some s) is h =
    let of : is_of family s ≡ true = of_shape_at family f.place s (is_of family s) refl h in
    (s, is, of, ap (with_shape (family_shape family) f) is ∙ is_well_typed f.place s (is_of family s) of)

pub familiar : (family : Family) (f : Checked) → is_shaped (of_family family f) ≡ true → IsOfFamily family f
familiar family f h = of_family_at family f f.shape refl h

pub same_family : (a b : Family) → is_family a b ≡ true → b ≡ a
same_family Numbers Numbers h = refl
same_family Numbers Texts h = absurd cc
same_family Texts Numbers h = absurd cc
same_family Texts Texts h = refl

pub value_of_family : (family : Family) → is_value (letter_in family) ≡ true
value_of_family Numbers = refl
value_of_family Texts = refl

-- ---- what is accepted

-- a type of a value: not NULL's, and with 18 decimals at most
pub record IsSane (t : Typed) : Type 0 where
  pub typed : is_typed t.kind ≡ true
  pub small : t.scale ≤ 18

pub record IsValue (e : TypingContext) (w : Where) (m : Resolved) (t : Typed) : Type 0 where
  pub shape : m.shape ≡ Value t
  pub sane : IsSane t
  pub judged : Judged e w m.expr (letter_in (family_of t.kind))

abbrev pub IsResolved : TypingContext → Where → Resolved → Shape → Type 0
IsResolved e w m (Value t) = IsValue e w m t
IsResolved e w m Untyped = (m.shape ≡ Untyped) × (m.expr ≡ exprs.Null)
IsResolved e w m Condition = (m.shape ≡ Condition) × Judged e w m.expr B

-- NULL alone has no type
abbrev pub IsNullAlone : Standing → Shape → Type 0
IsNullAlone standing (Value t) = Unit {0}
IsNullAlone standing Untyped = standing ≡ None
IsNullAlone standing Condition = Unit {0}

pub record Good (e : TypingContext) (w : Where) (standing : Standing) (f : Checked) (m : Resolved) : Type 0 where
  pub clean : Clean f
  pub resolved : (s : Shape) → f.shape ≡ Some s → IsResolved e w m s × IsNullAlone standing s

abbrev pub Part : TypingContext → Where → Standing → Checked → Resolved → Type 0
Part e w standing f m = IsTrue (as_source standing) → Good e w standing f m

-- one for one
abbrev pub Parts : TypingContext → Where → List Standing → List Checked → List Resolved → Type 0
Parts e w [] [] [] = Unit {0}
Parts e w (s ∷ ss) (f ∷ fs) (m ∷ ms) = Part e w s f m × Parts e w ss fs ms
Parts e w [] [] (m ∷ ms) = ⊥
Parts e w [] (f ∷ fs) ms = ⊥
Parts e w (s ∷ ss) [] ms = ⊥
Parts e w (s ∷ ss) (f ∷ fs) [] = ⊥

-- ---- parts as operands, as results and as conditions

pub operand_source : (s : Standing) → IsTrue (as_operand s) → IsTrue (as_source s)
operand_source None h = absurd cc
operand_source (Some b) h = h

-- a part that is a value with a type
pub record IsOperand (e : TypingContext) (w : Where) (f : Checked) (m : Resolved) : Type 0 where
  pub type : Typed
  pub checked : as_value f ≡ well_typed f.place (Value type)
  pub value : IsValue e w m type

pub not_null : (s : Standing) → IsTrue (as_operand s) → s ≡ None → ⊥
not_null None h is = cc
not_null (Some b) h is = cc

pub operand : (e : TypingContext) (w : Where) (s : Standing) (f : Checked) (m : Resolved) → Part e w s f m → IsTrue (as_operand s) → is_shaped (as_value f) ≡ true → IsOperand e w f m
operand e w s f m part well shaped = elim (valued f shaped) as (λ _. IsOperand e w f m) [
  | inl v ↦ record { type = v.0; checked = v.2; value = ((part (operand_source s well)).resolved (Value v.0) v.1).0 }
  | inr v ↦ absurd (not_null s well ((part (operand_source s well)).resolved Untyped v.0).1)
]

-- a part that is a value with a type, or NULL
abbrev pub IsSourceOf : TypingContext → Where → Resolved → Shape → Type 0
IsSourceOf e w m (Value t) = IsValue e w m t
IsSourceOf e w m Untyped = (m.shape ≡ Untyped) × (m.expr ≡ exprs.Null)
IsSourceOf e w m Condition = ⊥

pub record IsResult (e : TypingContext) (w : Where) (f : Checked) (m : Resolved) : Type 0 where
  pub shape : Shape
  pub checked : as_value f ≡ well_typed f.place shape
  pub source : IsSourceOf e w m shape

pub result : (e : TypingContext) (w : Where) (s : Standing) (f : Checked) (m : Resolved) → Part e w s f m → IsTrue (as_source s) → is_shaped (as_value f) ≡ true → IsResult e w f m
result e w s f m part well shaped = elim (valued f shaped) as (λ _. IsResult e w f m) [
  | inl v ↦ record { shape = Value v.0; checked = v.2; source = ((part well).resolved (Value v.0) v.1).0 }
  | inr v ↦ record { shape = Untyped; checked = v.1; source = ((part well).resolved Untyped v.0).0 }
]

pub tested : (e : TypingContext) (w : Where) (s : Standing) (f : Checked) (m : Resolved) → Part e w s f m → IsTrue (as_operand s) → is_shaped (as_condition f) ≡ true → Judged e w m.expr B
tested e w s f m part well shaped = (((part (operand_source s well)).resolved Condition (conditional f shaped)).0).1

-- ---- operands of one family

pub operand_judged : (e : TypingContext) (w : Where) (f : Checked) (m : Resolved) (family : Family) → IsOperand e w f m → is_of family (shape_of (as_value f)) ≡ true → Judged e w m.expr (letter_in family)
operand_judged e w f m family o of =
    let is : family_of o.type.kind ≡ family = same_family family (family_of o.type.kind) (sym (ap (λ g. is_of family (shape_of g)) o.checked) ∙ of) in
    subst (λ k. Judged e w m.expr (letter_in k)) is o.value.judged

abbrev pub AllOperands : TypingContext → Where → List Checked → List Resolved → Type 0
AllOperands e w [] [] = Unit {0}
AllOperands e w [] (m ∷ ms) = ⊥
AllOperands e w (f ∷ fs) [] = ⊥
AllOperands e w (f ∷ fs) (m ∷ ms) = IsOperand e w f m × AllOperands e w fs ms

pub operands : (e : TypingContext) (w : Where) (ss : List Standing) (fs : List Checked) (ms : List Resolved) → Parts e w ss fs ms → are_operands ss ≡ true → list_all is_shaped (map as_value fs) ≡ true → AllOperands e w fs ms
operands e w [] [] [] p well shaped = tt
operands e w [] [] (m ∷ ms) p well shaped = absurd p
operands e w [] (f ∷ fs) ms p well shaped = absurd p
operands e w (s ∷ ss) [] ms p well shaped = absurd p
operands e w (s ∷ ss) (f ∷ fs) [] p well shaped = absurd p
operands e w (s ∷ ss) (f ∷ fs) (m ∷ ms) p well shaped =
    let wells = both (as_operand s) (are_operands ss) well in
    let shapes = both (is_shaped (as_value f)) (list_all is_shaped (map as_value fs)) shaped in
    (operand e w s f m p.0 wells.0 shapes.0, operands e w ss fs ms p.1 wells.1 shapes.1)

pub operands_judged : (e : TypingContext) (w : Where) (fs : List Checked) (ms : List Resolved) (family : Family) → AllOperands e w fs ms → all_of family (map as_value fs) ≡ true → AllJudged e w (map expr_in ms) (letter_in family)
operands_judged e w [] [] family o of = tt
operands_judged e w [] (m ∷ ms) family o of = absurd o
operands_judged e w (f ∷ fs) [] family o of = absurd o
operands_judged e w (f ∷ fs) (m ∷ ms) family o of =
    let parts = both (is_of family (shape_of (as_value f))) (all_of family (map as_value fs)) of in
    (operand_judged e w f m family o.0 parts.0, operands_judged e w fs ms family o.1 parts.1)

pub operands_clean : (e : TypingContext) (w : Where) (ss : List Standing) (fs : List Checked) (ms : List Resolved) → Parts e w ss fs ms → are_operands ss ≡ true → Each Clean (map as_value fs)
operands_clean e w [] [] [] p well = tt
operands_clean e w [] [] (m ∷ ms) p well = absurd p
operands_clean e w [] (f ∷ fs) ms p well = absurd p
operands_clean e w (s ∷ ss) [] ms p well = absurd p
operands_clean e w (s ∷ ss) (f ∷ fs) [] p well = absurd p
operands_clean e w (s ∷ ss) (f ∷ fs) (m ∷ ms) p well =
    let wells = both (as_operand s) (are_operands ss) well in
    (as_value-clean f (p.0 (operand_source s wells.0)).clean, operands_clean e w ss fs ms p.1 wells.1)

pub sources_clean : (e : TypingContext) (w : Where) (ss : List Standing) (fs : List Checked) (ms : List Resolved) → Parts e w ss fs ms → list_all as_source ss ≡ true → Each Clean (map as_value fs)
sources_clean e w [] [] [] p well = tt
sources_clean e w [] [] (m ∷ ms) p well = absurd p
sources_clean e w [] (f ∷ fs) ms p well = absurd p
sources_clean e w (s ∷ ss) [] ms p well = absurd p
sources_clean e w (s ∷ ss) (f ∷ fs) [] p well = absurd p
sources_clean e w (s ∷ ss) (f ∷ fs) (m ∷ ms) p well =
    let wells = both (as_source s) (list_all as_source ss) well in
    (as_value-clean f (p.0 wells.0).clean, sources_clean e w ss fs ms p.1 wells.1)

abbrev pub AllResults : TypingContext → Where → List Checked → List Resolved → Type 0
AllResults e w [] [] = Unit {0}
AllResults e w [] (m ∷ ms) = ⊥
AllResults e w (f ∷ fs) [] = ⊥
AllResults e w (f ∷ fs) (m ∷ ms) = IsResult e w f m × AllResults e w fs ms

pub results : (e : TypingContext) (w : Where) (ss : List Standing) (fs : List Checked) (ms : List Resolved) → Parts e w ss fs ms → list_all as_source ss ≡ true → list_all is_shaped (map as_value fs) ≡ true → AllResults e w fs ms
results e w [] [] [] p well shaped = tt
results e w [] [] (m ∷ ms) p well shaped = absurd p
results e w [] (f ∷ fs) ms p well shaped = absurd p
results e w (s ∷ ss) [] ms p well shaped = absurd p
results e w (s ∷ ss) (f ∷ fs) [] p well shaped = absurd p
results e w (s ∷ ss) (f ∷ fs) (m ∷ ms) p well shaped =
    let wells = both (as_source s) (list_all as_source ss) well in
    let shapes = both (is_shaped (as_value f)) (list_all is_shaped (map as_value fs)) shaped in
    (result e w s f m p.0 wells.0 shapes.0, results e w ss fs ms p.1 wells.1 shapes.1)

pub conditions_clean : (e : TypingContext) (w : Where) (ss : List Standing) (fs : List Checked) (ms : List Resolved) → Parts e w ss fs ms → are_operands ss ≡ true → Each Clean (map as_condition fs)
conditions_clean e w [] [] [] p well = tt
conditions_clean e w [] [] (m ∷ ms) p well = absurd p
conditions_clean e w [] (f ∷ fs) ms p well = absurd p
conditions_clean e w (s ∷ ss) [] ms p well = absurd p
conditions_clean e w (s ∷ ss) (f ∷ fs) [] p well = absurd p
conditions_clean e w (s ∷ ss) (f ∷ fs) (m ∷ ms) p well =
    let wells = both (as_operand s) (are_operands ss) well in
    (as_condition-clean f (p.0 (operand_source s wells.0)).clean, conditions_clean e w ss fs ms p.1 wells.1)

pub conditions_judged : (e : TypingContext) (w : Where) (ss : List Standing) (fs : List Checked) (ms : List Resolved) → Parts e w ss fs ms → are_operands ss ≡ true → list_all is_shaped (map as_condition fs) ≡ true
    → AllJudged e w (map expr_in ms) B
conditions_judged e w [] [] [] p well shaped = tt
conditions_judged e w [] [] (m ∷ ms) p well shaped = absurd p
conditions_judged e w [] (f ∷ fs) ms p well shaped = absurd p
conditions_judged e w (s ∷ ss) [] ms p well shaped = absurd p
conditions_judged e w (s ∷ ss) (f ∷ fs) [] p well shaped = absurd p
conditions_judged e w (s ∷ ss) (f ∷ fs) (m ∷ ms) p well shaped =
    let wells = both (as_operand s) (are_operands ss) well in
    let shapes = both (is_shaped (as_condition f)) (list_all is_shaped (map as_condition fs)) shaped in
    (tested e w s f m p.0 wells.0 shapes.0, conditions_judged e w ss fs ms p.1 wells.1 shapes.1)

-- ---- values of one family are compared

compared-clean_at : (place : Place) (b : Bool) → let f : Checked = if b then well_typed place Condition else broken FamiliesMixed place in Clean f
compared-clean_at place true = λ none. refl
compared-clean_at place false = λ none. absurd cc

pub compared-clean : (place : Place) (fs : List Checked) → Clean (compared place fs)
compared-clean place fs = compared-clean_at place (all_of Numbers fs || all_of Texts fs)

abbrev pub OneFamily : List Checked → Type 0
OneFamily fs = (family : Family) × (all_of family fs ≡ true)

one_family : (fs : List Checked) (a b : Bool) → all_of Numbers fs ≡ a → all_of Texts fs ≡ b → (a || b) ≡ true → OneFamily fs
one_family fs true b h k or = (Numbers, h)
one_family fs false true h k or = (Texts, k)
one_family fs false false h k or = absurd cc

compared_at : (place : Place) (fs : List Checked) (s : Shape) (b : Bool) → (all_of Numbers fs || all_of Texts fs) ≡ b → (let f : Checked = if b then well_typed place Condition else broken FamiliesMixed place in f.shape ≡ Some s) → OneFamily fs × (Condition ≡ s)
compared_at place fs s true is h = (one_family fs (all_of Numbers fs) (all_of Texts fs) refl refl is, cc)
compared_at place fs s false is h = absurd cc

pub compared_shape : (place : Place) (fs : List Checked) (s : Shape) → (compared place fs).shape ≡ Some s → OneFamily fs × (Condition ≡ s)
compared_shape place fs s h = compared_at place fs s (all_of Numbers fs || all_of Texts fs) refl h

pub compares_judged : (e : TypingContext) (w : Where) (place : Place) (ss : List Standing) (fs : List Checked) (ms : List Resolved) (s : Shape) → Parts e w ss fs ms → are_operands ss ≡ true → (compares place (map as_value fs)).shape ≡ Some s
    → (family : Family) × (Condition ≡ s) × AllJudged e w (map expr_in ms) (letter_in family)
compares_judged e w place ss fs ms s p well h =
    let parts = combined-parts place (map as_value fs) (compared place (map as_value fs)) s h in
    let c = compared_shape place (map as_value fs) s parts.1 in
    (c.0.0, c.1, operands_judged e w fs ms c.0.0 (operands e w ss fs ms p well parts.0) c.0.1)

pub compares_clean : (e : TypingContext) (w : Where) (place : Place) (ss : List Standing) (fs : List Checked) (ms : List Resolved) → Parts e w ss fs ms → are_operands ss ≡ true → Clean (compares place (map as_value fs))
compares_clean e w place ss fs ms p well = combined-clean place (map as_value fs) (compared place (map as_value fs)) (operands_clean e w ss fs ms p well) (compared-clean place (map as_value fs))
