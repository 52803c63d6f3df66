-- `OneOrMore` as a type that may hold the type that holds it.
use mathlib.Core.Path.{refl, sym}
use mathlib.Core.Former.{Former, this, pair, list, via}
use base.Stored.{gcons, code_map}
use denote.RattleType.{RattleType}
use denote.HoleLaws.{Alike}
use denote.HolePlaces.{Recodes, struct_places, laid}
use denote.Hole.Fix.{over}
use denote.Param.Weighed.{Weighed, w_pair, w_list, w_via}
use denote.Model.Placed.{view_places}
use Rattle.psm_list.specs.Several.{Several}
use Rattle.psm_list.specs.declared.one_or_more.OneOrMore.TheInside.{Inside}
use Rattle.psm_list.specs.declared.one_or_more.OneOrMore.TheView.{view, invariant}
use Rattle.psm_list.specs.contracts.one_or_more.OneOrMore as C
use Rattle.psm_list.specs.contracts.one_or_more.OneOrMore.TheInside as I
use Rattle.psm_list.specs.formers.list.List as rest

abbrev pub the_former : Former {0} → Former {0}
the_former g = via (pair g (list g)) (λ X. Several (g.Of X)) (λ X s. (s.first, s.rest)) (λ X v. record { first = v.0; rest = v.1 }) (λ X s. refl) (λ X v. refl)

abbrev pub the_weighed : {g : Former {0}} → Weighed g → Weighed (the_former g)
the_weighed {g} w = w_via (w_pair w (w_list w)) (λ X. Several (g.Of X)) (λ X s. (s.first, s.rest)) (λ X v. record { first = v.0; rest = v.1 }) (λ X s. refl) (λ X v. refl)

abbrev fields : Former {0}
fields = via (pair this (list this)) Inside (λ X a. (a.first, a.rest)) (λ X v. record { first = v.0; rest = v.1 }) (λ X a. refl) (λ X v. refl)

module _ (R S : RattleType) (h : R.Denot → S.Denot) where
  pub the_places : Alike R S h → Alike (C.the_row R) (C.the_row S) ((the_former this).map R.Denot S.Denot h)
  the_places a = view_places fields (the_former this) view (λ X Y k u. refl) (λ X u. refl) R.Denot S.Denot h (C.the_row R).coded (C.the_row S).coded
      (invariant R.Denot) (invariant S.Denot) (λ u p q. refl) (λ u p q. refl) (λ u e. tt) (λ u e. tt)
      (over (I.the_row R)) (over (I.the_row S))
      (struct_places (I.the_type R) (I.the_type S) (h, ((list this).map R.Denot S.Denot h, tt)) _ (λ d. refl) refl (laid _ _ _ a, (laid _ _ _ (rest.the_places R S h a), tt)))

  pub the_codes_placed : Recodes R S h → Recodes (C.the_row R) (C.the_row S) ((the_former this).map R.Denot S.Denot h)
  the_codes_placed e d = λ i. gcons (e d.first i) (sym (code_map R.coded.code S.coded.code h (λ x. sym (e x)) d.rest) i)
