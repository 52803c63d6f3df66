-- Tables without rows, one of which gets an index.
use Rattle.std.proofs.Common.{◌≡◌, ℕ, zero, suc, ◌<◌, List, [], ◌∷◌, length, get_or, set, ap, sym, ◌∙◌, refl, arith}
use Rattle.std.specs.Prelude.{map}
use Rattle.std.proofs.lemmas.List.{get_or-map, length-map}
use Rattle.std.proofs.lemmas.List.Elements.{All-cons, All-nil}
use Rattle.psm_table.specs.declared.definition.TableDef.{TableDef}
use Rattle.psm_table.specs.State.{State}
use Rattle.psm_table.specs.Table.{empty_table, Contents}
use Rattle.psm_store.specs.Kept.{contents_of, AreEmpty}

pub empty-tables : (defs : List TableDef) → AreEmpty (map empty_table defs)
empty-tables [] = All-nil (λ (c : Contents). c.rows ≡ [])
empty-tables (def ∷ defs) = All-cons (λ (c : Contents). c.rows ≡ []) (empty_table def) (map empty_table defs) refl (empty-tables defs)

module _ (states : List State) (t : ℕ) (x : State) (inside : t < length states) (at : x ≡ get_or states t x) where
  pub no-rows : AreEmpty (contents_of states) → x.contents.rows ≡ []
  no-rows h =
      ap (λ (y : State). y.contents.rows) at
      ∙ sym (ap (λ (c : Contents). c.rows) (get_or-map (λ (y : State). y.contents) states t x x.contents inside))
      ∙ h t x.contents (omega (arith, inside, length-map states (λ (y : State). y.contents)))

-- what is in the tables stays where it stays in the one that is set
pub contents-kept : (states : List State) (t : ℕ) (x s : State) → t < length states → x ≡ get_or states t x → s.contents ≡ x.contents → contents_of (set states t s) ≡ contents_of states
contents-kept [] t x s l at e = absurd (omega (arith, l))
contents-kept (y ∷ ys) zero x s l at e = ap (λ c. c ∷ contents_of ys) (e ∙ ap (λ (z : State). z.contents) at)
contents-kept (y ∷ ys) (suc t) x s l at e = ap (λ cs. y.contents ∷ cs) (contents-kept ys t x s (omega (arith, l)) at e)
