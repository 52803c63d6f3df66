-- What FETCH gives, and where it leaves the cursor.
use Rattle.std.proofs.Common.{◌≡◌, ◌++◌, List, [], ◌∷◌, drop, length, inl, inr, arith, refl, ap, sym, subst, ◌∙◌, Option, Some, None, Result, Ok, Err}
use Rattle.std.specs.Prelude.{All}
use Rattle.std.specs.Option.{option_to_list}
use Rattle.psm_cond.specs.declared.fault.DataFault.{DataFault}
use Rattle.psm_cond.specs.declared.fault.DataFault.TheVariants.{Raised, Memory}
use Rattle.psm_exprcode.specs.declared.items.Items.{Items}
use Rattle.psm_exprcode.specs.declared.items.Items.TheVariants.{Rows}
use Rattle.psm_exprcode.specs.declared.op.Line.{Line}
use Rattle.psm_exprcode.specs.declared.query.Query.{Query}
use Rattle.psm_value.specs.declared.datum.Datum.{Datum}
use Rattle.psm_value.specs.declared.fault.ValueFault.{ValueFault}
use Rattle.psm_value.specs.declared.fault.ValueFault.TheVariants as value_fault
use Rattle.psm_table.specs.Cursors.{Cursor, Plain, Insensitive, Position}
use Rattle.psm_table.specs.Table.{Contents}
use Rattle.psm_tablecode.specs.Faults.{IsRaised, Reports}
use Rattle.psm_tablecode.specs.TypeChecks.{Runs, RunItems}
use Rattle.psm_cursor.specs.Fetching.{Fetch, Fetches, Moves, fetched, moved}

pub fetches_fault : {P : Type 0} (f : Fetch P) (old new : P) (fault : ValueFault) (reported : DataFault) → Moves f old new (Err fault) → Reports fault reported → Fetches f old new (Err reported)
fetches_fault f old new (value_fault.Condition s) (Raised c) m t = (subst (λ d. IsRaised d c) (sym m.0) t, m.1)
fetches_fault f old new (value_fault.Condition s) Memory m t = inr m.1
fetches_fault f old new value_fault.Memory (Raised c) m t = absurd t
fetches_fault f old new value_fault.Memory Memory m t = m

module _ (query : Query) (t : Contents) where
  pub fetches_plain : (vars : List Datum) (p q : Position) (result : Result (Option (List Datum)) DataFault) → Fetches (moved query t vars p) p q result
      → Fetches (fetched query t (Plain p vars)) (Plain p vars) (Plain q vars) result
  fetches_plain vars p q (Ok row) m = (m.0, ap (λ (p : Position). Plain p vars) m.1)
  fetches_plain vars p q (Err (Raised c)) m = (m.0, ap (λ (p : Position). Plain p vars) m.1)
  fetches_plain vars p q (Err Memory) (inl e) = inl (ap (λ (p : Position). Plain p vars) e)
  fetches_plain vars p q (Err Memory) (inr e) = inr (ap (λ (p : Position). Plain p vars) e)

  pub fetches_next : (old new : List (List Datum)) (row : Option (List Datum)) → old ≡ option_to_list row ++ new → new ≡ drop 1 old
      → Fetches (fetched query t (Insensitive old)) (Insensitive old) (Insensitive new) (Ok row)
  fetches_next [] [] None e g = (refl, refl)
  fetches_next [] (r ∷ new) None e g = cc
  fetches_next [] new (Some row) e g = cc
  fetches_next (r ∷ old) new None e g = let none : r ∷ old ≡ old = e ∙ g in absurd (omega (arith, ap length none))
  fetches_next (r ∷ old) new (Some row) e g = let same : r ≡ row = cc in let rest : old ≡ new = cc in (ap (λ (x : List Datum). Ok (Some x)) same, ap Insensitive (sym rest))

  pub fetches_same : (old was new now : Cursor) (result reported : Result (Option (List Datum)) DataFault) → old ≡ was → new ≡ now → result ≡ reported
      → Fetches (fetched query t was) was now reported → Fetches (fetched query t old) old new result
  fetches_same old was new now result reported e f g h =
      subst (λ (c : Cursor). Fetches (fetched query t c) c new result) (sym e)
      (subst (λ (c : Cursor). Fetches (fetched query t was) was c result) (sym f)
      (subst (λ (r : Result (Option (List Datum)) DataFault). Fetches (fetched query t was) was now r) (sym g) h))

-- the items of a row may be evaluated
pub items_run : (row values vars : List Datum) (items : Items) (codes all : List (List Line)) → items ≡ Rows codes → all ≡ codes → values ≡ row → RunItems row vars items → All (Runs values vars) all
items_run row values vars items codes all e f g run =
    let them : All (Runs row vars) codes = subst (RunItems row vars) e run in
    subst (λ (l : List (List Line)). All (Runs values vars) l) (sym f) (subst (λ (r : List Datum). All (Runs r vars) codes) (sym g) them)
