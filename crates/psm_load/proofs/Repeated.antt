-- A loop that reads a part again and again.
use Rattle.std.proofs.Common.{◌≡◌, ℕ, zero, suc, ◌+◌, ◌≤◌, List, [], ◌∷◌, ◌++◌, Result, Ok, Err, refl, sym, ap, ◌∙◌, append_assoc, arith}
use Rattle.std.proofs.lemmas.List.{append-nil}
use Rattle.psm_load.specs.Parts.{At, Part, times, and_then, given}
use Rattle.psm_load.specs.Left.{Left, Gives, Repeated, after, following}
use Rattle.psm_load.specs.declared.stop.Stop.{Stop}
use Rattle.psm_load.specs.declared.stop.Stop.TheVariants.{Misfit, Memory}

after_none : {A : Type 0} (r : Result (List A × (At × List (List ℕ))) ℕ) → following [] r ≡ r
after_none (Ok x) = refl
after_none (Err n) = refl

after_one : {A : Type 0} (items : List A) (a : A) (r : Result (List A × (At × List (List ℕ))) ℕ)
    → following items (and_then r (λ others. given (a ∷ others))) ≡ following (items ++ a ∷ []) r
after_one items a (Ok x) = ap (λ xs. Ok (xs, x.1)) (sym (append_assoc items (a ∷ []) x.0))
after_one items a (Err n) = refl

module _ {A : Type 0} (part : Part A) where
  -- nothing is read yet
  pub turns_begin : (count n : ℕ) (old : Left) (start items : List A) → items ≡ start → n ≡ count → Repeated part count old start items n old
  turns_begin count n old start items e h = record { same = λ i. following (e i) (times (h i) part old.at old.lines) }

  -- one more is read
  pub turns_go_on : (count n left : ℕ) (old now next : Left) (start items : List A) (a : A) → Repeated part count old start items n now → left + 1 ≡ n
      → part now.at now.lines ≡ Ok (a, (next.at, next.lines)) → Repeated part count old start (items ++ a ∷ []) left next
  turns_go_on count zero left old now next start items a l h e = absurd (omega (arith, h))
  turns_go_on count (suc n) left old now next start items a l h e = let count_is : left ≡ n = omega (arith, h) in
      record {
        same = sym (after_one items a (times left part next.at next.lines))
            ∙ ap (λ m. following items (and_then (times m part next.at next.lines) (λ others. given (a ∷ others)))) count_is
            ∙ ap (λ r. following items (and_then r (λ a at ls. and_then (times n part at ls) (λ others. given (a ∷ others))))) (sym e)
            ∙ l.same;
      }

  all : (count n : ℕ) (old now : Left) (start items : List A) → Repeated part count old start items n now → n ≡ 0 → following start (times count part old.at old.lines) ≡ Ok (items, (now.at, now.lines))
  all count zero old now start items l e = sym l.same ∙ ap (λ xs. Ok (xs, (now.at, now.lines))) (append-nil items)
  all count (suc n) old now start items l e = absurd (cc e)

  -- all are read
  pub turns_end : (count n : ℕ) (old now : Left) (items : List A) → Repeated part count old [] items n now → n ≡ 0 → times count part old.at old.lines ≡ Ok (items, (now.at, now.lines))
  turns_end count n old now items l e = sym (after_none (times count part old.at old.lines)) ∙ all count n old now [] items l e

  pub turns_end_after : (count n : ℕ) (old now : Left) (first : A) (items : List A) → Repeated part count old (first ∷ []) items n now → n ≡ 0
      → after first (times count part) old.at old.lines ≡ Ok (items, (now.at, now.lines))
  turns_end_after count n old now first items l e = all count n old now (first ∷ []) items l e

  missing : (count n k : ℕ) (old now : Left) (start items : List A) → Repeated part count old start items n now → 1 ≤ n → part now.at now.lines ≡ Err k → following start (times count part old.at old.lines) ≡ Err k
  missing count zero k old now start items l h g = absurd (omega (arith, h))
  missing count (suc n) k old now start items l h g = sym l.same ∙ ap (λ r. following items (and_then r (λ a at ls. and_then (times n part at ls) (λ others. given (a ∷ others))))) g

  -- one isn't there
  pub turns_stop : (count n : ℕ) (old now next : Left) (items : List A) (stop : Stop) → Repeated part count old [] items n now → 1 ≤ n → Gives part now next (Err stop) → Gives (times count part) old next (Err stop)
  turns_stop count n old now next items (Misfit k) l h g = sym (after_none (times count part old.at old.lines)) ∙ missing count n k old now [] items l h g
  turns_stop count n old now next items Memory l h g = tt

  pub turns_stop_after : (count n : ℕ) (old now next : Left) (first : A) (items : List A) (stop : Stop) → Repeated part count old (first ∷ []) items n now → 1 ≤ n → Gives part now next (Err stop)
      → Gives (after first (times count part)) old next (Err stop)
  turns_stop_after count n old now next first items (Misfit k) l h g = missing count n k old now (first ∷ []) items l h g
  turns_stop_after count n old now next first items Memory l h g = tt

pub ruleset turns = (turns_begin, turns_go_on, turns_end, turns_stop)

pub ruleset turns_after = (turns_begin, turns_go_on, turns_end_after, turns_stop_after)
