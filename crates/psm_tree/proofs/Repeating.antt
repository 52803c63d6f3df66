-- A loop that reads a part again and again, one turn after another.
use Rattle.std.proofs.Common.{◌≡◌, ℕ, zero, suc, ◌+◌, true, false, List, [], ◌∷◌, ◌++◌, ◌≤◌, length, Ok, Err, refl, sym, ap, ◌∙◌, append_assoc, arith}
use Rattle.std.proofs.lemmas.List.{append-nil}
use Rattle.psm_token.specs.Kinds.{kind}
use Rattle.psm_token.specs.declared.token.Placed.{Placed}
use Rattle.psm_grammar.specs.Grammar.{many}
use Rattle.psm_grammar.specs.Gives.{Halts}
use Rattle.psm_grammar.specs.Loop.{following}
use Rattle.psm_grammar.specs.Readers.{Out, Stop, Wrong, TooDeep, and_then, starts, first, repeat}
use Rattle.psm_grammar.specs.declared.halt.Halt.{Halt}
use Rattle.psm_grammar.specs.declared.halt.Halt.TheVariants as halt
use Rattle.psm_tree.specs.ExprGrammar.{Gram}
use Rattle.psm_tree.specs.Readers.{reading, Repeating}
use Rattle.psm_tree.proofs.Reading.{reading_many}

after_none : {X : Type 0} (o : Out Placed (List X)) → following [] o ≡ o
after_none (Ok r) = refl
after_none (Err e) = refl

after_one : {X : Type 0} (items : List X) (x : X) (o : Out Placed (List X)) → following items (and_then o (λ xs end. Ok (x ∷ xs, end))) ≡ following (items ++ x ∷ []) o
after_one items x (Ok r) = ap (λ xs. Ok (xs, r.1)) (sym (append_assoc items (x ∷ []) r.0))
after_one items x (Err s) = refl

module _ {X : Type 0} (levels : ℕ) (p : Gram X) where
  none_read : (start : List Placed) → following [] (repeat kind (first p) (reading levels p) (length start) start) ≡ reading levels (many p) start
  none_read start = after_none (repeat kind (first p) (reading levels p) (length start) start) ∙ sym (reading_many levels p start)

  -- nothing is read yet
  pub turns_begin : (start : List Placed) (items : List X) (turns : ℕ) → items ≡ [] → turns ≡ length start → Repeating levels p start items turns start
  turns_begin start items turns e h = record { same = (λ i. following (e i) (repeat kind (first p) (reading levels p) (h i) start)) ∙ none_read start }

  more : (turns : ℕ) (rest : List Placed) → starts kind (first p) rest ≡ true → repeat kind (first p) (reading levels p) (suc turns) rest
      ≡ and_then (reading levels p rest) (λ x end. and_then (repeat kind (first p) (reading levels p) turns end) (λ xs end. Ok (x ∷ xs, end)))
  more turns rest s = rw s refl

  -- the part is there once more
  pub turns_go_on : (start : List Placed) (items : List X) (turns left : ℕ) (rest : List Placed) (x : X) (next : List Placed) → Repeating levels p start items turns rest → left + 1 ≡ turns
      → starts kind (first p) rest ≡ true → reading levels p rest ≡ Ok (x, next) → Repeating levels p start (items ++ x ∷ []) left next
  turns_go_on start items zero left rest x next l h s e = absurd (omega (arith, h))
  turns_go_on start items (suc turns) left rest x next l h s e = let count : left ≡ turns = omega (arith, h) in
      record {
        same = sym (after_one items x (repeat kind (first p) (reading levels p) left next))
            ∙ ap (λ m. following items (and_then (repeat kind (first p) (reading levels p) m next) (λ xs end. Ok (x ∷ xs, end)))) count
            ∙ ap (λ o. following items (and_then o (λ x end. and_then (repeat kind (first p) (reading levels p) turns end) (λ xs end. Ok (x ∷ xs, end))))) (sym e)
            ∙ ap (following items) (sym (more turns rest s)) ∙ l.same;
      }

  none : (turns : ℕ) (rest : List Placed) → starts kind (first p) rest ≡ false → repeat kind (first p) (reading levels p) turns rest ≡ Ok ([], rest)
  none zero rest s = refl
  none (suc turns) rest s = rw s refl

  all : (items : List X) (rest : List Placed) → following items (Ok ([], rest)) ≡ Ok (items, rest)
  all items rest = ap (λ xs. Ok (xs, rest)) (append-nil items)

  -- the part is not there any more
  pub turns_end : (start : List Placed) (items : List X) (turns : ℕ) (rest : List Placed) → Repeating levels p start items turns rest → starts kind (first p) rest ≡ false → reading levels (many p) start ≡ Ok (items, rest)
  turns_end start items turns rest l s = sym l.same ∙ ap (following items) (none turns rest s) ∙ all items rest

  -- no token is left for a further turn
  pub turns_run_out : (start : List Placed) (items : List X) (turns : ℕ) (rest : List Placed) → Repeating levels p start items turns rest → turns ≡ 0 → reading levels (many p) start ≡ Ok (items, rest)
  turns_run_out start items zero rest l e = sym l.same ∙ all items rest
  turns_run_out start items (suc turns) rest l e = absurd (cc e)

  fails : (start : List Placed) (items : List X) (turns : ℕ) (rest : List Placed) → Repeating levels p start items (suc turns) rest → starts kind (first p) rest ≡ true
      → (stop : Stop Placed) → reading levels p rest ≡ Err stop → reading levels (many p) start ≡ Err stop
  fails start items turns rest l s stop e = sym l.same ∙ ap (following items) (more turns rest s)
      ∙ ap (λ o. following items (and_then o (λ x end. and_then (repeat kind (first p) (reading levels p) turns end) (λ xs end. Ok (x ∷ xs, end))))) e

  -- the part stops
  pub turns_halt : (start : List Placed) (items : List X) (turns : ℕ) (rest : List Placed) (e : Halt) → Repeating levels p start items turns rest → 1 ≤ turns → starts kind (first p) rest ≡ true
      → Halts e (reading levels p rest) → Halts e (reading levels (many p) start)
  turns_halt start items zero rest e l h s halts = absurd (omega (arith, h))
  turns_halt start items (suc turns) rest (halt.Syntax n) l h s halts = (halts.0, fails start items turns rest l s (Wrong halts.0) halts.1, halts.2)
  turns_halt start items (suc turns) rest (halt.Deep n) l h s halts = (halts.0, fails start items turns rest l s (TooDeep halts.0) halts.1, halts.2)
  turns_halt start items (suc turns) rest halt.Memory l h s halts = tt

pub ruleset turns = (turns_begin, turns_go_on, turns_end, turns_run_out, turns_halt)
