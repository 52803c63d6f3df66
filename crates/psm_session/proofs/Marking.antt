-- The mark of a transaction, and those outside it.
use Rattle.std.proofs.Common.{◌≡◌, ℕ, ◌+◌, List, refl, ap, ◌∙◌}
use Rattle.psm_table.specs.Table.{Contents}
use Rattle.psm_store.specs.declared.store.Mark.{Mark}
use Rattle.psm_store.specs.Marks.{IsOutside, Keeps}
use Rattle.psm_session.specs.Steps.{StaysMarked}

-- a mark that is held before the first command
pub marked_first : (holds : Mark → Type 0) (mark : Mark) (count : ℕ) → holds mark → count ≡ mark.depth + 1 → StaysMarked holds mark holds count mark
marked_first holds mark count h e = record { held = h; depth = refl; count = e; inside = λ outer o out. out }

pub keeps_first : (mark : Mark) (holds : Mark → Type 0) (at : Mark → List Contents) → Keeps (IsOutside mark) holds at holds at
keeps_first mark holds at = λ outer h out. (h, refl)

module _ (mark : Mark) (holds : Mark → Type 0) (at : Mark → List Contents) (next : Mark) (holds_next : Mark → Type 0) (at_next : Mark → List Contents) (count : ℕ)
    (marked : StaysMarked holds mark holds_next count next) (keeps : Keeps (IsOutside mark) holds at holds_next at_next) where
  -- a further command
  pub keeps_further : (holds_new : Mark → Type 0) (at_new : Mark → List Contents) → Keeps (IsOutside next) holds_next at_next holds_new at_new → Keeps (IsOutside mark) holds at holds_new at_new
  keeps_further holds_new at_new more = λ outer h out.
      let k = keeps outer h out in
      let l = more outer k.0 (marked.inside outer h out) in
      (l.0, l.1 ∙ k.1)

  pub marked_further : (holds_new : Mark → Type 0) (count_new : ℕ) (new : Mark) → StaysMarked holds_next next holds_new count_new new → StaysMarked holds mark holds_new count_new new
  marked_further holds_new count_new new more = record {
    held = more.held;
    depth = more.depth ∙ marked.depth;
    count = more.count ∙ ap (λ d. d + 1) marked.depth;
    inside = λ outer h out. more.inside outer (keeps outer h out).0 (marked.inside outer h out);
  }
