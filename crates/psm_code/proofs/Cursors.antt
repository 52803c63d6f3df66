-- The instructions about cursors.
use Rattle.std.proofs.Common.{◌≡◌, ℕ, true, List, [], refl, ap, sym, subst, ◌∙◌, Option, Some, None}
use Rattle.std.specs.Prelude.{codes, option_map, reverse, slice_get}
use Rattle.psm_value.specs.declared.datum.Datum.{Datum}
use Rattle.psm_exprcode.specs.declared.op.Letter.{Letter}
use Rattle.psm_exprcode.specs.Kinds.{are_of}
use Rattle.psm_exprcode.specs.Operations.{Effect}
use Rattle.psm_exprcode.specs.Operations as table
use Rattle.psm_code.specs.declared.code.CodeCursor.{CodeCursor}
use Rattle.psm_code.specs.declared.code.RawCode.{RawCode}
use Rattle.psm_code.specs.declared.code.RawRoutine.{RawRoutine}
use Rattle.psm_code.specs.declared.instruction.Instruction.TheVariants as instruction
use Rattle.psm_code.specs.Instructions.{cursor_letters, instruction_effect, letters_of_query, next_effect, of_cursor, putting, query_letters}
use Rattle.psm_code.specs.Querying.{close, fetch, next, «open»}
use Rattle.psm_code.specs.RoutineRules.{first_fault}
use Rattle.psm_code.specs.Run.{next_or_end, row_or_end}
use Rattle.psm_code.specs.MachineInvariant.{StaysWellFormed}
use Rattle.psm_code.specs.State.{Machine}
use Rattle.psm_code.proofs.Acts.{Does, Has, and_then}
use Rattle.psm_code.proofs.Faults.{WellFormedRoutineCode}
use Rattle.psm_code.proofs.NextLines.{fall_through_right, bears, goes_straight, known, next_branch, settles, machine_invariant_at, Next}
use Rattle.psm_code.proofs.Queried.{put_values_do}
use Rattle.psm_code.proofs.Raises.{there_some}
use Rattle.psm_code.proofs.Simple.{well_formed_here, with, Kept}
use Rattle.psm_code.proofs.Fetching.{close_does, fetch_does, next_does, open_does, well_formed_cursor, Evaluates_step, IsRowOf, WellFormedCursorCode}

module _ (code : RawCode) (well_formed_code : first_fault code ≡ None) (r : RawRoutine) (g : WellFormedRoutineCode code r) (c : ℕ) (resume : Option ℕ) (s : List Letter) where
  pub open_kept : (n : ℕ) → Kept code well_formed_code r g c resume s (instruction.Open n)
  open_kept n m h =
      let l = with code well_formed_code r g c resume s (instruction.Open n) in
      let x = there_some (slice_get r.cursors n) (well_formed_here code well_formed_code r g c resume s (instruction.Open n) m h).named in
      goes_straight code well_formed_code r g l («open» r n) m (table.plain (codes "OPEN") [] []) [] (λ k x. refl) refl refl (bears code well_formed_code r g l m h.body (λ e. e)) h
      (λ rest f. open_does code r l n x.0 x.1 (well_formed_cursor code r n x.0 g x.1) refl rest m f)

  pub close_kept : (n : ℕ) → Kept code well_formed_code r g c resume s (instruction.Close n)
  close_kept n m h =
      let l = with code well_formed_code r g c resume s (instruction.Close n) in
      let x = there_some (slice_get r.cursors n) (well_formed_here code well_formed_code r g c resume s (instruction.Close n) m h).named in
      goes_straight code well_formed_code r g l (close r n) m (table.plain (codes "CLOSE") [] []) [] (λ k x. refl) refl refl (bears code well_formed_code r g l m h.body (λ e. e)) h
      (λ rest f. close_does code r l n x.0 x.1 (well_formed_cursor code r n x.0 g x.1) refl rest m f)

  -- the letters of a cursor's items
  cursor_letters_are : (n : ℕ) (x : CodeCursor) (k : WellFormedCursorCode code r x) → slice_get r.cursors n ≡ Some x → cursor_letters code r n ≡ Some (letters_of_query code r k.query)
  cursor_letters_are n x k e = ap (λ o. of_cursor (query_letters code r) (option_map (λ (c : CodeCursor). c.query) o)) e ∙ ap (λ o. option_map (letters_of_query code r) o) k.there

  pub fetch_kept : (n : ℕ) → Kept code well_formed_code r g c resume s (instruction.Fetch n)
  fetch_kept n m h =
      let l = with code well_formed_code r g c resume s (instruction.Fetch n) in
      let x = there_some (slice_get r.cursors n) (well_formed_here code well_formed_code r g c resume s (instruction.Fetch n) m h).named in
      let k = well_formed_cursor code r n x.0 g x.1 in
      let ls = letters_of_query code r k.query in
      goes_straight code well_formed_code r g l (fetch r n) m (table.plain (codes "FETCH") [] ls) ls (λ j y. ap (putting (codes "FETCH")) (cursor_letters_are n x.0 k x.1)) refl refl (bears code well_formed_code r g l m h.body (λ e. e)) h
      (λ rest f. fetch_does code r l n x.0 x.1 k refl rest m f)

  -- ---- FOR

  ends_or_row : (n p : ℕ) (ls : List Letter) → ((j y : Letter) → instruction_effect code r (instruction.Next n p) j y ≡ Some (next_effect p ls)) → (o : Option (List Datum)) (m : Machine) → IsRowOf (λ row. are_of ls row ≡ true) o
      → Has code r (with code well_formed_code r g c resume s (instruction.Next n p)) (reverse s) m → Does code r (with code well_formed_code r g c resume s (instruction.Next n p)) (λ successor k. StaysWellFormed code (successor k)) (row_or_end p o) m
  ends_or_row n p ls is None m f h =
      let l = with code well_formed_code r g c resume s (instruction.Next n p) in
      let line = well_formed_here code well_formed_code r g c resume s (instruction.Next n p) m h in
      let k = known code r m.running.line l line (next_effect p ls) is in
      let same : k.rest ≡ reverse s = let o : Some k.rest ≡ Some (reverse s) = sym k.left in cc in
      let next : Next r p (reverse s) c = subst (λ t. Next r p t c) same (next_branch code r m.running.line l line p [] k.rest refl k.branching) in
      record { evaluates = machine_invariant_at code well_formed_code r g l p (reverse s) c m.running.frames m h h.body.frames next }
  ends_or_row n p ls is (Some ds) m f h =
      let l = with code well_formed_code r g c resume s (instruction.Next n p) in
      and_then code r l _ _ _ _ m (put_values_do code r l ls (reverse s) ds m f h) (λ u k x. record { evaluates = fall_through_right code well_formed_code r g l (next_effect p ls) ls (reverse s) k is refl refl refl x })

  pub next_kept : (n p : ℕ) → Kept code well_formed_code r g c resume s (instruction.Next n p)
  next_kept n p m h =
      let i = instruction.Next n p in
      let l = with code well_formed_code r g c resume s i in
      let x = there_some (slice_get r.cursors n) (well_formed_here code well_formed_code r g c resume s i m h).named in
      let k = well_formed_cursor code r n x.0 g x.1 in
      let ls = letters_of_query code r k.query in
      let e = next_effect p ls in
      let is : (j y : Letter) → instruction_effect code r i j y ≡ Some e = λ j y. ap (λ o. option_map (next_effect p) o) (cursor_letters_are n x.0 k x.1) in
      settles code well_formed_code r g l (next_or_end r n p) m (bears code well_formed_code r g l m h.body (λ e. e))
      (and_then code r l (Evaluates_step code r l n x.0 x.1 k refl (reverse s)) _ (next r n) (row_or_end p) m (next_does code r l n x.0 x.1 k refl (reverse s) m h) (λ o j f. ends_or_row n p ls is o j f.0 f.1))
