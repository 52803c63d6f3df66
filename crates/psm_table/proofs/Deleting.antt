-- DELETE from a legal table: what is left keeps the rules that the table kept, so the statement fails at its end by a FOREIGN KEY
-- constraint alone.
use Rattle.std.proofs.Common.{◌≡◌, ◌≤◌, ℕ, List, false, ◌&&◌, length, refl, ap, ◌∙◌, Result, Ok, Err, arith}
use Rattle.std.specs.Prelude.{All, Option, nat_lt}
use Rattle.std.specs.declared.cmp.Ordering.TheVariants.{Less}
use Rattle.std.proofs.lemmas.Bool.{le-ltb}
use Rattle.std.proofs.lemmas.List.Elements.{All-cons, All-head, All-tail}
use Rattle.std.proofs.lemmas.List.Kept.{AllPairs-cons}
use Rattle.psm_sqlstate.specs.declared.state.SqlState.{SqlState}
use Rattle.psm_value.specs.declared.datum.Datum.{Datum}
use Rattle.psm_table.specs.Changing.{counting, deleted, divided, ended, ended_with, keep_rules, keyless, rows_pass, then_of, Changed, Division, Failure, IsLegal, Schema}
use Rattle.psm_table.specs.Evaluator.{Evaluator}
use Rattle.psm_table.specs.Key.{key_order, values_at}
use Rattle.psm_table.specs.Rows.{IsAscending}
use Rattle.psm_table.specs.Table.{most_rows}
use Rattle.psm_table.proofs.Filters.{AllPairs-first, AllPairs-rest}
use Rattle.psm_table.proofs.Legal.{by_division, legal_left}
use Rattle.psm_table.proofs.Ordered.{in_order-ascending}

abbrev Row : Type 0
Row = List Datum

abbrev Rises : List ℕ → Row → Row → Type 0
Rises key a b = key_order (values_at key a) (values_at key b) ≡ Less

-- the rows that don't meet the test, and how many do
abbrev pub taken_out : {E : Type 0} → Evaluator E → Option E → List Row → Result Changed Failure
taken_out ev test rows = then_of (divided ev test (λ row. Ok row) rows) (λ p. Ok (record { rows = p.left; count = length p.made }))

-- ---- what is left

module _ {E : Type 0} (ev : Evaluator E) (test : Option E) (key : List ℕ) where
  abbrev Ascends : List Row → Division → Type 0
  Ascends rows p = IsAscending key rows → IsAscending key p.left × ((row : Row) → All (Rises key row) rows → All (Rises key row) p.left)

  left_ascends : (rows : List Row) (p : Division) → divided ev test (λ row. Ok row) rows ≡ Ok p → Ascends rows p
  left_ascends = by_division ev test (λ row. Ok row) Ascends (λ up. (up, λ row h. h))
      (λ row rows p q up.
      let rest = q (AllPairs-rest (Rises key) row rows up) in (
        AllPairs-cons (Rises key) row p.left (rest.1 row (AllPairs-first (Rises key) row rows up)) rest.0,
        λ other h. All-cons (Rises key other) row p.left (All-head (Rises key other) row rows h) (rest.1 other (All-tail (Rises key other) row rows h)),
      ))
      (λ row new rows p e q up.
      let rest = q (AllPairs-rest (Rises key) row rows up) in
      (rest.0, λ other h. rest.1 other (All-tail (Rises key other) row rows h)))

  left_few : (rows : List Row) (p : Division) → divided ev test (λ row. Ok row) rows ≡ Ok p → length p.left ≤ length rows
  left_few = by_division ev test (λ row. Ok row) (λ rows p. length p.left ≤ length rows) (omega arith)
      (λ row rows p q. omega (arith, q))
      (λ row new rows p e q. omega (arith, q))

-- ---- the end of the statement

module _ {E : Type 0} (plain : Evaluator E) (schema : Schema E) where
  -- the rows of a legal table are left as they are, if all FOREIGN KEY constraints hold
  pub ended_legal : (rows : List Row) → IsLegal plain schema rows → IsAscending schema.def.key rows → length rows ≤ most_rows → ended plain schema rows ≡ ended_with schema.def rows (schema.keyed rows)
  ended_legal rows h up few =
      let e : nat_lt most_rows (length rows) ≡ false = le-ltb most_rows (length rows) few in
      rw e (
      ap (λ l. then_of (rows_pass plain schema.checks l) (λ ok. ended_with schema.def l (ok && (keep_rules schema.def rows && schema.keyed l)))) (in_order-ascending schema.def.key rows up)
      ∙ ap (λ r. then_of r (λ ok. ended_with schema.def rows (ok && (keep_rules schema.def rows && schema.keyed rows)))) h.pass
      ∙ ap (λ b. ended_with schema.def rows (b && schema.keyed rows)) h.rules
      )

module _ {E : Type 0} (plain : Evaluator E) (schema : Schema E) where
  without_keys : (rows : List Row) → IsLegal plain (keyless schema) rows → IsAscending schema.def.key rows → length rows ≤ most_rows → ended plain (keyless schema) rows ≡ Ok rows
  without_keys rows h up few = ended_legal plain (keyless schema) rows h up few

  -- where no FOREIGN KEY constraint is asked, the statement does not fail at its end
  pub deleted_legally : (ev : Evaluator E) (test : Option E) (rows : List Row) → IsLegal plain (keyless schema) rows → IsAscending schema.def.key rows → length rows ≤ most_rows → deleted ev plain (keyless schema) test rows ≡ taken_out ev test rows
  deleted_legally ev test rows h up few = by (divided ev test (λ row. Ok row) rows) refl
    where
      by : (d : Result Division SqlState) → divided ev test (λ row. Ok row) rows ≡ d
          → then_of d (λ p. counting (length p.made) (ended plain (keyless schema) p.left)) ≡ then_of d (λ p. Ok (record { rows = p.left; count = length p.made }))
      by (Ok p) e =
          let l : length p.left ≤ length rows = left_few ev test schema.def.key rows p e in
          ap (counting (length p.made))
          (without_keys p.left (legal_left ev plain (keyless schema) test (λ row. Ok row) rows p e h) (left_ascends ev test schema.def.key rows p e up).0 (omega (arith, few, l)))
      by (Err s) e = refl
