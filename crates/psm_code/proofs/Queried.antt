-- Queries among the instructions: EXISTS, a query as a value, and SELECT INTO.
use Rattle.std.proofs.Common.{◌≡◌, ℕ, zero, suc, Bool, true, false, List, [], ◌∷◌, ◌++◌, refl, ap, sym, subst, ◌∙◌, Option, Some, None}
use Rattle.std.specs.Prelude.{All, codes, option_map, reverse, slice_get}
use Rattle.std.specs.List.{list_all}
use Rattle.std.proofs.lemmas.List.Elements.{All-head}
use Rattle.psm_num.proofs.Literals.{and_first, and_second}
use Rattle.psm_value.specs.declared.datum.Datum.{Datum}
use Rattle.psm_exprcode.specs.declared.op.Letter.{Letter}
use Rattle.psm_exprcode.specs.declared.op.Letter.TheVariants.{B}
use Rattle.psm_exprcode.specs.declared.operand.Operand.TheVariants.{Truth}
use Rattle.psm_exprcode.specs.declared.query.Query.{Query}
use Rattle.psm_exprcode.specs.Comparison.{truth_of}
use Rattle.psm_exprcode.specs.Kinds.{are_of, has_letter, is_value}
use Rattle.psm_exprcode.specs.Operations.{Effect, plain}
use Rattle.psm_exprcode.proofs.Results.{null-letter}
use Rattle.psm_table.specs.Queries.{Answer, answer, in_walk}
use Rattle.psm_table.specs.Table.{Contents}
use Rattle.psm_tablecode.specs.Codes.{over, query_of}
use Rattle.psm_tablecode.proofs.Fitting.{row_letters}
use Rattle.psm_code.specs.declared.code.CodeTable.{CodeTable}
use Rattle.psm_code.specs.declared.code.RawCode.{RawCode}
use Rattle.psm_code.specs.declared.code.RawRoutine.{RawRoutine}
use Rattle.psm_code.specs.declared.instruction.Instruction.TheVariants as instruction
use Rattle.psm_code.specs.declared.lines.CodeLine.{CodeLine}
use Rattle.psm_code.specs.declared.rule.CodeRule.TheVariants as rule
use Rattle.psm_code.specs.Instructions.{column_letters, columns_at, columns_of_table, letters_of_query, may_raise, one_item, putting, scalar_effect}
use Rattle.psm_code.specs.Parts.{slots_of}
use Rattle.psm_code.specs.PlanRules.{has_items, items_in, query_fault, query_faults, test_in}
use Rattle.psm_code.specs.Querying.{answer_of, exists, is_any, only_row, query_at, scalar, scalar_of, select_row, skipping}
use Rattle.psm_code.specs.RoutineRules as rules
use Rattle.psm_code.specs.RoutineRules.{first_fault}
use Rattle.psm_code.specs.Rules.{is_there}
use Rattle.psm_code.specs.MachineInvariant.{are_stored, AreKept, AreLawful, IsKept}
use Rattle.psm_code.specs.State.{Machine}
use Rattle.psm_code.specs.Steps.{Act, put, put_values, read, table_now, ◌>>=◌}
use Rattle.psm_code.proofs.Acts.{Does, Has, and_then, present_does, tried_does}
use Rattle.psm_code.proofs.Answering.{in_walk_all}
use Rattle.psm_code.proofs.Asking.{answered_letters, items_values}
use Rattle.psm_code.proofs.Faults.{clean_first, clean_flat, clean_head, clean_second, clean_tail, two_hold, Clean, WellFormedRoutineCode}
use Rattle.psm_code.proofs.NextLines.{bears, choose, goes_straight}
use Rattle.psm_code.proofs.Operating.{stored_letters}
use Rattle.psm_code.proofs.Raises.{there_some}
use Rattle.psm_code.proofs.Signals.{put_does, put_value_does}
use Rattle.psm_code.proofs.Simple.{well_formed_here, with, Kept}

-- ---- tables

pub kept_at : (ts : List CodeTable) (cs : List Contents) (i : ℕ) (t : CodeTable) → AreKept ts cs → slice_get ts i ≡ Some t → (c : Contents) × (slice_get cs i ≡ Some c) × IsKept t c
kept_at [] cs i t h e = absurd (cc)
kept_at (u ∷ ts) [] i t h e = absurd h
kept_at (u ∷ ts) (c ∷ cs) zero t h e = let same : u ≡ t = cc in (c, refl, subst (λ (x : CodeTable). IsKept x c) same h.0)
kept_at (u ∷ ts) (c ∷ cs) (suc i) t h e = kept_at ts cs i t h.1 e

pub rows_lettered : (t : CodeTable) (c : Contents) → IsKept t c → All (λ row. are_of (column_letters t) row ≡ true) c.rows
rows_lettered t c h = λ k d l. row_letters t.definition _ (h.rows k d l)

-- ---- what the rules say of a query

pub record WellFormedQueryCode (code : RawCode) (r : RawRoutine) (q : Query) : Type 0 where
  pub table : CodeTable
  pub there : slice_get code.tables q.table ≡ Some table
  pub some : has_items q.items ≡ true
  pub items : Clean (items_in code r q.table q.items)
  pub test : Clean (test_in code r q.table q.test)

pub well_formed_query : (code : RawCode) (r : RawRoutine) (n : ℕ) (q : Query) → WellFormedRoutineCode code r → slice_get r.queries n ≡ Some q → WellFormedQueryCode code r q
well_formed_query code r n q g e =
    let h = clean_flat (query_faults code r) r.queries n q g.queries e in
    let parts = items_in code r q.table q.items ++ test_in code r q.table q.test in
    let t = two_hold (is_there code.tables q.table) (has_items q.items) rule.Range rule.Definition (clean_head (query_fault code q) parts h) in
    let table = there_some (slice_get code.tables q.table) t.0 in
    let all = clean_tail (query_fault code q) parts h in
    record {
      table = table.0;
      there = table.1;
      some = t.1;
      items = clean_first (items_in code r q.table q.items) (test_in code r q.table q.test) all;
      test = clean_second (items_in code r q.table q.items) (test_in code r q.table q.test) all;
    }

module _ (code : RawCode) (r : RawRoutine) (l : CodeLine) where
  pub table_does : (i : ℕ) (t : CodeTable) (s : List Letter) (m : Machine) → slice_get code.tables i ≡ Some t → Has code r l s m → Does code r l (λ c n. IsKept t c × Has code r l s n) (table_now i) m
  table_does i t s m e h =
      and_then code r l (λ ts n. AreLawful code ts × Has code r l s n) _ (read (λ m. m.tables)) _ m (record { evaluates = (h.body.tables, h) }) (λ ts n f.
      let c = kept_at code.tables ts i t f.0.kept e in
      present_does code r l (λ c n. IsKept t c × Has code r l s n) (slice_get ts i) c.0 n c.1 (c.2, f.1))

  pub variables_do : (s : List Letter) (m : Machine) → Has code r l s m → Does code r l (λ vs n. (are_stored (slots_of r) vs ≡ true) × Has code r l s n) (read (λ m. m.running.variables)) m
  variables_do s m h = record { evaluates = (h.body.variables, h) }

  pub put_values_do : (ks s : List Letter) (ds : List Datum) (m : Machine) → are_of ks ds ≡ true → Has code r l s m → Does code r l (λ u n. Has code r l (ks ++ s) n) (put_values ds) m
  put_values_do [] s [] m f h = record { evaluates = h }
  put_values_do [] s (d ∷ ds) m f h = absurd (cc)
  put_values_do (k ∷ ks) s [] m f h = absurd (cc)
  put_values_do (k ∷ ks) s (d ∷ ds) m f h =
      and_then code r l _ _ _ _ m (put_values_do ks s ds m (and_second (has_letter k d) (are_of ks ds) f) h) (λ u n g. put_value_does code r l d k (ks ++ s) n (and_first (has_letter k d) (are_of ks ds) f) g)

  module _ (may : may_raise l.instruction ≡ true) where
    abbrev pub Lettered : Query → List (List Datum) → Type 0
    Lettered q rows = All (λ row. are_of (letters_of_query code r q) row ≡ true) rows

    pub answer_does : (q : Query) (s : List Letter) (m : Machine) → WellFormedQueryCode code r q → Has code r l s m → Does code r l (λ a n. Lettered q a.rows × Has code r l s n) (answer_of q) m
    answer_does q s m g h =
        and_then code r l _ _ _ _ m (table_does q.table g.table s m g.there h) (λ c n f.
        and_then code r l _ _ _ _ n (variables_do s n f.1) (λ vs k x.
        tried_does code r l (λ (a : Answer). Lettered q a.rows) (Has code r l s) (answer (over vs) (query_of q) c.rows) k may x.1.body x.1 (λ a e.
        let letters : column_letters g.table ≡ columns_at code q.table = ap columns_of_table (sym g.there) in
        let rows = subst (λ ks. All (λ row. are_of ks row ≡ true) c.rows) letters (rows_lettered g.table c f.0) in
        answered_letters code r q.table vs (stored_letters (slots_of r) vs x.0) q.items q.test (in_walk q.downward c.rows) a g.items (in_walk_all (λ row. are_of (columns_at code q.table) row ≡ true) q.downward c.rows rows) e)))

    pub query_does : (n : ℕ) (q : Query) (s : List Letter) (m : Machine) → slice_get r.queries n ≡ Some q → Has code r l s m → Does code r l (λ x k. (x ≡ q) × Has code r l s k) (query_at r n) m
    query_does n q s m e h = present_does code r l (λ x k. (x ≡ q) × Has code r l s k) (slice_get r.queries n) q m e (refl, h)

    -- the answer of a query by its number
    queried : (n : ℕ) (q : Query) (s t : List Letter) (go : Answer → Act (Unit {0})) (m : Machine) → WellFormedQueryCode code r q → slice_get r.queries n ≡ Some q → Has code r l s m
        → ((a : Answer) (k : Machine) → Lettered q a.rows → Has code r l s k → Does code r l (λ u k. Has code r l t k) (go a) k)
        → Does code r l (λ u k. Has code r l t k) (◌>>=◌ (query_at r n) (λ x. ◌>>=◌ (answer_of x) go)) m
    queried n q s t go m g e h k =
        and_then code r l _ _ _ _ m (query_does n q s m e h) (λ x j f.
        subst (λ (x : Query). Does code r l (λ u k. Has code r l t k) (◌>>=◌ (answer_of x) go) j) (sym f.0)
        (and_then code r l _ _ _ _ j (answer_does q s j g f.1) (λ a i y. k a i y.0 y.1)))

    pub exists_does : (n : ℕ) (q : Query) (s : List Letter) (m : Machine) → WellFormedQueryCode code r q → slice_get r.queries n ≡ Some q → Has code r l s m → Does code r l (λ u k. Has code r l (B ∷ s) k) (exists r n) m
    exists_does n q s m g e h = queried n q s (B ∷ s) (λ a. put (Truth (truth_of (is_any a.rows)))) m g e h (λ a k w y. put_does code r l (Truth (truth_of (is_any a.rows))) B s k refl y)

    scalar_rows : (k : Letter) (rows : List (List Datum)) (s : List Letter) (m : Machine) → is_value k ≡ true → All (λ row. are_of (k ∷ []) row ≡ true) rows → Has code r l s m → Does code r l (λ u n. Has code r l (k ∷ s) n) (scalar_of rows) m
    scalar_rows k [] s m v w h = put_value_does code r l _ k s m (null-letter k v) h
    scalar_rows k ([] ∷ []) s m v w h = let no : false ≡ true = All-head (λ row. are_of (k ∷ []) row ≡ true) [] [] w in absurd (cc)
    scalar_rows k ((d ∷ ds) ∷ []) s m v w h = put_value_does code r l d k s m (and_first (has_letter k d) (are_of [] ds) (All-head (λ row. are_of (k ∷ []) row ≡ true) (d ∷ ds) [] w)) h
    scalar_rows k ([] ∷ other ∷ rows) s m v w h = record { evaluates = (may, h.body) }
    scalar_rows k ((d ∷ ds) ∷ other ∷ rows) s m v w h = record { evaluates = (may, h.body) }

    pub scalar_does : (n : ℕ) (q : Query) (k : Letter) (s : List Letter) (m : Machine) → WellFormedQueryCode code r q → slice_get r.queries n ≡ Some q → letters_of_query code r q ≡ k ∷ [] → Has code r l s m → Does code r l (λ u j. Has code r l (k ∷ s) j) (scalar r n) m
    scalar_does n q k s m g e f h =
        let all = items_values code r q.table q.items g.items in
        let v : is_value k ≡ true = and_first (is_value k) true (ap (list_all is_value) (sym f) ∙ all) in
        queried n q s (k ∷ s) (λ a. scalar_of a.rows) m g e h (λ a j w y. scalar_rows k a.rows s j v (subst (λ ks. All (λ row. are_of ks row ≡ true) a.rows) f w) y)

    only_does : (ks : List Letter) (rows : List (List Datum)) (s : List Letter) (m : Machine) → All (λ row. are_of ks row ≡ true) rows → Has code r l s m → Does code r l (λ row n. (are_of ks row ≡ true) × Has code r l s n) (only_row rows) m
    only_does ks [] s m w h = record { evaluates = (may, h.body) }
    only_does ks (row ∷ []) s m w h = record { evaluates = (All-head (λ row. are_of ks row ≡ true) row [] w, h) }
    only_does ks (row ∷ other ∷ rows) s m w h = record { evaluates = (may, h.body) }

    skipping_does : (b : Bool) (s : List Letter) (m : Machine) → Has code r l s m → Does code r l (λ u n. Has code r l s n) (skipping b) m
    skipping_does true s m h = record { evaluates = record { body = h.body; operands = h.operands } }
    skipping_does false s m h = record { evaluates = h }

    pub select_does : (n : ℕ) (q : Query) (s : List Letter) (m : Machine) → WellFormedQueryCode code r q → slice_get r.queries n ≡ Some q → Has code r l s m → Does code r l (λ u j. Has code r l (letters_of_query code r q ++ s) j) (select_row r n) m
    select_does n q s m g e h =
        queried n q s (letters_of_query code r q ++ s) _ m g e h (λ a j w y.
        and_then code r l _ _ _ _ j (only_does (letters_of_query code r q) a.rows s j w y) (λ row j f.
        and_then code r l _ _ _ _ j (skipping_does a.skipped s j f.1) (λ u j x. put_values_do (letters_of_query code r q) s row j f.0 x)))

single : (r : RawRoutine) (at : ℕ) (s ls : List Letter) → rules.follows_with r at s (one_item ls) ≡ true → (k : Letter) × (ls ≡ k ∷ [])
single r at s [] h = absurd (cc)
single r at s (k ∷ []) h = (k, refl)
single r at s (k ∷ j ∷ ls) h = absurd (cc)

module _ (code : RawCode) (well_formed_code : first_fault code ≡ None) (r : RawRoutine) (g : WellFormedRoutineCode code r) (c : ℕ) (resume : Option ℕ) (s : List Letter) where
  pub exists_kept : (n : ℕ) → Kept code well_formed_code r g c resume s (instruction.Exists n)
  exists_kept n m h =
      let l = with code well_formed_code r g c resume s (instruction.Exists n) in
      let q = there_some (slice_get r.queries n) (well_formed_here code well_formed_code r g c resume s (instruction.Exists n) m h).named in
      goes_straight code well_formed_code r g l (exists r n) m (plain (codes "EXISTS") [] (B ∷ [])) (B ∷ []) (λ k x. refl) refl refl (bears code well_formed_code r g l m h.body (λ e. e)) h
      (λ rest f. exists_does code r l refl n q.0 rest m (well_formed_query code r n q.0 g q.1) q.1 f)

  pub scalar_kept : (n : ℕ) → Kept code well_formed_code r g c resume s (instruction.Scalar n)
  scalar_kept n m h =
      let l = with code well_formed_code r g c resume s (instruction.Scalar n) in
      let line = well_formed_here code well_formed_code r g c resume s (instruction.Scalar n) m h in
      let q = there_some (slice_get r.queries n) line.named in
      let is : (o : Option Query) → Option Effect = λ o. scalar_effect (option_map (letters_of_query code r) o) in
      let ch = choose code r m.running.line l line in
      let k = single r m.running.line (reverse s) (letters_of_query code r q.0) (ap (λ o. rules.follows_with r m.running.line (reverse s) (is o)) (sym q.1) ∙ ch.follows) in
      goes_straight code well_formed_code r g l (scalar r n) m (plain (codes "SCALAR") [] (k.0 ∷ [])) (k.0 ∷ []) (λ j x. ap is q.1 ∙ ap one_item k.1) refl refl (bears code well_formed_code r g l m h.body (λ e. e)) h
      (λ rest f. scalar_does code r l refl n q.0 k.0 rest m (well_formed_query code r n q.0 g q.1) q.1 k.1 f)

  pub select_kept : (n : ℕ) → Kept code well_formed_code r g c resume s (instruction.Row n)
  select_kept n m h =
      let l = with code well_formed_code r g c resume s (instruction.Row n) in
      let q = there_some (slice_get r.queries n) (well_formed_here code well_formed_code r g c resume s (instruction.Row n) m h).named in
      goes_straight code well_formed_code r g l (select_row r n) m (plain (codes "ROW") [] (letters_of_query code r q.0)) (letters_of_query code r q.0) (λ k x. ap (λ o. putting (codes "ROW") (option_map (letters_of_query code r) o)) q.1) refl refl
      (bears code well_formed_code r g l m h.body (λ e. e)) h (λ rest f. select_does code r l refl n q.0 rest m (well_formed_query code r n q.0 g q.1) q.1 f)
