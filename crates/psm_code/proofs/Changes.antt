-- The instruction that changes rows as a plan says.
use Rattle.std.proofs.Common.{◌≡◌, ℕ, zero, suc, ◌+◌, ◌*◌, Bool, true, false, ◌&&◌, List, [], ◌∷◌, ◌++◌, length, map, refl, ap, sym, subst, ◌∙◌, arith, Option, Some, None, length-append, suc-mul, zero-mul}
use Rattle.std.specs.Prelude.{codes, option_map, replicate, reverse, slice_get}
use Rattle.std.specs.List.{flat_map, list_all}
use Rattle.std.proofs.lemmas.List.{length-reverse}
use Rattle.std.proofs.lemmas.List.Folds.{list_all-append}
use Rattle.psm_num.proofs.Literals.{and_first, and_second}
use Rattle.psm_value.specs.declared.datum.Datum.{Datum}
use Rattle.psm_value.specs.declared.sqltype.SqlType.{SqlType}
use Rattle.psm_exprcode.specs.declared.op.Letter.{Letter}
use Rattle.psm_exprcode.specs.declared.query.Query.{Query}
use Rattle.psm_exprcode.specs.Kinds.{is_value, letter_of}
use Rattle.psm_exprcode.specs.Operations.{Effect, plain}
use Rattle.psm_exprcode.proofs.Results.{letter_of-value}
use Rattle.psm_exprcode.proofs.Standing.{both_true}
use Rattle.psm_table.specs.Definition.{kinds_of}
use Rattle.psm_code.specs.declared.code.CodeTable.{CodeTable}
use Rattle.psm_code.specs.declared.code.Plan.{Plan}
use Rattle.psm_code.specs.declared.code.Plan.TheVariants as plans
use Rattle.psm_code.specs.declared.code.RawCode.{RawCode}
use Rattle.psm_code.specs.declared.code.RawRoutine.{RawRoutine}
use Rattle.psm_code.specs.declared.instruction.Instruction.TheVariants as instruction
use Rattle.psm_code.specs.declared.lines.CodeLine.{CodeLine}
use Rattle.psm_code.specs.declared.rule.CodeRule.TheVariants as rule
use Rattle.psm_code.specs.Instructions.{column_letters, letters_at, letters_in, may_raise, of_plan, plan_letters, table_letters, values_letters, with_letter}
use Rattle.psm_code.specs.PlanRules.{columns_there, fits_columns, is_positioned, plan_faults, plan_parts}
use Rattle.psm_code.specs.Plans.{in_rows, put_in, some_rows}
use Rattle.psm_code.specs.Plans as planning
use Rattle.psm_code.specs.RoutineRules as rules
use Rattle.psm_code.specs.RoutineRules.{first_fault}
use Rattle.psm_code.specs.Rules.{is_some, is_there, unless, where_there}
use Rattle.psm_code.specs.State.{Machine}
use Rattle.psm_code.specs.Steps.{Act, Given, Got, Raises, Ends, pops, ◌>>=◌}
use Rattle.psm_code.specs.Querying.{answer_of}
use Rattle.psm_code.specs.TableRules.{is_column_list}
use Rattle.psm_code.proofs.Acts.{Evaluates, Does, Has, and_then, present_does}
use Rattle.psm_code.proofs.Entering.{pops_does, values_reversed}
use Rattle.psm_code.proofs.Faults.{clean_flat, clean_head, two_hold, Clean, WellFormedRoutineCode}
use Rattle.psm_code.proofs.Fetching.{well_formed_cursor}
use Rattle.psm_code.proofs.NextLines.{bears, choose, goes_straight}
use Rattle.psm_code.proofs.Planning.{delete_rows_does, put_in_does, some_rows_do, update_rows_does}
use Rattle.psm_code.proofs.Positioned.{delete_at_does, update_at_does}
use Rattle.psm_code.proofs.Queried.{answer_does, query_does, well_formed_query}
use Rattle.psm_code.proofs.Raises.{there_some}
use Rattle.psm_code.proofs.Simple.{well_formed_here, with, Kept}

-- ---- the letters of the values of INSERT

value_at : (ks : List Letter) (i : ℕ) (k : Letter) → list_all is_value ks ≡ true → slice_get ks i ≡ Some k → is_value k ≡ true
value_at [] i k h e = absurd (cc)
value_at (l ∷ ks) zero k h e = let same : l ≡ k = cc in ap is_value (sym same) ∙ and_first (is_value l) (list_all is_value ks) h
value_at (l ∷ ks) (suc i) k h e = value_at ks i k (and_second (is_value l) (list_all is_value ks) h) e

record Values (columns : List ℕ) (ls : List Letter) : Type 0 where
  long : length ls ≡ length columns
  values : list_all is_value ls ≡ true

with_first : (ks : List Letter) (c : ℕ) (cs : List ℕ) (k : Option Letter) (rest : Option (List Letter)) (ls : List Letter) → list_all is_value ks ≡ true → slice_get ks c ≡ k → ((us : List Letter) → rest ≡ Some us → Values cs us)
    → with_letter k rest ≡ Some ls → Values (c ∷ cs) ls
with_first ks c cs None rest ls v q h e = absurd (cc)
with_first ks c cs (Some k) None ls v q h e = absurd (cc)
with_first ks c cs (Some k) (Some us) ls v q h e =
    let same : k ∷ us ≡ ls = cc in
    let f = h us refl in
    subst (Values (c ∷ cs)) same (record { long = ap suc f.long; values = both_true (is_value k) (list_all is_value us) (value_at ks c k v q) f.values })

at_columns : (ks : List Letter) (columns : List ℕ) (ls : List Letter) → list_all is_value ks ≡ true → letters_at ks columns ≡ Some ls → Values columns ls
at_columns ks [] ls v e = let none : List Letter = [] in let same : none ≡ ls = cc in subst (Values []) same (record { long = refl; values = refl })
at_columns ks (c ∷ cs) ls v e = with_first ks c cs (slice_get ks c) (letters_at ks cs) ls v refl (λ us f. at_columns ks cs us v f) e

pub kinds_values : (ts : List SqlType) → list_all is_value (map letter_of ts) ≡ true
kinds_values [] = refl
kinds_values (t ∷ ts) = both_true (is_value (letter_of t)) (list_all is_value (map letter_of ts)) (letter_of-value t) (kinds_values ts)

abbrev rows_of : ℕ → List Letter → List Letter
rows_of rows ls = flat_map (λ xs. xs) (replicate rows ls)

rows_long : (rows : ℕ) (ls : List Letter) → length (rows_of rows ls) ≡ rows * length ls
rows_long zero ls = sym (zero-mul (length ls))
rows_long (suc n) ls =
    let rest : length (rows_of n ls) ≡ n * length ls = rows_long n ls in
    let both : length (ls ++ rows_of n ls) ≡ length ls + length (rows_of n ls) = length-append ls (rows_of n ls) in
    let more : suc n * length ls ≡ n * length ls + length ls = suc-mul n (length ls) in
    let swapped : length ls + length (rows_of n ls) ≡ n * length ls + length ls = omega (arith, rest) in
    both ∙ swapped ∙ sym more

rows_values : (rows : ℕ) (ls : List Letter) → list_all is_value ls ≡ true → list_all is_value (rows_of rows ls) ≡ true
rows_values zero ls h = refl
rows_values (suc n) ls h = list_all-append is_value ls (rows_of n ls) ∙ both_true (list_all is_value ls) (list_all is_value (rows_of n ls)) h (rows_values n ls h)

record Inserted (rows : ℕ) (columns : List ℕ) (ks : List Letter) : Type 0 where
  long : length ks ≡ rows * length columns
  values : list_all is_value ks ≡ true

values_by : (rows : ℕ) (columns : List ℕ) (o : Option (List Letter)) (ks : List Letter) → ((ls : List Letter) → o ≡ Some ls → Values columns ls) → values_letters rows o ≡ Some ks → Inserted rows columns ks
values_by rows columns None ks h e = absurd (cc)
values_by rows columns (Some ls) ks h e =
    let same : reverse (rows_of rows ls) ≡ ks = cc in
    let f = h ls refl in
    subst (Inserted rows columns) same (record {
      long = length-reverse (rows_of rows ls) ∙ rows_long rows ls ∙ ap (λ n. rows * n) f.long;
      values = values_reversed (rows_of rows ls) (rows_values rows ls f.values);
    })

insert_values : (code : RawCode) (table rows : ℕ) (columns : List ℕ) (t : CodeTable) (ks : List Letter) → slice_get code.tables table ≡ Some t → values_letters rows (letters_in columns (table_letters code table)) ≡ Some ks → Inserted rows columns ks
insert_values code table rows columns t ks e f =
    let here : letters_in columns (table_letters code table) ≡ letters_at (column_letters t) columns = ap (λ o. letters_in columns (option_map column_letters o)) e in
    values_by rows columns (letters_at (column_letters t) columns) ks (λ ls q. at_columns (column_letters t) columns ls (kinds_values (kinds_of t.definition.columns)) q) (ap (values_letters rows) (sym here) ∙ f)

-- ---- plans

unless_holds : (b : Bool) → unless b rule.Range ≡ None → b ≡ true
unless_holds true h = refl
unless_holds false h = absurd (cc)

module _ (code : RawCode) (r : RawRoutine) (g : WellFormedRoutineCode code r) (l : CodeLine) (may : may_raise l.instruction ≡ true) where
  -- less is said of what comes
  only_has : {A : Type 0} (n : ℕ) (s : List Letter) (a : Given A) (m : Machine) → (Q : A → Type 0) → Evaluates code r l (λ x k. Q x × Has code r l s k) a m → Evaluates code r l (λ x k. Has code r l s k) a m
  only_has n s (Got a) m Q h = h.1
  only_has n s (Raises c) m Q h = h
  only_has n s (Ends e) m Q h = h

  no_letters : (ks : List Letter) (s : List Letter) (m : Machine) → ◌≡◌ {A = Option (List Letter)} (Some []) (Some ks) → Has code r l (ks ++ s) m → Has code r l s m
  no_letters ks s m e h = let none : List Letter = [] in let same : none ≡ ks = cc in subst (λ ks. Has code r l (ks ++ s) m) (sym same) h

  abbrev query_put : ℕ → List ℕ → Query → Act (Unit {0})
  query_put table columns query = do
    a ← answer_of query
    new ← some_rows a.rows
    put_in code table columns new

  insert_does : (table : ℕ) (columns : List ℕ) (rows : ℕ) (t : CodeTable) (ks s : List Letter) (m : Machine) → slice_get code.tables table ≡ Some t → Inserted rows columns ks → Has code r l (ks ++ s) m
      → Does code r l (λ u n. Has code r l s n) (planning.done code r (plans.Insert table columns rows)) m
  insert_does table columns rows t ks s m e v h =
      let popped = pops_does code r l ks s [] m v.values h in
      let weak : Does code r l (λ ds n. Has code r l s n) (pops (length ks) []) m = record { evaluates = only_has (length ks) s (pops (length ks) [] m).given (pops (length ks) [] m).machine (λ (ds : List Datum). length ds ≡ length ks + length {A = Datum} []) popped.evaluates } in
      and_then code r l (λ ds n. Has code r l s n) _ _ _ m (subst (λ n. Does code r l (λ ds n. Has code r l s n) (pops n []) m) v.long weak) (λ ds n f.
      put_in_does code r l may table t columns (in_rows rows (length columns) ds) s n e f)

  pub plan_does : (p : Plan) (ks s : List Letter) (m : Machine) → Clean (plan_faults code r p) → plan_letters code p ≡ Some ks → Has code r l (ks ++ s) m → Does code r l (λ u n. Has code r l s n) (planning.done code r p) m
  plan_does (plans.Insert table columns rows) ks s m c e h =
      let f = two_hold (is_there code.tables table && columns_there code table columns) (is_column_list columns) rule.Range rule.Definition (clean_head _ (plan_parts code r (plans.Insert table columns rows)) c) in
      let t = there_some (slice_get code.tables table) (and_first (is_there code.tables table) (columns_there code table columns) f.0) in
      insert_does table columns rows t.0 ks s m t.1 (insert_values code table rows columns t.0 ks t.1 e) h
  plan_does (plans.InsertQuery table columns query) ks s m c e h =
      let p = plans.InsertQuery table columns query in
      let there = columns_there code table columns && is_there r.queries query in
      let f = two_hold (is_there code.tables table && there) (is_column_list columns && where_there (slice_get r.queries query) (fits_columns code r table columns)) rule.Range rule.Definition (clean_head _ (plan_parts code r p) c) in
      let t = there_some (slice_get code.tables table) (and_first (is_there code.tables table) there f.0) in
      let q = there_some (slice_get r.queries query) (and_second (columns_there code table columns) (is_there r.queries query) (and_second (is_there code.tables table) there f.0)) in
      let has = no_letters ks s m e h in
      and_then code r l _ _ _ _ m (query_does code r l may query q.0 s m q.1 has) (λ x k y.
      subst (λ (x : Query). Does code r l (λ u n. Has code r l s n) (query_put table columns x) k) (sym y.0)
      (and_then code r l _ _ _ _ k (answer_does code r l may q.0 s k (well_formed_query code r query q.0 g q.1) y.1) (λ a n z.
      and_then code r l _ _ _ _ n (some_rows_do code r l may a.rows s n z.1) (λ new n w. put_in_does code r l may table t.0 columns new s n t.1 w))))
  plan_does (plans.Update table sets test) ks s m c e h =
      let f = two_hold (is_there code.tables table) (is_some sets) rule.Range rule.Definition (clean_head _ (plan_parts code r (plans.Update table sets test)) c) in
      let t = there_some (slice_get code.tables table) f.0 in
      update_rows_does code r l may table t.0 sets test s m t.1 (no_letters ks s m e h)
  plan_does (plans.Delete table test) ks s m c e h =
      let f = unless_holds (is_there code.tables table) (clean_head _ (plan_parts code r (plans.Delete table test)) c) in
      let t = there_some (slice_get code.tables table) f in
      delete_rows_does code r l may table t.0 test s m t.1 (no_letters ks s m e h)
  plan_does (plans.UpdateAt cursor sets) ks s m c e h =
      let f = two_hold (is_there r.cursors cursor) (is_some sets && is_positioned r cursor) rule.Range rule.Definition (clean_head _ (plan_parts code r (plans.UpdateAt cursor sets)) c) in
      let x = there_some (slice_get r.cursors cursor) f.0 in
      update_at_does code r l may cursor x.0 x.1 (well_formed_cursor code r cursor x.0 g x.1) sets s m (no_letters ks s m e h)
  plan_does (plans.DeleteAt cursor) ks s m c e h =
      let f = two_hold (is_there r.cursors cursor) (is_positioned r cursor) rule.Range rule.Definition (clean_head _ (plan_parts code r (plans.DeleteAt cursor)) c) in
      let x = there_some (slice_get r.cursors cursor) f.0 in
      delete_at_does code r l may cursor x.0 x.1 (well_formed_cursor code r cursor x.0 g x.1) s m (no_letters ks s m e h)

-- ---- the instruction

taken_known : (r : RawRoutine) (at : ℕ) (s : List Letter) (o : Option (List Letter)) → rules.follows_with r at s (option_map (λ ls. plain (codes "DATA") ls []) o) ≡ true → (ls : List Letter) × (o ≡ Some ls)
taken_known r at s None h = absurd (cc)
taken_known r at s (Some ls) h = (ls, refl)

module _ (code : RawCode) (well_formed_code : first_fault code ≡ None) (r : RawRoutine) (g : WellFormedRoutineCode code r) (c : ℕ) (resume : Option ℕ) (s : List Letter) where
  pub change_kept : (n : ℕ) → Kept code well_formed_code r g c resume s (instruction.Data n)
  change_kept n m h =
      let i = instruction.Data n in
      let l = with code well_formed_code r g c resume s i in
      let line = well_formed_here code well_formed_code r g c resume s i m h in
      let p = there_some (slice_get r.plans n) line.named in
      let put : Option (List Letter) → Option Effect = λ o. option_map (λ ls. plain (codes "DATA") ls []) o in
      let is : (o : Option Plan) → Option Effect = λ o. put (of_plan (plan_letters code) o) in
      let ch = choose code r m.running.line l line in
      let k = taken_known r m.running.line (reverse s) (plan_letters code p.0) (ap (λ o. rules.follows_with r m.running.line (reverse s) (is o)) (sym p.1) ∙ ch.follows) in
      let clean = clean_flat (plan_faults code r) r.plans n p.0 g.plans p.1 in
      goes_straight code well_formed_code r g l (planning.plan code r n) m (plain (codes "DATA") k.0 []) [] (λ j x. ap is p.1 ∙ ap put k.1) refl refl (bears code well_formed_code r g l m h.body (λ e. e)) h (λ rest f.
      and_then code r l (λ y j. (y ≡ p.0) × Has code r l (k.0 ++ rest) j) _ _ _ m (present_does code r l _ (slice_get r.plans n) p.0 m p.1 (refl, f)) (λ y j z.
      subst (λ (y : Plan). Does code r l (λ u n. Has code r l rest n) (planning.done code r y) j) (sym z.0) (plan_does code r g l refl p.0 k.0 rest j clean k.1 z.1)))
