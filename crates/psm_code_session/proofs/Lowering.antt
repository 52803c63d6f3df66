-- The commands that are made of those of an accepted script over code: there are some, and whichever they are, they do the same.
use Rattle.std.proofs.Common.{◌≡◌, ℕ, zero, suc, Bool, true, false, not, ◌&&◌, List, [], ◌∷◌, ◌++◌, length, slice_get, Some, None, refl, ap, sym, subst, ◌∙◌, eq-eqb}
use Rattle.std.specs.List.{AllByRecursion, list_all}
use Rattle.std.specs.Prelude.{nat_eq, if◌then◌else◌}
use Rattle.std.proofs.lemmas.Bool.{false≢true}
use Rattle.std.proofs.lemmas.List.Elements.{All-from_recursion}
use Rattle.std.proofs.lemmas.List.Folds.{list_all-append}
use Rattle.std.proofs.lemmas.Option.{same_Some}
use Rattle.psm_num.proofs.Literals.{and_first, and_second}
use Rattle.psm_value.specs.declared.datum.Datum.{Datum}
use Rattle.psm_table.specs.Queries.{answer}
use Rattle.psm_tablecode.specs.Codes.{over, query_of}
use Rattle.psm_tree.specs.declared.script.ScriptTree.{ScriptTree}
use Rattle.psm_meaning.specs.Session.{Command, Call, Insert, Select, Commit, Rollback, CommandResult, Session, Standing, Stopped, Went}
use Rattle.psm_meaning.specs.Acts.{NoTurns}
use Rattle.psm_meaning.specs.Lines.{first_line}
use Rattle.psm_code.specs.declared.code.RawCode.{RawCode}
use Rattle.psm_code.specs.declared.code.RawRoutine.{RawRoutine}
use Rattle.psm_code.specs.declared.rule.CodeRule.TheVariants.{Range, Target, Definition}
use Rattle.psm_code.specs.Parts.{routine_at}
use Rattle.psm_code.specs.RoutineRules.{are_apart, are_distinct_of, first_fault, code_faults, routine_fault, routine_faults, same_truth}
use Rattle.psm_code.specs.Rules.{each_after, is_same, is_some, there, unless, where_there}
use Rattle.psm_code.specs.TableRules.{are_in_turn, table_faults}
use Rattle.psm_code.proofs.Faults.{Clean, clean_first, clean_head, clean_of, clean_second, three_hold}
use Rattle.psm_exprcode.specs.WellFormed.{is_type}
use Rattle.psm_typing.specs.TypingContext.{Each}
use Rattle.psm_check_script.specs.Checked.{script_of}
use Rattle.psm_check_script.specs.Known.{known_of}
use Rattle.psm_check_script.specs.There.{IsThere, procedures_in}
use Rattle.psm_check_script.proofs.Named.{commands_there}
use Rattle.psm_session.specs.CommandSteps.{CommandExecutes, Executes, select, command_name, selected}
use Rattle.psm_session.specs.declared.command.ScriptCommand.{ScriptCommand}
use Rattle.psm_session.specs.declared.command.ScriptCommand.TheVariants as made
use Rattle.psm_session_simulation.proofs.Asking.{answers-same}
use Rattle.psm_script_code.specs.Lowered.{AllLowered, Lowered, procedure_numbers, routine_of}
use Rattle.psm_script_code.specs.Made.{CommandMade, CommandsMade, known_of_tables}
use Rattle.psm_script_code.specs.WellFormed.{AsksTables}
use Rattle.psm_script_code.proofs.Making.{all_made}
use Rattle.psm_check_script.specs.ScriptFaults.{script_fault}
use Rattle.psm_code_session.proofs.QueryCodes.{query_code}
use Rattle.psm_code_session.proofs.Sessions.{SessionFrom, more, stops}

-- ---- there are some

module _ (code : RawCode) where
  lowered : (c : Command) → (m : ScriptCommand) × Lowered (known_of_tables code) (procedure_numbers 0 code.routines) c m
  lowered (Call procedure values) = (made.Call (routine_of (procedure_numbers 0 code.routines) procedure) values, (refl, refl))
  lowered (Insert table columns rows) = (made.Insert table columns rows, (refl, refl, refl))
  lowered (Select query) = let q = query_code (known_of_tables code) query in (made.Select q.0, q.1)
  lowered Commit = (made.Commit, tt)
  lowered Rollback = (made.Rollback, tt)

  all_lowered : (cs : List Command) → (ms : List ScriptCommand) × AllLowered (known_of_tables code) (procedure_numbers 0 code.routines) cs ms
  all_lowered [] = ([], tt)
  all_lowered (c ∷ cs) = let one = lowered c in let others = all_lowered cs in (one.0 ∷ others.0, (one.1, others.1))

  pub script_made : (tree : ScriptTree) → script_fault (known_of code) tree ≡ None → (commands : List ScriptCommand) × CommandsMade code (script_of (known_of code) tree) commands
  script_made tree accepted =
      let cs : List Command = script_of (known_of code) tree in
      let ms = all_lowered cs in
      (ms.0, all_made code (known_of_tables code) (procedure_numbers 0 code.routines) cs ms.0 refl refl (All-from_recursion (IsThere code) cs (commands_there code tree.commands accepted)) ms.1)

-- ---- a procedure has one number

same_text : (a : List ℕ) → is_same a a ≡ true
same_text [] = refl
same_text (x ∷ a) = ap (λ b. b && is_same a a) (eq-eqb x x refl) ∙ same_text a

not_apart : (r : RawRoutine) → r.is_function ≡ false → are_apart r r ≡ true → ⊥
not_apart r kind h = false≢true (sym no ∙ h)
  where
    no : are_apart r r ≡ false
    no = ap (λ b. are_distinct_of b b r r) kind ∙ ap (λ b. not (b && nat_eq (length r.parameters) (length r.parameters))) (same_text r.name)
        ∙ ap not (eq-eqb (length r.parameters) (length r.parameters) refl)

-- what holds of all routines before one holds of it
abbrev IsAmong : RawRoutine → List RawRoutine → Type 0
IsAmong x before = (test : RawRoutine → Bool) → list_all test before ≡ true → test x ≡ true

among_last : (x : RawRoutine) (before : List RawRoutine) → IsAmong x (before ++ x ∷ [])
among_last x before test h = and_first (test x) true (and_second (list_all test before) (test x && true) (sym (list_all-append test before (x ∷ [])) ∙ h))

among_more : (x y : RawRoutine) (before : List RawRoutine) → IsAmong x before → IsAmong x (before ++ y ∷ [])
among_more x y before m test h = m test (and_first (list_all test before) (test y && true) (sym (list_all-append test before (y ∷ [])) ∙ h))

module _ (code : RawCode) where
  abbrev AreClean : List RawRoutine → List RawRoutine → Type 0
  AreClean before rs = Clean (each_after (routine_faults code) before rs)

  -- a routine is apart from each of those before it
  apart_here : (x y : RawRoutine) (before rs : List RawRoutine) → AreClean before (y ∷ rs) → IsAmong x before → are_apart y x ≡ true
  apart_here x y before rs clean m =
      let first = clean_head (routine_fault before y) _ (clean_first (routine_faults code before y) (each_after (routine_faults code) (before ++ y ∷ []) rs) clean) in
      let all : Bool = list_all (are_apart y) before in
      let kind : Bool = same_truth y.is_function (there y.returns) in
      m (are_apart y) (and_first all kind (three_hold (where_there y.returns is_type) (is_some y.lines) (all && kind) Range Target Definition first).2)

  clean_later : (y : RawRoutine) (before rs : List RawRoutine) → AreClean before (y ∷ rs) → AreClean (before ++ y ∷ []) rs
  clean_later y before rs clean = clean_second (routine_faults code before y) (each_after (routine_faults code) (before ++ y ∷ []) rs) clean

  apart_at : (x r : RawRoutine) (before rs : List RawRoutine) (n : ℕ) → AreClean before rs → IsAmong x before → slice_get rs n ≡ Some r → are_apart r x ≡ true
  apart_at x r before [] n clean m at = absurd cc
  apart_at x r before (y ∷ rs) zero clean m at = subst (λ z. are_apart z x ≡ true) (same_Some y r at) (apart_here x y before rs clean m)
  apart_at x r before (y ∷ rs) (suc n) clean m at = apart_at x r (before ++ y ∷ []) rs n (clean_later y before rs clean) (among_more x y before m) at

  one_number : (r : RawRoutine) → r.is_function ≡ false → (before rs : List RawRoutine) (n m : ℕ) → AreClean before rs → slice_get rs n ≡ Some r → slice_get rs m ≡ Some r → n ≡ m
  one_number r kind before [] n m clean at other = absurd cc
  one_number r kind before (y ∷ rs) zero zero clean at other = refl
  one_number r kind before (y ∷ rs) zero (suc m) clean at other =
      absurd (not_apart r kind (subst (λ z. are_apart r z ≡ true) (same_Some y r at) (apart_at y r (before ++ y ∷ []) rs m (clean_later y before rs clean) (among_last y before) other)))
  one_number r kind before (y ∷ rs) (suc n) zero clean at other =
      absurd (not_apart r kind (subst (λ z. are_apart r z ≡ true) (same_Some y r other) (apart_at y r (before ++ y ∷ []) rs n (clean_later y before rs clean) (among_last y before) at)))
  one_number r kind before (y ∷ rs) (suc n) (suc m) clean at other = ap suc (one_number r kind (before ++ y ∷ []) rs n m (clean_later y before rs clean) at other)

  routines_clean : first_fault code ≡ None → AreClean [] code.routines
  routines_clean well_formed_code = clean_second (unless (are_in_turn 0 (length code.tables) code.keys) Definition ∷ each_after (table_faults code.keys) [] code.tables) (each_after (routine_faults code) [] code.routines) (clean_of 1 (code_faults code) well_formed_code)

-- a procedure is no function
procedures_are : (rs : List RawRoutine) (n : ℕ) (r : RawRoutine) → slice_get (procedures_in rs) n ≡ Some r → r.is_function ≡ false
procedures_are [] n r is = absurd cc
procedures_are (x ∷ rs) n r is = by x.is_function refl (λ m at. procedures_are rs m r at) n is
  where
    by : (b : Bool) → x.is_function ≡ b → ((m : ℕ) → slice_get (procedures_in rs) m ≡ Some r → r.is_function ≡ false) → (n : ℕ) → slice_get (if b then procedures_in rs else x ∷ procedures_in rs) n ≡ Some r
        → r.is_function ≡ false
    by true e others n is = others n is
    by false e others zero is = ap (λ (y : RawRoutine). y.is_function) (sym (same_Some x r is)) ∙ e
    by false e others (suc n) is = others n is

-- ---- commands that do the same

abbrev pub AreSame : ScriptCommand → ScriptCommand → Type 0
AreSame (made.Call n values) (made.Call m others) = (n ≡ m) × (values ≡ others)
AreSame (made.Insert table columns rows) (made.Insert other indexes others) = (table ≡ other) × (columns ≡ indexes) × (rows ≡ others)
AreSame (made.Select q) (made.Select r) = (q.table ≡ r.table) × ((rows : List (List Datum)) → answer (over []) (query_of q) rows ≡ answer (over []) (query_of r) rows)
AreSame made.Commit made.Commit = Unit {0}
AreSame made.Rollback made.Rollback = Unit {0}
AreSame c d = ⊥

-- one for one
abbrev pub AreAllSame : List ScriptCommand → List ScriptCommand → Type 0
AreAllSame [] [] = Unit {0}
AreAllSame [] (d ∷ ds) = ⊥
AreAllSame (c ∷ cs) [] = ⊥
AreAllSame (c ∷ cs) (d ∷ ds) = AreSame c d × AreAllSame cs ds

module _ (code : RawCode) (well_formed_code : first_fault code ≡ None) where
  call_same : (procedure n m : ℕ) (values : List Datum) → IsThere code (Call procedure values) → routine_at code n ≡ slice_get (procedures_in code.routines) procedure → routine_at code m ≡ slice_get (procedures_in code.routines) procedure → n ≡ m
  call_same procedure n m values is h k =
      one_number code is.routine (procedures_are code.routines procedure is.routine is.there) [] code.routines n m (routines_clean code well_formed_code) (h ∙ is.there) (k ∙ is.there)

  made_same : (c : Command) (d e : ScriptCommand) → IsThere code c → AsksTables code c → CommandMade code c d → CommandMade code c e → AreSame d e
  made_same (Call procedure values) (made.Call n args) (made.Call m others) is asks h k = (call_same procedure n m values is h.0 k.0, h.1 ∙ sym k.1)
  made_same (Insert table columns rows) (made.Insert at indexes values) (made.Insert other others lists) is asks h k = (h.0 ∙ sym k.0, h.1 ∙ sym k.1, h.2 ∙ sym k.2)
  made_same (Select query) (made.Select q) (made.Select r) is asks h k = (
    h.table ∙ sym k.table,
    λ rows. answers-same query q (record { known = known_of_tables code; none = refl; is = asks; made = h }) rows ∙ sym (answers-same query r (record { known = known_of_tables code; none = refl; is = asks; made = k }) rows),
  )
  made_same Commit made.Commit made.Commit is asks h k = tt
  made_same Rollback made.Rollback made.Rollback is asks h k = tt
  made_same (Call procedure values) (made.Call n args) other is asks h k = absurd k
  made_same (Insert table columns rows) (made.Insert at indexes values) other is asks h k = absurd k
  made_same (Select query) (made.Select q) other is asks h k = absurd k
  made_same Commit made.Commit other is asks h k = absurd k
  made_same Rollback made.Rollback other is asks h k = absurd k
  made_same c d e is asks h k = absurd h

  all_same : (cs : List Command) (ds es : List ScriptCommand) → AllByRecursion (IsThere code) cs → Each (AsksTables code) cs → CommandsMade code cs ds → CommandsMade code cs es → AreAllSame ds es
  all_same [] [] [] is asks h k = tt
  all_same [] [] (e ∷ es) is asks h k = absurd k
  all_same [] (d ∷ ds) es is asks h k = absurd h
  all_same (c ∷ cs) [] es is asks h k = absurd h
  all_same (c ∷ cs) (d ∷ ds) [] is asks h k = absurd k
  all_same (c ∷ cs) (d ∷ ds) (e ∷ es) is asks h k = (made_same c d e is.0 asks.0 h.0 k.0, all_same cs ds es is.1 asks.1 h.1 k.1)

  pub scripts_same : (tree : ScriptTree) → script_fault (known_of code) tree ≡ None → Each (AsksTables code) (script_of (known_of code) tree) → (ds es : List ScriptCommand) → CommandsMade code (script_of (known_of code) tree) ds
      → CommandsMade code (script_of (known_of code) tree) es → AreAllSame ds es
  scripts_same tree accepted asks ds es h k = all_same (script_of (known_of code) tree) ds es (commands_there code tree.commands accepted) asks h k

-- ---- what one of them does, and a session of theirs

module _ (code : RawCode) where
  executes_same : (first : List ℕ) (s : Standing) (d e : ScriptCommand) (p : CommandResult) → AreSame d e → Executes code first s d p → Executes code first s e p
  executes_same first s (made.Call n values) (made.Call m others) p same h =
      subst (λ x. Executes code first s (made.Call m x) p) same.1 (subst (λ x. Executes code first s (made.Call x values) p) same.0 h)
  executes_same first s (made.Insert table columns rows) (made.Insert other indexes others) p same h =
      subst (λ x. Executes code first s (made.Insert other indexes x) p) same.2
      (subst (λ x. Executes code first s (made.Insert other x rows) p) same.1 (subst (λ x. Executes code first s (made.Insert x columns rows) p) same.0 h))
  executes_same first s (made.Select q) (made.Select r) p same (select {c = c} at) =
      subst (λ a. Executes code first s (made.Select r) (selected first s a)) (sym (same.1 c.rows)) (select (ap (slice_get s.tables) (sym same.0) ∙ at))
  executes_same first s made.Commit made.Commit p same h = h
  executes_same first s made.Rollback made.Rollback p same h = h
  executes_same first s d e p same h = absurd same

  name_same : (d e : ScriptCommand) → AreSame d e → command_name code d ≡ command_name code e
  name_same (made.Call n values) (made.Call m others) same = ap (λ x. command_name code (made.Call x [])) same.0
  name_same (made.Insert table columns rows) (made.Insert other indexes others) same = ap (λ x. command_name code (made.Insert x [] [])) same.0
  name_same (made.Select q) (made.Select r) same = refl
  name_same made.Commit made.Commit same = refl
  name_same made.Rollback made.Rollback same = refl
  name_same d e same = absurd same

  command_same : (k : ℕ) (s : Standing) (d e : ScriptCommand) (p : CommandResult) → AreSame d e → CommandExecutes code k s d p → CommandExecutes code k s e p
  command_same k s d e p same h =
      subst (λ name. Executes code (first_line k name) s e p) (name_same d e same) (executes_same (first_line k (command_name code d)) s d e p same h)

  pub session_same : (k : ℕ) (s : Standing) (ds es : List ScriptCommand) (u : Session) → AreAllSame ds es → SessionFrom code k s ds u → SessionFrom code k s es u
  session_same k s [] [] u same h = h
  session_same k s [] (e ∷ es) u same h = absurd same
  session_same k s (d ∷ ds) [] u same h = absurd same
  session_same k s (d ∷ ds) (e ∷ es) u same (more {t = t} {piece = piece} {u = rest} g h) = more (command_same k s d e (Went piece t) same.0 g) (session_same (suc k) t ds es rest same.1 h)
  session_same k s (d ∷ ds) (e ∷ es) u same (stops {piece = piece} g) = stops (command_same k s d e (Stopped NoTurns (piece ∷ [])) same.0 g)
