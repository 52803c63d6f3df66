-- INSERT, UPDATE and DELETE.
use Rattle.std.proofs.Common.{◌≡◌, arith, ℕ, suc, ◌*◌, List, [], ◌∷◌, ◌++◌, length, slice_get, refl, ap, sym, ◌∙◌, subst, Option, Some, None}
use Rattle.std.specs.Prelude.{drop, take}
use Rattle.std.proofs.Math.Nat.{suc-mul, zero-mul}
use Rattle.std.proofs.Math.Seq.{drop-append_seam, take-append_seam}
use Rattle.std.proofs.lemmas.List.{length-append}
use Rattle.psm_value.specs.declared.datum.Datum.{Datum}
use Rattle.psm_exprcode.specs.declared.op.Line.{Line}
use Rattle.psm_exprcode.specs.declared.operand.Operand.{Operand}
use Rattle.psm_exprcode.specs.declared.operand.Operand.TheVariants.{Value}
use Rattle.psm_exprcode.specs.declared.set_item.SetItem.{SetItem}
use Rattle.psm_resolved.specs.declared.expr.ResolvedExpr.{ResolvedExpr}
use Rattle.psm_resolved.specs.declared.expr.ResolvedQuery.{ResolvedQuery}
use Rattle.psm_resolved.specs.declared.file.ResolvedFile.{ResolvedFile}
use Rattle.psm_resolved.specs.declared.file.ResolvedRoutine.{ResolvedRoutine}
use Rattle.psm_resolved.specs.declared.statement.ResolvedRows.{ResolvedRows}
use Rattle.psm_resolved.specs.declared.statement.ResolvedRows.TheVariants as given
use Rattle.psm_resolved.specs.declared.statement.ResolvedSet.{ResolvedSet}
use Rattle.psm_resolved.specs.declared.statement.ResolvedSimple.TheVariants as simples
use Rattle.psm_resolved.specs.declared.statement.ResolvedWhere.{ResolvedWhere}
use Rattle.psm_resolved.specs.declared.statement.ResolvedWhere.TheVariants as which
use Rattle.psm_meaning.specs.Acts as acts
use Rattle.psm_meaning.specs.Acts.{Act, Meaning}
use Rattle.psm_meaning.specs.Data as meaning
use Rattle.psm_meaning.specs.Rows as trees
use Rattle.psm_meaning.specs.State.{State}
use Rattle.psm_meaning.specs.Statements.{simple}
use Rattle.psm_code.specs.declared.code.Plan.TheVariants as plan_of
use Rattle.psm_code.specs.declared.code.RawCode.{RawCode}
use Rattle.psm_code.specs.declared.code.RawRoutine.{RawRoutine}
use Rattle.psm_code.specs.declared.instruction.Instruction.TheVariants as instruction
use Rattle.psm_code.specs.Parts.{routine_at}
use Rattle.psm_code.specs.Plans as plans
use Rattle.psm_code.specs.Run as code_rows
use Rattle.psm_code.specs.State.{Stepped}
use Rattle.psm_code.specs.Steps as steps
use Rattle.psm_simulation.specs.Agreement.{Evaluates, IsReady, Leads, Spot, areas, machine, owns}
use Rattle.psm_simulation.specs.Changes.{IsDelete, IsUpdate, PutsRows, SameAt, TablesStand}
use Rattle.psm_simulation.specs.Env.{Env, Raising, eval_context_of}
use Rattle.psm_simulation.specs.Expressions.{IsQuery, stacked}
use Rattle.psm_simulation.specs.Scheme.{Simple}
use Rattle.psm_simulation.specs.Simulation.{Evals, Simulates}
use Rattle.psm_simulation.proofs.Answering.{Means, Takes, evaluates-asked}
use Rattle.psm_simulation.proofs.Closing.{found-owned}
use Rattle.psm_simulation.proofs.Doing.{Does, Site, at_line}
use Rattle.psm_simulation.proofs.Entering.{pops-stacked}
use Rattle.psm_simulation.proofs.Evaluating.{evaluates-from, evals-bind}
use Rattle.psm_simulation.proofs.Operands.{evals-regrouped, gives-values-with}
use Rattle.psm_simulation.proofs.Runs.{after_line, leads-here, leads-same, leads-to}
use Rattle.psm_simulation.proofs.Simples.{does-stated, evals-cleared, evals-end}
use Rattle.psm_simulation.proofs.SimplesPositioned.{evals-delete_at, evals-update_at}
use Rattle.psm_simulation.proofs.SimplesTables.{delete-evaluates, leads-plan, put-evaluates, update-evaluates}

-- ---- rows of values on the operands

abbrev stacked_rows : List (List Datum) → List Operand → List Operand
stacked_rows [] below = below
stacked_rows (row ∷ rows) below = stacked_rows rows (stacked row below)

abbrev flat : List (List Datum) → List Datum
flat [] = []
flat (row ∷ rows) = row ++ flat rows

abbrev AreWide : ℕ → List (List Datum) → Type 0
AreWide width [] = Unit {0}
AreWide width (row ∷ rows) = (length row ≡ width) × AreWide width rows

stacked-append : (ds es : List Datum) (below : List Operand) → stacked (ds ++ es) below ≡ stacked es (stacked ds below)
stacked-append [] es below = refl
stacked-append (d ∷ ds) es below = stacked-append ds es (Value d ∷ below)

stacked-flat : (rows : List (List Datum)) (below : List Operand) → stacked_rows rows below ≡ stacked (flat rows) below
stacked-flat [] below = refl
stacked-flat (row ∷ rows) below = stacked-flat rows (stacked row below) ∙ sym (stacked-append row (flat rows) below)

length-flat : (width : ℕ) (rows : List (List Datum)) → AreWide width rows → length (flat rows) ≡ length rows * width
length-flat width [] w = sym (zero-mul width)
length-flat width (row ∷ rows) w =
    let one = length-append row (flat rows) in
    let more = length-flat width rows w.1 in
    let last = suc-mul (length rows) width in
    let own = w.0 in
    omega (arith, one, more, last, own)

in-rows : (width : ℕ) (rows : List (List Datum)) → AreWide width rows → plans.in_rows (length rows) width (flat rows) ≡ rows
in-rows width [] w = refl
in-rows width (row ∷ rows) w =
    let first : take width (row ++ flat rows) ≡ row = ap (λ n. take n (row ++ flat rows)) (sym w.0) ∙ take-append_seam row (flat rows) in
    let others : drop width (row ++ flat rows) ≡ flat rows = ap (λ n. drop n (row ++ flat rows)) (sym w.0) ∙ drop-append_seam row (flat rows) in
    ap (λ x. x ∷ plans.in_rows (length rows) width (drop width (row ++ flat rows))) first ∙ ap (λ x. row ∷ plans.in_rows (length rows) width x) others ∙ ap (λ x. row ∷ x) (in-rows width rows w.1)

-- what is made of as many rows of values
evals-rows : {file : ResolvedFile} {code : RawCode} {r : RawRoutine} {k following : ℕ} {spot : Spot} {m : Meaning} → Simulates file code m → routine_at code spot.number ≡ Some r → (width : ℕ) (rows : List (List ResolvedExpr)) {pc mid : ℕ} (end : ℕ) (below : List Operand)
    → PutsRows file code r k following width rows pc mid → (go : List (List Datum) → Act (Unit {0}))
    → ((values : List (List Datum)) → AreWide width values → length values ≡ length rows → Evals code r k following spot m (go values) (at_line spot mid (stacked_rows values below)) (λ u. at_line spot end []))
    → Evals code r k following spot m (acts.◌>>=◌ (meaning.all_values rows) go) (at_line spot pc below) (λ u. at_line spot end [])
evals-rows {code = code} {r = r} {k = k} {following = following} {spot = spot} {m = m} sim p width [] end below e go h =
    record { by = λ st d. (subst (λ n. Evals code r k following spot m (go []) (at_line spot n below) (λ u. at_line spot end [])) (sym e) (h [] tt refl)).by st d }
evals-rows {file = file} {code = code} {r = r} {k = k} {following = following} {spot = spot} {m = m} sim p width (row ∷ rows) {pc = pc} end below (next, wide, puts, more) go h =
    let rest : List Datum → Act (List (List Datum)) = λ ds. acts.◌>>=◌ (meaning.all_values rows) (λ others. acts.got (ds ∷ others)) in
    evals-regrouped (acts.values row) rest go (at_line spot pc below) (λ u. at_line spot end [])
    (gives-values-with file code r k following spot m (sim.value r spot p k following) row (λ ds. acts.◌>>=◌ (rest ds) go) pc next end below (λ u. []) puts
    (λ ds same. evals-regrouped (meaning.all_values rows) (λ others. acts.got (ds ∷ others)) go (at_line spot next (stacked ds below)) (λ u. at_line spot end [])
    (evals-rows sim p width rows end (stacked ds below) more (λ others. go (ds ∷ others)) (λ values w n. h (ds ∷ values) (same ∙ wide, w) (ap suc n)))))

-- ---- INSERT

abbrev inserting : RawCode → ℕ → List ℕ → ℕ → steps.Came (List Datum) → Stepped
inserting code table columns count came =
    let put = steps.go_on came.given (λ ds. plans.put_in code table columns (plans.in_rows count (length columns) ds)) came.machine in
    let fall_through = steps.go_on put.given (λ u. steps.got code_rows.fall_through) put.machine in
    code_rows.settled code fall_through.given fall_through.machine

evals-put : (file : ResolvedFile) {code : RawCode} {r : RawRoutine} {k following : ℕ} {spot : Spot} {m : Meaning} → routine_at code spot.number ≡ Some r → (table : ℕ) (columns : List ℕ) (rows : List (List Datum)) (count : ℕ) {pc n : ℕ} → SameAt file code table
    → length rows ≡ count → AreWide (length columns) rows → Raising r k following pc (instruction.Data n) → slice_get r.plans n ≡ Some (plan_of.Insert table columns count)
    → Evals code r k following spot m (meaning.put_in file table columns rows) (at_line spot pc (stacked_rows rows [])) (λ u. at_line spot (suc pc) [])
evals-put file {code = code} {r = r} {k = k} {following = following} {spot = spot} {m = m} p table columns rows count {pc = pc} {n = n} same many wide l there = record {
  by = λ st d.
      let width = length columns in
      let q = machine spot pc [] st in
      let one : Leads code (at_line spot pc (stacked_rows rows []) st) (at_line spot pc (stacked (flat rows) []) st) = leads-same leads-here (ap (λ os. at_line spot pc os st) (stacked-flat rows [])) in
      let as_many : count * width ≡ length (flat rows) = ap (λ c. c * width) (sym many) ∙ sym (length-flat width rows wide) in
      let popped : steps.pops (count * width) [] (machine spot pc (stacked (flat rows) []) st) ≡ record { given = steps.Got (flat rows); machine = q } =
      ap (λ c. steps.pops c [] (machine spot pc (stacked (flat rows) []) st)) as_many ∙ pops-stacked (flat rows) [] q in
      let two = ap (inserting code table columns count) popped in
      let grouped : plans.in_rows count width (flat rows) ≡ rows = ap (λ c. plans.in_rows c width (flat rows)) (sym many) ∙ in-rows width rows wide in
      let three = ap (λ x. after_line code (plans.put_in code table columns x) q) grouped in
      let act = meaning.put_in file table columns rows in
      evaluates-from code r k following spot (λ u. at_line spot (suc pc) []) (leads-to one (leads-same (leads-plan spot p l (plan_of.Insert table columns count) there (stacked (flat rows) []) st) (two ∙ three))) (act m st).given (act m st).state
      (put-evaluates code r k following spot m pc (instruction.Data n) l file table same columns rows st d);
}

some-evaluates : (file : ResolvedFile) (code : RawCode) (r : RawRoutine) (k following : ℕ) (spot : Spot) (m : Meaning) (pc n : ℕ) → Raising r k following pc (instruction.Data n) → (table : ℕ) (columns : List ℕ) → SameAt file code table
    → (st : State) → IsReady code spot st → (rows : List (List Datum))
    → Evaluates code r k following spot (after_line code (steps.◌>>=◌ (plans.some_rows rows) (plans.put_in code table columns)) (machine spot pc [] st)) (λ u. at_line spot (suc pc) [])
    (acts.◌>>=◌ (meaning.some_rows rows) (meaning.put_in file table columns) m st).given (acts.◌>>=◌ (meaning.some_rows rows) (meaning.put_in file table columns) m st).state
some-evaluates file code r k following spot m pc n l table columns same st d [] = (record { pc = pc; operands = []; pending = None; line = _; there = l.there; context = refl; resume = refl; leads = leads-here }, d)
some-evaluates file code r k following spot m pc n l table columns same st d (row ∷ rows) = put-evaluates code r k following spot m pc (instruction.Data n) l file table same columns (row ∷ rows) st d

evals-put_query : (file : ResolvedFile) {code : RawCode} {r : RawRoutine} {k following : ℕ} {spot : Spot} {m : Meaning} → routine_at code spot.number ≡ Some r → (table : ℕ) (columns : List ℕ) (query : ResolvedQuery) (q : ℕ) {pc n : ℕ} → SameAt file code table
    → IsQuery r q query → Raising r k following pc (instruction.Data n) → slice_get r.plans n ≡ Some (plan_of.InsertQuery table columns q)
    → Evals code r k following spot m (acts.◌>>=◌ (meaning.rows_given (given.Query query)) (meaning.put_in file table columns)) (at_line spot pc []) (λ u. at_line spot (suc pc) [])
evals-put_query file {code = code} {r = r} {k = k} {following = following} {spot = spot} {m = m} p table columns query q {pc = pc} {n = n} same is l there =
    evals-regrouped (trees.answer_of query) (λ a. meaning.some_rows a.rows) (meaning.put_in file table columns) (at_line spot pc []) (λ u. at_line spot (suc pc) []) (record {
      by = λ st d.
          let takes : Takes = λ a. steps.◌>>=◌ (plans.some_rows a.rows) (plans.put_in code table columns) in
          let means : Means (Unit {0}) = λ a. acts.◌>>=◌ (meaning.some_rows a.rows) (meaning.put_in file table columns) in
          let act = acts.◌>>=◌ (trees.answer_of query) means in
          evaluates-from code r k following spot (λ u. at_line spot (suc pc) []) (leads-plan spot p l (plan_of.InsertQuery table columns q) there [] st) (act m st).given (act m st).state
          (evaluates-asked code r k following spot m pc (instruction.Data n) l [] (Unit {0}) (λ u. at_line spot (suc pc) []) takes means (λ st d a. some-evaluates file code r k following spot m pc n l table columns same st d a.rows) q query is st d);
    })

pub does-insert : {file : ResolvedFile} {code : RawCode} {routine : ResolvedRoutine} {r : RawRoutine} {m : Meaning} {env : Env} {spot : Spot} → Site file code routine r m env spot → TablesStand file code → (table : ℕ) (columns : List ℕ) (rows : ResolvedRows) {pc end : ℕ}
    → Simple file code routine r env end (simples.Insert table columns rows) pc → Does file code routine r m env spot end (simple file (eval_context_of routine env (areas spot.standing)) (simples.Insert table columns rows)) (at_line spot pc [])
does-insert {file = file} site same table columns (given.Values rows) (mid, n, clear, puts, there, l, last) =
    does-stated site (evals-bind (evals-cleared site.there clear []) (λ u. evals-end last (evals-rows site.simulates site.there (length columns) rows (suc mid) [] puts (meaning.put_in file table columns)
    (λ values wide many. evals-put file site.there table columns values (length rows) (same table) many wide l there))))
does-insert {file = file} site same table columns (given.Query query) (n, q, clear, is, there, l, last) =
    does-stated site (evals-bind (evals-cleared site.there clear []) (λ u. evals-end last (evals-put_query file site.there table columns query q (same table) is l there)))

-- ---- UPDATE

evals-update : (file : ResolvedFile) {code : RawCode} {r : RawRoutine} {k following : ℕ} {spot : Spot} {m : Meaning} → routine_at code spot.number ≡ Some r → (table : ℕ) (sets : List ResolvedSet) (test : Option ResolvedExpr) (coded : List SetItem) (coded_test : Option (List Line)) {pc n : ℕ}
    → SameAt file code table → IsUpdate file code table sets test coded coded_test → Raising r k following pc (instruction.Data n) → slice_get r.plans n ≡ Some (plan_of.Update table coded coded_test)
    → Evals code r k following spot m (meaning.update_rows file table sets test) (at_line spot pc []) (λ u. at_line spot (suc pc) [])
evals-update file {code = code} {r = r} {k = k} {following = following} {spot = spot} {m = m} p table sets test coded coded_test {pc = pc} {n = n} same is l there = record {
  by = λ st d. let act = meaning.update_rows file table sets test in
      evaluates-from code r k following spot (λ u. at_line spot (suc pc) []) (leads-plan spot p l (plan_of.Update table coded coded_test) there [] st) (act m st).given (act m st).state
      (update-evaluates code r k following spot m pc (instruction.Data n) l file table same sets test coded coded_test is st d);
}

pub does-update : {file : ResolvedFile} {code : RawCode} {routine : ResolvedRoutine} {r : RawRoutine} {m : Meaning} {env : Env} {spot : Spot} → Site file code routine r m env spot → TablesStand file code → (table : ℕ) (sets : List ResolvedSet) (where_ : ResolvedWhere) {pc end : ℕ}
    → Simple file code routine r env end (simples.Update table sets where_) pc → Does file code routine r m env spot end (simple file (eval_context_of routine env (areas spot.standing)) (simples.Update table sets where_)) (at_line spot pc [])
does-update {file = file} site same table sets which.All (n, coded, test, clear, is, there, l, last) =
    does-stated site (evals-bind (evals-cleared site.there clear []) (λ u. evals-end last (evals-update file site.there table sets None coded test (same table) is l there)))
does-update {file = file} site same table sets (which.Test e) (n, coded, test, clear, is, there, l, last) =
    does-stated site (evals-bind (evals-cleared site.there clear []) (λ u. evals-end last (evals-update file site.there table sets (Some e) coded test (same table) is l there)))
does-update {file = file} {routine = routine} {env = env} {spot = spot} site same table sets (which.Current cursor) (n, coded, x, clear, sees, over, is, there, l, last) =
    let own = found-owned cursor x env.cursors (owns spot.standing) site.fits.cursors.sees sees.first in
    does-stated site (evals-bind (evals-cleared site.there clear []) (λ u. evals-end last
    (evals-update_at file (eval_context_of routine env (areas spot.standing)) site.there table sets coded cursor x sees.cursor own.0 own.1 sees.first over (same table) is l there)))

-- ---- DELETE

evals-delete : (file : ResolvedFile) {code : RawCode} {r : RawRoutine} {k following : ℕ} {spot : Spot} {m : Meaning} → routine_at code spot.number ≡ Some r → (table : ℕ) (test : Option ResolvedExpr) (coded_test : Option (List Line)) {pc n : ℕ}
    → SameAt file code table → IsDelete file code table test coded_test → Raising r k following pc (instruction.Data n) → slice_get r.plans n ≡ Some (plan_of.Delete table coded_test)
    → Evals code r k following spot m (meaning.delete_rows file table test) (at_line spot pc []) (λ u. at_line spot (suc pc) [])
evals-delete file {code = code} {r = r} {k = k} {following = following} {spot = spot} {m = m} p table test coded_test {pc = pc} {n = n} same is l there = record {
  by = λ st d. let act = meaning.delete_rows file table test in
      evaluates-from code r k following spot (λ u. at_line spot (suc pc) []) (leads-plan spot p l (plan_of.Delete table coded_test) there [] st) (act m st).given (act m st).state
      (delete-evaluates code r k following spot m pc (instruction.Data n) l file table same test coded_test is st d);
}

pub does-delete : {file : ResolvedFile} {code : RawCode} {routine : ResolvedRoutine} {r : RawRoutine} {m : Meaning} {env : Env} {spot : Spot} → Site file code routine r m env spot → TablesStand file code → (table : ℕ) (where_ : ResolvedWhere) {pc end : ℕ}
    → Simple file code routine r env end (simples.Delete table where_) pc → Does file code routine r m env spot end (simple file (eval_context_of routine env (areas spot.standing)) (simples.Delete table where_)) (at_line spot pc [])
does-delete {file = file} site same table which.All (n, test, clear, is, there, l, last) =
    does-stated site (evals-bind (evals-cleared site.there clear []) (λ u. evals-end last (evals-delete file site.there table None test (same table) is l there)))
does-delete {file = file} site same table (which.Test e) (n, test, clear, is, there, l, last) =
    does-stated site (evals-bind (evals-cleared site.there clear []) (λ u. evals-end last (evals-delete file site.there table (Some e) test (same table) is l there)))
does-delete {file = file} {routine = routine} {env = env} {spot = spot} site same table (which.Current cursor) (n, x, clear, sees, over, is, there, l, last) =
    let own = found-owned cursor x env.cursors (owns spot.standing) site.fits.cursors.sees sees.first in
    does-stated site (evals-bind (evals-cleared site.there clear []) (λ u. evals-end last
    (evals-delete_at file (eval_context_of routine env (areas spot.standing)) site.there table cursor x sees.cursor own.0 own.1 sees.first over (same table) is l there)))
