use Rattle.std.proofs.Common.{◌≡◌, Bool, List, length, true, false, Some, Ok, Err, ap, sym, refl, subst, ◌∙◌, arith}
use Rattle.std.specs.Prelude.{[], codes, slice_get}
use Rattle.std.specs.Option.{option_copied}
use Rattle.psm_exprcode.specs.declared.op.Line.{Line}
use Rattle.psm_value.specs.declared.datum.Datum.{Datum}
use Rattle.psm_table.specs.Changing.{deleted, IsLegal}
use Rattle.psm_table.specs.Evaluator.{test_of}
use Rattle.psm_table.specs.Keyed.{are_keyed_with, rows_in}
use Rattle.psm_table.specs.Queries.{walked}
use Rattle.psm_table.specs.Table.{Contents}
use Rattle.psm_store.specs.RowCalls.{changed_at}
use Rattle.psm_tablecode.specs.Codes.{over}
use Rattle.psm_dml.specs.Ends.{keyed_schema, schema_of, Bears, Ends}
use Rattle.psm_row_changes.specs.Rows.{changed_if, without_all, without_keys}
use Rattle.psm_dml.specs.Collected.{key_in}
use Rattle.psm_row_changes.proofs.Effects.{changed_is, said, there}
use Rattle.psm_dml.proofs.Answering.{borne, reported, gives_err}
use Rattle.psm_dml.proofs.Erased.{erase_done, erase_fails, erase_raises}
use Rattle.psm_dml.proofs.Planned.{deleted_is, deleted_raises}
use Rattle.psm_dml.proofs.deleting.delete.Goals as goal

pub returns-in-Err-clause-answer : goal.returns-in-Err-clause-answer
returns-in-Err-clause-answer g c =
    let t : Contents = c.table.result.now.contents in
    let old = g.S.Store.tables c.args.store.now in
    let vars = c.args.vars.now in
    let test = option_copied c.args.test in
    let table = c.in-Err.ensures.table in
    said (λ x. (checks : List (List Line)) → IsLegal (over []) (schema_of x.def checks) x.rows → Ends x (deleted (over vars) (over []) (keyed_schema c.args.constraints.now old c.args.t x.def checks) test x.rows) old c.args.t old (Err c.raised.result))
    (slice_get old c.args.t) t c.table.ensures
    (λ checks legal. reported old old c.args.t t (λ x. deleted (over vars) (over []) (keyed_schema c.args.constraints.now old c.args.t t.def checks) test t.rows) c.table.ensures c.in-Err.fault c.raised.result
    (λ s e. erase_raises c.args.constraints.now old c.args.t t table checks legal vars test s
    (deleted_raises t.def.key (over vars) test t.rows s table.ascend (gives_err (walked (test_of (over vars) test) (key_in t.def.key) t.rows) c.in-Err.fault s e c.in-Err.ensures.keys)))
    c.raised.ensures refl)

pub overflow_cast-result : goal.overflow_cast-result
overflow_cast-result g c = omega (arith, ap length c.items-then-branch.ensures, c.in-Ok.ensures.bound, c.in-Ok.ensures.table.bound)

pub returns-then-branch-clause-answer : goal.returns-then-branch-clause-answer
returns-then-branch-clause-answer g c =
    let t : Contents = c.table.result.now.contents in
    let old = g.S.Store.tables c.args.store.now in
    let new = g.S.Store.tables c.erase_keyed.new.store in
    let vars = c.args.vars.now in
    let test = option_copied c.args.test in
    let keys = c.in-Ok.gone in
    let table = c.in-Ok.ensures.table in
    let among : List (List Datum) → Bool = are_keyed_with c.args.constraints.now (rows_in old) c.args.t in
    let expected = deleted_is t.def.key (over vars) test t.rows keys table.ascend c.in-Ok.ensures.keys in
    let asked = there (λ x. c.in_ok-erase_keyed.field-0 ≡ among (without_keys c.items.result.now x).rows) (slice_get old c.args.t) t c.table.ensures c.in_ok-erase_keyed.ensures.answer in
    let held : among (without_all t.def.key keys t.rows) ≡ true = ap (λ ks. among (without_keys ks t).rows) (sym c.items.ensures) ∙ sym asked ∙ c.if-branch.true in
    let done = subst (λ b. new ≡ changed_if (Ok b) (without_keys c.items.result.now) old c.args.t) c.if-branch.true c.in_ok-erase_keyed.ensures.tables in
    said (λ x. (checks : List (List Line)) → IsLegal (over []) (schema_of x.def checks) x.rows → Ends x (deleted (over vars) (over []) (keyed_schema c.args.constraints.now old c.args.t x.def checks) test x.rows) old c.args.t new (Ok (length c.items-then-branch.result.now)))
    (slice_get old c.args.t) t c.table.ensures
    (λ checks legal. (
      without_all t.def.key keys t.rows,
      erase_done c.args.constraints.now old c.args.t t table checks legal vars test (without_all t.def.key keys t.rows) (length keys) expected held ∙ ap (λ n. Ok (record { rows = without_all t.def.key keys t.rows; count = n })) (sym (ap length c.items-then-branch.ensures)),
      done ∙ ap (λ ks. changed_at (without_keys ks) old c.args.t) c.items.ensures ∙ changed_is (without_keys keys) old c.args.t t c.table.ensures,
    ))

pub returns-clause-answer : goal.returns-clause-answer
returns-clause-answer g c =
    let t : Contents = c.table.result.now.contents in
    let old : List Contents = g.S.Store.tables c.args.store.now in
    let new : List Contents = g.S.Store.tables c.erase_keyed.new.store in
    let vars = c.args.vars.now in
    let test = option_copied c.args.test in
    let keys = c.in-Ok.gone in
    let table = c.in-Ok.ensures.table in
    let among : List (List Datum) → Bool = are_keyed_with c.args.constraints.now (rows_in old) c.args.t in
    let expected = deleted_is t.def.key (over vars) test t.rows keys table.ascend c.in-Ok.ensures.keys in
    let asked = there (λ x. c.in_ok-erase_keyed.field-0 ≡ among (without_keys c.items.result.now x).rows) (slice_get old c.args.t) t c.table.ensures c.in_ok-erase_keyed.ensures.answer in
    let broken : among (without_all t.def.key keys t.rows) ≡ false = ap (λ ks. among (without_keys ks t).rows) (sym c.items.ensures) ∙ sym asked ∙ c.if-branch.false in
    let stays : new ≡ old = subst (λ b. new ≡ changed_if (Ok b) (without_keys c.items.result.now) old c.args.t) c.if-branch.false c.in_ok-erase_keyed.ensures.tables in
    let same : Some c.table-else-branch.result.now.contents ≡ Some t = sym c.table-else-branch.ensures ∙ ap (λ (l : List Contents). slice_get l c.args.t) stays ∙ c.table.ensures in
    let bears : Bears (codes "23000") t.def c.violated.result = subst (λ (x : Contents). Bears (codes "23000") x.def c.violated.result) (let e : c.table-else-branch.result.now.contents ≡ t = cc in e) c.violated.ensures in
    said (λ x. (checks : List (List Line)) → IsLegal (over []) (schema_of x.def checks) x.rows → Ends x (deleted (over vars) (over []) (keyed_schema c.args.constraints.now old c.args.t x.def checks) test x.rows) old c.args.t new (Err c.violated.result))
    (slice_get old c.args.t) t c.table.ensures
    (λ checks legal. borne old new c.args.t t (λ x. deleted (over vars) (over []) (keyed_schema c.args.constraints.now old c.args.t t.def checks) test t.rows) c.table.ensures (codes "23000") c.violated.result
    (erase_fails c.args.constraints.now old c.args.t t table checks legal vars test (without_all t.def.key keys t.rows) (length keys) expected broken) bears stays)
