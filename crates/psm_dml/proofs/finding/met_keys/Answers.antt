use Rattle.std.proofs.Common.{◌≡◌, ◌≤◌, List, length, Some, None, false, Ok, Err, ap, sym, ◌∙◌, arith}
use Rattle.std.specs.Prelude.{slice_get}
use Rattle.std.specs.Option.{option_copied}
use Rattle.std.proofs.lemmas.Option.{slice_get_past}
use Rattle.std.proofs.lemmas.Result.{err_from_is_err_and}
use Rattle.psm_value.specs.declared.datum.Datum.{Datum}
use Rattle.psm_table.specs.Definition.{IsKey, IsRow}
use Rattle.psm_table.specs.Evaluator.{test_of}
use Rattle.psm_tablecode.specs.Asked.{rows_of}
use Rattle.psm_tablecode.specs.Codes.{over}
use Rattle.psm_tablecode.specs.RemainingRows.{rows_coming}
use Rattle.psm_tablecode.specs.TypeChecks.{letters_of}
use Rattle.psm_tablecode.proofs.RemainingRowsLaws.{coming_here, coming_none, coming_rest, get_all}
use Rattle.psm_tablecode.proofs.KeyWalks.{rows_few, walked_by}
use Rattle.psm_tablecode.proofs.Results.{gives_by}
use Rattle.psm_tablecode.proofs.Fitting.{row_letters, test_runs}
use Rattle.psm_dml.specs.Collected.{key_in}
use Rattle.psm_dml.proofs.Walked.{option_all, option_bound, walks_end, walks_fault, walks_next}
use Rattle.psm_dml.proofs.finding.met_keys.Goals as goal
use Rattle.psm_dml.proofs.finding.met_keys.Goals.{else-loop-at-test, then-loop-at-test+in_default}

pub met_key-requires-clause-row : goal.met_key-requires-clause-row
met_key-requires-clause-row c =
    get_all (IsRow c.args.table.now.contents.def) (rows_of c.args.table.now.contents c.in_ok-walk.walk) c.loop-at.at c.in-Some.row.now c.of-coming.ensures.fit
    (coming_here (rows_of c.args.table.now.contents c.in_ok-walk.walk) c.loop-at.at c.in-Some.row.now (rows_coming c.next.new.self) (c.loop-at.invariant.left ∙ c.in-Some.ensures))

pub met_key-requires-clause-runs : goal.met_key-requires-clause-runs
met_key-requires-clause-runs c =
    let fits : IsRow c.args.table.now.contents.def c.in-Some.row.now = get_all (IsRow c.args.table.now.contents.def) (rows_of c.args.table.now.contents c.in_ok-walk.walk) c.loop-at.at c.in-Some.row.now c.of-coming.ensures.fit
    (coming_here (rows_of c.args.table.now.contents c.in_ok-walk.walk) c.loop-at.at c.in-Some.row.now (rows_coming c.next.new.self) (c.loop-at.invariant.left ∙ c.in-Some.ensures)) in
    test_runs (letters_of c.args.table.now.contents.def) c.requires.variables c.in-Some.row.now c.args.vars.now (row_letters c.args.table.now.contents.def c.in-Some.row.now fits) c.requires.kinds
    (option_copied c.args.test) c.requires.fits

pub returns-in_err-key-clause-keys : goal.returns-in_err-key-clause-keys
returns-in_err-key-clause-keys c =
    let rows : List (List Datum) = rows_of c.args.table.now.contents c.in_ok-walk.walk in
    let here : slice_get rows c.loop-at.at ≡ Some c.in-Some.row.now = coming_here rows c.loop-at.at c.in-Some.row.now (rows_coming c.next.new.self) (c.loop-at.invariant.left ∙ c.in-Some.ensures) in
    let p = err_from_is_err_and c.from_residual-in_err-key.result c.from_residual-in_err-key.ensures.1 in
    let all = walked_by c.args.table.now.contents c.args.vars.now (option_copied c.args.test) (key_in c.args.table.now.contents.def.key) c.in_ok-walk.ensures.table.ascend false c.in_ok-walk.walk c.in_ok-walk.ensures.walk in
    rw (p.1, p.2) (gives_by (_) (_) (Err c.in_err-key.field-0.0) (sym all) (walks_fault (test_of (over c.args.vars.now) (option_copied c.args.test)) (key_in c.args.table.now.contents.def.key) rows
    c.loop-at.at c.in-Some.row.now c.in_err-key.field-0.0 c.loop-at.keys.items here c.in_err-key.ensures.key c.loop-at.invariant.so_far))

pub loop-at-preserved : goal.loop-at-preserved
loop-at-preserved c =
    let rows : List (List Datum) = rows_of c.args.table.now.contents c.in_ok-walk.walk in
    let here : slice_get rows c.loop-at.at ≡ Some c.in-Some.row.now = coming_here rows c.loop-at.at c.in-Some.row.now (rows_coming c.next.new.self) (c.loop-at.invariant.left ∙ c.in-Some.ensures) in
    record {
      left = coming_rest rows c.loop-at.at c.in-Some.row.now (rows_coming c.next.new.self) (c.loop-at.invariant.left ∙ c.in-Some.ensures);
      so_far = walks_next (test_of (over c.args.vars.now) (option_copied c.args.test)) (key_in c.args.table.now.contents.def.key) rows
          c.loop-at.at c.in-Some.row.now c.in_ok-key.key c.loop-at.keys.items c.add_key.new.keys.items here c.in_ok-key.ensures.key c.in_ok-add_key.ensures c.loop-at.invariant.so_far;
      fit = option_all (IsKey c.args.table.now.contents.def) c.loop-at.keys.items c.add_key.new.keys.items c.in_ok-key.key c.in_ok-add_key.ensures c.in_ok-key.ensures.fits c.loop-at.invariant.fit;
      counts = option_bound c.loop-at.at c.loop-at.keys.items c.add_key.new.keys.items c.in_ok-key.key c.in_ok-add_key.ensures c.loop-at.invariant.counts;
    }

pub returns-clause-keys : goal.returns-clause-keys
returns-clause-keys c =
    let rows : List (List Datum) = rows_of c.args.table.now.contents c.in_ok-walk.walk in
    let none : slice_get rows c.loop-at.at ≡ None = elim c.loop-at-test.branch [
      | else-loop-at-test w ↦ let past : length rows ≤ c.loop-at.at = omega (arith, rows_few c.args.table.now.contents c.in_ok-walk.walk, w.loop-at-test.false, c.len-at-end.ensures.value) in slice_get_past rows c.loop-at.at past
      | then-loop-at-test+in_default w ↦ coming_none rows c.loop-at.at (c.loop-at.invariant.left ∙ w.in_default.ensures)
    ] in
    let all = walked_by c.args.table.now.contents c.args.vars.now (option_copied c.args.test) (key_in c.args.table.now.contents.def.key) c.in_ok-walk.ensures.table.ascend false c.in_ok-walk.walk c.in_ok-walk.ensures.walk in
    sym all
    ∙ walks_end (test_of (over c.args.vars.now) (option_copied c.args.test)) (key_in c.args.table.now.contents.def.key) rows
    c.loop-at.at c.loop-at.keys.items none c.loop-at.invariant.so_far ∙ ap Ok (sym c.of.ensures)
