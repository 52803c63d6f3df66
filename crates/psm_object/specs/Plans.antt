-- The lines of plans:
--
--     PLAN INSERT table rows i {i}          the columns that are given
--     PLAN INSERTQ table query i {i}
--     PLAN UPDATE table sets 0|1            then sets times `SET i` and EXPR, then EXPR if 1
--     PLAN DELETE table 0|1                 then EXPR if 1
--     PLAN UPDATEAT cursor sets             then sets times `SET i` and EXPR
--     PLAN DELETEAT cursor
--
-- `UPDATE t SET b = 'x' WHERE a = 1` is
--
--     PLAN UPDATE 0 1 1
--     SET 1
--     EXPR 1
--     - CONST T 'x'
--     EXPR 3
--     - COL 0
--     N CONST N 1
--     NN EQ
use Rattle.std.specs.Prelude.{ℕ, List, [], ◌∷◌, ◌++◌, codes, is_some}
use Rattle.std.specs.List.{flat_map}
use Rattle.psm_exprcode.specs.declared.set_item.SetItem.{SetItem}
use Rattle.psm_code.specs.declared.code.Plan.{Plan}
use Rattle.psm_code.specs.declared.code.Plan.TheVariants as plans
use Rattle.psm_words.specs.Words.{number}
use Rattle.psm_object.specs.Expressions.{expression_lines, test_lines}
use Rattle.psm_object.specs.Words.{count, flag, numbers, spaced}

abbrev pub set_lines : SetItem → List (List ℕ)
set_lines s = spaced (codes "SET" ∷ number s.column ∷ []) ∷ expression_lines s.source

abbrev pub plan_lines : Plan → List (List ℕ)
plan_lines (plans.Insert table columns rows) = spaced (codes "PLAN" ∷ codes "INSERT" ∷ number table ∷ number rows ∷ numbers columns) ∷ []
plan_lines (plans.InsertQuery table columns query) = spaced (codes "PLAN" ∷ codes "INSERTQ" ∷ number table ∷ number query ∷ numbers columns) ∷ []
plan_lines (plans.Update table sets test) = spaced (codes "PLAN" ∷ codes "UPDATE" ∷ number table ∷ count sets ∷ flag (is_some test) ∷ []) ∷ flat_map set_lines sets ++ test_lines test
plan_lines (plans.Delete table test) = spaced (codes "PLAN" ∷ codes "DELETE" ∷ number table ∷ flag (is_some test) ∷ []) ∷ test_lines test
plan_lines (plans.UpdateAt cursor sets) = spaced (codes "PLAN" ∷ codes "UPDATEAT" ∷ number cursor ∷ count sets ∷ []) ∷ flat_map set_lines sets
plan_lines (plans.DeleteAt cursor) = spaced (codes "PLAN" ∷ codes "DELETEAT" ∷ number cursor ∷ []) ∷ []
