-- The listing of code: its text, of which each line stands for a part of it. Words are separated by one blank, and each line
-- ends with a line feed.
--
--     PSM 3 tables routines
--     TABLE ..                tables times, numbered from 0, each with its lines
--     ROUTINE ..              routines times, numbered from 0, each with its lines
--
-- The code of
--
--     CREATE TABLE t (k INTEGER PRIMARY KEY, n INTEGER);
--     CREATE MODULE m
--     PROCEDURE put (IN p INTEGER) BEGIN
--       DECLARE EXIT HANDLER FOR SQLSTATE '23000' UPDATE t SET n = n + 1 WHERE k = p;
--       INSERT INTO t VALUES (p, 1);
--     END;
--     END MODULE
--
-- has these lines:
--
--     PSM 3 1 1
--     TABLE 'T' 2 0 0 0
--     COL 'K' INTEGER 1 NULL
--     COL 'N' INTEGER 0 NULL
--     KEY 0
--     ROUTINE P 'PUT' 1 0 0 0 2 0 2 1 11 -
--     PAR IN 'P' INTEGER
--     PLAN UPDATE 0 1 1                      plan 0: column 1 is set, and there is a test
--     SET 1
--     EXPR 3
--     - COL 1
--     N CONST N 1
--     NN ADD
--     EXPR 3
--     - COL 0
--     N VAR 0
--     NN EQ
--     PLAN INSERT 0 1 0 1                    plan 1: one row, of columns 0 and 1
--     CTX 0 BLOCK 0 9                        context 1: not atomic, left at line 9
--     CTX 1 ACTION 0                         context 2: the action of handler 0
--     HANDLER 1 EXIT 2 S=23000               handler 0: of the block of context 1, its action begins at line 2
--     0 - - ENTER 1                          line 0: in context 0, without resume, over no operand
--     1 - - JMP 5
--     2 - - CLEAR
--     2 4 - DATA 0                           line 3: after a condition the run goes on at line 4
--     2 - - ENDACT 0
--     1 - - CLEAR
--     1 9 - VAR 0
--     1 9 N CONST N 1
--     1 9 NN DATA 1
--     1 - - EXIT 1
--     0 - - END
--
-- The shortest code with a routine, to which no module file compiles, since a procedure has a statement:
--
--     PSM 3 0 1
--     ROUTINE P 'P' 0 0 0 0 0 0 0 0 1 -
--     0 - - END
use Rattle.std.specs.Prelude.{ℕ, List, [], ◌∷◌, ◌++◌, codes}
use Rattle.std.specs.List.{flat_map}
use Rattle.psm_code.specs.declared.code.RawCode.{RawCode}
use Rattle.psm_object.specs.Routines.{routine_lines}
use Rattle.psm_object.specs.Tables.{tables_lines}
use Rattle.psm_object.specs.Words.{count, spaced, text}

-- the first line: the version of the format, and how many tables and routines there are
abbrev pub first_line : RawCode → List ℕ
first_line code = spaced (codes "PSM" ∷ codes "3" ∷ count code.tables ∷ count code.routines ∷ [])

abbrev pub lines_of : RawCode → List (List ℕ)
lines_of code = first_line code ∷ tables_lines code.keys 0 code.tables ++ flat_map routine_lines code.routines

abbrev pub listing : RawCode → List ℕ
listing code = text (lines_of code)
