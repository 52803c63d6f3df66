-- The module file and the script of the command that generates its own: n calls of a procedure that inserts a row or adds to it.
use Rattle.std.specs.Prelude.{ℕ, zero, suc, ◌%◌, List, [], ◌++◌, codes, decimal}

abbrev pub generated_module : List ℕ
generated_module = codes "CREATE TABLE t (k INTEGER PRIMARY KEY, v NUMERIC(18,0), n INTEGER);\nCREATE MODULE gen\nPROCEDURE put (IN pk INTEGER, IN pv INTEGER) BEGIN\n  DECLARE EXIT HANDLER FOR SQLSTATE '23000' UPDATE t SET v = v + pv, n = n + 1 WHERE k = pk;\n  INSERT INTO t VALUES (pk, pv, 1);\nEND;\nEND MODULE\n"

-- call i puts i into one of 97 rows
abbrev pub generated_call : ℕ → List ℕ
generated_call i = codes "CALL put(" ++ decimal (i % 97) ++ codes ", " ++ decimal i ++ codes ");\n"

abbrev pub generated_calls : ℕ → List ℕ
generated_calls zero = []
generated_calls (suc i) = generated_calls i ++ generated_call (suc i)

-- the calls 1 to n, and a query that counts the rows
abbrev pub generated_script : ℕ → List ℕ
generated_script n = generated_calls n ++ codes "SELECT COUNT(*), SUM(v) FROM t;\n"

-- the most calls
abbrev pub most_calls : ℕ
most_calls = 200000

-- the turns of the session
abbrev pub generated_turns : ℕ
generated_turns = 1000000
