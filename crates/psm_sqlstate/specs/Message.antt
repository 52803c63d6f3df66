-- What SQLSTATEs mean (ISO/IEC 9075:1992, 22.1, and 9075-4:1996). The classes that begin with X are left to the implementation.
use Rattle.std.specs.Prelude.{ℕ, nat_eq, List, [], codes, if◌then◌else◌}
use Rattle.std.specs.Cmp.Lexicographic.{pointwise}

-- the text of a state, or an empty text
abbrev pub message_of : List ℕ → List ℕ
message_of state = if pointwise nat_eq state (codes "00000") then codes "successful completion"
    else if pointwise nat_eq state (codes "01003") then codes "null value eliminated in set function"
    else if pointwise nat_eq state (codes "01004") then codes "string data, right truncation"
    else if pointwise nat_eq state (codes "02000") then codes "no data"
    else if pointwise nat_eq state (codes "0K000") then codes "resignal when handler not active"
    else if pointwise nat_eq state (codes "0Z002") then codes "stacked diagnostics accessed without active handler"
    else if pointwise nat_eq state (codes "20000") then codes "case not found for case statement"
    else if pointwise nat_eq state (codes "21000") then codes "cardinality violation"
    else if pointwise nat_eq state (codes "22001") then codes "string data, right truncation"
    else if pointwise nat_eq state (codes "22003") then codes "numeric value out of range"
    else if pointwise nat_eq state (codes "22011") then codes "substring error"
    else if pointwise nat_eq state (codes "22012") then codes "division by zero"
    else if pointwise nat_eq state (codes "22018") then codes "invalid character value for cast"
    else if pointwise nat_eq state (codes "22019") then codes "invalid escape character"
    else if pointwise nat_eq state (codes "22025") then codes "invalid escape sequence"
    else if pointwise nat_eq state (codes "23000") then codes "integrity constraint violation"
    else if pointwise nat_eq state (codes "24000") then codes "invalid cursor state"
    else if pointwise nat_eq state (codes "2F005") then codes "function executed no return statement"
    else if pointwise nat_eq state (codes "35000") then codes "invalid condition number"
    else if pointwise nat_eq state (codes "45000") then codes "unhandled user-defined exception"
    else if pointwise nat_eq state (codes "X0001") then codes "routine nesting too deep"
    else if pointwise nat_eq state (codes "X0002") then codes "table full"
    else []
