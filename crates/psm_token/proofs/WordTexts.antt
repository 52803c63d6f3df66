-- A word is found by its text, and by no other.
use Rattle.std.proofs.Common.{◌≡◌, ℕ, Bool, true, false, cond, List, [], ◌∷◌, Some, refl, sym, ap, ◌∙◌}
use Rattle.std.specs.Str.{bytes_eq}
use Rattle.std.specs.Cmp.Lexicographic.{bytes_decides}
use Rattle.psm_token.specs.declared.word.Word.{Word}
use Rattle.psm_token.specs.declared.word.Word.TheVariants.{Action, And, As, Asc, Atomic, Avg, Begin, Between, Both, By, Call, Case, Cast, Char, Character, CharacterLength, CharLength, Check, Close, Coalesce, Commit, Condition, ConditionIdentifier, ConditionNumber, Constraint, Contains, Continue, Count, Create, Current, Cursor, CursorName, Data, Dec, Decimal, Declare, Default, Delete, Desc, Deterministic, Diagnostics, Do, Else, ElseIf, End, Escape, Exception, Exists, Exit, Fetch, For, Foreign, Found, From, Function, Get, Group, Handler, Having, If, In, Inner, InOut, Insensitive, Insert, Int, Integer, Into, Is, Iterate, Join, Key, Language, Leading, Leave, Like, Loop, Lower, Max, MessageLength, MessageText, Min, Modifies, Module, More, Next, No, Not, Null, NullIf, Number, Numeric, Of, On, Only, Open, Or, Order, Out, Position, Primary, Procedure, Read, Reads, References, Repeat, Resignal, Return, ReturnedSqlState, Returns, Rollback, RowCount, Select, Set, Signal, SmallInt, Sql, SqlException, SqlState, SqlWarning, Stacked, Substring, Sum, Table, TableName, Then, Trailing, Trim, Undo, Unique, Until, Update, Upper, Value, Values, VarChar, Varying, When, Where, While, Work}
use Rattle.psm_token.specs.Words.{text_of}
use Rattle.psm_token.specs.Lookup.{among, words_by_letter, lookup}

pub lookup-text_of : (w : Word) → lookup (text_of w) ≡ Some w
lookup-text_of And = refl
lookup-text_of As = refl
lookup-text_of Asc = refl
lookup-text_of Atomic = refl
lookup-text_of Avg = refl
lookup-text_of Begin = refl
lookup-text_of Between = refl
lookup-text_of Both = refl
lookup-text_of By = refl
lookup-text_of Call = refl
lookup-text_of Case = refl
lookup-text_of Cast = refl
lookup-text_of Char = refl
lookup-text_of Character = refl
lookup-text_of CharacterLength = refl
lookup-text_of CharLength = refl
lookup-text_of Check = refl
lookup-text_of Close = refl
lookup-text_of Coalesce = refl
lookup-text_of Commit = refl
lookup-text_of Condition = refl
lookup-text_of ConditionIdentifier = refl
lookup-text_of ConditionNumber = refl
lookup-text_of Constraint = refl
lookup-text_of Contains = refl
lookup-text_of Continue = refl
lookup-text_of Count = refl
lookup-text_of Create = refl
lookup-text_of Current = refl
lookup-text_of Cursor = refl
lookup-text_of CursorName = refl
lookup-text_of Data = refl
lookup-text_of Dec = refl
lookup-text_of Decimal = refl
lookup-text_of Declare = refl
lookup-text_of Default = refl
lookup-text_of Delete = refl
lookup-text_of Desc = refl
lookup-text_of Deterministic = refl
lookup-text_of Diagnostics = refl
lookup-text_of Do = refl
lookup-text_of Else = refl
lookup-text_of ElseIf = refl
lookup-text_of End = refl
lookup-text_of Escape = refl
lookup-text_of Exception = refl
lookup-text_of Exists = refl
lookup-text_of Exit = refl
lookup-text_of Fetch = refl
lookup-text_of For = refl
lookup-text_of Foreign = refl
lookup-text_of Found = refl
lookup-text_of From = refl
lookup-text_of Function = refl
lookup-text_of Get = refl
lookup-text_of Group = refl
lookup-text_of Handler = refl
lookup-text_of Having = refl
lookup-text_of If = refl
lookup-text_of In = refl
lookup-text_of Inner = refl
lookup-text_of InOut = refl
lookup-text_of Insensitive = refl
lookup-text_of Insert = refl
lookup-text_of Int = refl
lookup-text_of Integer = refl
lookup-text_of Into = refl
lookup-text_of Is = refl
lookup-text_of Iterate = refl
lookup-text_of Join = refl
lookup-text_of Key = refl
lookup-text_of Language = refl
lookup-text_of Leading = refl
lookup-text_of Leave = refl
lookup-text_of Like = refl
lookup-text_of Loop = refl
lookup-text_of Lower = refl
lookup-text_of Max = refl
lookup-text_of MessageLength = refl
lookup-text_of MessageText = refl
lookup-text_of Min = refl
lookup-text_of Modifies = refl
lookup-text_of Module = refl
lookup-text_of More = refl
lookup-text_of Next = refl
lookup-text_of Not = refl
lookup-text_of Null = refl
lookup-text_of NullIf = refl
lookup-text_of Number = refl
lookup-text_of Numeric = refl
lookup-text_of Of = refl
lookup-text_of On = refl
lookup-text_of Only = refl
lookup-text_of Open = refl
lookup-text_of Or = refl
lookup-text_of Order = refl
lookup-text_of Out = refl
lookup-text_of Position = refl
lookup-text_of Primary = refl
lookup-text_of Procedure = refl
lookup-text_of Read = refl
lookup-text_of Reads = refl
lookup-text_of References = refl
lookup-text_of Repeat = refl
lookup-text_of Resignal = refl
lookup-text_of Return = refl
lookup-text_of ReturnedSqlState = refl
lookup-text_of Returns = refl
lookup-text_of Rollback = refl
lookup-text_of RowCount = refl
lookup-text_of Select = refl
lookup-text_of Set = refl
lookup-text_of Signal = refl
lookup-text_of SmallInt = refl
lookup-text_of Sql = refl
lookup-text_of SqlException = refl
lookup-text_of SqlState = refl
lookup-text_of SqlWarning = refl
lookup-text_of Stacked = refl
lookup-text_of Substring = refl
lookup-text_of Sum = refl
lookup-text_of Table = refl
lookup-text_of TableName = refl
lookup-text_of Then = refl
lookup-text_of Trailing = refl
lookup-text_of Trim = refl
lookup-text_of Undo = refl
lookup-text_of Unique = refl
lookup-text_of Until = refl
lookup-text_of Update = refl
lookup-text_of Upper = refl
lookup-text_of Value = refl
lookup-text_of Values = refl
lookup-text_of VarChar = refl
lookup-text_of Varying = refl
lookup-text_of When = refl
lookup-text_of Where = refl
lookup-text_of While = refl
lookup-text_of Work = refl
lookup-text_of No = refl
lookup-text_of Action = refl

some_word : (w : Word) (x : Word) → Some w ≡ Some x → w ≡ x
some_word w x h = cc

among_takes : (text : List ℕ) (words : List Word) (x : Word) → among text words ≡ Some x → text_of x ≡ text
among_takes text [] x h = absurd cc
among_takes text (w ∷ words) x h = by (bytes_eq (text_of w) text) refl h (among_takes text words x)
  where
    by : (b : Bool) → bytes_eq (text_of w) text ≡ b → cond b (Some w) (among text words) ≡ Some x → (among text words ≡ Some x → text_of x ≡ text) → text_of x ≡ text
    by true e k again = ap text_of (sym (some_word w x k)) ∙ (bytes_decides (text_of w) text).0 e
    by false e k again = again k

pub lookup_takes : (text : List ℕ) (x : Word) → lookup text ≡ Some x → text_of x ≡ text
lookup_takes [] x h = absurd cc
lookup_takes (c ∷ text) x h = among_takes (c ∷ text) (words_by_letter c) x h

-- two words have no text in common
pub text_of_once : (w x : Word) → text_of w ≡ text_of x → w ≡ x
text_of_once w x h = some_word w x (sym (lookup-text_of w) ∙ ap lookup h ∙ lookup-text_of x)

pub lookup_again : (text : List ℕ) (x : Word) → text_of x ≡ text → lookup text ≡ Some x
lookup_again text x h = ap lookup (sym h) ∙ lookup-text_of x
