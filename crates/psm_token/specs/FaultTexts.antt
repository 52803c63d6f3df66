-- What a fault says, and where.
use Rattle.std.specs.Prelude.{ℕ, List, [], codes, Option, Some, None}
use Rattle.psm_token.specs.declared.fault.LexFault.{LexFault}
use Rattle.psm_token.specs.declared.fault.LexFault.TheVariants.{BadUtf8, BadChar, OpenText, OpenName, LongText, LongNumber, LongName, ManyTokens, Memory}
use Rattle.psm_token.specs.declared.place.Place.{Place}

-- what is wrong, in words
abbrev pub fault_text : LexFault → List ℕ
fault_text (BadUtf8 p) = codes "not UTF-8"
fault_text (BadChar p) = codes "bad character"
fault_text (OpenText p) = codes "text without end"
fault_text (OpenName p) = codes "name without end"
fault_text (LongText p) = codes "text too long"
fault_text (LongNumber p) = codes "number too long"
fault_text (LongName p) = codes "name too long"
fault_text (ManyTokens p) = codes "too many tokens"
fault_text Memory = []

-- where it is wrong
abbrev pub fault_place : LexFault → Option Place
fault_place (BadUtf8 p) = Some p
fault_place (BadChar p) = Some p
fault_place (OpenText p) = Some p
fault_place (OpenName p) = Some p
fault_place (LongText p) = Some p
fault_place (LongNumber p) = Some p
fault_place (LongName p) = Some p
fault_place (ManyTokens p) = Some p
fault_place Memory = None
