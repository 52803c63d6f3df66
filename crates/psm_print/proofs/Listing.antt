-- What a loop still has to write of items with a comma between two of them.
use Rattle.std.proofs.Common.{Bool, true, false, List}
use Rattle.psm_token.specs.declared.sign.Sign.TheVariants as s
use Rattle.psm_print.specs.Spelling.{Spelling, sign, each, listed}

-- all of them, or those after the first
abbrev pub left : Bool → List Spelling → Spelling
left true items = listed items
left false items = each (sign s.Comma) items
