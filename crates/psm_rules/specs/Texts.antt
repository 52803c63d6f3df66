-- The code and the words of each rule, and the order of the rules.
use Rattle.std.specs.Prelude.{ℕ, List, codes}
use Rattle.psm_rules.specs.declared.rule.Rule.{Rule}
use Rattle.psm_rules.specs.declared.rule.Rule.TheVariants as rule

-- what is printed of a rule that is broken
abbrev pub text_of : Rule → List ℕ
text_of rule.TableRepeated = codes "K01 table name repeated"
text_of rule.ColumnRepeated = codes "K02 column name repeated"
text_of rule.UnknownColumn = codes "K03 unknown column"
text_of rule.NotOnePrimaryKey = codes "K04 not one primary key"
text_of rule.TypeOutOfRange = codes "K05 type out of range"
text_of rule.TooManyColumns = codes "K06 too many columns"
text_of rule.ConstantDoesNotFit = codes "K07 constant does not fit"
text_of rule.ProcedureRepeated = codes "K10 procedure repeated"
text_of rule.FunctionsNotDistinct = codes "K11 functions not distinct"
text_of rule.ParameterRepeated = codes "K12 parameter name repeated"
text_of rule.ModeNotAllowed = codes "K13 mode not allowed"
text_of rule.FunctionWithoutReturn = codes "K14 function without RETURN"
text_of rule.ReturnOutsideFunction = codes "K15 RETURN outside a function"
text_of rule.NotAllowedInFunction = codes "K16 not allowed in a function"
text_of rule.LabelRepeated = codes "K17 label repeated"
text_of rule.EndLabelDiffers = codes "K18 end label differs"
text_of rule.UnknownLabel = codes "K19 unknown label"
text_of rule.DeclarationRepeated = codes "K20 declaration repeated"
text_of rule.UnknownName = codes "K21 unknown name"
text_of rule.UnknownTable = codes "K22 unknown table"
text_of rule.UnknownCondition = codes "K23 unknown condition"
text_of rule.UnknownCursor = codes "K24 unknown cursor"
text_of rule.UnknownProcedure = codes "K25 unknown procedure"
text_of rule.NoFunction = codes "K26 no function for these arguments"
text_of rule.AmbiguousFunction = codes "K27 ambiguous function"
text_of rule.NotAssignable = codes "K28 cannot be assigned"
text_of rule.Misplaced = codes "K29 condition or value misplaced"
text_of rule.FamiliesMixed = codes "K30 number and text mixed"
text_of rule.ScaleAboveMost = codes "K31 scale above 18"
text_of rule.CountsDiffer = codes "K32 counts differ"
text_of rule.NotAllowedOnRow = codes "K33 not allowed in a row expression"
text_of rule.SetFunctionMisplaced = codes "K34 set function misplaced"
text_of rule.OrderIsNotKey = codes "K35 order is not the key"
text_of rule.CursorNotUpdatable = codes "K36 cursor cannot be updated"
text_of rule.CursorOfFor = codes "K37 cursor of a FOR statement"
text_of rule.UndoNeedsAtomic = codes "K38 UNDO needs ATOMIC"
text_of rule.ConditionValueRepeated = codes "K39 condition value repeated"
text_of rule.BadSqlState = codes "K40 bad SQLSTATE"
text_of rule.ItemNeedsName = codes "K41 item needs a name of its own"
text_of rule.NullWithoutType = codes "K42 NULL without a type"
text_of rule.ArgumentMisfitsMode = codes "K43 argument does not fit its mode"
text_of rule.CharacteristicRepeated = codes "K44 note repeated"
text_of rule.KeyDoesNotMatch = codes "K45 foreign key does not match"

-- the number of the code
abbrev pub number_of : Rule → ℕ
number_of rule.TableRepeated = 1
number_of rule.ColumnRepeated = 2
number_of rule.UnknownColumn = 3
number_of rule.NotOnePrimaryKey = 4
number_of rule.TypeOutOfRange = 5
number_of rule.TooManyColumns = 6
number_of rule.ConstantDoesNotFit = 7
number_of rule.ProcedureRepeated = 10
number_of rule.FunctionsNotDistinct = 11
number_of rule.ParameterRepeated = 12
number_of rule.ModeNotAllowed = 13
number_of rule.FunctionWithoutReturn = 14
number_of rule.ReturnOutsideFunction = 15
number_of rule.NotAllowedInFunction = 16
number_of rule.LabelRepeated = 17
number_of rule.EndLabelDiffers = 18
number_of rule.UnknownLabel = 19
number_of rule.DeclarationRepeated = 20
number_of rule.UnknownName = 21
number_of rule.UnknownTable = 22
number_of rule.UnknownCondition = 23
number_of rule.UnknownCursor = 24
number_of rule.UnknownProcedure = 25
number_of rule.NoFunction = 26
number_of rule.AmbiguousFunction = 27
number_of rule.NotAssignable = 28
number_of rule.Misplaced = 29
number_of rule.FamiliesMixed = 30
number_of rule.ScaleAboveMost = 31
number_of rule.CountsDiffer = 32
number_of rule.NotAllowedOnRow = 33
number_of rule.SetFunctionMisplaced = 34
number_of rule.OrderIsNotKey = 35
number_of rule.CursorNotUpdatable = 36
number_of rule.CursorOfFor = 37
number_of rule.UndoNeedsAtomic = 38
number_of rule.ConditionValueRepeated = 39
number_of rule.BadSqlState = 40
number_of rule.ItemNeedsName = 41
number_of rule.NullWithoutType = 42
number_of rule.ArgumentMisfitsMode = 43
number_of rule.CharacteristicRepeated = 44
number_of rule.KeyDoesNotMatch = 45
