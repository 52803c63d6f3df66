-- Where NULL stands in statements and in module files, and the numbers in them: as in the expressions that they are made of.
use Rattle.std.specs.Prelude.{Bool, IsTrue, List, [], ◌∷◌, Option, Some, None, option_map}
use Rattle.psm_token.specs.declared.place.Place.{Place}
use Rattle.psm_list.specs.Several.{Several}
use Rattle.psm_rules.specs.FileFaults.{table_elements}
use Rattle.psm_rules.specs.StatementFaults.{several}
use Rattle.psm_tree.specs.declared.expr.Expr.{Expr}
use Rattle.psm_tree.specs.declared.file.ColumnRule.{ColumnRule}
use Rattle.psm_tree.specs.declared.file.ColumnRuleForm.{ColumnRuleForm}
use Rattle.psm_tree.specs.declared.file.ColumnRuleForm.TheVariants as column_rules
use Rattle.psm_tree.specs.declared.file.Element.{Element}
use Rattle.psm_tree.specs.declared.file.Element.TheVariants as elements
use Rattle.psm_tree.specs.declared.file.FileTree.{FileTree}
use Rattle.psm_tree.specs.declared.file.TableRuleForm.{TableRuleForm}
use Rattle.psm_tree.specs.declared.file.TableRuleForm.TheVariants as table_rules
use Rattle.psm_tree.specs.declared.file.TableTree.{TableTree}
use Rattle.psm_tree.specs.declared.statement.Block.{Block, out-Block}
use Rattle.psm_tree.specs.declared.statement.Block.TheOpen.{Block-F, Statement-F}
use Rattle.psm_tree.specs.declared.statement.Block.TheOpen as layers
use Rattle.psm_tree.specs.declared.statement.Branch.{Branch, out-Branch}
use Rattle.psm_tree.specs.declared.statement.CursorDeclaration.{CursorDeclaration}
use Rattle.psm_tree.specs.declared.statement.Declaration.{Declaration}
use Rattle.psm_tree.specs.declared.statement.Declaration.TheVariants as declarations
use Rattle.psm_tree.specs.declared.statement.ForHead.{ForHead}
use Rattle.psm_tree.specs.declared.statement.Handler.{Handler, out-Handler}
use Rattle.psm_tree.specs.declared.statement.Label.{Label}
use Rattle.psm_tree.specs.declared.statement.Simple.{Simple}
use Rattle.psm_tree.specs.declared.statement.Statement.{Statement, out-Statement}
use Rattle.psm_typing.specs.TypingContext.{Each}
use Rattle.psm_checker_sound.specs.Simples.{SimpleStands, Sourced}
use Rattle.psm_checker_sound.specs.Stands.{as_operand, may_be, select_stands, stands}

-- NULL is no operand of what the expression is part of
abbrev pub Tested : Expr → Type 0
Tested x = IsTrue (as_operand (stands x))

abbrev pub DefaultStands : Option Expr → Type 0
DefaultStands None = Unit {0}
DefaultStands (Some x) = Sourced x

abbrev pub DeclarationStands : Declaration → Type 0
DeclarationStands (declarations.Variables place names kind default) = DefaultStands default
DeclarationStands (declarations.Condition place name state) = Unit {0}

abbrev pub CursorStands : CursorDeclaration → Type 0
CursorStands x = IsTrue (select_stands x.query.query)

abbrev pub HeadStands : ForHead → Type 0
HeadStands head = IsTrue (select_stands head.query.query)

-- ---- statements

mutual
  pub data StatementStands : Statement → Type 0 where
    statement_stands : {x : Statement} → LayerStands (out-Statement x) → StatementStands x

  pub data LayerStands : Statement-F Block Statement Branch Handler → Type 0 where
    block : {label : Option Label} {b : Block} → BlockStands b → LayerStands (layers.Block label b)
    if : {place : Place} {branches : Several Branch} {otherwise : List Statement} → BranchesStand (several branches) → AllStand otherwise → LayerStands (layers.If place branches otherwise)
    case : {place : Place} {operand : Option Expr} {branches : Several Branch} {otherwise : List Statement} → IsTrue (may_be as_operand (option_map stands operand)) → BranchesStand (several branches) → AllStand otherwise
        → LayerStands (layers.Case place operand branches otherwise)
    simple : {x : Simple} → SimpleStands x → LayerStands (layers.Simple x)

  pub data BlockStands : Block → Type 0 where
    block_stands : {x : Block} → BlockLayerStands (out-Block x) → BlockStands x

  pub data BlockLayerStands : Block-F Block Statement Branch Handler → Type 0 where
    compound : {place : Place} {atomic : Bool} {xs : List Declaration} {cursors : List CursorDeclaration} {handlers : List Handler} {statements : List Statement}
        → Each DeclarationStands xs → Each CursorStands cursors → HandlersStand handlers → AllStand statements → BlockLayerStands (layers.Compound place atomic xs cursors handlers statements)
    loop : {place : Place} {statements : Several Statement} → AllStand (several statements) → BlockLayerStands (layers.Loop place statements)
    while : {place : Place} {test : Expr} {statements : Several Statement} → Tested test → AllStand (several statements) → BlockLayerStands (layers.While place test statements)
    repeat : {place : Place} {statements : Several Statement} {until : Expr} → AllStand (several statements) → Tested until → BlockLayerStands (layers.Repeat place statements until)
    for_each : {place : Place} {head : ForHead} {statements : Several Statement} → HeadStands head → AllStand (several statements) → BlockLayerStands (layers.For place head statements)

  pub data AllStand : List Statement → Type 0 where
    none : AllStand []
    more : {x : Statement} {xs : List Statement} → StatementStands x → AllStand xs → AllStand (x ∷ xs)

  pub data BranchesStand : List Branch → Type 0 where
    no_branch : BranchesStand []
    branch : {x : Branch} {xs : List Branch} → Tested (out-Branch x).test → AllStand (several (out-Branch x).statements) → BranchesStand xs → BranchesStand (x ∷ xs)

  pub data HandlersStand : List Handler → Type 0 where
    no_handler : HandlersStand []
    handler : {x : Handler} {xs : List Handler} → StatementStands (out-Handler x).action → HandlersStand xs → HandlersStand (x ∷ xs)

-- ---- tables, whose CHECKs are conditions

abbrev pub ColumnRuleStands : ColumnRule → Type 0
ColumnRuleStands r = FormStands r.form
  where
    FormStands : ColumnRuleForm → Type 0
    FormStands column_rules.NotNull = Unit {0}
    FormStands column_rules.PrimaryKey = Unit {0}
    FormStands column_rules.Unique = Unit {0}
    FormStands (column_rules.Check e) = Tested e
    FormStands (column_rules.References to) = Unit {0}

abbrev pub TableRuleStands : TableRuleForm → Type 0
TableRuleStands (table_rules.PrimaryKey names) = Unit {0}
TableRuleStands (table_rules.Unique names) = Unit {0}
TableRuleStands (table_rules.Check e) = Tested e
TableRuleStands (table_rules.ForeignKey names to) = Unit {0}

abbrev pub ElementStands : Element → Type 0
ElementStands (elements.Column name kind default rules) = Each ColumnRuleStands rules
ElementStands (elements.Rule rule) = TableRuleStands rule.form

abbrev pub TableStands : TableTree → Type 0
TableStands t = Each ElementStands (table_elements t)

-- ---- module files

pub record FileStands (f : FileTree) : Type 0 where
  pub tables : Each TableStands f.tables
  pub routines : Each (λ r. StatementStands r.body) f.«module».routines
