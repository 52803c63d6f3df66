-- Where NULL stands in simple statements, and the numbers in them: as in the expressions that they are made of.
use Rattle.std.specs.Prelude.{IsTrue, List, Option, Some, None, option_map}
use Rattle.psm_rules.specs.StatementFaults.{several}
use Rattle.psm_tree.specs.declared.expr.Expr.{Expr}
use Rattle.psm_tree.specs.declared.statement.Assignment.{Assignment}
use Rattle.psm_tree.specs.declared.statement.InsertSource.{InsertSource}
use Rattle.psm_tree.specs.declared.statement.InsertSource.TheVariants as sources
use Rattle.psm_tree.specs.declared.statement.Signalled.{Signalled}
use Rattle.psm_tree.specs.declared.statement.Simple.{Simple}
use Rattle.psm_tree.specs.declared.statement.Simple.TheVariants as simples
use Rattle.psm_tree.specs.declared.statement.Where.{Where}
use Rattle.psm_tree.specs.declared.statement.Where.TheVariants as wheres
use Rattle.psm_typing.specs.TypingContext.{Each}
use Rattle.psm_checker_sound.specs.Stands.{as_operand, as_source, may_be, select_stands, stands}

abbrev pub Sourced : Expr → Type 0
Sourced x = IsTrue (as_source (stands x))

-- the condition of WHERE
abbrev pub WhichStands : Option Where → Type 0
WhichStands None = Unit {0}
WhichStands (Some (wheres.Condition x)) = IsTrue (as_operand (stands x))
WhichStands (Some (wheres.Current n)) = Unit {0}

abbrev pub InsertStands : InsertSource → Type 0
InsertStands (sources.Values rows) = Each (λ row. Each Sourced (several row.values)) (several rows)
InsertStands (sources.Query q) = IsTrue (select_stands q)

abbrev pub AssignmentsStand : List Assignment → Type 0
AssignmentsStand xs = Each (λ a. Sourced a.source) xs

abbrev pub SignalStands : Signalled → Type 0
SignalStands x = IsTrue (may_be as_operand (option_map stands x.message))

abbrev pub SimpleStands : Simple → Type 0
SimpleStands (simples.Set place target source) = Sourced source
SimpleStands (simples.Call place procedure arguments) = Each Sourced arguments
SimpleStands (simples.Return place source) = Sourced source
SimpleStands (simples.Leave place label) = Unit {0}
SimpleStands (simples.Iterate place label) = Unit {0}
SimpleStands (simples.Signal place signalled) = SignalStands signalled
SimpleStands (simples.Resignal place None) = Unit {0}
SimpleStands (simples.Resignal place (Some signalled)) = SignalStands signalled
SimpleStands (simples.GetDiagnostics place which diagnostics) = Unit {0}
SimpleStands (simples.SelectInto query targets) = IsTrue (select_stands query)
SimpleStands (simples.Insert place table columns source) = InsertStands source
SimpleStands (simples.Update place table assignments which) = AssignmentsStand (several assignments) × WhichStands which
SimpleStands (simples.Delete place table which) = WhichStands which
SimpleStands (simples.Open place cursor) = Unit {0}
SimpleStands (simples.Fetch place cursor targets) = Unit {0}
SimpleStands (simples.Close place cursor) = Unit {0}
