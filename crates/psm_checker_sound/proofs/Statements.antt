-- Simple statements without a fault are well-typed.
use Rattle.std.proofs.Common.{◌≡◌, length, Some, None}
use Rattle.psm_rules.specs.StatementFaults.{Context, call_fault, delete_fault, insert_fault, only_in_procedures, simple_fault, table_of, update_fault}
use Rattle.psm_tree.specs.declared.statement.Simple.{Simple}
use Rattle.psm_tree.specs.declared.statement.Simple.TheVariants as simples
use Rattle.psm_resolve_expr.specs.ResolverScope.{ResolverScope}
use Rattle.psm_resolve.specs.Statements.{simple_of}
use Rattle.psm_typing.specs.TypingContext.{TypingContext}
use Rattle.psm_typing.specs.Statements as places
use Rattle.psm_typing.specs.Statements.{IsSimple}
use Rattle.psm_checker_sound.specs.Agreement.{Agree, IsWithin}
use Rattle.psm_checker_sound.specs.Meant.{Meant}
use Rattle.psm_checker_sound.specs.Simples.{SimpleStands}
use Rattle.psm_checker_sound.proofs.Parts.{neither}
use Rattle.psm_checker_sound.proofs.Simples.{return_well_typed, select_into_well_typed, set_well_typed}
use Rattle.psm_checker_sound.proofs.Naming.{diagnostics_well_typed, fetch_well_typed, iterate_well_typed, leave_well_typed, opened_well_typed, signal_well_typed}
use Rattle.psm_scope.specs.Routines.{procedure}
use Rattle.psm_checker_sound.proofs.Calling.{call_well_typed}
use Rattle.psm_checker_sound.proofs.Changing.{delete_well_typed, insert_well_typed}
use Rattle.psm_checker_sound.proofs.Updating.{update_well_typed}

pub simple_well_typed : (e : TypingContext) (s : places.StatementScope) (c : Context) (resolver_scope : ResolverScope) → Agree e c.checker_scope resolver_scope → Meant e s c.checker_scope resolver_scope → resolver_scope.row ≡ None → IsWithin c.within e.routine.returns → (x : Simple) → SimpleStands x → simple_fault c x ≡ None → IsSimple e s (simple_of resolver_scope x)
simple_well_typed e s c resolver_scope a m r w (simples.Set place target source) well none = set_well_typed e c.checker_scope resolver_scope a r target source well none
simple_well_typed e s c resolver_scope a m r w (simples.Call place name arguments) well none = call_well_typed e s c.checker_scope resolver_scope a m r name arguments well (neither (only_in_procedures c.within place) (call_fault c.checker_scope name arguments (procedure name.name (length arguments) c.checker_scope.symbols.procedures)) none).1
simple_well_typed e s c resolver_scope a m r w (simples.Return place source) well none = return_well_typed e c resolver_scope a r c.within w place source well none
simple_well_typed e s c resolver_scope a m r w (simples.Leave place label) well none = leave_well_typed e s c.checker_scope resolver_scope m label none
simple_well_typed e s c resolver_scope a m r w (simples.Iterate place label) well none = iterate_well_typed e s c.checker_scope resolver_scope m label none
simple_well_typed e s c resolver_scope a m r w (simples.Signal place signalled) well none = signal_well_typed e s c.checker_scope resolver_scope a m r signalled well none
simple_well_typed e s c resolver_scope a m r w (simples.Resignal place None) well none = tt
simple_well_typed e s c resolver_scope a m r w (simples.Resignal place (Some signalled)) well none = signal_well_typed e s c.checker_scope resolver_scope a m r signalled well none
simple_well_typed e s c resolver_scope a m r w (simples.GetDiagnostics place which diagnostics) well none = diagnostics_well_typed e c.checker_scope resolver_scope a which diagnostics none
simple_well_typed e s c resolver_scope a m r w (simples.SelectInto query targets) well none = select_into_well_typed e c.checker_scope resolver_scope a query targets well none
simple_well_typed e s c resolver_scope a m r w (simples.Insert place table columns source) well none = insert_well_typed e c.checker_scope resolver_scope a r table columns source well (neither (only_in_procedures c.within place) (insert_fault c.checker_scope table (table_of c.checker_scope table) columns source) none).1
simple_well_typed e s c resolver_scope a m r w (simples.Update place table assignments which) well none = update_well_typed e s c.checker_scope resolver_scope a m table assignments which well.0 well.1 (neither (only_in_procedures c.within place) (update_fault c.checker_scope table (table_of c.checker_scope table) assignments which) none).1
simple_well_typed e s c resolver_scope a m r w (simples.Delete place table which) well none = delete_well_typed e s c.checker_scope resolver_scope a m table which well (neither (only_in_procedures c.within place) (delete_fault c.checker_scope table (table_of c.checker_scope table) which) none).1
simple_well_typed e s c resolver_scope a m r w (simples.Open place cursor) well none = opened_well_typed e s c.checker_scope resolver_scope m cursor none
simple_well_typed e s c resolver_scope a m r w (simples.Fetch place cursor targets) well none = fetch_well_typed e s c.checker_scope resolver_scope a m cursor targets none
simple_well_typed e s c resolver_scope a m r w (simples.Close place cursor) well none = opened_well_typed e s c.checker_scope resolver_scope m cursor none
