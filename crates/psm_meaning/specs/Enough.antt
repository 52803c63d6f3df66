-- What is no greater than the routines of a file, so that the fuel of the file is enough for it.
use Rattle.std.specs.Prelude.{◌≤◌, List}
use Rattle.std.specs.List.{All}
use Rattle.psm_resolved.specs.declared.file.ResolvedFile.{ResolvedFile}
use Rattle.psm_resolved.specs.declared.statement.ResolvedHandler.{ResolvedHandler, out-ResolvedHandler}
use Rattle.psm_meaning.specs.State.{Scope}
use Rattle.psm_meaning.specs.Fuel.{file_size, statement_size}

-- the action of a handler
abbrev pub IsActionWithin : ResolvedFile → ResolvedHandler → Type 0
IsActionWithin file h = statement_size (out-ResolvedHandler h).action ≤ file_size file

-- the actions of a scope's handlers
abbrev pub IsHandlerScopeWithin : ResolvedFile → Scope → Type 0
IsHandlerScopeWithin file s = All (IsActionWithin file) s.handlers

-- the actions of all handlers in scope
abbrev pub AreWithin : ResolvedFile → List Scope → Type 0
AreWithin file scopes = All (IsHandlerScopeWithin file) scopes
