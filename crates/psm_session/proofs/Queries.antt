-- SELECT: the table of a query, which it fits.
use Rattle.std.proofs.Common.{◌<◌, List, [], length, slice_get, IfSome, sym, subst}
use Rattle.psm_exprcode.specs.declared.query.Query.{Query}
use Rattle.psm_table.specs.Table.{Contents}
use Rattle.psm_table.specs.declared.definition.TableDef.{TableDef}
use Rattle.psm_tablecode.specs.TypeChecks.{TypeChecksTable}
use Rattle.psm_code.specs.declared.code.RawCode.{RawCode}
use Rattle.psm_code.specs.MachineInvariant.{AreLawful}
use Rattle.psm_code.proofs.Queried.{kept_at}
use Rattle.psm_machine.proofs.Asking.{is_inside, some_of}
use Rattle.psm_session.specs.Ends.{FitsQuery}

module _ (code : RawCode) (tables : List Contents) (q : Query) (kept : AreLawful code tables) (fits : FitsQuery code q) where
  pub query_there : q.table < length tables
  query_there =
      let k = kept_at code.tables tables q.table fits.table kept.kept fits.there in
      is_inside tables q.table k.0 k.1

  pub query_type_checks : IfSome (slice_get tables q.table) (λ c. TypeChecksTable q [] c.def)
  query_type_checks =
      let k = kept_at code.tables tables q.table fits.table kept.kept fits.there in
      some_of (λ (c : Contents). TypeChecksTable q [] c.def) (slice_get tables q.table) k.0 k.1 (subst (λ (d : TableDef). TypeChecksTable q [] d) (sym k.2.same) fits.type_checks)
