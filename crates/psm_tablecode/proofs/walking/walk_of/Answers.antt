use Rattle.std.proofs.Common.{length, ap, subst}
use Rattle.std.specs.Option.{option_copied}
use Rattle.std.specs.Prelude.{IfOk, IfSome}
use Rattle.psm_table.specs.declared.definition.TableDef.{TableDef}
use Rattle.psm_tablecode.specs.Asked.{key_asked, unique_asked, IsLookUp}
use Rattle.psm_tablecode.specs.Bounds.{bounds_asked}
use Rattle.psm_tablecode.specs.Folding.{folded_test}
use Rattle.psm_tablecode.proofs.LookUps.{walk_looks}
use Rattle.psm_tablecode.proofs.Seeking.{walk_fits}
use Rattle.psm_tablecode.proofs.walking.walk_of.Goals as goal

pub returns-clause-fits : goal.returns-clause-fits
returns-clause-fits c =
    let def : TableDef = c.def.result.now in
    let test = folded_test c.args.vars.now (option_copied c.args.test) in
    let unique = unique_asked def.unique c.args.vars.now test in
    walk_fits def.key c.args.downward c.args.vars.now test unique (length c.args.table.now.contents.def.key) (ap (λ (d : TableDef). length d.key) c.def.ensures.value) c.walk_asked.result c.walk_asked.ensures

pub returns-clause-unique : goal.returns-clause-unique
returns-clause-unique c =
    let def : TableDef = c.def.result.now in
    let vars = c.args.vars.now in
    let test = folded_test vars (option_copied c.args.test) in
    subst (λ (d : TableDef). IfOk c.walk_asked.result (λ walk. IfSome walk.unique (IsLookUp d.unique))) c.def.ensures.value
    (walk_looks def.unique c.args.downward (key_asked def.key vars test) vars test (bounds_asked def.key vars test) c.walk_asked.result c.walk_asked.ensures)
