-- Lists of names and of targets.
use Rattle.psm_list.specs.Several.{Several}
use Rattle.psm_tree.specs.declared.name.Identifier.{Identifier}
use Rattle.psm_tree.specs.declared.name.Target.{Target}

abbrev pub Names : Type 0
Names = Several Identifier

abbrev pub Targets : Type 0
Targets = Several Target
