use Rattle.psm_tablecode.proofs.folding.+last_values.Given as goal

abbrev pub decreases-last_values : goal.decreases-last_values
decreases-last_values l = l.count
