use Rattle.psm_store.proofs.back.go_back.Given as goal

abbrev pub ghosts-go_back_in : goal.ghosts-go_back_in
ghosts-go_back_in g a = record { name = a.blank.name; parts = a.blank.parts }
