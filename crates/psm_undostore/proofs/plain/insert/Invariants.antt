use Rattle.psm_undostore.proofs.plain.insert.Given as goal

abbrev pub ghosts-insert_row : goal.ghosts-insert_row
ghosts-insert_row a = record { name = a.blank.name; parts = a.blank.parts }
