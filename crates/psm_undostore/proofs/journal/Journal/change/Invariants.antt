use Rattle.psm_undostore.proofs.journal.Journal.change.Given as goal

abbrev pub ghosts-change_row : goal.ghosts-change_row
ghosts-change_row a = record { name = a.blank.name; parts = a.blank.parts }
