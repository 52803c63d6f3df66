use Rattle.psm_undostore.proofs.journal.Journal.erase.Given as goal

abbrev pub ghosts-erase_row : goal.ghosts-erase_row
ghosts-erase_row a = record { name = a.blank.name; parts = a.blank.parts }
