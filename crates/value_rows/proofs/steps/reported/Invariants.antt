use Rattle.value_rows.proofs.steps.reported.Given as goal

abbrev pub ghosts-count_two : goal.ghosts-count_two
ghosts-count_two a = record { name = a.blank.name; parts = a.blank.parts }
