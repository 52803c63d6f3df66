use Rattle.store_rows.proofs.group.print_groups.Given as goal

abbrev pub ghosts-reported_groups : goal.ghosts-reported_groups
ghosts-reported_groups g a = record { name = a.blank.name; parts = a.blank.parts }
