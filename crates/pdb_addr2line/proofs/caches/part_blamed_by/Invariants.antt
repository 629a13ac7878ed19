use Rattle.pdb_addr2line.proofs.caches.part_blamed_by.Given as goal

abbrev pub ghost-part_to_blame : goal.ghost-part_to_blame
ghost-part_to_blame g a = g.records
