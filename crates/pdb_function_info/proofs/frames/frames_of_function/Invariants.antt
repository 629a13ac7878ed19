use Rattle.pdb_function_info.proofs.frames.frames_of_function.Given as goal

abbrev pub ghost-code_location : goal.ghost-code_location
ghost-code_location g a = g.records
