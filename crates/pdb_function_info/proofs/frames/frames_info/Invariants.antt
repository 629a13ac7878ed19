use Rattle.pdb_function_info.proofs.frames.frames_info.Given as goal

abbrev pub ghost-frames_of_function : goal.ghost-frames_of_function
ghost-frames_of_function g a = g.records
