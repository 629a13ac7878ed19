use Rattle.pdb_functions.specs.ModuleInfoCache.{readable_info}
use Rattle.pdb_addr2line.proofs.context.Context.frames_info.Given as goal

abbrev pub ghost-frames_info : goal.ghost-frames_info
ghost-frames_info g a =
    readable_info (g.P.ModuleProvider.info a.names.now.provider) a.names.now.type_inputs.modules
