use Rattle.std.proofs.Common.{◌≡◌, ◌++◌, drop}
use Rattle.pdb_type_texts.specs.BrokenParts.{AddsBroken}
use Rattle.pdb_type_texts.specs.PrintInputs.{formatter_inputs}
use Rattle.pdb_function_info.specs.Frames.{inlined_frames, failed_by_ids}
use Rattle.pdb_function_info.specs.NameTexts.{id_name, failed_by_id}
use Rattle.pdb_function_info.proofs.frames.inlined_frames.Given as goal

-- the frames so far, and those of the ranges that are left, are the frames of all; what failed so far, and what fails
-- by those that are left, is what fails by all, and so far only broken parts came
abbrev pub invariant-loop-range : goal.invariant-loop-range
invariant-loop-range g l =
    let info = g.P.ModuleProvider.info in
    let inputs = l.initial.names.type_inputs in
    let name_of = id_name info inputs l.module_index in
    let failed_by = failed_by_id info inputs l.module_index in
    record {
      frames : l.frames.items
          ++ inlined_frames l.files l.line_program name_of (drop l.range-index l.ranges)
          ≡ inlined_frames l.files l.line_program name_of l.ranges;
      type_inputs : l.names.type_inputs ≡ inputs;
      provider : l.names.provider ≡ l.initial.names.provider;
      failed : failed_by_ids failed_by (drop l.range-index l.ranges) l.names.failed
          ≡ failed_by_ids failed_by l.ranges l.initial.names.failed;
      broken : AddsBroken (formatter_inputs info inputs l.module_index) l.initial.names.failed l.names.failed;
    }
