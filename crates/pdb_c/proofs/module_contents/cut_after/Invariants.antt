-- The files so far, with those that the rest is cut into, are all files.
use Rattle.std.proofs.Common.{◌≡◌, ◌++◌, drop}
use Rattle.pdb_json.specs.ModuleFiles.{contents}
use Rattle.pdb_c.specs.ModuleContents.{cut_after}
use Rattle.pdb_c.proofs.module_contents.cut_after.Given as goal

abbrev pub invariant-loop-length : goal.invariant-loop-length
invariant-loop-length l =
    contents l.files.items ++ cut_after (drop l.length-index l.lengths) l.rest ≡ cut_after l.lengths l.bytes
