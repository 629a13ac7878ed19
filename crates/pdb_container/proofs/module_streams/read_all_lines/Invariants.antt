-- The subsections are those that were read and those that are left, if none of these has a fault.
use Rattle.std.proofs.Common.{◌≡◌, ◌++◌, Ok, drop, map}
use Rattle.pdb_msf.specs.Faults.{◌>>=◌}
use Rattle.pdb_container.specs.ModuleStreams.{line_subsections}
use Rattle.pdb_container.proofs.module_streams.read_all_lines.Given as goal

abbrev pub invariant-loop-bytes : goal.invariant-loop-bytes
invariant-loop-bytes l = line_subsections l.files.entries.items (map (λ s. s.now) l.subsections)
    ≡ (line_subsections l.files.entries.items (map (λ s. s.now) (drop l.bytes-index l.subsections))
    >>= (λ rest. Ok (l.lines.items ++ rest)))
