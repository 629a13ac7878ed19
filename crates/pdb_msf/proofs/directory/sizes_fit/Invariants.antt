-- All sizes are more than the file's length where those that are left are more than what is left of it.
use Rattle.std.proofs.Common.{◌≡◌, nat_lt, drop}
use Rattle.pdb_msf.specs.Directory.{total_size}
use Rattle.pdb_msf.proofs.directory.sizes_fit.Given as goal

abbrev pub invariant-loop-size : goal.invariant-loop-size
invariant-loop-size l =
    nat_lt l.file_length (total_size l.sizes) ≡ nat_lt l.left (total_size (drop l.size-index l.sizes))
