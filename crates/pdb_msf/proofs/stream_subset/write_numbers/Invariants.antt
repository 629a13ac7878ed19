-- The numbers from the one that was written last on follow one another.
use Rattle.std.proofs.Common.{◌≡◌, ◌+◌, ◌-◌, ◌*◌, drop, take}
use Rattle.pdb_msf.specs.NumberLists.{numbers}
use Rattle.pdb_msf.specs.MsfLayout.{following}
use Rattle.pdb_msf.proofs.stream_subset.write_numbers.Given as goal

abbrev pub invariant-loop-position : goal.invariant-loop-position
invariant-loop-position l = record {
  answer : numbers (l.count - l.position) (drop (l.place + 4 * l.position) l.directory)
      ≡ following (l.first + l.position) (l.count - l.position);
  before : take l.place l.directory ≡ take l.place l.initial.directory;
  behind : drop (l.place + 4 * l.count) l.directory ≡ drop (l.place + 4 * l.count) l.initial.directory;
}
