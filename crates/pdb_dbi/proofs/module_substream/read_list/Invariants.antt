-- The names and the places are those of the modules that were copied and of those that are left.
use Rattle.std.proofs.Common.{◌≡◌, ◌++◌, drop, map}
use Rattle.pdb_dbi.proofs.module_substream.read_list.Given as goal

abbrev pub invariant-loop-entry : goal.invariant-loop-entry
invariant-loop-entry l = record {
  names : map (λ listed. record { name = listed.name }) l.entry-items
      ≡ l.items.items ++ map (λ listed. record { name = listed.name }) (drop l.entry-index l.entry-items);
  streams : l.initial.streams.items ++ map (λ listed. listed.stream) l.entry-items
      ≡ l.streams.items ++ map (λ listed. listed.stream) (drop l.entry-index l.entry-items);
}
