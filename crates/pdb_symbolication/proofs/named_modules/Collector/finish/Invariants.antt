-- The identities and offsets so far, and those of the modules that are left, are all.
use Rattle.std.proofs.Common.{◌≡◌, ◌++◌, map}
use Rattle.pdb_symbolication.specs.WantedModules.{KeepsOffsets, NoMore, identities_in, identities_of, offsets_in}
use Rattle.pdb_symbolication.specs.WantedModules.{named_identity, offsets_of}
use Rattle.pdb_symbolication.proofs.named_modules.Collector.finish.Given as goal

abbrev pub invariant-loop-module : goal.invariant-loop-module
invariant-loop-module l = record {
  identities : identities_of l.modules.items
      ++ map named_identity l.module-iterator.rest.items ≡ identities_in l.fn.self;
  offsets : KeepsOffsets (offsets_in l.fn.self)
      (offsets_of l.modules.items ++ map (λ one. one.offsets.items) l.module-iterator.rest.items);
  no_more : NoMore (offsets_in l.fn.self)
      (offsets_of l.modules.items ++ map (λ one. one.offsets.items) l.module-iterator.rest.items);
}
