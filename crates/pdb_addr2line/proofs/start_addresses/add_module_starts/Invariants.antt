use Rattle.std.proofs.Common.{◌≡◌, map, drop}
use Rattle.pdb_addr2line.specs.FunctionIter.{procedures_of_modules, with_starts}
use Rattle.pdb_addr2line.proofs.start_addresses.add_module_starts.Given as goal

-- the addresses so far, with those of the modules that are left, are all addresses; the provider stays
abbrev pub invariant-loop-module_index : goal.invariant-loop-module_index
invariant-loop-module_index g l =
    let infos = g.P.ModuleProvider.info l.initial.infos.provider in
    record {
      starts : with_starts l.address_map l.starts.keys
          (map (λ p. p.offset) (procedures_of_modules infos l.module_index (drop l.module_index l.modules)))
          ≡ with_starts l.address_map l.initial.starts.keys
          (map (λ p. p.offset) (procedures_of_modules infos 0 l.modules));
      provider : l.infos.provider ≡ l.initial.infos.provider;
    }
