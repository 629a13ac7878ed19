use Rattle.std.proofs.Common.{◌≡◌, map, take}
use Rattle.pdb_function_info.specs.Function.{function_view}
use Rattle.pdb_addr2line.specs.FunctionIter.{functions_at, after_functions, OnlyGainsBroken}
use Rattle.pdb_addr2line.proofs.context.Context.all_functions.Given as goal

-- the functions over the addresses so far are there, and the context answered them and gained only broken parts
abbrev pub invariant-loop-address : goal.invariant-loop-address
invariant-loop-address g l =
    let info = g.P.ModuleProvider.info in
    record {
      functions : map function_view l.functions.items ≡ functions_at info l.initial.self.inputs
          (take l.address-index l.address-items);
      state : l.self ≡ after_functions info l.initial.self (take l.address-index l.address-items);
      gains : OnlyGainsBroken info l.initial.self l.self;
    }
