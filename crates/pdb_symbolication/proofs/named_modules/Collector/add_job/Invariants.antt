-- The searches that are made are those for entries that a frame so far names. They serve the frames so far.
use Rattle.std.proofs.Common.{◌≡◌, ℕ, ◌<◌, take, vec_len, Some}
use Rattle.std.specs.List.{list_any, slice_get}
use Rattle.pdb_symbolication.specs.Findings.{search_of}
use Rattle.pdb_symbolication.specs.WantedModules.{KeepsIdentities, LeadToEntries, identities_in, is_asked, stack_names}
use Rattle.pdb_symbolication.specs.WantedModules.{GainsOnly, KeepsOffsets, OneOfFirst, ServesStack, StackAsks}
use Rattle.pdb_symbolication.specs.WantedModules.{offsets_in}
use Rattle.pdb_symbolication.specs.declared.requests.Stack.{Stack}
use Rattle.pdb_symbolication.proofs.named_modules.Collector.add_job.Given as goal

abbrev pub invariant-loop-stack : goal.invariant-loop-stack
invariant-loop-stack l = record {
  count : vec_len l.searches ≡ vec_len l.job.memory_map;
  asked : (index : ℕ) → index < vec_len l.searches
      → is_asked (search_of l.searches.items index)
      ≡ list_any (stack_names index) (take l.stack-index l.job.stacks.items);
  led : LeadToEntries (identities_in l.self) l.job.memory_map.items l.searches.items;
  kept : KeepsIdentities (identities_in l.initial.self) (identities_in l.self);
  offsets_kept : KeepsOffsets (offsets_in l.initial.self) (offsets_in l.self);
  served : (number : ℕ) (stack : Stack) → number < l.stack-index
      → slice_get l.job.stacks.items number ≡ Some stack → ServesStack (offsets_in l.self) l.searches.items stack;
  only : GainsOnly (offsets_in l.initial.self) (offsets_in l.self) (λ position offset.
      OneOfFirst l.stack-index l.job.stacks.items (λ number stack. StackAsks l.searches.items position offset stack));
}
