-- The searches that are made are those of before, and those for entries that a frame so far names. They serve the
-- frames so far.
use Rattle.std.proofs.Common.{◌≡◌, ◌||◌, ℕ, ◌<◌, length, take, Some}
use Rattle.std.specs.List.{list_any, slice_get}
use Rattle.pdb_symbolication.specs.Findings.{search_of}
use Rattle.pdb_symbolication.specs.WantedModules.{KeepsIdentities, LeadToEntries, identities_in, is_asked, is_entry}
use Rattle.pdb_symbolication.specs.WantedModules.{FrameAsks, GainsOnly, KeepsModules, KeepsOffsets, KeepsServed}
use Rattle.pdb_symbolication.specs.WantedModules.{OneOfFirst}
use Rattle.pdb_symbolication.specs.WantedModules.{ServesFrame, offsets_in}
use Rattle.pdb_symbolication.specs.declared.requests.StackFrame.{StackFrame}
use Rattle.pdb_symbolication.proofs.named_modules.Collector.add_stack.Given as goal

abbrev pub invariant-loop-frame : goal.invariant-loop-frame
invariant-loop-frame l = record {
  asked : (index : ℕ) → index < length l.searches → is_asked (search_of l.searches index)
      ≡ (is_asked (search_of l.initial.searches index)
      || list_any (λ frame. is_entry index frame.module) (take l.frame-index l.stack.frames.items));
  led : LeadToEntries (identities_in l.self) l.job.memory_map.items l.searches;
  kept : KeepsIdentities (identities_in l.initial.self) (identities_in l.self);
  offsets_kept : KeepsOffsets (offsets_in l.initial.self) (offsets_in l.self);
  still_served : KeepsServed l.initial.searches l.searches;
  served : (number : ℕ) (frame : StackFrame) → number < l.frame-index
      → slice_get l.stack.frames.items number ≡ Some frame → ServesFrame (offsets_in l.self) l.searches frame;
  still_led : KeepsModules l.initial.searches l.searches;
  only : GainsOnly (offsets_in l.initial.self) (offsets_in l.self) (λ position offset.
      OneOfFirst l.frame-index l.stack.frames.items (λ number frame. FrameAsks l.searches position offset frame));
}
