use Rattle.std.proofs.Common.{◌≡◌, ℕ, List, drop}
use Rattle.std.specs.Option.{option_or}
use Rattle.std.specs.BTreeMap.{get_by_text}
use Rattle.pdb_types.specs.ModuleNames.{has_lower_name, last_position_from}
use Rattle.pdb_types.proofs.module_list.ModuleList.new.Given as goal

-- the last of what is left, else what is known, is the last of all
abbrev pub invariant-loop-module_index : goal.invariant-loop-module_index
invariant-loop-module_index l = (lower : List ℕ)
    → option_or (last_position_from l.module_index (has_lower_name lower) (drop l.module_index l.fn.modules.items))
    (get_by_text l.positions lower) ≡ last_position_from 0 (has_lower_name lower) l.fn.modules.items
