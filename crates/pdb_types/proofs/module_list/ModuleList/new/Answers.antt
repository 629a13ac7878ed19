use Rattle.std.proofs.Common.{◌∙◌, ◌+◌, ap, drop, Some, cond}
use Rattle.std.specs.Option.{option_or}
use Rattle.std.specs.Str.{bytes_eq}
use Rattle.std.specs.BTreeMap.{get_by_text}
use Rattle.pdb_types.specs.ModuleNames.{has_lower_name, last_position_from}
use Rattle.pdb_types.proofs.ModuleLemmas.{last_position-more}
use Rattle.pdb_types.proofs.module_list.ModuleList.new.Goals as goal

pub loop-module_index-preserved : goal.loop-module_index-preserved
loop-module_index-preserved c = λ lower.
    let behind = last_position_from (c.loop-module_index.module_index + 1) (has_lower_name lower)
    (drop (c.loop-module_index.module_index + 1) c.args.modules.items) in
    ap (λ known. option_or behind known) (c.in_ok-put.ensures lower)
    ∙ (ap (λ name. option_or behind
    (cond (bytes_eq name lower) (Some c.loop-module_index.module_index)
    (get_by_text c.loop-module_index.positions lower))) c.in_ok-lower_name.ensures
    ∙ (last_position-more (has_lower_name lower)
    (get_by_text c.loop-module_index.positions lower) c.args.modules.items c.loop-module_index.module_index
    c.module-item.result (rw (← c.deref-module-items.ensures.value) c.loop-module_index-test.true)
    (rw (← c.deref-module-items.ensures.value) c.module-item.is)
    ∙ c.loop-module_index.invariant lower))
