use Rattle.std.proofs.Common.{◌∙◌, not, None, ap}
use Rattle.std.specs.Prelude.{option_map}
use Rattle.pdb_tables.proofs.KeyedLemmas.{map-KeysAscend}
use Rattle.pdb_tables.proofs.LastLemmas.{map-last_over}
use Rattle.pdb_tables.proofs.PositionLemmas.{map-find}
use Rattle.pdb_functions.specs.GlobalFunctions.{global_function}
use Rattle.pdb_functions.specs.Starts.{is_before, section_offset_cmp}
use Rattle.pdb_functions.proofs.global_function_table.GlobalFunctionTable.neighbours.Goals as goal

pub neighbours_of-requires : goal.neighbours_of-requires
neighbours_of-requires c = rw c.deref.ensures.value c.self.invariant

pub returns-clause-up_to : goal.returns-clause-up_to
returns-clause-up_to c =
    let up_to = rw c.deref.ensures.value at c.neighbours_of.ensures.up_to in
    rw (← c.self.view_is) (ap (option_map global_function) up_to
    ∙ map-last_over global_function (λ f. not (is_before c.args.section_offset f.start)) None c.self.inside.functions.items)

pub returns-clause-behind : goal.returns-clause-behind
returns-clause-behind c =
    let above = rw c.deref.ensures.value at c.neighbours_of.ensures.above in
    rw (← c.self.view_is) (ap (option_map global_function) above
    ∙ map-find global_function (λ f. is_before c.args.section_offset f.start) c.self.inside.functions.items)

pub returns-clause-ascend : goal.returns-clause-ascend
returns-clause-ascend c =
    rw (← c.self.view_is) (map-KeysAscend global_function section_offset_cmp
    (λ f. f.start) c.self.inside.functions.items c.self.invariant)
