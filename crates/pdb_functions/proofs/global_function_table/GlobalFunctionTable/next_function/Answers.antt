use Rattle.std.proofs.Common.{◌≡◌, ◌∙◌, ap}
use Rattle.std.specs.Prelude.{◌==◌, find, option_map}
use Rattle.pdb_tables.proofs.KeyedLemmas.{map-KeysAscend}
use Rattle.pdb_functions.specs.FunctionMatches.{where_passes}
use Rattle.pdb_functions.specs.GlobalFunctions.{global_function}
use Rattle.pdb_functions.specs.Starts.{is_before, section_offset_cmp}
use Rattle.pdb_functions.proofs.NeighbourLemmas.{behind_from_place, next_from_first}
use Rattle.pdb_functions.proofs.global_function_table.GlobalFunctionTable.next_function.Goals as goal
use Rattle.pdb_functions.proofs.global_function_table.GlobalFunctionTable.next_function.Goals.{then-is_none, else-is_none}

pub returns-clause-answer : goal.returns-clause-answer
returns-clause-answer c =
    let section_offset = c.args.section_offset in
    let functions = c.self.inside.functions.items in
    let ascend = map-KeysAscend global_function section_offset_cmp (λ f. f.start) functions c.self.invariant in
    let behind : option_map global_function c.if-is_none.next_to.above
    ≡ find (λ f. is_before section_offset f.start) c.args.self.now =
    elim c.if-is_none.branch [
      | then-is_none w ↦ ap (λ n. option_map global_function n.above) w.next_to-is ∙ w.neighbours-next_to.ensures.behind
      | else-is_none w ↦
          let at = rw c.deref.ensures.value at c.neighbours_at-next_to.ensures.up_to in
          let above = rw c.deref.ensures.value at c.neighbours_at-next_to.ensures.above in
          ap (λ n. option_map global_function n.above) w.next_to-is ∙ ap (option_map global_function) above
          ∙ rw (← c.self.view_is) (behind_from_place section_offset functions c.args.next_place _ _ c.self.invariant at
          c.starting_at.ensures w.if-is_none.ensures)
    ] in
    c.in_section.ensures ∙ ap (where_passes (λ f. f.start.section == section_offset.section)) behind
    ∙ next_from_first section_offset c.args.self.now (rw (← c.self.view_is) ascend)
