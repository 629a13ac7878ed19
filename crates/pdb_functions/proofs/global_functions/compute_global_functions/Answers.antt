use Rattle.std.proofs.Common.{ap, ◌∙◌, ◌≡◌, ◌++◌, map, arith}
use Rattle.std.specs.List.{filter_map}
use Rattle.std.proofs.lemmas.Grind.{common_steps}
use Rattle.pdb_functions.specs.CodeSections.{section_ends}
use Rattle.pdb_tables.proofs.KeyedLemmas.{firsts_ascend, map-first_of_each_key}
use Rattle.pdb_functions.specs.Starts.{section_offset_cmp, first_of_each_start}
use Rattle.pdb_functions.specs.GlobalFunctions.{global_function, public_function, placeholder}
use Rattle.pdb_functions.proofs.SectionOffsetLemmas.{section_offset_cmp_total}
use Rattle.pdb_functions.proofs.global_functions.compute_global_functions.Goals as goal

pub new-requires : goal.new-requires
new-requires c = rw c.in_ok-counted.ensures
    (firsts_ascend section_offset_cmp_total (λ f. f.start_offset) c.add_placeholders-2.new.functions.items)

pub returns : goal.returns
returns c =
    let shown : map global_function c.add_placeholders-2.new.functions.items ≡ filter_map
    (public_function c.args.sections.now) c.args.symbols.now ++ map placeholder
    (c.args.contribution_starts.now ++ section_ends c.args.sections.now)
    = grind (arith, common_steps)
    in rw (c.new.ensures, c.in_ok-counted.ensures)
    (map-first_of_each_key global_function section_offset_cmp (λ f. f.start) c.add_placeholders-2.new.functions.items
    ∙ ap (first_of_each_start (λ f. f.start)) shown)
