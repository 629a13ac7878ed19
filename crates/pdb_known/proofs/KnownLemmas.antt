-- What was read of a file and is closed answers as all records do.
use Rattle.std.proofs.Common.{◌≡◌, ℕ, Bool, true, false, List, refl, ap, subst, sym, inl, inr, ◌⊎◌}
use Rattle.std.specs.Prelude.{◌&&◌, ◌||◌, not, Some, Ok}
use Rattle.std.specs.Option.{option_map_or}
use Rattle.std.specs.List.{list_all}
use Rattle.pdb_records.specs.Records.{Records}
use Rattle.pdb_records.specs.declared.debug_information.DebugInformation.{DebugInformation}
use Rattle.pdb_records.specs.declared.ids.IdData.{IdData}
use Rattle.pdb_records.specs.declared.ids.IdIndex.{IdIndex}
use Rattle.pdb_records.specs.declared.types.ItemInformation.{ItemInformation}
use Rattle.pdb_records.specs.declared.types.TypeData.{TypeData}
use Rattle.pdb_records.specs.declared.types.TypeIndex.{TypeIndex}
use Rattle.pdb_types.specs.declared.flags.TypeFormatterFlags.{TypeFormatterFlags}
use Rattle.pdb_types.specs.ForwardReferences.{forward_size}
use Rattle.pdb_types.specs.ItemReading.{entry}
use Rattle.pdb_types.specs.Sizes.{underneath}
use Rattle.pdb_types.specs.TypeInputs.{LinkInputs, link_inputs, program_pointer_size}
use Rattle.pdb_functions.specs.declared.merged_contributions.ModuleSectionContribution.{ModuleSectionContribution}
use Rattle.pdb_addr2line.specs.ContextData.{context_of, sections_read}
use Rattle.pdb_addr2line.specs.ContextInputs.{ContextInputs}
use Rattle.pdb_addr2line.specs.Lookups.{contribution_at}
use Rattle.pdb_part_laws.specs.Asked.{AreTypesIn, AreIdsIn, types_behind, sizes_behind, alone}
use Rattle.pdb_part_laws.specs.Asked.{types_behind_id, ids_behind_id}
use Rattle.pdb_known.specs.Known.{Known, IsPartOf, indices_of, infos_of, is_covered}
use Rattle.pdb_known.specs.Known.{is_sized, is_read, lacks, is_closed, all_items, all_types, all_ids, is_type_closed}
use Rattle.pdb_known.specs.Known.{is_id_closed, is_type_item_closed, is_id_item_closed, are_modules_closed}
use Rattle.pdb_known.specs.SameEntries.{HasSameEntries, IsClosedFor}
use Rattle.pdb_known.specs.SameModules.{HasSameFront, KnowsModule, KnowsAddress}
use Rattle.pdb_known.proofs.ClosedLemmas.{both, wanted, all_pass, item_passes, below, stands_for_itself, same_below}
use Rattle.pdb_known.proofs.ClosedLemmas.{module_closed, procedures_closed, module_sites_closed}
use Rattle.pdb_known.proofs.ContextLemmas.{Made, formatter_made, context_made, made_of}

-- each index of a list of types, or of ids, passes a test
types_pass : (is_in : ℕ → Bool) (indices : List TypeIndex) → all_types is_in indices ≡ true → AreTypesIn is_in indices
types_pass is_in indices e = all_pass (λ (index : TypeIndex). is_in index.0) indices e

ids_pass : (is_in : ℕ → Bool) (indices : List IdIndex) → all_ids is_in indices ≡ true → AreIdsIn is_in indices
ids_pass is_in indices e = all_pass (λ (index : IdIndex). is_in index.0) indices e

-- a type of an entry that was read is closed
type_closed : (known : Known) (list : ItemInformation TypeIndex TypeData) (number : ℕ) (content : TypeData)
    → list_all (is_type_item_closed known) list.items.items ≡ true
    → entry (λ i. i.0) list.items number ≡ Ok content → is_type_closed known number content ≡ true
type_closed known list number content all is =
    let (item, of) = item_passes (λ i. i.0) (is_type_item_closed known) list.items number content all is in
    rw (of.content_is, of.number_is) at of.passes

-- an id of an entry that was read is closed
id_closed : (known : Known) (list : ItemInformation IdIndex IdData) (number : ℕ) (content : IdData)
    → list_all (is_id_item_closed known) list.items.items ≡ true
    → entry (λ i. i.0) list.items number ≡ Ok content → is_id_closed known content ≡ true
id_closed known list number content all is =
    let (item, of) = item_passes (λ i. i.0) (is_id_item_closed known) list.items number content all is in
    rw of.content_is at of.passes

-- a part of the records and all records, each with what its context is made of
module _ (flags : TypeFormatterFlags) (known : Known) (whole : Records) (part_made : Made known.records)
    (made : Made whole) (is_part : IsPartOf known whole) where
  -- the entries of the types that are covered
  types_alike : (index : ℕ) → is_covered known.types index ≡ true
      → entry (λ i. i.0) part_made.types.items index ≡ entry (λ i. i.0) made.types.items index
  types_alike = rw (part_made.types_is, made.types_is) at is_part.types

  -- the definitions of forward references whose size is known
  defined_alike : (index : ℕ) → is_covered known.sizes index ≡ true
      → forward_size index part_made.types.items.items ≡ forward_size index made.types.items.items
  defined_alike = rw (part_made.types_is, made.types_is) at is_part.definitions

  -- the entries of the ids that are covered
  ids_alike : (index : ℕ) → is_covered known.ids index ≡ true
      → entry (λ i. i.0) part_made.ids.items index ≡ entry (λ i. i.0) made.ids.items index
  ids_alike = rw (part_made.ids_is, made.ids_is) at is_part.ids

  -- the debug information
  debug_same : part_made.debug ≡ made.debug
  debug_same = cc (part_made.debug_is, made.debug_is, is_part.debug_information)

  -- the sections
  sections_same : sections_read known.records ≡ sections_read whole
  sections_same = rw is_part.sections refl

  -- the front
  front_same : HasSameFront (context_made flags known.records part_made) (context_made flags whole made)
  front_same = record {
    address_map = cc (part_made.ranges_is, made.ranges_is, is_part.address_map);
    sections = cc (part_made.sections_is, made.sections_is, sections_same);
    debug_information = debug_same;
    global_symbols = cc (part_made.symbols_is, made.symbols_is, is_part.global_symbols);
    strings = rw is_part.string_table refl;
    modules = ap (λ (debug : DebugInformation). debug.modules.items) debug_same;
  }

  -- what their indices lead through
  abbrev part_link : LinkInputs
  part_link = link_inputs infos_of (formatter_made flags known.records part_made)

  abbrev link : LinkInputs
  link = link_inputs infos_of (formatter_made flags whole made)

  -- the entries, where a module asks
  entries_same : (module_index : ℕ) → HasSameEntries (indices_of known) infos_of
      (formatter_made flags known.records part_made) (formatter_made flags whole made) module_index
  entries_same module_index = record {
    flags = refl;
    pointer_size = cc (
      part_made.pointer_is,
      made.pointer_is,
      ap (λ (debug : DebugInformation). program_pointer_size debug.machine_type) debug_same,
    );
    types = λ index is. same_below (λ i. i.0) part_link part_made.types.items
        link made.types.items module_index index
        (below known.types index is) (types_alike index is);
    sizes = λ index is.
        let (typed, sized) = both (is_covered known.types index) (is_covered known.sizes index) is in
        same_below (λ i. i.0) part_link part_made.types.items
        link made.types.items module_index index
        (below known.types index typed) (types_alike index typed);
    definitions = λ index number is stands.
        let (typed, sized) = both (is_covered known.types index) (is_covered known.sizes index) is in
        subst (λ n. forward_size n part_made.types.items.items ≡ forward_size n made.types.items.items)
        (stands_for_itself part_link module_index index number (below known.types index typed) stands)
        (defined_alike index sized);
    ids = λ index is. same_below (λ i. i.0) part_link part_made.ids.items
        link made.ids.items module_index index
        (below known.ids index is) (ids_alike index is);
  }

  -- what the check looked at
  module _ (modules : are_modules_closed known 0 known.records.module_infos ≡ true)
      (types : all_items (is_type_item_closed known) known.records.type_information ≡ true)
      (ids : all_items (is_id_item_closed known) known.records.id_information ≡ true) where
    -- each type is closed
    each_type : (number : ℕ) (content : TypeData) → entry (λ i. i.0) part_made.types.items number ≡ Ok content
        → is_type_closed known number content ≡ true
    each_type number content is =
        type_closed known part_made.types number content (rw part_made.types_is at types) is

    -- each id is closed
    each_id : (number : ℕ) (content : IdData) → entry (λ i. i.0) part_made.ids.items number ≡ Ok content
        → is_id_closed known content ≡ true
    each_id number content is = id_closed known part_made.ids number content (rw part_made.ids_is at ids) is

    -- the entries lead to covered ones
    entries_closed : (module_index : ℕ)
        → IsClosedFor (indices_of known) infos_of (formatter_made flags known.records part_made) module_index
    entries_closed module_index = record {
      types = λ index number content is stands has.
          let (here, rest) = both (all_types (is_covered known.types) (types_behind content)) _
          (each_type number content has) in
          let (sizes, own) = both (all_types (is_sized known) (sizes_behind content)) _ rest in
          record {
            types = types_pass (is_covered known.types) (types_behind content) here;
            sizes = types_pass (is_sized known) (sizes_behind content) sizes;
          };
      sizes = λ index number content is stands has.
          let (typed, sized) = both (is_covered known.types index) (is_covered known.sizes index) is in
          let same : index ≡ number =
          stands_for_itself part_link module_index index number (below known.types index typed) stands in
          let (here, rest) = both (all_types (is_covered known.types) (types_behind content)) _
          (each_type number content has) in
          let (sizes, own) = both (all_types (is_sized known) (sizes_behind content)) _ rest in
          types_pass (is_sized known) (alone (underneath content))
          (wanted (is_sized known number) (all_types (is_sized known) (alone (underneath content))) own
          (subst (λ n. is_sized known n ≡ true) same is));
      ids = λ index number content is stands has.
          let (here, rest) = both (all_types (is_covered known.types) (types_behind_id content)) _
          (each_id number content has) in
          record {
            types = types_pass (is_covered known.types) (types_behind_id content) here;
            ids = ids_pass (is_covered known.ids) (ids_behind_id content) rest;
          };
    }

    -- a module that was read
    module_known : (module_index : ℕ) → is_read known module_index ≡ true
        → KnowsModule (indices_of known) infos_of (context_made flags known.records part_made)
        (context_made flags whole made) module_index
    module_known module_index read =
        let closed = module_closed known modules module_index read in
        record {
          records = λ named. is_part.modules module_index read;
          procedures = procedures_closed known part_made.debug.modules.items module_index closed;
          sites = module_sites_closed known part_made.debug.modules.items module_index closed;
          entries = entries_same module_index;
          closed = entries_closed module_index;
        }

    -- an address whose module was read
    address_known : (address : ℕ) → lacks known (context_made flags known.records part_made) address ≡ false
        → KnowsAddress infos_of (context_made flags known.records part_made) (context_made flags whole made) address
    address_known address has = record {
      front = front_same;
      «module» = λ c is. (indices_of known, module_known c.module_index (was_read c is));
    }
      where
        by_flag : (t : Bool) → not t ≡ false → t ≡ true
        by_flag true e = refl
        by_flag false e = absurd cc

        was_read : (c : ModuleSectionContribution)
            → contribution_at (context_made flags known.records part_made) address ≡ Some c
            → is_read known c.module_index ≡ true
        was_read c is = by_flag (is_read known c.module_index)
            (subst (λ o. option_map_or (λ (d : ModuleSectionContribution). not (is_read known d.module_index)) o false
            ≡ false) is has)

-- all was read, and then both contexts are one; or each address whose module was read is known
pub same_or_known : (flags : TypeFormatterFlags) (known : Known) (whole : Records) (part inputs : ContextInputs Records)
    (address : ℕ) → IsPartOf known whole → is_closed known ≡ true → context_of flags known.records ≡ Ok part
    → context_of flags whole ≡ Ok inputs → lacks known part address ≡ false
    → (part ≡ inputs) ⊎ KnowsAddress infos_of part inputs address
same_or_known flags known whole part inputs address is_part closed part_is inputs_is has =
    by_all known.all refl closed where
      by_all : (t : Bool) → known.all ≡ t → (t || (are_modules_closed known 0 known.records.module_infos && (
          all_items (is_type_item_closed known) known.records.type_information
          && all_items (is_id_item_closed known) known.records.id_information))) ≡ true
          → (part ≡ inputs) ⊎ KnowsAddress infos_of part inputs address
      by_all true is e = inl (cc (
        part_is,
        inputs_is,
        ap (λ (r : Records). context_of flags r) (is_part.all is),
      ))
      by_all false is e =
          let (part_made, part_same) = made_of flags known.records part part_is in
          let (made, same) = made_of flags whole inputs inputs_is in
          let (modules, rest) = both (are_modules_closed known 0 known.records.module_infos) _ e in
          let (types, ids) = both (all_items (is_type_item_closed known) known.records.type_information) _ rest in
          inr (subst (λ i. KnowsAddress infos_of part i address) same
          (subst (λ p. KnowsAddress infos_of p (context_made flags whole made) address) part_same
          (address_known flags known whole part_made made is_part modules types ids address
          (subst (λ p. lacks known p address ≡ false) (sym part_same) has))))
