-- Start addresses that were found before are those of the records, so they ascend.
use Rattle.pdb_addr2line.proofs.StartLemmas.{starts_ascend}
use Rattle.pdb_addr2line.proofs.context.Context.next_start_address.Goals as goal

pub first_from-requires : goal.first_from-requires
first_from-requires g c =
    let inside = c.self.inside in
    let found = rw c.in-Some.is at c.self.invariant.starts in
    rw (c.deref.ensures.value, found) (starts_ascend g.P.ModuleProvider.info (record {
      provider = inside.provider.now;
      sections = inside.tables.sections.items;
      address_map = inside.address_map.now;
      global_symbols = inside.global_symbols.now;
      strings = inside.tables.file_names;
      debug_information = inside.debug_information.now;
      type_inputs = inside.names.type_inputs;
    }))
