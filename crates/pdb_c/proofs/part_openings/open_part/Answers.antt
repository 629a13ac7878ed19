-- The context that the handle holds is over what was read.
use Rattle.std.proofs.Common.{◌∙◌, ap, refl, sym}
use Rattle.pdb_records.specs.Records.{Records}
use Rattle.pdb_addr2line.specs.ContextData.{records_refusal}
use Rattle.pdb_c.specs.Openings.{context_over, held_by}
use Rattle.pdb_c.proofs.PartLemmas.{accepted_same, part_left}
use Rattle.pdb_c.proofs.part_openings.open_part.Goals as goal

pub returns : goal.returns
returns c =
    let known = c.in_ok-known.known in
    let records = c.records_of.result in
    part_left c.args.file.now c.args.addresses.now c.in_ok-flags.flags.items known (context_over known.records)
    c.args.handle.now.held c.open.new.self.held c.in_ok-known.ensures.part c.in_ok-known.ensures.closed
    c.in_ok-known.ensures.enough c.in_ok-flags.ensures refl
    (ap (λ (r : Records). held_by (context_over r)) (sym c.records_of.ensures
    ∙ accepted_same (records_refusal records) records c.in_ok-records.records.value c.in_ok-records.ensures)
    ∙ c.in_ok-open.ensures)
