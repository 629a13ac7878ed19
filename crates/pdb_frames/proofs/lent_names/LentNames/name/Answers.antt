use Rattle.std.proofs.Common.{◌∙◌, Some, ap, sym}
use Rattle.pdb_tables.proofs.ElementLemmas.{got_at}
use Rattle.pdb_frames.proofs.LentNameLemmas.{lent_at}
use Rattle.pdb_frames.proofs.lent_names.LentNames.name.Goals as goal

pub returns-in-Some : goal.returns-in-Some
returns-in-Some c strings are =
    let lookup = c.in_ok-lent.ensures.lookup in
    let got = ap (λ slot. Some slot) (sym c.in-Some.is) ∙ got_at
    (Some c.in_ok-lent.field-0) c.deref.result.now c.slot_of-slot.result lookup.0 lookup.1 in
    rw (← c.if-lent-number.true)
    (lent_at strings c.deref.result.now c.slot_of-slot.result c.in-Some.lent (rw c.deref.ensures.value are) got)
