-- The interval where a claim begins and the next one tell of each of its bytes.
use Rattle.std.proofs.Common.{◌≡◌, ◌∙◌, true, false, Some, None, sym, ap}
use Rattle.std.specs.Prelude.{not, find}
use Rattle.pdb_tables.specs.Last.{last_over}
use Rattle.pdb_repairs.specs.Intervals.{begins_by, ends_before, is_of}
use Rattle.pdb_repairs.proofs.OwnsLemmas.{is_after, owns_none, owns_until_next}
use Rattle.pdb_repairs.proofs.intervals.owns_all.Goals as goal

pub returns-then-is_of : goal.returns-then-is_of
returns-then-is_of c =
    let claim = c.args.claim.now in
    let is = c.args.intervals.now in
    let here : is_of (last_over (begins_by claim.start) None is) (Some claim.module_index) ≡ true =
    ap (λ o. is_of o (Some claim.module_index)) (sym c.neighbours_of-here.ensures.up_to)
    ∙ sym c.is_of.ensures ∙ c.if-is_of.true in
    let next : c.ends_before.result ≡ ends_before (find (is_after claim.start) is) claim.end =
    c.ends_before.ensures ∙ ap (λ o. ends_before o claim.end) c.neighbours_of-here.ensures.above in
    λ claims known. ap not next ∙ owns_until_next claims claim is c.requires.bytes known here

pub returns-else-is_of : goal.returns-else-is_of
returns-else-is_of c =
    let claim = c.args.claim.now in
    let is = c.args.intervals.now in
    let other : is_of (last_over (begins_by claim.start) None is) (Some claim.module_index) ≡ false =
    ap (λ o. is_of o (Some claim.module_index)) (sym c.neighbours_of-here.ensures.up_to)
    ∙ sym c.is_of.ensures ∙ c.if-is_of.false in
    λ claims known. c.if-is_of.false ∙ sym (owns_none claims claim is c.requires.bytes known other)
