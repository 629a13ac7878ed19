use Rattle.std.proofs.Common.{refl, sym}
use Rattle.pdb_c.specs.Openings.{context_over, LeavesOpened}
use Rattle.pdb_c.proofs.OpeningLemmas.{not_held}
use Rattle.pdb_c.proofs.TextLemmas.{ends_with}
use Rattle.pdb_c.proofs.handle.Handle.open.Goals as goal

pub returns-in_err-next : goal.returns-in_err-next
returns-in_err-next c =
    let why = c.in_err-next.field-0.0 in
    let held = c.args.self.now.held in
    ends_with _ why (λ r. LeavesOpened r (context_over c.args.records.value) held held) c.from_residual.ensures.1
    (refl, λ other. rw (sym c.of.ensures) (not_held _ why (c.in_err-next.ensures other)))
