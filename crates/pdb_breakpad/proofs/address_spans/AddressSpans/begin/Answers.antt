-- One span more, after all others.
use Rattle.std.proofs.Common.{subst, sym}
use Rattle.pdb_breakpad.specs.AddressSpans.{Ascend, EndBefore}
use Rattle.pdb_breakpad.proofs.AddressSpanLemmas.{ascend_begun}
use Rattle.pdb_breakpad.proofs.address_spans.AddressSpans.begin.Goals as goal

pub invariant_of-self-2 : goal.invariant_of-self-2
invariant_of-self-2 g c =
    subst Ascend (sym c.in_ok-push.ensures.items)
    (ascend_begun c.self.inside.spans.items _ c.args.piece.ordered
    (subst (EndBefore c.args.piece.first) (sym c.self.view_is) c.requires.order) c.self.invariant)
