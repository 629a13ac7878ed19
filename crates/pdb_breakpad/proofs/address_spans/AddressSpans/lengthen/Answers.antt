-- The last span goes on over the piece, and the spans still ascend.
use Rattle.std.proofs.Common.{◌∙◌, ◌+◌, ap, subst, sym}
use Rattle.pdb_breakpad.specs.AddressSpans.{Ascend, EndBefore, content_at}
use Rattle.pdb_breakpad.proofs.AddressSpanLemmas.{ascend_lengthened, ends_lengthened, went_on}
use Rattle.pdb_breakpad.proofs.address_spans.AddressSpans.lengthen.Goals as goal

pub invariant_of-self-2 : goal.invariant_of-self-2
invariant_of-self-2 g c =
    subst Ascend (sym c.in_ok-push.ensures.items)
    (ascend_lengthened c.args.piece.first c.args.piece.last c.self.inside.spans.items c.pop.new.self.items
    c.in-Some.before c.args.piece.ordered c.in-Some.ensures.items
    (subst (EndBefore c.args.piece.first) (sym c.self.view_is) c.requires.order) c.self.invariant)

pub returns-clause-answer : goal.returns-clause-answer
returns-clause-answer g c = λ a from to.
    ap (content_at a) c.in_ok-push.ensures.items
    ∙ went_on a c.args.piece.first c.args.piece.last c.args.self.now c.pop.new.self.items c.in-Some.before from to
    (sym c.self.view_is ∙ c.in-Some.ensures.items) c.requires.order
    (subst Ascend c.self.view_is c.self.invariant) c.requires.there

pub returns-clause-order : goal.returns-clause-order
returns-clause-order g c =
    subst (EndBefore (c.args.piece.last + 1)) (sym c.in_ok-push.ensures.items)
    (ends_lengthened c.args.piece.first c.args.piece.last c.args.self.now c.pop.new.self.items c.in-Some.before
    c.args.piece.ordered (sym c.self.view_is ∙ c.in-Some.ensures.items) c.requires.order)
