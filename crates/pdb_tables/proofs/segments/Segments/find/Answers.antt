-- The starts of the segments ascend, so the last one that begins by a number gives its value.
use Rattle.std.proofs.Common.{◌∙◌, refl, sym, ap}
use Rattle.std.proofs.lemmas.Bool.{lt-ltb, le-ltb}
use Rattle.pdb_tables.proofs.SearchLemmas.{given, starts_ascend, value_given_by_last}
use Rattle.pdb_tables.proofs.segments.Segments.find.Goals as goal

pub neighbours_of-requires : goal.neighbours_of-requires
neighbours_of-requires g c = rw c.deref.ensures.value (starts_ascend 0 c.self.inside.segments.items c.self.invariant)

pub returns-in_err-segment-clause-answer : goal.returns-in_err-segment-clause-answer
returns-in_err-segment-clause-answer g c =
    let last = rw c.deref.ensures.value at c.neighbours_of.ensures.up_to in
    rw (← c.self.view_is) (c.from_residual.ensures ∙ sym (ap (given c.args.x) c.in_err-segment.was)
    ∙ value_given_by_last c.args.x c.self.inside.segments.items _ c.self.invariant last)

pub returns-then-x-segment-clause-answer : goal.returns-then-x-segment-clause-answer
returns-then-x-segment-clause-answer g c =
    let last = rw c.deref.ensures.value at c.neighbours_of.ensures.up_to in
    rw (← c.self.view_is) (sym (ap (given c.args.x) c.in_ok-segment.was ∙ rw (lt-ltb _ _ c.if-x-segment.true) refl)
    ∙ value_given_by_last c.args.x c.self.inside.segments.items _ c.self.invariant last)

pub returns-else-x-segment-clause-answer : goal.returns-else-x-segment-clause-answer
returns-else-x-segment-clause-answer g c =
    let last = rw c.deref.ensures.value at c.neighbours_of.ensures.up_to in
    rw (← c.self.view_is) (sym (ap (given c.args.x) c.in_ok-segment.was ∙ rw (le-ltb _ _ c.if-x-segment.false) refl)
    ∙ value_given_by_last c.args.x c.self.inside.segments.items _ c.self.invariant last)
