-- A position is marked, or there is a definition whose item goes by one of the names.
use Rattle.std.proofs.Common.{◌∙◌, Some, None, false, ap, sym, refl}
use Rattle.pdb_msf.specs.StreamBlocks.{said_in}
use Rattle.pdb_tpi.proofs.SaidLemmas.{of_said, where_said}
use Rattle.pdb_tpi.specs.TypePlaces.{list_at}
use Rattle.pdb_session.proofs.DefinitionLemmas.{no_definition, one_definition}
use Rattle.pdb_session.proofs.definitions.is_marked.Goals as goal

pub returns-then-not-branch-clause-answer : goal.returns-then-not-branch-clause-answer
returns-then-not-branch-clause-answer g c =
    where_said (said_in (g.S.Source.bytes c.args.source.now) c.args.places.now.records.blocks) _
    (λ stream said lies shows. no_definition c.args.marked c.in_ok-is_definition.field-0 c.args.names.now
    (list_at c.args.places.now stream) c.args.position c.if-marked.false c.if-not-branch.true
    (of_said _ _ stream said c.in_ok-is_definition.ensures.answer lies shows))

pub returns-in-Some-clause-answer : goal.returns-in-Some-clause-answer
returns-in-Some-clause-answer g c =
    where_said (said_in (g.S.Source.bytes c.args.source.now) c.args.places.now.records.blocks) _
    (λ stream said lies shows.
    let still = of_said _ _ stream said c.is_definition.ensures.shows shows in
    let read = of_said _ _ stream (ap (λ k. said_in k c.args.places.now.records.blocks)
    c.is_definition.ensures.inputs ∙ said) c.in_ok-item.ensures.answer lies still in
    one_definition c.args.marked c.in_ok-is_definition.field-0 c.goes_by.result c.args.names.now
    (list_at c.args.places.now stream) c.args.position (Some c.in-Some.item) c.if-marked.false c.if-not-branch.false
    (of_said _ _ stream said c.in_ok-is_definition.ensures.answer lies shows) (sym c.in-Some.is ∙ read)
    c.goes_by.ensures)

pub returns-in-None-clause-answer : goal.returns-in-None-clause-answer
returns-in-None-clause-answer g c =
    where_said (said_in (g.S.Source.bytes c.args.source.now) c.args.places.now.records.blocks) _
    (λ stream said lies shows.
    let still = of_said _ _ stream said c.is_definition.ensures.shows shows in
    let read = of_said _ _ stream (ap (λ k. said_in k c.args.places.now.records.blocks)
    c.is_definition.ensures.inputs ∙ said) c.in_ok-item.ensures.answer lies still in
    one_definition c.args.marked c.in_ok-is_definition.field-0 false c.args.names.now
    (list_at c.args.places.now stream) c.args.position None c.if-marked.false c.if-not-branch.false
    (of_said _ _ stream said c.in_ok-is_definition.ensures.answer lies shows) (sym c.in-None.is ∙ read) refl)
