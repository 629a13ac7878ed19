-- One position more, and all of them.
use Rattle.std.proofs.Common.{◌∙◌, ◌<◌, ap, length, length-set, arith, drop}
use Rattle.std.proofs.lemmas.List.{length-map}
use Rattle.pdb_msf.specs.StreamBlocks.{said_in}
use Rattle.pdb_tpi.proofs.SaidLemmas.{of_said, where_said}
use Rattle.pdb_tpi.specs.RecordWindows.{records_in}
use Rattle.pdb_tpi.specs.TypePlaces.{list_at}
use Rattle.pdb_tpi.specs.TypeRecords.{first_record}
use Rattle.pdb_session.proofs.DefinitionLemmas.{all_marked, marked_more}
use Rattle.pdb_session.proofs.definitions.mark_each.Goals as goal

pub loop-position-preserved : goal.loop-position-preserved
loop-position-preserved g c = record {
  marked = λ stream said lies.
      let before = ap (λ k. said_in k c.args.places.now.records.blocks) c.loop-position.invariant.inputs ∙ said in
      let within : c.loop-position.position < length c.loop-position.marks =
      omega (arith, c.loop-position-test.true) in
      marked_more c.args.names.now (list_at c.args.places.now stream) c.loop-position.position c.loop-position.marks _
      c.in_ok-marked.field-0 within (of_said _ _ stream before c.in_ok-marked.ensures.answer lies
      (c.loop-position.invariant.shows stream said)) (c.loop-position.invariant.marked stream said lies);
  length = length-set c.loop-position.marks c.loop-position.position c.in_ok-marked.field-0
      ∙ c.loop-position.invariant.length;
  shows = λ stream said. of_said _ _ stream (ap (λ k. said_in k c.args.places.now.records.blocks)
      c.loop-position.invariant.inputs ∙ said) c.is_marked.ensures.shows (c.loop-position.invariant.shows stream said);
  refusals = c.is_marked.ensures.refusals ∙ c.loop-position.invariant.refusals;
  inputs = c.is_marked.ensures.inputs ∙ c.loop-position.invariant.inputs;
}

pub returns-clause-marked : goal.returns-clause-marked
returns-clause-marked g c =
    where_said (said_in (g.S.Source.bytes c.args.source.now) c.args.places.now.records.blocks) _
    (λ stream said lies. all_marked c.args.names.now (list_at c.args.places.now stream) c.loop-position.position
    c.loop-position.marks (omega (
      arith,
      c.requires.length,
      c.loop-position.invariant.length,
      length-map c.args.places.now.starts.items
          (λ start. first_record (drop start (records_in c.args.places.now.records stream))),
    )) (c.loop-position.invariant.marked stream said lies))
