-- Which streams are left after each that is read.
use Rattle.std.proofs.Common.{◌≡◌, ◌∙◌, ap, arith, map, rules, true}
use Rattle.pdb_source_urls.specs.SourceLinks.{link_seen}
use Rattle.pdb_source_urls.proofs.NumberedLemmas.{all_left, at_end, no_more, one_less}
use Rattle.pdb_source_urls.proofs.named_streams.read_links.Goals as goal
use Rattle.pdb_source_urls.proofs.named_streams.read_links.Goals.{else-loop-number-test}
use Rattle.pdb_source_urls.proofs.named_streams.read_links.Goals.{then-loop-number-test+in_ok-there+then-not-there}

pub loop-number-init : goal.loop-number-init
loop-number-init g c = record {
  answer = all_left c.args.layout.now c.args.info.now _ c.in_ok-add_named.field-0 _ _
      (ap (map link_seen) c.new-links.ensures.items) c.in_ok-add_named.ensures.answer;
  inputs = c.add_named.ensures.inputs;
  refusals = c.add_named.ensures.refusals;
}

pub loop-number-preserved : goal.loop-number-preserved
loop-number-preserved g c =
    let there : c.in_ok-there.there ≡ true = search rules in record {
      answer = one_less c.args.layout.now c.args.info.now _ _ c.in_ok-there.there c.loop-number.number
          (map link_seen c.loop-number.links.items) _ c.loop-number.invariant.inputs there (omega arith)
          c.loop-number.invariant.answer c.in_ok-there.ensures.answer;
      inputs = c.add_numbered.ensures.inputs ∙ c.loop-number.invariant.inputs;
      refusals = c.add_numbered.ensures.refusals ∙ c.loop-number.invariant.refusals;
    }

pub returns-clause-answer : goal.returns-clause-answer
returns-clause-answer g c = elim c.loop-number-test.branch [
  | else-loop-number-test w ↦ rw w.links-is (at_end c.args.layout.now c.args.info.now _ c.loop-number.number
      (map link_seen c.loop-number.links.items) w.loop-number-test.false c.loop-number.invariant.answer)
  | then-loop-number-test+in_ok-there+then-not-there w ↦ rw w.links-is (no_more c.args.layout.now
      c.args.info.now _ _ w.in_ok-there.there c.loop-number.number (map link_seen c.loop-number.links.items) _
      c.loop-number.invariant.inputs w.if-not-there.true w.loop-number-test.true c.loop-number.invariant.answer
      w.in_ok-there.ensures.answer)
]
