use Rattle.std.proofs.Common.{◌∙◌, sym, ap, reverse, None}
use Rattle.std.proofs.lemmas.List.{reverse-reverse}
use Rattle.pdb_tables.specs.Last.{last_over}
use Rattle.pdb_tables.proofs.LastLemmas.{last_over-reverse}
use Rattle.pdb_functions.specs.Spans.{contribution_covers}
use Rattle.pdb_functions.proofs.contribution_table.ContributionTable.new.Goals as goal

pub invariant_of-result : goal.invariant_of-result
invariant_of-result c =
    let last_first = c.reverse.new.self.items in
    record {
      firsts = λ section_offset fits.
          rw c.deref.ensures.value at (c.in_ok-segments.ensures.answer section_offset fits)
          ∙ ap (λ spans. last_over (contribution_covers section_offset) None spans) (sym (reverse-reverse last_first))
          ∙ last_over-reverse (contribution_covers section_offset) (reverse last_first);
      at_most_two_each = rw (← c.deref.ensures.value) c.in_ok-segments.ensures.bound;
    }
