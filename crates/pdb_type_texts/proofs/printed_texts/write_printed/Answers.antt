use Rattle.std.proofs.Common.{ap, ◌∙◌}
use Rattle.pdb_type_texts.proofs.AnswerLemmas.{fails_with}
use Rattle.pdb_type_texts.proofs.printed_texts.write_printed.Goals as goal

pub returns : goal.returns
returns g c = λ r failed is.
    let ran = rw c.in-Some.is at is in
    record {
      error = λ memory other. (
        fails_with c.in-Some.failure _ _ _ _ ran
            (c.write_before.ensures.answer other ∙ c.from.ensures),
        rw (ap (λ x. x.text) ran) (rw c.as_str-in-Some.ensures.value at (c.write_before.ensures.written memory other)),
      );
      refused = λ format. ap (λ x. x.failed) ran;
      unwritten = λ memory. c.write_before.ensures.unwritten memory;
    }
