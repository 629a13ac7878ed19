-- The field is after one more `*`.
use Rattle.std.proofs.Common.{◌∙◌, sym}
use Rattle.pdb_source_urls.proofs.ExpansionLemmas.{field_more}
use Rattle.pdb_source_urls.proofs.expansion.field.Goals as goal

pub loop-field-preserved : goal.loop-field-preserved
loop-field-preserved c =
    field_more c.args.before c.loop-field._field c.loop-field.rest.now
    (c.in-Some.field-0-0.now, c.in-Some.others.now) c.loop-field-test.true (sym c.in-Some.ensures)
    ∙ c.loop-field.invariant
