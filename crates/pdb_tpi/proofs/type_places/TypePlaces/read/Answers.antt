-- The list that was found, and its starts.
use Rattle.std.proofs.Common.{◌∙◌, ap, arith, sym}
use Rattle.pdb_msf.specs.StreamBlocks.{said_in}
use Rattle.std.specs.Option.{option_or}
use Rattle.pdb_tpi.proofs.PlacesReadLemmas.{found_in}
use Rattle.pdb_tpi.proofs.SaidLemmas.{of_said, where_said}
use Rattle.pdb_tpi.proofs.type_places.TypePlaces.read.Goals as goal

pub returns-clause-answer : goal.returns-clause-answer
returns-clause-answer g c =
    where_said (said_in (g.S.Source.bytes c.args.source.now) c.args.blocks) _ (λ stream said.
    found_in stream c.in-Ok.header c.saturating_sub-left.result c.min.result c.len.result _ _
    (sym (of_said _ _ stream said c.in_ok-header.ensures.answer) ∙ c.in-Ok.is)
    (of_said _ _ stream said (c.len.ensures.said _)) c.saturating_sub-left.ensures c.min.ensures
    (omega (arith, c.min.ensures, c.saturating_sub-left.ensures, c.len.ensures.below))
    (λ long. c.starts.view_is ∙ of_said _ _ stream (ap (λ k. said_in k c.args.blocks) c.read_front.ensures.inputs
    ∙ said) c.in_ok-starts.ensures.answer long)
    (c.or-starts-inside.ensures ∙ ap (option_or c.starts.inside.fault) c.early_end.ensures))
