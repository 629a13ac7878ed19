-- The header, by the stream's first bytes.
use Rattle.std.proofs.Common.{◌∙◌, ap, sym, take}
use Rattle.pdb_msf.specs.StreamBlocks.{said_in}
use Rattle.pdb_tpi.proofs.HeaderLemmas.{header_read}
use Rattle.pdb_tpi.proofs.SaidLemmas.{of_said, where_said}
use Rattle.pdb_tpi.specs.TypeStreamHeader.{header_of}
use Rattle.pdb_tpi.proofs.type_places.read_front.Goals as goal

pub returns-clause-answer : goal.returns-clause-answer
returns-clause-answer g c =
    where_said (said_in (g.S.Source.bytes c.args.source.now) c.args.blocks.now) _ (λ stream said. c.header_of.ensures
    ∙ ap (λ xs. header_of xs c.len.result)
    (c.deref.ensures.value ∙ of_said _ _ stream said c.in_ok-read_range.ensures.answer)
    ∙ ap (header_of (take 20 stream)) (sym (of_said _ _ stream said (c.len.ensures.said _))) ∙ header_read stream)
