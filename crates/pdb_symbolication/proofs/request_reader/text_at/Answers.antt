-- What is read of the element, seen from around it.
use Rattle.std.proofs.Common.{decimal}
use Rattle.std.specs.Prelude.{string_bytes}
use Rattle.pdb_symbolication.proofs.RequestLemmas.{agrees_inside}
use Rattle.pdb_symbolication.proofs.request_reader.text_at.Goals as goal

pub returns : goal.returns
returns c =
    agrees_inside string_bytes (decimal c.args.number) c.text_of.result c.inside_element.result _
    c.inside_element.ensures c.text_of.ensures
