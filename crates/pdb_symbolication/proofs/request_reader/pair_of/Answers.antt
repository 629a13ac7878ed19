-- An array of another number of values is no pair.
use Rattle.std.proofs.Common.{refl, Bor}
use Rattle.serde_json.specs.View.{view}
use Rattle.serde_json.specs.declared.value.Value.{Value}
use Rattle.pdb_json_values.specs.RecordFault.{shape}
use Rattle.std.specs.Prelude.{[]}
use Rattle.pdb_symbolication.specs.RequestValues.{pair_of}
use Rattle.pdb_symbolication.proofs.RequestLemmas.{ends_as, other_values}
use Rattle.pdb_symbolication.proofs.request_reader.pair_of.Goals as goal

pub returns-then-elements-ne2 : goal.returns-then-elements-ne2
unfolding pair_of
returns-then-elements-ne2 c =
    rw (c.in_ok-elements.ensures, other_values c.in_ok-elements.elements.now c.if-elements-ne2.true)
    (ends_as (λ (pair : Bor Value × Bor Value). (view pair.0.now, view pair.1.now)) c.wanted.result
    (shape [] c.args.sort.now) _ _ refl refl c.wanted.ensures)
