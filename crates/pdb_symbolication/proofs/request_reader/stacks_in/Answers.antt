-- What is read of the member, seen from around it.
use Rattle.std.proofs.Common.{Global, Vec, codes, map, subst}
use Rattle.serde_json.specs.Data.{Data}
use Rattle.pdb_json_values.specs.RecordFault.{AgreesBy, read_inside}
use Rattle.pdb_symbolication.specs.RequestValues.{stack_seen, stacks_of}
use Rattle.pdb_symbolication.specs.declared.requests.Stack.{Stack}
use Rattle.pdb_symbolication.proofs.RequestLemmas.{agrees_inside}
use Rattle.pdb_symbolication.proofs.request_reader.stacks_in.Goals as goal

pub returns : goal.returns
returns c =
    subst (λ (d : Data). AgreesBy (λ (all : Vec Stack Global). map stack_seen all.items) c.inside.result
    (read_inside (codes "stacks") (stacks_of c.args.modules d))) c.member.ensures
    (agrees_inside (λ (all : Vec Stack Global). map stack_seen all.items) (codes "stacks") c.stacks_of-stacks.result
    c.inside.result _ c.inside.ensures c.stacks_of-stacks.ensures)
