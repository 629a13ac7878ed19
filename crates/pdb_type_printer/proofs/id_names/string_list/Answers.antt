use Rattle.std.proofs.lemmas.Result.{on_ok_weaker}
use Rattle.std.proofs.Common.{arith}
use Rattle.std.specs.Prelude.{None, codes}
use Rattle.pdb_type_texts.specs.Functions.{types_between}
use Rattle.pdb_type_texts.specs.Plans.{◌▸◌, written}
use Rattle.pdb_type_printer.proofs.StandsLemmas.{stands_all, stands_fewer}
use Rattle.pdb_type_printer.proofs.TurnLemmas.{advances_stands, alone_advances}
use Rattle.pdb_type_printer.proofs.id_names.string_list.Goals as goal

pub returns : goal.returns
returns c = on_ok_weaker c.push3.result (λ put w failed.
    let all = stands_fewer 0 (omega arith) (stands_all w put) in
    let advances = advances_stands w 0 _ _ _ all failed in
    alone_advances w None (λ inside. written
    (codes "\"") ▸ types_between (codes "\" \"") inside c.args.substrings.now ▸ written (codes "\""))
    c.args.progress.now _ _ failed failed c.in_ok-open_alone.ensures advances)
    c.push3.ensures
