use Rattle.std.proofs.lemmas.Result.{on_ok_weaker}
use Rattle.pdb_type_printer.proofs.TurnLemmas.{turned_type}
use Rattle.pdb_type_printer.proofs.turns.of_type.Goals as goal

pub returns : goal.returns
returns c = on_ok_weaker c.by_kind.result (λ put w flags failed.
    turned_type w c.args.type_data.now c.args.progress.now _ _ failed c.requires.no_failure
    c.in_ok-catch.ensures (put w flags))
    c.by_kind.ensures
