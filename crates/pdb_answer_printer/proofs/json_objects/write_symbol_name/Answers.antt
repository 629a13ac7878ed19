-- The member's name, and then the symbol's.
use Rattle.std.proofs.Common.{string_bytes, codes}
use Rattle.pdb_answer_printer.proofs.AppendLemmas.{Gains, gains_on_ok}
use Rattle.pdb_answer_printer.proofs.json_objects.write_symbol_name.Goals as goal

pub returns : goal.returns
returns c =
    let first : Gains (string_bytes c.args.out.now) (codes ",\"SymName\":") (string_bytes c.push_str.new.self) =
    record { written = c.in_ok-push_str.ensures.bytes } in
    gains_on_ok c.write_quoted.result _ _ first c.write_quoted.ensures
