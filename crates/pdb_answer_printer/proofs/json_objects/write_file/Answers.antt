-- The names of the file and of the symbol.
use Rattle.std.proofs.Common.{string_bytes, codes}
use Rattle.pdb_symbolication.specs.JsonTexts.{quoted}
use Rattle.pdb_answer_printer.specs.JsonObjects.{file_members}
use Rattle.pdb_answer_printer.proofs.AppendLemmas.{Gains, gains_on_ok}
use Rattle.pdb_answer_printer.proofs.json_objects.write_file.Goals as goal

pub returns : goal.returns
unfolding file_members
returns c =
    let first : Gains (string_bytes c.args.out.now) (codes "\"ModuleName\":")
    (string_bytes c.push_str.new.self) =
    record { written = c.in_ok-push_str.ensures.bytes } in
    let second : Gains (string_bytes c.push_str.new.self) (quoted c.args.request.now.file.now)
    (string_bytes c.write_quoted.new.out) =
    record { written = c.in_ok-write_quoted.ensures } in
    gains_on_ok c.write_symbol.result _ _ first
    (gains_on_ok c.write_symbol.result _ _ second c.write_symbol.ensures)
