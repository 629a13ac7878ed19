-- The members one after the other.
use Rattle.std.proofs.Common.{string_bytes, codes}
use Rattle.pdb_symbolication.specs.JsonTexts.{quoted}
use Rattle.pdb_answer_printer.specs.JsonObjects.{error_member}
use Rattle.pdb_answer_printer.proofs.AppendLemmas.{Gains, gains_on_ok, pushed}
use Rattle.pdb_answer_printer.proofs.json_objects.write_error.Goals as goal

pub returns : goal.returns
unfolding error_member
returns c =
    let first : Gains (string_bytes c.args.out.now) (codes "\"Error\":{\"Message\":")
    (string_bytes c.push_str.new.self) =
    record { written = c.in_ok-push_str.ensures.bytes } in
    let second : Gains (string_bytes c.push_str.new.self) (quoted c.args.why.now)
    (string_bytes c.write_quoted.new.out) =
    record { written = c.in_ok-write_quoted.ensures } in
    gains_on_ok c.push_str-2.result _ _ first
    (gains_on_ok c.push_str-2.result _ _ second
    (pushed _ (string_bytes c.write_quoted.new.out) _ (codes "},") c.push_str-2.ensures.bytes))
