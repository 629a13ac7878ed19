-- The members one after the other.
use Rattle.std.proofs.Common.{string_bytes, ◌++◌, codes}
use Rattle.pdb_symbolication.specs.JsonTexts.{quoted}
use Rattle.std.specs.Fmt.{decimal}
use Rattle.pdb_answer_printer.specs.JsonObjects.{source_members, frame_object}
use Rattle.pdb_answer_printer.specs.SourceTexts.{source_of}
use Rattle.pdb_answer_printer.proofs.AppendLemmas.{Gains, gains_on_ok, pushed}
use Rattle.pdb_answer_printer.proofs.json_frames.write_frame_object.Goals as goal

pub returns : goal.returns
unfolding frame_object
returns c =
    let first : Gains (string_bytes c.args.out.now) (codes "{\"Column\":0,\"Discriminator\":0,\"FileName\":")
    (string_bytes c.push_str.new.self) =
    record { written = c.in_ok-push_str.ensures.bytes } in
    let second : Gains (string_bytes c.push_str.new.self) (quoted c.args.file.now)
    (string_bytes c.write_quoted.new.out) =
    record { written = c.in_ok-write_quoted.ensures } in
    let third : Gains (string_bytes c.write_quoted.new.out) (codes ",\"FunctionName\":")
    (string_bytes c.push_str-2.new.self) =
    record { written = c.in_ok-push_str-2.ensures.bytes } in
    let fourth : Gains (string_bytes c.push_str-2.new.self) (quoted c.args.function.now)
    (string_bytes c.write_quoted-2.new.out) =
    record { written = c.in_ok-write_quoted-2.ensures } in
    let fifth : Gains (string_bytes c.write_quoted-2.new.out) (codes ",\"Line\":" ++ decimal c.args.line)
    (string_bytes c.write.new.self) =
    record { written = c.in_ok-write.ensures.bytes } in
    let sixth : Gains (string_bytes c.write.new.self) (source_members (source_of c.args.source))
    (string_bytes c.write_source_members.new.out) =
    record { written = c.in_ok-write_source_members.ensures } in
    gains_on_ok c.push_str-3.result _ _ first
    (gains_on_ok c.push_str-3.result _ _ second
    (gains_on_ok c.push_str-3.result _ _ third
    (gains_on_ok c.push_str-3.result _ _ fourth
    (gains_on_ok c.push_str-3.result _ _ fifth
    (gains_on_ok c.push_str-3.result _ _ sixth
    (pushed _ (string_bytes c.write_source_members.new.out) _
    (codes ",\"StartAddress\":\"\",\"StartFileName\":\"\",\"StartLine\":0}") c.push_str-3.ensures.bytes))))))
