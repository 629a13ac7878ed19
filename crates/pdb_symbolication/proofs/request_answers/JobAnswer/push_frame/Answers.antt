-- The members one after the other.
use Rattle.std.proofs.Common.{◌++◌, codes, string_bytes}
use Rattle.std.specs.Fmt.{decimal}
use Rattle.pdb_symbolication.specs.JsonObjects.{hexadecimal}
use Rattle.pdb_symbolication.specs.JsonTexts.{quoted}
use Rattle.pdb_symbolication.specs.RequestAnswers.{known_text, module_name, searched_by}
use Rattle.pdb_symbolication.proofs.AnswerTextLemmas.{frame_parts}
use Rattle.pdb_symbolication.proofs.AppendLemmas.{Gains, gains_on_ok, on_ok_as, pushed}
use Rattle.pdb_symbolication.proofs.request_answers.JobAnswer.push_frame.Goals as goal

pub returns : goal.returns
unfolding lib.Utf8.encode
returns c =
    let frame = c.args.frame in
    let name = module_name c.args.self.job.now.memory_map.items frame.module in
    let known = known_text (searched_by c.args.self) frame.module frame.offset in
    let first : Gains (string_bytes c.args.text.now)
    (codes "{\"frame\":" ++ (decimal c.args.number ++ codes ",\"module\":"))
    (string_bytes c.write.new.self) =
    record { written = c.in_ok-write.ensures.bytes } in
    let second : Gains (string_bytes c.write.new.self) (quoted name) (string_bytes c.write_quoted.new.out) =
    record { written = rw c.module_name.ensures at c.in_ok-write_quoted.ensures } in
    let third : Gains (string_bytes c.write_quoted.new.out) (codes ",\"module_offset\":")
    (string_bytes c.push_str.new.self) =
    record { written = c.in_ok-push_str.ensures.bytes } in
    let fourth : Gains (string_bytes c.push_str.new.self) (hexadecimal frame.offset)
    (string_bytes c.write_hexadecimal.new.out) =
    record { written = c.in_ok-write_hexadecimal.ensures } in
    let fifth : Gains (string_bytes c.write_hexadecimal.new.out) known (string_bytes c.push_str-2.new.self) =
    record { written = rw c.frame_text.ensures at c.in_ok-push_str-2.ensures.bytes } in
    let result = c.push.result in
    let last = pushed result (string_bytes c.push_str-2.new.self) (string_bytes c.push.new.self) (codes "}")
    c.push.ensures.bytes in
    on_ok_as result (string_bytes c.args.text.now) (string_bytes c.push.new.self)
    (frame_parts (decimal c.args.number) (quoted name) (hexadecimal frame.offset) known)
    (gains_on_ok result _ _ first (gains_on_ok result _ _ second (gains_on_ok result _ _ third
    (gains_on_ok result _ _ fourth (gains_on_ok result _ _ fifth last)))))
