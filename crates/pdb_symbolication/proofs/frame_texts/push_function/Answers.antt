-- The name, and then the offset.
use Rattle.std.proofs.Common.{codes, string_bytes, Some}
use Rattle.pdb_symbolication.specs.FrameTexts.{text_member}
use Rattle.pdb_symbolication.specs.JsonObjects.{later}
use Rattle.pdb_symbolication.proofs.AppendLemmas.{Gains, gains_on_ok, on_ok_as}
use Rattle.pdb_symbolication.proofs.FoundTextLemmas.{function_text}
use Rattle.pdb_symbolication.proofs.frame_texts.push_function.Goals as goal

pub returns : goal.returns
returns c =
    let known = c.in-Some.known in
    let first : Gains (string_bytes c.args.text.now) (later (text_member (codes "function") (Some known)))
    (string_bytes c.push_text.new.text) =
    record { written = c.in_ok-push_text.ensures } in
    let second : Gains (string_bytes c.push_text.new.text) (codes ",\"function_offset\":")
    (string_bytes c.push_str.new.self) =
    record { written = c.in_ok-push_str.ensures.bytes } in
    let result = c.write_hexadecimal.result in
    let third = rw c.from.ensures at c.write_hexadecimal.ensures in
    rw c.in-Some.is (on_ok_as result (string_bytes c.args.text.now) (string_bytes c.write_hexadecimal.new.out)
    (function_text known c.args.within)
    (gains_on_ok result _ _ first (gains_on_ok result _ _ second third)))
