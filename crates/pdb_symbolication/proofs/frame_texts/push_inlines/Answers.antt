-- The calls, between the brackets of their member.
use Rattle.std.proofs.Common.{◌<◌, codes, length, map, string_bytes, arith}
use Rattle.std.proofs.lemmas.Grind.{common_steps}
use Rattle.pdb_symbolication.specs.FrameTexts.{inlined_call}
use Rattle.pdb_symbolication.specs.JsonObjects.{separated}
use Rattle.pdb_symbolication.proofs.AppendLemmas.{Gains, gains_on_ok, on_ok_as, pushed}
use Rattle.pdb_symbolication.proofs.FoundTextLemmas.{inlines_text}
use Rattle.pdb_symbolication.proofs.frame_texts.push_inlines.Goals as goal

pub returns : goal.returns
unfolding lib.Utf8.encode
returns c =
    let calls = c.args.calls.now in
    let some : 0 < length calls = grind (arith, common_steps) in
    let first : Gains (string_bytes c.args.text.now) (codes ",\"inlines\":[") (string_bytes c.push_str.new.self) =
    record { written = c.in_ok-push_str.ensures.bytes } in
    let second : Gains (string_bytes c.push_str.new.self) (separated (map inlined_call calls))
    (string_bytes c.push_calls.new.text) =
    record { written = c.in_ok-push_calls.ensures } in
    let last = pushed c.push.result (string_bytes c.push_calls.new.text) (string_bytes c.push.new.self) (codes "]")
    c.push.ensures.bytes in
    on_ok_as c.push.result (string_bytes c.args.text.now) (string_bytes c.push.new.self) (inlines_text calls some)
    (gains_on_ok c.push.result _ _ first (gains_on_ok c.push.result _ _ second last))
