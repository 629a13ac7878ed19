-- The frames, in brackets.
use Rattle.std.proofs.Common.{string_bytes, codes}
use Rattle.pdb_answer_printer.specs.JsonObjects.{found_frames, frames_member}
use Rattle.pdb_answer_printer.proofs.AppendLemmas.{Gains, gains_on_ok, pushed}
use Rattle.pdb_answer_printer.proofs.json_frames.write_frames_member.Goals as goal

pub returns : goal.returns
unfolding frames_member
returns c =
    let first : Gains (string_bytes c.args.out.now) (codes ",\"Symbol\":[") (string_bytes c.push_str.new.self) =
    record { written = c.in_ok-push_str.ensures.bytes } in
    let second : Gains (string_bytes c.push_str.new.self) (
    found_frames c.args.options.now c.args.frames.now c.args.sources.now)
    (string_bytes c.write_found_frames.new.out) =
    record { written = c.in_ok-write_found_frames.ensures } in
    gains_on_ok c.push_str-2.result _ _ first
    (gains_on_ok c.push_str-2.result _ _ second
    (pushed _ (string_bytes c.write_found_frames.new.out) _ (codes "]") c.push_str-2.ensures.bytes))
