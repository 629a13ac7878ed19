-- The frames, between the brackets of their array.
use Rattle.std.proofs.Common.{◌++◌, codes}
use Rattle.pdb_symbolication.specs.JsonObjects.{separated}
use Rattle.pdb_symbolication.specs.RequestAnswers.{frame_objects, searched_by, stack_array}
use Rattle.pdb_symbolication.proofs.WriteLemmas.{goes_first, fails_amid, goes_amid, goes_end, goes_on}
use Rattle.pdb_symbolication.proofs.request_answers.JobAnswer.write_stack.Goals as goal

pub returns-in_err-write_whole : goal.returns-in_err-write_whole
returns-in_err-write_whole g c =
    let searched = searched_by c.args.self in
    let frames = separated (frame_objects searched 0 c.args.stack.now.frames.items) in
    fails_amid c.from_residual.result c.from_residual.ensures.0
    (goes_amid (codes "[") (frames ++ codes "]")
    (goes_first (g.W.Write.contents c.args.out.now) (stack_array searched c.args.stack.now))
    c.in_err-write_whole.ensures)

pub returns-in_err-write_frames : goal.returns-in_err-write_frames
returns-in_err-write_frames g c =
    let searched = searched_by c.args.self in
    let frames = separated (frame_objects searched 0 c.args.stack.now.frames.items) in
    fails_amid c.from_residual-in_err-write_frames.result c.from_residual-in_err-write_frames.ensures.0
    (goes_amid frames (codes "]")
    (goes_on (g.W.Write.contents c.write_whole.new.out) (codes "[") (frames ++ codes "]")
    (goes_first (g.W.Write.contents c.args.out.now) (stack_array searched c.args.stack.now))
    c.in_ok-write_whole.ensures)
    c.in_err-write_frames.ensures)

pub returns : goal.returns
returns g c =
    let searched = searched_by c.args.self in
    let frames = separated (frame_objects searched 0 c.args.stack.now.frames.items) in
    goes_end c.write_whole-2.result (g.W.Write.contents c.write_whole-2.new.out) (codes "]")
    (goes_on (g.W.Write.contents c.write_frames.new.out) frames (codes "]")
    (goes_on (g.W.Write.contents c.write_whole.new.out) (codes "[") (frames ++ codes "]")
    (goes_first (g.W.Write.contents c.args.out.now) (stack_array searched c.args.stack.now))
    c.in_ok-write_whole.ensures)
    c.in_ok-write_frames.ensures)
    c.write_whole-2.ensures
