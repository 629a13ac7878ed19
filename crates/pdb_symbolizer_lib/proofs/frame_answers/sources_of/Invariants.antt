-- The URLs are those that were looked up and those that are left.
use Rattle.std.proofs.Common.{◌≡◌, ◌++◌, drop, map}
use Rattle.pdb_symbolizer_lib.specs.AnsweredRequests.{frame_url}
use Rattle.pdb_symbolizer_lib.proofs.frame_answers.sources_of.Given as goal

abbrev pub invariant-loop-frame : goal.invariant-loop-frame
invariant-loop-frame over l = map (frame_url l.questions.source_urls.now) l.frames
    ≡ map (λ source. source.url) l.sources.items
    ++ map (frame_url l.questions.source_urls.now) (drop l.frame-index l.frames)
