-- The last of the frames goes by the name that is known at their start, and those before it stay.
use Rattle.std.proofs.Common.{◌≡◌, ◌∙◌, List, ap, rules}
use Rattle.pdb_frames.specs.Frame.{FrameInfo, FramesInfo}
use Rattle.pdb_symbolizer_lib.specs.PublicNames.{decorated, decorated_last, known_name}
use Rattle.pdb_symbolizer_lib.proofs.PublicNameLemmas.{none_is_decorated, put_back_is_decorated}
use Rattle.pdb_symbolizer_lib.proofs.public_names.PublicNames.decorate.Goals as goal
use Rattle.pdb_symbolizer_lib.proofs.public_names.PublicNames.decorate.Goals.{in-Some+in_ok-decorated_frame+in_ok-push, in_default}

pub returns : goal.returns
returns c =
    let inside = c.found.inside in
    let name = known_name c.args.self.now inside.start_rva in
    let frames : c.match-pop.frames.items ≡ decorated_last name inside.frames.items
    = elim c.match-pop.branch [
      | in-Some+in_ok-decorated_frame+in_ok-push w ↦ ap (λ v. v.items) w.frames-is
          ∙ put_back_is_decorated name inside.frames.items c.pop.new.self.items w.push.new.self.items w.in-Some.last
          w.in_ok-decorated_frame.field-0 w.in-Some.ensures.items w.in_ok-decorated_frame.ensures w.in_ok-push.ensures.items
      | in_default w ↦ ap (λ v. v.items) w.frames-is
          ∙ none_is_decorated name inside.frames.items c.pop.new.self.items w.in_default.ensures.items
          (search rules)
    ] in
    ap (λ (items : List FrameInfo). record { start_rva = inside.start_rva; end_rva = inside.end_rva; frames = items }) frames
    ∙ ap (λ (f : FramesInfo). decorated (known_name c.args.self.now f.start_rva) f) c.found.view_is
