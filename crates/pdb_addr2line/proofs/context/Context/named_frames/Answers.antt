-- The last of the frames is named, and those before it stay.
use Rattle.std.proofs.Common.{◌∙◌, ◌∷◌, [], ◌++◌, List, ap, sym}
use Rattle.pdb_frames.specs.Frame.{FrameInfo, FramesInfo}
use Rattle.pdb_addr2line.specs.NamedFunctions.{named_frames, named_last, symbol_name_at}
use Rattle.pdb_addr2line.proofs.NamedLemmas.{last_is_named}
use Rattle.pdb_addr2line.proofs.context.Context.named_frames.Goals as goal

pub returns-clause-answer : goal.returns-clause-answer
returns-clause-answer g c =
    let name = symbol_name_at g.P.ModuleProvider.info c.args.self.now.inputs c.args.address in
    ap (λ (items : List FrameInfo). record {
      start_rva = c.found.inside.start_rva;
      end_rva = c.found.inside.end_rva;
      frames = items;
    })
    (c.in_ok-push.ensures.items ∙ ap (λ (f : FrameInfo). c.pop.new.self.items ++ f ∷ []) c.in_ok-named_frame.ensures.answer
    ∙ sym (last_is_named name c.pop.new.self.items c.in-Some.last) ∙ ap (named_last name) (sym c.in-Some.ensures.items))
    ∙ ap (λ (f : FramesInfo). named_frames name f) c.found.view_is
