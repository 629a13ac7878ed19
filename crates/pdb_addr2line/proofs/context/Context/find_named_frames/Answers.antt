-- The frames that were found, of which the last goes by the name of its symbol where it has no other.
use Rattle.std.proofs.Common.{◌∙◌, ap}
use Rattle.std.specs.Prelude.{Option, Ok}
use Rattle.pdb_frames.specs.Frame.{FramesInfo}
use Rattle.pdb_addr2line.specs.ContextInputs.{ContextInputs}
use Rattle.pdb_addr2line.specs.Lookups.{frames_answered}
use Rattle.pdb_addr2line.specs.NamedFunctions.{named_frames, symbol_name_at}
use Rattle.pdb_addr2line.proofs.NamedLemmas.{frames_are_named}
use Rattle.pdb_addr2line.proofs.context.Context.find_named_frames.Goals as goal

pub returns-in_ok-named-in-Some-clause-answer : goal.returns-in_ok-named-in-Some-clause-answer
returns-in_ok-named-in-Some-clause-answer g c =
    let info = g.P.ModuleProvider.info in
    frames_are_named (symbol_name_at info c.args.self.now.inputs c.args.address)
    (frames_answered info c.args.self.now c.args.address) c.in-Some.found c.in_ok-named-in-Some.named
    (c.in_ok-find_frames.ensures.answer ∙ ap (λ (found : Option FramesInfo). Ok found) c.in-Some.is)
    (c.in_ok-named-in-Some.ensures.answer
    ∙ ap (λ (s : ContextInputs g.row.P.Denot). named_frames (symbol_name_at info s c.args.address) c.in-Some.found)
    c.in_ok-find_frames.ensures.inputs)
