use Rattle.std.proofs.Common.{refl}
use Rattle.pdb_addr2line.proofs.GainLemmas.{gains_by_one}
use Rattle.pdb_c.specs.Questions.{infos}
use Rattle.pdb_c.proofs.answer_buffers.look_up_frames.Goals as goal

pub returns-in-Ok-clause-gains : goal.returns-in-Ok-clause-gains
returns-in-Ok-clause-gains c =
    let found = c.find_named_frames.ensures in
    gains_by_one infos c.args.context.now c.find_named_frames.new.self found.inputs found.broken
    c.in-Ok.ensures.answered

pub returns-in-Err-OutOfMemory-clause-state : goal.returns-in-Err-OutOfMemory-clause-state
returns-in-Err-OutOfMemory-clause-state c =
    let found = c.find_named_frames.ensures in (
      λ other. absurd (other refl),
      λ memory.
          gains_by_one infos c.args.context.now c.find_named_frames.new.self found.inputs found.broken
          (c.in-Err-OutOfMemory.ensures.unchanged c.in-Err-OutOfMemory.field-0-is),
    )
