-- Frames that are answered are those of a plain scan, refused ones are none, and an address whose module was not read is
-- one for which something is still to be read.
use Rattle.pdb_symbolizer_lib.proofs.RefusalLemmas.{answered_are_scanned, refused_are_none, was_read}
use Rattle.pdb_symbolizer_lib.proofs.frame_answers.readable_frames.Goals as goal

pub returns-in-Ok-clause-found : goal.returns-in-Ok-clause-found
returns-in-Ok-clause-found g c = λ enough whole inputs is_part made.
    answered_are_scanned c.args.context.now.state inputs c.args.address c.in-Ok.found
    (c.in-Ok.ensures.answer enough whole inputs is_part made)

pub returns-in_ok-error-in-Err-Records-clause-found : goal.returns-in_ok-error-in-Err-Records-clause-found
returns-in_ok-error-in-Err-Records-clause-found g c = λ enough whole inputs is_part made.
    refused_are_none c.in-Err-Records.field-0 c.in-Err-Records.error c.args.context.now.state inputs c.args.address
    c.in-Err-Records.field-0-is c.in_ok-error-in-Err-Records.ensures.1
    (c.in-Err-Records.ensures.answer enough whole inputs is_part made)

pub returns-in-Err-NotRead-clause-found : goal.returns-in-Err-NotRead-clause-found
returns-in-Err-NotRead-clause-found g c = λ enough whole inputs is_part made.
    absurd (was_read c.in-Err-NotRead.field-0 c.args.context.now.state inputs c.args.address
    c.in-Err-NotRead.field-0-is (c.in-Err-NotRead.ensures.answer enough whole inputs is_part made))
