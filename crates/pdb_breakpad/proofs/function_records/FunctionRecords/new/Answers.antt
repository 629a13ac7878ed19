-- A reader is shown the answer over the one piece.
use Rattle.std.proofs.Common.{◌∙◌, ap, map, subst}
use Rattle.pdb_breakpad.specs.ShownNames.{frame_text}
use Rattle.pdb_breakpad.specs.NumberedCode.{IsCode}
use Rattle.pdb_breakpad.proofs.FunctionRecordLemmas.{reads_found}
use Rattle.pdb_breakpad.proofs.function_records.FunctionRecords.new.Goals as goal

pub returns-clause-answer : goal.returns-clause-answer
returns-clause-answer c = λ a from to.
    reads_found c.number_code.new.numbers c.add_code.new.self a c.in_ok-code.code c.args.found
    c.in_ok-add_code.ensures.found c.in_ok-add_code.ensures.code
    (subst (λ frames. IsCode c.number_code.new.numbers c.in_ok-code.code (map frame_text frames))
    (c.deref.ensures.value ∙ ap (λ found. found.frames) c.found.view_is) c.in_ok-code.ensures.answer)
    (c.in_ok-add_code.ensures.calls a from to)
    (c.in_ok-add_code.ensures.place a from to)
