-- A reader is shown the answer over the piece.
use Rattle.std.proofs.Common.{◌∙◌, map, rules}
use Rattle.pdb_breakpad.specs.ShownNames.{frame_text}
use Rattle.pdb_breakpad.specs.NumberedCode.{IsCode}
use Rattle.pdb_breakpad.proofs.FunctionRecordLemmas.{reads_found, recorded}
use Rattle.pdb_breakpad.proofs.OnOkLemmas.{both_on_ok}
use Rattle.pdb_breakpad.proofs.function_records.FunctionRecords.add.Goals as goal
use Rattle.pdb_breakpad.proofs.function_records.FunctionRecords.add.Goals.{then-not-goes_on+in_ok-self-inside, else-not-goes_on}

pub returns-clause-answer : goal.returns-clause-answer
returns-clause-answer c =
    let known : IsCode c.if-not-goes_on.numbers c.if-not-goes_on.self-inside.0.1.0 (map frame_text c.args.found.frames)
    = elim c.if-not-goes_on.branch [
      | then-not-goes_on+in_ok-self-inside w ↦ search (rules, recorded)
      | else-not-goes_on w ↦ search (rules, recorded)
    ] in
    both_on_ok c.add_code.result c.add_code.ensures.calls c.add_code.ensures.place (λ calls place a from to.
    reads_found c.if-not-goes_on.numbers c.add_code.new.self a c.if-not-goes_on.self-inside.0.1.0 c.args.found
    (c.add_code.ensures.found ∙ c.found.view_is) c.add_code.ensures.code known (calls a from to) (place a from to))
