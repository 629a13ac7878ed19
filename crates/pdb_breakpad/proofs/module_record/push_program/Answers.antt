-- The line, part by part.
use Rattle.std.proofs.Common.{◌≡◌, ◌++◌, codes, string_bytes, subst, sym}
use Rattle.std.specs.Prelude.{OnOk}
use Rattle.std.specs.Char.{encode_utf8}
use Rattle.pdb_breakpad.specs.FunctionTexts.{line_text, name_line}
use Rattle.pdb_breakpad.specs.ModuleRecord.{program_lines, with_breaks}
use Rattle.pdb_breakpad.proofs.ModuleRecordLemmas.{program_joined}
use Rattle.pdb_breakpad.proofs.OnOkLemmas.{on_ok}
use Rattle.pdb_breakpad.proofs.module_record.push_program.Goals as goal

pub returns : goal.returns
unfolding name_line encode_utf8
returns c =
    let old = string_bytes c.args.text.now in
    let new = string_bytes c.push_name.new.text in
    subst (λ program. OnOk c.push_name.result (new ≡ old ++ with_breaks (program_lines c.args.code_id.now program)))
    (sym c.in-Some.is)
    (on_ok c.push_name.result c.push_name.ensures
    (program_joined old (string_bytes c.push_str.new.self) (string_bytes c.push_line_text.new.text)
    (string_bytes c.push.new.self) new (codes "INFO CODE_ID ") (line_text c.args.code_id.now) (codes " ")
    (line_text c.in-Some.program.name.now) (codes "\n") c.in_ok-push_str.ensures.bytes
    c.in_ok-push_line_text.ensures c.in_ok-push.ensures.bytes))
