-- The line, part by part.
use Rattle.std.proofs.Common.{codes, string_bytes}
use Rattle.std.specs.Char.{encode_utf8}
use Rattle.pdb_breakpad.specs.FunctionTexts.{line_text, name_line}
use Rattle.pdb_breakpad.proofs.ModuleRecordLemmas.{module_joined}
use Rattle.pdb_breakpad.proofs.OnOkLemmas.{on_ok}
use Rattle.pdb_breakpad.proofs.module_record.push_module.Goals as goal

pub returns : goal.returns
unfolding name_line encode_utf8
returns c =
    on_ok c.push_name.result c.push_name.ensures
    (module_joined (string_bytes c.args.text.now) (string_bytes c.push_str.new.self)
    (string_bytes c.push_line_text.new.text) (string_bytes c.push.new.self) (string_bytes c.push_line_text-2.new.text)
    (string_bytes c.push-2.new.self) (string_bytes c.push_name.new.text) (codes "MODULE windows ")
    (line_text c.args.machine.now) (codes " ") (line_text c.args.debug_id.now) (line_text c.args.name.now) (codes "\n")
    c.in_ok-push_str.ensures.bytes c.in_ok-push_line_text.ensures c.in_ok-push.ensures.bytes
    c.in_ok-push_line_text-2.ensures c.in_ok-push-2.ensures.bytes)
