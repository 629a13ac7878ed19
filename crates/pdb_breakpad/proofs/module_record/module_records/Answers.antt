-- The lines, one after the other, with the texts that were made for them.
use Rattle.std.proofs.Common.{◌∙◌, ◌++◌, ap, codes, string_bytes}
use Rattle.pdb_breakpad.specs.ModuleRecord.{module_line, program_lines, with_breaks}
use Rattle.pdb_breakpad.proofs.ModuleRecordLemmas.{lines_joined}
use Rattle.pdb_breakpad.proofs.module_record.module_records.Goals as goal

pub returns : goal.returns
returns c =
    let identity = c.args.identity.now in
    let machine = string_bytes c.in_ok-machine.machine in
    let debug_id = string_bytes c.in_ok-debug_id.debug_id in
    let code_id = string_bytes c.in_ok-code_id.code_id in
    record {
      texts = record { machine = machine; debug_id = debug_id; code_id = code_id };
      machine = c.in_ok-machine.ensures;
      lines = lines_joined (string_bytes c.new-text.result) (string_bytes c.push_module.new.text)
          (string_bytes c.push_program.new.text) (module_line machine debug_id identity.pdb_name.now) (codes "\n")
          (with_breaks (program_lines code_id identity.program)) c.new-text.ensures.bytes
          (c.in_ok-push_module.ensures
          ∙ ap (λ text. string_bytes c.new-text.result
          ++ (module_line text c.deref-2.result.now identity.pdb_name.now ++ codes "\n")) c.deref.ensures
          ∙ ap (λ text. string_bytes c.new-text.result
          ++ (module_line machine text identity.pdb_name.now ++ codes "\n")) c.deref-2.ensures)
          (c.in_ok-push_program.ensures
          ∙ ap (λ text. string_bytes c.push_module.new.text ++ with_breaks (program_lines text identity.program))
          c.deref-3.ensures);
    }
