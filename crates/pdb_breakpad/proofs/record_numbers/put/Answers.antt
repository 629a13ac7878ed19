-- The number under each name.
use Rattle.std.proofs.Common.{string_bytes}
use Rattle.std.specs.Prelude.{Some}
use Rattle.std.proofs.lemmas.Map.Text.{btree_map_updates_text}
use Rattle.pdb_breakpad.proofs.record_numbers.put.Goals as goal

pub returns-clause-state : goal.returns-clause-state
returns-clause-state c = λ asked. btree_map_updates_text (string_bytes c.args.name) c.args.numbers.now
    c.insert.new.self (Some c.args.number) c.in_ok-insert.ensures.updates asked
