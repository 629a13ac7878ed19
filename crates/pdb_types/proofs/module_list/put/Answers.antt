use Rattle.std.proofs.Common.{string_bytes}
use Rattle.std.specs.Prelude.{Some}
use Rattle.std.proofs.lemmas.Map.Text.{btree_map_updates_text}
use Rattle.pdb_types.proofs.module_list.put.Goals as goal

pub returns : goal.returns
returns c = λ lower. btree_map_updates_text (string_bytes c.args.lower_name) c.args.positions.now c.insert.new.self
    (Some c.args.module_index) c.in_ok-insert.ensures.updates lower
