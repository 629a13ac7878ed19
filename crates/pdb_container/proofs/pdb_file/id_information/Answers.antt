-- The ids of a stream in memory that has bytes.
use Rattle.std.proofs.Common.{◌≡◌, ◌∙◌, Err, rules}
use Rattle.pdb_container.proofs.RecordLemmas.{ids_read}
use Rattle.pdb_container.specs.TypeRecords.{id_information}
use Rattle.pdb_container.proofs.pdb_file.id_information.Goals as goal

pub returns-in_err-branch-in-Ok-2 : goal.returns-in_err-branch-in-Ok-2
returns-in_err-branch-in-Ok-2 c =
    let all : id_information c.args.container.now ≡ Err c.in_err-branch-in-Ok-2.field-0.0
    = ids_read c.args.container.now c.file.result.now c.in-Ok.blocks c.len.result c.in_ok-from_memory-in-Ok-2.field-0
    (search rules) c.file.ensures (search rules) (search rules) c.len.ensures.said c.if-len-eq0.false
    (rw c.in_ok-from_memory-in-Ok-2.ensures.answer at c.read_items.ensures.answer) ∙ c.in_err-branch-in-Ok-2.was in
    search rules

pub returns-in_ok-branch-in-Ok-2 : goal.returns-in_ok-branch-in-Ok-2
returns-in_ok-branch-in-Ok-2 c =
    ids_read c.args.container.now c.file.result.now c.in-Ok.blocks c.len.result c.in_ok-from_memory-in-Ok-2.field-0
    (search rules) c.file.ensures (search rules) (search rules) c.len.ensures.said c.if-len-eq0.false
    (rw c.in_ok-from_memory-in-Ok-2.ensures.answer at c.read_items.ensures.answer) ∙ c.in_ok-branch-in-Ok-2.was
