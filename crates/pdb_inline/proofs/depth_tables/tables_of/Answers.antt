use Rattle.std.proofs.Common.{◌∙◌, sym, map, arith}
use Rattle.std.proofs.Math.ListN.{drop_of_length-le}
use Rattle.std.proofs.lemmas.List.{append-nil}
use Rattle.pdb_tables.specs.Segments.{value_at}
use Rattle.pdb_inline.proofs.depth_tables.tables_of.Goals as goal

pub returns : goal.returns
returns c = λ x.
    let done = drop_of_length-le c.args.lists.now {i = c.loop-segments.segments-index} (omega arith) in
    sym (append-nil (map (λ table. value_at table x) c.loop-segments.tables.items))
    ∙ rw done at (c.loop-segments.invariant x)
