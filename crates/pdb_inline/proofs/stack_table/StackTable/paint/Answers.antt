use Rattle.std.proofs.Common.{◌∙◌}
use Rattle.std.proofs.lemmas.Result.{on_ok_weaker}
use Rattle.pdb_inline.specs.DepthTables.{positions_in}
use Rattle.pdb_inline.proofs.StackTableLemmas.{painted_stack}
use Rattle.pdb_inline.proofs.stack_table.StackTable.paint.Goals as goal

pub returns-clause-state : goal.returns-clause-state
returns-clause-state c = on_ok_weaker c.paint.result (λ painted. λ x. rw (← c.self.view_is)
    (painted_stack c.self.inside.positions.items
    (positions_in c.args.tables.now c.args.lo) c.push_positions.new.positions.items
    c.self.inside.segments c.paint.new.self c.args.lo c.args.hi c.len-from.result c.len.result x
    c.in_ok-push_positions.ensures.state
    (c.len-from.ensures ∙ c.self.inside.positions.ok.0) (c.len.ensures ∙ c.push_positions.new.positions.ok.0)
    (c.self.invariant x) (painted x))) c.paint.ensures.state
