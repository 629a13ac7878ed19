use Rattle.std.proofs.Common.{sym}
use Rattle.pdb_type_texts.proofs.SeenLemmas.{has-added, base-added}
use Rattle.pdb_type_texts.proofs.seen.put.Goals as goal

pub returns-in-Ok-clause-state : goal.returns-in-Ok-clause-state
returns-in-Ok-clause-state c = has-added c.args.set.now c.insert.new.self c.args.index c.in-Ok.ensures.updates

pub returns-in-Ok-clause-base_unchanged : goal.returns-in-Ok-clause-base_unchanged
returns-in-Ok-clause-base_unchanged c =
    base-added c.args.set.now c.insert.new.self c.args.inserted.now.items c.push.new.self.items
    c.args.index c.in_ok-push.ensures.items (sym c.if-contains.ensures) c.in-Ok.ensures.updates
