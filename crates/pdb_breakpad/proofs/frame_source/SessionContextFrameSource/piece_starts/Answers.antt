-- The change points of all records begin the pieces.
use Rattle.std.proofs.Common.{◌≡◌, subst, sym}
use Rattle.std.specs.Prelude.{Ok}
use Rattle.pdb_addr2line.specs.ContextData.{context_of}
use Rattle.pdb_breakpad.proofs.SessionLemmas.{pieces_of_session}
use Rattle.pdb_breakpad.proofs.frame_source.SessionContextFrameSource.piece_starts.Goals as goal

pub returns-in_ok-change_points-in-Some-clause-pieces : goal.returns-in_ok-change_points-in-Some-clause-pieces
returns-in_ok-change_points-in-Some-clause-pieces c =
    let context = c.args.self.now in
    pieces_of_session context c.in_ok-change_points-in-Some.field-0.items c.in-Some.ensures.all
    (λ inputs made. c.in_ok-change_points-in-Some.ensures.answer context.flags inputs
    (subst (λ records. context_of context.flags records ≡ Ok inputs) (sym c.in-Some.ensures.records) made))
    c.in_ok-change_points-in-Some.ensures.order
