use Rattle.std.proofs.Common.{arith, sym}
use Rattle.pdb_type_texts.specs.PrintInputs.{formatter_inputs}
use Rattle.pdb_type_texts.proofs.UnfoldingLemmas.{formatter-below}
use Rattle.pdb_type_printer.proofs.GoesLemmas.{goes_then, goes_fewer}
use Rattle.pdb_type_printer.proofs.LaterLemmas.{later-then}
use Rattle.pdb_type_printer.proofs.LoopLemmas.{left-falls, ended-goes, printed-goes}
use Rattle.pdb_type_printer.proofs.type_formatter.TypeFormatter.print.Goals as goal

pub turns-smaller-in-Ended : goal.turns-smaller-in-Ended
turns-smaller-in-Ended g c =
    let s = c.args.self.now.type_inputs in
    let module_index = c.args.module_index in
    let w = formatter_inputs g.P.ModuleProvider.info s module_index in
    let flags = rw c.turns.invariant.later.type_inputs at c.flags.ensures in
    let taken = rw c.in-Ended.is at c.in_ok-next.ensures in
    let goes = ended-goes w c.flags.result c.turns.progress c.next.new.self c.turns.self.failed (sym flags) taken in
    left-falls w (formatter-below g.P.ModuleProvider.info s module_index) _ _ _ _ goes

pub turns-preserved-in-Ended : goal.turns-preserved-in-Ended
turns-preserved-in-Ended g c =
    let w = formatter_inputs g.P.ModuleProvider.info c.args.self.now.type_inputs c.args.module_index in
    let flags = rw c.turns.invariant.later.type_inputs at c.flags.ensures in
    let taken = rw c.in-Ended.is at c.in_ok-next.ensures in
    let goes = ended-goes w c.flags.result c.turns.progress c.next.new.self c.turns.self.failed (sym flags) taken in
    record {
      later = c.turns.invariant.later;
      goes = goes_fewer 0 (omega arith) (goes_then c.turns.invariant.goes goes);
    }

pub turns-smaller : goal.turns-smaller
turns-smaller g c =
    let s = c.args.self.now.type_inputs in
    let module_index = c.args.module_index in
    let w = formatter_inputs g.P.ModuleProvider.info s module_index in
    let taken = rw c.in-Print.is at c.in_ok-next.ensures in
    let advances = rw c.turns.invariant.later.type_inputs at c.in_ok-turn-in-Print.ensures.advances in
    let goes = printed-goes w c.in-Print.task c.turns.progress c.next.new.self c.turn.new.progress
    c.turns.self.failed _ taken.0 advances in
    left-falls w (formatter-below g.P.ModuleProvider.info s module_index) _ _ _ _ goes

pub turns-preserved : goal.turns-preserved
turns-preserved g c =
    let w = formatter_inputs g.P.ModuleProvider.info c.args.self.now.type_inputs c.args.module_index in
    let taken = rw c.in-Print.is at c.in_ok-next.ensures in
    let advances = rw c.turns.invariant.later.type_inputs at c.in_ok-turn-in-Print.ensures.advances in
    let goes = printed-goes w c.in-Print.task c.turns.progress c.next.new.self c.turn.new.progress
    c.turns.self.failed _ taken.0 advances in
    record {
      later = later-then c.turns.invariant.later c.in_ok-turn-in-Print.ensures.monotone;
      goes = goes_fewer 0 (omega arith) (goes_then c.turns.invariant.goes goes);
    }

pub returns-in_err-turn-in-Print-clause-monotone : goal.returns-in_err-turn-in-Print-clause-monotone
returns-in_err-turn-in-Print-clause-monotone g c =
    later-then c.turns.invariant.later c.in_err-turn-in-Print.ensures.monotone
