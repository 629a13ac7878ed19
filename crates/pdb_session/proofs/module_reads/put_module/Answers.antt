-- One module more is known, and its repairs are kept.
use Rattle.pdb_session.proofs.ReadLemmas.{put_one}
use Rattle.pdb_session.proofs.UntoldLemmas.{put_untold, unmarked}
use Rattle.pdb_session.proofs.module_reads.put_module.Goals as goal

pub returns-then-not-marks-position-clause-modules : goal.returns-then-not-marks-position-clause-modules
returns-then-not-marks-position-clause-modules c = λ whole is are.
    put_one whole c.args.modules.now c.args.marks.now c.args.read is c.if-position-modules.true are

pub returns-then-not-marks-position-clause-untold : goal.returns-then-not-marks-position-clause-untold
returns-then-not-marks-position-clause-untold c = λ whole is.
    put_untold whole c.args.marks.now c.args.kept.now c.args.read.position c.args.read.repairs is
    c.if-position-marks.true c.if-position-kept.true
    (unmarked c.args.marks.now c.args.read.position c.if-position-marks.true c.if-not-marks-position.true)
