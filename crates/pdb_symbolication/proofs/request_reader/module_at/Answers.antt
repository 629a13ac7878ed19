-- A negative index other than -1 stands for no module.
use Rattle.pdb_symbolication.proofs.RequestLemmas.{no_module}
use Rattle.pdb_symbolication.proofs.request_reader.module_at.Goals as goal

pub returns-in_default : goal.returns-in_default
returns-in_default c =
    no_module c.args.modules c.args.index c.ranges.index c.in_default.ensures c.if-index-eq-UNKNOWN.false
