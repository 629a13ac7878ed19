-- The lists that were written back are those that were put.
use Rattle.std.proofs.Common.{◌∙◌, rules}
use Rattle.pdb_session.proofs.ItemsReadLemmas.{written_back}
use Rattle.pdb_session.proofs.ReadLemmas.{same_modules}
use Rattle.pdb_session.proofs.module_reader.put_read_modules.Goals as goal

pub returns-clause-same : goal.returns-clause-same
returns-clause-same c = λ whole all are.
    let marks = written_back _ c.deref_mut-2.result.now c.put_modules.new.marks c.known-inside.inside.0.1.1.0.len
    c.deref_mut-2.ensures.len c.deref_mut-2.ensures.value c.put_modules.auto.marks in
    let modules = written_back _ c.deref_mut.result.now c.put_modules.new.modules _
    c.deref_mut.ensures.len c.deref_mut.ensures.value c.put_modules.auto.modules in
    same_modules whole _ _ _ _ marks modules (c.put_modules.ensures.modules whole all
    (same_modules whole c.args.known.now.modules _ c.args.known.now.records.module_infos _
    (c.deref_mut-2.ensures.value ∙ search rules) (c.deref_mut.ensures.value ∙ search rules) are))
