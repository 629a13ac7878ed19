-- Records, owned or borrowed.
use Rattle.pdb_records.specs.Records.{Records}
use Rattle.pdb_addr2line.specs.declared.context_data.MaybeOwned.{MaybeOwned}
use Rattle.pdb_addr2line.specs.declared.context_data.MaybeOwned.TheVariants.{Owned, Lent}

-- the records themselves
abbrev pub records : MaybeOwned → Records
records (Owned r) = r
records (Lent r) = r.now
