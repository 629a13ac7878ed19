use Rattle.std.proofs.Common.{◌≡◌, drop}
use Rattle.std.specs.Prelude.{fold}
use Rattle.std.specs.BTreeSet.{insert_key}
use Rattle.pdb_frames.specs.ExtendedInfo.{id_cmp, inlinee_ids}
use Rattle.pdb_frames.proofs.extended_info.inlinee_ids.Given as goal

-- the ids so far, with those that are left put to them, are all ids
abbrev pub invariant-loop-inlinee : goal.invariant-loop-inlinee
invariant-loop-inlinee l =
    fold (λ ids inlinee. insert_key id_cmp ids inlinee.index) l.ids.keys (drop l.inlinee-index l.inlinees)
    ≡ inlinee_ids l.inlinees
