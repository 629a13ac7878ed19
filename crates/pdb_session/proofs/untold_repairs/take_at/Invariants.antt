-- The repairs so far, with those at the addresses that are left, are those at all addresses.
use Rattle.std.proofs.Common.{◌≡◌, ℕ, ◌++◌, drop}
use Rattle.pdb_session.specs.UntoldRepairs.{kept_at, left_at, told_at}
use Rattle.pdb_session.proofs.untold_repairs.take_at.Given as goal

abbrev pub invariant-loop-address : goal.invariant-loop-address
invariant-loop-address l = record {
  told : l.told.items ++ told_at l.owners (kept_at l.kept) (drop l.address-index l.addresses)
      ≡ told_at l.owners (kept_at l.fn.kept) l.addresses;
  left : (position : ℕ) → left_at l.owners (kept_at l.kept) (drop l.address-index l.addresses) position
      ≡ left_at l.owners (kept_at l.fn.kept) l.addresses position;
}
