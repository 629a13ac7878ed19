-- The place of a stream's numbers, by the sizes of all streams.
use Rattle.std.proofs.Common.{◌∙◌, slice_get, sym, ap}
use Rattle.pdb_msf.specs.Msf.{numbers_place}
use Rattle.pdb_msf.specs.MsfLayout.{with_bytes}
use Rattle.pdb_msf.proofs.ExtentLemmas.{own_extent_at}
use Rattle.pdb_msf.proofs.msf_layout.MsfLayout.extent.Goals as goal

pub returns-clause-place : goal.returns-clause-place
unfolding numbers_place
returns-clause-place c = λ file.
    own_extent_at _ _ _ _ c.self.invariant.listed
    (ap (λ streams. slice_get streams c.args.number) (sym c.deref.ensures.value)
    ∙ sym c.extent_at.ensures ∙ c.in_ok-extent.was)
    ∙ ap (λ map. numbers_place (with_bytes file map) c.args.number) c.self.view_is
