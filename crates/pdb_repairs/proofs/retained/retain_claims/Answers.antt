-- Where no claims overlap all contributions are kept, and nothing is told.
use Rattle.std.proofs.Common.{◌≡◌, ◌∙◌, ◌++◌, false, ap, sym, append-nil}
use Rattle.pdb_records.specs.declared.debug_information.DebugInformation.{DebugInformation}
use Rattle.pdb_repairs.specs.Claims.{claims_of}
use Rattle.pdb_repairs.specs.Overlaps.{may_lose}
use Rattle.pdb_repairs.proofs.RetainedLemmas.{nothing_changes, nothing_is_told}
use Rattle.pdb_repairs.proofs.retained.retain_claims.Goals as goal

pub returns-then-not-branch-clause-state : goal.returns-then-not-branch-clause-state
returns-then-not-branch-clause-state c =
    let sections = c.args.sections.now in
    let items = c.args.debug.now.section_contributions.items in
    let listed : c.as_slice-contributions.result.now ≡ items =
    c.as_slice-contributions.ensures.value
    ∙ ap (λ (d : DebugInformation). d.section_contributions.items) c.debug.view_is in
    let claimed : c.deref.result.now ≡ claims_of sections items =
    c.deref.ensures.value ∙ c.in_ok-claims.ensures ∙ ap (claims_of sections) listed in
    let none : may_lose sections items (claims_of sections items) ≡ false =
    sym (ap (λ cs. may_lose sections items cs) claimed)
    ∙ sym (ap (λ cs. may_lose sections cs c.deref.result.now) listed)
    ∙ sym c.in_ok-may_lose.ensures ∙ c.if-not-branch.true in
    nothing_changes sections c.args.debug.now none

pub returns-then-not-branch-clause-told : goal.returns-then-not-branch-clause-told
returns-then-not-branch-clause-told c =
    let sections = c.args.sections.now in
    let items = c.args.debug.now.section_contributions.items in
    let old = c.args.repairs.now.items in
    let listed : c.as_slice-contributions.result.now ≡ items =
    c.as_slice-contributions.ensures.value
    ∙ ap (λ (d : DebugInformation). d.section_contributions.items) c.debug.view_is in
    let claimed : c.deref.result.now ≡ claims_of sections items =
    c.deref.ensures.value ∙ c.in_ok-claims.ensures ∙ ap (claims_of sections) listed in
    let none : may_lose sections items (claims_of sections items) ≡ false =
    sym (ap (λ cs. may_lose sections items cs) claimed)
    ∙ sym (ap (λ cs. may_lose sections cs c.deref.result.now) listed)
    ∙ sym c.in_ok-may_lose.ensures ∙ c.if-not-branch.true in
    sym (ap (λ told. old ++ told) (nothing_is_told sections c.args.debug.now none) ∙ append-nil old)
