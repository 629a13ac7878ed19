use Rattle.std.proofs.Common.{◌∙◌, sym, ap}
use Rattle.pdb_types.specs.ItemMap.{index_number}
use Rattle.pdb_types.proofs.AscendingLemmas.{first_take}
use Rattle.pdb_types.proofs.CachedLemmas.{has_read, first_behind}
use Rattle.pdb_types.proofs.item_map.ItemMap.find.Goals as goal

pub invariant_of-self : goal.invariant_of-self
invariant_of-self g c =
    let same = c.as_slice-items.ensures.value ∙ ap (λ read. read.items) c.list.view_is in
    let said = c.find_in_beginning.ensures in
    let read =
    has_read (index_number g.I.ItemIndex.number_of) c.self.inside.information.now.items.items _ _ _ _
    said.unchanged c.self.invariant.2 c.self.invariant.3 in
    (rw same at said.within, rw same at said.ascends, read.within, read.knows)

pub returns-in-Some-clause-answer : goal.returns-in-Some-clause-answer
returns-in-Some-clause-answer g c =
    let same =
    c.as_slice-items.ensures.value
    ∙ (ap (λ read. read.items) c.list.view_is ∙ ap (λ read. read.items) c.self.view_is) in
    rw (← same, ← c.number-number.ensures)
    (sym (first_take (index_number g.I.ItemIndex.number_of) _ _ _ _ (sym c.in-Some.ensures.answer)))

pub read_on-requires-clause-knows : goal.read_on-requires-clause-knows
read_on-requires-clause-knows g c =
    let same = c.as_slice-items.ensures.value ∙ ap (λ read. read.items) c.list.view_is in
    let said = c.find_in_beginning.ensures in
    let read =
    has_read (index_number g.I.ItemIndex.number_of) c.self.inside.information.now.items.items _ _ _ _
    said.unchanged c.self.invariant.2 c.self.invariant.3 in
    rw (c.split_at.ensures.back, same) read.knows

pub returns-clause-answer : goal.returns-clause-answer
returns-clause-answer g c =
    let same =
    c.as_slice-items.ensures.value
    ∙ (ap (λ read. read.items) c.list.view_is ∙ ap (λ read. read.items) c.self.view_is) in
    let behind = first_behind (index_number g.I.ItemIndex.number_of) _ _ _ c.in_default.ensures.answer in
    rw (← same, ← c.number-number.ensures, ← behind, ← c.split_at.ensures.back) c.read_on.ensures.answer
