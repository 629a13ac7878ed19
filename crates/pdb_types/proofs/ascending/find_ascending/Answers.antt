use Rattle.std.proofs.Common.{rules, sym}
use Rattle.std.proofs.lemmas.List.Sorted.{answers_always}
use Rattle.pdb_types.proofs.AscendingLemmas.{first_searched, first_missing}
use Rattle.pdb_types.proofs.ascending.find_ascending.Goals as goal

pub returns-in-Ok : goal.returns-in-Ok
returns-in-Ok g c =
    let number_of = g.T.Numbered.number_of in
    let found = c.in-Ok.ensures.position number_of (answers_always _ _ _ (λ f a r g called. search rules)) in
    sym (first_searched number_of _ _ _ _ c.requires c.in-Ok.ensures.bound c.index-entries-position.is found)

pub returns-in-Err : goal.returns-in-Err
returns-in-Err g c =
    let number_of = g.T.Numbered.number_of in
    let parted = c.in-Err.ensures.position number_of (answers_always _ _ _ (λ f a r g called. search rules)) in
    sym (first_missing number_of _ _ _ c.requires parted)
