-- The repairs that a session returns in two calls.
use Rattle.std.proofs.Common.{◌≡◌, ◌∙◌, ℕ, List, [], ◌∷◌, ◌++◌, Option, append_assoc, refl, sym, ap}
use Rattle.pdb_container.specs.Front.{SameFront}
use Rattle.pdb_container.specs.ModulePlaces.{ModuleOrFault}
use Rattle.pdb_repairs.specs.declared.repairs.Repair.{Repair}
use Rattle.pdb_session.proofs.SessionLemmas.{owners_same}
use Rattle.pdb_session.proofs.UntoldLemmas.{left_at_same, told_at_same}
use Rattle.pdb_session.specs.CodeOwners.{Owners, owner_at, owners_of}
use Rattle.pdb_session.specs.Session.{SessionFile}
use Rattle.pdb_session.specs.UntoldRepairs.{TellsAt, left_at, left_of, told_at, told_of, untold_of}

-- the repairs at two lists of addresses are those at the first, and then those that are left at the second
told_at_both : (owners : Owners) (untold : ℕ → List Repair) (addresses more : List ℕ)
    → told_at owners untold (addresses ++ more)
    ≡ told_at owners untold addresses ++ told_at owners (left_at owners untold addresses) more
told_at_both owners untold [] more = told_at_same owners untold (left_at owners untold []) (λ position. refl) more
told_at_both owners untold (address ∷ addresses) more =
    let owner : Option ℕ = owner_at owners address in
    ap (λ rest. told_of untold owner ++ rest) (told_at_both owners (left_of untold owner) addresses more)
    ∙ sym (append_assoc (told_of untold owner) (told_at owners (left_of untold owner) addresses)
    (told_at owners (left_at owners (left_of untold owner) addresses) more))
    ∙ ap (λ last. (told_of untold owner ++ told_at owners (left_of untold owner) addresses) ++ last)
    (told_at_same owners (left_at owners (left_of untold owner) addresses)
    (left_at owners untold (address ∷ addresses)) (λ position. refl) more)

-- what is left after both lists is what is left after the second of what the first leaves
left_at_both : (owners : Owners) (untold : ℕ → List Repair) (addresses more : List ℕ) (position : ℕ)
    → left_at owners untold (addresses ++ more) position
    ≡ left_at owners (left_at owners untold addresses) more position
left_at_both owners untold [] more position =
    left_at_same owners untold (left_at owners untold []) (λ position. refl) more position
left_at_both owners untold (address ∷ addresses) more position =
    let owner : Option ℕ = owner_at owners address in
    left_at_both owners (left_of untold owner) addresses more position
    ∙ left_at_same owners (left_at owners (left_of untold owner) addresses)
    (left_at owners untold (address ∷ addresses)) (λ position. refl) more position

-- two calls in turn return what one call for all their addresses returns
pub told_in_turn : (first second third : SessionFile) (modules : List ModuleOrFault) (addresses more : List ℕ)
    (repairs others : List Repair) → SameFront first.known.records second.known.records
    → TellsAt first second addresses repairs modules → TellsAt second third more others modules
    → TellsAt first third (addresses ++ more) (repairs ++ others) modules
told_in_turn first second third modules addresses more repairs others front before after =
    let owners : Owners = owners_of first.known.records in
    let untold : ℕ → List Repair = untold_of modules first in
    let same = owners_same first.known.records second.known.records front in
    record {
      told = ap (λ returned. returned ++ others) before.told
          ∙ ap (λ returned. told_at owners untold addresses ++ returned)
          (after.told
          ∙ ap (λ o. told_at o (untold_of modules second) more) same
          ∙ told_at_same owners (untold_of modules second) (left_at owners untold addresses) before.left more)
          ∙ sym (told_at_both owners untold addresses more);
      left = λ position. after.left position
          ∙ ap (λ o. left_at o (untold_of modules second) more position) same
          ∙ left_at_same owners (untold_of modules second) (left_at owners untold addresses) before.left more position
          ∙ sym (left_at_both owners untold addresses more position);
    }
