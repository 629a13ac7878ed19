-- The repairs that a session returns for addresses, once it has read what the answers need.
use Rattle.std.proofs.Common.{◌≡◌, ◌≢◌, ◌∙◌, ℕ, ◌⊎◌, inl, inr, Bool, true, false, not, ◌&&◌}
use Rattle.std.proofs.Common.{List, [], ◌∷◌, ◌++◌, Option, Some, None, refl, sym, ap}
use Rattle.std.proofs.lemmas.Bool.Decides.{eqb_tells}
use Rattle.std.specs.Option.{option_map_or}
use Rattle.std.specs.Prelude.{◌==◌, if◌then◌else◌}
use Rattle.pdb_repairs.specs.declared.repairs.Repair.{Repair}
use Rattle.pdb_known.specs.Known.{Known, is_read}
use Rattle.pdb_known.specs.StrictlyClosed.{is_strictly_closed}
use Rattle.pdb_session.proofs.PartLemmas.{none_needed}
use Rattle.pdb_session.specs.CodeOwners.{lacks_owner, owner_at, owners_of}
use Rattle.pdb_session.specs.Session.{needs, needs_none}
use Rattle.pdb_session.specs.UntoldRepairs.{left_at, left_of, told_at, told_of}

-- both parts of a conjunction hold
both_true : (a b : Bool) → (a && b) ≡ true → (a ≡ true) × (b ≡ true)
both_true true true e = (refl, refl)
both_true true false e = absurd cc
both_true false b e = absurd cc

-- what is negated isn't true
not_true : (a : Bool) → not a ≡ true → a ≡ false
not_true true e = absurd cc
not_true false e = refl

-- what isn't negated is true
not_false : (a : Bool) → not a ≡ false → a ≡ true
not_false true e = refl
not_false false e = absurd cc

-- if nothing is needed at an address, the module that owns the code there isn't lacking
nothing_lacking : (known : Known) (address : ℕ) → not (needs known address) ≡ true
    → lacks_owner known (owners_of known.records) address ≡ false
nothing_lacking known address enough =
    (none_needed (is_strictly_closed known) (lacks_owner known (owners_of known.records) address)
    (not_true (needs known address) enough)).1

-- two functions have the same repairs for each module that was read
abbrev pub AgreeWhereRead : Known → (ℕ → List Repair) → (ℕ → List Repair) → Type 0
AgreeWhereRead known f g = (position : ℕ) → is_read known position ≡ true → f position ≡ g position

told_of_read : (known : Known) (f g : ℕ → List Repair) → AgreeWhereRead known f g → (owner : Option ℕ)
    → option_map_or (λ module_index. not (is_read known module_index)) owner false ≡ false
    → told_of f owner ≡ told_of g owner
told_of_read known f g agree None has = refl
told_of_read known f g agree (Some owner) has = agree owner (not_false (is_read known owner) has)

left_of_read : (known : Known) (f g : ℕ → List Repair) → AgreeWhereRead known f g → (owner : Option ℕ)
    → AgreeWhereRead known (left_of f owner) (left_of g owner)
left_of_read known f g agree None = agree
left_of_read known f g agree (Some owner) =
    λ position read. ap (λ repairs. if owner == position then [] else repairs) (agree position read)

-- at addresses that need nothing more, the repairs of modules that were read are returned
pub told_where_read : (known : Known) (f g : ℕ → List Repair) → AgreeWhereRead known f g → (addresses : List ℕ)
    → needs_none known addresses ≡ true
    → told_at (owners_of known.records) f addresses ≡ told_at (owners_of known.records) g addresses
told_where_read known f g agree [] enough = refl
told_where_read known f g agree (address ∷ addresses) enough =
    let owner : Option ℕ = owner_at (owners_of known.records) address in
    let (here, rest) = both_true (not (needs known address)) (needs_none known addresses) enough in
    ap (λ first. first ++ told_at (owners_of known.records) (left_of f owner) addresses)
    (told_of_read known f g agree owner (nothing_lacking known address here))
    ∙ ap (λ last. told_of g owner ++ last)
    (told_where_read known (left_of f owner) (left_of g owner) (left_of_read known f g agree owner) addresses rest)

-- and what is left of the modules that were read is the same
pub left_where_read : (known : Known) (f g : ℕ → List Repair) → AgreeWhereRead known f g → (addresses : List ℕ)
    → AgreeWhereRead known (left_at (owners_of known.records) f addresses)
    (left_at (owners_of known.records) g addresses)
left_where_read known f g agree [] = agree
left_where_read known f g agree (address ∷ addresses) =
    let owner : Option ℕ = owner_at (owners_of known.records) address in
    left_where_read known (left_of f owner) (left_of g owner) (left_of_read known f g agree owner) addresses

-- a module that owns the code at an address isn't one that wasn't read
left_of_unread : (known : Known) (f : ℕ → List Repair) (position : ℕ) → is_read known position ≡ false
    → (owner : Option ℕ)
    → option_map_or (λ module_index. not (is_read known module_index)) owner false ≡ false
    → left_of f owner position ≡ f position
left_of_unread known f position unread None has = refl
left_of_unread known f position unread (Some owner) has = by_test (eqb_tells owner position) where
  by_test : (((owner == position) ≡ true) × (owner ≡ position)) ⊎ (((owner == position) ≡ false) × (owner ≢ position))
      → left_of f (Some owner) position ≡ f position
  by_test (inl (test, same)) =
      let no : true ≡ false = sym (not_false (is_read known owner) has) ∙ ap (is_read known) same ∙ unread in
      absurd cc
  by_test (inr (test, differ)) = ap (λ is_owner. if is_owner then [] else f position) test

-- of a module that wasn't read, everything is left after that
pub left_where_unread : (known : Known) (f : ℕ → List Repair) (position : ℕ) → is_read known position ≡ false
    → (addresses : List ℕ) → needs_none known addresses ≡ true
    → left_at (owners_of known.records) f addresses position ≡ f position
left_where_unread known f position unread [] enough = refl
left_where_unread known f position unread (address ∷ addresses) enough =
    let owner : Option ℕ = owner_at (owners_of known.records) address in
    let (here, rest) = both_true (not (needs known address)) (needs_none known addresses) enough in
    left_where_unread known (left_of f owner) position unread addresses rest
    ∙ left_of_unread known f position unread owner (nothing_lacking known address here)
