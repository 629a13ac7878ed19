-- The repairs of modules that are left to be returned.
use Rattle.std.proofs.Common.{◌≡◌, ◌≢◌, ◌∙◌, ℕ, zero, suc, ◌+◌, ◌<◌, ◌≤◌, ◌⊎◌, inl, inr, Bool, true, false}
use Rattle.std.proofs.Common.{List, [], ◌∷◌, ◌++◌, map, set, get_or, length, length-set, Option, Some, None}
use Rattle.std.proofs.Common.{refl, sym, ap, subst, arith}
use Rattle.std.proofs.lemmas.Bool.{cases_eq}
use Rattle.std.proofs.lemmas.Bool.Decides.{eqb_tells}
use Rattle.std.proofs.lemmas.List.{get_or-set_same, length-map}
use Rattle.std.proofs.lemmas.Option.{slice_get-get_or, slice_get-map, slice_get_past}
use Rattle.std.specs.Global.{Vec}
use Rattle.std.specs.Option.{option_map_or}
use Rattle.std.specs.Prelude.{◌==◌, if◌then◌else◌, option_map, slice_get, slice_set, unwrap_or}
use Rattle.pdb_container.specs.ModulePlaces.{ModuleOrFault}
use Rattle.pdb_repairs.specs.Repaired.{repairs_of_read}
use Rattle.pdb_repairs.specs.declared.repairs.Repair.{Repair}
use Rattle.pdb_file_laws.proofs.ModuleLemmas.{set_elsewhere}
use Rattle.pdb_session.proofs.ReadLemmas.{nothing_behind, within_or_behind}
use Rattle.pdb_session.specs.CodeOwners.{Owners, owner_at}
use Rattle.pdb_session.specs.FileParts.{module_in}
use Rattle.pdb_session.specs.UntoldRepairs.{LeaveUntold, kept_at, left_at, left_of, module_repairs, repairs_at, told_at}
use Rattle.pdb_session.specs.UntoldRepairs.{told_before, told_of, untold_from, untold_in}

-- a mark that was set is set
mark_there : (marks : List Bool) (position : ℕ) → position < length marks
    → unwrap_or (slice_get (slice_set marks position true) position) true ≡ true
mark_there marks position within =
    ap (λ (found : Option Bool). unwrap_or found true)
    (slice_get-get_or (set marks position true) position true
    (omega (arith, within, length-set marks position true)))
    ∙ get_or-set_same marks position true true within

-- a mark that isn't set is false
pub unmarked : (marks : List Bool) (position : ℕ) → position < length marks → get_or marks position false ≡ false
    → unwrap_or (slice_get marks position) true ≡ false
unmarked marks position within not_set =
    ap (λ (found : Option Bool). unwrap_or found true) (slice_get-get_or marks position false within) ∙ not_set

-- everything is marked where nothing has a mark
pub all_marked : (position : ℕ) → unwrap_or (slice_get [] position) true ≡ true
all_marked position = ap (λ (found : Option Bool). unwrap_or found true) (slice_get_past [] position (omega arith))

-- the repairs that were put at a position are kept there
pub kept_there : (kept : List (Vec Repair)) (position : ℕ) (repairs : Vec Repair) → position < length kept
    → kept_at (slice_set kept position repairs) position ≡ repairs.items
kept_there kept position repairs within =
    ap (λ (found : Option (Vec Repair)). option_map_or (λ (told : Vec Repair). told.items) found [])
    (slice_get-get_or (set kept position repairs) position repairs
    (omega (arith, within, length-set kept position repairs)))
    ∙ ap (λ (told : Vec Repair). told.items) (get_or-set_same kept position repairs repairs within)

-- at other positions the same repairs are kept
pub kept_elsewhere : (kept : List (Vec Repair)) (position other : ℕ) (repairs : Vec Repair) → position ≢ other
    → kept_at (slice_set kept position repairs) other ≡ kept_at kept other
kept_elsewhere kept position other repairs differ =
    ap (λ (found : Option (Vec Repair)). option_map_or (λ (told : Vec Repair). told.items) found [])
    (set_elsewhere kept position other repairs differ)

-- after the last module no repairs are kept
pub kept_past : (kept : List (Vec Repair)) (position : ℕ) → length kept ≤ position → kept_at kept position ≡ []
kept_past kept position past =
    ap (λ (found : Option (Vec Repair)). option_map_or (λ (told : Vec Repair). told.items) found [])
    (slice_get_past kept position past)

-- returning the repairs of a module leaves everything if it has none
pub nothing_left : (f : ℕ → List Repair) (position : ℕ) → f position ≡ [] → (other : ℕ)
    → f other ≡ left_of f (Some position) other
nothing_left f position nothing other = by_test (eqb_tells position other) where
  by_test : (((position == other) ≡ true) × (position ≡ other)) ⊎ (((position == other) ≡ false) × (position ≢ other))
      → f other ≡ left_of f (Some position) other
  by_test (inl (test, same)) = sym (ap f same) ∙ nothing ∙ sym (ap (λ is. if is then [] else f other) test)
  by_test (inr (test, differ)) = sym (ap (λ is. if is then [] else f other) test)

-- if a module is marked and its repairs are kept, the same repairs are left to be returned
pub put_untold : (whole : List ModuleOrFault) (marks : List Bool) (kept : List (Vec Repair)) (position : ℕ)
    (repairs : Vec Repair) → repairs.items ≡ module_repairs whole position → position < length marks
    → position < length kept → unwrap_or (slice_get marks position) true ≡ false
    → LeaveUntold whole marks kept (slice_set marks position true) (slice_set kept position repairs)
put_untold whole marks kept position repairs are within_marks within_kept unmarked =
    λ other. by_place other (cases_eq position other)
  where
    by_place : (other : ℕ) → (position ≡ other) ⊎ (position ≡ other → ⊥)
        → untold_in whole (slice_set marks position true) (slice_set kept position repairs) other
        ≡ untold_in whole marks kept other
    by_place other (inl same) =
        subst (λ at. untold_in whole (slice_set marks position true) (slice_set kept position repairs) at
        ≡ untold_in whole marks kept at) same
        (ap (λ mark. if mark then kept_at (slice_set kept position repairs) position else module_repairs whole position)
        (mark_there marks position within_marks)
        ∙ kept_there kept position repairs within_kept ∙ are
        ∙ ap (λ mark. if mark then kept_at kept position else module_repairs whole position) (sym unmarked))
    by_place other (inr differ) =
        ap (λ (found : Option Bool). if unwrap_or found true then kept_at (slice_set kept position repairs) other
        else module_repairs whole other) (set_elsewhere marks position other true differ)
        ∙ ap (λ repairs. if unwrap_or (slice_get marks other) true then repairs else module_repairs whole other)
        (kept_elsewhere kept position other repairs differ)

-- as many lists of repairs are left as there are modules
pub length_untold : (marks : List Bool) (kept : List (Vec Repair)) (start : ℕ) (modules : List ModuleOrFault)
    → length (untold_from marks kept start modules) ≡ length modules
length_untold marks kept start [] = refl
length_untold marks kept start (read ∷ reads) = ap suc (length_untold marks kept (start + 1) reads)

-- what is left of a module, by its position in the list
untold_from_at : (marks : List Bool) (kept : List (Vec Repair)) (start : ℕ) (modules : List ModuleOrFault) (at : ℕ)
    → at < length modules
    → unwrap_or (slice_get (untold_from marks kept start modules) at) []
    ≡ (if unwrap_or (slice_get marks (start + at)) true then kept_at kept (start + at)
    else repairs_of_read (start + at) (module_in modules at))
untold_from_at marks kept start [] at within = absurd (omega (arith, within))
untold_from_at marks kept start (read ∷ reads) zero within =
    let same : start ≡ start + zero = omega arith in
    ap (λ at. if unwrap_or (slice_get marks at) true then kept_at kept at else repairs_of_read at read) same
untold_from_at marks kept start (read ∷ reads) (suc at) within =
    let next : (start + 1) + at ≡ start + suc at = omega arith in
    untold_from_at marks kept (start + 1) reads at (omega (arith, within))
    ∙ ap (λ position. if unwrap_or (slice_get marks position) true then kept_at kept position
    else repairs_of_read position (module_in reads at)) next

-- what is kept for a module, by the list of what is kept
pub kept_listed : (kept : List (Vec Repair)) (at : ℕ)
    → kept_at kept at ≡ repairs_at (map (λ (told : Vec Repair). told.items) kept) at
kept_listed kept at =
    by_found (slice_get kept at)
    ∙ ap (λ (found : Option (List Repair)). unwrap_or found [])
    (sym (slice_get-map (λ (told : Vec Repair). told.items) kept at))
  where
    by_found : (found : Option (Vec Repair)) → option_map_or (λ (told : Vec Repair). told.items) found []
        ≡ unwrap_or (option_map (λ (told : Vec Repair). told.items) found) []
    by_found None = refl
    by_found (Some told) = refl

-- nothing is left where nothing was
both_nothing : (mark : Bool) (these those : List Repair) → these ≡ [] → those ≡ []
    → (if mark then these else those) ≡ []
both_nothing true these those none nothing = none
both_nothing false these those none nothing = nothing

-- if all modules count as read, and of each of them is kept what was left, the same repairs are left to be returned
pub all_left : (modules : List ModuleOrFault) (marks : List Bool) (kept repairs : List (Vec Repair))
    → length kept ≡ length modules
    → map (λ (told : Vec Repair). told.items) repairs ≡ untold_from marks kept 0 modules
    → LeaveUntold modules marks kept [] repairs
all_left modules marks kept repairs long are = λ position. by_place position (within_or_behind position (length modules))
  where
    as_long : length repairs ≡ length modules
    as_long = sym (length-map repairs (λ (told : Vec Repair). told.items)) ∙ ap length are
        ∙ length_untold marks kept 0 modules

    by_place : (position : ℕ) → (position < length modules) ⊎ (length modules ≤ position)
        → untold_in modules [] repairs position ≡ untold_in modules marks kept position
    by_place position (inl within) =
        let first : 0 + position ≡ position = omega arith in
        ap (λ mark. if mark then kept_at repairs position else module_repairs modules position) (all_marked position)
        ∙ kept_listed repairs position
        ∙ ap (λ (lists : List (List Repair)). unwrap_or (slice_get lists position) []) are
        ∙ untold_from_at marks kept 0 modules position within
        ∙ ap (λ at. if unwrap_or (slice_get marks at) true then kept_at kept at
        else repairs_of_read at (module_in modules position)) first
    by_place position (inr past) =
        ap (λ mark. if mark then kept_at repairs position else module_repairs modules position) (all_marked position)
        ∙ kept_past repairs position (omega (arith, past, as_long))
        ∙ sym (both_nothing (unwrap_or (slice_get marks position) true) (kept_at kept position)
        (module_repairs modules position) (kept_past kept position (omega (arith, past, long)))
        (ap (repairs_of_read position) (nothing_behind modules position past)))

-- the same where the marks and the modules are equal to those
pub all_left_of : (modules listed : List ModuleOrFault) (marks emptied : List Bool) (kept held repairs : List (Vec Repair))
    → length kept ≡ length modules → listed ≡ modules → emptied ≡ [] → held ≡ kept
    → map (λ (told : Vec Repair). told.items) repairs ≡ untold_from marks held 0 listed
    → LeaveUntold modules marks kept emptied repairs
all_left_of modules listed marks emptied kept held repairs long listed_are none held_are are =
    subst (λ marks'. LeaveUntold modules marks kept marks' repairs) (sym none)
    (all_left modules marks kept repairs long
    (are ∙ ap (λ kept. untold_from marks kept 0 listed) held_are ∙ ap (untold_from marks kept 0) listed_are))

-- what is returned of a module, and what is left, are the same for equal repairs
told_of_same : (f g : ℕ → List Repair) → ((position : ℕ) → f position ≡ g position) → (owner : Option ℕ)
    → told_of f owner ≡ told_of g owner
told_of_same f g same None = refl
told_of_same f g same (Some owner) = same owner

left_of_same : (f g : ℕ → List Repair) → ((position : ℕ) → f position ≡ g position) → (owner : Option ℕ) (position : ℕ)
    → left_of f owner position ≡ left_of g owner position
left_of_same f g same None position = same position
left_of_same f g same (Some owner) position = ap (λ repairs. if owner == position then [] else repairs) (same position)

-- the same repairs are returned at addresses
pub told_at_same : (owners : Owners) (f g : ℕ → List Repair) → ((position : ℕ) → f position ≡ g position)
    → (addresses : List ℕ) → told_at owners f addresses ≡ told_at owners g addresses
told_at_same owners f g same [] = refl
told_at_same owners f g same (address ∷ addresses) =
    let owner : Option ℕ = owner_at owners address in
    ap (λ first. first ++ told_at owners (left_of f owner) addresses) (told_of_same f g same owner)
    ∙ ap (λ rest. told_of g owner ++ rest)
    (told_at_same owners (left_of f owner) (left_of g owner) (left_of_same f g same owner) addresses)

-- and the same are left
pub left_at_same : (owners : Owners) (f g : ℕ → List Repair) → ((position : ℕ) → f position ≡ g position)
    → (addresses : List ℕ) (position : ℕ) → left_at owners f addresses position ≡ left_at owners g addresses position
left_at_same owners f g same [] position = same position
left_at_same owners f g same (address ∷ addresses) position =
    let owner : Option ℕ = owner_at owners address in
    left_at_same owners (left_of f owner) (left_of g owner) (left_of_same f g same owner) addresses position

-- the same repairs of the first modules
pub told_before_same : (f g : ℕ → List Repair) → ((position : ℕ) → f position ≡ g position) → (count : ℕ)
    → told_before f count ≡ told_before g count
told_before_same f g same zero = refl
told_before_same f g same (suc count) =
    ap (λ first. first ++ f count) (told_before_same f g same count)
    ∙ ap (λ last. told_before g count ++ last) (same count)
