-- Identities of modules, which keep their positions.
use Rattle.std.proofs.Common.{◌≡◌, ◌∙◌, refl, ap, sym, subst, ℕ, zero, suc, List, [], ◌∷◌, ◌++◌}
use Rattle.std.proofs.Common.{length, Some, ◌<◌, ◌≢◌, Bool, true, false, arith}
use Rattle.std.proofs.Common.{None, Option, Result, Ok, Err, ◌||◌}
use Rattle.std.proofs.lemmas.Option.{slice_get_within}
use Rattle.std.proofs.Math.ListN.{set}
use Rattle.std.proofs.lemmas.Bool.Decides.{nat_tests}
use Rattle.std.specs.Prelude.{◌==◌, OnOk, unwrap_or}
use Rattle.std.specs.List.{slice_get}
use Rattle.pdb_symbolication.specs.WantedModules.{Identity, KeepsIdentities, LeadToEntries, LeadsTo, identity_of}
use Rattle.pdb_symbolication.specs.WantedModules.{is_asked, named_identity}
use Rattle.pdb_symbolication.specs.Findings.{search_of}
use Rattle.pdb_symbolication.specs.declared.requests.MemoryMapEntry.{MemoryMapEntry}
use Rattle.pdb_symbolication.specs.declared.wanted_modules.NamedModule.{NamedModule}
use Rattle.pdb_symbolication.specs.declared.wanted_modules.Search.{Search}
use Rattle.pdb_symbolication.specs.declared.wanted_modules.Search.TheVariants.{NotAsked, Impossible, Module}

-- an identity that was added is the last
last : (identities : List Identity) (one : Identity) → slice_get (identities ++ one ∷ []) (length identities) ≡ Some one
last [] one = refl
last (first ∷ identities) one = last identities one

pub last_of : (identities new : List Identity) (one : Identity) (position : ℕ) → new ≡ identities ++ one ∷ []
    → position ≡ length identities → slice_get new position ≡ Some one
last_of identities new one position added at = rw (added, at) (last identities one)

-- identities that were there keep their positions
keeps : (identities more : List Identity) → KeepsIdentities identities (identities ++ more)
keeps [] more position one none = absurd (cc)
keeps (first ∷ identities) more zero one same = same
keeps (first ∷ identities) more (suc position) one same = keeps identities more position one same

pub keeps_added : (identities new more : List Identity) → new ≡ identities ++ more → KeepsIdentities identities new
keeps_added identities new more added =
    subst (λ (all : List Identity). KeepsIdentities identities all) (sym added) (keeps identities more)

-- a search leads where it did
pub leads_still : (old new : List Identity) (wanted : Option Identity) (search : Search) → KeepsIdentities old new
    → LeadsTo old wanted search → LeadsTo new wanted search
leads_still old new wanted NotAsked kept led = tt
leads_still old new wanted Impossible kept led = led
leads_still old new None (Module position) kept led = let bad : false ≡ true = led.0 in absurd cc
leads_still old new (Some one) (Module position) kept led = (led.0, kept position one led.1)

-- a search that leads to a module leads to one that is there
pub leads_within : (identities : List Identity) (wanted : Option Identity) (position : ℕ)
    → LeadsTo identities wanted (Module position) → position < length identities
leads_within identities None position led = let bad : false ≡ true = led.0 in absurd cc
leads_within identities (Some one) position led = slice_get_within identities position one led.1

-- modules of one name and one debug id have one identity
pub same_identity : (one other : NamedModule) → one.name ≡ other.name → one.debug_id ≡ other.debug_id
    → named_identity one ≡ named_identity other
same_identity one other name id = rw (name, id) refl

-- searches lead where they did
pub lead_still : (old new : List Identity) (entries : List MemoryMapEntry) (searches : List Search)
    → KeepsIdentities old new → LeadToEntries old entries searches → LeadToEntries new entries searches
lead_still old new entries searches kept led index entry is =
    leads_still old new (identity_of entry) (search_of searches index) kept (led index entry is)

some_same : {one other : MemoryMapEntry} → Some one ≡ Some other → one ≡ other
some_same {one} {other} same = cc

pub slice_get-set_same : (searches : List Search) (index : ℕ) (made : Search) → index < length searches
    → slice_get (set searches index made) index ≡ Some made
slice_get-set_same [] index made within = absurd (omega arith)
slice_get-set_same (first ∷ searches) zero made within = refl
slice_get-set_same (first ∷ searches) (suc index) made within = slice_get-set_same searches index made (omega arith)

pub slice_get-set_other : (searches : List Search) (index other : ℕ) (made : Search) → other ≢ index
    → slice_get (set searches index made) other ≡ slice_get searches other
slice_get-set_other [] index other made differs = refl
slice_get-set_other (first ∷ searches) zero zero made differs = absurd (differs refl)
slice_get-set_other (first ∷ searches) zero (suc other) made differs = refl
slice_get-set_other (first ∷ searches) (suc index) zero made differs = refl
slice_get-set_other (first ∷ searches) (suc index) (suc other) made differs =
    slice_get-set_other searches index other made (λ same. differs (ap suc same))

set_same : (searches : List Search) (index : ℕ) (made : Search) → index < length searches
    → search_of (set searches index made) index ≡ made
set_same searches index made within =
    ap (λ (found : Option Search). unwrap_or found NotAsked) (slice_get-set_same searches index made within)

set_other : (searches : List Search) (index other : ℕ) (made : Search) → other ≢ index
    → search_of (set searches index made) other ≡ search_of searches other
set_other searches index other made differs =
    ap (λ (found : Option Search). unwrap_or found NotAsked) (slice_get-set_other searches index other made differs)

or_true : (test : Bool) → (test || true) ≡ true
or_true true = refl
or_true false = refl

or_false : (test : Bool) → (test || false) ≡ test
or_false true = refl
or_false false = refl

asked_by_place : (searches : List Search) (index other : ℕ) (made : Search) (same : Bool) → (index == other) ≡ same
    → index < length searches → is_asked made ≡ true
    → is_asked (search_of (set searches index made) other) ≡ (is_asked (search_of searches other) || same)
asked_by_place searches index other made true same within asked =
    let at : other ≡ index = grind (arith, nat_tests) in
    ap (λ place. is_asked (search_of (set searches index made) place)) at
    ∙ (ap is_asked (set_same searches index made within)
    ∙ (asked ∙ sym (or_true (is_asked (search_of searches other)))))
asked_by_place searches index other made false same within asked =
    let differs : other ≢ index = grind (arith, nat_tests) in
    ap is_asked (set_other searches index other made differs) ∙ sym (or_false (is_asked (search_of searches other)))

-- a search that is made is written
pub asked_set : (searches : List Search) (index other : ℕ) (made : Search) → index < length searches
    → is_asked made ≡ true
    → is_asked (search_of (set searches index made) other) ≡ (is_asked (search_of searches other) || (index == other))
asked_set searches index other made within asked =
    asked_by_place searches index other made (index == other) refl within asked

pub always : {E : Type 0} (result : Result (Unit {0}) E) {P : Type 0} → P → OnOk result P
always (Ok done) fact = fact
always (Err fault) fact = tt

by_place : (identities : List Identity) (entries : List MemoryMapEntry) (searches : List Search) (index other : ℕ)
    (entry one : MemoryMapEntry) (search : Search) (same : Bool) → (other == index) ≡ same → index < length searches
    → slice_get entries index ≡ Some entry → slice_get entries other ≡ Some one
    → LeadsTo identities (identity_of entry) search → LeadsTo identities (identity_of one) (search_of searches other)
    → LeadsTo identities (identity_of one) (search_of (set searches index search) other)
by_place identities entries searches index other entry one search true same within here there new old =
    let at : other ≡ index = grind (arith, nat_tests) in
    let which : entry ≡ one = some_same (sym here ∙ (ap (slice_get entries) (sym at) ∙ there)) in
    subst (λ (place : ℕ). LeadsTo identities (identity_of one) (search_of (set searches index search) place)) (sym at)
    (subst (λ (found : Search). LeadsTo identities (identity_of one) found)
    (sym (set_same searches index search within))
    (subst (λ (e : MemoryMapEntry). LeadsTo identities (identity_of e) search) which new))
by_place identities entries searches index other entry one search false same within here there new old =
    let differs : other ≢ index = grind (arith, nat_tests) in
    subst (λ (found : Search). LeadsTo identities (identity_of one) found)
    (sym (set_other searches index other search differs)) old

-- a search that leads to its entry is written
pub lead_set : (identities : List Identity) (entries : List MemoryMapEntry) (searches : List Search) (index : ℕ)
    (entry : MemoryMapEntry) (search : Search) → index < length searches → slice_get entries index ≡ Some entry
    → LeadsTo identities (identity_of entry) search → LeadToEntries identities entries searches
    → LeadToEntries identities entries (set searches index search)
lead_set identities entries searches index entry search within here new led other one is =
    by_place identities entries searches index other entry one search (other == index) refl within here is new
    (led other one is)
