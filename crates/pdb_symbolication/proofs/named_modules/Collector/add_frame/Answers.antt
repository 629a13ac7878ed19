-- The search is written at the entry's place.
use Rattle.std.proofs.Common.{◌≡◌, ◌∙◌, ap, inl, ◌<◌, ◌||◌, sym, subst, refl, List, length, Some, arith}
use Rattle.std.proofs.Math.ListN.{set}
use Rattle.std.proofs.lemmas.Option.{slice_get_past, slice_get_read}
use Rattle.std.proofs.lemmas.Bool.Decides.{nat_tests}
use Rattle.std.specs.Prelude.{Option, unwrap_or, ◌≤◌}
use Rattle.pdb_symbolication.specs.Findings.{search_of}
use Rattle.pdb_symbolication.specs.WantedModules.{Identity, KeepsIdentities, LeadToEntries, identities_in, identity_of}
use Rattle.pdb_symbolication.specs.WantedModules.{is_asked, is_entry}
use Rattle.pdb_symbolication.specs.declared.requests.FrameModule.{FrameModule}
use Rattle.pdb_symbolication.specs.WantedModules.{LeadsTo, ServesSearch, offsets_in}
use Rattle.pdb_symbolication.specs.declared.wanted_modules.Search.{Search}
use Rattle.pdb_symbolication.specs.declared.wanted_modules.Search.TheVariants.{NotAsked, Module}
use Rattle.pdb_symbolication.proofs.GainLemmas.{asks_set, either_way, still_led_set}
use Rattle.pdb_symbolication.proofs.OffsetLemmas.{frame_past, frame_set, no_module, onwards, still_set}
use Rattle.pdb_symbolication.proofs.NameLemmas.{always, asked_set, lead_set, lead_still, leads_within}
use Rattle.pdb_symbolication.proofs.named_modules.Collector.add_frame.Goals as goal

pub returns-in_default-search-clause-led : goal.returns-in_default-search-clause-led
returns-in_default-search-clause-led c =
    let entries = c.args.job.now.memory_map.items in
    let index = c.in-At.index in
    let entry = c.in-Some-Some.entry.now in
    let got = rw c.deref.ensures.value at c.in-Some-Some.ensures.lookup in
    let here = slice_get_read entries (length entries) index entry refl got.3.0 got.1 in
    let within : index < length c.args.searches.now = omega (arith, got.3.0, c.requires.count) in
    lead_set (identities_in c.made_search.new.self) entries c.args.searches.now index entry
    c.in_ok-search.search within here c.in_ok-search.ensures.led
    (lead_still (identities_in c.args.self.now) (identities_in c.made_search.new.self) entries c.args.searches.now
    c.in_ok-search.ensures.kept c.requires.led)

pub returns-in-Module-clause-led : goal.returns-in-Module-clause-led
returns-in-Module-clause-led c =
    let entries = c.args.job.now.memory_map.items in
    let index = c.in-At.index in
    let entry = c.in-Some-Some.entry.now in
    let got = rw c.deref.ensures.value at c.in-Some-Some.ensures.lookup in
    let here = slice_get_read entries (length entries) index entry refl got.3.0 got.1 in
    let within : index < length c.args.searches.now = omega (arith, got.3.0, c.requires.count) in
    let led = lead_set (identities_in c.made_search.new.self) entries c.args.searches.now index entry
    c.in_ok-search.search within here c.in_ok-search.ensures.led
    (lead_still (identities_in c.args.self.now) (identities_in c.made_search.new.self) entries c.args.searches.now
    c.in_ok-search.ensures.kept c.requires.led) in
    always c.add_offset.result
    (subst (λ (identities : List Identity).
    LeadToEntries identities entries (set c.args.searches.now index c.in_ok-search.search))
    (sym c.add_offset.ensures.identities) led)

pub returns-in-Module-clause-kept : goal.returns-in-Module-clause-kept
returns-in-Module-clause-kept c =
    always c.add_offset.result
    (subst (λ (identities : List Identity). KeepsIdentities (identities_in c.args.self.now) identities)
    (sym c.add_offset.ensures.identities) c.in_ok-search.ensures.kept)

pub returns-in-Module-clause-asked : goal.returns-in-Module-clause-asked
returns-in-Module-clause-asked c =
    let index = c.in-At.index in
    let got = rw c.deref.ensures.value at c.in-Some-Some.ensures.lookup in
    let within : index < length c.args.searches.now = omega (arith, got.3.0, c.requires.count) in
    always c.add_offset.result (λ other inside.
    subst (λ (place : FrameModule). is_asked (search_of (set c.args.searches.now index c.in_ok-search.search) other)
    ≡ (is_asked (search_of c.args.searches.now other) || is_entry other place)) (sym c.in-At.is)
    (asked_set c.args.searches.now index other c.in_ok-search.search within c.in_ok-search.ensures.asked))

pub returns-in_default-2-2-clause-served : goal.returns-in_default-2-2-clause-served
returns-in_default-2-2-clause-served c =
    let searches = c.args.searches.now in
    let got = rw c.deref.ensures.value at c.in_default-2.ensures.lookup in
    let none = got.0 in
    let past : length searches ≤ c.in-At.index = grind (arith, nat_tests, none, c.requires.count) in
    frame_past (offsets_in c.args.self.now) searches c.in-At.index c.args.frame c.in-At.is
    (slice_get_past searches c.in-At.index past)

pub made_search-requires : goal.made_search-requires
made_search-requires c =
    let entries = c.args.job.now.memory_map.items in
    let searches = c.args.searches.now in
    let index = c.in-At.index in
    let entry = c.in-Some-Some.entry.now in
    let got = rw c.deref.ensures.value at c.in-Some-Some.ensures.lookup in
    let seen = c.in-Some-Some.ensures'.lookup in
    let here = slice_get_read entries (length entries) index entry refl got.3.0 got.1 in
    let was = slice_get_read searches (length searches) index c.in-Some-Some.field-0-1.now refl seen.3.0 seen.1 in
    subst (λ (search : Option Search). LeadsTo (identities_in c.args.self.now) (identity_of entry)
    (unwrap_or search NotAsked)) was (c.requires.led index entry here)

pub add_offset-requires : goal.add_offset-requires
add_offset-requires c =
    let identities = identities_in c.made_search.new.self in
    let wanted = identity_of c.in-Some-Some.entry.now in
    record {
      known = leads_within identities wanted c.in-Module.position
          (subst (λ (search : Search). LeadsTo identities wanted search) c.in-Module.is c.in_ok-search.ensures.led);
    }

pub returns-in-Module-clause-offsets_kept : goal.returns-in-Module-clause-offsets_kept
returns-in-Module-clause-offsets_kept c =
    onwards c.add_offset.result
    (λ more position offset has. more position offset (c.in_ok-search.ensures.offsets_kept position offset has))
    c.add_offset.ensures.kept

pub returns-in-Module-clause-still_served : goal.returns-in-Module-clause-still_served
returns-in-Module-clause-still_served c =
    let searches = c.args.searches.now in
    let index = c.in-At.index in
    let before = c.in-Some-Some.field-0-1.now in
    let seen = c.in-Some-Some.ensures'.lookup in
    let was = slice_get_read searches (length searches) index before refl seen.3.0 seen.1 in
    always c.add_offset.result
    (still_set searches index before c.in_ok-search.search seen.3.0 was c.in_ok-search.ensures.same)

pub returns-in-Module-clause-served : goal.returns-in-Module-clause-served
returns-in-Module-clause-served c =
    let offsets = offsets_in c.add_offset.new.self in
    onwards c.add_offset.result (λ added.
    frame_set offsets c.args.searches.now c.in-At.index c.in_ok-search.search c.args.frame
    c.in-Some-Some.ensures'.lookup.3.0 c.in-At.is
    (subst (λ (search : Search). ServesSearch offsets c.args.frame.offset (Some search)) (sym c.in-Module.is) added))
    c.add_offset.ensures.added

pub returns-in_default-search-clause-still_served : goal.returns-in_default-search-clause-still_served
returns-in_default-search-clause-still_served c =
    let searches = c.args.searches.now in
    let index = c.in-At.index in
    let before = c.in-Some-Some.field-0-1.now in
    let seen = c.in-Some-Some.ensures'.lookup in
    let was = slice_get_read searches (length searches) index before refl seen.3.0 seen.1 in
    still_set searches index before c.in_ok-search.search seen.3.0 was c.in_ok-search.ensures.same

pub returns-in_default-search-clause-served : goal.returns-in_default-search-clause-served
returns-in_default-search-clause-served c =
    let offsets = offsets_in c.made_search.new.self in
    frame_set offsets c.args.searches.now c.in-At.index c.in_ok-search.search c.args.frame
    c.in-Some-Some.ensures'.lookup.3.0 c.in-At.is
    (no_module offsets c.args.frame.offset c.in_ok-search.search c.in_ok-search.ensures.asked
    c.in_default-search.not-Module)

pub returns-in-Module-clause-only : goal.returns-in-Module-clause-only
returns-in-Module-clause-only c =
    onwards c.add_offset.result (λ only position offset has.
    either_way (only position offset has) (λ was. inl (c.in_ok-search.ensures.no_more position offset was))
    (λ both. asks_set c.args.searches.now c.in-At.index position offset c.in_ok-search.search c.args.frame
    c.in-Some-Some.ensures'.lookup.3.0 c.in-At.is (c.in-Module.is ∙ ap Module (sym both.0)) (sym both.1)))
    c.add_offset.ensures.only

pub returns-in_default-search-clause-asked : goal.returns-in_default-search-clause-asked
returns-in_default-search-clause-asked c =
    let index = c.in-At.index in
    let within = c.in-Some-Some.ensures'.lookup.3.0 in
    λ other inside.
    subst (λ (place : FrameModule). is_asked (search_of (set c.args.searches.now index c.in_ok-search.search) other)
    ≡ (is_asked (search_of c.args.searches.now other) || is_entry other place)) (sym c.in-At.is)
    (asked_set c.args.searches.now index other c.in_ok-search.search within c.in_ok-search.ensures.asked)

pub returns-in_default-search-clause-still_led : goal.returns-in_default-search-clause-still_led
returns-in_default-search-clause-still_led c =
    let searches = c.args.searches.now in
    let index = c.in-At.index in
    let before = c.in-Some-Some.field-0-1.now in
    let seen = c.in-Some-Some.ensures'.lookup in
    let was = slice_get_read searches (length searches) index before refl seen.3.0 seen.1 in
    still_led_set searches index before c.in_ok-search.search seen.3.0 was c.in_ok-search.ensures.same
