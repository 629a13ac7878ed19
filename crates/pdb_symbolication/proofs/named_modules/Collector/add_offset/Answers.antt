-- The offsets of the module there are replaced by those with one more.
use Rattle.std.proofs.Common.{◌≡◌, ◌∙◌, ap, sym, subst, refl, List, ℕ, []}
use Rattle.std.proofs.Math.Seq.{map-set_same}
use Rattle.std.proofs.lemmas.List.{map-set}
use Rattle.std.proofs.lemmas.Option.{slice_get-map, slice_get_read}
use Rattle.std.specs.Option.{option_map}
use Rattle.std.specs.List.{slice_get}
use Rattle.std.specs.Prelude.{Contains, unwrap_or}
use Rattle.pdb_symbolication.specs.WantedModules.{GainsOnly, KeepsOffsets, named_identity, offsets_in}
use Rattle.pdb_symbolication.specs.declared.wanted_modules.NamedModule.{NamedModule}
use Rattle.pdb_symbolication.proofs.GainLemmas.{set_gains}
use Rattle.pdb_symbolication.proofs.NameLemmas.{same_identity}
use Rattle.pdb_symbolication.proofs.OffsetLemmas.{onwards, set_has, set_more}
use Rattle.pdb_symbolication.proofs.named_modules.Collector.add_offset.Goals as goal

pub returns-in-Some-clause-identities : goal.returns-in-Some-clause-identities
returns-in-Some-clause-identities c =
    map-set_same named_identity c.args.self.now.modules.items
    c.args.position c.add_offset.new.self c.in-Some.module.now
    (same_identity c.add_offset.new.self c.in-Some.module.now c.add_offset.ensures.name c.add_offset.ensures.debug_id
    ∙ ap named_identity c.in-Some.ensures.value)

pub returns-in-Some-clause-kept : goal.returns-in-Some-clause-kept
returns-in-Some-clause-kept c =
    let modules = c.args.self.now.modules in
    let old = c.in-Some.module.now in
    let new = c.add_offset.new.self in
    let here = slice_get_read modules.items modules.len c.args.position old modules.ok.0
    (c.in-Some.ensures.variant.0 refl) c.in-Some.ensures.value in
    onwards c.add_offset.result (λ kept.
    subst (λ (all : List (List ℕ)). KeepsOffsets (offsets_in c.args.self.now) all)
    (sym (map-set (λ (one : NamedModule). one.offsets.items) modules.items c.args.position new))
    (set_more (offsets_in c.args.self.now) c.args.position old.offsets.items new.offsets.items
    (slice_get-map (λ (one : NamedModule). one.offsets.items) modules.items c.args.position
    ∙ ap (option_map (λ (one : NamedModule). one.offsets.items)) here) kept))
    c.add_offset.ensures.kept

pub returns-in-Some-clause-added : goal.returns-in-Some-clause-added
returns-in-Some-clause-added c =
    let modules = c.args.self.now.modules in
    let old = c.in-Some.module.now in
    let new = c.add_offset.new.self in
    let here = slice_get_read modules.items modules.len c.args.position old modules.ok.0
    (c.in-Some.ensures.variant.0 refl) c.in-Some.ensures.value in
    onwards c.add_offset.result (λ added small.
    subst (λ (all : List (List ℕ)). Contains (unwrap_or (slice_get all c.args.position) []) c.args.offset)
    (sym (map-set (λ (one : NamedModule). one.offsets.items) modules.items c.args.position new))
    (set_has (offsets_in c.args.self.now) c.args.position old.offsets.items new.offsets.items c.args.offset
    (slice_get-map (λ (one : NamedModule). one.offsets.items) modules.items c.args.position
    ∙ ap (option_map (λ (one : NamedModule). one.offsets.items)) here) (added small)))
    c.add_offset.ensures.added

pub returns-in-Some-clause-only : goal.returns-in-Some-clause-only
returns-in-Some-clause-only c =
    let modules = c.args.self.now.modules in
    let old = c.in-Some.module.now in
    let new = c.add_offset.new.self in
    let here = slice_get_read modules.items modules.len c.args.position old modules.ok.0
    (c.in-Some.ensures.variant.0 refl) c.in-Some.ensures.value in
    onwards c.add_offset.result (λ only.
    subst (λ (all : List (List ℕ)). GainsOnly (offsets_in c.args.self.now) all
    (λ (at one : ℕ). at ≡ c.args.position × one ≡ c.args.offset))
    (sym (map-set (λ (one : NamedModule). one.offsets.items) modules.items c.args.position new))
    (set_gains (offsets_in c.args.self.now) c.args.position old.offsets.items new.offsets.items c.args.offset
    (slice_get-map (λ (one : NamedModule). one.offsets.items) modules.items c.args.position
    ∙ ap (option_map (λ (one : NamedModule). one.offsets.items)) here) only))
    c.add_offset.ensures.only
