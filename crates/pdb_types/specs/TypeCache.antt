-- The type cache, and that its values are those of the records.
use Rattle.std.proofs.Common.{ap}
use Rattle.std.proofs.lemmas.Map.Lookups.{exact_unsigned, exact_pairs}
use Rattle.std.specs.FinMap.{IsAntisymmetric}
use Rattle.std.specs.Prelude.{◌≡◌, ℕ, List, Ok, IfSome}
use Rattle.std.specs.Ordering.{nat_cmp, ordering_then}
use Rattle.std.specs.declared.cmp.Ordering.{Ordering}
use Rattle.pdb_tables.specs.OnceMap.{HoldsOfEach}
use Rattle.pdb_types.specs.declared.type_cache.TypeCache.{TypeCache}
use Rattle.pdb_types.specs.declared.type_cache.SizeQuestion.{SizeQuestion}
use Rattle.pdb_types.specs.declared.type_cache.NamedModule.{NamedModule}
use Rattle.pdb_types.specs.declared.type_sizes.TypeSize.{TypeSize}
use Rattle.pdb_types.specs.ForwardReferences.{Tabulates}
use Rattle.pdb_errors.specs.Outcomes.{and_then}
use Rattle.pdb_types.specs.Resolution.{texts, module_under, exports}
use Rattle.pdb_types.specs.TypeInputs.{TypeInputs, LinkInputs, link_inputs}
use Rattle.pdb_records.specs.Provided.{ProviderInfos}
use Rattle.pdb_types.specs.TypeSizes.{size_of}

-- this is the module whose name is under a reference
abbrev pub IsModuleUnder : LinkInputs → ℕ → NamedModule → Type 0
IsModuleUnder link reference named =
    and_then (texts link.strings) (λ strings. module_under link.modules strings (record { 0 = reference }))
    ≡ Ok named.0

-- these are the exports of the module at a module index
abbrev pub AreExportsOf : LinkInputs → ℕ → List (ℕ × ℕ) → Type 0
AreExportsOf link module_index list = exports link module_index ≡ Ok list

-- the order of size questions: by module index, then by type index
abbrev pub size_question_cmp : SizeQuestion → SizeQuestion → Ordering
size_question_cmp a b = ordering_then (nat_cmp a.module_index b.module_index) (nat_cmp a.index b.index)

-- only the same question compares as equal
pub size_question_cmp-IsAntisymmetric : IsAntisymmetric size_question_cmp
size_question_cmp-IsAntisymmetric a b tied =
    ap (λ asked. record { module_index = asked.0; index = asked.1 })
    (exact_pairs nat_cmp nat_cmp exact_unsigned exact_unsigned (a.module_index, a.index) (b.module_index, b.index) tied)

-- this is the answer to a size question
abbrev pub IsSizeOf : (ℕ → ℕ → TypeSize) → SizeQuestion → TypeSize → Type 0
IsSizeOf size_of asked size = size_of asked.module_index asked.index ≡ size

-- a type cache belongs to type inputs: the cached values are those of the records
pub record IsCacheOf {P : Type 0} (info : P → ProviderInfos) (inputs : TypeInputs P) (cache : TypeCache) : Type 0 where
  pub types : cache.types ≡ inputs.types
  pub ids : cache.ids ≡ inputs.ids
  pub named : HoldsOfEach nat_cmp (IsModuleUnder (link_inputs info inputs)) cache.named.made
  pub exports : HoldsOfEach nat_cmp (AreExportsOf (link_inputs info inputs)) cache.exports.made
  pub forward : IfSome cache.forward_sizes (Tabulates inputs.types.items)
  pub sizes : HoldsOfEach size_question_cmp (IsSizeOf (size_of info inputs)) cache.sizes.made

-- the cached values are still those of the records, and no new part of them failed
pub record IsCacheAfter {P : Type 0} (info : P → ProviderInfos) (inputs : TypeInputs P) (old new : TypeCache) : Type 0
  where
    pub is_cache : IsCacheOf info inputs new
    pub failed : new.failed ≡ old.failed
