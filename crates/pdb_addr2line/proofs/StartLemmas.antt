-- Start addresses ascend, and hold all starts.
use Rattle.std.proofs.Common.{zero, suc, ◌≡◌, ◌⊎◌, ◌↔◌, ℕ, ◌+◌, ◌<◌, List, [], ◌∷◌, ◌++◌, length, get_or, drop}
use Rattle.std.proofs.Common.{map, inl, inr, refl, ap, arith}
use Rattle.std.specs.Prelude.{Option, Some, None, slice_get}
use Rattle.std.specs.BTreeSet.{insert_key}
use Rattle.std.specs.List.{Contains}
use Rattle.std.specs.Option.{option_map_or}
use Rattle.std.specs.Ordering.{nat_cmp}
use Rattle.std.proofs.lemmas.List.{drop_more, map-append}
use Rattle.std.proofs.lemmas.Option.{slice_get-get_or}
use Rattle.std.proofs.lemmas.List.Sums.{fold-append}
use Rattle.std.proofs.lemmas.List.Elements.{Contains-append_left, Contains-append_right, Contains-append_cases}
use Rattle.pdb_records.specs.Addresses.{rva}
use Rattle.pdb_records.specs.declared.addresses.Rva.{Rva}
use Rattle.pdb_records.specs.declared.addresses.AddressRange.{AddressRange}
use Rattle.pdb_records.specs.declared.addresses.PdbInternalSectionOffset.{PdbInternalSectionOffset}
use Rattle.pdb_records.specs.declared.debug_information.Module.{Module}
use Rattle.pdb_records.specs.Provided.{ProviderInfos}
use Rattle.pdb_functions.specs.GlobalFunctions.{GlobalFunction}
use Rattle.pdb_functions.specs.FunctionMatches.{procedures_of_module}
use Rattle.pdb_functions.specs.Procedures.{ModuleProcedure, provided_procedures}
use Rattle.pdb_addr2line.specs.FunctionLaws.{Ascend, IsProcedureStart, IsStart}
use Rattle.pdb_addr2line.specs.FunctionIter.{procedures_of_modules, start_section_offsets, with_start, with_starts}
use Rattle.pdb_addr2line.specs.FunctionIter.{start_addresses}
use Rattle.pdb_addr2line.specs.ContextInputs.{ContextInputs, global_functions_of}
use Rattle.pdb_addr2line.proofs.NumberListLemmas.{ascend_put, in_front, front, behind, put_cases, put_in, put_contains}

-- ---- the addresses of section offsets

-- one of these section offsets has the address
record HasSectionOffset (sections : List AddressRange) (section_offsets : List PdbInternalSectionOffset)
    (address : ℕ) : Type 0 where
  section_offset : PdbInternalSectionOffset
  listed : Contains section_offsets section_offset
  at : rva sections section_offset ≡ Some (record { 0 = address })

-- what holds of a list, and of the list with the address of a section offset, holds with it where there is one
start_either : (P : List ℕ → Type 0) (sections : List AddressRange) (starts : List ℕ)
    (section_offset : PdbInternalSectionOffset) → P starts
    → ((address : ℕ) → rva sections section_offset ≡ Some (record { 0 = address })
    → P (insert_key nat_cmp starts address)) → P (with_start sections starts section_offset)
start_either P sections starts section_offset none some = by_address (rva sections section_offset) refl where
  by_address : (found : Option Rva) → rva sections section_offset ≡ found
      → P (option_map_or (λ address. insert_key nat_cmp starts address.0) found starts)
  by_address None there = none
  by_address (Some address) there = some address.0 there

-- the list stays in order with the address of one section offset more
ascend_start : (sections : List AddressRange) (starts : List ℕ) (section_offset : PdbInternalSectionOffset)
    → Ascend starts → Ascend (with_start sections starts section_offset)
ascend_start sections starts section_offset up =
    start_either Ascend sections starts section_offset up (λ address there. ascend_put address starts up)

-- the list stays in order with the addresses of section offsets
ascend_starts : (sections : List AddressRange) (starts : List ℕ) (section_offsets : List PdbInternalSectionOffset)
    → Ascend starts → Ascend (with_starts sections starts section_offsets)
ascend_starts sections starts [] up = up
ascend_starts sections starts (section_offset ∷ section_offsets) up =
    ascend_starts sections (with_start sections starts section_offset) section_offsets
    (ascend_start sections starts section_offset up)

-- with the address of one section offset more there are that one and the others
start_cases : (sections : List AddressRange) (starts : List ℕ) (section_offset : PdbInternalSectionOffset) (q : ℕ)
    → Contains (with_start sections starts section_offset) q
    → Contains starts q ⊎ (rva sections section_offset ≡ Some (record { 0 = q }))
start_cases sections starts section_offset q held = start_either
    (λ xs. Contains xs q → Contains starts q ⊎ (rva sections section_offset ≡ Some (record { 0 = q })))
    sections starts section_offset (λ h. inl h) (λ address there h. elim (put_cases address q starts h) [
      | inl before ↦ inl before
      | inr same ↦ inr (rw same at there)
    ]) held

-- the others stay
start_contains : (sections : List AddressRange) (starts : List ℕ) (section_offset : PdbInternalSectionOffset) (q : ℕ)
    → Contains starts q → Contains (with_start sections starts section_offset) q
start_contains sections starts section_offset q held = start_either (λ xs. Contains xs q) sections starts
    section_offset held (λ address there. put_contains address q starts held)

-- the address of the section offset is there
start_in : (sections : List AddressRange) (starts : List ℕ) (section_offset : PdbInternalSectionOffset) (q : ℕ)
    → rva sections section_offset ≡ Some (record { 0 = q }) → Contains (with_start sections starts section_offset) q
start_in sections starts section_offset q at = rw at (put_in q starts)

-- with the addresses of section offsets there are those and the others
starts_cases : (sections : List AddressRange) (starts : List ℕ) (section_offsets : List PdbInternalSectionOffset)
    (q : ℕ)
    → Contains (with_starts sections starts section_offsets) q
    → Contains starts q ⊎ HasSectionOffset sections section_offsets q
starts_cases sections starts [] q held = inl held
starts_cases sections starts (section_offset ∷ section_offsets) q held =
    elim (starts_cases sections (with_start sections starts section_offset) section_offsets q held) [
      | inl first ↦ elim (start_cases sections starts section_offset q first) [
        | inl before ↦ inl before
        | inr there ↦ inr (record
            { section_offset = section_offset; listed = front section_offsets refl; at = there })
      ]
      | inr rest ↦ inr (record {
        section_offset = rest.section_offset;
        listed = behind section_offset rest.section_offset section_offsets rest.listed;
        at = rest.at;
      })
    ]

-- the others stay
starts_contain : (sections : List AddressRange) (starts : List ℕ) (section_offsets : List PdbInternalSectionOffset)
    (q : ℕ)
    → Contains starts q → Contains (with_starts sections starts section_offsets) q
starts_contain sections starts [] q held = held
starts_contain sections starts (section_offset ∷ section_offsets) q held =
    starts_contain sections (with_start sections starts section_offset) section_offsets q
    (start_contains sections starts section_offset q held)

-- the address of each section offset is there
starts_in : (sections : List AddressRange) (starts : List ℕ) (section_offsets : List PdbInternalSectionOffset)
    (section_offset : PdbInternalSectionOffset) (q : ℕ)
    → Contains section_offsets section_offset → rva sections section_offset ≡ Some (record { 0 = q })
    → Contains (with_starts sections starts section_offsets) q
starts_in sections starts [] section_offset q listed there = absurd (omega (arith, listed.1))
starts_in sections starts (first ∷ section_offsets) section_offset q listed there =
    elim (in_front first section_offset section_offsets listed) [
      | inl same ↦ starts_contain sections (with_start sections starts first) section_offsets q
          (start_in sections starts first q (rw same there))
      | inr rest ↦ starts_in sections (with_start sections starts first) section_offsets section_offset q rest there
    ]

-- the addresses of two lists of section offsets, the one after the other
pub with_starts_append : (sections : List AddressRange) (starts : List ℕ) (xs ys : List PdbInternalSectionOffset)
    → with_starts sections starts (xs ++ ys) ≡ with_starts sections (with_starts sections starts xs) ys
with_starts_append sections starts xs ys = fold-append (with_start sections) starts xs ys

-- the addresses of the procedures of a module, and then those of the modules after it
pub with_starts_of_module : (sections : List AddressRange) (starts : List ℕ) (infos : ProviderInfos) (at : ℕ)
    (m : Module) (ms : List Module)
    → with_starts sections starts (map (λ p. p.offset) (procedures_of_modules infos at (m ∷ ms)))
    ≡ with_starts sections (with_starts sections starts (map (λ p. p.offset) (provided_procedures (infos at m))))
    (map (λ p. p.offset) (procedures_of_modules infos (at + 1) ms))
with_starts_of_module sections starts infos at m ms =
    let start : ModuleProcedure → PdbInternalSectionOffset = λ p. p.offset in
    let here = provided_procedures (infos at m) in
    let rest = procedures_of_modules infos (at + 1) ms in
    rw (map-append start here rest) (with_starts_append sections starts (map start here) (map start rest))

-- the procedures of the module at a module index are those that the provider answers for it
procedures_here : (infos : ProviderInfos) (modules : List Module) (at : ℕ) (m : Module)
    → slice_get modules at ≡ Some m → procedures_of_module infos modules at ≡ provided_procedures (infos at m)
procedures_here infos modules at m is = rw is refl

-- the addresses of the procedures of the modules from a module index on: first those of the module there
pub with_starts_of_next : (sections : List AddressRange) (starts : List ℕ) (infos : ProviderInfos) (at : ℕ)
    (modules : List Module) → at < length modules
    → with_starts sections starts (map (λ p. p.offset) (procedures_of_modules infos at (drop at modules)))
    ≡ with_starts sections (with_starts sections starts (map (λ p. p.offset) (procedures_of_module infos modules at)))
    (map (λ p. p.offset) (procedures_of_modules infos (at + 1) (drop (at + 1) modules)))
with_starts_of_next sections starts infos at modules below =
    let none : Module = record { name = [] } in
    let m = get_or modules at none in
    rw (drop_more modules at none below, procedures_here infos modules at m (slice_get-get_or modules at none below))
    (with_starts_of_module sections starts infos at m (drop (at + 1) modules))

-- ---- the section offsets of functions

-- an element of a list of images is the image of an element
image : {X Y : Type 0} (f : X → Y) (xs : List X) (y : Y) → Contains (map f xs) y → (x : X) × Contains xs x × (f x ≡ y)
image f [] y held = absurd (omega (arith, held.1))
image f (x ∷ xs) y held = elim (in_front (f x) y (map f xs) held) [
  | inl same ↦ (x, front xs refl, same)
  | inr rest ↦ let of = image f xs y rest in (of.0, behind x of.0 xs of.1, of.2)
]

-- the image of an element is an element of the list of images
in_image : {X Y : Type 0} (f : X → Y) (xs : List X) (x : X) → Contains xs x → Contains (map f xs) (f x)
in_image f [] x held = absurd (omega (arith, held.1))
in_image f (z ∷ zs) x held = elim (in_front z x zs held) [
  | inl same ↦ front (map f zs) (ap f same)
  | inr rest ↦ behind (f z) (f x) (map f zs) (in_image f zs x rest)
]

-- a procedure of modules counted from a module index is one of a module of the list
record IsListed (infos : ProviderInfos) (at : ℕ) (ms : List Module) (p : ModuleProcedure) : Type 0 where
  index : ℕ
  m : Module
  is : slice_get ms index ≡ Some m
  listed : Contains (provided_procedures (infos (at + index) m)) p

listed_from : (infos : ProviderInfos) (at : ℕ) (ms : List Module) (p : ModuleProcedure)
    → Contains (procedures_of_modules infos at ms) p → IsListed infos at ms p
listed_from infos at [] p held = absurd (omega (arith, held.1))
listed_from infos at (m ∷ ms) p held = elim (Contains-append_cases (provided_procedures (infos at m))
    (procedures_of_modules infos (at + 1) ms) p held) [
      | inl first ↦ let same : at + 0 ≡ at = omega arith in
          record { index = 0; m = m; is = refl; listed = rw same first }
      | inr rest ↦ let of = listed_from infos (at + 1) ms p rest in
          let same : at + suc of.index ≡ (at + 1) + of.index = omega arith in
          record { index = suc of.index; m = of.m; is = of.is; listed = rw same of.listed }
    ]

listed_in : (infos : ProviderInfos) (at : ℕ) (ms : List Module) (p : ModuleProcedure) (index : ℕ) (m : Module)
    → slice_get ms index ≡ Some m
    → Contains (provided_procedures (infos (at + index) m)) p → Contains (procedures_of_modules infos at ms) p
listed_in infos at [] p index m is listed = absurd (cc)
listed_in infos at (first ∷ ms) p zero m is listed =
    let same : first ≡ m = cc in
    let here : at + 0 ≡ at = omega arith in
    Contains-append_left _ (procedures_of_modules infos (at + 1) ms) p (rw same (rw here at listed))
listed_in infos at (first ∷ ms) p (suc index) m is listed =
    let moved : at + suc index ≡ (at + 1) + index = omega arith in
    Contains-append_right (provided_procedures (infos at first)) _ p
    (listed_in infos (at + 1) ms p index m is (rw moved at listed))

-- ---- the laws

pub starts_ascend : {P : Type 0} (info : P → ProviderInfos) (s : ContextInputs P) → Ascend (start_addresses info s)
starts_ascend info s = ascend_starts s.address_map [] (start_section_offsets info s) tt

-- an address is among them exactly where a function starts there
pub starts_are : {P : Type 0} (info : P → ProviderInfos) (s : ContextInputs P) (address : ℕ)
    → Contains (start_addresses info s) address ↔ IsStart info s address
starts_are {P = P} info s address = (is_start, held) where
  infos : ProviderInfos
  infos = info s.provider

  procedures : List ModuleProcedure
  procedures = procedures_of_modules infos 0 s.type_inputs.modules

  globals : List GlobalFunction
  globals = global_functions_of s

  listed_as : (p : ModuleProcedure) → IsListed infos 0 s.type_inputs.modules p
      → rva s.address_map p.offset ≡ Some (record { 0 = address }) → IsProcedureStart info s address
  listed_as p of there =
      let same : 0 + of.index ≡ of.index = omega arith in
      record { module_index = of.index; procedure = p; listed = rw of.is (rw same at of.listed); at = there }

  is_start : Contains (start_addresses info s) address → IsStart info s address
  is_start h = elim (starts_cases s.address_map [] (start_section_offsets info s) address h) [
    | inl none ↦ absurd (omega (arith, none.1))
    | inr found ↦ elim (Contains-append_cases (map (λ f. f.start) globals)
        (map (λ p. p.offset) procedures) found.section_offset found.listed) [
          | inl first ↦ let of = image (λ (f : GlobalFunction). f.start) globals found.section_offset first in
              inl (record { function = of.0; listed = of.1; at = rw of.2 found.at })
          | inr second ↦ let of = image (λ (p : ModuleProcedure). p.offset) procedures found.section_offset second in
              inr (listed_as of.0 (listed_from infos 0 s.type_inputs.modules of.0 of.1) (rw of.2 found.at))
        ]
  ]

  in_module : (module_index : ℕ) (p : ModuleProcedure) (found : Option Module)
      → slice_get s.type_inputs.modules module_index ≡ found
      → Contains (procedures_of_module infos s.type_inputs.modules module_index) p → Contains procedures p
  in_module module_index p None is h = absurd (omega (arith, (rw is at h).1))
  in_module module_index p (Some m) is h =
      let same : 0 + module_index ≡ module_index = omega arith in
      listed_in infos 0 s.type_inputs.modules p module_index m is (rw same (rw is at h))

  held : IsStart info s address → Contains (start_addresses info s) address
  held (inl g) = starts_in s.address_map [] (start_section_offsets info s) g.function.start address
      (Contains-append_left (map (λ f. f.start) globals) (map (λ p. p.offset) procedures) g.function.start
      (in_image (λ (f : GlobalFunction). f.start) globals g.function g.listed)) g.at
  held (inr p) =
      let found = slice_get s.type_inputs.modules p.module_index in
      let listed = in_module p.module_index p.procedure found refl p.listed in
      starts_in s.address_map [] (start_section_offsets info s) p.procedure.offset address
      (Contains-append_right (map (λ f. f.start) globals) (map (λ p. p.offset) procedures) p.procedure.offset
      (in_image (λ (p : ModuleProcedure). p.offset) procedures p.procedure listed)) p.at
