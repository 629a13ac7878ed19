-- The function info and the frames info of a function agree.
use Rattle.std.proofs.Common.{◌≡◌, ◌∙◌, ℕ, ◌+◌, ◌-◌, ◌<◌, ◌^◌, ◌==◌, ◌&&◌, Bool, true, List, [], ◌∷◌, refl}
use Rattle.std.proofs.Common.{sym, ap, arith, inl, inr}
use Rattle.std.proofs.lemmas.Bool.Decides.{nat_tests}
use Rattle.std.proofs.lemmas.Bool.{cases_lt, and_parts, eqb-true, ltb-true, lt-ltb, le-ltb}
use Rattle.std.specs.Prelude.{Option, Some, None, Ok, find, option_map, option_and_then, nat_lt}
use Rattle.pdb_records.specs.Addresses.{rva, rva_of, numbered_section}
use Rattle.pdb_records.specs.Names.{lossy}
use Rattle.pdb_records.specs.declared.addresses.AddressRange.{AddressRange}
use Rattle.pdb_records.specs.declared.addresses.Rva.{Rva}
use Rattle.pdb_records.specs.Provided.{ProviderInfos}
use Rattle.pdb_functions.specs.GlobalFunctions.{GlobalFunction}
use Rattle.pdb_functions.specs.FunctionMatches.{FunctionMatch, found_procedure, found_global, next_global}
use Rattle.pdb_frames.specs.Frame.{FramesInfo}
use Rattle.pdb_functions.specs.FunctionMatches.{function_start}
use Rattle.pdb_addr2line.specs.FrameLaws.{Agree}
use Rattle.pdb_function_info.specs.Frames.{function_size}
use Rattle.pdb_function_info.specs.Function.{FunctionInfo, info_of, global_end, sum_in_32_bits}
use Rattle.pdb_addr2line.specs.Lookups.{found_at, function_at, frames_at}
use Rattle.pdb_function_info.specs.NameTexts.{function_name}
use Rattle.pdb_addr2line.specs.ContextInputs.{ContextInputs, global_functions_of}
use Rattle.pdb_addr2line.proofs.FrameLawLemmas.{map-some, and_then-some, frames_info_somewhere, ended_in_name}

-- what is found passes the test
found_passes : {T : Type 0} (p : T → Bool) (xs : List T) (y : T) → find p xs ≡ Some y → p y ≡ true
found_passes p [] y is = absurd cc
found_passes p (x ∷ xs) y is = grind (arith, nat_tests, found_passes p xs y)

-- an address that fits 32 bits is its number
fits : (n : ℕ) (a : Rva) → rva_of n ≡ Some a → (n < 2 ^ 32) × (a.0 ≡ n)
fits n a is =
    elim (cases_lt n (2 ^ 32)) [
      | inl below ↦ let here = rw (lt-ltb n (2 ^ 32) below) at is in
          let same : n ≡ a.0 = ap number here in (below, sym same)
      | inr above ↦ let none = rw (le-ltb n (2 ^ 32) above) at is in absurd cc
    ]
  where
    number : Option Rva → ℕ
    number None = 0
    number (Some b) = b.0

-- the address of a section offset is that of its section, and the offset
section_offset_address : (sections : List AddressRange) (section offset : ℕ) (a : Rva)
    → rva sections (record { section = section; offset = offset }) ≡ Some a
    → (range : AddressRange) × (numbered_section section sections ≡ Some range)
    × (range.virtual_address + offset < 2 ^ 32) × (a.0 ≡ range.virtual_address + offset)
section_offset_address sections section offset a is =
    let found = and_then-some (λ r. rva_of (r.virtual_address + offset)) (numbered_section section sections) a is in
    let number = fits (found.0.virtual_address + offset) a found.2 in
    (found.0, found.1, number.0, number.1)

-- of two offsets in a section, the address of the later one is that of the earlier one and what lies between
address_between : (sections : List AddressRange) (section first later : ℕ) (a b : Rva) → first < later
    → rva sections (record { section = section; offset = first }) ≡ Some a
    → rva sections (record { section = section; offset = later }) ≡ Some b
    → sum_in_32_bits a.0 (later - first) ≡ Some b.0
address_between sections section first later a b less is_a is_b =
    let here = section_offset_address sections section first a is_a in
    let there = section_offset_address sections section later b is_b in
    let same : here.0 ≡ there.0 = cc in
    let start : here.0.virtual_address ≡ there.0.virtual_address = ap (λ (r : AddressRange). r.virtual_address) same in
    let sum : a.0 + (later - first) ≡ b.0 = omega (arith, here.3, there.3) in
    let small : b.0 < 2 ^ 32 = omega (arith, there.2, there.3) in
    rw (sum, lt-ltb b.0 (2 ^ 32) small) refl

-- a global function ends where its size ends
global_ends : (sections : List AddressRange) (globals : List GlobalFunction) (f : GlobalFunction) (start : Rva)
    (end : Option ℕ)
    → rva sections f.start ≡ Some start → global_end sections (next_global f.start globals) ≡ Some end
    → option_and_then (sum_in_32_bits start.0)
    (option_map (λ next. next.start.offset - f.start.offset) (next_global f.start globals)) ≡ end
global_ends sections globals f start end starts ends = by_next (next_global f.start globals) refl ends where
  by_next : (next : Option GlobalFunction) → next_global f.start globals ≡ next → global_end sections next ≡ Some end
      → option_and_then (sum_in_32_bits start.0) (option_map (λ g. g.start.offset - f.start.offset) next) ≡ end
  by_next None is is_end = cc
  by_next (Some next) is is_end =
      let found = map-some (λ a. Some a.0) (rva sections next.start) end is_end in
      let passes = found_passes (λ g. (g.start.section == f.start.section) && nat_lt f.start.offset g.start.offset)
      globals next is in
      let both = and_parts (next.start.section == f.start.section) (nat_lt f.start.offset next.start.offset) passes in
      let section : next.start.section ≡ f.start.section = eqb-true next.start.section f.start.section both.0 in
      let less : f.start.offset < next.start.offset = ltb-true f.start.offset next.start.offset both.1 in
      address_between sections next.start.section f.start.offset next.start.offset start found.0 less
      (rw section starts) found.1 ∙ found.2

-- the function info of a function by where it starts and ends and by its name
pub record IsInfoOf {P : Type 0} (info : P → ProviderInfos) (s : ContextInputs P) (found : FunctionMatch)
    (start : Rva) (f : FunctionInfo) : Type 0 where
  pub start_rva : start.0 ≡ f.start_rva
  pub end_rva : option_and_then (sum_in_32_bits start.0) (function_size (global_functions_of s) found) ≡ f.end_rva
  pub name : function_name info s.type_inputs (global_functions_of s) found ≡ f.name

-- the function info with these
abbrev info_with : ℕ → Option ℕ → Option (List ℕ) → FunctionInfo
info_with start end name = record { start_rva = start; end_rva = end; name = name }

-- what is there in two options that are the same is the same
some_same : {A : Type 0} {x y : A} → Some x ≡ Some y → x ≡ y
some_same e = cc

-- the function info of a function that starts here
is_info_of : {P : Type 0} (info : P → ProviderInfos) (s : ContextInputs P) (found : FunctionMatch) (start : Rva)
    (f : FunctionInfo)
    → rva s.address_map (function_start found) ≡ Some start
    → info_of info s.type_inputs s.address_map (global_functions_of s) found ≡ Some f → IsInfoOf info s found start f
is_info_of info s (found_procedure m p) start f starts is_info =
    rw (← some_same (rw starts at is_info)) (record { start_rva = refl; end_rva = refl; name = refl })
is_info_of info s (found_global m g) start f starts is_info =
    let globals = global_functions_of s in
    let found = map-some (λ e. info_with start.0 e (option_map lossy g.name))
    (global_end s.address_map (next_global g.start globals)) f (rw starts at is_info) in
    rw (← found.2) (record {
      start_rva = refl;
      end_rva = global_ends s.address_map globals g start found.0 starts found.1;
      name = refl;
    })

-- the function info of the function over an address and its frames info there agree
pub agreed : {P : Type 0} (info : P → ProviderInfos) (s : ContextInputs P) (address : ℕ) (f : FunctionInfo)
    (frames_info : FramesInfo)
    → function_at info s address ≡ Some f → frames_at info s address ≡ Ok (Some frames_info) → Agree f frames_info
agreed info s address f frames_info is answered =
    let over = and_then-some (info_of info s.type_inputs s.address_map (global_functions_of s))
    (found_at info s address) f is in
    let somewhere = frames_info_somewhere info s address over.0 frames_info over.1 answered in
    let there = somewhere.1 in
    let info_here = is_info_of info s over.0 there.start f there.starts over.2 in
    let ended = ended_in_name info s address over.0 frames_info over.1 answered in
    record {
      start_rva = there.start_rva ∙ info_here.start_rva;
      end_rva = there.end_rva ∙ info_here.end_rva;
      name = rw info_here.name at ended;
    }
