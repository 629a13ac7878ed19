-- What all records of a file say of a module whose code has names.
use Rattle.std.proofs.Common.{◌≡◌, ◌≢◌, ◌∙◌, ℕ, zero, suc, ◌+◌, ◌-◌, ◌<◌, ◌==◌, Bool, true, false, List, [], ◌∷◌, ◌++◌}
use Rattle.std.proofs.Common.{length, map, Option, Some, None, Ok, refl, sym, ap, subst, arith}
use Rattle.std.proofs.lemmas.Bool.{eqb-true, eqb-false}
use Rattle.std.proofs.lemmas.Option.{same_Some, slice_get-map, slice_get-get_or, unwrap_or-slice_get}
use Rattle.std.specs.Prelude.{nat_le, fold, slice_get, slice_set, option_map, if◌then◌else◌}
use Rattle.std.specs.List.{AllByRecursion}
use Rattle.std.specs.Option.{option_or}
use Rattle.pdb_records.specs.declared.symbols.Symbol.{Symbol}
use Rattle.pdb_msf.specs.Msf.{Msf}
use Rattle.pdb_codeview.specs.Places.{place}
use Rattle.pdb_dbi.specs.declared.module_substream.ModuleStream.{ModuleStream}
use Rattle.pdb_container.proofs.ModuleLemmas.{count_of_places}
use Rattle.pdb_container.specs.DebugRecords.{global_symbols, module_infos, streams_of_modules}
use Rattle.pdb_container.specs.FunctionsByStart.{FunctionStart, any_function, symbols_of}
use Rattle.pdb_container.specs.ModulePlaces.{ModuleOrFault, PlaceOrFault, module_at, module_of, module_places}
use Rattle.pdb_container.specs.ModulePlaces.{modules_read}
use Rattle.pdb_container.specs.UnnamedCode.{Chunk, CodeOfModule, separated_from, changed_at, code_from, code_in_module}
use Rattle.pdb_container.specs.UnnamedCode.{code_of_module, named, named_modules, renamed_symbol, renamed_symbols}
use Rattle.pdb_file_laws.specs.ModulesAlone.{HasNamedCode, IsSaidAlone}

-- a list that was set at a place is as it was at the others
pub set_elsewhere : {A : Type 0} (items : List A) (i j : ℕ) (item : A) → i ≢ j
    → slice_get (slice_set items i item) j ≡ slice_get items j
set_elsewhere [] i j item other = refl
set_elsewhere (x ∷ items) zero zero item other = absurd (other refl)
set_elsewhere (x ∷ items) zero (suc j) item other = refl
set_elsewhere (x ∷ items) (suc i) zero item other = refl
set_elsewhere (x ∷ items) (suc i) (suc j) item other = set_elsewhere items i j item (λ same. other (ap suc same))

-- so is one that was changed there by what stood there, or wasn't where nothing did
changed_from : {A : Type 0} (items : List A) (i j : ℕ) (change : A → A) → i ≢ j → (found : Option A)
    → slice_get (elim found as (λ f. List A) [ None ↦ items | Some item ↦ slice_set items i (change item) ]) j
    ≡ slice_get items j
changed_from items i j change other None = refl
changed_from items i j change other (Some item) = set_elsewhere items i j (change item) other

-- a list that was changed at a place is as it was at the others
changed_elsewhere : {A : Type 0} (items : List A) (i j : ℕ) (change : A → A) → i ≢ j
    → slice_get (changed_at i change items) j ≡ slice_get items j
changed_elsewhere items i j change other = changed_from items i j change other (slice_get items i)

-- none of this code is of the module at a position
abbrev AllElsewhere : ℕ → List CodeOfModule → Type 0
AllElsewhere position codes = AllByRecursion (λ code. code.module_index ≢ position) codes

-- the module at a position stays as it is where this code is named
abbrev Stays : ℕ → (ℕ → Option FunctionStart) → List CodeOfModule → Type 0
Stays position function_there codes = (room : ℕ) (modules : List ModuleOrFault)
    → slice_get (fold named modules (renamed_symbols function_there room codes)) position ≡ slice_get modules position

-- where code of another module is named first, the module at a position is what the rest of the code leaves of it
named_elsewhere : (position room : ℕ) (code : CodeOfModule) (codes : List CodeOfModule)
    (function_there : ℕ → Option FunctionStart) (function : FunctionStart) → code.module_index ≢ position
    → Stays position function_there codes → (modules : List ModuleOrFault) (fits : Bool)
    → slice_get (fold named modules (if fits
    then renamed_symbol code function ∷ renamed_symbols function_there (room - length function.name) codes
    else renamed_symbols function_there room codes)) position ≡ slice_get modules position
named_elsewhere position room code codes function_there function other rest modules true =
    rest (room - length function.name) (named modules (renamed_symbol code function))
    ∙ changed_elsewhere modules code.module_index position _ other
named_elsewhere position room code codes function_there function other rest modules false = rest room modules

-- a value where there is none, or one by what there is
by_option : {A B : Type 0} → B → (A → B) → Option A → B
by_option none some None = none
by_option none some (Some value) = some value

-- it is so too where that code may have no function
found_elsewhere : (position room : ℕ) (code : CodeOfModule) (codes : List CodeOfModule)
    (function_there : ℕ → Option FunctionStart) → code.module_index ≢ position
    → Stays position function_there codes → (modules : List ModuleOrFault) (found : Option FunctionStart)
    → slice_get (fold named modules (by_option (renamed_symbols function_there room codes)
    (λ function. if nat_le (length function.name) room
    then renamed_symbol code function ∷ renamed_symbols function_there (room - length function.name) codes
    else renamed_symbols function_there room codes) found)) position ≡ slice_get modules position
unfolding by_option
found_elsewhere position room code codes function_there other rest modules None = rest room modules
found_elsewhere position room code codes function_there other rest modules (Some function) =
    named_elsewhere position room code codes function_there function other rest modules
    (nat_le (length function.name) room)

-- the module at a position stays as it is where code of others is named
stays : (position : ℕ) (function_there : ℕ → Option FunctionStart) (codes : List CodeOfModule)
    → AllElsewhere position codes → Stays position function_there codes
unfolding by_option
stays position function_there [] elsewhere room modules = refl
stays position function_there (code ∷ codes) elsewhere room modules =
    found_elsewhere position room code codes function_there elsewhere.0
    (stays position function_there codes elsewhere.1) modules
    (option_or code.own (function_there (place code.code.parent_offset)))

-- two lists of code of other modules make one
both_elsewhere : (position : ℕ) (first second : List CodeOfModule) → AllElsewhere position first
    → AllElsewhere position second → AllElsewhere position (first ++ second)
both_elsewhere position [] second none others = others
both_elsewhere position (code ∷ first) second elsewhere others =
    (elsewhere.0, both_elsewhere position first second elsewhere.1 others)

-- the code of a module is of another than the one at a position, where it stands elsewhere
other_elsewhere : (position index : ℕ) (symbols : List Symbol) (codes : List Chunk) → index ≢ position
    → AllElsewhere position (map (code_in_module index symbols) codes)
other_elsewhere position index symbols [] other = tt
other_elsewhere position index symbols (code ∷ codes) other =
    (other, other_elsewhere position index symbols codes other)

-- it is so too of a module that has no code without a name if it is the one at the position
first_elsewhere : (position index : ℕ) (symbols : List Symbol)
    → (index ≡ position → code_of_module position symbols ≡ []) → (same : Bool) → (index == position) ≡ same
    → AllElsewhere position (code_of_module index symbols)
first_elsewhere position index symbols none true same =
    let here : (index ≡ position) = eqb-true index position same in
    subst (AllElsewhere position) (sym (ap (λ i. code_of_module i symbols) here ∙ none here)) tt
first_elsewhere position index symbols none false same =
    other_elsewhere position index symbols (separated_from 0 None symbols) (eqb-false index position same)

-- so is all code of modules, where the one at the position has no code without a name
code_elsewhere : (position index : ℕ) (modules : List ModuleOrFault)
    → ((j : ℕ) (read : ModuleOrFault) → slice_get modules j ≡ Some read → index + j ≡ position
    → code_of_module position (symbols_of read) ≡ []) → AllElsewhere position (code_from index modules)
code_elsewhere position index [] none = tt
code_elsewhere position index (read ∷ modules) none =
    both_elsewhere position (code_of_module index (symbols_of read)) (code_from (index + 1) modules)
    (first_elsewhere position index (symbols_of read) (λ here. none 0 read refl (omega arith))
    (index == position) refl)
    (code_elsewhere position (index + 1) modules
    (λ j found at there. none (suc j) found at (omega arith)))

-- what is read of the module at a position is what its own stream says
read_there : (msf : Msf) (streams : List ModuleStream) (position : ℕ) → position < length streams
    → slice_get (modules_read msf streams) position ≡ Some (module_at msf streams position)
unfolding modules_read module_at
read_there msf streams position within =
    let places : List PlaceOrFault = module_places msf streams in
    slice_get-map (module_of msf) places position
    ∙ ap (λ place. option_map (module_of msf) place)
    (slice_get-get_or places position (Ok None) (omega (arith, count_of_places msf streams)))
    ∙ ap (λ place. Some (module_of msf place)) (sym (unwrap_or-slice_get places position (Ok None)))

-- all records say of a module whose code has names what its own stream does
pub said_alone : (msf : Msf) (position : ℕ) → position < length (streams_of_modules msf) → HasNamedCode msf position
    → IsSaidAlone msf position
unfolding module_infos named_modules
said_alone msf position within named_code =
    let streams : List ModuleStream = streams_of_modules msf in
    let modules : List ModuleOrFault = modules_read msf streams in
    let there : (slice_get modules position ≡ Some (module_at msf streams position)) =
    read_there msf streams position within in
    stays position (any_function modules (global_symbols msf)) (code_from 0 modules)
    (code_elsewhere position 0 modules (λ j read found at.
    let here : (j ≡ position) = omega arith in
    let same : (module_at msf streams position ≡ read) =
    same_Some _ _ (sym there ∙ sym (ap (slice_get modules) here) ∙ found) in
    subst (λ m. code_of_module position (symbols_of m) ≡ []) same named_code)) (length msf.file) modules
    ∙ there
