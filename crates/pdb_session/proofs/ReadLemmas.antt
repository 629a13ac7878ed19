-- Modules that are read by themselves are those of the file's records, where their code has names.
use Rattle.std.proofs.Common.{◌≡◌, ◌∙◌, ℕ, ◌<◌, ◌≤◌, ◌⊎◌, inl, inr, Bool, true, List, [], ◌∷◌}
use Rattle.std.proofs.Common.{All, map, set}
use Rattle.std.proofs.lemmas.Bool.{cases_eq, cases_order}
use Rattle.std.proofs.Common.{Option, Some, None, Ok, Err, length, length-set, refl, sym, ap, subst, arith}
use Rattle.std.proofs.lemmas.List.{get_or-set_same, length-map}
use Rattle.std.proofs.lemmas.List.Elements.{All-cons, All-head, All-nil, All-tail}
use Rattle.std.proofs.lemmas.Option.{slice_get-get_or, slice_get-map, slice_get_past}
use Rattle.std.specs.Prelude.{fold, option_map, slice_get, slice_set, unwrap_or}
use Rattle.pdb_msf.specs.Msf.{Msf}
use Rattle.pdb_msf.specs.MsfLayout.{MappedFile, with_bytes}
use Rattle.pdb_dbi.specs.declared.module_substream.ModuleStream.{ModuleStream}
use Rattle.pdb_container.proofs.ModuleLemmas.{count_of_places}
use Rattle.pdb_container.specs.DebugRecords.{global_symbols, module_infos, streams_of_modules}
use Rattle.pdb_container.specs.FunctionsByStart.{any_function, symbols_of}
use Rattle.pdb_container.specs.ModulePlaces.{ModuleOrFault, PlaceOrFault, module_at, module_of, module_places}
use Rattle.pdb_container.specs.ModulePlaces.{modules_read, place_at}
use Rattle.pdb_container.specs.UnnamedCode.{separated_from, code_from, code_in_module, named}
use Rattle.pdb_container.specs.UnnamedCode.{named_module, named_modules, renamed_symbols}
use Rattle.pdb_file_laws.proofs.ModuleLemmas.{said_alone, set_elsewhere}
use Rattle.pdb_repairs.specs.Repaired.{repaired_read, repairs_of_read}
use Rattle.pdb_session.specs.FileParts.{AreModulesOf, HasNames, HasRepairsOf, IsModuleOf, IsReadFrom, module_in}
use Rattle.pdb_session.specs.declared.module_reads.ModuleRead.{ModuleRead}

-- a position lies within a list or after it
pub within_or_behind : (position count : ℕ) → (position < count) ⊎ (count ≤ position)
within_or_behind position count = by_order (cases_order position count) where
  by_order : (position ≡ count) ⊎ ((position < count) ⊎ (count < position))
      → (position < count) ⊎ (count ≤ position)
  by_order (inl same) = inr (omega (arith, same))
  by_order (inr (inl below)) = inl below
  by_order (inr (inr above)) = inr (omega (arith, above))

-- what holds of each element by two facts
pub all_by_both : {X : Type 0} (P Q R : X → Type 0) → ((x : X) → P x → Q x → R x) → (xs : List X) → All P xs
    → All Q xs → All R xs
all_by_both P Q R by [] ps qs = All-nil R
all_by_both P Q R by (x ∷ xs) ps qs =
    All-cons R x xs (by x (All-head P x xs ps) (All-head Q x xs qs))
    (all_by_both P Q R by xs (All-tail P x xs ps) (All-tail Q x xs qs))

-- a list with one element changed is as long as before
length_changed : {A : Type 0} (items : List A) (position : ℕ) (change : A → A) (found : Option A)
    → length (elim found as (λ f. List A) [
      | None ↦ items
      | Some item ↦ slice_set items position (change item)
    ]) ≡ length items
length_changed items position change None = refl
length_changed items position change (Some item) = length-set items position (change item)

-- a list that is changed by each of others in turn is as long as before, where each change leaves it so
length_folded : {A B : Type 0} (change : List A → B → List A)
    → ((items : List A) (by : B) → length (change items by) ≡ length items) → (changes : List B) (items : List A)
    → length (fold change items changes) ≡ length items
length_folded change same [] items = refl
length_folded change same (by ∷ changes) items = length_folded change same changes (change items by) ∙ same items by

-- the records have as many modules as the file has places for them
pub count_of_modules : (msf : Msf) → length (module_infos msf) ≡ length (module_places msf (streams_of_modules msf))
unfolding module_infos named_modules modules_read
count_of_modules msf =
    let places : List PlaceOrFault = module_places msf (streams_of_modules msf) in
    length_folded named (λ modules renamed_symbol.
    length_changed modules renamed_symbol.module_index (named_module renamed_symbol.position renamed_symbol.procedure)
    (slice_get modules renamed_symbol.module_index))
    (renamed_symbols (any_function (map (module_of msf) places) (global_symbols msf)) (length msf.file)
    (code_from 0 (map (module_of msf) places))) (map (module_of msf) places)
    ∙ length-map places (module_of msf)

-- what is repaired of a module has the symbols that it had
same_symbols : (read : ModuleOrFault) → symbols_of (repaired_read read) ≡ symbols_of read
same_symbols (Ok (Some info)) = refl
same_symbols (Ok None) = refl
same_symbols (Err fault) = refl

-- after the last module nothing is known
pub nothing_behind : (modules : List ModuleOrFault) (position : ℕ) → length modules ≤ position
    → module_in modules position ≡ Ok None
nothing_behind modules position past =
    ap (λ (found : Option ModuleOrFault). unwrap_or found (Ok None)) (slice_get_past modules position past)

-- repairing a list of modules repairs the module at each position
module_repaired : (modules : List ModuleOrFault) (position : ℕ)
    → module_in (map repaired_read modules) position ≡ repaired_read (module_in modules position)
module_repaired modules position =
    ap (λ (found : Option ModuleOrFault). unwrap_or found (Ok None)) (slice_get-map repaired_read modules position)
    ∙ by_found (slice_get modules position)
  where
    by_found : (found : Option ModuleOrFault)
        → unwrap_or (option_map repaired_read found) (Ok None) ≡ repaired_read (unwrap_or found (Ok None))
    by_found None = refl
    by_found (Some read) = refl

-- a module that is read by itself is that of the records, where all its code has a name
unrepaired_alone : (msf : Msf) (read : ModuleRead)
    → read.info ≡ repaired_read (module_of msf (place_at (module_places msf (streams_of_modules msf)) read.position))
    → HasNames read
    → module_in (module_infos msf) read.position
    ≡ module_of msf (place_at (module_places msf (streams_of_modules msf)) read.position)
unfolding module_at
unrepaired_alone msf read is named_code =
    by_place (within_or_behind read.position (length streams))
  where
    streams : List ModuleStream
    streams = streams_of_modules msf

    places : List PlaceOrFault
    places = module_places msf streams

    alone : ModuleOrFault
    alone = module_of msf (place_at places read.position)

    none_apart : separated_from 0 None (symbols_of alone) ≡ []
    none_apart = ap (λ symbols. separated_from 0 None symbols) (sym (ap symbols_of is ∙ same_symbols alone)) ∙ named_code

    by_place : (read.position < length streams) ⊎ (length streams ≤ read.position)
        → module_in (module_infos msf) read.position ≡ alone
    by_place (inl within) =
        ap (λ (found : Option ModuleOrFault). unwrap_or found (Ok None))
        (said_alone msf read.position within (ap (map (code_in_module read.position (symbols_of alone))) none_apart))
    by_place (inr past) =
        nothing_behind (module_infos msf) read.position
        (omega (arith, past, count_of_modules msf, count_of_places msf streams))
        ∙ sym (ap (λ (found : Option PlaceOrFault). module_of msf (unwrap_or found (Ok None)))
        (slice_get_past places read.position (omega (arith, past, count_of_places msf streams))))

-- a module that was read by itself, repaired, is that of the repaired records
module_alone : (file : List ℕ) (mapped : MappedFile) (read : ModuleRead)
    → IsReadFrom file mapped (module_places (with_bytes file mapped) (streams_of_modules (with_bytes file mapped))) read
    → HasNames read → IsModuleOf (map repaired_read (module_infos (with_bytes file mapped))) read
module_alone file mapped read from names =
    module_repaired (module_infos (with_bytes file mapped)) read.position
    ∙ ap repaired_read (unrepaired_alone (with_bytes file mapped) read from.info names)
    ∙ sym from.info

-- and its repairs are those of the records
repairs_alone : (file : List ℕ) (mapped : MappedFile) (read : ModuleRead)
    → IsReadFrom file mapped (module_places (with_bytes file mapped) (streams_of_modules (with_bytes file mapped))) read
    → HasNames read → HasRepairsOf (module_infos (with_bytes file mapped)) read
repairs_alone file mapped read from names =
    from.repairs
    ∙ ap (repairs_of_read read.position) (sym (unrepaired_alone (with_bytes file mapped) read from.info names))

-- so are all modules that were read
pub modules_alone : (file : List ℕ) (mapped : MappedFile) (places : List PlaceOrFault)
    → places ≡ module_places (with_bytes file mapped) (streams_of_modules (with_bytes file mapped))
    → (reads : List ModuleRead) → All (IsReadFrom file mapped places) reads → All HasNames reads
    → All (IsModuleOf (map repaired_read (module_infos (with_bytes file mapped)))) reads
modules_alone file mapped places are reads read_from named_code =
    all_by_both (IsReadFrom file mapped places) HasNames
    (IsModuleOf (map repaired_read (module_infos (with_bytes file mapped))))
    (λ read from names. module_alone file mapped read (subst (λ at. IsReadFrom file mapped at read) are from) names)
    reads read_from named_code

-- and all of their repairs
pub all_repairs_alone : (file : List ℕ) (mapped : MappedFile) (places : List PlaceOrFault)
    → places ≡ module_places (with_bytes file mapped) (streams_of_modules (with_bytes file mapped))
    → (reads : List ModuleRead) → All (IsReadFrom file mapped places) reads → All HasNames reads
    → All (HasRepairsOf (module_infos (with_bytes file mapped))) reads
all_repairs_alone file mapped places are reads read_from named_code =
    all_by_both (IsReadFrom file mapped places) HasNames (HasRepairsOf (module_infos (with_bytes file mapped)))
    (λ read from names. repairs_alone file mapped read (subst (λ at. IsReadFrom file mapped at read) are from) names)
    reads read_from named_code

-- the module at a position is what was put there
put_there : (modules : List ModuleOrFault) (position : ℕ) (info : ModuleOrFault) → position < length modules
    → module_in (slice_set modules position info) position ≡ info
put_there modules position info within =
    ap (λ (found : Option ModuleOrFault). unwrap_or found (Ok None))
    (slice_get-get_or (set modules position info) position info
    (omega (arith, within, length-set modules position info)))
    ∙ get_or-set_same modules position info info within

-- where one module more is put at its position and marked, the same is known of each module that is marked
pub put_one : (whole modules : List ModuleOrFault) (marks : List Bool) (read : ModuleRead) → IsModuleOf whole read
    → read.position < length modules → AreModulesOf whole marks modules
    → AreModulesOf whole (slice_set marks read.position true) (slice_set modules read.position read.info)
put_one whole modules marks read is within are position marked = by_place (cases_eq read.position position) where
  by_place : (read.position ≡ position) ⊎ (read.position ≡ position → ⊥)
      → module_in (slice_set modules read.position read.info) position ≡ module_in whole position
  by_place (inl same) =
      subst (λ p. module_in (slice_set modules read.position read.info) p ≡ module_in whole p) same
      (put_there modules read.position read.info within ∙ sym is)
  by_place (inr differ) =
      ap (λ (found : Option ModuleOrFault). unwrap_or found (Ok None))
      (set_elsewhere modules read.position position read.info differ)
      ∙ are position (ap (λ (found : Option Bool). unwrap_or found true)
      (sym (set_elsewhere marks read.position position true differ)) ∙ marked)

-- what is known of modules is known of equal lists
pub same_modules : (whole : List ModuleOrFault) (marks marks' : List Bool) (modules modules' : List ModuleOrFault)
    → marks' ≡ marks → modules' ≡ modules → AreModulesOf whole marks modules → AreModulesOf whole marks' modules'
same_modules whole marks marks' modules modules' same_marks same_infos are =
    subst (λ m. AreModulesOf whole m modules') (sym same_marks)
    (subst (λ m. AreModulesOf whole marks m) (sym same_infos) are)
