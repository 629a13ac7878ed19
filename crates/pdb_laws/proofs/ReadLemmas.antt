-- What reading a type or an id is refused for.
use Rattle.std.proofs.Common.{◌^◌, ℕ, Bool, true, false, cond, List, Option, Some, None, Ok, Err, Result}
use Rattle.std.specs.Prelude.{⊤, nat_lt, slice_get}
use Rattle.pdb_records.specs.Readings.{Read}
use Rattle.pdb_records.specs.References.{imported, exported}
use Rattle.pdb_records.specs.Strings.{string_at}
use Rattle.pdb_records.specs.declared.error.StreamError.{StreamError}
use Rattle.pdb_records.specs.declared.error.Error as records
use Rattle.pdb_records.specs.declared.error.Error.TheVariants.{Stream, TypeNotFound, UnimplementedTypeKind}
use Rattle.pdb_records.specs.declared.error.Error.TheVariants.{CrossModuleRefNotFound, StringNotFound}
use Rattle.pdb_records.specs.declared.debug_information.Module.{Module}
use Rattle.pdb_records.specs.declared.modules.ModuleInfo.{ModuleInfo}
use Rattle.pdb_records.specs.declared.strings.StringRef.{StringRef}
use Rattle.pdb_records.specs.declared.types.Item.{Item}
use Rattle.pdb_records.specs.declared.types.TypeIndex.{TypeIndex}
use Rattle.pdb_records.specs.declared.types.TypeData.{TypeData}
use Rattle.pdb_records.specs.declared.ids.IdIndex.{IdIndex}
use Rattle.pdb_records.specs.declared.ids.IdData.{IdData}
use Rattle.pdb_errors.specs.declared.error.Error.{Error}
use Rattle.pdb_types.specs.declared.flags.TypeFormatterFlags.{TypeFormatterFlags}
use Rattle.pdb_types.specs.declared.read_error.Part.{Part}
use Rattle.pdb_types.specs.declared.read_error.Part.TheVariants.{Imports, Exports}
use Rattle.pdb_errors.specs.declared.error.Error.TheVariants.{PdbError, CantResolveCrossModuleRefWithoutStringTable}
use Rattle.pdb_errors.specs.declared.error.Error.TheVariants.{OutOfRangeModuleIndex, ModuleInfoNotFound}
use Rattle.pdb_errors.specs.declared.error.Error.TheVariants.{LocalIndexNotInExports, ModuleImportsUnsuccessful}
use Rattle.pdb_errors.specs.declared.error.Error.TheVariants.{ModuleExportsUnsuccessful}
use Rattle.pdb_errors.specs.Errors.{ErrorView, Plain, NoModuleNamed}
use Rattle.pdb_records.specs.Names.{lossy}
use Rattle.std.specs.Str.{str_to_ascii_lowercase}
use Rattle.pdb_types.specs.ModuleNames.{last_position_from, is_named}
use Rattle.pdb_types.specs.ItemMap.{first_item}
use Rattle.pdb_errors.specs.Outcomes.{and_then, streamed}
use Rattle.pdb_types.specs.ItemReading.{said, entry, reading}
use Rattle.pdb_types.specs.Resolution.{provided_info, info_of, module_info, imports, exports, unbroken}
use Rattle.pdb_types.specs.Resolution.{answered, texts, found_text, found_module, module_named, module_under}
use Rattle.pdb_types.specs.Resolution.{found_export, export_of, import_target, across, resolved}
use Rattle.pdb_types.specs.TypeInputs.{LinkInputs}
use Rattle.pdb_types.specs.TypeSizes.{read_type}
use Rattle.pdb_types.specs.ReadError.{ReadErrorView, Missing, Unimplemented, Refused, Broken, read_error_view_by}
use Rattle.pdb_type_texts.specs.PrintInputs.{PrintInputs, type_at, id_at, print_inputs_of}

-- errors of the records, and of indices that lead to other modules, are among these
pub record HasReadErrors (Good : ErrorView → Type 0) : Type 0 where
  pub of_records : (e : records.Error) → Good (Plain (PdbError e))
  pub no_texts : Good (Plain CantResolveCrossModuleRefWithoutStringTable)
  pub past_list : (module_index : ℕ) → Good (Plain (OutOfRangeModuleIndex module_index))
  pub no_info : (module_index : ℕ) → Good (Plain (ModuleInfoNotFound module_index))
  pub no_module : (name : List ℕ) → Good (NoModuleNamed name)
  pub no_export : (local : ℕ) → Good (Plain (LocalIndexNotInExports local))
  pub imports_failed : Good (Plain ModuleImportsUnsuccessful)
  pub exports_failed : Good (Plain ModuleExportsUnsuccessful)

-- why something can't be read is among these errors, or it is missing or of no known kind
abbrev pub IsGoodReadError : (ErrorView → Type 0) → ReadErrorView → Type 0
IsGoodReadError Good (Missing index) = ⊤
IsGoodReadError Good (Unimplemented kind) = ⊤
IsGoodReadError Good (Refused e) = Good e
IsGoodReadError Good (Broken part e) = Good e

-- a reading is refused for nothing but these errors
abbrev pub IsGoodReading : {A : Type 0} → (ErrorView → Type 0) → Result A ReadErrorView → Type 0
IsGoodReading Good (Ok answer) = ⊤
IsGoodReading Good (Err read_error_view) = IsGoodReadError Good read_error_view

-- all print inputs are refused for nothing but these errors when they are read
pub record AreGoodPrintInputs (Good : ErrorView → Type 0) (w : PrintInputs) : Type 0 where
  pub types : (index : ℕ) → IsGoodReading Good (w.read index)
  pub ids : (index : ℕ) → IsGoodReading Good (w.read_id index)

-- one reading after another
pub reads_then : {A B : Type 0} (Good : ErrorView → Type 0) (r : Result A ReadErrorView) (next : A
    → Result B ReadErrorView) → IsGoodReading Good r → ((answer : A) → IsGoodReading Good (next answer))
    → IsGoodReading Good (and_then r next)
reads_then Good (Ok answer) next first second = second answer
reads_then Good (Err read_error_view) next first second = first

-- where these errors are among some
module _ (Good : ErrorView → Type 0) (has : HasReadErrors Good) where
  -- an error of the records
  good_record : (e : records.Error) → IsGoodReadError Good (read_error_view_by e)
  good_record (Stream fault) = has.of_records (Stream fault)
  good_record (TypeNotFound index) = tt
  good_record (UnimplementedTypeKind kind) = tt
  good_record (CrossModuleRefNotFound index) = has.of_records (CrossModuleRefNotFound index)
  good_record (StringNotFound reference) = has.of_records (StringNotFound reference)

  -- what an entry says
  good_said : {I D : Type 0} (fault : Option StreamError) (number : ℕ) (item : Option (Item I D)) → IsGoodReading Good (said fault number item)
  good_said None number None = good_record (TypeNotFound number)
  good_said (Some fault) number None = good_record (Stream fault)
  good_said {D = D} fault number (Some item) = by_content item.content where
    by_content : (content : Result D records.Error) → IsGoodReading Good (answered content)
    by_content (Ok answer) = tt
    by_content (Err e) = good_record e

  -- an answer is refused for nothing but these errors
  abbrev IsGoodAnswer : {A : Type 0} → (ErrorView → Type 0) → Result A Error → Type 0
  IsGoodAnswer Good (Ok answer) = ⊤
  IsGoodAnswer Good (Err e) = Good (Plain e)

  -- the records of a module
  good_info : (w : LinkInputs) (module_index : ℕ) → IsGoodAnswer Good (module_info w module_index)
  good_info w module_index = by_module (slice_get w.modules module_index) where
    by_answer : (answer : Result (Option ModuleInfo) StreamError) → IsGoodAnswer Good (provided_info module_index answer)
    by_answer (Ok (Some info)) = tt
    by_answer (Ok None) = has.no_info module_index
    by_answer (Err fault) = has.of_records (Stream fault)

    by_module : (m : Option Module) → IsGoodAnswer Good (info_of w module_index m)
    by_module None = has.past_list module_index
    by_module (Some m) = by_answer (w.info module_index m)

  -- a stream of them
  good_stream : {A : Type 0} (w : LinkInputs) (module_index : ℕ) (stream : ModuleInfo → Result A StreamError)
      → IsGoodAnswer Good (and_then (module_info w module_index) (λ info. streamed (stream info)))
  good_stream {A = A} w module_index stream =
      by_info (module_info w module_index) (good_info w module_index) where
        by_stream : (content : Result A StreamError) → IsGoodAnswer Good (streamed content)
        by_stream (Ok content) = tt
        by_stream (Err fault) = has.of_records (Stream fault)

        by_info : (info : Result ModuleInfo Error) → IsGoodAnswer Good info
            → IsGoodAnswer Good (and_then info (λ info. streamed (stream info)))
        by_info (Ok info) good = by_stream (stream info)
        by_info (Err e) good = good

  -- a part of the records
  good_part : {A : Type 0} (part : Part) (content : Result A Error)
      → IsGoodAnswer Good content → IsGoodReading Good (unbroken part content)
  good_part part (Ok content) good = tt
  good_part part (Err e) good = good

  -- the index that a module exports
  good_export : (w : LinkInputs) (local module_index : ℕ) → IsGoodReading Good (export_of w local module_index)
  good_export w local module_index =
      reads_then Good (unbroken (Exports module_index) (exports w module_index))
      (λ list. found_export local (exported local list))
      (good_part (Exports module_index) (exports w module_index)
      (good_stream w module_index (λ info. info.exports)))
      (λ list. by_export (exported local list))
    where
      by_export : (found : Option ℕ) → IsGoodReading Good (found_export local found)
      by_export None = has.no_export local
      by_export (Some index) = tt

  -- the index that an import leads to
  good_target : (w : LinkInputs) (strings : List (StringRef × List ℕ)) (reference : StringRef) (local : ℕ)
      → IsGoodReading Good (import_target w strings (reference, local))
  good_target w strings reference local =
      reads_then Good (module_under w.modules strings reference) (λ module_index. export_of w local module_index)
      (reads_then Good (found_text reference (string_at reference strings)) (λ name. module_named w.modules name)
      (by_text (string_at reference strings)) (λ name. by_position name (last_position_from 0 (is_named name) w.modules)))
      (λ module_index. good_export w local module_index)
    where
      by_text : (text : Option (List ℕ)) → IsGoodReading Good (found_text reference text)
      by_text None = good_record (StringNotFound reference.0)
      by_text (Some text) = tt

      by_position : (name : List ℕ) (found : Option ℕ) → IsGoodReading Good (found_module name found)
      by_position name None = has.no_module (str_to_ascii_lowercase (lossy name))
      by_position name (Some module_index) = tt

  -- an index across modules
  good_across : (w : LinkInputs) (module_index index : ℕ) → IsGoodReading Good (across w module_index index)
  good_across w module_index index =
      reads_then Good (texts w.strings) _ (by_texts w.strings) (λ strings.
      reads_then Good (unbroken (Imports module_index) (imports w module_index)) _
      (good_part (Imports module_index) (imports w module_index)
      (good_stream w module_index (λ info. info.imports))) (λ list.
      reads_then Good (answered (imported list index)) _ (by_import (imported list index))
      (λ target. good_target w strings target.0 target.1)))
    where
      by_texts : (strings : Option (List (StringRef × List ℕ))) → IsGoodReading Good (texts strings)
      by_texts None = has.no_texts
      by_texts (Some strings) = tt

      by_import : (target : Result (StringRef × ℕ) records.Error) → IsGoodReading Good (answered target)
      by_import (Ok target) = tt
      by_import (Err e) = good_record e

  -- an index that is resolved, and its entry
  good_reading : {I D : Type 0} (number_of : I → ℕ) (w : LinkInputs) (list : Read (Item I D)) (module_index index : ℕ)
      → IsGoodReading Good (reading number_of w list module_index index)
  good_reading {D = D} number_of w list module_index index = by_size (nat_lt index (2 ^ 32)) where
    by_width : (t : Bool) → IsGoodReading Good (cond t (Ok index) (across w module_index index))
    by_width true = tt
    by_width false = good_across w module_index index

    next : ℕ → Result (ℕ × D) ReadErrorView
    next number = and_then (entry number_of list number) (λ content. Ok (number, content))

    by_size : (t : Bool) → IsGoodReading Good
        (cond t (and_then (resolved w module_index index) next) (Err (Missing index)))
    by_size true =
        reads_then Good (resolved w module_index index) next (by_width (nat_lt index (2 ^ 31))) (λ number.
        reads_then Good (entry number_of list number) (λ content. Ok (number, content))
        (good_said list.fault number (first_item number_of number list.items)) (λ content. tt))
    by_size false = tt

  -- all print inputs are refused for nothing but errors of reading
  pub print_inputs_are_good : (link_inputs : LinkInputs) (types : Read (Item TypeIndex TypeData)) (ids : Read (Item IdIndex IdData))
      (pointer : ℕ) (flags : TypeFormatterFlags) (module_index : ℕ)
      → AreGoodPrintInputs Good (print_inputs_of link_inputs types ids pointer flags module_index)
  unfolding type_at id_at
  print_inputs_are_good link_inputs types ids pointer flags module_index = record {
    types = λ index. reads_then Good (read_type link_inputs types module_index index) (λ read. Ok read.1)
        (good_reading (λ i. i.0) link_inputs types module_index index) (λ read. tt);
    ids = λ index. reads_then Good (reading (λ i. i.0) link_inputs ids module_index index) (λ read. Ok read.1)
        (good_reading (λ i. i.0) link_inputs ids module_index index) (λ read. tt);
  }
