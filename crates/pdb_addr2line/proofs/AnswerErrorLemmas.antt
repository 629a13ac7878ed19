-- Errors in place of answers are those of the records.
use Rattle.std.proofs.Common.{◌≡◌, ℕ, List, [], ◌∷◌, Bool, true, false, refl}
use Rattle.std.specs.Prelude.{Option, Some, None, Result, Ok, Err, option_map, if◌then◌else◌}
use Rattle.std.specs.List.{AllByRecursion}
use Rattle.std.specs.Option.{option_map_or}
use Rattle.pdb_records.specs.LinePrograms.{Lines}
use Rattle.pdb_records.specs.Readings.{Read}
use Rattle.pdb_records.specs.declared.addresses.PdbInternalSectionOffset.{PdbInternalSectionOffset}
use Rattle.pdb_records.specs.declared.addresses.Rva.{Rva}
use Rattle.pdb_records.specs.declared.error.StreamError.{StreamError}
use Rattle.pdb_records.specs.declared.error.Error.TheVariants.{Stream}
use Rattle.pdb_records.specs.declared.ids.IdIndex.{IdIndex}
use Rattle.pdb_records.specs.declared.modules.ModuleInfo.{ModuleInfo}
use Rattle.pdb_errors.specs.declared.error.Error.{Error}
use Rattle.pdb_errors.specs.declared.error.Error.TheVariants.{PdbError}
use Rattle.pdb_errors.specs.Outcomes.{and_then, unless, streamed}
use Rattle.pdb_types.specs.TypeInputs.{link_inputs}
use Rattle.pdb_records.specs.Provided.{ProviderInfos}
use Rattle.pdb_functions.specs.FunctionMatches.{FunctionMatch, found_procedure, found_global}
use Rattle.pdb_frames.specs.CodeParts.{CodeParts, unsuccessful_code, has_code_failed}
use Rattle.pdb_frames.specs.declared.code_parts.CodePart.{CodePart}
use Rattle.pdb_frames.specs.declared.code_parts.CodePart.TheVariants as part
use Rattle.pdb_frames.specs.ExtendedInfo.{extended_info}
use Rattle.pdb_records.specs.Addresses.{rva, internal_offset}
use Rattle.pdb_records.specs.Lines.{lines_at}
use Rattle.pdb_frames.specs.Lines.{read_whole, function_rows, function_row}
use Rattle.pdb_frames.specs.CodeLocations.{code_location, function_ranges}
use Rattle.pdb_functions.specs.FunctionMatches.{function_start, function_module}
use Rattle.pdb_type_texts.specs.Documents.{PrintError, failure_error, Run}
use Rattle.pdb_type_texts.specs.Ids.{id_of_index}
use Rattle.pdb_type_texts.specs.Printed.{signature_run, id_run}
use Rattle.pdb_type_texts.specs.Signatures.{signature}
use Rattle.pdb_type_texts.specs.PrintInputs.{formatter_inputs}
use Rattle.pdb_type_texts.proofs.DocumentLemmas.{document-unfolds}
use Rattle.pdb_type_texts.proofs.UnfoldingLemmas.{print_inputs-below}
use Rattle.pdb_function_info.specs.Frames.{function_frames}
use Rattle.pdb_function_info.specs.NameTexts.{function_name, id_name}
use Rattle.pdb_addr2line.specs.Calls.{TextView, answer_to, answers_to, after_call, printed, text_unless}
use Rattle.pdb_addr2line.specs.declared.calls.Call.{Call}
use Rattle.pdb_addr2line.specs.declared.calls.Call.TheVariants.{FindFunction, FindFrames, Functions, FunctionCount}
use Rattle.pdb_addr2line.specs.declared.calls.Call.TheVariants.{TypeSize, FormatFunction, FormatId}
use Rattle.pdb_addr2line.specs.Lookups.{frames_at, frames_of, found_at, records_of, answered_refusal}
use Rattle.pdb_addr2line.specs.ContextInputs.{ContextInputs, ContextState, global_functions_of}
use Rattle.pdb_laws.specs.PrintErrors.{IsPrintError}
use Rattle.pdb_laws.proofs.ReadLemmas.{print_inputs_are_good}
use Rattle.pdb_laws.proofs.PlanLemmas.{good_signature}
use Rattle.pdb_laws.proofs.RefusalLemmas.{print_errors, refused_for}
use Rattle.pdb_addr2line.specs.AnswerErrors.{IsCodeError, IsRefusedByCode, HoldsErrorOfRecords}

-- of two steps each is refused by the records of code alone
refused_in_steps : {A B : Type 0} (first : Result A Error) (next : A → Result B Error) → IsRefusedByCode first
    → ((a : A) → IsRefusedByCode (next a)) → IsRefusedByCode (and_then first next)
refused_in_steps (Ok a) next one two = two a
refused_in_steps (Err e) next one two = one

-- and so it is where the second step is made of something that may be absent
refused_where_there : {A B : Type 0} (o : Option A) (next : A → Result B Error) (absent : Result B Error)
    → ((a : A) → IsRefusedByCode (next a)) → IsRefusedByCode absent → IsRefusedByCode (option_map_or next o absent)
refused_where_there None next absent some none = none
refused_where_there (Some a) next absent some none = some a

-- what a failed stream refuses
refused_by_stream : {A : Type 0} (r : Result A StreamError) → IsRefusedByCode (streamed r)
refused_by_stream (Ok a) = tt
refused_by_stream (Err fault) = tt

-- what a fault refuses
refused_by_fault : {A : Type 0} (fault : Option StreamError) (answer : A)
    → IsRefusedByCode (unless (option_map (λ f. PdbError (Stream f)) fault) (Ok answer))
refused_by_fault None answer = tt
refused_by_fault (Some fault) answer = tt

-- what is known of a module's code
refused_info : (info : ModuleInfo) → IsRefusedByCode (extended_info info)
refused_info info =
    refused_in_steps (streamed info.line_program) _ (refused_by_stream info.line_program)
    (λ program. refused_in_steps (read_whole info.inlinees) _
    (refused_by_fault info.inlinees.fault info.inlinees.items) (λ inlinees. tt))

-- the rows of a function
refused_rows : (program : Lines) (start : PdbInternalSectionOffset) → IsRefusedByCode (function_rows program start)
refused_rows program start = by_entry (lines_at start program.entries) refl where
  by_entry : (entry : Option (Read _)) → lines_at start program.entries ≡ entry
      → IsRefusedByCode (function_rows program start)
  by_entry None is = rw is tt
  by_entry (Some rows) is = rw is (refused_by_fault rows.fault rows.items)

-- the row over an offset
refused_row : (program : Lines) (start : PdbInternalSectionOffset) (x : ℕ)
    → IsRefusedByCode (function_row program start x)
refused_row program start x = refused_in_steps (function_rows program start) _ (refused_rows program start) (λ rows. tt)

-- the ranges of a function's code
refused_ranges : (inlinees : List IdIndex) (info : ModuleInfo) (found : FunctionMatch)
    → IsRefusedByCode (function_ranges inlinees info found)
refused_ranges inlinees info (found_global m f) = tt
refused_ranges inlinees info (found_procedure m p) = refused_by_fault _ _

-- where code comes from
refused_origin : (info : ModuleInfo) (found : FunctionMatch) (x : ℕ) → IsRefusedByCode (code_location info found x)
refused_origin info found x =
    refused_in_steps (extended_info info) _ (refused_info info) (λ known.
    refused_in_steps (function_row known.line_program (function_start found) x) _
    (refused_row known.line_program (function_start found) x) (λ row.
    refused_in_steps (function_ranges known.inlinees info found) _ (refused_ranges known.inlinees info found)
    (λ ranges. tt)))

-- the frames of a function
refused_frames : (strings : _) (name_of : _) (name : _) (records : Option ModuleInfo) (found : FunctionMatch) (x : ℕ)
    → IsRefusedByCode (function_frames strings name_of name records found x)
refused_frames strings name_of name None found x = tt
refused_frames strings name_of name (Some info) found x =
    refused_in_steps (code_location info found x) _ (refused_origin info found x) (λ o. tt)

-- what is made of something that may be absent
refused_option : {A B : Type 0} (r : Result B Error) (o : Option A) (next : A → Result B Error)
    (absent : Result B Error)
    → r ≡ option_map_or next o absent → ((a : A) → IsRefusedByCode (next a)) → IsRefusedByCode absent
    → IsRefusedByCode r
refused_option r o next absent is some none = rw is (refused_where_there o next absent some none)

-- the frames of a function that was found
refused_found : {P : Type 0} (info : P → ProviderInfos) (s : ContextInputs P) (x : ℕ) (found : FunctionMatch)
    → IsRefusedByCode (frames_of info s x found)
refused_found info s x found =
    let name_of = id_name info s.type_inputs (function_module found) in
    let name = function_name info s.type_inputs (global_functions_of s) found in
    let records = records_of info s found in
    refused_option {A = Rva} (frames_of info s x found) (rva s.address_map (function_start found)) _ (Ok None) refl
    (λ start.
    refused_in_steps (function_frames s.strings name_of name records found x) _
    (refused_frames s.strings name_of name records found x) (λ frames. tt {0})) (tt {0})

-- the frames over an address
refused_at : {P : Type 0} (info : P → ProviderInfos) (s : ContextInputs P) (address : ℕ)
    → IsRefusedByCode (frames_at info s address)
refused_at info s address =
    refused_option {A = PdbInternalSectionOffset} (frames_at info s address)
    (internal_offset s.address_map (record { 0 = address })) _ (Ok None) refl (λ section_offset.
    refused_where_there (found_at info s address) (frames_of info s section_offset.offset) (Ok None)
    (refused_found info s section_offset.offset) (tt {0})) (tt {0})

-- a part that failed before says so
refused_part : (p : CodePart) → IsCodeError (unsuccessful_code p)
refused_part (part.ExtendedInfo m) = tt
refused_part (part.Lines m start) = tt
refused_part (part.InlineRanges m start) = tt

-- either of two errors
either_error : (b : Bool) (e e' : Error) → IsCodeError e → IsCodeError e' → IsCodeError (if b then e else e')
either_error true e e' one two = one
either_error false e e' one two = two

-- what is answered for a refusal
refused_as_answered : {A : Type 0} (failed : CodeParts) (p : Option CodePart) (answer : Result A Error)
    → IsRefusedByCode answer → IsRefusedByCode (answered_refusal failed p answer)
refused_as_answered failed p (Ok answer) refused = tt
refused_as_answered failed None (Err e) refused = refused
refused_as_answered failed (Some p) (Err e) refused =
    either_error (has_code_failed failed p) (unsuccessful_code p) e (refused_part p) refused

-- a text that was printed, or the error in its place
printed_or_refused : (r : Run) → ((failure : PrintError) → r.fault ≡ Some failure → IsPrintError (failure_error failure))
    → HoldsErrorOfRecords (TextView (printed r))
printed_or_refused r refused = by_fault r.fault refl where
  by_fault : (fault : Option PrintError) → r.fault ≡ fault → HoldsErrorOfRecords (TextView (text_unless fault r.text))
  by_fault None is = tt
  by_fault (Some failure) is = refused failure is

-- one answer
holds_one : {P : Type 0} (info : P → ProviderInfos) (c : ContextState P) (call : Call)
    → HoldsErrorOfRecords (answer_to info c call)
holds_one info c (FindFunction address) = tt
holds_one info c (FindFrames address) = refused_as_answered c.code_failed _ (frames_at info c.inputs address)
    (refused_at info c.inputs address)
holds_one info c Functions = tt
holds_one info c FunctionCount = tt
holds_one info c (TypeSize m index) = tt
holds_one info c (FormatFunction name m index) =
    let s = c.inputs.type_inputs in
    let w = formatter_inputs info s m in
    let reads = print_inputs_are_good IsPrintError print_errors.reading
    (link_inputs info s) s.types s.ids s.pointer_size s.flags m in
    let below = print_inputs-below (link_inputs info s) s.types s.ids s.pointer_size s.flags m in
    printed_or_refused (signature_run info s m name.now index.0 c.failed) (λ failure is.
    refused_for w reads (document-unfolds w below (signature w name.now index.0))
    (good_signature IsPrintError print_errors w reads name.now index.0) c.failed failure is)
holds_one info c (FormatId m index) =
    let s = c.inputs.type_inputs in
    let w = formatter_inputs info s m in
    let reads = print_inputs_are_good IsPrintError print_errors.reading
    (link_inputs info s) s.types s.ids s.pointer_size s.flags m in
    let below = print_inputs-below (link_inputs info s) s.types s.ids s.pointer_size s.flags m in
    printed_or_refused (id_run info s m index.0 c.failed) (λ failure is.
    refused_for w reads (document-unfolds w below (id_of_index index.0)) tt c.failed failure is)

-- all answers
pub all_hold : {P : Type 0} (info : P → ProviderInfos) (c : ContextState P) (calls : List Call)
    → AllByRecursion HoldsErrorOfRecords (answers_to info c calls)
all_hold info c [] = tt
all_hold info c (call ∷ calls) = (holds_one info c call, all_hold info (after_call info c call) calls)
