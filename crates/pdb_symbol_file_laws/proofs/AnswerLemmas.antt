-- What a reader of a symbol file's text is shown at an address.
use Rattle.std.proofs.Common.{◌≡◌, ◌∙◌, ℕ, ◌+◌, ◌<◌, ◌≤◌, ◌^◌, Bool, true, false, List, [], ◌∷◌, ◌++◌, refl, ap}
use Rattle.std.proofs.Common.{map, flat_map, find, All, Option, Some, None, option_map, if◌then◌else◌, inl, inr, subst}
use Rattle.std.specs.List.{AllByRecursion}
use Rattle.pdb_frames.specs.Frame.{FramesInfo}
use Rattle.pdb_tables.specs.declared.segment.Segment.{Segment}
use Rattle.pdb_breakpad.specs.RecordTypes.{FunctionRecords, InlineRecord, InlinedCall, Numbers, SourceLocation, Span}
use Rattle.pdb_breakpad.specs.AddressSpans.{content_at, is_over}
use Rattle.pdb_breakpad.specs.FunctionRecords.{Reads}
use Rattle.pdb_breakpad.specs.FunctionWalk.{AreFunctions, ShowsOver, StandBetween, function_over}
use Rattle.pdb_breakpad.specs.FunctionWalk.{is_over as is_function_over}
use Rattle.pdb_breakpad.specs.FunctionWalk.{turned}
use Rattle.pdb_breakpad.specs.InlineRecords.{calls_at}
use Rattle.pdb_breakpad.specs.NumberedCode.{AreCalls, IsOptionalPlace, IsPlace}
use Rattle.pdb_breakpad.specs.ShownFrames.{ShownCall, ShownFrame, ShownPlace, answer_shown, own_name, stack_read}
use Rattle.pdb_breakpad.specs.SymbolFile.{symbol_file_text}
use Rattle.pdb_breakpad.specs.FunctionTexts.{inline_before, inline_records_from}
use Rattle.pdb_breakpad.specs.ModuleRecord.{IsModuleLine, with_breaks}
use Rattle.pdb_breakpad.specs.WrittenRecords.{FitNumbers, FitTypes, InlinesAscend}
use Rattle.pdb_tables.specs.InOrder.{in_order}
use Rattle.pdb_symbol_file_laws.specs.RecordReader.{frames_read, function_at, place_read}
use Rattle.pdb_symbol_file_laws.specs.RecordReader.{shown_by_records}
use Rattle.pdb_symbol_file_laws.specs.SymbolFileRecords.{function_read, inline_read}
use Rattle.pdb_symbol_file_laws.specs.SymbolFileRecords.{line_read, names_read, numbered, on_one_line}
use Rattle.pdb_symbol_file_laws.specs.SymbolTextReader.{File, InlineOrigin, OtherLine, SymbolLine, read_text}
use Rattle.pdb_symbol_file_laws.specs.TextAnswers.{NoneOpen, TextShows, frame_on_one_line}
use Rattle.pdb_symbol_file_laws.specs.TextAnswers.{place_on_one_line}
use Rattle.pdb_symbol_file_laws.proofs.CallLookups.{call_shown, place_shown}
use Rattle.pdb_symbol_file_laws.proofs.CallsFound.{calls_found}
use Rattle.pdb_symbol_file_laws.proofs.FileLemmas.{file_read}
use Rattle.pdb_symbol_file_laws.proofs.FoundFunctions.{function_found, none_found}
use Rattle.pdb_symbol_file_laws.proofs.FunctionLookups.{IsPart, both_parts, found_of, parts_of, passed, reaches_over}
use Rattle.pdb_symbol_file_laws.proofs.NameLookups.{file_is, origin_is, whole}
use Rattle.pdb_symbol_file_laws.proofs.TextLemmas.{one_by_one}

-- records of inlined calls say nothing of lines
lines_behind : (all : List SymbolLine) (address : ℕ) (inlines : List InlineRecord) (lines : List SymbolLine)
    → place_read all address (map inline_read inlines ++ lines) ≡ place_read all address lines
lines_behind all address [] lines = refl
lines_behind all address (inlined ∷ inlines) lines = lines_behind all address inlines lines

-- a reader finds the place of the first line over an address
line_found : (all : List SymbolLine) (address : ℕ) (spans : List (Span SourceLocation))
    → AllByRecursion (λ span. span.start ≤ span.last) spans
    → place_read all address (map line_read spans) ≡ option_map (place_shown all) (content_at address spans)
line_found all address [] order = refl
line_found all address (span ∷ spans) order =
    ap (λ t. if t then Some (place_shown all span.content) else place_read all address (map line_read spans))
    (reaches_over span.start span.last address order.0)
    ∙ by (is_over address span) (line_found all address spans order.1)
  where
    by : (t : Bool)
        → place_read all address (map line_read spans) ≡ option_map (place_shown all) (content_at address spans)
        → (if t then Some (place_shown all span.content) else place_read all address (map line_read spans))
        ≡ option_map (place_shown all)
        (option_map (λ s. s.content) (if t then Some span else find (is_over address) spans))
    by true rest = refl
    by false rest = rest

-- a reader finds the place over an address
place_found : (all : List SymbolLine) (address : ℕ) (records : FunctionRecords) → InlinesAscend records
    → place_read all address (parts_of records) ≡ option_map (place_shown all) (content_at address records.lines)
place_found all address records ascend =
    lines_behind all address (in_order inline_before (inline_records_from 0 records.inlines))
    (map line_read records.lines)
    ∙ line_found all address records.lines (one_by_one (λ span. span.start ≤ span.last) records.lines ascend.lines)

-- a call with its names on one line
abbrev call_on_one_line : ShownCall → ShownCall
call_on_one_line call = record { place = place_on_one_line call.place; function = on_one_line call.function }

-- frames that are read with names on one line
stack_on_one_line : (name : List ℕ) (calls : List ShownCall) (place : Option ShownPlace)
    → stack_read (on_one_line name) (map call_on_one_line calls) (option_map place_on_one_line place)
    ≡ map frame_on_one_line (stack_read name calls place)
stack_on_one_line name [] place = refl
stack_on_one_line name (call ∷ calls) place =
    ap (λ inner. record { function = on_one_line name; place = Some (place_on_one_line call.place) } ∷ inner)
    (stack_on_one_line call.function calls place)

module _ (front : List (List ℕ)) (numbers : Numbers) (lines : List SymbolLine) where
  -- a place is shown with the names of all records
  place_is : (place : SourceLocation) (shown : ShownPlace) → IsPlace numbers place shown
      → place_shown (whole front numbers lines) place ≡ place_on_one_line shown
  place_is place shown is =
      λ i. record { file = (file_is front numbers lines place.file shown.file is.0) i; line = is.1 i }

  -- so is one that may be missing
  optional_place_is : (place : Option SourceLocation) (shown : Option ShownPlace) → IsOptionalPlace numbers place shown
      → option_map (place_shown (whole front numbers lines)) place ≡ option_map place_on_one_line shown
  optional_place_is None None is = refl
  optional_place_is None (Some shown) is = absurd is
  optional_place_is (Some place) None is = absurd is
  optional_place_is (Some place) (Some shown) is = ap (λ p. Some p) (place_is place shown is)

  -- so are calls
  calls_shown : (calls : List InlinedCall) (shown : List ShownCall) → AreCalls numbers calls shown
      → map (call_shown (whole front numbers lines)) calls ≡ map call_on_one_line shown
  calls_shown [] [] are = refl
  calls_shown [] (shown ∷ more) are = absurd are
  calls_shown (call ∷ calls) [] are = absurd are
  calls_shown (call ∷ calls) (shown ∷ more) are =
      λ i. record {
        place = (place_is call.place shown.place are.0.0) i;
        function = (origin_is front numbers lines call.origin shown.function are.0.1) i;
      } ∷ (calls_shown calls more are.1) i

  -- a reader of a function's records is shown what they say
  frames_are : (records : FunctionRecords) (address : ℕ) (shown : List ShownFrame) → InlinesAscend records
      → Reads numbers records address shown
      → frames_read (whole front numbers lines) address (found_of records) ≡ map frame_on_one_line shown
  frames_are records address shown ascend (calls, (place, (are, (is, same)))) =
      ap (λ c. stack_read (on_one_line (own_name records.found.frames)) c
      (place_read (whole front numbers lines) address (parts_of records)))
      (calls_found (whole front numbers lines) address records ascend
      ∙ calls_shown (calls_at address records.inlines) calls are)
      ∙ ap (λ p. stack_read (on_one_line (own_name records.found.frames)) (map call_on_one_line calls) p)
      (place_found (whole front numbers lines) address records ascend
      ∙ optional_place_is (content_at address records.lines) place is)
      ∙ stack_on_one_line (own_name records.found.frames) calls place
      ∙ ap (map frame_on_one_line) same

-- what stands in front is none of a function itself
others_are_parts : (front : List (List ℕ)) → AllByRecursion IsPart (map (λ line. OtherLine) front)
others_are_parts [] = tt
others_are_parts (line ∷ front) = (tt, others_are_parts front)

files_are_parts : (number : ℕ) (names : List (List ℕ)) → AllByRecursion IsPart (numbered File number names)
files_are_parts number [] = tt
files_are_parts number (name ∷ names) = (tt, files_are_parts (number + 1) names)

origins_are_parts : (number : ℕ) (names : List (List ℕ)) → AllByRecursion IsPart (numbered InlineOrigin number names)
origins_are_parts number [] = tt
origins_are_parts number (name ∷ names) = (tt, origins_are_parts (number + 1) names)

-- so a reader finds the function by the records of functions
found_behind : (front : List (List ℕ)) (numbers : Numbers) (lines : List SymbolLine) (address : ℕ)
    → function_at address (whole front numbers lines) ≡ function_at address lines
found_behind front numbers lines address =
    passed address (map (λ line. OtherLine) front) (names_read numbers ++ lines) (others_are_parts front)
    ∙ passed address (names_read numbers) lines
    (both_parts (numbered File 0 numbers.files) (numbered InlineOrigin 0 numbers.origins)
    (files_are_parts 0 numbers.files) (origins_are_parts 0 numbers.origins))

-- what holds of all functions holds of the one over an address
holds_over : (P : FunctionRecords → Type 0) (address : ℕ) (functions : List FunctionRecords) (records : FunctionRecords)
    → AllByRecursion P functions → function_over address functions ≡ Some records → P records
holds_over P address [] records all found = absurd (cc found)
holds_over P address (first ∷ functions) records all found =
    by (is_function_over address first) found (λ e. holds_over P address functions records all.1 e)
  where
    by : (t : Bool) → (if t then Some first else function_over address functions) ≡ Some records
        → (function_over address functions ≡ Some records → P records) → P records
    by true here rest = let same : first ≡ records = cc here in subst P same all.0
    by false there rest = rest there

-- a reader of all records is shown what those of the function over an address say
pub records_show : (front : List (List ℕ)) (numbers : Numbers) (functions : List FunctionRecords) (from to address : ℕ)
    (records : FunctionRecords) (shown : List ShownFrame) → StandBetween from to functions → All InlinesAscend functions
    → function_over address functions ≡ Some records → Reads numbers records address shown
    → shown_by_records
    (map (λ line. OtherLine) front ++ (names_read numbers ++ flat_map function_read functions)) address
    ≡ Some (map frame_on_one_line shown)
unfolding shown_by_records
records_show front numbers functions from to address records shown order ascend over reads =
    let all : List SymbolLine = whole front numbers (flat_map function_read functions) in
    ap (option_map (frames_read all address))
    (found_behind front numbers (flat_map function_read functions) address
    ∙ function_found address from to functions records order over)
    ∙ ap (λ frames. Some frames) (frames_are front numbers (flat_map function_read functions) records address shown
    (holds_over InlinesAscend address functions records (one_by_one InlinesAscend functions ascend) over) reads)

-- a reader of all records is shown nothing where no function is over an address, and none is open there
pub records_show_none : (front : List (List ℕ)) (numbers : Numbers) (functions : List FunctionRecords)
    (from to address : ℕ) → StandBetween from to functions → NoneOpen address functions
    → function_over address functions ≡ None
    → shown_by_records
    (map (λ line. OtherLine) front ++ (names_read numbers ++ flat_map function_read functions)) address
    ≡ None
unfolding shown_by_records
records_show_none front numbers functions from to address order closed none =
    let all : List SymbolLine = whole front numbers (flat_map function_read functions) in
    ap (option_map (frames_read all address))
    (found_behind front numbers (flat_map function_read functions) address
    ∙ none_found address from to functions order closed none)

-- a reader of a symbol file's text is shown at each address what is answered there
pub text_shows : {S : Type 0} (answers : S → ℕ → Option FramesInfo → Type 0) (source : S) (front : List (List ℕ))
    (numbers : Numbers) (parameters : List (Segment ℕ)) (functions : List FunctionRecords) (address : ℕ)
    → AreFunctions answers source numbers functions → All IsModuleLine front → FitNumbers numbers
    → All (FitTypes parameters) functions → All InlinesAscend functions → address < 2 ^ 32
    → TextShows answers source functions (symbol_file_text (with_breaks front) numbers parameters functions) address
text_shows answers source front numbers parameters functions address are modules small fits ascend below =
    by (function_over address functions) refl (are.right address below)
  where
    text : List ℕ
    text = symbol_file_text (with_breaks front) numbers parameters functions

    read : read_text text ≡ map (λ line. OtherLine) front ++ (names_read numbers ++ flat_map function_read functions)
    read = file_read front numbers parameters functions modules small fits

    by : (found : Option FunctionRecords) → function_over address functions ≡ found
        → ShowsOver answers source numbers address found → TextShows answers source functions text address
    by None over right =
        inr (
          right,
          λ closed. ap (λ all. shown_by_records all address) read
              ∙ records_show_none front numbers functions 0 (2 ^ 32) address are.order closed over,
        )
    by (Some records) over right =
        inl (
          right.0,
          (
            right.1,
            ap (λ all. shown_by_records all address) read
                ∙ records_show front numbers functions 0 (2 ^ 32) address records (answer_shown (turned right.0))
                are.order ascend over right.2,
          ),
        )

-- what a reader is shown
pub ruleset shown = (records_show, records_show_none)
