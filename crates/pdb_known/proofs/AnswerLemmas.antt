-- Answers over a part of the records that knows the module over an address.
use Rattle.std.proofs.Common.{◌≡◌, ◌∙◌, ℕ, Bool, true, List, [], ◌∷◌, ◌++◌, map, reverse, refl, ap, subst}
use Rattle.std.specs.Prelude.{Option, Some, None, Result, Ok, Err, IfOk, IfSome, option_map, option_and_then}
use Rattle.std.specs.List.{AllByRecursion}
use Rattle.std.specs.Option.{option_map_or}
use Rattle.pdb_records.specs.Addresses.{internal_offset, rva}
use Rattle.pdb_records.specs.LinePrograms.{Lines}
use Rattle.pdb_records.specs.declared.addresses.AddressRange.{AddressRange}
use Rattle.pdb_records.specs.declared.error.Error.TheVariants.{Stream}
use Rattle.pdb_records.specs.declared.error.StreamError.{StreamError}
use Rattle.pdb_records.specs.declared.ids.IdIndex.{IdIndex}
use Rattle.pdb_records.specs.declared.lines.LineInfo.{LineInfo}
use Rattle.pdb_records.specs.declared.modules.ModuleInfo.{ModuleInfo}
use Rattle.pdb_errors.specs.declared.error.Error.{Error}
use Rattle.pdb_errors.specs.declared.error.Error.TheVariants.{PdbError}
use Rattle.pdb_errors.specs.Outcomes.{and_then, unless}
use Rattle.pdb_records.specs.Provided.{ProviderInfos}
use Rattle.pdb_functions.specs.FunctionMatches.{FunctionMatch, found_procedure, found_global, function_module}
use Rattle.pdb_functions.specs.FunctionMatches.{function_start}
use Rattle.pdb_functions.specs.GlobalFunctions.{GlobalFunction}
use Rattle.pdb_inline.specs.declared.inline_ranges.InlineRange.{InlineRange}
use Rattle.pdb_frames.specs.CodeParts.{part_to_blame}
use Rattle.pdb_frames.specs.ExtendedInfo.{extended_info}
use Rattle.pdb_frames.specs.Frame.{FrameInfo, FramesInfo}
use Rattle.pdb_frames.specs.Lines.{function_row}
use Rattle.pdb_frames.specs.CodeLocations.{CodeLocation, code_location, function_ranges}
use Rattle.pdb_inline.specs.InlineStacks.{inline_stack}
use Rattle.pdb_inline.specs.InlineRanges.{inline_ranges}
use Rattle.pdb_inline.specs.Sites.{walk}
use Rattle.pdb_function_info.specs.Frames.{Strings, inlined_frame, inlined_frames, code_location_frames, own_frame}
use Rattle.pdb_function_info.specs.Frames.{function_frames, function_size}
use Rattle.pdb_function_info.specs.Function.{info_of, info_of_procedure, sum_in_32_bits}
use Rattle.pdb_function_info.specs.NameTexts.{function_name, id_name, symbol_name}
use Rattle.pdb_addr2line.specs.ContextInputs.{ContextInputs, global_functions_of}
use Rattle.pdb_addr2line.specs.Lookups.{found_at, function_at, frames_at, frames_of, records_of, blamed_at, blamed_for}
use Rattle.pdb_addr2line.specs.NamedFunctions.{symbol_name_at}
use Rattle.pdb_known.specs.SameModules.{HasSameFront, KnowsModule, KnowsAddress, AreSiteIdsIn}
use Rattle.pdb_known.proofs.BodyLemmas.{bodies_in}
use Rattle.pdb_known.proofs.FoundLemmas.{KnowsFunction, IsTypeIn, found_same, function_known, readable_same}
use Rattle.pdb_known.proofs.NameLemmas.{procedure_name_same, id_name_same}

-- what is answered of the same value in both
pub each_same : {A B : Type 0} (f g : A → B) (value other : Option A) (none : B) → value ≡ other
    → ((a : A) → value ≡ Some a → f a ≡ g a) → option_map_or f value none ≡ option_map_or g other none
each_same {A = A} f g value other none e same =
    subst (λ o. option_map_or f value none ≡ option_map_or g o none) e (by_value value same) where
      by_value : (o : Option A) → ((a : A) → o ≡ Some a → f a ≡ g a)
          → option_map_or f o none ≡ option_map_or g o none
      by_value None same = refl
      by_value (Some a) same = same a refl

-- the same, where nothing may be answered
some_same : {A B : Type 0} (f g : A → Option B) (value other : Option A) → value ≡ other
    → ((a : A) → value ≡ Some a → f a ≡ g a) → option_and_then f value ≡ option_and_then g other
some_same {A = A} f g value other e same =
    subst (λ o. option_and_then f value ≡ option_and_then g o) e (by_value value same) where
      by_value : (o : Option A) → ((a : A) → o ≡ Some a → f a ≡ g a) → option_and_then f o ≡ option_and_then g o
      by_value None same = refl
      by_value (Some a) same = same a refl

-- images of elements that both functions give alike
images_same : {A B : Type 0} (f g : A → B) (xs : List A) → AllByRecursion (λ a. f a ≡ g a) xs → map f xs ≡ map g xs
images_same f g [] same = refl
images_same f g (x ∷ xs) same = cc (same.0, images_same f g xs same.1)

-- where all elements are in a set, what holds in the set holds of them
pub all_among : {A : Type 0} (P Q : A → Type 0) → ((a : A) → P a → Q a) → (xs : List A) → AllByRecursion P xs
    → AllByRecursion Q xs
all_among P Q each [] all = tt
all_among P Q each (x ∷ xs) all = (each x all.0, all_among P Q each xs all.1)

-- the id of an inlined body is in a set
abbrev pub IsBodyIn : (ℕ → Bool) → InlineRange → Type 0
IsBodyIn is_in range = is_in range.inlinee.0 ≡ true

-- what holds of whichever result follows holds of what follows
ok_then : {A B E : Type 0} (P : B → Type 0) (first : Result A E) (next : A → Result B E)
    → ((a : A) → IfOk (next a) P) → IfOk (and_then first next) P
ok_then P (Ok a) next each = each a
ok_then P (Err e) next each = tt

-- the ids of the bodies over an offset of a function
pub stack_in : (is_in : ℕ → Bool) (info : ModuleInfo) (found : FunctionMatch) (x : ℕ) → AreSiteIdsIn is_in info
    → IfOk (code_location info found x) (λ o. AllByRecursion (IsBodyIn is_in) o.stack)
stack_in is_in info found x sites =
    ok_then AreIn (extended_info info) (λ known.
    and_then (function_row known.line_program (function_start found) x) (λ row.
    and_then (function_ranges known.inlinees info found) (made known.line_program row))) (λ known.
    ok_then AreIn (function_row known.line_program (function_start found) x) (λ row.
    and_then (function_ranges known.inlinees info found) (made known.line_program row)) (λ row.
    by_kind known.inlinees known.line_program row found))
  where
    AreIn : CodeLocation → Type 0
    AreIn o = AllByRecursion (IsBodyIn is_in) o.stack

    made : Lines → Option LineInfo → List InlineRange → Result CodeLocation Error
    made program row ranges = Ok (record { line_program = program; row = row; stack = inline_stack ranges x })

    by_fault : (program : Lines) (row : Option LineInfo) (ranges : List InlineRange)
        → AllByRecursion (IsBodyIn is_in) (inline_stack ranges x) → (fault : Option StreamError)
        → IfOk (and_then (unless (option_map (λ f. PdbError (Stream f)) fault) (Ok ranges)) (made program row)) AreIn
    by_fault program row ranges all None = all
    by_fault program row ranges all (Some fault) = tt

    by_kind : (inlinees : List IdIndex) (program : Lines) (row : Option LineInfo) (f : FunctionMatch)
        → IfOk (and_then (function_ranges inlinees info f) (made program row)) AreIn
    by_kind inlinees program row (found_global m f) = tt
    by_kind inlinees program row (found_procedure m p) =
        let w = walk info.symbols.items info.symbols.fault p.symbol_index.0 p.end_symbol_index.0 in
        by_fault program row (inline_ranges inlinees w.sites)
        (bodies_in is_in inlinees info p.symbol_index.0 p.end_symbol_index.0 x sites) w.fault

-- the frames of a function, where its own name is the same, and so are those of the inlined bodies
function_frames_same : (is_in : ℕ → Bool) (strings : Strings) (name_of other_of : IdIndex → Option (List ℕ))
    (name other : Option (List ℕ)) (records : Option ModuleInfo) (found : FunctionMatch) (x : ℕ) → name ≡ other
    → ((id : IdIndex) → is_in id.0 ≡ true → name_of id ≡ other_of id) → IfSome records (AreSiteIdsIn is_in)
    → function_frames strings name_of name records found x ≡ function_frames strings other_of other records found x
function_frames_same is_in strings name_of other_of name other None found x same ids sites = cc (same)
function_frames_same is_in strings name_of other_of name other (Some info) found x same ids sites =
    by_origin (code_location info found x) (stack_in is_in info found x sites) where
      by_origin : (from : Result CodeLocation Error) → IfOk from (λ o. AllByRecursion (IsBodyIn is_in) o.stack)
          → and_then from (λ o. Ok (code_location_frames strings name_of name o))
          ≡ and_then from (λ o. Ok (code_location_frames strings other_of other o))
      by_origin (Err error) all = refl
      by_origin (Ok o) all =
          let bodies : inlined_frames strings o.line_program name_of o.stack
          ≡ inlined_frames strings o.line_program other_of o.stack =
          images_same (λ range. inlined_frame strings o.line_program (name_of range.inlinee) range)
          (λ range. inlined_frame strings o.line_program (other_of range.inlinee) range) o.stack
          (all_among (IsBodyIn is_in) (λ range. inlined_frame strings o.line_program (name_of range.inlinee) range
          ≡ inlined_frame strings o.line_program (other_of range.inlinee) range)
          (λ range here. ap (λ (n : Option (List ℕ)). inlined_frame strings o.line_program n range)
          (ids range.inlinee here)) o.stack all) in
          ap (λ (frames : List FrameInfo). Ok (reverse frames ++ own_frame strings name o.line_program o.row ∷ []))
          bodies
          ∙ ap (λ (n : Option (List ℕ)). Ok (reverse (inlined_frames strings o.line_program other_of o.stack)
          ++ own_frame strings n o.line_program o.row ∷ [])) same

-- the frames info of a function with these frames
abbrev framed : List AddressRange → List GlobalFunction → FunctionMatch → Result (List FrameInfo) Error
    → Result (Option FramesInfo) Error
framed sections globals found frames =
    option_map_or (λ start.
    and_then frames (λ listed.
    Ok (Some (record {
      start_rva = start.0;
      end_rva = option_and_then (sum_in_32_bits start.0) (function_size globals found);
      frames = listed;
    })))) (rva sections (function_start found)) (Ok None)

-- a function that was found, of a module that the part knows
module _ {P : Type 0} (info : P → ProviderInfos) (part whole : ContextInputs P) (front : HasSameFront part whole)
    (found : FunctionMatch) (known : KnowsFunction info part whole found) where
  -- its name
  name_same : function_name info part.type_inputs (global_functions_of part) found
      ≡ function_name info whole.type_inputs (global_functions_of part) found
  name_same = by_kind found known.knows known.typed where
    by_kind : (f : FunctionMatch) → KnowsModule known.at info part whole (function_module f)
        → IsTypeIn known.at.types f
        → function_name info part.type_inputs (global_functions_of part) f
        ≡ function_name info whole.type_inputs (global_functions_of part) f
    by_kind (found_global m f) knows typed = refl
    by_kind (found_procedure m p) knows typed =
        procedure_name_same known.at info part.type_inputs whole.type_inputs m knows.entries knows.closed
        (global_functions_of part) p typed

  -- its function info
  info_of_same : info_of info part.type_inputs part.address_map (global_functions_of part) found
      ≡ info_of info whole.type_inputs whole.address_map (global_functions_of whole) found
  info_of_same = by_kind found known.knows known.typed
      ∙ rw (front.address_map, front.sections, front.debug_information, front.global_symbols) refl
    where
      by_kind : (f : FunctionMatch) → KnowsModule known.at info part whole (function_module f)
          → IsTypeIn known.at.types f
          → info_of info part.type_inputs part.address_map (global_functions_of part) f
          ≡ info_of info whole.type_inputs part.address_map (global_functions_of part) f
      by_kind (found_global m f) knows typed = refl
      by_kind (found_procedure m p) knows typed =
          ap (info_of_procedure part.address_map p)
          (procedure_name_same known.at info part.type_inputs whole.type_inputs m knows.entries knows.closed
          (global_functions_of part) p typed)

  -- the records of its module
  pub records_same : records_of info part found ≡ records_of info whole found
  records_same =
      readable_same (info part.provider) (info whole.provider) part.type_inputs.modules (function_module found)
      known.knows.records
      ∙ rw front.modules refl

  -- its frames info at an offset
  frames_of_same : (x : ℕ) → frames_of info part x found ≡ frames_of info whole x found
  frames_of_same x =
      ap (framed part.address_map (global_functions_of part) found)
      (function_frames_same known.at.ids part.strings
      (id_name info part.type_inputs (function_module found)) (id_name info whole.type_inputs (function_module found))
      (function_name info part.type_inputs (global_functions_of part) found)
      (function_name info whole.type_inputs (global_functions_of part) found)
      (records_of info part found) found x name_same
      (id_name_same known.at info part.type_inputs whole.type_inputs (function_module found) known.knows.entries
      known.knows.closed) known.knows.sites)
      ∙ ap (λ (records : Option ModuleInfo). framed part.address_map (global_functions_of part) found
      (function_frames part.strings (id_name info whole.type_inputs (function_module found))
      (function_name info whole.type_inputs (global_functions_of part) found) records found x)) records_same
      ∙ rw (front.strings, front.address_map, front.sections, front.debug_information, front.global_symbols) refl

-- two contexts, of which one knows the module over an address
module _ {P : Type 0} (info : P → ProviderInfos) (part whole : ContextInputs P) (address : ℕ)
    (known : KnowsAddress info part whole address) where
  -- the function over the address
  pub function_at_same : function_at info part address ≡ function_at info whole address
  function_at_same =
      some_same (info_of info part.type_inputs part.address_map (global_functions_of part))
      (info_of info whole.type_inputs whole.address_map (global_functions_of whole))
      (found_at info part address) (found_at info whole address) (found_same info part whole address known)
      (λ found is. info_of_same info part whole known.front found
      (function_known info part whole address known found is))

  -- the name of the symbol of the function over the address
  pub symbol_name_at_same : symbol_name_at info part address ≡ symbol_name_at info whole address
  symbol_name_at_same = ap (option_and_then symbol_name) (found_same info part whole address known)

  -- the frames over the address
  pub frames_at_same : frames_at info part address ≡ frames_at info whole address
  frames_at_same =
      each_same (λ place. option_map_or (frames_of info part place.offset) (found_at info part address) (Ok None))
      (λ place. option_map_or (frames_of info whole place.offset) (found_at info whole address) (Ok None))
      (internal_offset part.address_map (record { 0 = address }))
      (internal_offset whole.address_map (record { 0 = address })) (Ok None)
      (ap (λ (map : List AddressRange). internal_offset map (record { 0 = address })) known.front.address_map)
      (λ place within. each_same (frames_of info part place.offset) (frames_of info whole place.offset)
      (found_at info part address) (found_at info whole address) (Ok None)
      (found_same info part whole address known)
      (λ found is. frames_of_same info part whole known.front found
      (function_known info part whole address known found is) place.offset))

  -- the part of the records of code that is to blame over the address
  pub blamed_at_same : blamed_at info part address ≡ blamed_at info whole address
  blamed_at_same =
      some_same (blamed_for info part) (blamed_for info whole) (found_at info part address)
      (found_at info whole address) (found_same info part whole address known)
      (λ found is. ap (λ (records : Option ModuleInfo). option_map (λ r. part_to_blame r found) records)
      (records_same info part whole known.front found (function_known info part whole address known found is)))
