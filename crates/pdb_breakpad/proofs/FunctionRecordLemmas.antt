-- What a reader is shown by numbered calls and places.
use Rattle.std.proofs.Common.{◌≡◌, ◌∙◌, ℕ, zero, suc, ◌+◌, ◌-◌, ◌≤◌, ◌<◌, List, [], ◌∷◌, ◌++◌, map, take, length}
use Rattle.std.proofs.Common.{slice_get, get_or, Option, Some, None, option_map, refl, sym, ap, subst, arith}
use Rattle.std.specs.Prelude.{is_some, if◌then◌else◌}
use Rattle.std.specs.List.{AllZip}
use Rattle.std.specs.Option.{option_and_then}
use Rattle.std.proofs.lemmas.List.{get_or-map, length-map, take_all, take_more}
use Rattle.std.proofs.lemmas.Option.{slice_get-map}
use Rattle.pdb_frames.specs.Frame.{FrameInfo, FramesInfo}
use Rattle.pdb_breakpad.specs.declared.function_records.FunctionRecords.{FunctionRecords}
use Rattle.pdb_breakpad.specs.declared.inline_records.InlinedCall.{InlinedCall}
use Rattle.pdb_breakpad.specs.declared.numbered_code.NumberedCode.{NumberedCode}
use Rattle.pdb_breakpad.specs.declared.numbered_code.SourceLocation.{SourceLocation}
use Rattle.pdb_breakpad.specs.declared.record_numbers.Numbers.{Numbers}
use Rattle.pdb_breakpad.specs.AddressSpans.{content_at}
use Rattle.pdb_breakpad.specs.ShownNames.{FrameText, frame_text}
use Rattle.pdb_breakpad.specs.FunctionRecords.{Reads}
use Rattle.pdb_breakpad.specs.InlineRecords.{calls_at}
use Rattle.pdb_breakpad.specs.NumberedCode.{AreCalls, IsCall, IsCode, IsOptionalPlace, KeepsAllNames}
use Rattle.pdb_breakpad.specs.ShownFrames.{ShownCall, ShownFrame, ShownPlace, answer_shown, calls_between, calls_in}
use Rattle.pdb_breakpad.specs.ShownFrames.{innermost_place, own_name, own_place, place_of, shown_up_to}
use Rattle.pdb_breakpad.specs.ShownFrames.{stack_read, stack_shown}

-- the last of a list is the last of what stands after its first
last_behind_first : {A : Type 0} (first second : A) (others : List A)
    → slice_get (first ∷ second ∷ others) (length (first ∷ second ∷ others) - 1)
    ≡ slice_get (second ∷ others) (length (second ∷ others) - 1)
last_behind_first first second others =
    let position : length (first ∷ second ∷ others) - 1 ≡ suc (length (second ∷ others) - 1) = omega arith in
    ap (slice_get (first ∷ second ∷ others)) position

-- frames are read as they are shown
read_as_shown : (frame : FrameText) (frames : List FrameText)
    → stack_read frame.function (calls_between frame frames) (innermost_place (frame ∷ frames))
    ≡ stack_shown (frame ∷ frames)
read_as_shown frame [] = refl
read_as_shown frame (inner ∷ frames) =
    ap (λ place. stack_read frame.function (calls_between frame (inner ∷ frames)) (option_and_then own_place place))
    (last_behind_first frame inner frames)
    ∙ ap (λ stack. record { function = frame.function; place = Some (place_of frame) } ∷ stack)
    (read_as_shown inner frames)

-- the same with the name of the function
own_stack : (frames : List FrameInfo)
    → stack_read (own_name frames) (calls_in (map frame_text frames)) (innermost_place (map frame_text frames))
    ≡ stack_shown (map frame_text frames)
own_stack [] = refl
own_stack (frame ∷ frames) = read_as_shown (frame_text frame) (map frame_text frames)

-- what is read where all that is known of the code was added, or nothing of a function whose end isn't known
read_up_to : (numbers : Numbers) (code : NumberedCode) (frames : List FrameInfo) (end : Option ℕ)
    (calls : List InlinedCall) (place : Option SourceLocation) → IsCode numbers code (map frame_text frames)
    → calls ≡ (if is_some end then code.calls.items else [])
    → place ≡ (if is_some end then code.place else None)
    → (shown_calls : List ShownCall) × ((shown_place : Option ShownPlace) × (AreCalls numbers calls shown_calls
    × (IsOptionalPlace numbers place shown_place
    × (stack_read (own_name frames) shown_calls shown_place ≡ shown_up_to end frames))))
read_up_to numbers code frames None calls place known are is = (
  [],
  (
    None,
    (
      subst (λ all. AreCalls numbers all []) (sym are) _,
      (subst (λ there. IsOptionalPlace numbers there None) (sym is) _, refl),
    ),
  ),
)
read_up_to numbers code frames (Some end) calls place known are is = (
  calls_in (map frame_text frames),
  (
    innermost_place (map frame_text frames),
    (
      subst (λ all. AreCalls numbers all (calls_in (map frame_text frames))) (sym are) known.0,
      (
        subst (λ there. IsOptionalPlace numbers there (innermost_place (map frame_text frames))) (sym is) known.1,
        own_stack frames,
      ),
    ),
  ),
)

-- a reader is shown the answer at an address at which what is known of its code was added
pub reads_answer : (numbers : Numbers) (records : FunctionRecords) (address : ℕ)
    → IsCode numbers records.code (map frame_text records.found.frames)
    → calls_at address records.inlines ≡ (if is_some records.found.end_rva then records.code.calls.items else [])
    → content_at address records.lines ≡ (if is_some records.found.end_rva then records.code.place else None)
    → Reads numbers records address (answer_shown records.found)
reads_answer numbers records address known are is =
    read_up_to numbers records.code records.found.frames records.found.end_rva (calls_at address records.inlines)
    (content_at address records.lines) known are is

-- calls stand for what they stood for, once more names have numbers
pub keeps_calls : (old new : Numbers) (calls : List InlinedCall) (shown : List ShownCall) → KeepsAllNames old new
    → AllZip (IsCall old) calls shown → AllZip (IsCall new) calls shown
keeps_calls old new [] [] keeps are = are
keeps_calls old new [] (call ∷ shown) keeps are = are
keeps_calls old new (call ∷ calls) [] keeps are = are
keeps_calls old new (call ∷ calls) (named ∷ shown) keeps are = (
  (
    (keeps.0 call.place.file named.place.file are.0.0.0, are.0.0.1),
    keeps.1 call.origin named.function are.0.1,
  ),
  keeps_calls old new calls shown keeps are.1,
)

-- a place stands for what it stood for, once more names have numbers
pub keeps_place : (old new : Numbers) (place : Option SourceLocation) (shown : Option ShownPlace) → KeepsAllNames old new
    → IsOptionalPlace old place shown → IsOptionalPlace new place shown
keeps_place old new None None keeps is = is
keeps_place old new None (Some shown) keeps is = is
keeps_place old new (Some place) None keeps is = is
keeps_place old new (Some place) (Some shown) keeps is = (keeps.0 place.file shown.file is.0, is.1)

-- what is known of code stays known, once more names have numbers
pub keeps_code : (old new : Numbers) (code : NumberedCode) (frames : List FrameText) → KeepsAllNames old new
    → IsCode old code frames → IsCode new code frames
keeps_code old new code frames keeps is = (
  keeps_calls old new code.calls.items (calls_in frames) keeps is.0,
  keeps_place old new code.place (innermost_place frames) keeps is.1,
)

-- a reader is shown what was shown before, where the records over an address stay
pub still_reads : (old new : Numbers) (before records : FunctionRecords) (address : ℕ) (shown : List ShownFrame)
    → KeepsAllNames old new → own_name before.found.frames ≡ own_name records.found.frames
    → calls_at address records.inlines ≡ calls_at address before.inlines
    → content_at address records.lines ≡ content_at address before.lines
    → Reads old before address shown → Reads new records address shown
still_reads old new before records address shown keeps name calls place read = (
  read.0,
  (
    read.1.0,
    (
      subst (λ all. AreCalls new all read.0) (sym calls) (keeps_calls old new _ read.0 keeps read.1.1.0),
      (
        subst (λ there. IsOptionalPlace new there read.1.0) (sym place)
            (keeps_place old new _ read.1.0 keeps read.1.1.1.0),
        ap (λ own. stack_read own read.0 read.1.0) (sym name) ∙ read.1.1.1.1,
      ),
    ),
  ),
)

-- frames of which a symbol file says the same one by one are the same to it
pub same_texts : (frames others : List FrameInfo) → length frames ≡ length others
    → ((position : ℕ) (d : FrameInfo) → position < length frames
    → frame_text (get_or frames position d) ≡ frame_text (get_or others position d))
    → map frame_text frames ≡ map frame_text others
same_texts [] [] count same = refl
same_texts [] (other ∷ others) count same = cc
same_texts (frame ∷ frames) [] count same = cc
same_texts (frame ∷ frames) (other ∷ others) count same =
    let rest : length frames ≡ length others = omega (arith, count) in
    let first : frame_text frame ≡ frame_text other = same zero frame (omega arith) in
    ap (λ text. text ∷ map frame_text frames) first
    ∙ ap (λ texts. frame_text other ∷ texts)
    (same_texts frames others rest (λ position d below. same (suc position) d (omega (arith, below))))

-- between frames stand one call fewer
calls_between_count : (frame : FrameText) (frames : List FrameText)
    → length (calls_between frame frames) ≡ length frames
calls_between_count frame [] = refl
calls_between_count frame (inner ∷ frames) = ap suc (calls_between_count inner frames)

-- so of all frames
pub calls_count : (frames : List FrameText) → length (calls_in frames) ≡ length frames - 1
calls_count [] = refl
calls_count (frame ∷ frames) =
    let behind : length (frame ∷ frames) - 1 ≡ length frames = omega arith in
    calls_between_count frame frames ∙ sym behind

-- the call at a level stands at the place of the frame there, and calls the next one
pub call_in : (frames : List FrameText) (level : ℕ) (d : FrameText) (e : ShownCall) → level + 1 < length frames
    → get_or (calls_in frames) level e
    ≡ record { place = place_of (get_or frames level d); function = (get_or frames (suc level) d).function }
call_in [] level d e below = let none : ⊥ = omega (arith, below) in elim none [ ]
call_in (frame ∷ []) level d e below = let none : ⊥ = omega (arith, below) in elim none [ ]
call_in (frame ∷ inner ∷ frames) zero d e below = refl
call_in (frame ∷ inner ∷ frames) (suc level) d e below = call_in (inner ∷ frames) level d e (omega (arith, below))

-- calls stand for others with one more on each side
push_call : (numbers : Numbers) (calls : List InlinedCall) (all : List ShownCall) (call : InlinedCall)
    (shown : ShownCall) → AreCalls numbers calls all → IsCall numbers call shown
    → AreCalls numbers (calls ++ call ∷ []) (all ++ shown ∷ [])
push_call numbers [] [] call shown are next = (next, _)
push_call numbers [] (other ∷ all) call shown are next = elim are [ ]
push_call numbers (other ∷ calls) [] call shown are next = elim are [ ]
push_call numbers (first ∷ calls) (other ∷ all) call shown are next =
    (are.0, push_call numbers calls all call shown are.1 next)

-- the calls up to a level and the one there are the calls up to the next
pub one_more_call : (old new : Numbers) (calls : List InlinedCall) (all : List ShownCall) (level : ℕ)
    (call : InlinedCall) (shown : ShownCall) → level < length all → get_or all level shown ≡ shown
    → KeepsAllNames old new → AreCalls old calls (take level all) → IsCall new call shown
    → AreCalls new (calls ++ call ∷ []) (take (level + 1) all)
one_more_call old new calls all level call shown below is keeps are next =
    let more : take (level + 1) all ≡ take level all ++ shown ∷ []
    = take_more all level shown below ∙ ap (λ last. take level all ++ last ∷ []) is in
    subst (AreCalls new (calls ++ call ∷ [])) (sym more)
    (push_call new calls (take level all) call shown
    (keeps_calls old new calls (take level all) keeps are) next)

-- the place of the innermost frame is that of the last one
pub innermost : (frames : List FrameInfo) → innermost_place (map frame_text frames)
    ≡ option_and_then own_place (option_map frame_text (slice_get frames (length frames - 1)))
innermost frames =
    ap (λ count. option_and_then own_place (slice_get (map frame_text frames) (count - 1)))
    (length-map frames frame_text)
    ∙ ap (option_and_then own_place) (slice_get-map frame_text frames (length frames - 1))

-- the calls up to a level, and the one by which the next frame is inlined into the one there
pub next_call : (old new : Numbers) (calls : List InlinedCall) (frames : List FrameInfo) (level : ℕ)
    (call : InlinedCall) (outer inner : FrameInfo) → level < length frames - 1 → outer ≡ get_or frames level outer
    → inner ≡ get_or frames (level + 1) inner → KeepsAllNames old new
    → AreCalls old calls (take level (calls_in (map frame_text frames)))
    → IsCall new call (record { place = place_of (frame_text outer); function = (frame_text inner).function })
    → AreCalls new (calls ++ call ∷ []) (take (level + 1) (calls_in (map frame_text frames)))
next_call old new calls frames level call outer inner below outer_is inner_is keeps are next =
    let texts : List FrameText = map frame_text frames in
    let shown : ShownCall = record { place = place_of (frame_text outer); function = (frame_text inner).function } in
    let count : length texts ≡ length frames = length-map frames frame_text in
    let some : level < length (calls_in texts) = omega (arith, below, calls_count texts, count) in
    let within : level + 1 < length texts = omega (arith, below, count) in
    let first : get_or texts level (frame_text outer) ≡ frame_text outer
    = get_or-map frame_text frames level outer (frame_text outer) (omega (arith, below))
    ∙ sym (ap frame_text outer_is) in
    let second : get_or texts (suc level) (frame_text outer) ≡ frame_text inner
    = get_or-map frame_text frames (suc level) inner (frame_text outer) (omega (arith, below))
    ∙ sym (ap frame_text (inner_is ∙ ap (λ n. get_or frames n inner) (omega arith))) in
    let is : get_or (calls_in texts) level shown ≡ shown
    = call_in texts level (frame_text outer) shown within
    ∙ ap (λ text. record { place = place_of text; function = (get_or texts (suc level) (frame_text outer)).function })
    first
    ∙ ap (λ text. record { place = place_of (frame_text outer); function = text.function }) second in
    one_more_call old new calls (calls_in texts) level call shown some is keeps are next

-- the calls up to the last level are all
pub all_calls : (frames : List FrameInfo) (level : ℕ) → length frames - 1 ≤ level
    → take level (calls_in (map frame_text frames)) ≡ calls_in (map frame_text frames)
all_calls frames level all =
    let count : length (map frame_text frames) ≡ length frames = length-map frames frame_text in
    take_all level (calls_in (map frame_text frames))
    (omega (arith, all, calls_count (map frame_text frames), count))

-- a reader is shown the answer that was put
pub reads_found : (numbers : Numbers) (records : FunctionRecords) (address : ℕ) (code : NumberedCode)
    (found : FramesInfo) → records.found ≡ found → records.code ≡ code
    → IsCode numbers code (map frame_text found.frames)
    → calls_at address records.inlines ≡ (if is_some records.found.end_rva then records.code.calls.items else [])
    → content_at address records.lines ≡ (if is_some records.found.end_rva then records.code.place else None)
    → Reads numbers records address (answer_shown found)
reads_found numbers records address code found found_is code_is known are is =
    subst (λ answer. Reads numbers records address (answer_shown answer)) found_is
    (reads_answer numbers records address
    (subst (λ all. IsCode numbers records.code (map frame_text all.frames)) (sym found_is)
    (subst (λ all. IsCode numbers all (map frame_text found.frames)) (sym code_is) known)) are is)

-- what is known of records of which an address was added
pub ruleset recorded = (reads_answer, keeps_code)
