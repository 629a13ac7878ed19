-- What a report's look-ups leave of a context.
use Rattle.std.proofs.Common.{◌≡◌, ◌∙◌, ℕ, ◌+◌, ◌<◌, List, [], ◌∷◌, length, take, map, get_or, refl, sym, ap}
use Rattle.std.specs.Prelude.{Option, Result, Ok, Err, OnOk, IfErr, fold}
use Rattle.std.proofs.lemmas.List.{take_more}
use Rattle.std.proofs.lemmas.List.Sums.{fold-append}
use Rattle.std.proofs.lemmas.Option.{slice_get-get_or}
use Rattle.pdb_records.specs.Provided.{ProviderInfos}
use Rattle.pdb_errors.specs.declared.error.Error.{Error}
use Rattle.pdb_errors.specs.declared.error.Error.TheVariants.{OutOfMemory}
use Rattle.pdb_errors.specs.Outcomes.{Gives}
use Rattle.pdb_function_info.specs.Frames.{ButForMemory}
use Rattle.pdb_function_info.specs.NameTexts.{GainsBroken}
use Rattle.pdb_frames.specs.CodeParts.{CodeParts}
use Rattle.pdb_types.specs.FailedParts.{Parts}
use Rattle.pdb_addr2line.specs.declared.calls.Call.TheVariants.{FindFunction, FindFrames}
use Rattle.pdb_addr2line.specs.Calls.{after_frames, after_calls}
use Rattle.pdb_addr2line.specs.FunctionIter.{after_function, after_functions, OnlyGainsBroken, IsCutShort}
use Rattle.pdb_frames.specs.Frame.{FramesInfo}
use Rattle.pdb_addr2line.specs.Lookups.{failed_after_frames, code_failed_after, frames_at, frames_answered, blamed_at}
use Rattle.pdb_addr2line.specs.ContextInputs.{ContextInputs, ContextState}
use Rattle.pdb_addr2line.proofs.GainLemmas.{gains_by_one}
use Rattle.pdb_report_lib.specs.declared.reports.ReportFault.{ReportFault}
use Rattle.pdb_report_lib.specs.declared.reports.ReportFault.TheVariants.{Lookup}
use Rattle.pdb_report_lib.specs.declared.reports.Command.{Command}
use Rattle.pdb_report_lib.specs.declared.reports.Command.TheVariants.{Names}
use Rattle.pdb_report_lib.specs.Reports.{report_calls, IsLeftByFrames, IsLeftAmid}
use Rattle.pdb_report_lib.proofs.ReportLemmas.{unrefused}

-- calls for the functions over addresses leave what answering them leaves
pub after_function_calls : {P : Type 0} (info : P → ProviderInfos) (c : ContextState P) (addresses : List ℕ)
    → after_calls info c (map FindFunction addresses) ≡ after_functions info c addresses
after_function_calls info c [] = refl
after_function_calls info c (address ∷ addresses) = after_function_calls info (after_function info c address) addresses

-- calls for the frames over addresses are made one after the other
frames_in_turn : {P : Type 0} (info : P → ProviderInfos) (c : ContextState P) (addresses : List ℕ)
    → after_calls info c (map FindFrames addresses) ≡ fold (after_frames info) c addresses
frames_in_turn info c [] = refl
frames_in_turn info c (address ∷ addresses) = frames_in_turn info (after_frames info c address) addresses

-- a context once it answered the frames over one address more
pub after_frames_more : {P : Type 0} (info : P → ProviderInfos) (c between after : ContextState P)
    (addresses : List ℕ) (i : ℕ)
    → i < length addresses → between ≡ after_calls info c (map FindFrames (take i addresses))
    → after ≡ after_frames info between (get_or addresses i 0)
    → after ≡ after_calls info c (map FindFrames (take (i + 1) addresses))
after_frames_more info c between after addresses i below first next =
    let address = get_or addresses i 0 in
    let so_far = first ∙ frames_in_turn info c (take i addresses) in
    next ∙ ap (λ state. after_frames info state address) so_far
    ∙ sym (fold-append (after_frames info) c (take i addresses) (address ∷ []))
    ∙ sym (ap (fold (after_frames info) c) (take_more addresses i 0 below))
    ∙ sym (frames_in_turn info c (take (i + 1) addresses))

-- a report of frames that ends at an address leaves what the look-up there leaves
pub left_at_address : {P : Type 0} (info : P → ProviderInfos) (c between after : ContextState P) (addresses : List ℕ)
    (i : ℕ)
    (fault : ReportFault) → i < length addresses → between ≡ after_calls info c (map FindFrames (take i addresses))
    → IsLeftByFrames info between (get_or addresses i 0) fault after → IsLeftAmid info c after addresses fault
left_at_address info c between after addresses i fault below first left = record {
  done = i;
  address = get_or addresses i 0;
  next = slice_get-get_or addresses i 0 below;
  left = rw first at left;
}

-- a report of functions that ends at an address is cut short there
pub cut_at_address : {P : Type 0} (info : P → ProviderInfos) (c between after : ContextState P) (addresses : List ℕ)
    (i : ℕ)
    → between ≡ after_functions info c (take i addresses) → OnlyGainsBroken info between after
    → IsCutShort info c after addresses
cut_at_address info c between after addresses i first gains = record { done = i; interrupted = rw first at gains }

-- a context that holds these
abbrev holding : {P : Type 0} → ContextInputs P → Parts → CodeParts → ContextState P
holding inputs failed code = record { inputs = inputs; failed = failed; code_failed = code }

-- contexts are the same, where all that they hold is
same_context : {P : Type 0} (s s' : ContextInputs P) (failed failed' : Parts) (code code' : CodeParts)
    → s ≡ s' → failed ≡ failed' → code ≡ code' → holding s failed code ≡ holding s' failed' code'
same_context s s' failed failed' code code' one two three = rw (one, two, three) refl

-- a look-up of frames that is answered leaves the context as the definition has it
pub state_where_answered : {P A : Type 0} (info : P → ProviderInfos) (before after : ContextState P) (address : ℕ)
    (answer : Result A Error)
    → after.inputs ≡ before.inputs
    → ButForMemory answer (after.failed ≡ failed_after_frames info before.inputs address before.failed)
    → ButForMemory answer (after.code_failed ≡ code_failed_after info before address)
    → OnOk answer (after ≡ after_frames info before address)
state_where_answered info before after address (Ok answer) inputs failed code =
    same_context _ _ _ _ _ _ inputs failed code
state_where_answered info before after address (Err e) inputs failed code = tt

-- a look-up of frames that is answered has the context remember no more than broken parts besides
pub gains_where_answered : {P : Type 0} (info : P → ProviderInfos) (before after : ContextState P) (address : ℕ)
    (answer : Result (Option FramesInfo) Error) → after.inputs ≡ before.inputs
    → GainsBroken info before.inputs.type_inputs before.failed after.failed
    → ButForMemory answer (after.code_failed ≡ code_failed_after info before address)
    → Gives (λ f. f) answer (frames_answered info before address) → OnOk answer (OnlyGainsBroken info before after)
gains_where_answered info before after address (Ok found) inputs broken code given =
    gains_by_one info before after inputs broken
    (code ∙ unrefused before.code_failed (blamed_at info before.inputs address)
    (frames_at info before.inputs address) found given)
gains_where_answered info before after address (Err e) inputs broken code given = tt

-- a look-up of frames that is refused leaves it so too, unless memory ran out
pub early_where_refused : {P A : Type 0} (info : P → ProviderInfos) (before after : ContextState P) (address : ℕ)
    (answer : Result A Error)
    → after.inputs ≡ before.inputs
    → ButForMemory answer (after.failed ≡ failed_after_frames info before.inputs address before.failed)
    → ButForMemory answer (after.code_failed ≡ code_failed_after info before address)
    → IfErr answer (λ e. e ≡ OutOfMemory → after.code_failed ≡ before.code_failed)
    → GainsBroken info before.inputs.type_inputs before.failed after.failed
    → IfErr answer (λ e. IsLeftByFrames info before address (Lookup e) after)
early_where_refused info before after address (Ok answer) inputs failed code unchanged broken = tt
early_where_refused info before after address (Err e) inputs failed code unchanged broken = (
  λ memory. gains_by_one info before after inputs broken (unchanged memory),
  λ other. same_context _ _ _ _ _ _ inputs (failed other) (code other),
)

-- what a report of functions leaves of a context, its calls leave of it
pub state_by_calls : {P A E : Type 0} (info : P → ProviderInfos) (c after : ContextState P) (command : Command)
    (addresses : List ℕ)
    (ended : Result A E) → command ≡ Names → OnOk ended (after ≡ after_functions info c addresses)
    → OnOk ended (after ≡ after_calls info c (report_calls command addresses))
state_by_calls info c after command addresses (Ok done) is state =
    state ∙ sym (after_function_calls info c addresses) ∙ ap
    (λ wanted. after_calls info c (report_calls wanted addresses)) (sym is)
state_by_calls info c after command addresses (Err e) is state = tt
