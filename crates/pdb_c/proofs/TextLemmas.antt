-- From how a report ends to the text that a call finds.
use Rattle.std.proofs.Common.{◌≡◌, ◌∙◌, ℕ, List, [], ◌∷◌, ◌++◌, take, refl, sym, ap, subst, zero, suc}
use Rattle.std.specs.Prelude.{◌≢◌, Option, Some, Result, Ok, Err, slice_get}
use Rattle.pdb_records.specs.Records.{Records}
use Rattle.pdb_errors.specs.declared.error.Error.{Error}
use Rattle.pdb_errors.specs.declared.error.Error.TheVariants.{OutOfMemory}
use Rattle.pdb_errors.specs.Outcomes.{and_then, unless}
use Rattle.pdb_records.specs.Provided.{ProviderInfos}
use Rattle.pdb_frames.specs.CodeParts.{CodeParts}
use Rattle.pdb_addr2line.specs.ContextInputs.{ContextInputs, ContextState}
use Rattle.pdb_addr2line.specs.ContextData.{records_refusal, default_flags, context_of}
use Rattle.pdb_addr2line.specs.Calls.{fresh}
use Rattle.pdb_json_values.specs.RecordFault.{Fault, IsFaultOf}
use Rattle.pdb_json_values.specs.declared.record_fault.RecordFault.{RecordFault}
use Rattle.pdb_json_values.specs.declared.record_fault.RecordFault.TheVariants as fault
use Rattle.pdb_report_lib.specs.declared.reports.Command.{Command}
use Rattle.pdb_report_lib.specs.declared.reports.Command.TheVariants.{Names, Frames}
use Rattle.pdb_report_lib.specs.declared.reports.Command.TheVariants as wanted
use Rattle.pdb_report_lib.specs.declared.reports.ReportFault.{ReportFault}
use Rattle.pdb_report_lib.specs.declared.reports.ReportFault.TheVariants.{Lookup, Write}
use Rattle.pdb_report_lib.specs.FileReports.{opened}
use Rattle.pdb_report_lib.specs.Sinks.{SinkState}
use Rattle.pdb_report_lib.specs.Reports.{addresses_text, function_text, stack_text, report_text, TakesText, EndsAt}
use Rattle.pdb_report_lib.specs.Reports.{EndsEarly}
use Rattle.pdb_c.specs.declared.call_error.CallError.{CallError}
use Rattle.pdb_c.specs.declared.call_error.CallError.TheVariants as refusal
use Rattle.pdb_c.specs.CallError.{refusal_of, refusal_of_fault, refusal_or_memory, refusal_of_records, refusal_of_report}
use Rattle.std.specs.Result.{IsErrAnd}
use Rattle.pdb_c.specs.ReportTexts.{with_refusal, text_of_context, text_over, Agrees}
use Rattle.pdb_c.specs.Questions.{infos}

-- two texts in a row, of which the second has an error wherever its start is a text
joined_refused : (first front rest : Result (List ℕ) Error) (error : Error) (texts : List ℕ)
    → and_then first (λ a. and_then front (λ b. Ok (a ++ b))) ≡ Ok texts
    → ((b : List ℕ) → front ≡ Ok b → rest ≡ Err error)
    → and_then first (λ a. and_then rest (λ b. Ok (a ++ b))) ≡ Err error
joined_refused (Ok a) (Ok b) rest error texts joined refused = rw (refused b refl) refl
joined_refused (Ok a) (Err e) rest error texts joined refused = absurd cc
joined_refused (Err e) front rest error texts joined refused = absurd cc

-- a text that has an error, and whatever follows it
first_refused : (first : Result (List ℕ) Error) (error : Error) (next : List ℕ → Result (List ℕ) Error)
    → first ≡ Err error → and_then first next ≡ Err error
first_refused first error next refused = rw refused refl

-- the first address whose text has an error, after addresses that all have texts
text_refused : (text_of : ℕ → Result (List ℕ) Error) (addresses : List ℕ) (done address : ℕ) (error : Error)
    (texts : List ℕ)
    → slice_get addresses done ≡ Some address
    → addresses_text text_of (take done addresses) ≡ Ok texts
    → text_of address ≡ Err error
    → addresses_text text_of addresses ≡ Err error
text_refused f [] done address error texts next taken refused = absurd cc
text_refused f (x ∷ xs) zero address error texts next taken refused =
    let same : x ≡ address = cc in
    first_refused (f x) error _ (ap f same ∙ refused)
text_refused f (x ∷ xs) (suc n) address error texts next taken refused =
    joined_refused (f x) (addresses_text f (take n xs)) (addresses_text f xs) error texts taken
    (λ b is. text_refused f xs n address error b next is refused)

-- a text that a sink took is a text
taken_text : {A : Type 0} (text : Result (List ℕ) Error) (before after : SinkState)
    → TakesText text before after → ((b : List ℕ) → text ≡ Ok b → A) → A
taken_text (Ok b) before after taken next = next b refl
taken_text (Err e) before after taken next = absurd taken

-- addresses of which one is refused
addresses_refused : (text_of : ℕ → Result (List ℕ) Error) (addresses : List ℕ) (before after : SinkState)
    (error : Error) → error ≢ OutOfMemory → EndsAt text_of addresses before after error
    → addresses_text text_of addresses ≡ Err error
addresses_refused f addresses before after error other ends =
    taken_text (addresses_text f (take ends.done addresses)) before after ends.taken
    (λ b is. text_refused f addresses ends.done ends.address error b ends.next is (ends.refused other))

-- a report that ends early at a look-up, but not where memory ran out, has that look-up's error for its text
pub report_refused : {P : Type 0} (info : P → ProviderInfos) (inputs : ContextInputs P) (failed : CodeParts)
    (command : Command) (addresses : List ℕ) (before after : SinkState) (error : Error)
    → error ≢ OutOfMemory → EndsEarly info inputs failed command addresses before after (Lookup error)
    → report_text info inputs failed command addresses ≡ Err error
report_refused info inputs failed Names addresses before after error other ends =
    addresses_refused (function_text info inputs) addresses before after error other ends
report_refused info inputs failed Frames addresses before after error other ends =
    addresses_refused (stack_text info inputs failed) addresses before after error other ends
report_refused info inputs failed wanted.List addresses before after error other ends = absurd (other ends.memory)

-- the text that an empty sink took is what it holds
pub report_taken : (text : Result (List ℕ) Error) (before after : SinkState) (held : List ℕ)
    → before.held ≡ Some [] → Some held ≡ after.held → TakesText text before after → text ≡ Ok held
report_taken (Ok b) before after held empty is taken =
    let grown = rw empty at taken.held in
    let same : b ≡ held = cc in
    ap Ok same
report_taken (Err e) before after held empty is taken = absurd taken

-- an error that is not out of memory is answered as this refusal
pub is_other : (why : CallError) (error : Error) → error ≢ OutOfMemory → refusal_or_memory why error ≡ why
is_other why OutOfMemory other = absurd (other refl)
is_other why error other = refl

-- an error that is not answered as out of memory is none
pub not_memory : (why : CallError) (error : Error)
    → refusal_or_memory why error ≢ refusal.OutOfMemory → error ≢ OutOfMemory
not_memory why error other is = other (ap (λ e. refusal_or_memory why e) is)

-- what a reader's fault in a file is answered as
pub fault_shown : {X : Type 0} (given : RecordFault) (read : Result X Fault)
    → IsFaultOf given read → refusal_of_fault given ≢ refusal.OutOfMemory
    → with_refusal refusal_of read ≡ Err (refusal_of_fault given)
fault_shown fault.NotJson read is other = rw is refl
fault_shown (fault.ModuleFiles wanted given) read is other = rw is refl
fault_shown (fault.Shape path wanted) read is other = rw is refl
fault_shown (fault.NumberOutOfRange path) read is other = rw is refl
fault_shown (fault.ModuleNotJson path) read is other = rw is refl
fault_shown fault.OutOfMemory read is other = absurd (other refl)

-- records with no context
pub context_refused : (command : Command) (made : Result (ContextInputs Records) Error) (addresses : List ℕ)
    (error : Error)
    → (error ≢ OutOfMemory → made ≡ Err error) → refusal_of_records error ≢ refusal.OutOfMemory
    → text_over command made addresses ≡ Err (refusal_of_records error)
context_refused command made addresses error gives other =
    let no_memory = not_memory refusal.RecordsRefused error other in
    rw (gives no_memory, is_other refusal.RecordsRefused error no_memory) refl

-- an address that is refused
pub address_refused : (command : Command) (context : ContextState Records) (addresses : List ℕ)
    (before after : SinkState) (why : ReportFault)
    → EndsEarly infos context.inputs context.code_failed command addresses before after why
    → refusal_of_report why ≢ refusal.OutOfMemory
    → text_of_context command context addresses ≡ Err (refusal_of_report why)
address_refused command context addresses before after (Lookup error) ends other =
    let no_memory = not_memory refusal.AddressRefused error other in
    let refusal_at : CallError → Result (List ℕ) CallError = λ why. Err why in
    let convert : Result (List ℕ) Error → Result (List ℕ) CallError = with_refusal (λ e. refusal.AddressRefused) in
    let text : report_text infos context.inputs context.code_failed command addresses ≡ Err error =
    report_refused infos context.inputs context.code_failed command addresses before after error no_memory ends in
    ap convert text ∙ ap refusal_at (sym (is_other refusal.AddressRefused error no_memory))
address_refused command context addresses before after Write ends other = absurd (other refl)

-- a text that was gathered whole, by a sink that was empty
pub text_gathered : (command : Command) (context : ContextState Records) (addresses : List ℕ)
    (before after start : SinkState) (held : List ℕ)
    → before ≡ start → start.held ≡ Some [] → Some held ≡ after.held
    → TakesText (report_text infos context.inputs context.code_failed command addresses) before after
    → text_of_context command context addresses ≡ Ok held
text_gathered command context addresses before after start held starts empty holds taken =
    let held_of : SinkState → Option (List ℕ) = λ s. s.held in
    let convert : Result (List ℕ) Error → Result (List ℕ) CallError = with_refusal (λ e. refusal.AddressRefused) in
    let text : report_text infos context.inputs context.code_failed command addresses ≡ Ok held =
    report_taken (report_text infos context.inputs context.code_failed command addresses) before after held
    (ap held_of starts ∙ empty) holds taken in
    ap convert text

-- the text over records is that of their context, of which no part has failed
pub text_of_fresh : (command : Command) (made : Result (ContextInputs Records) Error) (context : ContextState Records)
    (addresses : List ℕ) → made ≡ Ok context.inputs → context.failed ≡ [] → context.code_failed ≡ []
    → text_over command made addresses ≡ text_of_context command context addresses
text_of_fresh command made context addresses is failed code_failed =
    let same : fresh context.inputs ≡ context =
    λ i. record { inputs = context.inputs; failed = sym failed i; code_failed = sym code_failed i } in
    rw is (ap (λ c. text_of_context command c addresses) same)

-- records of which a stream failed have no context
pub stream_failed : (records : Records) (error : Error)
    → records_refusal records ≡ Some error → opened records ≡ Err error
stream_failed records error refused = ap (λ r. unless r (context_of default_flags records)) refused

-- a call that ends with what an error is answered as
pub matches : {A B : Type 0} (seen : A → B) (r : Result A CallError) (why : CallError) (definition : Result B CallError)
    → IsErrAnd r (λ given. given ≡ why) → (why ≢ refusal.OutOfMemory → definition ≡ Err why) → Agrees seen r definition
matches seen (Ok a) why definition is at_why = absurd is
matches seen (Err given) why definition is at_why =
    subst (λ w. w ≢ refusal.OutOfMemory → definition ≡ Err w) (sym is) at_why

-- what is so of a refusal is so of a result that is it
pub ends_with : {A : Type 0} (r : Result A CallError) (why : CallError) (P : Result A CallError → Type 0)
    → IsErrAnd r (λ given. given ≡ why) → P (Err why) → P r
ends_with (Ok a) why P is so = absurd is
ends_with (Err given) why P is so = subst (λ w. P (Err w)) (sym is) so
