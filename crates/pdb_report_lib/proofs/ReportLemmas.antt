-- A report address by address.
use Rattle.std.proofs.Common.{◌≡◌, ◌∙◌, ℕ, ◌+◌, ◌<◌, List, [], ◌∷◌, ◌++◌, length, take}
use Rattle.std.proofs.Common.{get_or, refl, sym, ap, subst, append_assoc, append-nil}
use Rattle.std.specs.Prelude.{Option, Some, None, Result, Ok, Err, IfErr}
use Rattle.std.specs.Result.{IsErrAnd}
use Rattle.std.proofs.lemmas.Option.{slice_get-get_or}
use Rattle.std.proofs.lemmas.List.{take_more}
use Rattle.pdb_errors.specs.declared.error.Error.{Error}
use Rattle.pdb_errors.specs.Outcomes.{and_then}
use Rattle.pdb_frames.specs.CodeParts.{CodeParts}
use Rattle.pdb_frames.specs.declared.code_parts.CodePart.{CodePart}
use Rattle.pdb_addr2line.specs.Lookups.{answered_refusal, failed_by_refusal}
use Rattle.pdb_report_lib.specs.Sinks.{SinkState, Grows, Takes}
use Rattle.pdb_report_lib.specs.declared.reports.ReportFault.{ReportFault}
use Rattle.pdb_report_lib.specs.declared.reports.ReportFault.TheVariants.{Lookup, Write}
use Rattle.pdb_report_lib.specs.Reports.{addresses_text, TakesText, EndsAtOnce, EndsAmidTexts}

-- bytes that grow by one piece and then by another grow by both
grows_more : (before between after : Option (List ℕ)) (xs ys : List ℕ)
    → Grows before between xs → Grows between after ys → Grows before after (xs ++ ys)
grows_more None between after xs ys first second = tt
grows_more (Some held) between after xs ys first second =
    let next : Grows (Some (held ++ xs)) after ys = rw first at second in next ∙ ap Some (append_assoc held xs ys)

-- bytes that stay have nothing after them
grows_none : (held : Option (List ℕ)) → Grows held held []
grows_none None = tt
grows_none (Some held) = ap Some (sym (append-nil held))

-- a sink that is as it was took nothing
pub takes_none : (state : SinkState) → Takes state state []
takes_none state = record { held = grows_none state.held; unchanged = refl }

-- what a sink takes in two pieces it takes in one
pub takes_more : (before between after : SinkState) (xs ys : List ℕ)
    → Takes before between xs → Takes between after ys → Takes before after (xs ++ ys)
takes_more before between after xs ys first second = record {
  held = grows_more before.held between.held after.held xs ys first.held second.held;
  unchanged = second.unchanged ∙ first.unchanged;
}

-- what a sink takes of two texts, one after the other, it takes of both
pub takes_both : (before between after : SinkState) (first second : Result (List ℕ) Error)
    → TakesText first before between → TakesText second between after
    → TakesText (and_then first (λ text. and_then second (λ texts. Ok (text ++ texts)))) before after
takes_both before between after (Ok xs) (Ok ys) one other = takes_more before between after xs ys one other
takes_both before between after (Ok xs) (Err e) one other = absurd other
takes_both before between after (Err e) second one other = absurd one

-- a text with nothing after it
text_alone : (first : Result (List ℕ) Error) → and_then first (λ text. Ok (text ++ [])) ≡ first
text_alone (Ok text) = ap Ok (append-nil text)
text_alone (Err e) = refl

-- three texts in a row, however they are put together
texts_append : (first second third : Result (List ℕ) Error)
    → and_then first (λ a. and_then (and_then second (λ b. and_then third (λ c. Ok (b ++ c)))) (λ rest. Ok (a ++ rest)))
    ≡ and_then (and_then first (λ a. and_then second (λ b. Ok (a ++ b))))
    (λ front. and_then third (λ c. Ok (front ++ c)))
texts_append (Ok a) (Ok b) (Ok c) = ap Ok (sym (append_assoc a b c))
texts_append (Ok a) (Ok b) (Err e) = refl
texts_append (Ok a) (Err e) third = refl
texts_append (Err e) second third = refl

-- nothing, and then a text
text_behind_none : (second : Result (List ℕ) Error) → second ≡ and_then second (λ text. Ok text)
text_behind_none (Ok text) = refl
text_behind_none (Err e) = refl

-- the texts of two lists of addresses are those of the one and those of the other
addresses_text-append : (text_of : ℕ → Result (List ℕ) Error) (xs ys : List ℕ)
    → addresses_text text_of (xs ++ ys)
    ≡ and_then (addresses_text text_of xs) (λ text. and_then (addresses_text text_of ys) (λ texts. Ok (text ++ texts)))
addresses_text-append f [] ys = text_behind_none (addresses_text f ys)
addresses_text-append f (x ∷ xs) ys =
    ap (λ (rest : Result (List ℕ) Error). and_then (f x) (λ text. and_then rest (λ texts. Ok (text ++ texts))))
    (addresses_text-append f xs ys)
    ∙ texts_append (f x) (addresses_text f xs) (addresses_text f ys)

-- the text of one address more
pub takes_one_more : (text_of : ℕ → Result (List ℕ) Error) (addresses : List ℕ) (i : ℕ)
    (before between after : SinkState)
    → i < length addresses
    → TakesText (addresses_text text_of (take i addresses)) before between
    → TakesText (text_of (get_or addresses i 0)) between after
    → TakesText (addresses_text text_of (take (i + 1) addresses)) before after
takes_one_more f addresses i before between after below taken next =
    let address = get_or addresses i 0 in
    let front : Result (List ℕ) Error = addresses_text f (take i addresses) in
    let alone : addresses_text f (address ∷ []) ≡ f address = text_alone (f address) in
    let whole : addresses_text f (take (i + 1) addresses) ≡ and_then front
    (λ text. and_then (f address) (λ texts. Ok (text ++ texts))) =
    ap (addresses_text f) (take_more addresses i 0 below)
    ∙ (addresses_text-append f (take i addresses) (address ∷ [])
    ∙ ap (λ (last : Result (List ℕ) Error). and_then front (λ text. and_then last (λ texts. Ok (text ++ texts))))
    alone) in
    rw whole (takes_both before between after front (f address) taken next)

-- a report that ends at an address, once those before it are answered, ends amid its texts
pub ends_at_address : (text_of : ℕ → Result (List ℕ) Error) (addresses : List ℕ) (i : ℕ)
    (before between after : SinkState)
    (fault : ReportFault) → i < length addresses
    → TakesText (addresses_text text_of (take i addresses)) before between
    → EndsAtOnce (text_of (get_or addresses i 0)) between after fault
    → EndsAmidTexts text_of addresses before after fault
ends_at_address f addresses i before between after (Lookup e) below taken ends = record {
  done = i;
  address = get_or addresses i 0;
  next = slice_get-get_or addresses i 0 below;
  refused = ends.0;
  taken = rw ends.1 taken;
}
ends_at_address f addresses i before between after Write below taken ends = ends

-- a call that ends with a fault
pub fails_with : {A : Type 0} (r : Result A ReportFault) (fault : ReportFault) (ends : ReportFault → Type 0)
    → IsErrAnd r (λ given. given ≡ fault) → ends fault → IfErr r ends
fails_with (Ok done) fault ends is at_fault = tt
fails_with (Err given) fault ends is at_fault = subst ends (sym is) at_fault

-- what isn't refused makes no part of the records of code fail
pub unrefused : {A : Type 0} (failed : CodeParts) (part : Option CodePart) (answer : Result A Error) (a : A)
    → answered_refusal failed part answer ≡ Ok a → failed_by_refusal failed part answer ≡ failed
unrefused failed part (Ok b) a is = refl
unrefused failed part (Err e) a is = absurd cc
