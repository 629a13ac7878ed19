-- From a part of a file to all of it.
use Rattle.std.proofs.Common.{◌≡◌, ◌∙◌, ℕ, List, Bool, true, false, not, ◌||◌, refl, sym, ap, subst, map, Bor}
use Rattle.std.specs.Prelude.{◌==◌, length, Option, Some, None, Result, Ok, Err, option_map, slice_get, unwrap_or}
use Rattle.std.specs.Option.{option_map_or}
use Rattle.std.specs.Result.{result_map_both}
use Rattle.std.proofs.lemmas.Option.{slice_get-map}
use Rattle.pdb_records.specs.Records.{Records}
use Rattle.pdb_errors.specs.declared.error.Error.{Error}
use Rattle.pdb_addr2line.specs.ContextData.{context_of, default_flags, records_refusal}
use Rattle.pdb_addr2line.specs.ContextInputs.{ContextInputs, ContextState}
use Rattle.pdb_addr2line.specs.Calls.{fresh}
use Rattle.pdb_addr2line.specs.Lookups.{contribution_at}
use Rattle.pdb_msf.specs.declared.container_error.ContainerError.{ContainerError}
use Rattle.pdb_container.specs.PdbFile.{records_of}
use Rattle.pdb_repairs.specs.Repaired.{repaired}
use Rattle.pdb_known.specs.Known.{Known, is_read, lacks}
use Rattle.pdb_known.specs.StrictlyClosed.{is_strictly_closed}
use Rattle.pdb_session.specs.CodeOwners.{lacks_owner, owners_of}
use Rattle.pdb_session.specs.FileParts.{IsPartOfFile}
use Rattle.pdb_session.specs.Session.{needs, needs_none}
use Rattle.pdb_session.proofs.OwnerLemmas.{lacks_same}
use Rattle.pdb_session.proofs.PartLemmas.{SameAnswers, answers_as_all}
use Rattle.pdb_c.specs.declared.call_error.CallError.{CallError}
use Rattle.pdb_c.specs.declared.call_error.CallError.TheVariants.{Closed}
use Rattle.pdb_c.specs.declared.found_frames.FoundFrames.{FoundFrames}
use Rattle.pdb_c.specs.declared.found_frames.Question.TheVariants as question
use Rattle.pdb_c.specs.FoundFrames.{Shown, flag_number, shown_flag, shown_view}
use Rattle.pdb_c.specs.Openings.{accepted_records, context_over, fresh_context, held_by, repaired_file, unless_refused}
use Rattle.pdb_c.specs.Parts.{LeavesPart, OverPart, flag_of_handle, flags_of}
use Rattle.pdb_c.specs.Questions.{AnswersHandle, LeavesHandle, is_flagged, is_read_at}
use Rattle.pdb_c.specs.ReportTexts.{Agrees}

-- a flag is set exactly if it says that a module was read
flag_read : (read : Option Bool) → (unwrap_or (option_map flag_number read) 1 == 1) ≡ unwrap_or read true
flag_read None = refl
flag_read (Some true) = refl
flag_read (Some false) = refl

-- the flag of a module is set exactly if it was read
flagged_as_read : (known : Known) (module_index : ℕ)
    → is_flagged (flags_of known) module_index ≡ is_read known module_index
flagged_as_read known module_index =
    ap (λ flag. unwrap_or flag 1 == 1) (slice_get-map flag_number known.modules module_index)
    ∙ flag_read (slice_get known.modules module_index)

-- no module is lacking where the flag of the one whose code lies there is set
none_lacking : {C : Type 0} (known : Known) (found : Option C) (module_of : C → ℕ)
    → option_map_or (is_flagged (flags_of known)) (option_map module_of found) true ≡ true
    → option_map_or (λ c. not (is_read known (module_of c))) found false ≡ false
none_lacking known None module_of flagged = refl
none_lacking known (Some c) module_of flagged = ap not (sym (flagged_as_read known (module_of c)) ∙ flagged)

-- nothing is needed of what is closed and lacks nothing
nothing_needed : (closed lacking : Bool) → closed ≡ true → lacking ≡ false → (not closed || lacking) ≡ false
nothing_needed true false is has = refl
nothing_needed true true is has = absurd cc
nothing_needed false lacking is has = absurd cc

-- repaired records of a file are those of its records
whole_of : (read : Result Records ContainerError) (records : Records)
    → result_map_both repaired (λ fault. fault) read ≡ Ok records
    → (whole : Records) × ((read ≡ Ok whole) × (repaired whole ≡ records))
whole_of (Ok whole) records is = (whole, (refl, cc))
whole_of (Err fault) records is = absurd cc

-- the inputs of a fresh context are those that it was made over
inputs_of : (made : Result (ContextInputs Records) Error) (context : ContextState Records)
    → fresh_context made ≡ Ok context → made ≡ Ok context.inputs
inputs_of (Ok inputs) context is =
    let same : fresh inputs ≡ context = cc in
    ap (λ (c : ContextState Records). Ok c.inputs) same
inputs_of (Err error) context is = absurd cc

-- a part answers as its file where the flag of the module at the address is set
pub same_as_file : (file addresses flags : List ℕ) (part all : ContextState Records) (records : Records) (address : ℕ)
    → OverPart file addresses flags part → repaired_file file ≡ Ok records → context_over records ≡ Ok all
    → is_read_at flags part address ≡ true → SameAnswers part.inputs all.inputs address
same_as_file file addresses flags part all records address over_part read made flagged =
    let known = over_part.known in
    let (whole, is) = whole_of (records_of file) records read in
    let part_made : context_of default_flags known.records ≡ Ok part.inputs =
    inputs_of (context_of default_flags known.records) part over_part.made in
    let all_made : context_of default_flags (repaired whole) ≡ Ok all.inputs =
    ap (context_of default_flags) is.1 ∙ inputs_of (context_of default_flags records) all made in
    let has : lacks known part.inputs address ≡ false =
    none_lacking known (contribution_at part.inputs address) (λ c. c.module_index)
    (subst (λ (set : List ℕ). is_read_at set part address ≡ true) over_part.modules flagged) in
    let enough : needs known address ≡ false =
    nothing_needed (is_strictly_closed known) (lacks_owner known (owners_of known.records) address) over_part.closed
    (sym (lacks_same default_flags known part.inputs address part_made) ∙ has) in
    answers_as_all default_flags known (repaired whole) part.inputs all.inputs address enough
    (over_part.part refl whole is.0) part_made all_made

-- records that are accepted are those that were given
pub accepted_same : (refused : Option Error) (records value : Records) → unless_refused refused records ≡ Ok value
    → records ≡ value
accepted_same None records value is = cc
accepted_same (Some error) records value is = absurd cc

-- what a handle holds once a part was put into it
pub part_left : (file addresses flags : List ℕ) (known : Known) (made : Result (ContextState Records) CallError)
    (held held' : Option (ContextState Records)) → IsPartOfFile known (Some file) (length file)
    → is_strictly_closed known ≡ true → needs_none known addresses ≡ true → flags ≡ flags_of known
    → context_over known.records ≡ made → held_by made ≡ Ok held'
    → LeavesPart file addresses (Ok flags) held held'
part_left file addresses flags known (Ok context) held (Some other) part closed enough modules is left = record {
  known = known;
  part = part;
  closed = closed;
  enough = enough;
  modules = modules;
  made = is ∙ (let same : context ≡ other = cc in ap (λ c. Ok c) same);
}
part_left file addresses flags known (Ok context) held None part closed enough modules is left = absurd cc
part_left file addresses flags known (Err why) held held' part closed enough modules is left = absurd cc

-- the number of a flag that was answered, or the refusal
abbrev pub flag_in : Result FoundFrames CallError → Result ℕ CallError
flag_in (Ok found) = Ok found.start
flag_in (Err why) = Err why

-- it is that of the handle, unless memory ran out
pub flag_agrees : (held : Option (ContextState Records)) (flags : Bor (List ℕ)) (address : ℕ)
    (found : Result FoundFrames CallError) → AnswersHandle found held (question.IsRead flags address)
    → Agrees (λ number. number) (flag_in found) (flag_of_handle held flags.now address)
flag_agrees None flags address (Ok found) agrees = absurd cc
flag_agrees None flags address (Err why) agrees = λ other.
    let wanted = agrees other in
    let same : Closed ≡ why = cc in
    ap (λ refusal. Err refusal) same
flag_agrees (Some context) flags address (Ok found) agrees =
    let same : shown_flag (is_read_at flags.now context address) ≡ shown_view found = cc in
    ap (λ (shown : Shown). Ok shown.start) same
flag_agrees (Some context) flags address (Err why) agrees = λ other.
    let wanted = agrees other in
    absurd cc

-- the handle holds what it held
pub held_same : (found : Result FoundFrames CallError) (held held' : Option (ContextState Records))
    (flags : Bor (List ℕ)) (address : ℕ) → LeavesHandle found held (question.IsRead flags address) held' → held' ≡ held
held_same found None held' flags address left = left
held_same found (Some context) (Some other) flags address left = ap (λ c. Some c) left
held_same found (Some context) None flags address left = absurd left
