-- The functions that are inlined in a module's code.
use Rattle.std.specs.Prelude.{ℕ, ◌*◌, ◌==◌, ◌||◌, nat_lt, List, take, drop, length, find, Option, None, Some}
use Rattle.std.specs.Prelude.{option_map, Result, Ok, Err, if◌then◌else◌}
use Rattle.pdb_records.specs.Readings.{Read}
use Rattle.pdb_records.specs.declared.error.StreamError.{StreamError}
use Rattle.pdb_records.specs.declared.modules.Inlinee.{Inlinee}
use Rattle.pdb_msf.specs.Faults.{◌>>=◌}
use Rattle.pdb_msf.specs.NumberLists.{number}
use Rattle.pdb_msf.specs.Readings.{nothing_read}
use Rattle.pdb_msf.specs.declared.faults.TheConstants.{CUT, UNKNOWN_VERSION}
use Rattle.pdb_msf.specs.ItemLists.{all_items, concatenated}
use Rattle.pdb_codeview.specs.declared.inlinees.InlineeSource.{InlineeSource}
use Rattle.pdb_codeview.specs.declared.inlinees.ListedInlinee.{ListedInlinee}

-- the file and line (fileId and sourceLineNum) of the function with this id; of several entries with one id, the first
-- counts
abbrev pub inlinee_source : ℕ → List ListedInlinee → Option InlineeSource
inlinee_source id listed = option_map (λ inlinee. inlinee.source) (find (λ inlinee. inlinee.id == id) listed)

-- an entry (InlineeSourceLine): inlinee, the function's id, at 0, fileId at 4 and sourceLineNum at 8
abbrev pub listed_inlinee : List ℕ → ListedInlinee
listed_inlinee bytes = record {
  id = number bytes;
  source = record { file = number (drop 4 bytes); line = number (drop 8 bytes) };
}

-- the bytes after the extra files of an entry (InlineeSourceLineEx): countOfExtraFiles, and an extraFileId of four
-- bytes for each
abbrev pub behind_files : List ℕ → Result (List ℕ) StreamError
behind_files bytes =
    if nat_lt (length bytes) 4 then Err CUT else
    if nat_lt (length (drop 4 bytes)) (4 * number bytes) then Err CUT else
    Ok (drop (4 * number bytes) (drop 4 bytes))

-- the bytes after an entry of a list of this form, by the bytes after its first twelve; an entry of form 1 has extra
-- files there
abbrev pub behind_inlinee : ℕ → List ℕ → Result (List ℕ) StreamError
behind_inlinee form bytes = if form == 1 then behind_files bytes else Ok bytes

-- the first entry in a list of this form, and the bytes after it
abbrev pub first_inlinee : ℕ → List ℕ → Result (ListedInlinee × List ℕ) StreamError
first_inlinee form bytes = if nat_lt (length bytes) 12 then Err CUT else (do
  rest ← behind_inlinee form (drop 12 bytes)
  Ok (listed_inlinee (take 12 bytes), rest))

-- the entries of a subsection of inlinees (DEBUG_S_INLINEELINES). It begins with its form, the signature: 0 for
-- InlineeSourceLine or 1 for InlineeSourceLineEx. An empty subsection has no entries
abbrev pub inlinees_in : List ℕ → Read ListedInlinee
inlinees_in bytes =
    if length bytes == 0 then nothing_read None else
    if nat_lt (length bytes) 4 then nothing_read (Some CUT) else
    if (number bytes == 0) || (number bytes == 1) then all_items (first_inlinee (number bytes)) (drop 4 bytes) else
    nothing_read (Some UNKNOWN_VERSION)

-- the entries of several subsections in order, up to the first fault
abbrev pub all_inlinees : List (List ℕ) → Read ListedInlinee
all_inlinees subsections = concatenated inlinees_in subsections

-- an entry with only its id
abbrev pub inlinee : ListedInlinee → Inlinee
inlinee listed = record { index = record { 0 = listed.id } }
