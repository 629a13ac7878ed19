-- Worked examples of the files and the inlinees of a module, by bytes written by hand.
use Rattle.std.proofs.Common.{◌≡◌, ℕ, List, [], ◌∷◌, ◌++◌, Some, None, refl}
use Rattle.pdb_msf.specs.declared.faults.TheConstants.{CUT, UNKNOWN_VERSION}
use Rattle.pdb_codeview.specs.declared.files.FileEntry.{FileEntry}
use Rattle.pdb_codeview.specs.declared.inlinees.ListedInlinee.{ListedInlinee}
use Rattle.pdb_codeview.specs.Files.{all_entries, file_entries}
use Rattle.pdb_codeview.specs.Inlinees.{inlinees_in}
use Rattle.pdb_msf.specs.ItemLists.{all_items}

-- a number below 256, as four bytes
abbrev small : ℕ → List ℕ
small number = number ∷ 0 ∷ 0 ∷ 0 ∷ []

-- the entry of a file whose name has the key 9, with a checksum of three bytes, and bytes that fill up after it
abbrev first_file : List ℕ
first_file = small 9 ++ 3 ∷ 1 ∷ 7 ∷ 7 ∷ 7 ∷ 0 ∷ 0 ∷ 0 ∷ []

-- that of a file whose name has the key 20, without a checksum
abbrev second_file : List ℕ
second_file = small 20 ++ 0 ∷ 0 ∷ []

-- an entry by where it starts and by the key of the file's name
abbrev entry_at : ℕ → ℕ → FileEntry
entry_at start key = record { start = start; info = record { name = record { 0 = key } } }

two_files : file_entries (first_file ++ second_file)
    ≡ record { items = entry_at 0 9 ∷ entry_at 12 20 ∷ []; fault = None }
unfolding all_items
two_files = refl

-- the bytes end within a checksum
cut_file : file_entries (first_file ++ small 20 ++ 2 ∷ 0 ∷ 7 ∷ [])
    ≡ record { items = entry_at 0 9 ∷ []; fault = Some CUT }
unfolding all_items
cut_file = refl

-- the second of three subsections is cut
three_subsections : all_entries (second_file ∷ small 9 ∷ first_file ∷ [])
    ≡ record { items = entry_at 0 20 ∷ []; fault = Some CUT }
unfolding all_items
three_subsections = refl

-- the entry of an inlined function by its id, where its file's entry starts, and its line
abbrev inlined : ℕ → ℕ → ℕ → ListedInlinee
inlined id file line = record { id = id; source = record { file = file; line = line } }

-- two entries with one file each
of_one_file : inlinees_in (small 0 ++ small 5 ++ small 0 ++ small 10 ++ small 6 ++ small 24 ++ small 11)
    ≡ record { items = inlined 5 0 10 ∷ inlined 6 24 11 ∷ []; fault = None }
unfolding all_items
of_one_file = refl

-- an entry with one file more, and one with none
of_more_files : inlinees_in (small 1 ++ small 5 ++ small 0 ++ small 10 ++ small 1 ++ small 24
    ++ small 6 ++ small 24 ++ small 11 ++ small 0)
    ≡ record { items = inlined 5 0 10 ∷ inlined 6 24 11 ∷ []; fault = None }
unfolding all_items
of_more_files = refl

another_form : inlinees_in (small 2 ++ small 5) ≡ record { items = []; fault = Some UNKNOWN_VERSION }
another_form = refl
