-- Where the records of a stream start that is read range by range.
use Rattle.std.proofs.Common.{◌≡◌, ◌∙◌, ℕ, zero, suc, ◌+◌, ◌-◌, ◌==◌, ◌<◌, ◌≤◌, ◌^◌, List, [], ◌∷◌, ◌++◌, drop}
use Rattle.std.proofs.Common.{length, min, slice_get, Some, None, Result, Ok, Err}
use Rattle.std.proofs.Common.{refl, sym, ap, arith, append-nil, length-drop, map}
use Rattle.std.proofs.lemmas.Grind.{common_steps}
use Rattle.std.proofs.lemmas.List.{drop-drop}
use Rattle.std.specs.Option.{option_and_then, option_map, option_map_or}
use Rattle.pdb_records.specs.declared.error.StreamError.{StreamError}
use Rattle.pdb_msf.proofs.ItemListLemmas.{faulty_item, one_item_more}
use Rattle.pdb_msf.specs.ItemLists.{all_items, items_up_to}
use Rattle.pdb_msf.specs.Readings.{behind, nothing_read}
use Rattle.pdb_tpi.proofs.TypeRecordLemmas.{ends_within, start_of}
use Rattle.pdb_tpi.specs.RecordWindows.{SameRecord, records_in, shown_at}
use Rattle.pdb_tpi.specs.TypePlaces.{LieIn, list_at, position_shown, record_shown}
use Rattle.pdb_tpi.specs.TypeRecords.{first_record, next_record, next_start, record_fault, record_len, unless_faulty}
use Rattle.pdb_tpi.specs.declared.record_window.RecordWindow.{RecordWindow}
use Rattle.pdb_tpi.specs.declared.type_places.TypePlaces.{TypePlaces}

-- the entry of a list that was made of another
mapped : {A B : Type 0} (f : A → B) (xs : List A) (position : ℕ)
    → slice_get (map f xs) position ≡ option_map f (slice_get xs position)
mapped f [] zero = refl
mapped f [] (suc position) = refl
mapped f (x ∷ xs) zero = refl
mapped f (x ∷ xs) (suc position) = mapped f xs position

-- the record of a list at a position, by where it starts
record_at : (places : TypePlaces) (stream : List ℕ) (position : ℕ) → slice_get (list_at places stream).records position
    ≡ option_map (λ start. first_record (drop start (records_in places.records stream)))
    (slice_get places.starts.items position)
record_at places stream position =
    mapped (λ start. first_record (drop start (records_in places.records stream))) places.starts.items position

-- the record at a position, where a window has it
pub record_there : (places : TypePlaces) (window : RecordWindow) (stream : List ℕ) (position start : ℕ)
    → slice_get places.starts.items position ≡ Some start → LieIn places stream
    → SameRecord (shown_at window start) (drop start (records_in places.records stream))
    → position_shown places window position ≡ slice_get (list_at places stream).records position
record_there places window stream position start at lies same =
    let rest : List ℕ = drop start (records_in places.records stream) in
    ap (option_and_then (record_shown window)) at
    ∙ ap (λ f. option_map_or (λ fault. None) f (Some (first_record (shown_at window start))))
    (same.fault ∙ lies position start at)
    ∙ ap Some (same.first (lies position start at))
    ∙ sym (record_at places stream position
    ∙ ap (option_map (λ place. first_record (drop place (records_in places.records stream)))) at)

-- after the last record there is none
pub none_there : (places : TypePlaces) (window : RecordWindow) (stream : List ℕ) (position : ℕ)
    → slice_get places.starts.items position ≡ None
    → position_shown places window position ≡ slice_get (list_at places stream).records position
none_there places window stream position at =
    ap (option_and_then (record_shown window)) at
    ∙ sym (record_at places stream position
    ∙ ap (option_map (λ place. first_record (drop place (records_in places.records stream)))) at)

-- the starts that were read, and those of the records from a place on, are all
abbrev pub Scanned : List ℕ → ℕ → ℕ → List ℕ → Type 0
Scanned records counter place starts =
    all_items (next_start (length records)) records
    ≡ behind starts (items_up_to (next_start (length records)) (length records - counter) (drop place records))

-- with the record read where reading stands, the starts are still those that were read and those that are left
pub one_start_more : (records front next before after : List ℕ) (counter place start there : ℕ)
    → length records < 2 ^ 32 → counter < length records → SameRecord front (drop place records)
    → record_fault front ≡ None → 2 + record_len front ≤ length front → next ≡ drop (2 + record_len front) front
    → start ≡ min place (2 ^ 32 - 1) → there ≡ min (place + (length front - length next)) (2 ^ 64 - 1)
    → after ≡ before ++ start ∷ [] → Scanned records counter place before → Scanned records (counter + 1) there after
one_start_more records front next before after counter place start there small left same fine whole is at on pushed
    was =
    let rest : List ℕ = drop place records in
    let none : record_fault rest ≡ None = sym same.fault ∙ fine in
    let size : record_len front ≡ record_len rest = same.size none in
    let within : 2 + record_len rest ≤ length rest = ends_within rest none in
    let long : length rest ≡ length records - place = length-drop place records in
    let ahead : length next ≡ length front - (2 + record_len front)
    = ap length is ∙ length-drop (2 + record_len front) front in
    let ends : there ≡ place + (2 + record_len rest) = omega (arith, on, ahead, size, whole, within, long, small) in
    let exact : min (length records - length rest) (2 ^ 32 - 1) ≡ start = omega (arith, at, long, within, small) in
    let first : next_record rest ≡ Ok (first_record rest, drop (2 + record_len rest) rest)
    = ap (λ f. unless_faulty f rest) none in
    let behind_it : drop (2 + record_len rest) rest ≡ drop there records
    = drop-drop (2 + record_len rest) place records ∙ ap (λ n. drop n records) (sym ends) in
    let read : next_start (length records) rest ≡ Ok (start, drop there records)
    = ap (start_of (length records) rest) first
    ∙ ap (λ n. Ok (n, drop (2 + record_len rest) rest)) exact ∙ ap (λ xs. Ok (start, xs)) behind_it in
    one_item_more (next_start (length records)) records rest (drop there records) counter start
    (all_items (next_start (length records)) records) before after left (omega (arith, within)) read pushed was

-- no bytes have no items
none_up_to : {A : Type 0} (first : List ℕ → Result (A × List ℕ) StreamError) (count : ℕ) (bytes : List ℕ)
    → length bytes ≡ 0 → items_up_to first count bytes ≡ nothing_read None
none_up_to first zero bytes none = refl
none_up_to first (suc count) [] none = refl
none_up_to first (suc count) (x ∷ xs) none = absurd (omega (arith, none))

-- where no bytes are left, all starts are read
pub none_left : (records front before : List ℕ) (counter place : ℕ) → SameRecord front (drop place records)
    → length front ≡ 0 → Scanned records counter place before
    → record { items = before; fault = None } ≡ all_items (next_start (length records)) records
none_left records front before counter place same empty was =
    sym (was ∙ ap (behind before) (none_up_to (next_start (length records)) (length records - counter)
    (drop place records) (empty_too front (drop place records) same.none empty))
    ∙ ap (λ xs. record { items = xs; fault = None }) (append-nil before))
  where
    empty_too : (one other : List ℕ) → (length one == 0) ≡ (length other == 0) → length one ≡ 0 → length other ≡ 0
    empty_too one other same none = grind (arith, common_steps)

-- where as many were read as there are bytes, all are read
pub all_left : (records before : List ℕ) (counter place : ℕ) → length records ≤ counter
    → Scanned records counter place before
    → record { items = before; fault = None } ≡ all_items (next_start (length records)) records
all_left records before counter place last was =
    let none : length records - counter ≡ 0 = omega (arith, last) in
    sym (was ∙ ap (λ n. behind before (items_up_to (next_start (length records)) n (drop place records))) none
    ∙ ap (λ xs. record { items = xs; fault = None }) (append-nil before))

-- where the record at the place has a fault, those before it are all
pub faulty_left : (records front before : List ℕ) (counter place : ℕ) (error : StreamError)
    → counter < length records → SameRecord front (drop place records) → (length front ≡ 0 → ⊥)
    → record_fault front ≡ Some error → Scanned records counter place before
    → record { items = before; fault = Some error } ≡ all_items (next_start (length records)) records
faulty_left records front before counter place error left same some faulty was =
    let rest : List ℕ = drop place records in
    let first : next_record rest ≡ Err error = ap (λ f. unless_faulty f rest) (sym same.fault ∙ faulty) in
    sym (faulty_item (next_start (length records)) records rest counter
    (all_items (next_start (length records)) records) before error left
    (some_too front rest same.none some) (ap (start_of (length records) rest) first) was)
  where
    some_too : (one other : List ℕ) → (length one == 0) ≡ (length other == 0) → (length one ≡ 0 → ⊥)
        → 0 < length other
    some_too one other same some = grind (arith, common_steps)
