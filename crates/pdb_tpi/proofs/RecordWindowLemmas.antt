-- What a window has of the records of a stream.
use Rattle.std.proofs.Common.{◌≡◌, ◌∙◌, ℕ, ◌+◌, ◌-◌, ◌==◌, ◌≤◌, nat_lt, List, [], take, drop, length, min}
use Rattle.std.proofs.Common.{true, false, Bool, cond, Some, None, refl, sym, ap, subst, arith}
use Rattle.std.proofs.Common.{inl, inr}
use Rattle.std.proofs.lemmas.Bool.{cases_lt}
use Rattle.std.proofs.lemmas.Grind.{common_steps}
use Rattle.std.proofs.lemmas.List.{drop-drop, drop-take, drop_all, length-take, take-take, take_all}
use Rattle.byteorder.specs.Endian.{little_number}
use Rattle.pdb_msf.specs.declared.faults.TheConstants.{BAD_LENGTH}
use Rattle.pdb_msf.specs.NumberLists.{two_byte_number}
use Rattle.pdb_tpi.specs.RecordWindows.{SameRecord, Shows, shown_at}
use Rattle.pdb_tpi.specs.TypeRecords.{behind_len, record_fault, record_len}
use Rattle.pdb_tpi.specs.declared.record_window.RecordWindow.{RecordWindow}

-- so many of so many bytes are as many as the smaller number says
taken_twice : (count long : ℕ) (bytes : List ℕ) → take count (take long bytes) ≡ take (min count long) bytes
taken_twice count long bytes =
    elim (cases_lt long count) [
      | inl above ↦
          let least : min count long ≡ long = omega (arith, above) in
          take_all count (take long bytes) (let a : length (take long bytes) ≡ min long (length bytes)
          = length-take long bytes in omega (arith, a, above)) ∙ ap (λ n. take n bytes) (sym least)
      | inr few ↦
          let least : min count long ≡ count = omega (arith, few) in
          take-take count long bytes few ∙ ap (λ n. take n bytes) (sym least)
    ]

-- a range among the records is one of the stream
pub range_of_records : (count place first long count_left from : ℕ) (stream : List ℕ)
    → count_left ≡ min count (long - place) → (place ≤ long → from ≡ first + place)
    → take count_left (drop from stream) ≡ take count (drop place (take long (drop first stream)))
range_of_records count place first long count_left from stream left at =
    elim (cases_lt long place) [
      | inl past ↦
          let none : count_left ≡ 0 = omega (arith, left, past) in
          let all : length (take long (drop first stream)) ≡ min long (length (drop first stream))
          = length-take long (drop first stream) in
          ap (λ n. take n (drop from stream)) none
          ∙ sym (take_all count [] (omega arith))
          ∙ ap (take count) (sym (drop_all place (take long (drop first stream)) (omega (arith, all, past))))
      | inr within ↦
          let parts : long ≡ place + (long - place) = omega (arith, within) in
          ap (λ n. take count_left (drop n stream)) (at within)
          ∙ ap (λ n. take n (drop (first + place) stream)) left
          ∙ sym (taken_twice count (long - place) (drop (first + place) stream))
          ∙ ap (λ xs. take count (take (long - place) xs)) (sym (drop-drop place first stream))
          ∙ ap (take count) (sym (drop-take place (long - place) (drop first stream)))
          ∙ ap (λ n. take count (drop place (take n (drop first stream)))) (sym parts)
    ]

-- so many bytes are as many as they are
pub own_length : (count : ℕ) (bytes taken : List ℕ) → taken ≡ take count bytes → taken ≡ take (length taken) bytes
own_length count bytes taken is =
    let long : length taken ≡ min count (length bytes) = ap length is ∙ length-take count bytes in
    elim (cases_lt (length bytes) count) [
      | inl above ↦
          is ∙ take_all count bytes (omega (arith, above))
          ∙ sym (take_all (length taken) bytes (omega (arith, long, above)))
      | inr few ↦
          let same : count ≡ length taken = omega (arith, long, few) in
          is ∙ ap (λ n. take n bytes) same
    ]

-- what stands after a place in bytes that were taken
behind_taken : (skipped count : ℕ) (bytes : List ℕ) → drop skipped (take count bytes)
    ≡ take (count - skipped) (drop skipped bytes)
behind_taken skipped count bytes =
    elim (cases_lt count skipped) [
      | inl past ↦
          let long : length (take count bytes) ≡ min count (length bytes) = length-take count bytes in
          let none : count - skipped ≡ 0 = omega (arith, past) in
          drop_all skipped (take count bytes) (omega (arith, long, past))
          ∙ ap (λ n. take n (drop skipped bytes)) (sym none)
      | inr within ↦
          let parts : count ≡ skipped + (count - skipped) = omega (arith, within) in
          ap (λ n. drop skipped (take n bytes)) parts ∙ drop-take skipped (count - skipped) bytes
    ]

-- a place is not below where it isn't said to be
not_below : (place from : ℕ) → nat_lt place from ≡ false → from ≤ place
not_below place from is = grind (arith, common_steps)

shown_where : (below : Bool) (place from : ℕ) (bytes records : List ℕ) → (below ≡ false → from ≤ place)
    → bytes ≡ take (length bytes) (drop from records)
    → cond below [] (drop (place - from) bytes)
    ≡ take (length (cond below [] (drop (place - from) bytes))) (drop place records)
shown_where true place from bytes records above is = refl
shown_where false place from bytes records above is =
    let at : from + (place - from) ≡ place = omega (arith, above refl) in
    own_length (length bytes - (place - from)) (drop place records) (drop (place - from) bytes)
    (ap (drop (place - from)) is ∙ behind_taken (place - from) (length bytes) (drop from records)
    ∙ ap (take (length bytes - (place - from))) (drop-drop (place - from) from records
    ∙ ap (λ n. drop n records) at))

-- what a window has from a place on is of the records from there on
shown_is : (records : List ℕ) (window : RecordWindow) (place : ℕ) → Shows records window
    → shown_at window place ≡ take (length (shown_at window place)) (drop place records)
shown_is records window place shows =
    shown_where (nat_lt place window.from) place window.from window.bytes.items records
    (not_below place window.from) shows

-- a record that has as many bytes as it says has the fault of one that says so many
fault_there : (bytes : List ℕ) → 2 + record_len bytes ≤ length bytes
    → record_fault bytes ≡ cond (nat_lt (record_len bytes) 2) (Some BAD_LENGTH) None
fault_there bytes whole =
    let some : nat_lt (length bytes) 2 ≡ false = grind (arith, common_steps) in
    let all : nat_lt (length bytes) (2 + record_len bytes) ≡ false = grind (arith, common_steps) in
    simp (some, all)

-- bytes begin with the record that they begin with
itself : (bytes : List ℕ) → SameRecord bytes bytes
itself bytes = record { none = refl; fault = refl; size = λ there. refl; first = λ there. refl }

-- neither list is empty
both_there : (one other : List ℕ) → 2 ≤ length one → 2 ≤ length other → (length one == 0) ≡ (length other == 0)
both_there one other here there = grind (arith, common_steps)

-- the first bytes, among which the whole record is, begin with the same one
same_first : (count : ℕ) (front bytes : List ℕ) → front ≡ take count bytes → count ≤ length bytes → 2 ≤ count
    → 2 + record_len front ≤ count → SameRecord front bytes
same_first count front bytes is within some whole =
    let long : length front ≡ count = ap length is ∙ length-take count bytes ∙ (omega (arith, within)) in
    let two : take 2 front ≡ take 2 bytes = ap (take 2) is ∙ take-take 2 count bytes some in
    let size : record_len front ≡ record_len bytes = ap (little_number 2) two in
    let parts : count ≡ 2 + (count - 2) = omega (arith, some) in
    let behind : drop 2 front ≡ take (count - 2) (drop 2 bytes)
    = ap (drop 2) is ∙ ap (λ n. drop 2 (take n bytes)) parts ∙ drop-take 2 (count - 2) bytes in
    let content : behind_len front ≡ behind_len bytes
    = ap (take (record_len front)) behind
    ∙ take-take (record_len front) (count - 2) (drop 2 bytes) (omega (arith, whole))
    ∙ ap (λ n. take n (drop 2 bytes)) size in
    let same : record_fault front ≡ record_fault bytes
    = fault_there front (omega (arith, long, whole))
    ∙ ap (λ n. cond (nat_lt n 2) (Some BAD_LENGTH) None) size
    ∙ sym (fault_there bytes (omega (arith, size, whole, within))) in
    record {
      none = both_there front bytes (omega (arith, long, some)) (omega (arith, some, within));
      fault = same;
      size = λ there. size;
      first = λ there. ap (λ (xs : List ℕ). record { kind = two_byte_number xs; content = drop 2 xs }) content;
    }

-- so many bytes, among which the whole record is if they aren't all, begin with the same one
same_record : (count : ℕ) (front bytes : List ℕ) → front ≡ take count bytes → 2 ≤ count
    → (2 ≤ length front → 2 + record_len front ≤ count) → SameRecord front bytes
same_record count front bytes is some whole =
    elim (cases_lt count (length bytes)) [
      | inl more ↦
          let long : length front ≡ count = ap length is ∙ length-take count bytes ∙ (omega (arith, more)) in
          same_first count front bytes is (omega (arith, more)) some (whole (omega (arith, long, some)))
      | inr all ↦
          subst (λ xs. SameRecord xs bytes) (sym (is ∙ take_all count bytes all)) (itself bytes)
    ]

-- where a window has the whole record at a place, it has that of the records
pub whole_shown : (records : List ℕ) (window : RecordWindow) (place : ℕ) → 2 ≤ length (shown_at window place)
    → 2 + record_len (shown_at window place) ≤ length (shown_at window place)
    → Shows records window → SameRecord (shown_at window place) (drop place records)
whole_shown records window place some whole shows =
    same_record (length (shown_at window place)) (shown_at window place) (drop place records)
    (shown_is records window place shows) some (λ there. whole)

-- a window that begins at a place has its bytes from there on
at_start : (window : RecordWindow) (place : ℕ) → window.from ≡ place → shown_at window place ≡ window.bytes.items
at_start window place is =
    let none : place - window.from ≡ 0 = omega (arith, is) in
    let below : nat_lt place window.from ≡ false = grind (arith, common_steps) in
    simp (below, none)

-- a window that was read from a place on shows the records
pub shows_read : (records : List ℕ) (window : RecordWindow) (place count : ℕ) → window.from ≡ place
    → window.bytes.items ≡ take count (drop place records) → Shows records window
shows_read records window place count at is =
    own_length count (drop window.from records) window.bytes.items
    (is ∙ ap (λ n. take count (drop n records)) (sym at))

-- where a window was read anew with as many bytes as the record at a place has, it has that of the records
pub read_again : (records : List ℕ) (before after : RecordWindow) (place count size : ℕ) → 2 ≤ count → 2 ≤ size
    → (2 ≤ length before.bytes.items → size ≡ 2 + record_len before.bytes.items)
    → before.bytes.items ≡ take count (drop place records) → after.from ≡ place
    → after.bytes.items ≡ take size (drop place records)
    → SameRecord (shown_at after place) (drop place records)
read_again records before after place count size some least sized was at is =
    let rest : List ℕ = drop place records in
    let enough : 2 ≤ length after.bytes.items → 2 + record_len after.bytes.items ≤ size
    = λ there.
    let long : length after.bytes.items ≡ min size (length rest) = ap length is ∙ length-take size rest in
    let front : length before.bytes.items ≡ min count (length rest) = ap length was ∙ length-take count rest in
    let two : take 2 after.bytes.items ≡ take 2 before.bytes.items
    = ap (take 2) is ∙ take-take 2 size rest least ∙ sym (take-take 2 count rest some) ∙ sym (ap (take 2) was) in
    let same : record_len after.bytes.items ≡ record_len before.bytes.items = ap (little_number 2) two in
    let whole : size ≡ 2 + record_len before.bytes.items = sized (omega (arith, long, front, there, some)) in
    omega (arith, same, whole) in
    subst (λ xs. SameRecord xs rest) (sym (at_start after place at))
    (same_record size after.bytes.items rest is least enough)
