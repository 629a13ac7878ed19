-- The list that is found in a stream that is read range by range.
use Rattle.std.proofs.Common.{◌≡◌, ◌∙◌, ℕ, ◌-◌, ◌<◌, ◌^◌, nat_lt, List, take, drop, length, min, cond}
use Rattle.std.proofs.Common.{Option, Some, None, Ok, sym, ap, subst, arith, inl, inr, length-drop}
use Rattle.std.proofs.lemmas.Bool.{cases_lt}
use Rattle.std.proofs.lemmas.List.{length-take, take_all}
use Rattle.std.specs.Option.{option_or}
use Rattle.pdb_records.specs.Readings.{Read}
use Rattle.pdb_records.specs.declared.error.StreamError.{StreamError}
use Rattle.pdb_msf.specs.Faults.{◌>>=◌}
use Rattle.pdb_msf.specs.ItemLists.{all_items}
use Rattle.pdb_msf.specs.declared.faults.TheConstants.{CUT}
use Rattle.pdb_dbi.specs.Substreams.{ends_early}
use Rattle.pdb_tpi.proofs.TypeRecordLemmas.{starts_fault, starts_items, starts_there}
use Rattle.pdb_tpi.specs.TypeStreamHeader.{type_header}
use Rattle.pdb_tpi.specs.TypePlaces.{early_end}
use Rattle.pdb_tpi.specs.TypeRecords.{AreStarts, TypeBytes, next_start, records_at, type_records}
use Rattle.pdb_tpi.specs.ItemStreams.{TypeList, list_behind, type_list}
use Rattle.pdb_tpi.specs.declared.type_stream_header.TypeHeader.{TypeHeader}

-- as many bytes as are wanted, or as there are
as_many : (left wanted : ℕ) (bytes : List ℕ) → length bytes ≡ left → take (min left wanted) bytes ≡ take wanted bytes
as_many left wanted bytes is =
    elim (cases_lt left wanted) [
      | inl more ↦
          let least : min left wanted ≡ left = omega (arith, more) in
          ap (λ n. take n bytes) least ∙ take_all left bytes (omega (arith, is))
          ∙ sym (take_all wanted bytes (omega (arith, is, more)))
      | inr few ↦
          let least : min left wanted ≡ wanted = omega (arith, few) in
          ap (λ n. take n bytes) least
    ]

-- the starts of records that are as long as said
starts_of : (records : List ℕ) (long : ℕ) (starts : Read ℕ) → long < 2 ^ 32 → length records ≡ long
    → (length records ≡ long → starts ≡ all_items (next_start (length records)) records)
    → (records_at starts.items records ≡ (type_records records).items) × (starts.fault ≡ (type_records records).fault)
    × AreStarts starts.items records
starts_of records long starts small is read =
    let below : length records < 2 ^ 32 = omega (arith, small, is) in
    let all : starts ≡ all_items (next_start (length records)) records = read is in (
      ap (λ (s : Read ℕ). records_at s.items records) all ∙ starts_items records below,
      ap (λ (s : Read ℕ). s.fault) all ∙ starts_fault records below,
      subst (λ (s : Read ℕ). AreStarts s.items records) (sym all) (starts_there records below),
    )

-- the list of these records, after a header
abbrev list_of : ℕ → List TypeBytes → Option StreamError → TypeList
list_of first records fault = record { first = first; records = records; fault = fault }

-- the list that is found where the records are as long as the stream has them
pub found_in : (stream : List ℕ) (header : TypeHeader) (left long size : ℕ) (starts : Read ℕ)
    (fault : Option StreamError) → type_header stream ≡ Ok header → length stream ≡ size
    → left ≡ size - header.header_size → long ≡ min left header.type_record_bytes → long < 2 ^ 32
    → (length (take long (drop header.header_size stream)) ≡ long
    → starts ≡ all_items (next_start (length (take long (drop header.header_size stream))))
    (take long (drop header.header_size stream)))
    → fault ≡ option_or starts.fault (early_end left header.type_record_bytes)
    → (type_list stream ≡ Ok (list_of header.type_index_begin
    (records_at starts.items (take long (drop header.header_size stream))) fault))
    × AreStarts starts.items (take long (drop header.header_size stream))
found_in stream header left long size starts fault is sized left_is long_is small read ended =
    let bytes : List ℕ = drop header.header_size stream in
    let wanted : ℕ = header.type_record_bytes in
    let first : ℕ = header.type_index_begin in
    let records : List ℕ = take long bytes in
    let there : length bytes ≡ left = length-drop header.header_size stream ∙ (omega (arith, sized, left_is)) in
    let taken : length records ≡ min long (length bytes) = length-take long bytes in
    let all : length records ≡ long = omega (arith, taken, there, long_is) in
    let same : records ≡ take wanted bytes = ap (λ n. take n bytes) long_is ∙ as_many left wanted bytes there in
    let parts : (records_at starts.items records ≡ (type_records records).items)
    × (starts.fault ≡ (type_records records).fault) × AreStarts starts.items records
    = starts_of records long starts small all read in
    let early : ends_early wanted bytes ≡ early_end left wanted
    = ap (λ n. cond (nat_lt n wanted) (Some CUT) None) there in
    let fault_is : fault ≡ option_or (type_records records).fault (ends_early wanted bytes)
    = ended ∙ ap (λ f. option_or f (early_end left wanted)) parts.1
    ∙ ap (option_or (type_records records).fault) (sym early) in
    let behind : Ok (list_behind header stream) ≡ Ok (list_of first (records_at starts.items records) fault)
    = ap (λ xs. Ok (list_of first (type_records xs).items (option_or (type_records xs).fault (ends_early wanted bytes))))
    (sym same)
    ∙ ap (λ f. Ok (list_of first (type_records records).items f)) (sym fault_is)
    ∙ ap (λ xs. Ok (list_of first xs fault)) (sym parts.0) in
    (ap (λ h. h >>= λ front. Ok (list_behind front stream)) is ∙ behind, parts.2)
