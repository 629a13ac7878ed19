-- The header of a stream, of which only the first bytes are at hand.
use Rattle.std.proofs.Common.{◌≡◌, ◌∙◌, ℕ, ◌==◌, ◌<◌, nat_lt, not, List, take, drop, length, min}
use Rattle.std.proofs.Common.{false, Bool, cond, Result, Ok, Err, sym, ap, arith}
use Rattle.std.proofs.Common.{inl, inr}
use Rattle.std.proofs.lemmas.Bool.{cases_lt}
use Rattle.std.proofs.lemmas.Grind.{common_steps}
use Rattle.std.proofs.lemmas.List.{drop-take, length-take, take-take, take_all}
use Rattle.byteorder.specs.Endian.{little_number}
use Rattle.pdb_records.specs.declared.error.StreamError.{StreamError}
use Rattle.pdb_msf.specs.NumberLists.{number}
use Rattle.pdb_msf.specs.declared.faults.TheConstants.{CUT, POINTS_NOWHERE, UNKNOWN_VERSION}
use Rattle.pdb_tpi.specs.TypeStreamHeader.{header_of, type_header, version_80}
use Rattle.pdb_tpi.specs.declared.type_stream_header.TypeHeader.{TypeHeader}

-- the header of these numbers, in a stream of this length
abbrev of_numbers : Bool → ℕ → ℕ → ℕ → ℕ → ℕ → Result TypeHeader StreamError
of_numbers short version size first bytes stream_length =
    cond short (Err CUT) (cond (not (version == version_80)) (Err UNKNOWN_VERSION)
    (cond (nat_lt stream_length size) (Err POINTS_NOWHERE) (Ok (record {
      header_size = size;
      type_index_begin = first;
      type_record_bytes = bytes;
    }))))

-- enough bytes are no fewer than 20
enough : (stream : List ℕ) → 20 < length stream
    → nat_lt (length (take 20 stream)) 20 ≡ nat_lt (length stream) 20
enough stream long =
    let front : length (take 20 stream) ≡ min 20 (length stream) = length-take 20 stream in
    let full : length (take 20 stream) ≡ 20 = omega (arith, front, long) in
    let none : nat_lt (length stream) 20 ≡ false = grind (arith, common_steps) in
    ap (λ n. nat_lt n 20) full ∙ sym none

-- the first 20 bytes have the header
front_enough : (stream : List ℕ) → header_of (take 20 stream) (length stream) ≡ header_of stream (length stream)
front_enough stream =
    elim (cases_lt 20 (length stream)) [
      | inl more ↦
          let zeroth : number (take 20 stream) ≡ number stream
          = ap (little_number 4) (take-take 4 20 stream (omega arith)) in
          let fourth : number (drop 4 (take 20 stream)) ≡ number (drop 4 stream)
          = ap number (drop-take 4 16 stream) ∙ ap (little_number 4) (take-take 4 16 (drop 4 stream) (omega arith)) in
          let eighth : number (drop 8 (take 20 stream)) ≡ number (drop 8 stream)
          = ap number (drop-take 8 12 stream) ∙ ap (little_number 4) (take-take 4 12 (drop 8 stream) (omega arith)) in
          let last : number (drop 16 (take 20 stream)) ≡ number (drop 16 stream)
          = ap number (drop-take 16 4 stream) ∙ ap (little_number 4) (take-take 4 4 (drop 16 stream) (omega arith)) in
          let front : List ℕ = take 20 stream in
          ap (λ short. of_numbers short (number front) (number (drop 4 front)) (number (drop 8 front))
          (number (drop 16 front)) (length stream)) (enough stream more)
          ∙ ap (λ n. of_numbers (nat_lt (length stream) 20) n (number (drop 4 front)) (number (drop 8 front))
          (number (drop 16 front)) (length stream)) zeroth
          ∙ ap (λ n. of_numbers (nat_lt (length stream) 20) (number stream) n (number (drop 8 front))
          (number (drop 16 front)) (length stream)) fourth
          ∙ ap (λ n. of_numbers (nat_lt (length stream) 20) (number stream) (number (drop 4 stream)) n
          (number (drop 16 front)) (length stream)) eighth
          ∙ ap (λ n. of_numbers (nat_lt (length stream) 20) (number stream) (number (drop 4 stream))
          (number (drop 8 stream)) n (length stream)) last
      | inr short ↦ ap (λ xs. header_of xs (length stream)) (take_all 20 stream short)
    ]

-- a stream's first 20 bytes have its header
pub header_read : (stream : List ℕ) → header_of (take 20 stream) (length stream) ≡ type_header stream
unfolding type_header
header_read stream = front_enough stream
