-- Streams by their names, pair by pair.
use Rattle.std.proofs.Common.{◌≡◌, ◌∙◌, ℕ, suc, ◌+◌, ◌-◌, ◌≤◌, ◌<◌, Bool, true, false, nat_lt, List, [], ◌∷◌, drop}
use Rattle.std.proofs.Common.{length, Some, Ok, Err, sym, ap, length-drop, arith}
use Rattle.std.proofs.lemmas.Grind.{common_steps}
use Rattle.std.proofs.lemmas.List.{drop-drop}
use Rattle.pdb_msf.specs.NumberLists.{number}
use Rattle.pdb_msf.specs.declared.faults.TheConstants.{CUT, NO_STREAM}
use Rattle.pdb_msf.specs.Readings.{behind, nothing_read}
use Rattle.pdb_container.specs.Info.{named_among, named_stream_number, names, pair, pairs, pairs_place, stands_at, table_size}

-- a stream that ends before the pairs
pub no_table : (info name : List ℕ) → length info < pairs_place info → named_stream_number name info ≡ Err CUT
unfolding named_stream_number
no_table info name short =
    let less : nat_lt (length info) (pairs_place info) ≡ true = grind (arith, common_steps, short) in
    simp less

-- nothing taken off is no change
untouched : (count : ℕ) → count ≡ count - 0
untouched count = omega arith

-- what the table's front says is what the number is looked for in
pub with_table : (info name all bytes : List ℕ) (count : ℕ) → pairs_place info ≤ length info → all ≡ names info
    → count ≡ table_size info → bytes ≡ drop (pairs_place info) info
    → named_stream_number name info ≡ named_among all name (pairs (count - 0) bytes)
unfolding named_stream_number
with_table info name all bytes count there is-names is-size at =
    let more : nat_lt (length info) (pairs_place info) ≡ false = grind (arith, common_steps, there) in
    let front : named_stream_number name info
    ≡ named_among (names info) name (pairs (table_size info) (drop (pairs_place info) info)) = simp more in
    front ∙ ap (λ xs. named_among xs name (pairs (table_size info) (drop (pairs_place info) info))) (sym is-names)
    ∙ ap (λ n. named_among all name (pairs n (drop (pairs_place info) info))) (sym is-size)
    ∙ ap (λ xs. named_among all name (pairs count xs)) (sym at)
    ∙ ap (λ n. named_among all name (pairs n bytes)) (untouched count)

-- a pair that is cut
cut_pair : (count : ℕ) (bytes : List ℕ) → length bytes < 8 → pairs (suc count) bytes ≡ nothing_read (Some CUT)
cut_pair count bytes short =
    let less : nat_lt (length bytes) 8 ≡ true = grind (arith, common_steps, short) in
    simp less

-- a whole pair, and those after it
whole_pair : (count : ℕ) (bytes : List ℕ) → 8 ≤ length bytes
    → pairs (suc count) bytes ≡ behind (pair bytes ∷ []) (pairs count (drop 8 bytes))
whole_pair count bytes there =
    let more : nat_lt (length bytes) 8 ≡ false = grind (arith, common_steps, there) in
    simp more

-- how many are left, where there is one
one_left : (count counter : ℕ) → counter < count → count - counter ≡ suc (count - (counter + 1))
one_left count counter some = omega arith

-- where a pair is cut, no stream is found
pub cut_here : (info name all bytes : List ℕ) (count counter : ℕ) → counter < count → length bytes < 8
    → named_stream_number name info ≡ named_among all name (pairs (count - counter) bytes) → named_stream_number name info ≡ Err CUT
cut_here info name all bytes count counter some short was =
    was ∙ ap (λ n. named_among all name (pairs n bytes)) (one_left count counter some)
    ∙ ap (named_among all name) (cut_pair (count - (counter + 1)) bytes short)

-- it is cut, too, where its second number is
pub shorter_than_a_pair : (bytes rest : List ℕ) → rest ≡ drop 4 bytes → length rest < 4 → length bytes < 8
shorter_than_a_pair bytes rest at short =
    let left : length rest ≡ length bytes - 4 = ap length at ∙ length-drop 4 bytes in
    omega arith

pub a_pair : (bytes rest : List ℕ) → rest ≡ drop 4 bytes → 4 ≤ length rest → 8 ≤ length bytes
a_pair bytes rest at there =
    let left : length rest ≡ length bytes - 4 = ap length at ∙ length-drop 4 bytes in
    omega arith

-- where the name stands at the pair's place, its number is found
pub found_here : (info name all bytes rest : List ℕ) (count counter start stream : ℕ) (same : Bool) → counter < count
    → start ≡ number bytes → rest ≡ drop 4 bytes → 4 ≤ length rest → stream ≡ number rest
    → same ≡ stands_at all name start → same ≡ true
    → named_stream_number name info ≡ named_among all name (pairs (count - counter) bytes) → named_stream_number name info ≡ Ok stream
found_here info name all bytes rest count counter start stream same some is at there number-is tested holds was =
    let stands : stands_at all name (number bytes) ≡ true
    = ap (stands_at all name) (sym is) ∙ sym tested ∙ holds in
    let first : named_among all name (behind (pair bytes ∷ []) (pairs (count - (counter + 1)) (drop 8 bytes)))
    ≡ Ok (number (drop 4 bytes)) = simp stands in
    was ∙ ap (λ n. named_among all name (pairs n bytes)) (one_left count counter some)
    ∙ ap (named_among all name) (whole_pair (count - (counter + 1)) bytes (a_pair bytes rest at there))
    ∙ first ∙ ap Ok (sym (number-is ∙ ap number at))

-- where it doesn't, the number is looked for among the pairs after
pub not_here : (info name all bytes rest next : List ℕ) (count counter start : ℕ) (same : Bool) → counter < count
    → start ≡ number bytes → rest ≡ drop 4 bytes → 4 ≤ length rest → next ≡ drop 4 rest
    → same ≡ stands_at all name start → same ≡ false
    → named_stream_number name info ≡ named_among all name (pairs (count - counter) bytes)
    → named_stream_number name info ≡ named_among all name (pairs (count - (counter + 1)) next)
not_here info name all bytes rest next count counter start same some is at there at-next tested fails was =
    let stands : stands_at all name (number bytes) ≡ false
    = ap (stands_at all name) (sym is) ∙ sym tested ∙ fails in
    let place : drop 8 bytes ≡ next = sym (at-next ∙ ap (drop 4) at ∙ drop-drop 4 4 bytes) in
    let passed : named_among all name (behind (pair bytes ∷ []) (pairs (count - (counter + 1)) (drop 8 bytes)))
    ≡ named_among all name (pairs (count - (counter + 1)) (drop 8 bytes)) = simp stands in
    was ∙ ap (λ n. named_among all name (pairs n bytes)) (one_left count counter some)
    ∙ ap (named_among all name) (whole_pair (count - (counter + 1)) bytes (a_pair bytes rest at there))
    ∙ passed ∙ ap (λ xs. named_among all name (pairs (count - (counter + 1)) xs)) place

-- where no pair is left, there is no such stream
pub nowhere : (info name all bytes : List ℕ) (count counter : ℕ) → count ≤ counter
    → named_stream_number name info ≡ named_among all name (pairs (count - counter) bytes) → named_stream_number name info ≡ Err NO_STREAM
nowhere info name all bytes count counter none was =
    let left : count - counter ≡ 0 = omega arith in
    was ∙ ap (λ n. named_among all name (pairs n bytes)) left
