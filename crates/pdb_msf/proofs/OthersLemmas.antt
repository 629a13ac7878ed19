-- The streams of an excerpt stay as they were where another one is added.
use Rattle.std.proofs.Common.{◌≡◌, ◌≢◌, ◌∙◌, ℕ, zero, suc, ◌+◌, ◌-◌, ◌*◌, ◌<◌, ◌≤◌, ◌⊎◌, inl, inr}
use Rattle.std.proofs.Common.{List, [], ◌∷◌, take, drop, length, slice_get, Option, Some, None, Result, Ok, Err}
use Rattle.std.proofs.Common.{refl, sym, ap, subst, arith}
use Rattle.std.proofs.lemmas.Bool.{cases_lt, cases_order}
use Rattle.std.proofs.lemmas.Grind.{common_steps}
use Rattle.std.proofs.lemmas.List.Sums.{sum_by-cons}
use Rattle.std.specs.Int.{div_ceil}
use Rattle.std.specs.List.{sum_by}
use Rattle.pdb_records.specs.declared.error.StreamError.{StreamError}
use Rattle.pdb_msf.proofs.ExcerptLemmas.{listed_all}
use Rattle.pdb_msf.proofs.FrontLemmas.{listed_of_few}
use Rattle.pdb_msf.proofs.HeldLemmas.{each_held, numbers_before, numbers_behind, same_inside}
use Rattle.pdb_msf.specs.Directory.{block_count}
use Rattle.pdb_msf.specs.StreamSubsets.{HoldsBlocks, no_block}
use Rattle.pdb_msf.specs.Msf.{Msf, numbers_place, present, size_of, stream_of}
use Rattle.pdb_msf.specs.NumberLists.{numbers}
use Rattle.pdb_msf.specs.MsfLayout.{IsSubsetOf, MappedFile, stream_at, with_bytes}
use Rattle.pdb_msf.specs.Streams.{all_inside}

-- the blocks before a stream, and its own, are among those before a later stream
sum_before : (f : ℕ → ℕ) (sizes : List ℕ) (one other size : ℕ) → slice_get sizes one ≡ Some size → one < other
    → sum_by f (take one sizes) + f size ≤ sum_by f (take other sizes)
sum_before f [] one other size is below = cc
sum_before f (x ∷ sizes) one zero size is below = absurd (omega arith)
sum_before f (x ∷ sizes) zero (suc other) size is below =
    let same : x ≡ size = cc in
    let here : f x ≡ f size = ap f same in
    let all = sum_by-cons f x (take other sizes) in
    omega (arith, here, all)
sum_before f (x ∷ sizes) (suc one) (suc other) size is below =
    let rest = sum_before f sizes one other size is (omega arith) in
    let some = sum_by-cons f x (take one sizes) in
    let all = sum_by-cons f x (take other sizes) in
    omega (arith, rest, some, all)

-- a stream that is there has its size in the directory, and as many blocks as it takes
there : (block_size size : ℕ) (found : Option ℕ) → present found ≡ Ok size
    → (found ≡ Some size) × (block_count block_size size ≡ div_ceil size block_size)
there block_size size None is = cc
there block_size size (Some x) is = (grind (arith, common_steps), grind (arith, common_steps))

-- so many bytes are there, or they aren't
fits : (wanted left : ℕ) → (wanted ≤ left) ⊎ (left < wanted)
fits wanted left = elim (cases_lt left wanted) [ inl short ↦ inr short | inr room ↦ inl room ]

-- a stream whose numbers are the same is the same where blocks were only appended
same_at : (block_size front place count size : ℕ) (before after old new : List ℕ)
    → HoldsBlocks block_size before old front → front ≤ place → take (length before) after ≡ before
    → length after < no_block * block_size + block_size → length new ≡ length old
    → numbers count (drop (4 * place) new) ≡ numbers count (drop (4 * place) old)
    → (4 * count ≤ length old - 4 * place) ⊎ (length old - 4 * place < 4 * count)
    → stream_at block_size after new (4 * place) count size ≡ stream_at block_size before old (4 * place) count size
same_at block_size front place count size before after old new held behind begins few long same (inl room) =
    let blocks : List ℕ = numbers count (drop (4 * place) old) in
    rw (
      listed_all count (4 * place) new (omega arith),
      listed_all count (4 * place) old room,
      same,
    ) (same_inside block_size size before after blocks (all_inside block_size before blocks) begins few
    (each_held block_size front count place before old held behind room) refl)
same_at block_size front place count size before after old new held behind begins few long same (inr short) =
    rw (
      listed_of_few (4 * place) count (length old) new long short,
      listed_of_few (4 * place) count (length old) old refl short,
    ) refl

-- where numbers are written at the place of a stream, those of another one stay
other_numbers : (f : ℕ → ℕ) (sizes : List ℕ) (number other size more front : ℕ) (old new : List ℕ)
    → slice_get sizes number ≡ Some size → slice_get sizes other ≡ Some more
    → take (front + 4 * sum_by f (take number sizes)) new ≡ take (front + 4 * sum_by f (take number sizes)) old
    → drop (front + 4 * sum_by f (take number sizes) + 4 * f size) new
    ≡ drop (front + 4 * sum_by f (take number sizes) + 4 * f size) old
    → (number ≡ other) ⊎ ((number < other) ⊎ (other < number)) → other ≢ number
    → numbers (f more) (drop (front + 4 * sum_by f (take other sizes)) new)
    ≡ numbers (f more) (drop (front + 4 * sum_by f (take other sizes)) old)
other_numbers f sizes number other size more front old new is also same behind (inl equal) apart =
    absurd (apart (sym equal))
other_numbers f sizes number other size more front old new is also same behind (inr (inl later)) apart =
    let order = sum_before f sizes number other size is later in
    numbers_behind (f more) (front + 4 * sum_by f (take other sizes))
    (front + 4 * sum_by f (take number sizes) + 4 * f size) new old (omega (arith, order)) behind
other_numbers f sizes number other size more front old new is also same behind (inr (inr earlier)) apart =
    let order = sum_before f sizes other number more also earlier in
    numbers_before (f more) (front + 4 * sum_by f (take other sizes)) (front + 4 * sum_by f (take number sizes)) new old
    (omega (arith, order)) same

-- another stream than the one whose numbers are written is the same where blocks were only appended
other_kept : (before after : Msf) (number other size : ℕ) (outcome : Result ℕ StreamError)
    → after.sizes ≡ before.sizes → after.block_size ≡ before.block_size
    → length after.directory ≡ length before.directory
    → HoldsBlocks before.block_size before.file before.directory (1 + length before.sizes)
    → take (length before.file) after.file ≡ before.file
    → length after.file < no_block * before.block_size + before.block_size → size_of before number ≡ Ok size
    → take (numbers_place before number) after.directory ≡ take (numbers_place before number) before.directory
    → drop (numbers_place before number + 4 * div_ceil size before.block_size) after.directory
    ≡ drop (numbers_place before number + 4 * div_ceil size before.block_size) before.directory
    → other ≢ number → size_of before other ≡ outcome → stream_of after other ≡ stream_of before other
unfolding stream_of size_of numbers_place
other_kept before after number other size (Err error) sizes blocks long held begins few sized same behind apart is =
    rw (sizes, is) refl
other_kept before after number other size (Ok more) sizes blocks long held begins few sized same behind apart is =
    let own = there before.block_size size (slice_get before.sizes number) sized in
    let others = there before.block_size more (slice_get before.sizes other) is in
    let row : ℕ = 1 + length before.sizes
    + sum_by (block_count before.block_size) (take other before.sizes) in
    let place : 4 + 4 * length before.sizes + 4 * sum_by (block_count before.block_size) (take other before.sizes)
    ≡ 4 * row = omega arith in
    let numbered = other_numbers (block_count before.block_size) before.sizes number other size more
    (4 + 4 * length before.sizes) before.directory after.directory own.0 others.0 same (rw own.1 behind)
    (cases_order number other) apart in
    let found = rw (others.1, place) at numbered in
    rw (sizes, blocks, is, place) (same_at before.block_size (1 + length before.sizes) row
    (div_ceil more before.block_size) more before.file after.file before.directory after.directory held (omega arith)
    begins few long found
    (fits (4 * div_ceil more before.block_size) (length before.directory - 4 * row)))

-- how many numbers the directory has before those of a stream's blocks
abbrev pub row_of : Msf → ℕ → ℕ
row_of msf number = 1 + length msf.sizes + sum_by (block_count msf.block_size) (take number msf.sizes)

-- there the place is, in bytes
place_of_row : (msf : Msf) (number place : ℕ) → place ≡ numbers_place msf number → place ≡ 4 * row_of msf number
unfolding numbers_place
place_of_row msf number place is = omega (arith, is)

-- what a directory numbers is held where it is in a copy of its bytes, in which a stream's numbers are written
pub held_after : (size front : ℕ) (before after own lent written stored : List ℕ) (msf : Msf) (number place : ℕ)
    → lent ≡ own → stored ≡ written → place ≡ numbers_place msf number
    → ((row from : ℕ) → place ≡ 4 * row → HoldsBlocks size before lent from → HoldsBlocks size after written from)
    → HoldsBlocks size before own front → HoldsBlocks size after stored front
held_after size front before after own lent written stored msf number place borrowed back is kept held =
    let there = kept (row_of msf number) front (place_of_row msf number place is)
    (subst (λ bytes. HoldsBlocks size before bytes front) (sym borrowed) held) in
    subst (λ bytes. HoldsBlocks size after bytes front) (sym back) there

-- the streams of an excerpt stay as they were where another one's blocks are appended and numbered
pub others_kept : (before old after : Msf) (mapped : MappedFile) (number other size place count front : ℕ)
    (lent written : List ℕ) → before ≡ old → IsSubsetOf old mapped → after.sizes ≡ before.sizes
    → after.block_size ≡ before.block_size → after.directory ≡ written → lent ≡ before.directory
    → length written ≡ length lent → front ≡ 1 + length before.sizes
    → HoldsBlocks before.block_size before.file before.directory front
    → HoldsBlocks before.block_size after.file after.directory front
    → take (length before.file) after.file ≡ before.file → size_of (with_bytes [] mapped) number ≡ Ok size
    → place ≡ numbers_place (with_bytes [] mapped) number → count ≡ div_ceil size mapped.block_size
    → take place written ≡ take place lent → drop (place + 4 * count) written ≡ drop (place + 4 * count) lent
    → other ≢ number → stream_of after other ≡ stream_of old other
unfolding size_of numbers_place
others_kept before old after mapped number other size place count front lent written seen is sizes blocks back borrowed
    long front_is held now begins sized at_place counted same behind apart =
    let was : IsSubsetOf before mapped = subst (λ msf. IsSubsetOf msf mapped) (sym seen) is in
    let own : size_of before number ≡ Ok size = rw was.0 sized in
    let here : place ≡ numbers_place before number = rw (was.0, was.1) at_place in
    let many : count ≡ div_ceil size before.block_size = rw was.1 counted in
    let as_long : length after.directory ≡ length before.directory = ap length back ∙ long ∙ ap length borrowed in
    let same_front : take (numbers_place before number) after.directory
    ≡ take (numbers_place before number) before.directory
    = subst (λ n. take n after.directory ≡ take n before.directory) here
    (ap (take place) back ∙ same ∙ ap (take place) borrowed) in
    let end_is : place + 4 * count ≡ numbers_place before number + 4 * div_ceil size before.block_size
    = omega (arith, here, many) in
    let same_behind : drop (numbers_place before number + 4 * div_ceil size before.block_size) after.directory
    ≡ drop (numbers_place before number + 4 * div_ceil size before.block_size) before.directory
    = subst (λ n. drop n after.directory ≡ drop n before.directory) end_is
    (ap (drop (place + 4 * count)) back ∙ behind ∙ ap (drop (place + 4 * count)) borrowed) in
    let kept = other_kept before after number other size (size_of before other) sizes blocks as_long
    (subst (λ n. HoldsBlocks before.block_size before.file before.directory n) front_is held) begins now.few own
    same_front same_behind apart refl in
    kept ∙ ap (λ msf. stream_of msf other) seen
