-- Blocks that an excerpt has, and goes on having where others are appended and numbered.
use Rattle.std.proofs.Common.{◌≡◌, ◌∙◌, ℕ, zero, suc, ◌+◌, ◌-◌, ◌*◌, ◌<◌, ◌≤◌, ◌⊎◌, inl, inr, nat_lt, min, Bool}
use Rattle.std.proofs.Common.{List, [], ◌∷◌, ◌++◌, take, drop, length, replicate, true, false, refl, sym, ap, subst}
use Rattle.std.proofs.Common.{◌^◌, arith, length-drop, mul-le-mul_right}
use Rattle.std.proofs.lemmas.Bool.{cases_lt}
use Rattle.std.proofs.lemmas.Bool.Decides.{nat_tests}
use Rattle.std.proofs.lemmas.List.{append-nil, drop-drop, drop-replicate, drop-take, drop_all, drop_at, length-take}
use Rattle.std.proofs.lemmas.List.{length-take-le, take-take}
use Rattle.byteorder.specs.Endian.{little_bytes}
use Rattle.byteorder.specs.Numbers.{length-bytes_low_first}
use borrow.Rule.Slice.PartMut.{mid_of, post_of, put_mid}
use Rattle.pdb_msf.proofs.ExcerptLemmas.{first_inside}
use Rattle.pdb_msf.proofs.NumberLemmas.{numbers_of_taken}
use Rattle.pdb_msf.specs.StreamSubsets.{HoldsBlocks, IsHeld, no_block, number_at}
use Rattle.pdb_msf.specs.NumberLists.{number, numbers}
use Rattle.pdb_msf.specs.MsfLayout.{following}
use Rattle.pdb_msf.specs.Streams.{all_inside, block, bytes_of_blocks, stream_inside}

-- bytes that begin with others are as many at least
pub longer : (before after : List ℕ) → take (length before) after ≡ before → length before ≤ length after
longer before after begins =
    let short : min (length before) (length after) ≡ length before = simp length-take at (ap length begins) in
    omega arith

-- what begins with bytes that begin with others begins with those
pub begins_after : (one two three : List ℕ) → take (length one) two ≡ one → take (length two) three ≡ two
    → take (length one) three ≡ one
begins_after one two three first second =
    let short : length one ≤ length two = longer one two first in
    sym (take-take (length one) (length two) three short) ∙ ap (take (length one)) second ∙ first

-- a block of the bytes before is the same in bytes that begin with those
same_block : (size number : ℕ) (before after : List ℕ) → take (length before) after ≡ before
    → number * size + size ≤ length before → block size after number ≡ block size before number
same_block size number before after begins within =
    let left : ℕ = length before - number * size in
    let whole : length before ≡ number * size + left = omega arith in
    let rest : drop (number * size) before ≡ take left (drop (number * size) after)
    = ap (drop (number * size)) (sym begins) ∙ ap (λ n. drop (number * size) (take n after)) whole
    ∙ drop-take (number * size) left after in
    sym (ap (take size) rest ∙ take-take size left (drop (number * size) after) (omega arith))

-- blocks of the bytes before are the same in bytes that begin with those
same_in_order : (size : ℕ) (before after blocks : List ℕ) → take (length before) after ≡ before
    → all_inside size before blocks ≡ true → bytes_of_blocks size after blocks ≡ bytes_of_blocks size before blocks
same_in_order size before after [] begins inside = refl
same_in_order size before after (number ∷ blocks) begins inside =
    let both = first_inside size number before blocks inside in
    rw (same_block size number before after begins both.0, same_in_order size before after blocks begins both.1) refl

-- each of these numbers is that of a block that the file has, or of no block
abbrev pub EachHeld : ℕ → List ℕ → List ℕ → Type 0
EachHeld size file [] = Unit {0}
EachHeld size file (number ∷ blocks) = IsHeld size file number × EachHeld size file blocks

-- what is at least so much isn't below it
test_false : (n m : ℕ) → m ≤ n → nat_lt n m ≡ false
test_false n m within = grind (arith, nat_tests)

-- what is below is below
test_true : (n m : ℕ) → n < m → nat_lt n m ≡ true
test_true n m below = grind (arith, nat_tests)

-- a block that the bytes have, or no block, lies in bytes that begin with those just where it lies in those
same_test : (size number : ℕ) (before after : List ℕ) → take (length before) after ≡ before
    → length after < no_block * size + size → IsHeld size before number → (number < no_block) ⊎ (no_block ≤ number)
    → nat_lt (length after) (number * size + size) ≡ nat_lt (length before) (number * size + size)
same_test size number before after begins few held (inl below) =
    let more = longer before after begins in
    let within = held below in
    test_false (length after) (number * size + size) (omega (arith, more, within))
    ∙ sym (test_false (length before) (number * size + size) within)
same_test size number before after begins few held (inr beyond) =
    let more = longer before after begins in
    let far : no_block * size ≤ number * size = mul-le-mul_right size beyond in
    test_true (length after) (number * size + size) (omega (arith, far, few))
    ∙ sym (test_true (length before) (number * size + size) (omega (arith, far, few, more)))

-- such blocks lie in bytes that begin with others just where they lie in those
same_all_inside : (size : ℕ) (before after blocks : List ℕ) → take (length before) after ≡ before
    → length after < no_block * size + size → EachHeld size before blocks
    → all_inside size after blocks ≡ all_inside size before blocks
same_all_inside size before after [] begins few held = refl
same_all_inside size before after (number ∷ blocks) begins few held =
    rw (
      same_test size number before after begins few held.0 (cases_lt number no_block),
      same_all_inside size before after blocks begins few held.1,
    ) refl

-- a stream of such blocks is the same in bytes that begin with those before
pub same_inside : (size stream_length : ℕ) (before after blocks : List ℕ) (inside : Bool)
    → take (length before) after ≡ before → length after < no_block * size + size → EachHeld size before blocks
    → all_inside size before blocks ≡ inside
    → stream_inside size after stream_length blocks ≡ stream_inside size before stream_length blocks
unfolding stream_inside
same_inside size stream_length before after blocks true begins few held is =
    rw (
      same_all_inside size before after blocks begins few held,
      is,
      same_in_order size before after blocks begins is,
    ) refl
same_inside size stream_length before after blocks false begins few held is =
    rw (same_all_inside size before after blocks begins few held, is) refl

-- the numbers of a directory of such blocks are those of blocks that the file has, or of no block
pub each_held : (size front count place : ℕ) (file directory : List ℕ) → HoldsBlocks size file directory front
    → front ≤ place → 4 * count ≤ length directory - 4 * place
    → EachHeld size file (numbers count (drop (4 * place) directory))
each_held size front zero place file directory held behind room = tt
each_held size front (suc count) place file directory held behind room =
    let next : 4 * place + 4 ≡ 4 * (place + 1) = omega arith in
    let others = each_held size front count (place + 1) file directory held (omega arith) (omega arith) in
    (held.each place behind (omega arith), rw (drop-drop 4 (4 * place) directory, next) others)

-- numbers that end within the first bytes are those in the first bytes
front_numbers : (count place end : ℕ) (bytes : List ℕ) → place + 4 * count ≤ end
    → numbers count (drop place (take end bytes)) ≡ numbers count (drop place bytes)
front_numbers count place end bytes within =
    let whole : end ≡ place + (end - place) = omega arith in
    let cut : drop place (take end bytes) ≡ take (end - place) (drop place bytes)
    = ap (λ n. drop place (take n bytes)) whole ∙ drop-take place (end - place) bytes in
    ap (numbers count) cut ∙ sym (numbers_of_taken count (take (end - place) (drop place bytes)))
    ∙ ap (numbers count) (take-take (4 * count) (end - place) (drop place bytes) (omega arith))
    ∙ numbers_of_taken count (drop place bytes)

-- numbers that end before two directories differ are the same in both
pub numbers_before : (count place end : ℕ) (one other : List ℕ) → place + 4 * count ≤ end
    → take end one ≡ take end other → numbers count (drop place one) ≡ numbers count (drop place other)
numbers_before count place end one other within same =
    sym (front_numbers count place end one within) ∙ ap (λ bytes. numbers count (drop place bytes)) same
    ∙ front_numbers count place end other within

-- bytes behind others are bytes behind
drop_behind : (place end : ℕ) (bytes : List ℕ) → end ≤ place
    → drop place bytes ≡ drop (place - end) (drop end bytes)
drop_behind place end bytes behind =
    let split : place ≡ end + (place - end) = omega arith in
    ap (λ n. drop n bytes) split ∙ sym (drop-drop (place - end) end bytes)

-- what is the same from a place on is the same from later on
pub same_later : (end place : ℕ) (one other : List ℕ) → end ≤ place → drop end one ≡ drop end other
    → drop place one ≡ drop place other
same_later end place one other behind same =
    drop_behind place end one behind ∙ ap (drop (place - end)) same ∙ sym (drop_behind place end other behind)

-- what is the same up to a place is the same up to one before it
pub same_front : (place end : ℕ) (one other : List ℕ) → place ≤ end → take end one ≡ take end other
    → take place one ≡ take place other
same_front place end one other within same =
    sym (take-take place end one within) ∙ ap (take place) same ∙ take-take place end other within

-- behind a number that was written the bytes are those from before
pub same_behind : (place end x : ℕ) (before after : List ℕ) → place + 4 ≤ end
    → drop place after ≡ little_bytes 4 x ++ drop 4 (drop place before) → drop end after ≡ drop end before
same_behind place end x before after behind wrote =
    let skipped : drop (place + 4) after ≡ drop (place + 4) before
    = sym (drop-drop 4 place after) ∙ ap (drop 4) wrote
    ∙ drop_at (little_bytes 4 x) (drop 4 (drop place before)) 4 (length-bytes_low_first 0 4 x)
    ∙ drop-drop 4 place before in
    same_later (place + 4) end after before behind skipped

-- numbers that begin where two directories are the same again are the same in both
pub numbers_behind : (count place end : ℕ) (one other : List ℕ) → end ≤ place → drop end one ≡ drop end other
    → numbers count (drop place one) ≡ numbers count (drop place other)
numbers_behind count place end one other behind same =
    ap (numbers count) (same_later end place one other behind same)

-- the first of numbers that are the same is the same
first_same : (one other : List ℕ) → numbers 1 one ≡ numbers 1 other → number one ≡ number other
first_same one other same = cc

-- of numbers that follow one another, that at an index
following_at : (count place first index : ℕ) (bytes : List ℕ) → index < count
    → numbers count (drop place bytes) ≡ following first count → number (drop (place + 4 * index) bytes) ≡ first + index
following_at zero place first index bytes below is = absurd (omega arith)
following_at (suc count) place first zero bytes below is =
    let none : place + 4 * 0 ≡ place = omega arith in
    let same : first ≡ first + 0 = omega arith in
    let head : number (drop place bytes) ≡ first = cc in
    ap (λ n. number (drop n bytes)) none ∙ head ∙ same
following_at (suc count) place first (suc index) bytes below is =
    let rest : numbers count (drop 4 (drop place bytes)) ≡ following (first + 1) count = cc in
    let behind : numbers count (drop (place + 4) bytes) ≡ following (first + 1) count
    = ap (numbers count) (sym (drop-drop 4 place bytes)) ∙ rest in
    let next : place + 4 * suc index ≡ place + 4 + 4 * index = omega arith in
    let value : first + 1 + index ≡ first + suc index = omega arith in
    ap (λ n. number (drop n bytes)) next ∙ following_at count (place + 4) (first + 1) index bytes (omega arith) behind
    ∙ value

-- where numbers were written at a place, each is that of a block that the file has, or of no block, if that holds of
-- those before and of those that were written
number_held : (size row count first place : ℕ) (file before after : List ℕ)
    → take (4 * row) after ≡ take (4 * row) before
    → drop (4 * row + 4 * count) after ≡ drop (4 * row + 4 * count) before
    → numbers count (drop (4 * row) after) ≡ following first count
    → ((index : ℕ) → index < count → IsHeld size file (first + index)) → IsHeld size file (number_at before place)
    → (place < row) ⊎ (row ≤ place) → (place < row + count) ⊎ (row + count ≤ place)
    → IsHeld size file (number_at after place)
number_held size row count first place file before after same behind written new old (inl early) late =
    let is = first_same (drop (4 * place) after) (drop (4 * place) before)
    (numbers_before 1 (4 * place) (4 * row) after before (omega arith) same) in
    subst (λ n. IsHeld size file n) (sym is) old
number_held size row count first place file before after same behind written new old (inr from) (inr late) =
    let is = first_same (drop (4 * place) after) (drop (4 * place) before)
    (numbers_behind 1 (4 * place) (4 * row + 4 * count) after before (omega arith) behind) in
    subst (λ n. IsHeld size file n) (sym is) old
number_held size row count first place file before after same behind written new old (inr from) (inl within) =
    let there : 4 * row + 4 * (place - row) ≡ 4 * place = omega arith in
    let is = following_at count (4 * row) first (place - row) after (omega arith) written in
    subst (λ n. IsHeld size file n) (sym is ∙ ap (λ n. number (drop n after)) there) (new (place - row) (omega arith))

-- with numbers written of blocks that the file has, a directory numbers such blocks alone
pub numbered_held : (size front row place count first : ℕ) (file before after : List ℕ) → place ≡ 4 * row
    → HoldsBlocks size file before front → length after ≡ length before → take place after ≡ take place before
    → drop (place + 4 * count) after ≡ drop (place + 4 * count) before
    → numbers count (drop place after) ≡ following first count
    → ((index : ℕ) → index < count → IsHeld size file (first + index)) → HoldsBlocks size file after front
numbered_held size front row place count first file before after is held long same behind written new =
    let same_row = rw is at same in
    let behind_row = rw is at behind in
    let written_row = rw is at written in
    record {
      few = held.few;
      each = λ other from room. number_held size row count first other file before after same_row behind_row
          written_row new (held.each other from (omega arith)) (cases_lt other row) (cases_lt other (row + count));
    }

-- what a directory numbers goes on being held where blocks are appended
pub grown_held : (size front : ℕ) (before after directory : List ℕ) → take (length before) after ≡ before
    → length after < no_block * size + size → HoldsBlocks size before directory front
    → HoldsBlocks size after directory front
grown_held size front before after directory begins few held = record {
  few = few;
  each = λ place from room below.
      let more = longer before after begins in
      let within = held.each place from room below in
      omega (arith, more, within);
}

-- fewer blocks than 2^32 end before that of the greatest number
pub few_blocks : (size first count long : ℕ) → first + count < 2 ^ 32 → 0 < size → long ≤ first * size + count * size
    → long < no_block * size + size
few_blocks size first count long few some within =
    let split : (first + count) * size ≡ first * size + count * size = grind arith in
    let most : (first + count) * size ≤ no_block * size = mul-le-mul_right size (omega (arith, few)) in
    omega (arith, split, most)

-- blocks that were appended are in the file
pub appended_held : (size first count index long : ℕ) → index < count → long ≡ first * size + count * size
    → (first + index) * size + size ≤ long
appended_held size first count index long below is =
    let split : (first + count) * size ≡ first * size + count * size = grind arith in
    let next : (first + index + 1) * size ≡ (first + index) * size + size = grind arith in
    let most : (first + index + 1) * size ≤ (first + count) * size = mul-le-mul_right size (omega arith) in
    omega (arith, split, next, most)

-- bytes of 255 are the number of no block
all_ones : (more : ℕ) → number (replicate (suc (suc (suc (suc more)))) 255) ≡ no_block
all_ones more = refl

-- a place in bytes of 255 has the number of no block
none_at : (front place left : ℕ) (head : List ℕ) → length head ≡ front → front ≤ 4 * place
    → 4 * place + 4 ≤ front + left → number_at (head ++ replicate left 255) place ≡ no_block
none_at front place left head long behind within =
    let skip : ℕ = 4 * place - front in
    let more : ℕ = left - skip - 4 in
    let count : left - skip ≡ suc (suc (suc (suc more))) = omega arith in
    ap number (drop_behind (4 * place) front (head ++ replicate left 255) behind)
    ∙ ap (λ bytes. number (drop skip bytes)) (drop_at head (replicate left 255) front long)
    ∙ ap number (drop-replicate skip left 255) ∙ ap (λ n. number (replicate n 255)) count ∙ all_ones more

-- where a directory is filled with bytes of 255 from a place on, it numbers no block there
pub filled_none : (front place : ℕ) (before filled : List ℕ) → front ≤ length before
    → filled ≡ replicate (length (mid_of front (length before - front) before)) 255 → front ≤ 4 * place
    → 4 * place + 4 ≤ length before
    → number_at (put_mid front (length before - front) before filled) place ≡ no_block
filled_none front place before filled there is behind within =
    let left : ℕ = length before - front in
    let many : length (mid_of front left before) ≡ left = simp (length-take, length-drop) (omega arith) in
    let none : post_of front left before ≡ [] = drop_all left (drop front before) (simp length-drop (omega arith)) in
    let all : filled ++ post_of front left before ≡ replicate left 255
    = ap (λ rest. filled ++ rest) none ∙ append-nil filled ∙ is ∙ ap (λ n. replicate n 255) many in
    ap (λ rest. number_at (take front before ++ rest) place) all
    ∙ none_at front place left (take front before) (length-take-le front before there) behind (omega arith)
