-- The info stream, step by step.
use Rattle.std.proofs.Common.{◌≡◌, ◌∙◌, ℕ, ◌+◌, ◌-◌, ◌≤◌, ◌<◌, List, take, drop, length, ap, length-drop, arith, subst}
use Rattle.std.proofs.lemmas.List.{drop-drop}
use Rattle.pdb_msf.specs.NumberLists.{number}
use Rattle.pdb_container.specs.Info.{bits_size, names, present_place, table_place}

-- what stands after a stretch that stands at a place
pub behind_one : (info rest behind : List ℕ) (place size : ℕ) → rest ≡ drop place info → behind ≡ drop size rest
    → behind ≡ drop (place + size) info
behind_one info rest behind place size at passed = passed ∙ ap (drop size) at ∙ drop-drop size place info

-- what is left is too little, so the whole is
pub cut_at : (info rest : List ℕ) (place size end : ℕ) → rest ≡ drop place info → length rest < size
    → place + size ≤ end → length info < end
cut_at info rest place size end at short within =
    let left : length rest ≡ length info - place = ap length at ∙ length-drop place info in
    omega arith

-- the names stand after their size
pub names_at : (info r1 r2 : List ℕ) → r1 ≡ drop 28 info → r2 ≡ drop 4 r1 → r2 ≡ drop 32 info
names_at info r1 r2 at-1 at-2 = behind_one info r1 r2 28 4 at-1 at-2

-- and the table after them
pub table_at : (info r1 r2 r3 : List ℕ) (size : ℕ) → r1 ≡ drop 28 info → size ≡ number r1 → r2 ≡ drop 4 r1
    → r3 ≡ drop size r2 → r3 ≡ drop (table_place info) info
table_at info r1 r2 r3 size at-1 is at-2 at-3 =
    behind_one info r2 r3 32 size (names_at info r1 r2 at-1 at-2) at-3
    ∙ ap (λ n. drop (32 + n) info) (is ∙ ap number at-1)

-- the names are what was taken
pub names_are : (info r1 r2 taken : List ℕ) (size : ℕ) → r1 ≡ drop 28 info → size ≡ number r1 → r2 ≡ drop 4 r1
    → taken ≡ take size r2 → taken ≡ names info
names_are info r1 r2 taken size at-1 is at-2 front =
    front ∙ ap (take size) (names_at info r1 r2 at-1 at-2) ∙ ap (λ n. take n (drop 32 info)) (is ∙ ap number at-1)

-- the bits stand after two numbers of the table
pub present_at : (info r3 r4 r5 : List ℕ) → r3 ≡ drop (table_place info) info → r4 ≡ drop 4 r3 → r5 ≡ drop 4 r4
    → r5 ≡ drop (present_place info) info
present_at info r3 r4 r5 at-3 at-4 at-5 =
    let sum : table_place info + 4 + 4 ≡ present_place info = omega arith in
    behind_one info r4 r5 (table_place info + 4) 4 (behind_one info r3 r4 (table_place info) 4 at-3 at-4) at-5
    ∙ ap (λ n. drop n info) sum

-- what stands after a set of bits
pub bits_at : (info rest behind : List ℕ) (place : ℕ) → rest ≡ drop place info → behind ≡ drop (bits_size rest) rest
    → behind ≡ drop (place + bits_size (drop place info)) info
bits_at info rest behind place at passed =
    behind_one info rest behind place (bits_size rest) at passed ∙ ap (λ xs. drop (place + bits_size xs) info) at

-- a set of bits that isn't there as a whole
pub cut_bits : (info rest : List ℕ) (place end : ℕ) → rest ≡ drop place info → length rest < bits_size rest
    → place + bits_size (drop place info) ≤ end → length info < end
cut_bits info rest place end at short within =
    let size : bits_size rest ≡ bits_size (drop place info) = ap bits_size at in
    cut_at info rest place (bits_size (drop place info)) end at (subst (λ n. length rest < n) size short) within

-- what is left holds a set of bits, so the whole goes as far as its end
pub all_there : (info rest : List ℕ) (place : ℕ) → rest ≡ drop place info → bits_size rest ≤ length rest
    → place + bits_size (drop place info) ≤ length info
all_there info rest place at there =
    let size : bits_size rest ≡ bits_size (drop place info) = ap bits_size at in
    let left : length rest ≡ length info - place = ap length at ∙ length-drop place info in
    omega arith
