-- What is known of a file by its first bytes alone.
use Rattle.std.proofs.Common.{◌≡◌, ◌∙◌, ℕ, ◌+◌, ◌-◌, ◌*◌, ◌≤◌, ◌<◌, nat_lt, min, List, take, drop}
use Rattle.std.proofs.Common.{length, codes, ◌≢◌, true, Err, Option, refl, ap, arith, lit≤}
use Rattle.std.proofs.lemmas.Bool.Decides.{nat_tests}
use Rattle.std.proofs.lemmas.List.{drop-take, length-drop, length-take, take-take, take_min}
use Rattle.std.specs.Cmp.Lexicographic.{pointwise}
use Rattle.std.specs.Prelude.{nat_eq}
use Rattle.byteorder.specs.Endian.{little_number}
use Rattle.pdb_msf.proofs.KnownLemmas.{if_file}
use Rattle.pdb_msf.proofs.NumberLemmas.{numbers_of_taken}
use Rattle.pdb_msf.specs.declared.faults.TheConstants.{CUT}
use Rattle.pdb_msf.specs.declared.container_error.ContainerError.TheVariants as fault
use Rattle.pdb_msf.specs.ContainerError.{begins, other_fault}
use Rattle.pdb_msf.specs.Faults.{cut_short}
use Rattle.pdb_msf.specs.NumberLists.{listed, number}
use Rattle.pdb_msf.specs.MsfLayout.{IfFile}
use Rattle.pdb_msf.specs.Superblock.{is_msf, magic, superblock}

-- a file begins with bytes that are so few if its first bytes do
begins_of_front : (count : ℕ) (file bytes : List ℕ) → length bytes ≤ count
    → begins (take count file) bytes ≡ begins file bytes
begins_of_front count file bytes few = ap (pointwise nat_eq bytes) (take-take (length bytes) count file few)

-- a number that stands within the first bytes is the file's
number_of_front : (place count : ℕ) (file : List ℕ) → place + 4 ≤ count
    → number (drop place (take count file)) ≡ number (drop place file)
number_of_front place count file within =
    let whole : count ≡ place + (count - place) = omega arith in
    ap (λ n. number (drop place (take n file))) whole ∙ ap number (drop-take place (count - place) file)
    ∙ ap (little_number 4) (take-take 4 (count - place) (drop place file) (omega arith))

-- the first bytes are too few if the file's are
few_of_front : (count : ℕ) (file : List ℕ) → nat_lt (length (take count file)) count ≡ nat_lt (length file) count
few_of_front count file = simp length-take (grind (arith, nat_tests))

-- a file begins as those of the format do if its first bytes do
is_msf_of_front : (file : List ℕ) → is_msf (take 56 file) ≡ is_msf file
unfolding is_msf
is_msf_of_front file = begins_of_front 56 file magic (lit≤ tt)

-- what a file is otherwise is known by its first bytes
other_of_front : (file : List ℕ) → other_fault (take 56 file) ≡ other_fault file
unfolding other_fault
other_of_front file =
    let program = begins_of_front 56 file (codes "MZ") (lit≤ tt) in
    let portable = begins_of_front 56 file (codes "BSJB") (lit≤ tt) in
    let cabinet = begins_of_front 56 file (codes "MSCF") (lit≤ tt) in
    let compressed = begins_of_front 56 file (codes "SZDD") (lit≤ tt) in
    let old = begins_of_front 56 file (codes "Microsoft C/C++ program database 2.00") (lit≤ tt) in
    rw (program, portable, cabinet, compressed, old) refl

-- the superblock is known by the first bytes
superblock_of_front : (file : List ℕ) → superblock (take 56 file) ≡ superblock file
unfolding superblock
superblock_of_front file =
    rw (
      is_msf_of_front file,
      other_of_front file,
      few_of_front 56 file,
      number_of_front 32 56 file (lit≤ tt),
      number_of_front 44 56 file (lit≤ tt),
    ) refl

-- the superblock is that of the bytes that were read from the front
pub superblock_of_read : (file front : List ℕ) (file_length : ℕ) → length file ≡ file_length
    → front ≡ take (min file_length 56) (drop 0 file) → superblock front ≡ superblock file
superblock_of_read file front file_length long is =
    let least : min file_length 56 ≡ min 56 (length file) = omega arith in
    rw (is, least, take_min 56 file) (superblock_of_front file)

-- numbers are listed of the bytes that they take as of all bytes
pub listed_of_taken : (count : ℕ) (bytes : List ℕ) → listed count (take (4 * count) bytes) ≡ listed count bytes
unfolding listed
listed_of_taken count bytes =
    rw (few_of_front (4 * count) bytes, numbers_of_taken count bytes) refl

-- numbers aren't listed where the file ends before so many
pub listed_of_few : (place count file_length : ℕ) (file : List ℕ) → length file ≡ file_length
    → file_length - place < 4 * count → listed count (drop place file) ≡ Err CUT
unfolding listed
listed_of_few place count file_length file long few =
    let short : nat_lt (length (drop place file)) (4 * count) ≡ true = simp length-drop (grind (arith, nat_tests)) in
    rw short refl

-- a file that ends before the numbers of its block map's blocks is cut short
pub map_cut_short : (known : Option (List ℕ)) (count left file_length : ℕ) → left ≡ file_length - 52
    → left < 4 * count → IfFile known file_length (λ file. fault.CutShort ≢ fault.OutOfMemory
    → cut_short (listed count (drop 52 file)) ≡ Err fault.CutShort)
map_cut_short known count left file_length is few =
    if_file known file_length _ (λ file _ long _. ap cut_short (listed_of_few 52 count file_length file long (omega arith)))
