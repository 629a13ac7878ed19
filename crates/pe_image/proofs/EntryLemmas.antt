-- Tables, entry by entry.
use Rattle.std.proofs.Common.{◌≡◌, ℕ, suc, ◌+◌, ◌-◌, ◌*◌, ◌<◌, List, [], ◌∷◌, ◌++◌, drop, take, length, append_assoc}
use Rattle.std.proofs.Common.{arith}
use Rattle.std.proofs.Common.{length-drop}
use Rattle.std.proofs.lemmas.List.{drop-drop, take_all}
use Rattle.pe_image.specs.NumbersAt.{entries}

-- the bytes of a list from an offset up to its end are what is left behind that offset
rest_of : (at : ℕ) (bytes : List ℕ) → take (length bytes - at) (drop at bytes) ≡ drop at bytes
rest_of at bytes = take_all (length bytes - at) (drop at bytes) (omega (arith, length-drop at bytes))

-- with the next entry read, the table is still the entries that were read and those that are left
pub one_entry_more : {A : Type 0} (entry : List ℕ → A) (size count done : ℕ) (x : A) (all read after : List A)
    (bytes : List ℕ) → done < count
    → all ≡ read ++ entries entry size (count - done) (drop (size * done) bytes)
    → x ≡ entry (take (length bytes - size * done) (drop (size * done) bytes)) → after ≡ read ++ x ∷ []
    → all ≡ after ++ entries entry size (count - (done + 1)) (drop (size * (done + 1)) bytes)
one_entry_more entry size count done x all read after bytes below before is pushed =
    let more : count - done ≡ suc (count - (done + 1)) = omega arith in
    let next : size * done + size ≡ size * (done + 1) = omega arith in
    rw (pushed, is, rest_of, append_assoc) (rw (more, drop-drop, next) at before)
