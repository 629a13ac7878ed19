-- Names of files, how they begin, and their lower case.
use Rattle.std.proofs.Common.{◌≡◌, ◌∙◌, ℕ, suc, ◌<◌, ◌==◌, ◌&&◌, Bool, true, false, List, [], ◌∷◌, length, refl, ap}
use Rattle.std.proofs.Common.{arith}
use Rattle.std.proofs.lemmas.Bool.Decides.{nat_tests}
use Rattle.std.specs.Char.{to_ascii_lowercase}
use Rattle.std.specs.Str.{bytes_eq, str_to_ascii_lowercase}
use Rattle.pdb_source_urls.specs.PathNames.{alike, begins_with}

and_false : (test : Bool) → (test && false) ≡ false
and_false true = refl
and_false false = refl

-- a name doesn't begin with a longer path
pub short_name : (name path : List ℕ) → length name < length path → begins_with name path ≡ false
short_name name [] less = absurd (omega arith)
short_name [] (byte ∷ path) less = refl
short_name (letter ∷ name) (byte ∷ path) less = rw (short_name name path (omega arith)) (and_false _)

-- the lengths may be compared after the first letters
and_swap : (long first rest : Bool) → (long && (first && rest)) ≡ (first && (long && rest))
and_swap true first rest = refl
and_swap false true rest = refl
and_swap false false rest = refl

-- two names are the same exactly if they are equal in lower case
pub alike-lower : (name other : List ℕ)
    → alike name other ≡ bytes_eq (str_to_ascii_lowercase name) (str_to_ascii_lowercase other)
alike-lower [] [] = refl
alike-lower [] (byte ∷ other) = and_false _
alike-lower (letter ∷ name) [] =
    let longer : (suc (length name) == 0) ≡ false = grind (arith, nat_tests) in ap (λ long. long && true) longer
alike-lower (letter ∷ name) (byte ∷ other) =
    let same = to_ascii_lowercase letter == to_ascii_lowercase byte in
    let shorter : (suc (length name) == suc (length other)) ≡ (length name == length other)
    = grind (arith, nat_tests) in
    ap (λ long. long && (same && begins_with name other)) shorter
    ∙ and_swap (length name == length other) same (begins_with name other)
    ∙ ap (λ rest. same && rest) (alike-lower name other)
