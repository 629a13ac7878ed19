-- What follows of a value, as the bytes of a file, where it is known.
use Rattle.std.proofs.Common.{◌≡◌, ℕ, List, length, Option, Some, None, IfSome, refl, subst}
use Rattle.pdb_msf.specs.MsfLayout.{IfFile}

-- two facts on a value, the second where the same is known again, give where it is known a third that they imply
pub both_hold : {A : Type 0} (P Q R : A → Type 0) (known here : Option A) → here ≡ known → IfSome known P
    → IfSome here Q → ((value : A) → P value → Q value → R value) → IfSome known R
both_hold P Q R None here same first second implied = tt
both_hold P Q R (Some value) here same first second implied =
    implied value first (subst (λ option. IfSome option Q) same second)

-- what holds of each file of this length that is the known one holds of the known file
pub if_file : (known : Option (List ℕ)) (file_length : ℕ) (holds : List ℕ → Type 0)
    → ((file : List ℕ) → known ≡ Some file → length file ≡ file_length → holds file) → IfFile known file_length holds
if_file None file_length holds each = tt
if_file (Some file) file_length holds each = each file refl
