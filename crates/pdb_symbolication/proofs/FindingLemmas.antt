-- Findings whose keys are known by their bytes.
use Rattle.std.proofs.Common.{◌≡◌, ap, refl, ℕ, List, [], ◌∷◌, string_bytes, cond}
use Rattle.std.specs.BTreeMap.{insert_entry, is_at}
use Rattle.std.specs.Cmp.Lexicographic.{slice_cmp}
use Rattle.std.specs.Map.{lookup}
use Rattle.std.specs.Ordering.{nat_cmp, match_ordering}
use Rattle.std.specs.Prelude.{Option, Some, string_cmp, Bool, true, false}
use Rattle.std.specs.declared.cmp.Ordering.{Ordering}
use Rattle.std.specs.declared.cmp.Ordering.TheVariants.{Less, Equal, Greater}
use Rattle.std.specs.declared.string.String.{String}
use Rattle.pdb_symbolication.specs.Findings.{by_bytes}
use Rattle.pdb_symbolication.specs.declared.findings.Finding.{Finding}

either : (found : Bool) (here : Option Finding) (one other : Option Finding) → one ≡ other
    → cond found here one ≡ cond found here other
either true here one other same = refl
either false here one other same = same

-- what is found by the bytes of a key
pub lookup-by_bytes : {Y : Type 0} (key : List ℕ) (known : List (String Y × Finding))
    → lookup (is_at (slice_cmp nat_cmp key)) (by_bytes known)
    ≡ lookup (is_at (λ k. slice_cmp nat_cmp key (string_bytes k))) known
lookup-by_bytes key [] = refl
lookup-by_bytes key (first ∷ known) =
    either (is_at (slice_cmp nat_cmp key) (string_bytes first.0)) (Some first.1) _ _ (lookup-by_bytes key known)

ordered : (order : Ordering) {Y : Type 0} (less equal greater : List (String Y × Finding))
    → (more : List (List ℕ × Finding)) → by_bytes greater ≡ more
    → by_bytes (match_ordering order less equal greater) ≡ match_ordering order (by_bytes less) (by_bytes equal) more
ordered Less less equal greater more same = refl
ordered Equal less equal greater more same = refl
ordered Greater less equal greater more same = same

-- what an entry more makes of them
pub insert_entry-by_bytes : {Y : Type 0} (key : String Y) (one : Finding) (known : List (String Y × Finding))
    → by_bytes (insert_entry string_cmp known key one)
    ≡ insert_entry (slice_cmp nat_cmp) (by_bytes known) (string_bytes key) one
insert_entry-by_bytes key one [] = refl
insert_entry-by_bytes key one (first ∷ known) =
    ordered (string_cmp key first.0) ((key, one) ∷ (first ∷ known)) ((first.0, one) ∷ known)
    (first ∷ insert_entry string_cmp known key one) _
    (ap (λ (more : List (List ℕ × Finding)). (string_bytes first.0, first.1) ∷ more)
    (insert_entry-by_bytes key one known))
