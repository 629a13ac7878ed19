-- What a file lists, number by number.
use Rattle.std.proofs.Common.{◌≡◌, ◌∙◌, ℕ, suc, ◌-◌, ◌/◌, ◌≤◌, ◌<◌, ◌==◌, ◌||◌, Bool, true, false, List, ◌∷◌}
use Rattle.std.proofs.Common.{drop, length, refl, sym, ap, length-drop, add-one, arith}
use Rattle.std.proofs.lemmas.Grind.{common_steps}
use Rattle.std.proofs.Math.Nat.{div-eq-sub-div}
use Rattle.pdb_msf.specs.NumberLists.{number, numbers}
use Rattle.pdb_container.specs.declared.info.Features.{Features}
use Rattle.pdb_container.specs.Info.{all_numbers, features_by}

-- what two lists list together
abbrev pub both : Features → Features → Features
both first second = record {
  ids = first.ids || second.ids;
  names_only = first.names_only || second.names_only;
}

-- the first number, and those after it
pub first_number : (bytes : List ℕ) → 4 ≤ length bytes
    → all_numbers bytes ≡ number bytes ∷ all_numbers (drop 4 bytes)
first_number bytes there =
    let some : 0 < 4 = omega arith in
    let left : length (drop 4 bytes) ≡ length bytes - 4 = length-drop 4 bytes in
    let count : length bytes / 4 ≡ suc (length (drop 4 bytes) / 4)
    = div-eq-sub-div some there ∙ add-one ((length bytes - 4) / 4) ∙ ap (λ n. suc (n / 4)) (sym left) in
    ap (λ n. numbers n bytes) count

-- either may be asked first
moved : (a b c : Bool) → (a || (b || c)) ≡ ((a || b) || c)
moved true b c = refl
moved false b c = refl

-- nothing more is no change
unmoved : (a : Bool) → (a || false) ≡ a
unmoved true = refl
unmoved false = refl

-- a choice that is made already
made : (a : Bool) → (a || true) ≡ true
made true = refl
made false = refl

-- the number that ends the list
pub ended : (bytes : List ℕ) (all before : Features) → 4 ≤ length bytes → number bytes ≡ 20091201
    → all ≡ both before (features_by (all_numbers bytes)) → record { ids = true; names_only = before.names_only } ≡ all
ended bytes all before there is was =
    let test : (number bytes == 20091201) ≡ true = grind (arith, common_steps, is) in
    let last : features_by (number bytes ∷ all_numbers (drop 4 bytes)) ≡ record { ids = true; names_only = false }
    = simp test in
    sym (was ∙ ap (λ xs. both before (features_by xs)) (first_number bytes there) ∙ ap (both before) last
    ∙ ap (λ x. record { ids = x; names_only = before.names_only || false }) (made before.ids)
    ∙ ap (λ x. record { ids = true; names_only = x }) (unmoved before.names_only))

-- another number, and what it lists
pub one_number_more : (bytes rest : List ℕ) (all before after : Features) (listed : ℕ) → 4 ≤ length bytes
    → rest ≡ drop 4 bytes → listed ≡ number bytes → (listed == 20091201) ≡ false
    → after.ids ≡ (before.ids || (listed == 20140508))
    → after.names_only ≡ (before.names_only || (listed == 1229867341))
    → all ≡ both before (features_by (all_numbers bytes)) → all ≡ both after (features_by (all_numbers rest))
one_number_more bytes rest all before after listed there at is goes-on ids names_only was =
    let others : Features = features_by (all_numbers rest) in
    let list : all_numbers bytes ≡ listed ∷ all_numbers rest
    = first_number bytes there ∙ ap (λ n. n ∷ all_numbers (drop 4 bytes)) (sym is)
    ∙ ap (λ xs. listed ∷ all_numbers xs) (sym at) in
    let more : features_by (listed ∷ all_numbers rest)
    ≡ both (record { ids = listed == 20140508; names_only = listed == 1229867341 }) others = simp goes-on in
    was ∙ ap (λ xs. both before (features_by xs)) list ∙ ap (both before) more
    ∙ ap (λ x. record { ids = x; names_only = before.names_only || ((listed == 1229867341) || others.names_only) })
    (moved before.ids (listed == 20140508) others.ids ∙ ap (λ x. x || others.ids) (sym ids))
    ∙ ap (λ x. record { ids = after.ids || others.ids; names_only = x })
    (moved before.names_only (listed == 1229867341) others.names_only
    ∙ ap (λ x. x || others.names_only) (sym names_only))
