-- The last of the claims in order of their sizes is the greatest.
use Rattle.std.proofs.Common.{◌≡◌, ◌∙◌, ℕ, Bool, true, false, cond, List, [], ◌∷◌, map, fold, Option, Some, None}
use Rattle.std.proofs.Common.{refl, sym, ap}
use Rattle.std.specs.Prelude.{◌&&◌, nat_lt, option_map, reverse}
use Rattle.std.specs.List.{AllByRecursion}
use Rattle.std.proofs.lemmas.Cmp.{nat_cmp_total}
use Rattle.std.proofs.lemmas.List.Sorted.{ranks_by}
use mathlib.Core.List.{reverse_aux}
use Rattle.pdb_tables.specs.InOrder.{in_order, put}
use Rattle.pdb_tables.specs.Last.{last_over}
use Rattle.pdb_tables.specs.Segments.{painted_in_turn}
use Rattle.pdb_tables.proofs.NumberLemmas.{less_test}
use Rattle.pdb_tables.proofs.SortLemmas.{Rises, none_before, rises_in_order}
use Rattle.pdb_repairs.specs.Claims.{greater_over, has_byte, is_greater, owner, size_of}
use Rattle.pdb_repairs.specs.Intervals.{is_smaller, segment_of}
use Rattle.pdb_repairs.specs.declared.claims.Claim.{Claim}

-- the module of a claim, where there is one
abbrev pub module_index_of : Option Claim → Option ℕ
module_index_of claim = option_map (λ claim. claim.module_index) claim

-- what is painted last over a byte is the module of the last claim over it
pub last_of_painted : (byte : ℕ) (before : Option Claim) (cs : List Claim)
    → painted_in_turn (map segment_of cs) (module_index_of before) byte
    ≡ module_index_of (last_over (has_byte byte) before cs)
last_of_painted byte before [] = refl
last_of_painted byte before (c ∷ cs) =
    ap (λ o. painted_in_turn (map segment_of cs) o byte) (by_test (has_byte byte c))
    ∙ last_of_painted byte (cond (has_byte byte c) (Some c) before) cs
  where
    by_test : (t : Bool) → cond t (Some c.module_index) (module_index_of before)
        ≡ module_index_of (cond t (Some c) before)
    by_test true = refl
    by_test false = refl

-- whether a claim has fewer bytes than another, as a test on numbers
smaller_test : (a b : Claim) → is_smaller a b ≡ nat_lt (size_of a) (size_of b)
smaller_test a b = less_test (size_of a) (size_of b)

-- a claim that isn't greater than what is last stays after it
pub last_stays : (byte : ℕ) (c : Claim) (before : Option Claim) (zs : List Claim)
    → AllByRecursion (λ z. is_smaller z c ≡ false) zs → is_greater before c ≡ false
    → greater_over byte (last_over (has_byte byte) before zs) c ≡ last_over (has_byte byte) before zs
last_stays byte c before [] all least = rw least (by_test (has_byte byte c)) where
  by_test : (t : Bool) → cond (t && false) (Some c) before ≡ before
  by_test true = refl
  by_test false = refl
last_stays byte c before (z ∷ zs) all least =
    by_test (has_byte byte z) (last_stays byte c (Some z) zs all.1 (sym (smaller_test z c) ∙ all.0))
    (last_stays byte c before zs all.1 least)
  where
    Stays : Option Claim → Type 0
    Stays o = greater_over byte (last_over (has_byte byte) o zs) c ≡ last_over (has_byte byte) o zs

    by_test : (t : Bool) → Stays (Some z) → Stays before → Stays (cond t (Some z) before)
    by_test true here rest = here
    by_test false here rest = rest

-- a claim that is painted first lies over nothing that is as great, and over all that is smaller
pub first_of_all : (byte : ℕ) (c : Claim) (before : Option Claim) (zs : List Claim)
    → AllByRecursion (λ z. is_smaller z c ≡ false) zs → is_greater before c ≡ true
    → last_over (has_byte byte) (cond (has_byte byte c) (Some c) before) zs
    ≡ greater_over byte (last_over (has_byte byte) before zs) c
first_of_all byte c before [] all greater = rw greater (by_test (has_byte byte c)) where
  by_test : (t : Bool) → cond t (Some c) before ≡ cond (t && true) (Some c) before
  by_test true = refl
  by_test false = refl
first_of_all byte c before (z ∷ zs) all greater =
    by_test (has_byte byte z) (last_stays byte c (Some z) zs all.1 (sym (smaller_test z c) ∙ all.0))
    (first_of_all byte c before zs all.1 greater)
  where
    First : Option Claim → Option Claim → Type 0
    First above below = last_over (has_byte byte) above zs ≡ greater_over byte (last_over (has_byte byte) below zs) c

    by_test : (t : Bool)
        → greater_over byte (last_over (has_byte byte) (Some z) zs) c ≡ last_over (has_byte byte) (Some z) zs
        → First (cond (has_byte byte c) (Some c) before) before
        → First (cond t (Some z) (cond (has_byte byte c) (Some c) before)) (cond t (Some z) before)
    by_test true here rest = sym here
    by_test false here rest = rest

-- a claim that is put in its place among claims in order is over a byte where it is greater than all over it
pub last_put : (byte : ℕ) (c : Claim) (before : Option Claim) (ys : List Claim) → Rises is_smaller ys
    → is_greater before c ≡ true → last_over (has_byte byte) before (put is_smaller c ys)
    ≡ greater_over byte (last_over (has_byte byte) before ys) c
last_put byte c before [] up greater = first_of_all byte c before [] tt greater
last_put byte c before (y ∷ ys) up greater =
    by_test (is_smaller y c) refl
    (λ is. last_put byte c (cond (has_byte byte y) (Some y) before) ys up.1 (by_byte (has_byte byte y) is))
  where
    by_byte : (t : Bool) → is_smaller y c ≡ true → is_greater (cond t (Some y) before) c ≡ true
    by_byte true is = sym (smaller_test y c) ∙ is
    by_byte false is = greater

    Put : List Claim → Type 0
    Put cs = last_over (has_byte byte) before cs ≡ greater_over byte (last_over (has_byte byte) before (y ∷ ys)) c

    by_test : (t : Bool) → is_smaller y c ≡ t → (is_smaller y c ≡ true → Put (y ∷ put is_smaller c ys))
        → Put (cond t (y ∷ put is_smaller c ys) (c ∷ y ∷ ys))
    by_test true is rest = rest is
    by_test false is rest =
        first_of_all byte c before (y ∷ ys)
        (is, none_before (ranks_by nat_cmp_total size_of) c y ys is up.0) greater

-- of claims in order, where they are taken last to first, the last over a byte is the greatest
pub last_in_order : (byte : ℕ) (cs done : List Claim)
    → last_over (has_byte byte) None (in_order is_smaller (reverse_aux cs done))
    ≡ fold (greater_over byte) (last_over (has_byte byte) None (in_order is_smaller done)) cs
last_in_order byte [] done = refl
last_in_order byte (c ∷ cs) done =
    last_in_order byte cs (c ∷ done) ∙ ap (λ o. fold (greater_over byte) o cs)
    (last_put byte c None (in_order is_smaller done) (rises_in_order (ranks_by nat_cmp_total size_of) done) refl)

-- the claims in order of their sizes, painted in turn, give each byte its owner
pub owner_painted : (claims sorted : List Claim) (byte : ℕ) → sorted ≡ in_order is_smaller (reverse claims)
    → painted_in_turn (map segment_of sorted) None byte ≡ owner claims byte
owner_painted claims sorted byte is =
    last_of_painted byte None sorted
    ∙ ap module_index_of (ap (λ cs. last_over (has_byte byte) None cs) is ∙ last_in_order byte claims [])
