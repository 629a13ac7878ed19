-- Runs between entries that ascend have exactly the addresses that no entry covers.
use Rattle.std.proofs.Common.{◌≡◌, ℕ, ◌≤◌, ◌<◌, Bool, true, false, List, [], ◌∷◌, ◌++◌, refl, arith, inl, inr}
use Rattle.std.proofs.lemmas.Bool.{cases_lt}
use Rattle.std.proofs.lemmas.Bool.Decides.{nat_tests}
use Rattle.std.proofs.lemmas.List.Folds.{list_any-append}
use Rattle.std.specs.List.{list_any}
use Rattle.std.specs.Prelude.{◌&&◌, ◌⊎◌, not, nat_le, nat_lt, min, max, if◌then◌else◌}
use Rattle.pe_image.specs.declared.exception_directory.FunctionEntry.{FunctionEntry}
use Rattle.pe_unwind.specs.LeafCode.{ascend, covers, has, is_empty, run_between, uncovered}
use Rattle.pe_unwind.specs.declared.leaf_code.CodeRun.{CodeRun}

-- a run has the addresses between its ends
run_has : (from to rva : ℕ) → from ≤ rva → rva < to → list_any (has rva) (run_between from to) ≡ true
run_has from to rva behind before =
    let some : nat_lt from to ≡ true = grind (arith, nat_tests) in
    let first : nat_le from rva ≡ true = grind (arith, nat_tests) in
    let last : nat_lt rva to ≡ true = grind (arith, nat_tests) in
    rw some (rw (first, last) refl)

-- a run has no address outside of its ends
run_lacks : (from to rva : ℕ) → (rva < from) ⊎ (to ≤ rva) → list_any (has rva) (run_between from to) ≡ false
run_lacks from to rva outside = by_test (nat_lt from to) where
  run : CodeRun
  run = record { begin = from; end = to }

  lacks : (rva < from) ⊎ (to ≤ rva) → has rva run ≡ false
  lacks (inl before) = grind (arith, nat_tests)
  lacks (inr behind) = grind (arith, nat_tests)

  by_test : (t : Bool) → list_any (has rva) (if t then run ∷ [] else []) ≡ false
  by_test true = rw (lacks outside) refl
  by_test false = refl

-- an entry that covers nothing doesn't count, and another is behind those before it
ascend_behind : (entry : FunctionEntry) (entries : List FunctionEntry) (reach : ℕ) → is_empty entry ≡ false
    → ascend reach (entry ∷ entries) ≡ true → (reach ≤ entry.begin) × (ascend entry.end entries ≡ true)
ascend_behind entry entries reach is order = by_test (nat_le reach entry.begin) refl (simp is at order) where
  by_test : (t : Bool) → nat_le reach entry.begin ≡ t → (t && ascend entry.end entries) ≡ true
      → (reach ≤ entry.begin) × (ascend entry.end entries ≡ true)
  by_test true first others = (grind (arith, nat_tests), others)
  by_test false first others = cc

-- no entry covers an address before the first of them
none_covers : (entries : List FunctionEntry) (reach rva : ℕ) → ascend reach entries ≡ true → rva < reach
    → list_any (covers rva) entries ≡ false
none_covers [] reach rva order before = refl
none_covers (entry ∷ entries) reach rva order before = elim (cases_lt entry.begin entry.end) [
  | inl some ↦
      let is : is_empty entry ≡ false = grind (arith, nat_tests) in
      let ordered = ascend_behind entry entries reach is order in
      let first : nat_le entry.begin rva ≡ false = grind (arith, nat_tests, ordered.0) in
      rw first (none_covers entries entry.end rva ordered.1 (omega (arith, ordered.0)))
  | inr empty ↦
      let is : is_empty entry ≡ true = grind (arith, nat_tests) in
      let others : ascend reach entries ≡ true = simp is at order in
      let first : covers rva entry ≡ false = grind (arith, nat_tests) in
      rw first (none_covers entries reach rva others before)
]

-- runs from an address on have none before it
none_has : (entries : List FunctionEntry) (from to rva : ℕ) → rva < from
    → list_any (has rva) (uncovered from to entries) ≡ false
none_has [] from to rva before = run_lacks from to rva (inl before)
none_has (entry ∷ entries) from to rva before =
    by_test (is_empty entry) (none_has entries from to rva before)
    (none_has entries (max from entry.end) to rva (omega arith)) where
      by_test : (t : Bool) → list_any (has rva) (uncovered from to entries) ≡ false
          → list_any (has rva) (uncovered (max from entry.end) to entries) ≡ false
          → list_any (has rva) (if t then uncovered from to entries else
          run_between from (min entry.begin to) ++ uncovered (max from entry.end) to entries) ≡ false
      by_test true same others = same
      by_test false same others = rw (
        list_any-append (has rva) (run_between from (min entry.begin to)) (uncovered (max from entry.end) to entries),
        run_lacks from (min entry.begin to) rva (inl before),
      ) others

-- by entries that ascend, runs have exactly the addresses that no entry covers
pub runs_have_uncovered : (entries : List FunctionEntry) (reach from to rva : ℕ) → ascend reach entries ≡ true
    → from ≤ rva → rva < to → list_any (has rva) (uncovered from to entries) ≡ not (list_any (covers rva) entries)
runs_have_uncovered [] reach from to rva order behind before = run_has from to rva behind before
runs_have_uncovered (entry ∷ entries) reach from to rva order behind before = elim (cases_lt entry.begin entry.end) [
  | inl some ↦
      let is : is_empty entry ≡ false = grind (arith, nat_tests) in
      let ordered = ascend_behind entry entries reach is order in
      let split = list_any-append (has rva) (run_between from (min entry.begin to))
      (uncovered (max from entry.end) to entries) in
      elim (cases_lt rva entry.begin) [
        | inl early ↦
            let found : list_any (has rva) (run_between from (min entry.begin to)) ≡ true
            = run_has from (min entry.begin to) rva behind (omega arith) in
            let first : nat_le entry.begin rva ≡ false = grind (arith, nat_tests) in
            let others : list_any (covers rva) entries ≡ false
            = none_covers entries entry.end rva ordered.1 (omega arith) in
            rw (is, split, found, first, others) refl
        | inr late ↦
            let lacks : list_any (has rva) (run_between from (min entry.begin to)) ≡ false
            = run_lacks from (min entry.begin to) rva (inr (omega arith)) in
            elim (cases_lt rva entry.end) [
              | inl covered ↦
                  let none : list_any (has rva) (uncovered (max from entry.end) to entries) ≡ false
                  = none_has entries (max from entry.end) to rva (omega arith) in
                  let is_covered : covers rva entry ≡ true = grind (arith, nat_tests) in
                  rw (is, split, lacks, none, is_covered) refl
              | inr passed ↦
                  let others = runs_have_uncovered entries entry.end (max from entry.end) to rva ordered.1
                  (omega arith) before in
                  let is_not : covers rva entry ≡ false = grind (arith, nat_tests) in
                  rw (is, split, lacks, is_not) others
            ]
      ]
  | inr empty ↦
      let is : is_empty entry ≡ true = grind (arith, nat_tests) in
      let others : ascend reach entries ≡ true = simp is at order in
      let is_not : covers rva entry ≡ false = grind (arith, nat_tests) in
      rw (is, is_not) (runs_have_uncovered entries reach from to rva others behind before)
]
