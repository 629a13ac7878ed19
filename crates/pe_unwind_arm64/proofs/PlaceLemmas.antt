-- Places by the caller's stack pointer.
use Rattle.std.proofs.Common.{◌≡◌, ◌<◌, ◌^◌, ℕ, Bool, true, false, cond, Some, refl, ap, ◌∙◌, arith}
use Rattle.pe_unwind_arm64.proofs.RecordLemmas.{base_sound}
use Rattle.pe_unwind_arm64.specs.CfiRecords.{place_by, place_known, same_base}
use Rattle.pe_unwind_arm64.specs.Rules.{less}
use Rattle.pe_unwind_arm64.specs.declared.cfi_records.RegisterRule.TheVariants.{At, BelowCfa}
use Rattle.pe_unwind_arm64.specs.declared.rules.RegisterOffset.{RegisterOffset}

-- what is so far below an address as another is that other
less_less : (a b : ℕ) → a < 2 ^ 64 → b < 2 ^ 64 → less a (less a b) ≡ b
less_less a b a_fits b_fits = omega arith

-- a record keeps a place
pub place_kept : (cfa place : RegisterOffset) → cfa.offset < 2 ^ 64 → place.offset < 2 ^ 64
    → place_known cfa (place_by cfa place) ≡ Some place
place_kept cfa place fits place_fits = by_test (same_base cfa place) refl
  where
    by_test : (t : Bool) → same_base cfa place ≡ t
        → place_known cfa (cond t (BelowCfa (less cfa.offset place.offset)) (At place)) ≡ Some place
    by_test true is =
        ap (λ x. Some (record { base = x; offset = less cfa.offset (less cfa.offset place.offset) }))
        (base_sound cfa.base place.base is)
        ∙ ap (λ x. Some (record { base = place.base; offset = x }))
        (less_less cfa.offset place.offset fits place_fits)
    by_test false is = refl
