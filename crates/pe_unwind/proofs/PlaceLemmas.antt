-- Places by the caller's stack pointer.
use Rattle.std.proofs.Common.{◌≡◌, ◌<◌, ◌^◌, ℕ, Bool, true, false, cond, Some, refl, ap, ◌∙◌, arith}
use Rattle.pe_unwind.proofs.RecordLemmas.{register_sound}
use Rattle.pe_unwind.specs.CfiRecords.{CfaFits, place_by, place_known, same_register}
use Rattle.pe_unwind.specs.Rules.{less}
use Rattle.pe_unwind.specs.declared.cfi_records.RegisterRule.TheVariants.{At, BelowCfa}
use Rattle.pe_unwind.specs.declared.rules.Cfa.{Cfa}
use Rattle.pe_unwind.specs.declared.rules.Cfa.TheVariants.{Loaded, Sum}
use Rattle.pe_unwind.specs.declared.rules.RegisterOffset.{RegisterOffset}

-- what is so far below an address as another is that other
less_less : (a b : ℕ) → a < 2 ^ 64 → b < 2 ^ 64 → less a (less a b) ≡ b
less_less a b a_fits b_fits = omega arith

-- a record keeps a place
pub place_kept : (cfa : Cfa) (place : RegisterOffset) → CfaFits cfa → place.offset < 2 ^ 64
    → place_known cfa (place_by cfa place) ≡ Some place
place_kept (Loaded top) place fits place_fits = refl
place_kept (Sum top) place fits place_fits = by_test (same_register top.register place.register) refl
  where
    by_test : (t : Bool) → same_register top.register place.register ≡ t
        → place_known (Sum top) (cond t (BelowCfa (less top.offset place.offset)) (At place)) ≡ Some place
    by_test true is =
        ap (λ x. Some (record { register = x; offset = less top.offset (less top.offset place.offset) }))
        (register_sound top.register place.register is)
        ∙ ap (λ x. Some (record { register = place.register; offset = x }))
        (less_less top.offset place.offset fits place_fits)
    by_test false is = refl
