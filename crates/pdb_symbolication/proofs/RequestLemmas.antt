-- What is read inside members and elements, and the elements that are left.
use Rattle.std.proofs.Common.{◌≡◌, ℕ, ◌<◌, ◌≤◌, List, [], ◌∷◌, ◌++◌, length, map, refl, sym, ap, arith, ℤ, pos, negsuc}
use Rattle.std.specs.Prelude.{Result, Ok, Err, string_bytes, ◌≢◌, FitsSigned, None, OkIff, Some, false, suc, true}
use Rattle.std.specs.Prelude.{unsigned_abs, zero}
use Rattle.std.specs.Int.{FitsUnsignedBits}
use Rattle.std.proofs.Common.{of_z, subst, to_z, w64, ◌^◌}
use Rattle.std.proofs.lemmas.Int.{to_z-of_z}
use Rattle.std.specs.Str.{IsUtf8, is_utf8}
use Rattle.std.proofs.lemmas.Str.{IsUtf8-from_is_utf8, is_utf8-from_IsUtf8}
use Rattle.serde_json.specs.Data.{Data}
use Rattle.serde_json.specs.Read.{read}
use Rattle.serde_json.specs.View.{items_view}
use Rattle.serde_json.specs.declared.value.Value.{Value}
use Rattle.pdb_json_values.specs.declared.record_fault.RecordFault.{RecordFault}
use Rattle.pdb_json_values.specs.declared.record_fault.RecordFault.TheVariants as code
use Rattle.pdb_json_values.specs.RecordFault.{Fault, not_json, module_files, shape, out_of_range, module_not_json, ◌>>=◌}
use Rattle.pdb_json_values.specs.RecordFault.{read_inside, Agrees, AgreesBy, IsFaultOf}
use Rattle.pdb_symbolication.specs.RequestValues.{module_at, request_of, request_of_text, two_of}

-- what is read after the elements in front
abbrev pub after : {X : Type 0} → List X → Result (List X) Fault → Result (List X) Fault
after front read = read >>= λ xs. Ok (front ++ xs)

-- a fault is that of a definition, whatever else the definition could read
fault_elsewhere : {X Y : Type 0} (fault : RecordFault) (found : Fault) (here : Result X Fault) (there : Result Y Fault)
    → here ≡ Err found → there ≡ Err found → IsFaultOf fault here → IsFaultOf fault there
fault_elsewhere code.NotJson found here there one other matches =
    let same : found ≡ not_json = cc in rw same at other
fault_elsewhere (code.ModuleFiles wanted given) found here there one other matches =
    let same : found ≡ module_files wanted given = cc in rw same at other
fault_elsewhere (code.Shape path wanted) found here there one other matches =
    let same : found ≡ shape (string_bytes path) (string_bytes wanted) = cc in rw same at other
fault_elsewhere (code.NumberOutOfRange path) found here there one other matches =
    let same : found ≡ out_of_range (string_bytes path) = cc in rw same at other
fault_elsewhere (code.ModuleNotJson path) found here there one other matches =
    let same : found ≡ module_not_json (string_bytes path) = cc in rw same at other
fault_elsewhere code.OutOfMemory found here there one other matches = tt

-- an answer that is this fault, seen in another way
pub ends_as : {X Y : Type 0} (seen : X → Y) (result : Result X RecordFault) (found : Fault) (here : Result X Fault)
    (there : Result Y Fault) → here ≡ Err found → there ≡ Err found → Agrees result here → AgreesBy seen result there
ends_as seen (Ok x) found here there one other agrees = absurd cc
ends_as seen (Err fault) found here there one other agrees = fault_elsewhere fault found here there one other agrees

-- an answer that is this value, seen in another way
stays : {X Y : Type 0} (seen : X → Y) (result : Result X RecordFault) (x : X) (here : Result X Fault)
    → here ≡ Ok x → Agrees result here → AgreesBy seen result (Ok (seen x))
stays seen (Ok y) x here one agrees = let same : x ≡ y = cc in ap (λ it. Ok (seen it)) same
stays seen (Err code.NotJson) x here one agrees = absurd cc
stays seen (Err (code.ModuleFiles wanted given)) x here one agrees = absurd cc
stays seen (Err (code.Shape path wanted)) x here one agrees = absurd cc
stays seen (Err (code.NumberOutOfRange path)) x here one agrees = absurd cc
stays seen (Err (code.ModuleNotJson path)) x here one agrees = absurd cc
stays seen (Err code.OutOfMemory) x here one agrees = tt

-- two results can't both be what a definition reads, where only one of them is a fault of module files
memory_out : {X Y : Type 0} (seen : X → Y) (result : Result X RecordFault) (one other : Result X Fault)
    (there : Result Y Fault) → one ≡ Err not_json → other ≡ Err (module_files 0 0) → Agrees result one
    → Agrees result other → AgreesBy seen result there
memory_out seen (Ok x) one other there first second agrees also = absurd cc
memory_out seen (Err code.NotJson) one other there first second agrees also = absurd cc
memory_out seen (Err (code.ModuleFiles wanted given)) one other there first second agrees also = absurd cc
memory_out seen (Err (code.Shape path wanted)) one other there first second agrees also = absurd cc
memory_out seen (Err (code.NumberOutOfRange path)) one other there first second agrees also = absurd cc
memory_out seen (Err (code.ModuleNotJson path)) one other there first second agrees also = absurd cc
memory_out seen (Err code.OutOfMemory) one other there first second agrees also = tt

module _ {X Y : Type 0} (seen : X → Y) (name : List ℕ) where
  -- a fault of a reader, seen from around the member or element that it reads
  fault_inside : (fault : RecordFault) (result : Result X RecordFault) (read : Result Y Fault)
      → ((from : Result X Fault) → IsFaultOf fault from → Agrees result (read_inside name from))
      → IsFaultOf fault read → AgreesBy seen result (read_inside name read)
  fault_inside code.NotJson result read agrees matches =
      rw matches (ends_as seen result _ _ _ refl refl (agrees (Err not_json) refl))
  fault_inside (code.ModuleFiles wanted given) result read agrees matches =
      rw matches (ends_as seen result _ _ _ refl refl (agrees (Err (module_files wanted given)) refl))
  fault_inside (code.Shape path wanted) result read agrees matches =
      rw matches
      (ends_as seen result _ _ _ refl refl (agrees (Err (shape (string_bytes path) (string_bytes wanted))) refl))
  fault_inside (code.NumberOutOfRange path) result read agrees matches =
      rw matches (ends_as seen result _ _ _ refl refl (agrees (Err (out_of_range (string_bytes path))) refl))
  fault_inside (code.ModuleNotJson path) result read agrees matches =
      rw matches (ends_as seen result _ _ _ refl refl (agrees (Err (module_not_json (string_bytes path))) refl))
  fault_inside code.OutOfMemory result read agrees matches =
      memory_out seen result _ _ _ refl refl (agrees (Err not_json) tt) (agrees (Err (module_files 0 0)) tt)

  -- the answer of a reader, seen in another way, and from around the member or element that it reads
  pub agrees_inside : (answer result : Result X RecordFault) (read : Result Y Fault)
      → ((from : Result X Fault) → Agrees answer from → Agrees result (read_inside name from))
      → AgreesBy seen answer read → AgreesBy seen result (read_inside name read)
  agrees_inside (Ok x) result read agrees matches = rw matches (stays seen result x _ refl (agrees (Ok x) refl))
  agrees_inside (Err fault) result read agrees matches = fault_inside fault result read agrees matches

-- an array of another number of values has no two
pub other_values : (values : List Value) → length values ≢ 2 → two_of (items_view values) ≡ None
other_values [] other = refl
other_values (one ∷ []) other = refl
other_values (one ∷ (two ∷ [])) other = absurd (other refl)
other_values (one ∷ (two ∷ (three ∷ values))) other = refl

-- an index below 0 that isn't -1 stands for no module
pub no_module : (count : ℕ) (index : ℤ) → FitsSigned w64 index
    → (FitsUnsignedBits 64 (to_z w64 (of_z w64 index)) → ⊥) → (of_z w64 index ≡ 18446744073709551615 → ⊥)
    → None ≡ module_at count index
no_module count (negsuc zero) fits fails known = absurd (known refl)
no_module count (negsuc (suc below)) fits fails known = refl
no_module count (pos index) fits fails known =
    let small : index < 2 ^ 63 = fits.sfits in
    absurd (subst (λ (z : ℤ). FitsUnsignedBits 64 z → ⊥) (to_z-of_z w64 (pos index) fits) fails (omega (arith, small)))

-- bytes that are UTF-8 and a JSON text say what its value does
pub text_read : (bytes : List ℕ) (d : Data) → IsUtf8 bytes → read bytes ≡ Some d → request_of_text bytes ≡ request_of d
unfolding request_of_text
text_read bytes d utf8 is_read = rw (is_utf8-from_IsUtf8 bytes utf8, is_read) refl

-- bytes that are no UTF-8, or of which no JSON is read, say nothing
pub text_none : (bytes : List ℕ) → (IsUtf8 bytes → read bytes ≡ None) → request_of_text bytes ≡ Err not_json
unfolding request_of_text
text_none bytes nothing_read =
    elim (is_utf8 bytes) as (λ b. is_utf8 bytes ≡ b → request_of_text bytes ≡ Err not_json) [
      | true ↦ λ e. rw (e, nothing_read (IsUtf8-from_is_utf8 bytes e)) refl
      | false ↦ λ e. rw e refl
    ] refl
