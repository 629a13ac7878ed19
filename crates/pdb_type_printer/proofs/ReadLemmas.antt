-- What was read, and what was not.
use Rattle.std.proofs.Common.{◌≡◌, ℕ, true, false, cond, nat_eq, [], ◌∷◌, inl, inr, refl}
use Rattle.std.specs.Prelude.{Option, Some, None, Result, Ok, Err}
use Rattle.pdb_records.specs.declared.types.TypeIndex.{TypeIndex}
use Rattle.pdb_records.specs.declared.types.TypeData.{TypeData}
use Rattle.pdb_records.specs.declared.types.TypeData.TheVariants.{Pointer}
use Rattle.pdb_records.specs.declared.ids.IdData.{IdData}
use Rattle.pdb_type_texts.specs.declared.this.ThisParameter.{ThisParameter}
use Rattle.pdb_type_texts.specs.Methods.{plain_this, this_by_target, this_by_type, this_of}
use Rattle.pdb_errors.specs.declared.error.Error.{Error}
use Rattle.pdb_types.specs.declared.read_error.Part.{Part}
use Rattle.pdb_types.specs.declared.read_error.ReadError.{ReadError}
use Rattle.pdb_types.specs.declared.read_error.ReadError.TheVariants as code
use Rattle.pdb_errors.specs.Errors.{error_view}
use Rattle.pdb_types.specs.FailedParts.{Parts, with_part, with_met}
use Rattle.pdb_errors.specs.Outcomes.{and_then}
use Rattle.pdb_types.specs.ReadError.{ReadErrorView, Broken, Matches}
use Rattle.pdb_type_printer.specs.ReadErrorViews.{IsViewOf}
use Rattle.pdb_type_texts.specs.BrokenParts.{IsBroken, AddsBroken}
use Rattle.pdb_type_texts.specs.PrintInputs.{PrintInputs}

-- the view of the read error of what can't be read
matches-view : {A B : Type 0} (view : A → B) (read_error : ReadError) (read_error_view : ReadErrorView)
    (r : Result B ReadErrorView) → Matches view (Err read_error) r → IsViewOf read_error read_error_view
    → r ≡ Err read_error_view
matches-view view code.OutOfMemory read_error_view r matches is = absurd is
matches-view view _ read_error_view r matches is = rw is matches

-- why something can't be read, as the answer of a definition
pub read_error-is : {B : Type 0} (r : Result B ReadErrorView) (read_error : ReadError)
    (read_error_view : ReadErrorView) → Matches {A = B} (λ b. b) (Err read_error) r
    → IsViewOf read_error read_error_view → r ≡ Err read_error_view
read_error-is {B = B} r read_error read_error_view matches is =
    matches-view {A = B} (λ b. b) read_error read_error_view r matches is

-- a part that reading an index meets broken is broken
pub read_error-broken : (w : PrintInputs) (index : ℕ) (read_error : ReadError)
    → Matches {A = TypeData} (λ t. t) (Err read_error) (w.read index) → (part : Part) (e : Error)
    → read_error ≡ code.Broken part e → IsBroken w part
read_error-broken w index read_error matches part e broken =
    let met = read_error-is (w.read index) read_error (Broken part (error_view e)) matches (rw broken refl) in
    (index, inl (rw met refl))

-- a part that reading an id meets broken is broken
pub read_error-id-broken : (w : PrintInputs) (index : ℕ) (read_error : ReadError)
    → Matches {A = IdData} (λ i. i) (Err read_error) (w.read_id index) → (part : Part) (e : Error)
    → read_error ≡ code.Broken part e → IsBroken w part
read_error-id-broken w index read_error matches part e broken =
    let met = read_error-is (w.read_id index) read_error (Broken part (error_view e)) matches (rw broken refl) in
    (index, inr (inr (rw met refl)))

-- no part was added
pub adds_none : {w : PrintInputs} {old new : Parts} → new ≡ old → AddsBroken w old new
adds_none is = record { added = []; broken = tt; is = is }

-- one broken part was added
pub adds_one : {w : PrintInputs} {old new : Parts} (part : Part) → IsBroken w part → new ≡ with_part old part
    → AddsBroken w old new
adds_one part broken is = record { added = part ∷ []; broken = (broken, tt); is = is }

-- the part that a size meets broken was added, if there is one
pub adds_met : {old new : Parts} (w : PrintInputs) (index : ℕ) (met : Option Part) → (w.size index).met ≡ met
    → new ≡ with_met old met → AddsBroken w old new
adds_met w index None is new = adds_none new
adds_met w index (Some part) is new = adds_one part (index, inr (inl is)) new

-- an answer is no view of a read error
ok_is_no_err : {A : Type 0} {answer : A} {read_error_view : ReadErrorView}
    → ◌≡◌ {A = Result A ReadErrorView} (Ok answer) (Err read_error_view) → ⊥
ok_is_no_err e = cc

-- where what follows a reading can't be read, the reading can't
then-read_error : {A B : Type 0} (r : Result A ReadErrorView) (next : A → B) (read_error_view : ReadErrorView)
    → and_then r (λ answer. Ok (next answer)) ≡ Err read_error_view → r ≡ Err read_error_view
then-read_error (Ok answer) next read_error_view e = absurd (ok_is_no_err e)
then-read_error (Err t) next read_error_view e = cc

-- where what `this` shows can't be read, the type of some index can't
pub this_by_type-read_error : (w : PrintInputs) (class this : TypeIndex) (type : TypeData)
    (read_error_view : ReadErrorView) → this_by_type w class this type ≡ Err read_error_view
    → (index : ℕ) × (w.read index ≡ Err read_error_view)
this_by_type-read_error w class this (Pointer p) read_error_view is =
    (elim (nat_eq p.underlying_type.0 class.0) as (λ b. cond b (Ok (plain_this false))
    (and_then (w.read p.underlying_type.0) (λ target. Ok (this_by_target class this target))) ≡ Err read_error_view
    → (index : ℕ) × (w.read index ≡ Err read_error_view)) [
      | true ↦ λ e. absurd (ok_is_no_err e)
      | false ↦ λ e. (p.underlying_type.0, then-read_error (w.read p.underlying_type.0) _ read_error_view e)
    ]) is
this_by_type-read_error w class this _ read_error_view is = absurd (ok_is_no_err is)

-- the same, for a method that may have no `this`
pub this-read_error : (w : PrintInputs) (class : TypeIndex) (this : Option TypeIndex)
    (read_error_view : ReadErrorView) → this_of w class this ≡ Err read_error_view
    → (index : ℕ) × (w.read index ≡ Err read_error_view)
this-read_error w class None read_error_view is = absurd (ok_is_no_err is)
this-read_error w class (Some this) read_error_view is =
    (elim (w.read this.0) as (λ r. w.read this.0 ≡ r → and_then r (this_by_type w class this) ≡ Err read_error_view
    → (index : ℕ) × (w.read index ≡ Err read_error_view)) [
      | Ok type ↦ λ read e. this_by_type-read_error w class this type read_error_view e
      | Err t ↦ λ read e. (this.0, cc)
    ]) refl is

-- a part that reading `this` meets broken is broken
pub this-broken : (w : PrintInputs) (class : TypeIndex) (this : Option TypeIndex) (read_error : ReadError)
    → Matches {A = ThisParameter} (λ this. this) (Err read_error) (this_of w class this) → (part : Part) (e : Error)
    → read_error ≡ code.Broken part e → IsBroken w part
this-broken w class this read_error matches part e broken =
    let met = this-read_error w class this (Broken part (error_view e))
    (read_error-is (this_of w class this) read_error (Broken part (error_view e)) matches (rw broken refl)) in
    (met.0, inl (rw met.1 refl))
