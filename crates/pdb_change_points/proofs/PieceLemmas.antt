-- Lists of change points in ascending order, and the pieces that they cut the addresses into.
use Rattle.std.proofs.Common.{◌≡◌, ◌≢◌, ℕ, zero, suc, ◌+◌, ◌<◌, ◌≤◌, List, [], ◌∷◌, length, refl, ap, sym}
use Rattle.std.proofs.Common.{inl, inr, arith}
use Rattle.std.specs.Prelude.{◌⊎◌, Some, Result, Ok, Err, IfOk, IfErr, MatchResult, Contains}
use Rattle.std.specs.Prelude.{option_and_then, slice_get, slice_index, slice_index_or}
use Rattle.std.specs.List.Sorted.{IsStrictlyIncreasing}
use Rattle.std.proofs.lemmas.Bool.{cases_lt, cases_eq}
use Rattle.std.proofs.lemmas.List.{get_or_read}
use Rattle.std.proofs.lemmas.List.Kept.{AllPairs-from_increasing}
use Rattle.pdb_errors.specs.declared.error.Error.{Error}
use Rattle.pdb_errors.specs.declared.error.Error.TheVariants.{OutOfMemory}
use Rattle.pdb_records.specs.Records.{Records}
use Rattle.pdb_function_info.specs.NameTexts.{symbol_name}
use Rattle.pdb_addr2line.specs.ContextInputs.{ContextInputs}
use Rattle.pdb_change_points.specs.ChangePoints.{change_points, AreChangePoints, LiesInPiece, NoneBetween}
use Rattle.pdb_change_points.specs.UniqueNumbers.{HaveSameMembers}
use Rattle.pdb_change_points.proofs.LawLemmas.{contribution_same, found_same, frames_same}

-- of numbers that ascend, one is at most a later one
no_later : (points : List ℕ) → IsStrictlyIncreasing points → (i j : ℕ) → i ≤ j → j < length points
    → slice_index points i ≤ slice_index points j
no_later points ascend i j le listed = elim (cases_eq i j) [
  | inl e ↦ let same : slice_index points i ≡ slice_index points j = ap (slice_index points) e in omega arith
  | inr other ↦
      let below : i < j = omega arith in
      let h : slice_index points i < slice_index points j =
      AllPairs-from_increasing points ascend i j 0 below listed in omega arith
]

-- a list with the members of another one has its first
pub has_first : (points : List ℕ) (first : ℕ) (rest : List ℕ) → HaveSameMembers points (first ∷ rest)
    → Contains points first
unfolding HaveSameMembers
has_first points first rest members =
    let listed : 0 < length (first ∷ rest) = omega arith in (members first).1 (0, listed, refl)

-- the first of numbers that ascend is 0, where 0 is among them
pub first_is_0 : (points : List ℕ) → IsStrictlyIncreasing points → Contains points 0 → slice_get points 0 ≡ Some 0
first_is_0 [] ascend (k, listed, at) = absurd (omega arith)
first_is_0 (point ∷ points) ascend (zero, listed, at) = ap Some at
first_is_0 (point ∷ points) ascend (suc k, listed, at) =
    absurd (let positive : 0 < suc k = omega arith in
    let h : point < slice_index_or (point ∷ points) (suc k) 0 =
    AllPairs-from_increasing (point ∷ points) ascend 0 (suc k) 0 positive listed in omega (arith, h, at))

-- none of the numbers lies above the start of a piece and at or below an address in it
none_in_piece : (points : List ℕ) → IsStrictlyIncreasing points → (position address : ℕ)
    → LiesInPiece points position address → NoneBetween points (slice_index points position) address
none_in_piece points ascend position address lies point (k, listed, at) above =
    let is : point ≡ slice_index points k = get_or_read points k point listed (sym at) 0 in
    elim (cases_lt position k) [
      | inl behind ↦
          let next : position + 1 ≤ k = omega arith in
          let inside : position + 1 < length points = omega arith in
          let below = lies.below inside in
          let h = no_later points ascend (position + 1) k next listed in omega arith
      | inr ahead ↦
          let h = no_later points ascend k position ahead lies.listed in absurd (omega arith)
    ]

-- none of the change points of a context lies there, where the numbers have its change points as members
none_of_members : (s : ContextInputs Records) (points : List ℕ) → IsStrictlyIncreasing points
    → HaveSameMembers points (change_points s) → (position address : ℕ) → LiesInPiece points position address
    → NoneBetween (change_points s) (slice_index points position) address
unfolding HaveSameMembers
none_of_members s points ascend members position address lies = λ point listed.
    none_in_piece points ascend position address lies point ((members point).1 listed)

-- numbers that ascend, with the members of the change points of a context, are its change points
have_change_points : (s : ContextInputs Records) (points : List ℕ) → IsStrictlyIncreasing points
    → HaveSameMembers points (change_points s) → AreChangePoints s points
have_change_points s points ascend members = record {
  members = members;
  contributions = λ position address lies. sym (contribution_same s (slice_index points position) address lies.from
      lies.fits (none_of_members s points ascend members position address lies));
  found = λ position address lies. sym (found_same s (slice_index points position) address lies.from lies.fits
      (none_of_members s points ascend members position address lies));
  names = λ position address lies. sym (ap (option_and_then symbol_name)
      (found_same s (slice_index points position) address lies.from lies.fits
      (none_of_members s points ascend members position address lies)));
  frames = λ position address lies. sym (frames_same s (slice_index points position) address lies.from lies.fits
      (none_of_members s points ascend members position address lies));
}

-- an error says that memory ran out, or it says something else
memory_or_not : (e : Error) → (e ≡ OutOfMemory) ⊎ (e ≢ OutOfMemory)
memory_or_not OutOfMemory = inl refl
memory_or_not e = inr (λ same. cc)

-- a context's change points in a list, or want of memory, where merged contributions are refused for nothing else
pub answered : {V M : Type 0} (items : V → List ℕ) (s : ContextInputs Records) (result : Result V Error)
    (merged : Result M Error) → ((e : Error) → merged ≡ Err e → ⊥)
    → IfOk result (λ v. IsStrictlyIncreasing (items v) × (slice_get (items v) 0 ≡ Some 0))
    → IfOk result (λ v. HaveSameMembers (items v) (change_points s))
    → IfErr result (λ e. e ≢ OutOfMemory → merged ≡ Err e)
    → MatchResult result (λ v. AreChangePoints s (items v)) (λ e. e ≡ OutOfMemory)
answered items s (Ok v) merged never order members refused = have_change_points s (items v) order.0 members
answered items s (Err e) merged never order members refused = elim (memory_or_not e) [
  | inl memory ↦ memory
  | inr other ↦ absurd (never e (refused other))
]
