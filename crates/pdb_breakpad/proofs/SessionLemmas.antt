-- The pieces of a session's file.
use Rattle.std.proofs.Common.{◌≡◌, ◌∙◌, ℕ, ◌+◌, ◌^◌, ◌≤◌, ◌<◌, Bool, true, false, List, Option, Some, slice_get}
use Rattle.std.proofs.Common.{get_or, ap, refl, subst, sym, arith}
use Rattle.std.specs.Prelude.{Ok}
use Rattle.std.specs.List.Sorted.{IsStrictlyIncreasing}
use Rattle.std.proofs.lemmas.List.{get_or_default}
use Rattle.std.proofs.lemmas.Option.{get_or_from_slice_get, slice_get_within}
use Rattle.pdb_records.specs.Records.{Records}
use Rattle.pdb_frames.specs.Frame.{FramesInfo}
use Rattle.pdb_addr2line.specs.ContextData.{context_of}
use Rattle.pdb_addr2line.specs.ContextInputs.{ContextInputs}
use Rattle.pdb_addr2line.specs.Lookups.{found_at, frames_at}
use Rattle.pdb_addr2line.specs.NamedFunctions.{named_answer, symbol_name_at}
use Rattle.pdb_known.specs.Known.{infos_of}
use Rattle.pdb_change_points.specs.ChangePoints.{AreChangePoints, LiesInPiece}
use Rattle.pdb_session.specs.Session.{ContextOverPart}
use Rattle.pdb_breakpad.specs.Pieces.{ArePieces, piece_end}
use Rattle.pdb_breakpad.specs.SessionAnswers.{IsAnswerOverAll}

-- an address of a piece lies in it
lies : (points : List ℕ) (position first address : ℕ) → slice_get points position ≡ Some first → first ≤ address
    → address < piece_end points position → address < 2 ^ 32 → LiesInPiece points position address
lies points position first address there from to fits =
    let is : get_or points position 0 ≡ first = get_or_from_slice_get points position first 0 there in
    record {
      listed = slice_get_within points position first there;
      from = omega (arith, is, from);
      below = λ more.
          let next : piece_end points position ≡ get_or points (position + 1) 0
          = get_or_default points (position + 1) (2 ^ 32) 0 more in
          omega (arith, next, to);
      fits = fits;
    }

-- the answer at the first address of a piece is the answer at each of its addresses
same_in_piece : (context : ContextOverPart) (points : List ℕ) → context.known.all ≡ true
    → ((inputs : ContextInputs Records) → context_of context.flags context.known.records ≡ Ok inputs
    → AreChangePoints inputs points)
    → (position first address : ℕ) (answer : Option FramesInfo) → slice_get points position ≡ Some first
    → first ≤ address → address < piece_end points position → address < 2 ^ 32
    → IsAnswerOverAll context first answer → IsAnswerOverAll context address answer
same_in_piece context points all are position first address answer there from to fits is = λ whole inputs part made.
    let own : context_of context.flags context.known.records ≡ Ok inputs
    = subst (λ records. context_of context.flags records ≡ Ok inputs) (sym (part.all all)) made in
    let begins : get_or points position 0 ≡ first = get_or_from_slice_get points position first 0 there in
    let within : LiesInPiece points position address = lies points position first address there from to fits in
    let found : found_at infos_of inputs address ≡ found_at infos_of inputs first
    = (are inputs own).found position address within ∙ ap (found_at infos_of inputs) begins in
    let frames : frames_at infos_of inputs address ≡ frames_at infos_of inputs first
    = (are inputs own).frames position address within ∙ ap (frames_at infos_of inputs) begins in
    let names : symbol_name_at infos_of inputs address ≡ symbol_name_at infos_of inputs first = rw found in
    ap (λ name. named_answer name (frames_at infos_of inputs address)) names
    ∙ ap (named_answer (symbol_name_at infos_of inputs first)) frames ∙ is whole inputs part made

-- the change points of all records of a file begin the pieces of what a session answers
pub pieces_of_session : (context : ContextOverPart) (points : List ℕ) → context.known.all ≡ true
    → ((inputs : ContextInputs Records) → context_of context.flags context.known.records ≡ Ok inputs
    → AreChangePoints inputs points)
    → IsStrictlyIncreasing points × (slice_get points 0 ≡ Some 0)
    → ArePieces IsAnswerOverAll context points
pieces_of_session context points all are order = record {
  from_zero = order.1;
  ascend = order.0;
  same = λ position first address answer there from to fits is.
      same_in_piece context points all are position first address answer there from to fits is;
}

-- what holds where a test passes and where it fails
pub either : {X : Type 0} (test : Bool) → (test ≡ true → X) → (test ≡ false → X) → X
either true passes fails = passes refl
either false passes fails = fails refl
