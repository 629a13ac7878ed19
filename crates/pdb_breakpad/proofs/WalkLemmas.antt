-- What a reader is shown of functions, as a walk goes on.
use Rattle.std.proofs.Common.{◌≡◌, ℕ, ◌+◌, ◌^◌, ◌≤◌, ◌<◌, List, [], ◌∷◌, ◌++◌, Option, Some, None}
use Rattle.std.proofs.Common.{get_or, length, refl, sym, subst, inl, inr, arith}
use Rattle.std.specs.Option.{option_to_list, IfSome}
use Rattle.std.specs.Io.KnownBytes.{Appends}
use Rattle.std.specs.List.{All, flat_map}
use Rattle.std.proofs.KnownBytes.{Appends-nil, Appends-trans}
use Rattle.std.proofs.lemmas.Bool.{cases_lt}
use Rattle.std.proofs.lemmas.Grind.{flat_map-append}
use Rattle.std.proofs.lemmas.List.{append-nil, get_or_default, get_or_past}
use Rattle.std.proofs.lemmas.List.Elements.{All-append, All-nil}
use Rattle.pdb_frames.specs.Frame.{FramesInfo}
use Rattle.pdb_tables.specs.declared.segment.Segment.{Segment}
use Rattle.pdb_breakpad.specs.declared.function_records.FunctionRecords.{FunctionRecords}
use Rattle.pdb_breakpad.specs.declared.record_numbers.Numbers.{Numbers}
use Rattle.pdb_breakpad.specs.FrameSource.{KeepsAnswers}
use Rattle.pdb_breakpad.specs.FunctionRecords.{Reads}
use Rattle.pdb_breakpad.specs.FunctionWalk.{Begins, GoesOn, IsAnswer, IsNext, IsOpen, IsWalked}
use Rattle.pdb_breakpad.specs.FunctionWalk.{ReadsAnswer, Shows, ShowsOver, StandBetween, StepsOver, WritesFunctions}
use Rattle.pdb_breakpad.specs.FunctionWalk.{function_over, turned}
use Rattle.pdb_breakpad.specs.FunctionTexts.{function_text}
use Rattle.pdb_breakpad.specs.NumberedCode.{KeepsAllNames}
use Rattle.pdb_breakpad.specs.Pieces.{ArePieces, piece_end}
use Rattle.pdb_breakpad.specs.ShownFrames.{answer_shown}
use Rattle.pdb_breakpad.specs.WrittenRecords.{AreReadable}
use Rattle.pdb_breakpad.proofs.FunctionLemmas.{none_over, over_before, over_first, over_last, over_still, shows_still}
use Rattle.pdb_breakpad.proofs.FunctionLemmas.{stand_pushed, stand_up_to}
use Rattle.pdb_breakpad.proofs.FunctionRecordLemmas.{keeps_code, still_reads}

-- records that are not at their end stay so, once more names have numbers
open_still : (old new : Numbers) (next : ℕ) (walked : Option FunctionRecords) → KeepsAllNames old new
    → IfSome walked (IsOpen old next) → IfSome walked (IsOpen new next)
open_still old new next None keeps is = is
open_still old new next (Some f) keeps is = record {
  some = is.some;
  follows = is.follows;
  order = is.order;
  numbered = keeps_code old new f.code _ keeps is.numbered;
}

-- what is shown of the function that is walked stays, once more names have numbers
walked_still : {S : Type 0} (answers : S → ℕ → Option FramesInfo → Type 0) (source : S) (old new : Numbers)
    (walked : Option FunctionRecords) → KeepsAllNames old new
    → IfSome walked (λ f. (a : ℕ) → f.start ≤ a → a ≤ f.last → Shows answers source old f a)
    → IfSome walked (λ f. (a : ℕ) → f.start ≤ a → a ≤ f.last → Shows answers source new f a)
walked_still answers source old new None keeps is = is
walked_still answers source old new (Some f) keeps is = λ a from to.
    shows_still answers source old new f a keeps (is a from to)

-- a walk stands where it stood, once more names have numbers
renumbered : {S : Type 0} (parameters : List (Segment ℕ)) (answers : S → ℕ → Option FramesInfo → Type 0) (source : S)
    (old new : Numbers) (next : ℕ)
    (walked : Option FunctionRecords) (before after : Option (List ℕ)) → KeepsAllNames old new
    → IsWalked parameters answers source old next walked before after
    → IsWalked parameters answers source new next walked before after
renumbered parameters answers source old new next walked before after keeps is = record {
  functions = is.functions;
  stand = is.stand;
  right = λ a below. over_still answers source old new a (function_over a is.functions) keeps (is.right a below);
  goes_on = open_still old new next walked keeps is.goes_on;
  shows = walked_still answers source old new walked keeps is.shows;
  readable = is.readable;
  written = is.written;
}

-- texts of functions, and those of more after them
more_texts : (parameters : List (Segment ℕ)) (functions more : List FunctionRecords)
    (before middle after : Option (List ℕ))
    → Appends before middle (flat_map (function_text parameters) functions)
    → Appends middle after (flat_map (function_text parameters) more)
    → Appends before after (flat_map (function_text parameters) (functions ++ more))
more_texts parameters functions more before middle after written next =
    subst (Appends before after) (sym (flat_map-append (function_text parameters) functions more))
    (Appends-trans before middle after (flat_map (function_text parameters) functions)
    (flat_map (function_text parameters) more) written next)

-- all names keep their numbers where no name is given one
kept : (numbers : Numbers) → KeepsAllNames numbers numbers
kept numbers = ((λ number name is. is), (λ number name is. is))

-- where nothing more is written, what was written stays
nothing_more : {S : Type 0} (parameters : List (Segment ℕ)) (answers : S → ℕ → Option FramesInfo → Type 0) (source : S)
    (numbers : Numbers) (next : ℕ)
    (walked : Option FunctionRecords) (before middle after : Option (List ℕ))
    → IsWalked parameters answers source numbers next walked before middle → Appends middle after []
    → IsWalked parameters answers source numbers next walked before after
nothing_more parameters answers source numbers next walked before middle after is nothing = record {
  functions = is.functions;
  stand = is.stand;
  right = is.right;
  goes_on = is.goes_on;
  shows = is.shows;
  readable = is.readable;
  written = subst (Appends before after) (append-nil (flat_map (function_text parameters) is.functions))
      (Appends-trans before middle after (flat_map (function_text parameters) is.functions) [] is.written nothing);
}

-- the function that was walked ends, and its text is written
ends : {S : Type 0} (parameters : List (Segment ℕ)) (answers : S → ℕ → Option FramesInfo → Type 0) (source : S)
    (numbers : Numbers) (next : ℕ)
    (f : FunctionRecords) (before middle after : Option (List ℕ))
    → IsWalked parameters answers source numbers next (Some f) before middle
    → All (AreReadable parameters) (f ∷ []) → Appends middle after (flat_map (function_text parameters) (f ∷ []))
    → IsWalked parameters answers source numbers next None before after
ends parameters answers source numbers next f before middle after is readable written = record {
  functions = is.functions ++ f ∷ [];
  stand = stand_pushed 0 next is.functions f is.stand is.goes_on.some is.goes_on.follows;
  right = λ a below. elim (cases_lt a f.start) [
    | inl first ↦
        subst (ShowsOver answers source numbers a) (sym (over_before a is.functions f first)) (is.right a first)
    | inr begins ↦
        let to : a ≤ f.last = omega (arith, below, is.goes_on.follows) in
        subst (ShowsOver answers source numbers a) (sym (over_last a 0 is.functions f is.stand begins to))
        (is.shows a begins to)
  ];
  goes_on = _;
  shows = _;
  readable = All-append (AreReadable parameters) is.functions (f ∷ []) is.readable readable;
  written = more_texts parameters is.functions (f ∷ []) before middle after is.written written;
}

-- the same, where one may have been walked
ends_any : {S : Type 0} (parameters : List (Segment ℕ)) (answers : S → ℕ → Option FramesInfo → Type 0) (source : S)
    (numbers : Numbers) (next : ℕ)
    (walked : Option FunctionRecords) (before middle after : Option (List ℕ))
    → IsWalked parameters answers source numbers next walked before middle
    → All (AreReadable parameters) (option_to_list walked)
    → Appends middle after (flat_map (function_text parameters) (option_to_list walked))
    → IsWalked parameters answers source numbers next None before after
ends_any parameters answers source numbers next None before middle after is readable written =
    nothing_more parameters answers source numbers next None before middle after is written
ends_any parameters answers source numbers next (Some f) before middle after is readable written =
    ends parameters answers source numbers next f before middle after is readable written

-- the function over a piece goes on from what was walked before
continues : {S : Type 0} (parameters : List (Segment ℕ)) (answers : S → ℕ → Option FramesInfo → Type 0)
    (origin source : S) (numbers : Numbers)
    (first last : ℕ) (f g : FunctionRecords) (before after : Option (List ℕ)) → KeepsAnswers answers origin source
    → ((a : ℕ) (answer : Option FramesInfo) → first ≤ a → a ≤ last → answers origin first answer
    → answers origin a answer)
    → IsWalked parameters answers origin numbers first (Some f) before after → GoesOn f g last
    → ReadsAnswer answers source numbers first last (Some g) → IsOpen numbers (last + 1) g
    → IsWalked parameters answers origin numbers (last + 1) (Some g) before after
continues parameters answers origin source numbers first last f g before after keeps same is on read goes_on = record {
  functions = is.functions;
  stand = subst (λ start. StandBetween 0 start is.functions) (sym on.start) is.stand;
  right = λ a below. is.right a (omega (arith, below, on.start));
  goes_on = goes_on;
  shows = λ a from to. elim (cases_lt f.last a) [
    | inl behind ↦
        let begins : first ≤ a = omega (arith, behind, is.goes_on.follows) in
        let within_it : a ≤ last = omega (arith, to, on.ends) in (
          read.0,
          same a (Some read.0) begins within_it ((keeps first (Some read.0)).0 read.1),
          read.2 a begins within_it,
        )
    | inr known ↦
        let from_start : f.start ≤ a = omega (arith, from, on.start) in
        let shown : Shows answers origin numbers f a = is.shows a from_start known in (
          shown.0,
          shown.1,
          still_reads numbers numbers f g a (answer_shown (turned shown.0)) (kept numbers) on.name
              (on.same a known).0 (on.same a known).1 shown.2,
        )
  ];
  readable = is.readable;
  written = is.written;
}

-- where no function was walked, the one over a piece begins there, if there is one
begins : {S : Type 0} (parameters : List (Segment ℕ)) (answers : S → ℕ → Option FramesInfo → Type 0) (origin source : S)
    (numbers : Numbers)
    (first last : ℕ) (next : Option FunctionRecords) (before after : Option (List ℕ)) → first ≤ last
    → KeepsAnswers answers origin source
    → ((a : ℕ) (answer : Option FramesInfo) → first ≤ a → a ≤ last → answers origin first answer
    → answers origin a answer)
    → IsWalked parameters answers origin numbers first None before after → Begins first last next
    → ReadsAnswer answers source numbers first last next → IfSome next (IsOpen numbers (last + 1))
    → IsWalked parameters answers origin numbers (last + 1) next before after
begins parameters answers origin source numbers first last None before after some keeps same is starts read goes_on =
    record {
      functions = is.functions;
      stand = stand_up_to 0 first (last + 1) is.functions (omega (arith, some)) is.stand;
      right = λ a below. elim (cases_lt a first) [
        | inl known ↦ is.right a known
        | inr behind ↦
            subst (ShowsOver answers origin numbers a) (sym (none_over a 0 first is.functions is.stand behind))
            (same a None behind (omega (arith, below)) ((keeps first None).0 read))
      ];
      goes_on = _;
      shows = _;
      readable = is.readable;
      written = is.written;
    }
begins parameters answers origin source numbers first last (Some g) before after some keeps same is starts read goes_on
    = record {
      functions = is.functions;
      stand = subst (λ start. StandBetween 0 start is.functions) (sym starts.0) is.stand;
      right = λ a below. is.right a (omega (arith, below, starts.0));
      goes_on = goes_on;
      shows = λ a from to.
          let begins_at : first ≤ a = omega (arith, from, starts.0) in
          let ends_at : a ≤ last = omega (arith, to, starts.1) in (
            read.0,
            same a (Some read.0) begins_at ends_at ((keeps first (Some read.0)).0 read.1),
            read.2 a begins_at ends_at,
          );
      readable = is.readable;
      written = is.written;
    }

-- a piece more was walked, where the function that was walked before ends with it or went on
goes_over : {S : Type 0} (parameters : List (Segment ℕ)) (answers : S → ℕ → Option FramesInfo → Type 0)
    (origin source : S) (numbers : Numbers)
    (first last : ℕ) (walked next : Option FunctionRecords) (ended : List FunctionRecords)
    (before middle after : Option (List ℕ)) → first ≤ last
    → KeepsAnswers answers origin source
    → ((a : ℕ) (answer : Option FramesInfo) → first ≤ a → a ≤ last → answers origin first answer
    → answers origin a answer)
    → IsWalked parameters answers origin numbers first walked before middle
    → All (AreReadable parameters) ended → Appends middle after (flat_map (function_text parameters) ended)
    → IsNext first last walked next ended
    → ReadsAnswer answers source numbers first last next → IfSome next (IsOpen numbers (last + 1))
    → IsWalked parameters answers origin numbers (last + 1) next before after
goes_over parameters answers origin source numbers first last walked next ended before middle after some keeps same is
    readable
    written (inr anew) read goes_on =
    begins parameters answers origin source numbers first last next before after some keeps same
    (ends_any parameters answers origin numbers first walked before middle after is
    (subst (All (AreReadable parameters)) anew.0 readable)
    (subst (λ list. Appends middle after (flat_map (function_text parameters) list)) anew.0 written))
    anew.1 read goes_on
goes_over parameters answers origin source numbers first last (Some f) (Some g) [] before middle after some keeps same
    is readable
    written (inl on) read goes_on =
    continues parameters answers origin source numbers first last f g before after keeps same
    (nothing_more parameters answers origin numbers first (Some f) before middle after is written) on read goes_on
goes_over parameters answers origin source numbers first last None next ended before middle after some keeps same is
    readable
    written (inl on) read goes_on = elim on [ ]
goes_over parameters answers origin source numbers first last (Some f) None ended before middle after some keeps same is
    readable
    written (inl on) read goes_on = elim on [ ]
goes_over parameters answers origin source numbers first last (Some f) (Some g) (e ∷ ended) before middle after some
    keeps same is
    readable written (inl on) read goes_on = elim on [ ]

-- a piece more was walked
pub walked_on : {S : Type 0} (parameters : List (Segment ℕ)) (answers : S → ℕ → Option FramesInfo → Type 0)
    (origin source : S) (old new : Numbers)
    (first last : ℕ) (walked next : Option FunctionRecords) (before middle after : Option (List ℕ)) → first ≤ last
    → KeepsAllNames old new → KeepsAnswers answers origin source
    → ((a : ℕ) (answer : Option FramesInfo) → first ≤ a → a ≤ last → answers origin first answer
    → answers origin a answer)
    → IsWalked parameters answers origin old first walked before middle
    → StepsOver parameters answers source new first last walked next middle after → IfSome next (IsOpen new (last + 1))
    → IsWalked parameters answers origin new (last + 1) next before after
walked_on parameters answers origin source old new first last walked next before middle after some names keeps same is
    step
    goes_on =
    goes_over parameters answers origin source new first last walked next step.ended before middle after some keeps same
    (renumbered parameters answers origin old new first walked before middle names is) step.readable step.written
    step.is_next
    step.reads goes_on

-- a walk that came to the end of all addresses, and whose last function is written, has written all functions
pub walked_all : {S : Type 0} (parameters : List (Segment ℕ)) (answers : S → ℕ → Option FramesInfo → Type 0)
    (origin : S) (numbers : Numbers)
    (walked : Option FunctionRecords) (before middle after : Option (List ℕ))
    → IsWalked parameters answers origin numbers (2 ^ 32) walked before middle
    → All (AreReadable parameters) (option_to_list walked)
    → Appends middle after (flat_map (function_text parameters) (option_to_list walked))
    → WritesFunctions parameters answers origin numbers before after
walked_all parameters answers origin numbers walked before middle after is readable written =
    let whole : IsWalked parameters answers origin numbers (2 ^ 32) None before after
    = ends_any parameters answers origin numbers (2 ^ 32) walked before middle after is readable written in record {
      functions = whole.functions;
      are = record { order = whole.stand; right = whole.right };
      readable = whole.readable;
      written = whole.written;
    }

-- a walk goes on over a piece whose answer is of the function that was walked
pub stepped_on : {S : Type 0} (parameters : List (Segment ℕ)) (answers : S → ℕ → Option FramesInfo → Type 0)
    (source : S) (numbers : Numbers)
    (first last : ℕ) (f g : FunctionRecords) (found : FramesInfo) (held : Option (List ℕ))
    → IsAnswer answers source first (Some found) → GoesOn f g last
    → ((a : ℕ) → first ≤ a → a ≤ last → Reads numbers g a (answer_shown found))
    → StepsOver parameters answers source numbers first last (Some f) (Some g) held held
stepped_on parameters answers source numbers first last f g found held is on reads = record {
  ended = [];
  is_next = inl on;
  reads = (is.0, is.1, λ a from to. subst (λ shown. Reads numbers g a (answer_shown shown)) is.2 (reads a from to));
  readable = All-nil (AreReadable parameters);
  written = Appends-nil held;
}

-- a function begins with a piece, and the one that was walked, if one was, is written
pub stepped_anew : {S : Type 0} (parameters : List (Segment ℕ)) (answers : S → ℕ → Option FramesInfo → Type 0)
    (source : S) (numbers : Numbers)
    (first last : ℕ) (walked : Option FunctionRecords) (g : FunctionRecords) (found : FramesInfo)
    (before after : Option (List ℕ))
    → IsAnswer answers source first (Some found) → (g.start ≡ first) × (g.last ≡ last)
    → ((a : ℕ) → first ≤ a → a ≤ last → Reads numbers g a (answer_shown found))
    → All (AreReadable parameters) (option_to_list walked)
    → Appends before after (flat_map (function_text parameters) (option_to_list walked))
    → StepsOver parameters answers source numbers first last walked (Some g) before after
stepped_anew parameters answers source numbers first last walked g found before after is starts reads readable written =
    record {
      ended = option_to_list walked;
      is_next = inr (refl, starts);
      reads = (is.0, is.1, λ a from to. subst (λ shown. Reads numbers g a (answer_shown shown)) is.2 (reads a from to));
      readable = readable;
      written = written;
    }

-- no piece was walked yet
pub not_walked : {S : Type 0} (parameters : List (Segment ℕ)) (answers : S → ℕ → Option FramesInfo → Type 0)
    (source : S) (numbers : Numbers)
    (next : ℕ) (held : Option (List ℕ)) → next ≡ 0 → IsWalked parameters answers source numbers next None held held
not_walked parameters answers source numbers next held is = record {
  functions = [];
  stand = omega (arith, is);
  right = λ a below. absurd (omega (arith, below, is));
  goes_on = _;
  shows = _;
  readable = All-nil (AreReadable parameters);
  written = Appends-nil held;
}

-- what is answered later was answered before, so where the functions of a source are written so are those of the first
pub written_for_first : {S : Type 0} (parameters : List (Segment ℕ)) (answers : S → ℕ → Option FramesInfo → Type 0)
    (first source : S)
    (numbers : Numbers) (before after : Option (List ℕ)) → KeepsAnswers answers first source
    → WritesFunctions parameters answers source numbers before after
    → WritesFunctions parameters answers first numbers before after
written_for_first parameters answers first source numbers before after keeps is = record {
  functions = is.functions;
  are = record {
    order = is.are.order;
    right = λ a below. over_first answers first source numbers a (function_over a is.functions) keeps
        (is.are.right a below);
  };
  readable = is.readable;
  written = is.written;
}

-- a piece ends at an address of 32 bits, or after all of them
pub piece_fits : (points : List ℕ) (position : ℕ) → ((i : ℕ) → get_or points i 0 < 2 ^ 32)
    → piece_end points position ≤ 2 ^ 32
piece_fits points position fit =
    elim (cases_lt (position + 1) (length points)) [
      | inl more ↦
          let is : piece_end points position ≡ get_or points (position + 1) 0
          = get_or_default points (position + 1) (2 ^ 32) 0 more in
          omega (arith, is, fit (position + 1))
      | inr last ↦
          let is : piece_end points position ≡ 2 ^ 32 = get_or_past points (position + 1) (2 ^ 32) last in
          omega (arith, is)
    ]
