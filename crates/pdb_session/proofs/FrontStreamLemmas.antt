-- The streams that are read before any module: their blocks, and when they are the front of a file.
use Rattle.std.proofs.Common.{◌≡◌, ◌∙◌, ℕ, ◌≤◌, List, [], ◌∷◌, ◌++◌, Option, Some, Ok, Err, IfOk, All}
use Rattle.std.proofs.Common.{sym, ap, subst, arith}
use Rattle.std.proofs.lemmas.List.Elements.{All-cons, All-head, All-nil, All-tail}
use Rattle.std.specs.Prelude.{IsOkAnd, Result, option_to_list}
use Rattle.std.specs.Result.{result_ok}
use Rattle.pdb_records.specs.declared.error.StreamError.{StreamError}
use Rattle.pdb_msf.specs.Msf.{Msf, stream_of}
use Rattle.pdb_msf.specs.StreamBlocks.{BlockList}
use Rattle.pdb_dbi.specs.OptionalStreams.{optional_stream, stream_number}
use Rattle.pdb_container.specs.DebugRecords.{debug_header}
use Rattle.pdb_container.specs.Info.{named_stream}
use Rattle.pdb_container.specs.NameStream.{names_name}
use Rattle.pdb_file_laws.proofs.SameFrontLemmas.{same_header}
use Rattle.pdb_file_laws.specs.SameFronts.{SameFronts}
use Rattle.pdb_session.specs.FrontStreams.{HasStreams, KeepsStreams, named_by_front, named_by_header}

-- what may be refused within the file of a stream's blocks may be within the file that they are of
pub blocks_within : (blocks : Result BlockList StreamError) (place file_length : ℕ)
    → IsOkAnd blocks (λ blocks. place ≤ blocks.file_length)
    → IfOk blocks (λ blocks. blocks.file_length ≡ file_length) → place ≤ file_length
blocks_within (Ok blocks) place file_length refused long = omega (arith, refused, long)
blocks_within (Err error) place file_length refused long = absurd refused

-- what holds of all elements of two lists holds of those of the first
pub all_before : {X : Type 0} (P : X → Type 0) (xs ys : List X) → All P (xs ++ ys) → All P xs
all_before P [] ys all = All-nil P
all_before P (x ∷ xs) ys all =
    All-cons P x xs (All-head P x (xs ++ ys) all) (all_before P xs ys (All-tail P x (xs ++ ys) all))

-- and of those of the second
pub all_behind : {X : Type 0} (P : X → Type 0) (xs ys : List X) → All P (xs ++ ys) → All P ys
all_behind P [] ys all = all
all_behind P (x ∷ xs) ys all = all_behind P xs ys (All-tail P x (xs ++ ys) all)

-- what holds of all elements of an option holds of the one that it has
all_in_option : (P : ℕ → Type 0) (option : Option ℕ) (value : ℕ) → option ≡ Some value
    → All P (option_to_list option) → P value
all_in_option P option value is all = All-head P value [] (subst (λ o. All P (option_to_list o)) is all)

-- an excerpt has the front of a file to which all streams were added that its own front names, once it had the info
-- stream and the one of debug information
pub has_front : (before after msf : Msf) → before.sizes ≡ msf.sizes → after.sizes ≡ msf.sizes
    → stream_of before 1 ≡ stream_of msf 1 → stream_of before 3 ≡ stream_of msf 3 → KeepsStreams msf before after
    → HasStreams after msf (named_by_front before) → SameFronts after msf
has_front before after msf had_sizes sizes info debug kept named =
    let P : ℕ → Type 0 = λ number. stream_of after number ≡ stream_of msf number in
    let texts : List ℕ = option_to_list (result_ok (named_stream names_name (stream_of before 1))) in
    let header = same_header before after (had_sizes ∙ sym sizes) (debug ∙ sym (kept 3 debug)) in
    let by_header = all_before P (named_by_header (debug_header before)) texts named in
    record {
      sizes = sizes;
      info = kept 1 info;
      debug = kept 3 debug;
      symbols = λ front number is there. all_in_option P (stream_number front.global_symbols) number there
          (all_before P _ (option_to_list (optional_stream front.optional_streams.bytes 5))
          (subst (λ h. All P (named_by_header h)) (header ∙ is) by_header));
      sections = λ front number is there. all_in_option P (optional_stream front.optional_streams.bytes 5) number there
          (all_behind P (option_to_list (stream_number front.global_symbols)) _
          (subst (λ h. All P (named_by_header h)) (header ∙ is) by_header));
      texts = λ number is. all_in_option P (result_ok (named_stream names_name (stream_of before 1))) number
          (ap (λ bytes. result_ok (named_stream names_name bytes)) (info ∙ sym (kept 1 info)) ∙ ap result_ok is)
          (all_behind P (named_by_header (debug_header before)) texts named);
    }
