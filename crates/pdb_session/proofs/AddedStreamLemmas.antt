-- Which streams of a file an excerpt has, to which streams of the file are added.
use Rattle.std.proofs.Common.{◌≡◌, ◌≢◌, ◌∙◌, ℕ, ◌+◌, ◌<◌, ◌⊎◌, inl, inr, List, take, length, get_or, Option, Some}
use Rattle.std.proofs.Common.{sym, subst, arith}
use Rattle.std.proofs.lemmas.Bool.{cases_order}
use Rattle.std.proofs.lemmas.List.Elements.{All-more, All-nil, All-weaker}
use Rattle.pdb_msf.proofs.KnownLemmas.{if_file}
use Rattle.pdb_msf.specs.Msf.{Msf, stream_of}
use Rattle.pdb_msf.specs.MsfLayout.{IfFile, MappedFile, with_bytes}
use Rattle.pdb_session.specs.FrontStreams.{HasStreams, KeepsStreams}

-- what holds of the file, if it is known, holds of one that is known to be the file
pub of_known : (known : Option (List ℕ)) (file : List ℕ) (file_length : ℕ) (holds : List ℕ → Type 0)
    → known ≡ Some file → length file ≡ file_length → IfFile known file_length holds → holds file
of_known known file file_length holds is long said = subst (λ option. IfFile option file_length holds) is said long

-- where a stream is the file's, and no other stream changed, each one is the file's that was
pub kept_beside : (msf before after : Msf) (number : ℕ) → stream_of after number ≡ stream_of msf number
    → ((other : ℕ) → other ≢ number → stream_of after other ≡ stream_of before other) → KeepsStreams msf before after
kept_beside msf before after number answer others other had = by_order (cases_order other number) where
  by_order : (other ≡ number) ⊎ ((other < number) ⊎ (number < other)) → stream_of after other ≡ stream_of msf other
  by_order (inl same) = subst (λ n. stream_of after n ≡ stream_of msf n) (sym same) answer
  by_order (inr (inl below)) = others other (λ same. omega (arith, same, below)) ∙ had
  by_order (inr (inr above)) = others other (λ same. omega (arith, same, above)) ∙ had

-- an excerpt has the streams of no numbers
pub none_added : (known : Option (List ℕ)) (mapped : MappedFile) (excerpt : Msf) (numbers : List ℕ)
    → IfFile known mapped.file_length (λ file. HasStreams excerpt (with_bytes file mapped) (take 0 numbers))
none_added known mapped excerpt numbers =
    if_file known mapped.file_length _ (λ file is long.
    All-nil (λ number. stream_of excerpt number ≡ stream_of (with_bytes file mapped) number))

-- an excerpt keeps what it has
pub keeps_all : (known : Option (List ℕ)) (mapped : MappedFile) (excerpt : Msf)
    → IfFile known mapped.file_length (λ file. KeepsStreams (with_bytes file mapped) excerpt excerpt)
keeps_all known mapped excerpt = if_file known mapped.file_length _ (λ file is long number had. had)

-- where the stream of the next number was added, an excerpt has one stream more of these numbers
pub one_more_added : (known here : Option (List ℕ)) (mapped : MappedFile) (before after : Msf) (numbers : List ℕ)
    → (i : ℕ) → i < length numbers → here ≡ known
    → IfFile known mapped.file_length (λ file. HasStreams before (with_bytes file mapped) (take i numbers))
    → IfFile here mapped.file_length (λ file.
    stream_of after (get_or numbers i 0) ≡ stream_of (with_bytes file mapped) (get_or numbers i 0))
    → ((other : ℕ) → other ≢ get_or numbers i 0 → stream_of after other ≡ stream_of before other)
    → IfFile known mapped.file_length (λ file. HasStreams after (with_bytes file mapped) (take (i + 1) numbers))
one_more_added known here mapped before after numbers i within same had answer others =
    if_file known mapped.file_length _ (λ file is long.
    let msf : Msf = with_bytes file mapped in
    let added = of_known here file mapped.file_length (λ file.
    stream_of after (get_or numbers i 0) ≡ stream_of (with_bytes file mapped) (get_or numbers i 0)) (same ∙ is) long
    answer in
    All-more (λ number. stream_of after number ≡ stream_of msf number) numbers i 0 within
    (All-weaker (λ number. stream_of before number ≡ stream_of msf number)
    (λ number. stream_of after number ≡ stream_of msf number)
    (kept_beside msf before after (get_or numbers i 0) added others) (take i numbers)
    (of_known known file mapped.file_length (λ file.
    HasStreams before (with_bytes file mapped) (take i numbers)) is long had)) added)

-- where one stream more was added, an excerpt has still what it had at first
pub keeps_one_more : (known here : Option (List ℕ)) (mapped : MappedFile) (first before after : Msf) (number : ℕ)
    → here ≡ known
    → IfFile known mapped.file_length (λ file. KeepsStreams (with_bytes file mapped) first before)
    → IfFile here mapped.file_length (λ file. stream_of after number ≡ stream_of (with_bytes file mapped) number)
    → ((other : ℕ) → other ≢ number → stream_of after other ≡ stream_of before other)
    → IfFile known mapped.file_length (λ file. KeepsStreams (with_bytes file mapped) first after)
keeps_one_more known here mapped first before after number same kept answer others =
    if_file known mapped.file_length _ (λ file is long other had.
    kept_beside (with_bytes file mapped) before after number (of_known here file mapped.file_length (λ file.
    stream_of after number ≡ stream_of (with_bytes file mapped) number) (same ∙ is) long answer) others other
    (of_known known file mapped.file_length (λ file. KeepsStreams (with_bytes file mapped) first before) is long kept
    other had))
