-- The Source Link streams of a file, one after the other.
use Rattle.std.proofs.Common.{◌≡◌, ◌∙◌, ap, Bool, ℕ, suc, ◌+◌, ◌-◌, ◌<◌, ◌≤◌, true, false, List, [], arith}
use Rattle.std.specs.Prelude.{Option, None, Some}
use Rattle.pdb_msf.specs.Msf.{Msf, stream_of}
use Rattle.pdb_msf.specs.MsfLayout.{IfFile, MappedFile, with_bytes}
use Rattle.pdb_container.specs.Info.{Info}
use Rattle.pdb_source_urls.specs.NamedStreams.{AddsStream, links_of, named_bytes, numbered_name, plain_name}
use Rattle.pdb_source_urls.specs.NamedStreams.{with_numbered, with_others, with_stream}
use Rattle.pdb_source_urls.specs.SourceLinks.{Link}

-- after the streams with lower numbers those with this number and the next ones are left
abbrev pub AreLeft : ℕ → List Link → Msf → Type 0
AreLeft number links msf = with_numbered msf (64 - number) number links ≡ links_of msf

-- of the file, if its info stream is this, something holds
abbrev pub IfInfo : Option (List ℕ) → MappedFile → Info → (Msf → Type 0) → Type 0
IfInfo known mapped info holds = IfFile known mapped.file_length (λ file.
    stream_of (with_bytes file mapped) 1 ≡ info → holds (with_bytes file mapped))

module _ (mapped : MappedFile) (info : Info) where
  -- what holds of a file by two facts, holds where the source says it
  both : (known : Option (List ℕ)) (P Q R : Msf → Type 0) → ((msf : Msf) → P msf → Q msf → R msf)
      → IfInfo known mapped info P → IfInfo known mapped info Q → IfInfo known mapped info R
  both None P Q R step p q = tt
  both (Some file) P Q R step p q =
      λ long said. step (with_bytes file mapped) (p long said) (q long said)

-- where there is a stream, its entries are added, and those of the others after it are left
next_by : (others : List Link → List Link) (found : Option (List ℕ)) (before after all : List Link)
    → with_others others found before ≡ all → AddsStream true found before after → others after ≡ all
next_by others None before after all left added = let differs : true ≡ false = added.0 in absurd cc
next_by others (Some stream) before after all left added = ap others added.1 ∙ left

-- where there is none, no others are left
none_by : (others : List Link → List Link) (found : Option (List ℕ)) (before after all : List Link)
    → with_others others found before ≡ all → AddsStream false found before after → after ≡ all
none_by others None before after all left added = added.1 ∙ left
none_by others (Some stream) before after all left added = let differs : false ≡ true = added.0 in absurd cc

-- what is left from a number on that is read
step : (number : ℕ) (msf : Msf) (links : List Link) → number < 64 → AreLeft number links msf
    → with_others (with_numbered msf (64 - (number + 1)) (number + 1)) (named_bytes (numbered_name number) msf) links
    ≡ links_of msf
unfolding with_numbered
step number msf links below left =
    let more : 64 - number ≡ suc (64 - (number + 1)) = omega arith in
    rw more at left

none_left : (number : ℕ) (msf : Msf) (links : List Link) → 64 ≤ number → AreLeft number links msf → links ≡ links_of msf
unfolding with_numbered
none_left number msf links above left =
    let more : 64 - number ≡ 0 = omega arith in
    rw more at left

first : (there : Bool) (msf : Msf) (before after : List Link) → before ≡ []
    → AddsStream there (named_bytes plain_name msf) before after → AreLeft 1 after msf
unfolding links_of
first there msf before after none added =
    ap (λ links. with_numbered msf 63 1 links) (added.1 ∙ ap (with_stream (named_bytes plain_name msf)) none)

module _ (mapped : MappedFile) (info : Info) (known : Option (List ℕ)) where
  -- after the stream without a number all with numbers are left
  pub all_left : (there : Bool) (before after : List Link) → before ≡ []
      → IfInfo known mapped info (λ msf. AddsStream there (named_bytes plain_name msf) before after)
      → IfInfo known mapped info (AreLeft 1 after)
  all_left there before after none added = both mapped info known
      (λ msf. AddsStream there (named_bytes plain_name msf) before after)
      (λ msf. AddsStream there (named_bytes plain_name msf) before after) (AreLeft 1 after)
      (λ msf p q. first there msf before after none p) added added

  -- after the stream of a number those with the next numbers are left
  pub one_less : (same : Option (List ℕ)) (there : Bool) (number : ℕ) (before after : List Link)
      → same ≡ known → there ≡ true → number < 64 → IfInfo known mapped info (AreLeft number before)
      → IfInfo same mapped info (λ msf. AddsStream there (named_bytes (numbered_name number) msf) before after)
      → IfInfo known mapped info (AreLeft (number + 1) after)
  one_less same there number before after is given below left added = both mapped info known
      (AreLeft number before) (λ msf. AddsStream true (named_bytes (numbered_name number) msf) before after)
      (AreLeft (number + 1) after)
      (λ msf p q. next_by (with_numbered msf (64 - (number + 1)) (number + 1)) (named_bytes (numbered_name number) msf)
      before after (links_of msf) (step number msf before below p) q) left (rw (is, given) at added)

  -- without a stream of a number none are left
  pub no_more : (same : Option (List ℕ)) (there : Bool) (number : ℕ) (before after : List Link)
      → same ≡ known → there ≡ false → number < 64 → IfInfo known mapped info (AreLeft number before)
      → IfInfo same mapped info (λ msf. AddsStream there (named_bytes (numbered_name number) msf) before after)
      → IfInfo known mapped info (λ msf. after ≡ links_of msf)
  no_more same there number before after is given below left added = both mapped info known
      (AreLeft number before) (λ msf. AddsStream false (named_bytes (numbered_name number) msf) before after)
      (λ msf. after ≡ links_of msf)
      (λ msf p q. none_by (with_numbered msf (64 - (number + 1)) (number + 1)) (named_bytes (numbered_name number) msf)
      before after (links_of msf) (step number msf before below p) q) left (rw (is, given) at added)

  -- after the last number none are left
  pub at_end : (number : ℕ) (links : List Link) → 64 ≤ number → IfInfo known mapped info (AreLeft number links)
      → IfInfo known mapped info (λ msf. links ≡ links_of msf)
  at_end number links above left = both mapped info known (AreLeft number links) (AreLeft number links)
      (λ msf. links ≡ links_of msf) (λ msf p q. none_left number msf links above p) left left
