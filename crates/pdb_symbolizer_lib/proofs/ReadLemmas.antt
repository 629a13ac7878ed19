-- Lines that were read of an input, and those that are left.
use Rattle.std.proofs.Common.{◌≡◌, ◌∙◌, ap, sym, refl, ℕ, List, [], ◌∷◌, ◌++◌, append_assoc}
use Rattle.std.proofs.Common.{Option, Some, None, map, length, ◌<◌, arith}
use Rattle.std.proofs.lemmas.List.{map-append}
use Rattle.std.specs.Global.{Global}
use Rattle.std.specs.Io.BufRead.{take_through, drop_through}
use Rattle.std.specs.Prelude.{◌≢◌, IfSome, String, string_bytes}
use Rattle.std.specs.Str.{trim}
use Rattle.pdb_symbolizer_lib.specs.InputLines.{GivesLine, asked_by, asked_in_turn, asked_lines, text_of_line}
use Rattle.pdb_symbolizer_lib.proofs.LineLemmas.{first_of_lines}

-- of an input these lines were read, and the rest is left
pub record Reads (bytes : List ℕ) (after : Option (List ℕ)) (lines : List (String Global)) : Type 0 where
  pub rest : List ℕ
  pub left : after ≡ Some rest
  pub asked : asked_lines bytes ≡ map asked_by lines ++ asked_lines rest

-- at first all is left
pub reads_none : (known : Option (List ℕ)) → IfSome known (λ bytes. Reads bytes known [])
reads_none None = tt
reads_none (Some bytes) = record { rest = bytes; left = refl; asked = refl }

-- an input that isn't empty asks for the text of its first line, and then for what is after it
asked_first : (bytes text : List ℕ) → bytes ≢ [] → text ≡ text_of_line (take_through 10 bytes)
    → asked_lines bytes ≡ trim text ∷ asked_lines (drop_through 10 bytes)
asked_first [] text some is = absurd (some refl)
asked_first (byte ∷ bytes) text some is =
    let asked = λ (lines : List (List ℕ)). map (λ (line : List ℕ). trim (text_of_line line)) lines in
    rw is (ap asked (first_of_lines byte bytes))

-- a line more was read
pub reads_line : (known before after : Option (List ℕ)) (lines more : List (String Global)) (line : String Global)
    → more ≡ lines ++ line ∷ [] → IfSome known (λ bytes. Reads bytes before lines)
    → GivesLine before after (Some (string_bytes line)) → IfSome known (λ bytes. Reads bytes after more)
reads_line None before after lines more line is reads given = tt
reads_line (Some bytes) before after lines more line is reads given =
    let first = rw reads.left at given in
    record {
      rest = drop_through 10 reads.rest;
      left = first.2;
      asked = reads.asked
          ∙ ap (λ (asked : List (List ℕ)). map asked_by lines ++ asked)
          (asked_first reads.rest (string_bytes line) first.0 first.1)
          ∙ sym (append_assoc (map asked_by lines) (asked_by line ∷ []) (asked_lines (drop_through 10 reads.rest)))
          ∙ ap (λ (asked : List (List ℕ)). asked ++ asked_lines (drop_through 10 reads.rest))
          (sym (ap (map asked_by) is ∙ map-append asked_by lines (line ∷ [])));
    }

-- with a line read, what was read and what is left is all that was asked for
pub reads_ready : (known after : Option (List ℕ)) (lines : List (String Global)) → 0 < length lines
    → IfSome known (λ bytes. Reads bytes after lines)
    → IfSome known (λ bytes. asked_in_turn lines after ≡ Some (asked_lines bytes))
reads_ready None after lines some reads = tt
reads_ready (Some bytes) after [] some reads = absurd (omega arith)
reads_ready (Some bytes) after (line ∷ lines) some reads =
    rw reads.left (ap (λ (asked : List (List ℕ)). Some asked) (sym reads.asked))
