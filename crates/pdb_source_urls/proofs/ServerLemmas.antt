-- The lines of source server data, one by one.
use Rattle.std.proofs.Common.{◌≡◌, ◌∙◌, ℕ, ◌+◌, ◌<◌, ◌==◌, true, false, List, [], ◌∷◌, length, refl, ap, arith}
use Rattle.std.proofs.Common.{drop, take}
use Rattle.std.proofs.Common.{add-one, length-drop}
use Rattle.std.specs.Prelude.{Option, None, Some, if◌then◌else◌, option_map, unwrap_or}
use Rattle.std.specs.List.{onto_first}
use Rattle.std.specs.Option.{option_map_or}
use Rattle.pdb_source_urls.specs.SourceServer.{Server, after_line, first_line, lines, section_of}
use Rattle.pdb_source_urls.specs.SourceServer.{with_line_by, with_lines, without_return}
use Rattle.pdb_source_urls.specs.TextCuts.{place_of}
use Rattle.pdb_source_urls.specs.declared.source_server.Section.{Section}

-- the lines of a text that isn't empty, by the position of its first line feed
abbrev by_place : List ℕ → Option ℕ → List (List ℕ)
by_place text None = text ∷ []
by_place text (Some place) = take place text ∷ lines (drop (place + 1) text)

-- one byte before a text moves the place
onto_place : (byte : ℕ) (text : List ℕ) (found : Option ℕ)
    → onto_first byte (by_place text found) ≡ by_place (byte ∷ text) (option_map (λ place. place + 1) found)
onto_place byte text None = refl
onto_place byte text (Some place) = simp add-one

lines_by_place : (byte : ℕ) (text : List ℕ) → lines (byte ∷ text) ≡ by_place (byte ∷ text) (place_of 10 (byte ∷ text))
lines_by_place byte [] =
    elim (byte == 10) as (λ b. (if b then [] ∷ [] else (byte ∷ []) ∷ [])
    ≡ by_place (byte ∷ []) (if b then Some 0 else None)) [ true ↦ refl | false ↦ refl ]
lines_by_place byte (next ∷ text) =
    elim (byte == 10) as (λ b. (if b then [] ∷ lines (next ∷ text) else onto_first byte (lines (next ∷ text)))
    ≡ by_place (byte ∷ (next ∷ text))
    (if b then Some 0 else option_map (λ place. place + 1) (place_of 10 (next ∷ text)))) [
      | true ↦ refl
      | false ↦ ap (onto_first byte) (lines_by_place next text)
          ∙ onto_place byte (next ∷ text) (place_of 10 (next ∷ text))
    ]

-- a text that isn't empty has its first line, and the lines after that
pub lines_next : (text : List ℕ) → 0 < length text → lines text ≡ first_line text ∷ lines (after_line text)
lines_next [] some = absurd (omega arith)
lines_next (byte ∷ text) some =
    let whole = byte ∷ text in
    lines_by_place byte text
    ∙ elim (place_of 10 whole) as (λ found. by_place whole found
    ≡ option_map_or (λ (cut : List ℕ × List ℕ). cut.0)
    (option_map (λ place. (take place whole, drop (place + 1) whole)) found) whole
    ∷ lines (option_map_or (λ (cut : List ℕ × List ℕ). cut.1)
    (option_map (λ place. (take place whole, drop (place + 1) whole)) found) [])) [ None ↦ refl | Some place ↦ refl ]

-- and what is left is shorter
pub after_line_shorter : (text : List ℕ) → 0 < length text → length (after_line text) < length text
after_line_shorter text some =
    elim (place_of 10 text) as (λ found. length (option_map_or (λ (cut : List ℕ × List ℕ). cut.1)
    (option_map (λ place. (take place text, drop (place + 1) text)) found) []) < length text) [
      | None ↦ some
      | Some place ↦ omega (arith, length-drop (place + 1) text)
    ]

-- what the first line adds, and then the others, is what all lines add
pub lines_step : (rest line others : List ℕ) (started : Option Section) (section : Section) (server : Server)
    → 0 < length rest → line ≡ without_return (first_line rest) → others ≡ after_line rest
    → started ≡ section_of line → with_lines (unwrap_or started section) (lines others)
    (with_line_by started section line server) ≡ with_lines section (lines rest) server
lines_step rest line others started section server some line_is others_is started_is =
    rw (started_is, line_is, others_is, lines_next rest some) refl
