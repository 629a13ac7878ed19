-- What is printed of a frame's source file besides its name and the line.
use Rattle.std.specs.Prelude.{ℕ, List, [], ◌∷◌, ◌++◌}
use Rattle.pdb_answer_printer.specs.declared.source_texts.ShownSource.{ShownSource}

-- the URL of a frame's source file, and the lines of its text around the frame's line; each is empty if there is none
pub record FrameSource : Type 0 where
  pub url : List ℕ
  pub lines : List ℕ

-- the URL and the lines, as texts that are lent
abbrev pub source_of : ShownSource → FrameSource
source_of source = record { url = source.url.now; lines = source.lines.now }

-- what is printed for the first frame: nothing if there is nothing for it
abbrev pub first_source : List FrameSource → FrameSource
first_source [] = record { url = []; lines = [] }
first_source (source ∷ sources) = source

-- what is printed for the frames after the first
abbrev pub later_sources : List FrameSource → List FrameSource
later_sources [] = []
later_sources (source ∷ sources) = sources

-- a URL after this text, and nothing if there is no URL
abbrev pub url_after : List ℕ → List ℕ → List ℕ
url_after before [] = []
url_after before (character ∷ characters) = before ++ (character ∷ characters)
