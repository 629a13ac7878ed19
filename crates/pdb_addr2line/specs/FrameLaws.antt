-- Laws on frames.
use Rattle.std.specs.Prelude.{◌≡◌, ℕ, ◌+◌, List, [], ◌∷◌, ◌++◌, Option, Some, None, Ok, Contains, IsTrue}
use Rattle.pdb_records.specs.LinePrograms.{Lines}
use Rattle.pdb_records.specs.declared.ids.IdIndex.{IdIndex}
use Rattle.pdb_records.specs.declared.modules.ModuleInfo.{ModuleInfo}
use Rattle.pdb_functions.specs.FunctionMatches.{FunctionMatch, found_procedure, found_global}
use Rattle.pdb_functions.specs.Procedures.{ModuleProcedure}
use Rattle.pdb_inline.specs.InlineStacks.{levels, lies_over, site_ranges, IsDirectlyInside}
use Rattle.pdb_inline.specs.Sites.{Site, depth, walk}
use Rattle.pdb_inline.specs.declared.inline_ranges.InlineRange.{InlineRange}
use Rattle.pdb_frames.specs.ExtendedInfo.{inlinee_ids}
use Rattle.pdb_frames.specs.Frame.{FrameInfo, FramesInfo}
use Rattle.pdb_function_info.specs.Frames.{Strings, inlined_frame}
use Rattle.pdb_function_info.specs.Function.{FunctionInfo}

-- the inline sites of a procedure, by the records of its module
abbrev pub sites_of : ModuleInfo → ModuleProcedure → List Site
sites_of info p = (walk info.symbols.items info.symbols.fault p.symbol_index.0 p.end_symbol_index.0).sites

-- the number of depths at which rows of a function's inline sites cover an offset; 0 without records of its module, and
-- in a global function
abbrev pub levels_over : Option ModuleInfo → FunctionMatch → ℕ → ℕ
levels_over None found x = 0
levels_over (Some info) (found_global m f) x = 0
levels_over (Some info) (found_procedure m p) x =
    levels (inlinee_ids info.inlinees.items) (sites_of info p) x

-- there are frames, and the last has this name
pub record EndIn (frames : List FrameInfo) (name : Option (List ℕ)) : Type 0 where
  pub inner : List FrameInfo
  pub own : FrameInfo
  pub split : frames ≡ inner ++ own ∷ []
  pub named : own.function ≡ name

-- the function info and the frames info of a function agree on its start and its end, and on the name of the last frame
pub record Agree (function : FunctionInfo) (frames_info : FramesInfo) : Type 0 where
  pub start_rva : frames_info.start_rva ≡ function.start_rva
  pub end_rva : frames_info.end_rva ≡ function.end_rva
  pub name : EndIn frames_info.frames function.name

-- a frame belongs to an inline site of a procedure: it has a range of the site that covers an offset, a file of the
-- module's line program, and the name of the site's id
pub record IsFrameOf (strings : Strings) (name_of : IdIndex → Option (List ℕ)) (info : ModuleInfo) (p : ModuleProcedure)
    (x : ℕ) (site : Site) (frame : FrameInfo) : Type 0 where
  pub range : InlineRange
  pub of_site : Contains (site_ranges (inlinee_ids info.inlinees.items) (sites_of info p) site) range
  pub over : IsTrue (lies_over (depth site) x range)
  pub program : Lines
  pub read : info.line_program ≡ Ok program
  pub shown : frame ≡ inlined_frame strings program (name_of range.inlinee) range

-- two frames belong to two inline sites of a procedure: the first to a site of this level, and the second to a site
-- directly inside it
pub record AreNestedFrames (strings : Strings) (name_of : IdIndex → Option (List ℕ)) (info : ModuleInfo)
    (p : ModuleProcedure) (x level : ℕ) (frame inner_frame : FrameInfo) : Type 0 where
  pub outer : Site
  pub inner : Site
  pub outer_level : depth outer ≡ level
  pub inner_level : depth inner ≡ level + 1
  pub has_outer : Contains (sites_of info p) outer
  pub has_inner : Contains (sites_of info p) inner
  pub of_outer : IsFrameOf strings name_of info p x outer frame
  pub of_inner : IsFrameOf strings name_of info p x inner inner_frame
  pub directly : IsDirectlyInside outer inner
