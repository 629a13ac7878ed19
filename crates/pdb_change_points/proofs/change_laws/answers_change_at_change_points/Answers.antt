use Rattle.std.proofs.Common.{ap}
use Rattle.std.specs.Prelude.{option_and_then}
use Rattle.pdb_function_info.specs.NameTexts.{symbol_name}
use Rattle.pdb_addr2line.specs.Lookups.{blamed_for}
use Rattle.pdb_known.specs.Known.{infos_of}
use Rattle.pdb_change_points.proofs.LawLemmas.{contribution_same, found_same, frames_same}
use Rattle.pdb_change_points.proofs.change_laws.answers_change_at_change_points.Goals as goal

pub returns : goal.returns
returns c = record {
  contributions = contribution_same;
  found = found_same;
  names = λ inputs x y up fits none. ap (option_and_then symbol_name) (found_same inputs x y up fits none);
  frames = frames_same;
  blame = λ inputs x y up fits none.
      ap (option_and_then (blamed_for infos_of inputs)) (found_same inputs x y up fits none);
}
