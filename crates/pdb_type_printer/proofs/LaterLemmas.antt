-- Formatters later on.
use Rattle.std.proofs.Common.{◌≡◌, ℕ, ap, ◌∙◌}
use Rattle.pdb_records.specs.Provided.{ProviderInfos}
use Rattle.pdb_type_texts.specs.BrokenParts.{AddsBroken}
use Rattle.pdb_type_texts.specs.PrintInputs.{formatter_inputs}
use Rattle.pdb_type_printer.specs.Formatters.{Formatter, IsLater}
use Rattle.pdb_type_printer.proofs.LoopLemmas.{adds-then}

-- a formatter that was as before, and then met broken parts
pub later-adds : {P : Type 0} {info : P → ProviderInfos} {module_index : ℕ} {old mid new : Formatter P} → mid ≡ old
    → new.type_inputs ≡ mid.type_inputs
    → AddsBroken (formatter_inputs info old.type_inputs module_index) mid.failed new.failed
    → IsLater info module_index old new
later-adds {info = info} {module_index = module_index} {old = old} {new = new} is inputs broken = record {
  type_inputs = inputs ∙ ap (λ f. f.type_inputs) is;
  broken = rw is at broken;
}

-- later on, and then later again
pub later-then : {P : Type 0} {info : P → ProviderInfos} {module_index : ℕ} {old mid new : Formatter P}
    → IsLater info module_index old mid → IsLater info module_index mid new → IsLater info module_index old new
later-then first second = record {
  type_inputs = second.type_inputs ∙ first.type_inputs;
  broken = adds-then first.broken (rw first.type_inputs at second.broken);
}
