-- The models of requests.
use Rattle.std.specs.Prelude.{ℕ, List, Bool, true, false, Option, Some, None, codes}
use Rattle.pdb_answer_printer.specs.declared.input_line.Lack.{Lack}
use Rattle.pdb_answer_printer.specs.declared.input_line.Lack.TheVariants as lack
use Rattle.pdb_answer_printer.specs.declared.input_line.InputTarget.{InputTarget}
use Rattle.pdb_answer_printer.specs.declared.input_line.InputTarget.TheVariants.{Address, Symbol, Nowhere}
use Rattle.pdb_answer_printer.specs.declared.input_line.InputLine.{InputLine}
use Rattle.pdb_answer_printer.specs.declared.input_line.Sort.{Sort}

-- the target of a request: an address, a symbol by its name, or nothing, with what the text lacks
pub data Target : Type 0 where
  AtAddress : ℕ → Target
  OfSymbol : List ℕ → Target
  AtNone : Lack → Target

-- a request: what it asks for, the name of the file, and the target
pub record Question : Type 0 where
  pub sort : Sort
  pub file : List ℕ
  pub target : Target

-- the target of a request
abbrev pub target_of : InputTarget → Target
target_of (Address given) = AtAddress given
target_of (Symbol name) = OfSymbol name.now
target_of (Nowhere missing) = AtNone missing

-- the model of a request
abbrev pub question_of : InputLine → Question
question_of request = record { sort = request.sort; file = request.file.now; target = target_of request.place }

-- whether the target is nothing
abbrev pub asks_nothing : Target → Bool
asks_nothing (AtNone missing) = true
asks_nothing target = false

-- the message about a text that asks for nothing. An empty text only checks that the program still answers, so it gets
-- no message
abbrev pub words_of : Lack → Option (List ℕ)
words_of lack.Text = None
words_of lack.File = Some (codes "no file is named")
words_of lack.Address = Some (codes "no address")
words_of lack.Number = Some (codes "no number")
