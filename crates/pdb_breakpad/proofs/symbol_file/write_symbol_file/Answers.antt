-- The text of the file, one part after the other.
use Rattle.std.proofs.Common.{◌∙◌, [], append_assoc, subst, sym}
use Rattle.std.specs.Prelude.{Some}
use Rattle.std.specs.Io.KnownBytes.{Appends}
use Rattle.std.specs.List.{flat_map}
use Rattle.std.proofs.KnownBytes.{Appends-kept, Appends-trans}
use Rattle.pdb_breakpad.specs.FunctionTexts.{function_text}
use Rattle.pdb_breakpad.specs.FunctionWalk.{WritesFunctions}
use Rattle.pdb_breakpad.specs.SymbolFile.{names_text, symbol_file_text}
use Rattle.pdb_breakpad.proofs.WalkLemmas.{written_for_first}
use Rattle.pdb_breakpad.proofs.symbol_file.write_symbol_file.Goals as goal

pub returns : goal.returns
returns g c =
    let answers = g.S.FrameSource.answers in
    let before = g.W.Write.contents c.args.out.now in
    let middle = g.W.Write.contents c.write_front.new.out in
    let written = g.W.Write.contents c.write_all.new.self in
    let numbers = c.functions_text.new.numbers in
    let front = c.in_ok-write_front.ensures.0 in
    let all : WritesFunctions c.args.parameters.now answers c.args.source.now numbers (Some [])
    (Some c.in_ok-functions.functions.items)
    = written_for_first c.args.parameters.now answers c.args.source.now c.piece_starts.new.self numbers (Some [])
    (Some c.in_ok-functions.functions.items) c.in_ok-points.ensures.inputs c.in_ok-functions.ensures in
    let texts = flat_map (function_text c.args.parameters.now) all.functions in
    let appended : Appends middle written texts
    = subst (Appends middle written) (c.deref-2.ensures.value ∙ all.written) c.in_ok-write_all.ensures.bytes in
    record {
      front = front;
      numbers = numbers;
      functions = all.functions;
      begins = c.in_ok-write_front.ensures.1;
      numbers_fit = c.fit.ensures;
      are = all.are;
      fit = λ position records below. (all.readable position records below).fit;
      ascend = λ position records below. (all.readable position records below).ascend;
      written = Appends-kept before written (g.W.Write.contents c.flush.new.self)
          (symbol_file_text front numbers c.args.parameters.now all.functions)
          (subst (Appends before written) (append_assoc front (names_text numbers) texts)
          (Appends-trans before middle written _ texts c.in_ok-write_front.ensures.2 appended))
          c.in_ok-flush.ensures.bytes;
    }
