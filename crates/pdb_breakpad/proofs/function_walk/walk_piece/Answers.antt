-- What a walk comes to over a piece.
use Rattle.std.proofs.Common.{[], subst, sym}
use Rattle.std.specs.Prelude.{Some}
use Rattle.std.specs.Io.KnownBytes.{Appends}
use Rattle.std.specs.List.{All, flat_map}
use Rattle.std.specs.Option.{option_to_list}
use Rattle.std.proofs.KnownBytes.{Appends-nil}
use Rattle.std.proofs.lemmas.List.{append-nil}
use Rattle.std.proofs.lemmas.List.Elements.{All-cons, All-nil}
use Rattle.pdb_breakpad.specs.FunctionWalk.{IsAnswer, StepsOver}
use Rattle.pdb_breakpad.specs.FunctionTexts.{function_text}
use Rattle.pdb_breakpad.specs.WrittenRecords.{AreReadable}
use Rattle.pdb_breakpad.proofs.WalkLemmas.{stepped_anew, stepped_on}
use Rattle.pdb_breakpad.proofs.function_walk.walk_piece.Goals as goal

pub returns-in_default-walked-clause-step : goal.returns-in_default-walked-clause-step
returns-in_default-walked-clause-step g c =
    let answers = g.S.FrameSource.answers in
    let held = g.W.Write.contents c.args.out.now in
    stepped_anew c.args.parameters.now answers c.args.source.now c.new.new.numbers c.args.piece.first c.args.piece.last
    c.args.walked
    c.in_ok-begun.begun c.in-Some.answer held held
    (subst (IsAnswer answers c.args.source.now c.args.piece.first) c.in-Some.is c.in_ok-answer.ensures.answer)
    c.in_ok-begun.ensures.addresses c.in_ok-begun.ensures.answer
    (subst (λ walked. All (AreReadable c.args.parameters.now) (option_to_list walked)) (sym c.in_default-walked.is)
    (All-nil (AreReadable c.args.parameters.now)))
    (subst (λ walked. Appends held held (flat_map (function_text c.args.parameters.now) (option_to_list walked)))
    (sym c.in_default-walked.is)
    (Appends-nil held))

pub returns-then-is_of-clause-step : goal.returns-then-is_of-clause-step
returns-then-is_of-clause-step g c =
    let answers = g.S.FrameSource.answers in
    let held = g.W.Write.contents c.args.out.now in
    subst (λ walked. StepsOver c.args.parameters.now answers c.args.source.now c.add.new.numbers c.args.piece.first
    c.args.piece.last walked
    (Some c.add.new.self) held held) (sym c.in-Some-walked.is)
    (stepped_on c.args.parameters.now answers c.args.source.now c.add.new.numbers c.args.piece.first c.args.piece.last
    c.in-Some-walked.records c.add.new.self c.in-Some.answer held
    (subst (IsAnswer answers c.args.source.now c.args.piece.first) c.in-Some.is c.in_ok-answer.ensures.answer)
    (record {
      start = c.in_ok-add.ensures.addresses.0;
      ends = c.in_ok-add.ensures.addresses.1;
      name = c.in_ok-add.ensures.name;
      same = c.in_ok-add.ensures.unchanged;
    }) c.in_ok-add.ensures.answer)

pub returns-clause-step : goal.returns-clause-step
returns-clause-step g c =
    let answers = g.S.FrameSource.answers in
    let before = g.W.Write.contents c.args.out.now in
    let after = g.W.Write.contents c.write_function.new.out in
    subst (λ walked. StepsOver c.args.parameters.now answers c.args.source.now c.new-2.new.numbers c.args.piece.first
    c.args.piece.last walked
    (Some c.in_ok-begun-2.begun) before after) (sym c.in-Some-walked.is)
    (stepped_anew c.args.parameters.now answers c.args.source.now c.new-2.new.numbers c.args.piece.first
    c.args.piece.last
    (Some c.in-Some-walked.records) c.in_ok-begun-2.begun c.in-Some.answer before after
    (subst (IsAnswer answers c.args.source.now c.args.piece.first) c.in-Some.is c.in_ok-answer.ensures.answer)
    c.in_ok-begun-2.ensures.addresses c.in_ok-begun-2.ensures.answer
    (All-cons (AreReadable c.args.parameters.now) c.in-Some-walked.records [] c.in_ok-write_function.ensures.readable
    (All-nil (AreReadable c.args.parameters.now)))
    (subst (Appends before after) (sym (append-nil (function_text c.args.parameters.now c.in-Some-walked.records)))
    c.in_ok-write_function.ensures.written))
