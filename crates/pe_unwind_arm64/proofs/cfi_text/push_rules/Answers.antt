-- The records of the function's lines.
use Rattle.std.proofs.Common.{Ok}
use Rattle.pe_unwind_arm64.proofs.RecordLemmas.{let_know}
use Rattle.pe_unwind_arm64.specs.Functions.{size_of}
use Rattle.pe_unwind_arm64.proofs.cfi_text.push_rules.Goals as goal

pub returns : goal.returns
returns c =
    let lines = c.in_ok-lines.lines.items in
    let function = c.args.function.now in
    record {
      answer = (
        lines,
        rw (c.deref.ensures.value) at c.in_ok-push_function.ensures.answer,
        c.in_ok-lines.ensures.ascending,
        let_know lines (size_of function) (Ok function) c.in_ok-lines.ensures.ascending c.in_ok-lines.ensures.whole
            c.in_ok-lines.ensures.answer,
      );
    }
