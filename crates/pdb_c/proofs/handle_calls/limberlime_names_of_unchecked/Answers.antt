use Rattle.std.proofs.Common.{rules}
use Rattle.pdb_report_lib.specs.declared.reports.Command.TheVariants.{Names}
use Rattle.pdb_c.specs.Buffers.{gathered}
use Rattle.pdb_c.specs.Questions.{text_of_handle}
use Rattle.pdb_c.proofs.FrameLemmas.{gathered_agrees, gathered_alike, texts_alike}
use Rattle.pdb_c.proofs.handle_calls.limberlime_names_of_unchecked.Goals as goal

pub returns : goal.returns
returns c =
    let found = c.text_of_handle-found.result in
    let held = c.args.handle.now.held in
    record {
      found = gathered found;
      agrees = gathered_agrees found (text_of_handle Names held c.args.addresses.now)
          c.text_of_handle-found.ensures.answer;
      left = search rules;
      holds = texts_alike found (gathered found) held Names c.args.addresses.now _ (gathered_alike found)
          c.text_of_handle-found.ensures.state;
    }
