use Rattle.std.proofs.Common.{refl, ◌∙◌}
use Rattle.pdb_errors.specs.Errors.{error_view}
use Rattle.pdb_types.specs.ReadError.{Missing, Unimplemented, Refused, Broken}
use Rattle.pdb_type_texts.specs.Documents.{TypeNotFound, OfError}
use Rattle.pdb_type_printer.proofs.TurnLemmas.{failed_run}
use Rattle.pdb_type_printer.proofs.ReadLemmas.{adds_one}
use Rattle.pdb_type_printer.proofs.type_formatter.TypeFormatter.refuse.Goals as goal

pub returns-in-Missing-clause-fails : goal.returns-in-Missing-clause-fails
returns-in-Missing-clause-fails g c =
    let ran = failed_run (TypeNotFound c.in-Missing.index) c.args.progress.now _ c.args.self.now.failed
    c.fail.ensures in
    record { read_error_view = Missing c.in-Missing.index; known = rw c.in-Missing.is refl; steps = ran.0; ran = ran.1 }

pub returns-in-Unimplemented-clause-fails : goal.returns-in-Unimplemented-clause-fails
returns-in-Unimplemented-clause-fails g c =
    let ran = failed_run _ c.args.progress.now _ c.args.self.now.failed c.fail-in-Unimplemented.ensures in
    record {
      read_error_view = Unimplemented c.in-Unimplemented.kind;
      known = rw c.in-Unimplemented.is refl;
      steps =
          ran.0;
      ran = rw c.from.ensures at ran.1;
    }

pub returns-in-Refused-clause-fails : goal.returns-in-Refused-clause-fails
returns-in-Refused-clause-fails g c =
    let ran = failed_run (OfError (error_view c.in-Refused.error)) c.args.progress.now _ c.args.self.now.failed
    c.fail-in-Refused.ensures in
    record {
      read_error_view = Refused (error_view c.in-Refused.error);
      known = rw c.in-Refused.is refl;
      steps =
          ran.0;
      ran = ran.1;
    }

pub returns-in_ok-answered-in-Broken-clause-broken : goal.returns-in_ok-answered-in-Broken-clause-broken
returns-in_ok-answered-in-Broken-clause-broken g c = λ w broken.
    rw (← c.self.view_is) (adds_one c.in-Broken.part (broken c.in-Broken.part c.in-Broken.error c.in-Broken.is)
    c.in_ok-answered-in-Broken.ensures.failed)

pub returns-in_ok-answered-in-Broken-clause-fails : goal.returns-in_ok-answered-in-Broken-clause-fails
returns-in_ok-answered-in-Broken-clause-fails g c =
    let ran = failed_run _ c.args.progress.now _ c.fail-in-Broken.new.cache.failed c.fail-in-Broken-2.ensures in
    let matches = c.in_ok-answered-in-Broken.ensures.answer in
    let remembers = c.in_ok-answered-in-Broken.ensures.failed in
    record {
      read_error_view = Broken c.in-Broken.part (error_view c.in-Broken.error);
      known =
          rw c.in-Broken.is refl;
      steps = ran.0;
      ran = ran.1 ∙ rw (matches, remembers, ← c.self.view_is) refl;
    }
