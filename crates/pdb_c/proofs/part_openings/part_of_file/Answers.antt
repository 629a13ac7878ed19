-- What was read for the addresses is enough for them, and so is everything.
use Rattle.std.proofs.Common.{◌∙◌, ap}
use Rattle.pdb_known.specs.Known.{Known}
use Rattle.pdb_session.specs.Session.{SessionFile, needs_none}
use Rattle.pdb_session.proofs.PartLemmas.{all_needs_none}
use Rattle.pdb_c.proofs.part_openings.part_of_file.Goals.{then-not-is_closed+in_ok-read_all, else-not-is_closed}
use Rattle.pdb_c.proofs.part_openings.part_of_file.Goals as goal

pub returns-clause-enough : goal.returns-clause-enough
returns-clause-enough c =
    elim c.if-not-is_closed.branch [
      | then-not-is_closed+in_ok-read_all w ↦
          ap (λ (known : Known). needs_none known c.args.addresses.now)
          (c.into_known.ensures.answer ∙ ap (λ (s : SessionFile). s.known) w.session-is)
          ∙ all_needs_none _ _ c.args.addresses.now w.in_ok-read_all.ensures.all
      | else-not-is_closed w ↦
          ap (λ (known : Known). needs_none known c.args.addresses.now)
          (c.into_known.ensures.answer ∙ ap (λ (s : SessionFile). s.known) w.session-is)
          ∙ c.in_ok-read_for.ensures.enough
    ]
