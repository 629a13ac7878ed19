-- What is left of all modules is returned.
use Rattle.std.proofs.Common.{◌≡◌, ◌∙◌, ap, length, refl, sym}
use Rattle.std.specs.Option.{option_and_then, option_map_or}
use Rattle.std.specs.Vec.{with_items}
use Rattle.pdb_session.proofs.ItemsReadLemmas.{written_back}
use Rattle.pdb_session.proofs.SessionLemmas.{count_by_session, if_modules, listed, tells_all, turned}
use Rattle.pdb_session.specs.Session.{SessionFile}
use Rattle.pdb_session.specs.UntoldRepairs.{kept_at, told_before}
use Rattle.pdb_session.proofs.session.PdbSession.read_all.Goals as goal

pub returns-clause-told : goal.returns-clause-told
returns-clause-told g c =
    let first = c.args.self.now in
    let second = c.read_rest.new.self in
    let back = written_back c.self.inside.kept.items c.deref_mut.result.now c.take_all.new.kept c.self.inside.kept.len
    c.deref_mut.ensures.len c.deref_mut.ensures.value c.take_all.auto.kept in
    let third : SessionFile = record {
      known = c.self.inside.known;
      kept = listed (with_items c.self.inside.kept c.take_all.new.kept).items;
      bytes = option_and_then (λ r. g.S.Source.bytes r.source) c.self.inside.reader;
      file_length = option_map_or (λ r. r.map.file_length) c.self.inside.reader 0;
    } in
    tells_all first second third c.deref_mut.result.now (with_items c.self.inside.kept c.take_all.new.kept).items
    (length c.self.inside.kept.items) c.in_ok-take_all.field-0.items c.read_rest.ensures.untold c.in_ok-read_rest.ensures.all
    (ap (λ (s : SessionFile). s.known) c.self.view_is)
    (sym (ap (λ (s : SessionFile). s.kept) c.self.view_is) ∙ ap listed (sym c.deref_mut.ensures.value)) refl
    (c.in_ok-take_all.ensures.told
    ∙ ap (λ kept. told_before (kept_at c.deref_mut.result.now) (length kept)) c.deref_mut.ensures.value)
    (λ position. ap (λ kept. kept_at kept position) back ∙ c.in_ok-take_all.ensures.left position)
    (if_modules second first (λ modules. length c.self.inside.kept.items ≡ length modules)
    (λ modules. length c.self.inside.kept.items ≡ length modules) (turned first second c.read_rest.ensures.file)
    (count_by_session second c.self.inside.reader (λ r. g.S.Source.bytes r.source) (λ r. r.map) (λ r. r.places.items)
    (λ r. r.lists) c.self.inside.known (length c.self.inside.kept.items)
    (sym (ap (λ (s : SessionFile). s.bytes) c.self.view_is))
    (sym (ap (λ (s : SessionFile). s.file_length) c.self.view_is)) c.self.invariant.file c.self.invariant.count)
    (λ modules same. same))
