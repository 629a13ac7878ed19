-- What is left of the modules at the addresses is returned.
use Rattle.std.proofs.Common.{◌∙◌, ap, refl, sym}
use Rattle.std.specs.Option.{option_and_then, option_map_or}
use Rattle.std.specs.Vec.{with_items}
use Rattle.pdb_known.specs.Known.{Known}
use Rattle.pdb_session.proofs.ItemsReadLemmas.{written_back}
use Rattle.pdb_session.proofs.SessionLemmas.{front_twice, keeps_twice, listed, tells_at}
use Rattle.pdb_session.specs.CodeOwners.{owners_of}
use Rattle.pdb_session.specs.Session.{SessionFile}
use Rattle.pdb_session.specs.UntoldRepairs.{kept_at, left_at, told_at}
use Rattle.pdb_session.proofs.session.PdbSession.read_for.Goals as goal

pub returns-clause-told : goal.returns-clause-told
returns-clause-told g c =
    let first = c.args.self.now in
    let middle = c.read_owners.new.self in
    let second = c.read_rest_for.new.self in
    let back = written_back c.self.inside.kept.items c.deref_mut.result.now c.take_at.new.kept c.self.inside.kept.len
    c.deref_mut.ensures.len c.deref_mut.ensures.value c.take_at.auto.kept in
    let third : SessionFile = record {
      known = c.self.inside.known;
      kept = listed (with_items c.self.inside.kept c.take_at.new.kept).items;
      bytes = option_and_then (λ r. g.S.Source.bytes r.source) c.self.inside.reader;
      file_length = option_map_or (λ r. r.map.file_length) c.self.inside.reader 0;
    } in
    let owners = c.self.invariant.owners
    ∙ ap (λ (known : Known). owners_of known.records) (ap (λ (s : SessionFile). s.known) c.self.view_is) in
    tells_at first second third c.deref_mut.result.now (with_items c.self.inside.kept c.take_at.new.kept).items
    c.args.addresses.now c.in_ok-take_at.field-0.items
    (front_twice first.known.records middle.known.records second.known.records c.read_owners.ensures.front
    c.read_rest_for.ensures.front)
    (keeps_twice first middle second c.read_owners.ensures.file c.read_owners.ensures.untold
    c.read_rest_for.ensures.untold)
    c.in_ok-read_rest_for.ensures.enough (ap (λ (s : SessionFile). s.known) c.self.view_is)
    (sym (ap (λ (s : SessionFile). s.kept) c.self.view_is) ∙ ap listed (sym c.deref_mut.ensures.value)) refl
    (c.in_ok-take_at.ensures.told
    ∙ ap (λ o. told_at o (kept_at c.deref_mut.result.now) c.args.addresses.now) owners)
    (λ position. ap (λ kept. kept_at kept position) back ∙ c.in_ok-take_at.ensures.left position
    ∙ ap (λ o. left_at o (kept_at c.deref_mut.result.now) c.args.addresses.now position) owners)
