-- The stream is in the excerpt what it is in the file.
use Rattle.std.proofs.Common.{◌≡◌, ◌∙◌, ℕ, ◌+◌, Ok, Err, [], length, refl, sym, ap}
use Rattle.std.proofs.lemmas.List.{length-map, take_at}
use Rattle.pdb_msf.specs.declared.faults.Fault.TheVariants.{Broken}
use Rattle.pdb_msf.specs.Msf.{Msf}
use Rattle.pdb_msf.specs.MsfLayout.{MappedFile, with_bytes}
use Rattle.pdb_msf.proofs.ExcerptLemmas.{added, both_absent, both_cut}
use Rattle.pdb_msf.proofs.KnownLemmas.{if_file}
use Rattle.pdb_msf.proofs.OthersLemmas.{held_after, others_kept}
use Rattle.pdb_msf.proofs.stream_subset.StreamSubset.add.Goals as goal

pub returns-in_default-clause-answer : goal.returns-in_default-clause-answer
returns-in_default-clause-answer g c = λ is.
    if_file _ _ _ (λ file _ _. both_absent _ c.args.map.now _ file is (c.in_default.ensures.size file))

pub returns-in_default-2-clause-answer : goal.returns-in_default-2-clause-answer
returns-in_default-2-clause-answer g c = λ is.
    let cut : c.numbers.result ≡ Err (Broken c.in_default-2.field-0)
    = rw c.in_default-2.is at c.in_ok-numbers.ensures.answer in
    if_file _ _ _ (λ file _ _. both_cut _ c.args.map.now _ _ _ file _ is (c.in-Some.ensures.size file)
    (c.in-Some.ensures.place file) (rw cut at c.numbers.ensures.answer))

pub returns-clause-answer : goal.returns-clause-answer
returns-clause-answer g c = λ is.
    let found : c.numbers.result ≡ Ok c.in-Ok.numbers = rw c.in-Ok.is at c.in_ok-numbers.ensures.answer in
    let long : length c.append_numbered.new.directory ≡ length c.self.inside.directory.items
    = c.append_numbered.ensures.length ∙ ap length c.deref_mut.ensures.value in
    let wrote = take_at c.append_numbered.new.directory _ _ (long ∙ sym c.self.inside.directory.ok.0) in
    let same_length = ap (λ (m : MappedFile). m.file_length) c.map.view_is in
    let same_size = ap (λ (m : Msf). m.block_size) c.self.view_is ∙ is.1 in
    let placed = rw (same_length, same_size, c.deref.ensures.value) at c.in_ok-append_numbered.ensures.answer in
    if_file _ _ _ (λ file known same. added _ c.args.map.now _ _ _ file c.in-Ok.numbers.items c.deref_mut.result.now _ (
      ap (λ m. m.sizes) c.self.view_is ∙ is.0,
      ap (λ m. m.block_size) c.self.view_is ∙ is.1,
      ap length wrote ∙ long ∙ ap (λ m. length m.directory) c.self.view_is ∙ is.2,
    )
    wrote c.append_numbered.ensures.length (c.in-Some.ensures.size file) (c.in-Some.ensures.place file)
    (rw found at c.numbers.ensures.answer) (rw found at c.numbers.ensures.count)
    (λ room. (rw known at placed) room same _))

pub invariant_of-self : goal.invariant_of-self
invariant_of-self g c =
    let long : length c.append_numbered.new.directory ≡ length c.self.inside.directory.items
    = c.append_numbered.ensures.length ∙ ap length c.deref_mut.ensures.value in
    let wrote = take_at c.append_numbered.new.directory _ _ (long ∙ sym c.self.inside.directory.ok.0) in
    record {
      least = c.self.invariant.least;
      most = c.self.invariant.most;
      listed = c.self.invariant.listed;
      held = held_after _ _ _ _ _ _ _ _ (with_bytes [] c.args.map.now) c.args.number _ c.deref_mut.ensures.value wrote
          (c.in-Some.ensures.place []) c.append_numbered.ensures.held c.self.invariant.held;
    }

pub invariant_of-self-2 : goal.invariant_of-self-2
invariant_of-self-2 g c =
    let long : length c.append_numbered.new.directory ≡ length c.self.inside.directory.items
    = c.append_numbered.ensures.length ∙ ap length c.deref_mut.ensures.value in
    let wrote = take_at c.append_numbered.new.directory _ _ (long ∙ sym c.self.inside.directory.ok.0) in
    record {
      least = c.self.invariant.least;
      most = c.self.invariant.most;
      listed = c.self.invariant.listed;
      held = held_after _ _ _ _ _ _ _ _ (with_bytes [] c.args.map.now) c.args.number _ c.deref_mut.ensures.value wrote
          (c.in-Some.ensures.place []) c.append_numbered.ensures.held c.self.invariant.held;
    }

pub returns-clause-others : goal.returns-clause-others
returns-clause-others g c = λ is other apart.
    let found : c.numbers.result ≡ Ok c.in-Ok.numbers = rw c.in-Ok.is at c.in_ok-numbers.ensures.answer in
    let long : length c.append_numbered.new.directory ≡ length c.self.inside.directory.items
    = c.append_numbered.ensures.length ∙ ap length c.deref_mut.ensures.value in
    let wrote = take_at c.append_numbered.new.directory _ _ (long ∙ sym c.self.inside.directory.ok.0) in
    let held = held_after c.self.inside.block_size _ _ _ _ _ _ _ (with_bytes [] c.args.map.now) c.args.number _
    c.deref_mut.ensures.value wrote (c.in-Some.ensures.place []) c.append_numbered.ensures.held c.self.invariant.held in
    others_kept _ c.args.self.now _ c.args.map.now c.args.number other _ _ _ _ _ _ c.self.view_is is refl refl wrote
    c.deref_mut.ensures.value c.append_numbered.ensures.length
    (ap (λ (n : ℕ). 1 + n) (sym (length-map c.self.inside.streams.items (λ stream. stream.size))))
    c.self.invariant.held held
    c.append_numbered.ensures.begins (c.in-Some.ensures.size []) (c.in-Some.ensures.place [])
    (ap length c.deref.ensures.value ∙ (rw found at c.numbers.ensures.count)) c.append_numbered.ensures.before
    c.append_numbered.ensures.behind apart
