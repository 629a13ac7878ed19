-- The jobs so far are still served, and so is the next.
use Rattle.std.proofs.Common.{vec_len, ◌≡◌, ◌∙◌, ◌<◌, ◌≤◌, ◌∷◌, [], ℕ, List, Some, sym, subst, ap, length, arith, refl}
use Rattle.std.proofs.Common.{Vec}
use Rattle.std.proofs.Common.{Global, Option}
use Rattle.std.proofs.lemmas.Grind.{common_steps}
use Rattle.std.proofs.lemmas.Option.{slice_get_read, slice_get_within}
use Rattle.std.specs.List.{slice_get}
use Rattle.std.specs.Option.{option_map_or}
use Rattle.pdb_symbolication.specs.WantedModules.{AsksFor, GainsOnly, JobAsks, OneOfFirst}
use Rattle.pdb_symbolication.specs.WantedModules.{Identity, LeadToEntries, ServesJob, identities_in, offsets_in}
use Rattle.pdb_symbolication.specs.WantedModules.{offsets_of}
use Rattle.pdb_symbolication.specs.declared.requests.Job.{Job}
use Rattle.pdb_symbolication.specs.declared.wanted_modules.Search.{Search}
use Rattle.pdb_symbolication.proofs.NameLemmas.{lead_still}
use Rattle.pdb_symbolication.proofs.GainLemmas.{asked_of_none, gains_next}
use Rattle.pdb_symbolication.proofs.OffsetLemmas.{and_next, more_job, slice_get-before, slice_get-last}
use Rattle.pdb_symbolication.proofs.wanted_modules.WantedModules.of.Goals as goal

searches_of : Option (Vec Search Global) → List Search
searches_of found = option_map_or (λ searches. searches.items) found []

pub loop-job-preserved : goal.loop-job-preserved
unfolding searches_of
loop-job-preserved c =
    let jobs = c.args.request.now.jobs.items in
    let count = c.loop-job.job-index in
    let old = offsets_in c.loop-job.collector in
    let new = offsets_in c.add_job.new.self in
    let old_identities = identities_in c.loop-job.collector in
    let new_identities = identities_in c.add_job.new.self in
    let before = c.loop-job.searches in
    let one = c.in_ok-add_job.field-0 in
    let after = c.push.new.self.items in
    let added = c.in_ok-add_job.ensures in
    let so_far = c.loop-job.invariant in
    let pushed = c.in_ok-push.ensures.items in
    let size : length before.items ≡ count = sym before.ok.0 ∙ so_far.count in
    let within : count < length jobs = rw c.deref-job-items.ensures.value at c.loop-job-test.true in
    let here = rw c.deref-job-items.ensures.value at c.job-item.is in
    let next = slice_get_read jobs (length jobs) count c.job-item.result refl within here in
    let last : Some one ≡ slice_get after count =
    sym (ap (λ (all : List (Vec Search Global)). slice_get all count) pushed
    ∙ slice_get-last before.items one count size) in
    let earlier : (number : ℕ) → number < count → slice_get before.items number ≡ slice_get after number =
    λ number less. sym (ap (λ (all : List (Vec Search Global)). slice_get all number) pushed
    ∙ slice_get-before before.items (one ∷ []) number (omega (arith, less, size))) in
    record {
      count = grind (arith, common_steps);
      each = and_next (λ (number : ℕ) (job : Job). AsksFor job (searches_of (slice_get before.items number)))
          (λ (number : ℕ) (job : Job). AsksFor job (searches_of (slice_get after number)))
          jobs count c.job-item.result next
          (λ number job less asks. subst (λ (found : Option (Vec Search Global)). AsksFor job (searches_of found))
          (earlier number less) asks)
          so_far.each
          (subst (λ (found : Option (Vec Search Global)). AsksFor c.job-item.result (searches_of found))
          last added.asked);
      led = and_next (λ (number : ℕ) (job : Job).
          LeadToEntries old_identities job.memory_map.items (searches_of (slice_get before.items number)))
          (λ (number : ℕ) (job : Job).
          LeadToEntries new_identities job.memory_map.items (searches_of (slice_get after number)))
          jobs count c.job-item.result next
          (λ number job less led. subst (λ (found : Option (Vec Search Global)).
          LeadToEntries new_identities job.memory_map.items (searches_of found)) (earlier number less)
          (lead_still old_identities new_identities job.memory_map.items (searches_of (slice_get before.items number))
          added.kept led))
          so_far.led
          (subst (λ (found : Option (Vec Search Global)).
          LeadToEntries new_identities c.job-item.result.memory_map.items (searches_of found)) last added.led);
      served = and_next (λ (number : ℕ) (job : Job). ServesJob old (searches_of (slice_get before.items number)) job)
          (λ (number : ℕ) (job : Job). ServesJob new (searches_of (slice_get after number)) job)
          jobs count c.job-item.result next
          (λ number job less served. subst (λ (found : Option (Vec Search Global)).
          ServesJob new (searches_of found) job) (earlier number less)
          (more_job old new (searches_of (slice_get before.items number)) job added.offsets_kept served))
          so_far.served
          (subst (λ (found : Option (Vec Search Global)). ServesJob new (searches_of found) c.job-item.result)
          last added.served);
      only = gains_next [] old new
          (λ (position offset number : ℕ) (job : Job).
          JobAsks (searches_of (slice_get before.items number)) position offset job)
          (λ (position offset number : ℕ) (job : Job).
          JobAsks (searches_of (slice_get after number)) position offset job)
          jobs count c.job-item.result next
          (λ position offset number job less asks. subst (λ (found : Option (Vec Search Global)).
          JobAsks (searches_of found) position offset job) (earlier number less) asks)
          so_far.only
          (subst (λ (found : Option (Vec Search Global)). GainsOnly old new
          (λ (position offset : ℕ). JobAsks (searches_of found) position offset c.job-item.result)) last added.only);
    }

pub returns : goal.returns
returns c =
    let jobs = c.args.request.now.jobs.items in
    let so_far = c.loop-job.invariant in
    let modules = c.in_ok-finish.field-0 in
    let all : length jobs ≤ c.loop-job.job-index = rw c.deref-job-items.ensures.value at c.loop-job-test.false in
    let each : c.loop-job.job-index ≡ vec_len c.args.request.now.jobs = omega (
      arith,
      c.loop-job-test.false,
      c.loop-job.auto.job-index-end,
      c.deref-job-items.ensures.len,
    ) in
    record {
      answer = record {
        count = grind (arith, common_steps);
        each = λ number job is.
            so_far.each number job (omega (arith, slice_get_within jobs number job is, all)) is;
        led = λ number job is.
            subst (λ (identities : List Identity). LeadToEntries identities job.memory_map.items
            (option_map_or (λ searches. searches.items) (slice_get c.loop-job.searches.items number) []))
            (sym c.in_ok-finish.ensures.identities)
            (so_far.led number job (omega (arith, slice_get_within jobs number job is, all)) is);
        served = λ number job is.
            more_job (offsets_in c.loop-job.collector) (offsets_of modules.items)
            (option_map_or (λ searches. searches.items) (slice_get c.loop-job.searches.items number) []) job
            c.in_ok-finish.ensures.offsets
            (so_far.served number job (omega (arith, slice_get_within jobs number job is, all)) is);
        only = λ position offset has.
            subst (λ (count : ℕ). OneOfFirst count jobs (λ (number : ℕ) (job : Job).
            JobAsks (option_map_or (λ searches. searches.items) (slice_get c.loop-job.searches.items number) [])
            position offset job)) each
            (asked_of_none position offset
            (so_far.only position offset (c.in_ok-finish.ensures.no_more position offset has)));
      };
    }
