-- The searches of the jobs so far are for what their frames name, and lead to modules of these identities. They
-- serve the frames of these jobs.
use Rattle.std.proofs.Common.{◌≡◌, ℕ, ◌<◌, [], vec_len, Some}
use Rattle.std.specs.List.{slice_get}
use Rattle.std.specs.Option.{option_map_or}
use Rattle.pdb_symbolication.specs.WantedModules.{AsksFor, GainsOnly, JobAsks, LeadToEntries, OneOfFirst, ServesJob}
use Rattle.pdb_symbolication.specs.WantedModules.{identities_in, offsets_in}
use Rattle.pdb_symbolication.specs.declared.requests.Job.{Job}
use Rattle.pdb_symbolication.proofs.wanted_modules.WantedModules.of.Given as goal

abbrev pub invariant-loop-job : goal.invariant-loop-job
invariant-loop-job l = record {
  count : vec_len l.searches ≡ l.job-index;
  each : (number : ℕ) (job : Job) → number < l.job-index → slice_get l.request.jobs.items number ≡ Some job
      → AsksFor job (option_map_or (λ searches. searches.items) (slice_get l.searches.items number) []);
  led : (number : ℕ) (job : Job) → number < l.job-index → slice_get l.request.jobs.items number ≡ Some job
      → LeadToEntries (identities_in l.collector) job.memory_map.items
      (option_map_or (λ searches. searches.items) (slice_get l.searches.items number) []);
  served : (number : ℕ) (job : Job) → number < l.job-index → slice_get l.request.jobs.items number ≡ Some job
      → ServesJob (offsets_in l.collector)
      (option_map_or (λ searches. searches.items) (slice_get l.searches.items number) []) job;
  only : GainsOnly [] (offsets_in l.collector) (λ position offset. OneOfFirst l.job-index l.request.jobs.items
      (λ number job. JobAsks
      (option_map_or (λ searches. searches.items) (slice_get l.searches.items number) []) position offset job));
}
