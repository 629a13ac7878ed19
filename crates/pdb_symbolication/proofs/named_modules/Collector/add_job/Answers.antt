-- The stacks so far are still served, and so is the next.
use Rattle.std.proofs.Common.{◌≡◌, ◌∙◌, ◌<◌, ◌+◌, ◌≤◌, ◌++◌, length, arith, ℕ, List, Some, ap, refl, sym, subst, take, drop}
use Rattle.std.proofs.Math.Seq.{take-append_seam}
use Rattle.std.proofs.lemmas.Grind.{common_steps}
use Rattle.std.proofs.lemmas.Option.{slice_get_read, slice_get_within}
use Rattle.std.specs.List.{slice_get}
use Rattle.pdb_symbolication.specs.WantedModules.{GainsOnly, KeepsModules, KeepsServed, OneOfFirst, ServesStack, StackAsks}
use Rattle.pdb_symbolication.specs.WantedModules.{offsets_in}
use Rattle.pdb_symbolication.specs.declared.requests.Stack.{Stack}
use Rattle.pdb_symbolication.specs.declared.wanted_modules.Search.{Search}
use Rattle.pdb_symbolication.proofs.GainLemmas.{gains_next, stack_still_asks}
use Rattle.pdb_symbolication.proofs.OffsetLemmas.{and_next, more_stack}
use Rattle.pdb_symbolication.proofs.named_modules.Collector.add_job.Goals as goal

pub loop-stack-preserved : goal.loop-stack-preserved
loop-stack-preserved c =
    let stacks = c.args.job.now.stacks.items in
    let count = c.loop-stack.stack-index in
    let old = offsets_in c.loop-stack.self in
    let new = offsets_in c.add_stack.new.self in
    let before = c.loop-stack.searches.items in
    let after = c.add_stack.new.searches in
    let added = c.in_ok-add_stack.ensures in
    let so_far = c.loop-stack.invariant in
    let size : c.loop-stack.searches.len ≡ length after =
    grind (arith, common_steps, c.add_stack.auto.searches, c.deref_mut.ensures.len) in
    let rest = drop (length after) before in
    let back : take c.loop-stack.searches.len (after ++ rest) ≡ after =
    ap (λ (n : ℕ). take n (after ++ rest)) size ∙ take-append_seam after rest in
    let within : count < length stacks = rw c.deref-stack-items.ensures.value at c.loop-stack-test.true in
    let here = rw c.deref-stack-items.ensures.value at c.stack-item.is in
    let still : KeepsServed before after =
    subst (λ (searches : List Search). KeepsServed searches after) c.deref_mut.ensures.value added.still_served in
    let still_led : KeepsModules before after =
    subst (λ (searches : List Search). KeepsModules searches after) c.deref_mut.ensures.value added.still_led in
    record {
      count = so_far.count;
      asked = grind (arith, common_steps);
      led = grind (arith, common_steps);
      kept = λ position name is. added.kept position name (so_far.kept position name is);
      offsets_kept = λ position offset has. added.offsets_kept position offset
          (so_far.offsets_kept position offset has);
      served = subst (λ (searches : List Search). (number : ℕ) (stack : Stack) → number < count + 1
          → slice_get stacks number ≡ Some stack → ServesStack new searches stack) (sym back)
          (and_next (λ (number : ℕ) (stack : Stack). ServesStack old before stack)
          (λ (number : ℕ) (stack : Stack). ServesStack new after stack) stacks count c.stack-item.result
          (slice_get_read stacks (length stacks) count c.stack-item.result refl within here)
          (λ number stack earlier. more_stack old new before after stack added.offsets_kept still)
          so_far.served added.served);
      only = subst (λ (searches : List Search). GainsOnly (offsets_in c.args.self.now) new
          (λ (position offset : ℕ). OneOfFirst (count + 1) stacks
          (λ (number : ℕ) (stack : Stack). StackAsks searches position offset stack))) (sym back)
          (gains_next (offsets_in c.args.self.now) old new
          (λ (position offset number : ℕ) (stack : Stack). StackAsks before position offset stack)
          (λ (position offset number : ℕ) (stack : Stack). StackAsks after position offset stack) stacks count
          c.stack-item.result (slice_get_read stacks (length stacks) count c.stack-item.result refl within here)
          (λ position offset number stack less. stack_still_asks before after position offset stack still_led)
          so_far.only added.only);
    }

pub returns-clause-served : goal.returns-clause-served
returns-clause-served c number stack is =
    let stacks = c.args.job.now.stacks.items in
    let all : length stacks ≤ c.loop-stack.stack-index =
    rw c.deref-stack-items.ensures.value at c.loop-stack-test.false in
    let within = slice_get_within stacks number stack is in
    c.loop-stack.invariant.served number stack (omega (arith, within, all)) is

pub returns-clause-only : goal.returns-clause-only
returns-clause-only c =
    let stacks = c.args.job.now.stacks in
    let all : c.loop-stack.stack-index ≡ stacks.len = omega (
      arith,
      c.loop-stack-test.false,
      c.loop-stack.auto.stack-index-end,
      c.deref-stack-items.ensures.len,
    ) in
    subst (λ (count : ℕ). GainsOnly (offsets_in c.args.self.now) (offsets_in c.loop-stack.self)
    (λ (position offset : ℕ). OneOfFirst count stacks.items
    (λ (number : ℕ) (stack : Stack). StackAsks c.loop-stack.searches.items position offset stack))) all
    c.loop-stack.invariant.only
