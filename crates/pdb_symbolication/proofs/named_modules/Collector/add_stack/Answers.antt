-- The frames so far are still served, and so is the next.
use Rattle.std.proofs.Common.{◌≡◌, ◌<◌, ◌≤◌, length, arith, ℕ, List, subst, get_or}
use Rattle.std.proofs.lemmas.Grind.{common_steps}
use Rattle.std.proofs.lemmas.Option.{slice_get-get_or, slice_get_within}
use Rattle.pdb_symbolication.specs.WantedModules.{FrameAsks, GainsOnly, OneOfFirst, ServesFrame, offsets_in}
use Rattle.pdb_symbolication.specs.declared.requests.FrameModule.TheVariants.{Unknown}
use Rattle.pdb_symbolication.specs.declared.requests.StackFrame.{StackFrame}
use Rattle.pdb_symbolication.proofs.GainLemmas.{gains_next, still_asks}
use Rattle.pdb_symbolication.proofs.OffsetLemmas.{and_next, more_frame}
use Rattle.pdb_symbolication.proofs.named_modules.Collector.add_stack.Goals as goal

none : StackFrame
none = record { «module» = Unknown; offset = 0 }

pub loop-frame-preserved : goal.loop-frame-preserved
unfolding none
loop-frame-preserved c =
    let frames = c.args.stack.now.frames.items in
    let count = c.loop-frame.frame-index in
    let old = offsets_in c.loop-frame.self in
    let new = offsets_in c.add_frame.new.self in
    let before = c.loop-frame.searches in
    let after = c.add_frame.new.searches in
    let added = c.in_ok-add_frame.ensures in
    let so_far = c.loop-frame.invariant in
    let within : count < length frames = rw c.deref-frame-items.ensures.value at c.loop-frame-test.true in
    record {
      asked = grind (arith, common_steps);
      led = added.led;
      kept = λ position name is. added.kept position name (so_far.kept position name is);
      offsets_kept = λ position offset has. added.offsets_kept position offset
          (so_far.offsets_kept position offset has);
      still_served = λ offsets frame served. added.still_served offsets frame
          (so_far.still_served offsets frame served);
      served = and_next (λ (number : ℕ) (frame : StackFrame). ServesFrame old before frame)
          (λ (number : ℕ) (frame : StackFrame). ServesFrame new after frame) frames count
          (get_or frames count none) (slice_get-get_or frames count none within)
          (λ number frame earlier. more_frame old new before after frame added.offsets_kept added.still_served)
          so_far.served
          (subst (λ (shown : List StackFrame). ServesFrame new after (get_or shown count none))
          c.deref-frame-items.ensures.value added.served);
      still_led = λ index position led. added.still_led index position (so_far.still_led index position led);
      only = gains_next (offsets_in c.args.self.now) old new
          (λ (position offset number : ℕ) (frame : StackFrame). FrameAsks before position offset frame)
          (λ (position offset number : ℕ) (frame : StackFrame). FrameAsks after position offset frame) frames count
          (get_or frames count none) (slice_get-get_or frames count none within)
          (λ position offset number frame less. still_asks before after position offset frame added.still_led)
          so_far.only
          (subst (λ (shown : List StackFrame). GainsOnly old new
          (λ (position offset : ℕ). FrameAsks after position offset (get_or shown count none)))
          c.deref-frame-items.ensures.value added.only);
    }

pub returns-clause-served : goal.returns-clause-served
returns-clause-served c number frame is =
    let frames = c.args.stack.now.frames.items in
    let all : length frames ≤ c.loop-frame.frame-index =
    rw c.deref-frame-items.ensures.value at c.loop-frame-test.false in
    let within = slice_get_within frames number frame is in
    c.loop-frame.invariant.served number frame (omega (arith, within, all)) is

pub returns-clause-only : goal.returns-clause-only
returns-clause-only c =
    let frames = c.args.stack.now.frames in
    let all : c.loop-frame.frame-index ≡ frames.len = omega (
      arith,
      c.loop-frame-test.false,
      c.loop-frame.auto.frame-index-end,
      c.deref-frame-items.ensures.len,
    ) in
    subst (λ (count : ℕ). GainsOnly (offsets_in c.args.self.now) (offsets_in c.loop-frame.self)
    (λ (position offset : ℕ). OneOfFirst count frames.items
    (λ (number : ℕ) (frame : StackFrame). FrameAsks c.loop-frame.searches position offset frame))) all
    c.loop-frame.invariant.only
