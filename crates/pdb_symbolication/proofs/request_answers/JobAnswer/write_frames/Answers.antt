-- A frame more, with the comma before it.
use Rattle.std.proofs.Common.{◌≡◌, ◌∙◌, refl, subst, sym, ℕ, ◌+◌}
use Rattle.std.proofs.Common.{◌<◌, List, ◌++◌, append_assoc, drop, get_or, length, Option}
use Rattle.std.proofs.lemmas.List.{get_or_default}
use Rattle.std.specs.Prelude.{◌==◌}
use Rattle.pdb_symbolication.specs.JsonObjects.{comma_before}
use Rattle.pdb_symbolication.specs.RequestAnswers.{frame_object, frame_objects, searched_by}
use Rattle.pdb_symbolication.specs.declared.request_answers.JobAnswer.{JobAnswer}
use Rattle.pdb_symbolication.specs.declared.requests.FrameModule.TheVariants.{Unknown}
use Rattle.pdb_symbolication.specs.declared.requests.StackFrame.{StackFrame}
use Rattle.pdb_symbolication.proofs.JsonLemmas.{count_next, left}
use Rattle.pdb_symbolication.proofs.WriteLemmas.{Goes, fails_amid, goes_amid, goes_as, goes_on}
use Rattle.pdb_symbolication.proofs.request_answers.JobAnswer.write_frames.Goals as goal

-- what is left after the frame of this number
rest_of : JobAnswer → ℕ → List StackFrame → List ℕ
rest_of answer number frames =
    left (number + 1 == 0) (frame_objects (searched_by answer) (number + 1) (drop (number + 1) frames))

-- a frame, with the comma before it
frame_of : JobAnswer → ℕ → List StackFrame → List ℕ
frame_of answer number frames = comma_before (number == 0)
    ++ frame_object (searched_by answer) number (get_or frames number (record { «module» = Unknown; offset = 0 }))

-- a frame and what follows are left
frame_next : (answer : JobAnswer) (number : ℕ) (frames : List StackFrame) → number < length frames
    → left (number == 0) (frame_objects (searched_by answer) number (drop number frames))
    ≡ frame_of answer number frames ++ rest_of answer number frames
unfolding rest_of frame_of
frame_next answer number frames within =
    let searched = searched_by answer in
    let frame = get_or frames number (record { «module» = Unknown; offset = 0 }) in
    count_next (frame_objects searched) (frame_object searched) (λ number value values. refl) frames number frame within
    (get_or_default frames number _ frame within)
    ∙ sym (append_assoc (comma_before (number == 0)) (frame_object searched number frame)
    (rest_of answer number frames))

-- the same, by the list that the loop goes over
frame_left : (answer : JobAnswer) (number : ℕ) (frames items : List StackFrame) {known after : Option (List ℕ)}
    {text : List ℕ} → frames ≡ items → number < length frames
    → Goes known after (left (number == 0) (frame_objects (searched_by answer) number (drop number items))) text
    → Goes known after (frame_of answer number frames ++ rest_of answer number items) text
frame_left answer number frames items {known} {after} {text} same within goes =
    let next = frame_next answer number frames within in
    goes_as (subst (λ (list : List StackFrame).
    left (number == 0) (frame_objects (searched_by answer) number (drop number list))
    ≡ frame_of answer number frames ++ rest_of answer number list) same next) goes

pub returns-in_err-write_frame : goal.returns-in_err-write_frame
unfolding frame_of
returns-in_err-write_frame g c =
    let answer = c.args.self in
    let number = c.loop-number.number in
    let frames = c.deref-frame-items.result.now in
    let items = c.args.stack.now.frames.items in
    fails_amid c.from_residual.result c.from_residual.ensures.0
    (goes_amid (frame_of answer number frames) (rest_of answer number items)
    (frame_left answer number frames items c.deref-frame-items.ensures.value c.loop-number-test.true
    c.loop-number.invariant)
    c.in_err-write_frame.ensures)

pub loop-number-preserved : goal.loop-number-preserved
unfolding rest_of frame_of
loop-number-preserved g c =
    let answer = c.args.self in
    let number = c.loop-number.number in
    let frames = c.deref-frame-items.result.now in
    let items = c.args.stack.now.frames.items in
    goes_on (g.W.Write.contents c.write_frame.new.out) (frame_of answer number frames) (rest_of answer number items)
    (frame_left answer number frames items c.deref-frame-items.ensures.value c.loop-number-test.true
    c.loop-number.invariant)
    c.in_ok-write_frame.ensures
