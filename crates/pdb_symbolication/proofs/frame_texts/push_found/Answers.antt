-- The function, its place and the calls, by the last of the places.
use Rattle.std.proofs.Common.{◌∙◌, ap, ◌-◌, string_bytes}
use Rattle.pdb_symbolication.specs.FrameTexts.{function_members, location_members}
use Rattle.pdb_symbolication.specs.JsonObjects.{later}
use Rattle.pdb_symbolication.proofs.AppendLemmas.{Gains, gains_on_ok, on_ok_as}
use Rattle.pdb_symbolication.proofs.FoundTextLemmas.{members_of_last, members_text}
use Rattle.pdb_symbolication.proofs.frame_texts.push_found.Goals as goal

pub returns : goal.returns
returns c =
    let found = c.args.found.now in
    let own = c.in-Some.own.now in
    let calls = c.in-Some.inlined.now in
    let within = c.args.offset - found.start in
    let first : Gains (string_bytes c.args.text.now) (later (function_members own.function within))
    (string_bytes c.push_function.new.text) =
    record { written = rw c.saturating_sub.ensures at c.in_ok-push_function.ensures } in
    let second : Gains (string_bytes c.push_function.new.text) (later (location_members own))
    (string_bytes c.push_location.new.text) =
    record { written = c.in_ok-push_location.ensures } in
    let parted = rw c.deref.ensures.value at c.in-Some.ensures.cases in
    on_ok_as c.push_inlines.result (string_bytes c.args.text.now) (string_bytes c.push_inlines.new.text)
    (members_text within own calls ∙ ap later (members_of_last within found.places.items own calls parted))
    (gains_on_ok c.push_inlines.result _ _ first (gains_on_ok c.push_inlines.result _ _ second c.push_inlines.ensures))
