-- Law on sources of frames: answers stay the same.
use Rattle.std.specs.Prelude.{ℕ, Option, ◌↔◌}
use Rattle.pdb_frames.specs.Frame.{FramesInfo}

-- the source has the same answers after a call as before it
abbrev pub KeepsAnswers : {S : Type 0} → (S → ℕ → Option FramesInfo → Type 0) → S → S → Type 0
KeepsAnswers answers before after =
    (address : ℕ) (answer : Option FramesInfo) → answers after address answer ↔ answers before address answer
