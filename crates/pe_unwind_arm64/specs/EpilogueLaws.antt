-- Laws on the rules in epilogues. Offsets count instructions.
use Rattle.std.specs.Prelude.{◌≡◌, ◌≤◌, ◌<◌, ℕ, List, ◌∷◌, ◌++◌, Ok}
use Rattle.pe_image.specs.Image.{Program}
use Rattle.pe_image.specs.declared.arm64_directory.Arm64Entry.{Arm64Entry}
use Rattle.pe_unwind_arm64.specs.Epilogues.{AreOutside}
use Rattle.pe_unwind_arm64.specs.Functions.{Function, body_rules, epilogue_rules, function_at, rules_before}
use Rattle.pe_unwind_arm64.specs.UnwindInfo.{Info}
use Rattle.pe_unwind_arm64.specs.declared.epilogues.Epilogue.{Epilogue}

-- after the prologue of a function, the rules at an offset in an epilogue are that epilogue's
abbrev pub RulesWithin : Type 0
RulesWithin = (program : Program) (reach : ℕ) (entry : Arm64Entry) (function : Function)
    (before after : List Epilogue) (epilogue : Epilogue) (offset : ℕ)
    → function_at program reach entry ≡ Ok function → function.info.epilogues ≡ before ++ epilogue ∷ after
    → function.info.prologue ≤ offset → epilogue.start ≤ offset → offset < epilogue.end
    → rules_before function.info offset ≡ epilogue_rules function.info epilogue offset

-- after the prologue, the rules at an offset that is in no epilogue are those of the body
abbrev pub RulesOutside : Type 0
RulesOutside = (info : Info) (offset : ℕ) → info.prologue ≤ offset → AreOutside offset info.epilogues
    → rules_before info offset ≡ body_rules info
