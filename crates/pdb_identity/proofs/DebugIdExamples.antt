-- Debug ids in the texts of tools, and texts that are none.
use Rattle.std.proofs.Common.{◌≡◌, [], ◌∷◌, refl, codes, Some, None}
use Rattle.std.specs.Fmt.{digits}
use Rattle.uuid.proofs.OnLiterals.{uuid_on_literals}
use Rattle.pdb_identity.specs.DebugIds.{compact_text, debug_id_of, debug_id_text}
use Rattle.pdb_identity.specs.declared.debug_id.DebugId.{DebugId}

abbrev second : DebugId
second = record {
  guid = 56 ∷ 68 ∷ 219 ∷ 185 ∷ 32 ∷ 23 ∷ 73 ∷ 103 ∷ 190 ∷ 122 ∷ 164 ∷ 162 ∷ 194 ∷ 4 ∷ 48 ∷ 250 ∷ [];
  age = 2;
}

-- the texts of a debug id
pub text_of_second : debug_id_text second ≡ codes "{3844DBB9-2017-4967-BE7A-A4A2C20430FA}/2"
unfolding uuid_on_literals digits
text_of_second = refl

pub compact_text_of_second : compact_text second ≡ codes "3844DBB920174967BE7AA4A2C20430FA2"
unfolding uuid_on_literals digits
compact_text_of_second = refl

-- both are read, in either case
pub second_of_text : debug_id_of (codes "{3844dbb9-2017-4967-be7a-a4a2c20430fa}/2") ≡ Some second
unfolding debug_id_of uuid_on_literals
second_of_text = refl

pub second_of_compact_text : debug_id_of (codes "3844DBB920174967BE7AA4A2C20430FA2") ≡ Some second
unfolding debug_id_of uuid_on_literals
second_of_compact_text = refl

-- the age has decimal digits after a slash, and hexadecimal ones without
pub decimal_age : debug_id_of (codes "3844DBB920174967BE7AA4A2C20430FA/10") ≡ Some (record second { age = 10 })
unfolding debug_id_of uuid_on_literals
decimal_age = refl

pub hexadecimal_age : debug_id_of (codes "3844DBB920174967BE7AA4A2C20430FA10") ≡ Some (record second { age = 16 })
unfolding debug_id_of uuid_on_literals
hexadecimal_age = refl

-- no age, an age with a sign, and one past 32 bits
pub no_age : debug_id_of (codes "3844DBB920174967BE7AA4A2C20430FA") ≡ None
unfolding debug_id_of uuid_on_literals
no_age = refl

pub signed_age : debug_id_of (codes "3844DBB920174967BE7AA4A2C20430FA/+2") ≡ None
unfolding debug_id_of uuid_on_literals
signed_age = refl

pub long_age : debug_id_of (codes "3844DBB920174967BE7AA4A2C20430FA100000000") ≡ None
unfolding debug_id_of uuid_on_literals
long_age = refl
