-- The unwind info of a function in a record of its own (.xdata).
use Rattle.std.specs.Prelude.{ℕ, zero, suc, ◌+◌, ◌*◌, ◌/◌, ◌%◌, ◌==◌, List, [], ◌∷◌, drop}
use Rattle.std.specs.Prelude.{Result, Ok, Err, unwrap_or, if◌then◌else◌}
use Rattle.std.specs.Option.{ok_or}
use Rattle.pe_image.specs.NumbersAt.{bytes_at, number_at}
use Rattle.pe_unwind_arm64.specs.Epilogues.{epilogue_of, last_epilogue, own_count}
use Rattle.pe_unwind_arm64.specs.UnwindErrors.{◌>>=◌, behind}
use Rattle.pe_unwind_arm64.specs.UnwindCodes.{codes_in}
use Rattle.pe_unwind_arm64.specs.declared.epilogues.Epilogue.{Epilogue}
use Rattle.pe_unwind_arm64.specs.declared.unwind_errors.EntryError.{EntryError}
use Rattle.pe_unwind_arm64.specs.declared.unwind_errors.EntryError.TheVariants.{CodesCut, InfoOutsideOfImage, UnknownVersion}
use Rattle.pe_unwind_arm64.specs.declared.unwind_codes.UnwindCode.{UnwindCode}
use Rattle.pe_unwind_arm64.specs.declared.unwind_info.Header.{Header}

-- the unwind info of a function, apart from its length: the unwind codes, the length of the prologue in instructions,
-- and the epilogues
pub record Info : Type 0 where
  pub codes : List UnwindCode
  pub prologue : ℕ
  pub epilogues : List Epilogue

-- the fields in the first word of a header: the length in 18 bits, the version in 2, whether there is an exception
-- handler (X) in 1, whether there is one epilogue, at the end (E), in 1, the number of epilogues or the index of that
-- one's codes in 5, and the number of words with codes in 5
abbrev pub header_of : ℕ → Header
header_of word = record {
  length = word % 0x40000;
  is_single = word / 0x200000 % 2 == 1;
  epilogues = word / 0x400000 % 32;
  words = word / 0x8000000;
  size = 4;
}

-- the fields of a header whose second word has the last two numbers, in 16 bits and in 8
abbrev pub header_with : ℕ → ℕ → Header
header_with word more = record (header_of word) {
  epilogues = more % 0x10000;
  words = more / 0x10000 % 256;
  size = 8;
}

-- the header of two words
abbrev pub extended_header : ℕ → List ℕ → Result Header EntryError
extended_header word bytes = do
  more ← ok_or (number_at 4 bytes 4) InfoOutsideOfImage
  Ok (header_with word more)

-- the header with this first word. It has a second word if the last two numbers of the first are 0; its version must be
-- 0
abbrev pub header_by : List ℕ → ℕ → Result Header EntryError
header_by bytes word =
    if word / 0x40000 % 4 == 0
    then (if word / 0x400000 == 0 then extended_header word bytes else Ok (header_of word))
    else Err UnknownVersion

-- the header at the start of bytes
abbrev pub header_in : List ℕ → Result Header EntryError
header_in bytes = ok_or (number_at 4 bytes 0) InfoOutsideOfImage >>= header_by bytes

-- the epilogue of an epilogue scope: the offset of its start in 18 bits, 4 reserved bits, and the index of its codes in
-- 10
abbrev pub scope_of : ℕ → ℕ → List UnwindCode → ℕ → Result Epilogue EntryError
scope_of reach length codes word = epilogue_of reach length codes (word % 0x40000) (word / 0x400000)

-- the first number of a list of epilogue scopes
abbrev pub first_scope : List ℕ → ℕ
first_scope bytes = unwrap_or (number_at 4 bytes 0) 0

-- this many epilogues, by their scopes, after one that ends at an offset
abbrev pub scopes_up_to : ℕ → ℕ → List UnwindCode → ℕ → List ℕ → Result (List Epilogue) EntryError
scopes_up_to zero length codes reach bytes = Ok []
scopes_up_to (suc left) length codes reach bytes = do
  one ← scope_of reach length codes (first_scope bytes)
  behind (one ∷ []) (scopes_up_to left length codes one.end (drop 4 bytes))

-- `count` epilogues, by their scopes
unfoldable pub scopes_in : ℕ → ℕ → List UnwindCode → List ℕ → Result (List Epilogue) EntryError
scopes_in count length codes bytes = scopes_up_to count length codes 0 bytes

-- the size of the epilogue scopes in bytes: four for each, and none if the one epilogue is at the end
abbrev pub scope_bytes : Header → ℕ
scope_bytes header = if header.is_single then 0 else 4 * header.epilogues

-- the epilogues of a function, by the header and the scopes of its unwind info
abbrev pub epilogues_by : Header → List UnwindCode → List ℕ → Result (List Epilogue) EntryError
epilogues_by header codes scopes =
    if header.is_single then (do
      one ← last_epilogue header.length codes header.epilogues
      Ok (one ∷ []))
    else scopes_in header.epilogues header.length codes scopes

-- the unwind info by its header, its scopes and its codes
abbrev pub info_by : Header → List ℕ → List UnwindCode → Result Info EntryError
info_by header scopes codes = do
  prologue ← own_count codes
  epilogues ← epilogues_by header codes scopes
  Ok (record { codes = codes; prologue = prologue; epilogues = epilogues })

-- the unwind info at the start of these bytes: a header, the epilogue scopes, and the codes
abbrev pub info_in : List ℕ → Result Info EntryError
info_in bytes = do
  header ← header_in bytes
  scopes ← ok_or (bytes_at bytes header.size (scope_bytes header)) InfoOutsideOfImage
  listed ← ok_or (bytes_at bytes (header.size + scope_bytes header) (4 * header.words)) CodesCut
  info_by header scopes (codes_in listed)
