-- Worked examples of the stream of a module, by bytes written by hand.
use Rattle.std.proofs.Common.{◌≡◌, ℕ, List, [], ◌∷◌, ◌++◌, take, Some, None, Ok, Err, refl}
use Rattle.std.specs.Prelude.{codes}
use Rattle.pdb_records.specs.Readings.{Read}
use Rattle.pdb_records.specs.declared.symbols.Symbol.{Symbol}
use Rattle.pdb_records.specs.declared.symbols.SymbolData.TheVariants.{Other, Procedure, Thunk}
use Rattle.pdb_msf.specs.declared.faults.TheConstants.{CUT, UNKNOWN_VERSION}
use Rattle.pdb_msf.specs.ItemLists.{all_items}
use Rattle.pdb_codeview.specs.LineSubsections.{line_rows}
use Rattle.pdb_dbi.specs.declared.module_substream.ModuleStream.{ModuleStream}
use Rattle.pdb_container.specs.ModuleStreams.{module_in}

-- a number below 256, as two bytes and as four
abbrev short : ℕ → List ℕ
short number = number ∷ 0 ∷ []

abbrev small : ℕ → List ℕ
small number = number ∷ 0 ∷ 0 ∷ 0 ∷ []

-- S_GPROC32: pParent, pEnd 48, pNext, len 26, DbgStart, DbgEnd, typind 0x1001, off 64, seg 1, flags, and the name
abbrev procedure_bytes : List ℕ
procedure_bytes =
    42 ∷ 0 ∷ 16 ∷ 17 ∷ [] ++ small 0 ++ small 48 ++ small 0 ++ small 26 ++ small 4 ++ small 21 ++ 1 ∷ 16 ∷ 0 ∷ 0 ∷ []
    ++ small 64 ++ short 1 ++ 0 ∷ [] ++ codes "f" ++ 0 ∷ 0 ∷ 0 ∷ 0 ∷ []

-- S_END
abbrev end_bytes : List ℕ
end_bytes = 2 ∷ 0 ∷ 6 ∷ 0 ∷ []

-- S_THUNK32: pParent, pEnd 80, pNext, off 32, seg 1, len 5, ord, and the name
abbrev thunk_bytes : List ℕ
thunk_bytes =
    26 ∷ 0 ∷ 2 ∷ 17 ∷ [] ++ small 0 ++ small 80 ++ small 0 ++ small 32 ++ short 1 ++ short 5 ++ 0 ∷ [] ++ codes "t"
    ++ 0 ∷ 0 ∷ []

-- CV_SIGNATURE_C13, and three symbols
abbrev symbol_bytes : List ℕ
symbol_bytes = small 4 ++ procedure_bytes ++ end_bytes ++ thunk_bytes

-- DEBUG_S_FILECHKSMS: one file, by the key 7 of its name, with no checksum, and two bytes that fill up
abbrev file_bytes : List ℕ
file_bytes = small 244 ++ small 8 ++ small 7 ++ 0 ∷ 0 ∷ 0 ∷ 0 ∷ []

-- DEBUG_S_LINES: offCon 64, segCon 1, flags, cbCon 26; of the file 0 two rows in 28 bytes, of the lines 5 and 6
abbrev line_bytes : List ℕ
line_bytes =
    small 242 ++ small 40 ++ small 64 ++ short 1 ++ short 0 ++ small 26 ++ small 0 ++ small 2 ++ small 28 ++ small 0
    ++ small 5 ++ small 8 ++ small 6

-- DEBUG_S_INLINEELINES: the form 0, and one function by its id 0x1003, of the file 0 and the line 50
abbrev inlinee_bytes : List ℕ
inlinee_bytes = small 246 ++ small 16 ++ small 0 ++ 3 ∷ 16 ∷ 0 ∷ 0 ∷ [] ++ small 0 ++ small 50

-- symbols, four bytes of lines in the older form, and the subsections
abbrev stream : List ℕ
stream = symbol_bytes ++ small 255 ++ file_bytes ++ line_bytes ++ inlinee_bytes

abbrev place : ModuleStream
place = record { stream = 5; symbols = 80; c11_lines = 4; lines = 88 }

-- the three symbols
abbrev symbols : Read Symbol
symbols = record {
  items = record {
    raw_kind = 0x1110;
    content = Some (Procedure (record {
      offset = record { section = 1; offset = 64 };
      len = 26;
      name = codes "f";
      end = record { 0 = 1 };
      type_index = record { 0 = 0x1001 };
    }));
  } ∷ record { raw_kind = 6; content = Some Other } ∷ record {
    raw_kind = 0x1102;
    content = Some (Thunk (record {
      offset = record { section = 1; offset = 32 };
      len = 5;
      name = codes "t";
      end = record { 0 = 3 };
    }));
  } ∷ [];
  fault = None;
}

whole_module : module_in place stream ≡ record {
  symbols = symbols;
  line_program = Ok (record {
    entries = record {
      offset = record { section = 1; offset = 64 };
      lines = record {
        items = record { offset = 64; file_index = record { 0 = 0 }; line_start = 5 }
            ∷ record { offset = 72; file_index = record { 0 = 0 }; line_start = 6 } ∷ [];
        fault = None;
      };
    } ∷ [];
    files = record { name = record { 0 = 7 } } ∷ [];
  });
  inlinees = record { items = record { index = record { 0 = 0x1003 } } ∷ []; fault = None };
  imports = Ok [];
  exports = Ok [];
}
unfolding module_in all_items line_rows
whole_module = refl

-- the stream ends in the second subsection: nothing after it is known, and the lines aren't either
cut_module : module_in place (take 120 stream) ≡ record {
  symbols = symbols;
  line_program = Err CUT;
  inlinees = record { items = []; fault = Some CUT };
  imports = Err CUT;
  exports = Err CUT;
}
unfolding module_in all_items line_rows
cut_module = refl

-- symbols of another form
other_form : module_in (record place { lines = 0 }) (small 1 ++ procedure_bytes ++ end_bytes ++ thunk_bytes) ≡ record {
  symbols = record { items = []; fault = Some UNKNOWN_VERSION };
  line_program = Ok (record { entries = []; files = [] });
  inlinees = record { items = []; fault = None };
  imports = Ok [];
  exports = Ok [];
}
unfolding module_in all_items line_rows
other_form = refl
