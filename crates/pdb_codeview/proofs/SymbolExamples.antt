-- Worked examples of symbols, by bytes written by hand.
use Rattle.std.proofs.Common.{◌≡◌, ℕ, List, [], ◌∷◌, ◌++◌, take, Some, None, refl}
use Rattle.std.specs.Prelude.{codes}
use Rattle.pdb_records.specs.declared.symbols.Symbol.{Symbol}
use Rattle.pdb_records.specs.declared.symbols.SymbolData.TheVariants.{Other, Procedure, Public, SeparatedCode, Thunk}
use Rattle.pdb_msf.specs.declared.faults.TheConstants.{BAD_LENGTH, CUT}
use Rattle.pdb_codeview.specs.InlineSites.{ModuleCode}
use Rattle.pdb_msf.specs.ItemLists.{all_items}
use Rattle.pdb_codeview.specs.SymbolContents.{global_symbols, module_symbols}

-- a number below 256, as two bytes and as four
abbrev short : ℕ → List ℕ
short number = number ∷ 0 ∷ []

abbrev small : ℕ → List ℕ
small number = number ∷ 0 ∷ 0 ∷ 0 ∷ []

-- reclen and rectyp S_PUB32, pubsymflags of a function, off 16, seg 1, and the name, with bytes that fill up after it
abbrev public_draw : List ℕ
public_draw = 18 ∷ 0 ∷ 14 ∷ 17 ∷ [] ++ small 2 ++ small 16 ++ short 1 ++ codes "draw" ++ 0 ∷ 0 ∷ []

-- S_ALIGN, with four bytes
abbrev filler : List ℕ
filler = 6 ∷ 0 ∷ 2 ∷ 4 ∷ [] ++ small 0

-- S_PROCREF: sumName, ibSym, imod, and the name
abbrev reference : List ℕ
reference = 14 ∷ 0 ∷ 37 ∷ 17 ∷ [] ++ small 0 ++ small 4 ++ short 1 ++ codes "f" ++ 0 ∷ []

-- the public symbol
abbrev draw : Symbol
draw = record {
  raw_kind = 0x110e;
  content = Some (Public (record { offset = record { section = 1; offset = 16 }; name = codes "draw" }));
}

-- of three records two are symbols, and one of these is looked into
two_symbols : global_symbols (public_draw ++ filler ++ reference)
    ≡ record { items = draw ∷ record { raw_kind = 0x1125; content = Some Other } ∷ []; fault = None }
unfolding all_items
two_symbols = refl

-- the bytes end within the second record
one_cut : global_symbols (public_draw ++ take 7 reference) ≡ record { items = draw ∷ []; fault = Some CUT }
unfolding all_items
one_cut = refl

-- a record that has no room for its kind
no_kind : global_symbols (public_draw ++ short 1 ++ short 0) ≡ record { items = draw ∷ []; fault = Some BAD_LENGTH }
unfolding all_items
no_kind = refl

-- a name without a zero after it
no_name : global_symbols (16 ∷ 0 ∷ 14 ∷ 17 ∷ [] ++ small 2 ++ small 16 ++ short 1 ++ codes "draw")
    ≡ record { items = record { raw_kind = 0x110e; content = None } ∷ []; fault = None }
unfolding all_items
no_name = refl

-- S_PUB32_ST, whose name has its length in front
older_form : global_symbols (17 ∷ 0 ∷ 9 ∷ 16 ∷ [] ++ small 2 ++ small 16 ++ short 1 ++ 4 ∷ [] ++ codes "draw")
    ≡ record { items = record draw { raw_kind = 0x1009 } ∷ []; fault = None }
unfolding all_items
older_form = refl

-- S_GPROC32: pParent, pEnd, pNext, len 26, DbgStart, DbgEnd, typind 0x1001, off 64, seg 1, flags, and the name
abbrev procedure_f : ℕ → List ℕ
procedure_f end =
    42 ∷ 0 ∷ 16 ∷ 17 ∷ [] ++ small 0 ++ small end ++ small 0 ++ small 26 ++ small 4 ++ small 21 ++ 1 ∷ 16 ∷ 0 ∷ 0 ∷ []
    ++ small 64 ++ short 1 ++ 0 ∷ [] ++ codes "f" ++ 0 ∷ 0 ∷ 0 ∷ 0 ∷ []

-- S_END
abbrev end_symbol : List ℕ
end_symbol = 2 ∷ 0 ∷ 6 ∷ 0 ∷ []

-- after four bytes of its stream the list has a procedure up to 48, a filler up to 56, and the end of the procedure,
-- which is the first symbol at 48 or after it
procedure_and_end : (code : ModuleCode) → module_symbols code 4 (procedure_f 48 ++ filler ++ end_symbol) ≡ record {
  items = record {
    raw_kind = 0x1110;
    content = Some (Procedure (record {
      offset = record { section = 1; offset = 64 };
      len = 26;
      name = codes "f";
      end = record { 0 = 1 };
      type_index = record { 0 = 0x1001 };
    }));
  } ∷ record { raw_kind = 6; content = Some Other } ∷ [];
  fault = None;
}
unfolding all_items
procedure_and_end code = refl

-- the front of a procedure without a block: pParent, pEnd 48, pNext, len 26, DbgStart, DbgEnd, typind or token, off 64
-- and seg 1
abbrev procedure_front : List ℕ → List ℕ
procedure_front typed =
    small 0 ++ small 48 ++ small 0 ++ small 26 ++ small 4 ++ small 21 ++ typed ++ small 64 ++ short 1

-- what the records have of the procedure "f" of this kind and type
abbrev procedure_of_type : ℕ → ℕ → Symbol
procedure_of_type raw_kind type = record {
  raw_kind = raw_kind;
  content = Some (Procedure (record {
    offset = record { section = 1; offset = 64 };
    len = 26;
    name = codes "f";
    end = record { 0 = 1 };
    type_index = record { 0 = type };
  }));
}

-- S_GMANPROC: the front with the token 0x06000001, flags, retReg, and the name, which says no type
managed : (code : ModuleCode)
    → module_symbols code 4 (41 ∷ 0 ∷ 42 ∷ 17 ∷ [] ++ procedure_front (1 ∷ 0 ∷ 0 ∷ 6 ∷ []) ++ 0 ∷ [] ++ short 0
    ++ codes "f" ++ 0 ∷ [])
    ≡ record { items = procedure_of_type 0x1110 0 ∷ []; fault = None }
unfolding all_items
managed code = refl

-- S_LMANPROC
local_managed : (code : ModuleCode)
    → module_symbols code 4 (41 ∷ 0 ∷ 43 ∷ 17 ∷ [] ++ procedure_front (1 ∷ 0 ∷ 0 ∷ 6 ∷ []) ++ 0 ∷ [] ++ short 0
    ++ codes "f" ++ 0 ∷ [])
    ≡ record { items = procedure_of_type 0x110f 0 ∷ []; fault = None }
unfolding all_items
local_managed code = refl

-- S_GPROCIA64: the front with typind 0x1001, retReg 8, flags, and the name
of_itanium : (code : ModuleCode)
    → module_symbols code 4 (41 ∷ 0 ∷ 25 ∷ 17 ∷ [] ++ procedure_front (1 ∷ 16 ∷ 0 ∷ 0 ∷ []) ++ short 8 ++ 0 ∷ []
    ++ codes "f" ++ 0 ∷ [])
    ≡ record { items = procedure_of_type 0x1110 0x1001 ∷ []; fault = None }
unfolding all_items
of_itanium code = refl

-- S_LPROCIA64
local_of_itanium : (code : ModuleCode)
    → module_symbols code 4 (41 ∷ 0 ∷ 24 ∷ 17 ∷ [] ++ procedure_front (1 ∷ 16 ∷ 0 ∷ 0 ∷ []) ++ short 8 ++ 0 ∷ []
    ++ codes "f" ++ 0 ∷ [])
    ≡ record { items = procedure_of_type 0x110f 0x1001 ∷ []; fault = None }
unfolding all_items
local_of_itanium code = refl

-- one that ends before its name
nameless_of_itanium : (code : ModuleCode)
    → module_symbols code 4 (38 ∷ 0 ∷ 24 ∷ 17 ∷ [] ++ procedure_front (1 ∷ 16 ∷ 0 ∷ 0 ∷ []) ++ short 8)
    ≡ record { items = record { raw_kind = 0x110f; content = None } ∷ []; fault = None }
unfolding all_items
nameless_of_itanium code = refl

-- S_THUNK32: pParent, pEnd, pNext, off 32, seg 1, len 5, ord, and the name
a_thunk : (code : ModuleCode)
    → module_symbols code 4 (25 ∷ 0 ∷ 2 ∷ 17 ∷ [] ++ small 0 ++ small 31 ++ small 0 ++ small 32 ++ short 1 ++ short 5
    ++ 0 ∷ [] ++ codes "t" ++ 0 ∷ [])
    ≡ record {
      items = record {
        raw_kind = 0x1102;
        content = Some (Thunk (record {
          offset = record { section = 1; offset = 32 };
          len = 5;
          name = codes "t";
          end = record { 0 = 1 };
        }));
      } ∷ [];
      fault = None;
    }
unfolding all_items
a_thunk code = refl

-- S_SEPCODE: pParent, pEnd, length 9, scf, off 128, offParent 64, sect 2 and sectParent 1
separated : (code : ModuleCode)
    → module_symbols code 4 (30 ∷ 0 ∷ 50 ∷ 17 ∷ [] ++ small 0 ++ small 36 ++ small 9 ++ small 0 ++ small 128 ++ small 64
    ++ short 2 ++ short 1)
    ≡ record {
      items = record {
        raw_kind = 0x1132;
        content = Some (SeparatedCode (record {
          offset = record { section = 2; offset = 128 };
          len = 9;
          parent_offset = record { section = 1; offset = 64 };
          end = record { 0 = 1 };
        }));
      } ∷ [];
      fault = None;
    }
unfolding all_items
separated code = refl

-- S_TRAMPOLINE: trampType, cbThunk 5, offThunk 8, offTarget 64, sectThunk 2 and sectTarget 1
a_jump : (code : ModuleCode)
    → module_symbols code 4 (18 ∷ 0 ∷ 44 ∷ 17 ∷ [] ++ short 0 ++ short 5 ++ small 8 ++ small 64 ++ short 2 ++ short 1)
    ≡ record {
      items = record {
        raw_kind = 0x112c;
        content = Some (SeparatedCode (record {
          offset = record { section = 2; offset = 8 };
          len = 5;
          parent_offset = record { section = 1; offset = 64 };
          end = record { 0 = 0 };
        }));
      } ∷ [];
      fault = None;
    }
unfolding all_items
a_jump code = refl
