-- The change points of a small program, worked by hand.
use Rattle.std.proofs.Common.{◌≡◌, List, [], ◌∷◌, refl}
use Rattle.std.specs.Prelude.{Some, None, Ok}
use Rattle.pdb_records.specs.declared.addresses.AddressRange.{AddressRange}
use Rattle.pdb_records.specs.declared.modules.ModuleInfo.{ModuleInfo}
use Rattle.pdb_records.specs.declared.symbols.Symbol.{Symbol}
use Rattle.pdb_records.specs.declared.symbols.SymbolData.TheVariants.{Procedure, InlineSite, Other}
use Rattle.pdb_functions.specs.GlobalFunctions.{GlobalFunction}
use Rattle.pdb_functions.specs.declared.merged_contributions.ModuleSectionContribution.{ModuleSectionContribution}
use Rattle.pdb_change_points.specs.ChangePoints.{program_points}

-- two sections: 256 bytes from address 4096 on, and all from 8192 on that 32 bits hold
sections : List AddressRange
sections = record { virtual_address = 4096; virtual_size = 256 }
    ∷ record { virtual_address = 8192; virtual_size = 4294967295 } ∷ []

-- 64 bytes of the first section, which came from a module
contributions : List ModuleSectionContribution
contributions = record { section_index = 1; start_offset = 0; end_offset = 64; module_index = 0 } ∷ []

-- two functions without a symbol: one in the second section, and one in a third section that isn't there
globals : List GlobalFunction
globals = record { start = record { section = 2; offset = 16 }; name = None }
    ∷ record { start = record { section = 3; offset = 16 }; name = None } ∷ []

-- a procedure of 32 bytes from offset 8 on, in which a call was replaced by 4 bytes from offset 12 on
symbols : List Symbol
symbols =
    record {
      raw_kind = 4368;
      content = Some (Procedure (record {
        offset = record { section = 1; offset = 8 };
        len = 32;
        name = 102 ∷ [];
        end = record { 0 = 3 };
        type_index = record { 0 = 0 };
      }));
    }
    ∷ record {
      raw_kind = 4429;
      content = Some (InlineSite (record {
        inlinee = record { 0 = 4097 };
        end = record { 0 = 2 };
        rows = record {
          items = record { offset = 12; length = Some 4; file_index = record { 0 = 0 }; line_start = 7 } ∷ [];
          fault = None;
        };
      }));
    }
    ∷ record { raw_kind = 4430; content = Some Other }
    ∷ record { raw_kind = 6; content = Some Other } ∷ []

-- its module, with one line row at offset 20
info : ModuleInfo
info = record {
  symbols = record { items = symbols; fault = None };
  line_program = Ok (record {
    entries = record {
      offset = record { section = 1; offset = 8 };
      lines = record {
        items = record { offset = 20; file_index = record { 0 = 0 }; line_start = 1 } ∷ [];
        fault = None;
      };
    } ∷ [];
    files = [];
  });
  inlinees = record { items = record { index = record { 0 = 4097 } } ∷ []; fault = None };
  imports = Ok [];
  exports = Ok [];
}

-- the end of the second section and the start in the third have no address, and nothing is known of the second module
small_program : program_points sections contributions globals (Ok (Some info) ∷ Ok None ∷ [])
    ≡ 0 ∷ 4096 ∷ 4352 ∷ 8192 ∷ 4096 ∷ 4160 ∷ 8208 ∷ 4104 ∷ 4136 ∷ 4116 ∷ 4108 ∷ 4112 ∷ []
unfolding sections contributions globals symbols info
small_program = refl
