-- Published numbers in the debug information stream.
use Rattle.std.specs.Prelude.{ℕ}

-- the version of 28-byte section contributions (DBISCImpv60)
abbrev pub dbi_sc_version_60 : ℕ
dbi_sc_version_60 = 0xf12e_ba2d

-- the version of 32-byte section contributions (DBISCImpv2)
abbrev pub dbi_sc_version_2 : ℕ
dbi_sc_version_2 = 0xf131_51e4

-- the stream number that means no stream (snNil)
abbrev pub sn_nil : ℕ
sn_nil = 65535

-- the machine type of Itanium
abbrev pub image_file_machine_ia64 : ℕ
image_file_machine_ia64 = 0x0200

-- the machine type of RISC-V with 64-bit registers
abbrev pub image_file_machine_riscv64 : ℕ
image_file_machine_riscv64 = 0x5064

-- the machine type of RISC-V with 128-bit registers
abbrev pub image_file_machine_riscv128 : ℕ
image_file_machine_riscv128 = 0x5128

-- the machine type of x64
abbrev pub image_file_machine_amd64 : ℕ
image_file_machine_amd64 = 0x8664

-- the machine type of Arm64EC, Arm64 code that can call x64 code
abbrev pub image_file_machine_arm64ec : ℕ
image_file_machine_arm64ec = 0xa641

-- the machine type of Arm64
abbrev pub image_file_machine_arm64 : ℕ
image_file_machine_arm64 = 0xaa64

-- the flag of a section whose code may be executed
abbrev pub image_scn_mem_execute : ℕ
image_scn_mem_execute = 0x2000_0000
