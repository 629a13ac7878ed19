-- Leaves, the kinds of type records, of ids and of numbers in them, and kinds of pointers, by their published numbers.
-- LF_.. and CV_PTR_.. are those of cvinfo.h; leaves of the newer layouts have the names that tools give them.
use Rattle.std.specs.Prelude.{ℕ}

-- the shape of a table of virtual functions
abbrev pub lf_vtshape : ℕ
lf_vtshape = 0x000a

-- a type that is constant or volatile
abbrev pub lf_modifier : ℕ
lf_modifier = 0x1001

-- a pointer or a reference
abbrev pub lf_pointer : ℕ
lf_pointer = 0x1002

-- the type of a function
abbrev pub lf_procedure : ℕ
lf_procedure = 0x1008

-- the type of a method
abbrev pub lf_mfunction : ℕ
lf_mfunction = 0x1009

-- a list of arguments
abbrev pub lf_arglist : ℕ
lf_arglist = 0x1201

-- a list of members
abbrev pub lf_fieldlist : ℕ
lf_fieldlist = 0x1203

-- a bit field
abbrev pub lf_bitfield : ℕ
lf_bitfield = 0x1205

-- methods of one name
abbrev pub lf_methodlist : ℕ
lf_methodlist = 0x1206

-- one value of an enumeration
abbrev pub lf_enumerate : ℕ
lf_enumerate = 0x1502

-- an array
abbrev pub lf_array : ℕ
lf_array = 0x1503

-- a class
abbrev pub lf_class : ℕ
lf_class = 0x1504

-- a structure
abbrev pub lf_structure : ℕ
lf_structure = 0x1505

-- a union
abbrev pub lf_union : ℕ
lf_union = 0x1506

-- an enumeration
abbrev pub lf_enum : ℕ
lf_enum = 0x1507

-- an array whose dimensions are in another record
abbrev pub lf_dimarray : ℕ
lf_dimarray = 0x1508

-- another name of a type
abbrev pub lf_alias : ℕ
lf_alias = 0x150a

-- an interface
abbrev pub lf_interface : ℕ
lf_interface = 0x1519

-- a table of virtual functions
abbrev pub lf_vftable : ℕ
lf_vftable = 0x151d

-- a class of the newer layout
abbrev pub lf_class2 : ℕ
lf_class2 = 0x1608

-- a structure of the newer layout
abbrev pub lf_structure2 : ℕ
lf_structure2 = 0x1609

-- a union of the newer layout
abbrev pub lf_union2 : ℕ
lf_union2 = 0x160a

-- an interface of the newer layout
abbrev pub lf_interface2 : ℕ
lf_interface2 = 0x160b

-- a function
abbrev pub lf_func_id : ℕ
lf_func_id = 0x1601

-- a method
abbrev pub lf_mfunc_id : ℕ
lf_mfunc_id = 0x1602

-- the build command of a module
abbrev pub lf_buildinfo : ℕ
lf_buildinfo = 0x1603

-- a list of texts
abbrev pub lf_substr_list : ℕ
lf_substr_list = 0x1604

-- a text
abbrev pub lf_string_id : ℕ
lf_string_id = 0x1605

-- where a type is defined
abbrev pub lf_udt_src_line : ℕ
lf_udt_src_line = 0x1606

-- where a type is defined, and by which module
abbrev pub lf_udt_mod_src_line : ℕ
lf_udt_mod_src_line = 0x1607

-- the lowest leaf of a number
abbrev pub lf_numeric : ℕ
lf_numeric = 0x8000

-- a signed number of one byte
abbrev pub lf_char : ℕ
lf_char = 0x8000

-- a signed number of two bytes
abbrev pub lf_short : ℕ
lf_short = 0x8001

-- an unsigned number of two bytes
abbrev pub lf_ushort : ℕ
lf_ushort = 0x8002

-- a signed number of four bytes
abbrev pub lf_long : ℕ
lf_long = 0x8003

-- an unsigned number of four bytes
abbrev pub lf_ulong : ℕ
lf_ulong = 0x8004

-- a signed number of eight bytes
abbrev pub lf_quadword : ℕ
lf_quadword = 0x8009

-- an unsigned number of eight bytes
abbrev pub lf_uquadword : ℕ
lf_uquadword = 0x800a

-- a pointer
abbrev pub cv_ptr_mode_ptr : ℕ
cv_ptr_mode_ptr = 0

-- a reference
abbrev pub cv_ptr_mode_lvref : ℕ
cv_ptr_mode_lvref = 1

-- a pointer to a member
abbrev pub cv_ptr_mode_pmem : ℕ
cv_ptr_mode_pmem = 2

-- a pointer to a member function
abbrev pub cv_ptr_mode_pmfunc : ℕ
cv_ptr_mode_pmfunc = 3

-- a reference to a temporary
abbrev pub cv_ptr_mode_rvref : ℕ
cv_ptr_mode_rvref = 4

-- a pointer of 32 bits
abbrev pub cv_ptr_near32 : ℕ
cv_ptr_near32 = 0x0a

-- a pointer of 64 bits
abbrev pub cv_ptr_64 : ℕ
cv_ptr_64 = 0x0c
