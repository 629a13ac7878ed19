-- Worked examples of containers: files written by hand, and what they mean.
use Rattle.std.proofs.Common.{◌≡◌, ℕ, List, [], ◌∷◌, ◌++◌, take, refl}
use Rattle.std.specs.Prelude.{Ok, Err, codes}
use Rattle.std.proofs.Math.ListN.{replicate}
use Rattle.pdb_msf.specs.declared.container_error.ContainerError.TheVariants as fault
use Rattle.pdb_msf.specs.declared.faults.TheConstants.{BLOCK_OUTSIDE, CUT, NO_STREAM}
use Rattle.pdb_msf.specs.ContainerError.{other_fault}
use Rattle.pdb_msf.specs.Directory.{block_map, directory, sizes_in}
use Rattle.pdb_msf.specs.Msf.{Msf, container, numbers_place, size_of, stream_of}
use Rattle.pdb_msf.specs.NumberLists.{listed}
use Rattle.pdb_msf.specs.Streams.{stream_inside}
use Rattle.pdb_msf.specs.Superblock.{is_block_size, is_msf, superblock}

-- a number by its lowest two bytes, as four bytes
abbrev u32 : ℕ → ℕ → List ℕ
u32 low high = low ∷ high ∷ 0 ∷ 0 ∷ []

-- a number below 256, as four bytes
abbrev small : ℕ → List ℕ
small number = u32 number 0

-- 512, as four bytes
abbrev five_hundred_twelve : List ℕ
five_hundred_twelve = u32 0 2

-- the size of a stream that isn't there
abbrev no_stream : List ℕ
no_stream = 255 ∷ 255 ∷ 255 ∷ 255 ∷ []

-- a block of 512 bytes that begins with these, with zeros behind them
abbrev block_of : List ℕ → List ℕ
block_of bytes = take 512 (bytes ++ replicate 512 0)

-- the magic, a size of blocks, the block with the map of free blocks, the number of blocks, the number of the
-- directory's bytes, an unused number, and the block with the block map
abbrev superblock_of : List ℕ → ℕ → List ℕ → ℕ → List ℕ
superblock_of size blocks directory_size map =
    codes "Microsoft C/C++ MSF 7.00" ++ 13 ∷ 10 ∷ 26 ∷ 68 ∷ 83 ∷ 0 ∷ 0 ∷ 0 ∷ []
    ++ size ++ small 1 ++ small blocks ++ directory_size ++ small 0 ++ small map

-- three streams: one that isn't there, one of three bytes, and one of 514 in the blocks 5 and 4
abbrev directory_bytes : List ℕ
directory_bytes = small 3 ++ no_stream ++ small 3 ++ u32 2 2 ++ small 3 ++ small 5 ++ small 4

-- eight blocks: superblock, two maps of free blocks, the second stream, the end of the third one and its front, the
-- block map, and the directory
abbrev file_with : List ℕ → List ℕ
file_with listing =
    block_of (superblock_of five_hundred_twelve 8 (small 28) 6) ++ block_of [] ++ block_of []
    ++ block_of (97 ∷ 98 ∷ 99 ∷ 100 ∷ []) ++ block_of (2 ∷ 3 ∷ 4 ∷ []) ++ replicate 512 1
    ++ block_of (small 7) ++ block_of listing

abbrev file : List ℕ
file = file_with directory_bytes

-- what the file means
abbrev msf : Msf
msf = record {
  file = file;
  block_size = 512;
  directory = directory_bytes;
  sizes = 4294967295 ∷ 3 ∷ 514 ∷ [];
}

file_means : container file ≡ Ok msf
unfolding container superblock is_msf is_block_size directory block_map sizes_in listed stream_inside
file_means = refl

-- a stream that isn't there
first_stream : stream_of msf 0 ≡ Err NO_STREAM
unfolding stream_of size_of listed stream_inside numbers_place
first_stream = refl

-- a stream in one block, of which the rest is no part
second_stream : stream_of msf 1 ≡ Ok (97 ∷ 98 ∷ 99 ∷ [])
unfolding stream_of size_of listed stream_inside numbers_place
second_stream = refl

-- a stream in two blocks, of which the second stands before the first
third_stream : stream_of msf 2 ≡ Ok (replicate 512 1 ++ 2 ∷ 3 ∷ [])
unfolding stream_of size_of listed stream_inside numbers_place
third_stream = refl

-- a number past the last stream
fourth_stream : stream_of msf 3 ≡ Err NO_STREAM
unfolding stream_of size_of listed stream_inside numbers_place
fourth_stream = refl

-- a directory of 804 bytes in two blocks, of which the second stands before the first: 200 streams that aren't there
abbrev wide_directory : List ℕ
wide_directory = small 200 ++ replicate 800 255

two_blocks_of_directory : container (block_of (superblock_of five_hundred_twelve 4 (u32 36 3) 1)
    ++ block_of (small 3 ++ small 2) ++ block_of (replicate 292 255) ++ take 512 wide_directory)
    ≡ Ok (record {
      file = block_of (superblock_of five_hundred_twelve 4 (u32 36 3) 1)
          ++ block_of (small 3 ++ small 2) ++ block_of (replicate 292 255) ++ take 512 wide_directory;
      block_size = 512;
      directory = wide_directory;
      sizes = replicate 200 4294967295;
    })
unfolding container superblock is_msf is_block_size directory block_map sizes_in listed stream_inside
two_blocks_of_directory = refl

-- two streams, of which the first has a block that the file doesn't have, and the second more blocks than the directory
-- has numbers
abbrev broken_streams : Msf
broken_streams = record msf {
  directory = small 2 ++ small 3 ++ u32 0 14 ++ small 8 ++ small 3 ++ small 4 ++ small 5;
  sizes = 3 ∷ 3584 ∷ [];
}

block_outside : stream_of broken_streams 0 ≡ Err BLOCK_OUTSIDE
unfolding stream_of size_of listed stream_inside numbers_place
block_outside = refl

numbers_cut : stream_of broken_streams 1 ≡ Err CUT
unfolding stream_of size_of listed stream_inside numbers_place
numbers_cut = refl

-- a file that ends in the block with its directory
directory_cut : container (take 3600 file) ≡ Err fault.CutShort
unfolding container superblock is_msf is_block_size directory block_map sizes_in listed stream_inside
directory_cut = refl

-- a stream of 4097 bytes, in a file of 4096
stream_too_long : container (file_with (small 1 ++ u32 1 16)) ≡ Err fault.StreamsTooLong
unfolding container superblock is_msf is_block_size directory block_map sizes_in listed stream_inside
stream_too_long = refl

-- a superblock alone, of blocks of 100 bytes, and one that ends early
blocks_of_no_size : container (superblock_of (small 100) 8 (small 28) 6) ≡ Err fault.NotAPdbFile
unfolding container superblock is_msf is_block_size
blocks_of_no_size = refl

superblock_cut : container (take 55 (superblock_of five_hundred_twelve 8 (small 28) 6)) ≡ Err fault.CutShort
unfolding container superblock is_msf is_block_size
superblock_cut = refl

-- a program
program : container (77 ∷ 90 ∷ 144 ∷ []) ≡ Err fault.Program
unfolding container superblock is_msf other_fault
program = refl
