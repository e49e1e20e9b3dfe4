-- A fresh image: 64 blocks of 512 bytes, formatted at time 0 for 8 inodes. docs/FORMAT.md has its bytes.
use Rattle.std.specs.Prelude.{ℕ, ◌==◌, if◌then◌else◌, List, ◌∷◌, ◌++◌, replicate}
use Rattle.byteorder.specs.Endian.{little_bytes, big_bytes}
use Rattle.edge_base.specs.declared.geometry.Request.{Request}
use Rattle.edge_base.specs.layout.Spelling.{master_signature, metaroot_signature, inode_signature}
use Rattle.edge_disk.specs.Image.{Image}

abbrev pub fresh_geometry : Request
fresh_geometry = record { block_size = 512; blocks = 64; inodes = 8; name_max = 28; direct = 4; indirect = 32 }

abbrev pub zeros : ℕ → List ℕ
zeros n = replicate n 0

-- a node: its signature, its check word, and its bytes from 8 on
abbrev pub node_bytes : ℕ → ℕ → List ℕ → List ℕ
node_bytes signature word rest = big_bytes 4 signature ++ little_bytes 4 word ++ rest

-- version 1, 8 inodes, 64 blocks, names of 28 bytes, 4 direct and 32 indirect entries, blocks of 2 ^ 9 bytes, flag 1
abbrev pub fresh_master : List ℕ
fresh_master = node_bytes master_signature 0xC2A68702
    (zeros 8 ++ little_bytes 4 1 ++ zeros 12 ++ little_bytes 4 8 ++ little_bytes 4 64 ++ little_bytes 2 28 ++ little_bytes 2 4 ++ little_bytes 2 32
    ++ 9 ∷ 1 ∷ zeros 464)

-- sequence number 1, 45 free blocks, 7 free inodes, block 19 is the next to try, and block 3 is used
abbrev pub fresh_metaroot : List ℕ
fresh_metaroot = node_bytes metaroot_signature 0x86F8DD92
    (little_bytes 8 1 ++ little_bytes 4 45 ++ little_bytes 4 7 ++ little_bytes 4 19 ++ zeros 4 ++ 1 ∷ zeros 479)

-- sequence number 1, size 0, a directory with one link, parent 0, no entries
abbrev pub fresh_root : List ℕ
fresh_root = node_bytes inode_signature 0xC2BEDB9E (little_bytes 8 1 ++ zeros 8 ++ little_bytes 2 2 ++ little_bytes 2 1 ++ zeros 484)

abbrev pub fresh_block : ℕ → List ℕ
fresh_block b = if b == 0 then fresh_master else if b == 1 then fresh_metaroot else if b == 3 then fresh_root else zeros 512

abbrev pub fresh_image : Image
fresh_image = record { blocks = 64; block_size = 512; block = fresh_block }
