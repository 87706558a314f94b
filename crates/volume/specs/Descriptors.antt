-- The fields of each descriptor of the volume, after its tag, in the standard's order and beside their places.
use Rattle.std.specs.Prelude.{ℕ, ◌+◌, ◌-◌, ◌/◌, ◌%◌, ◌^◌, nat_lt, if◌then◌else◌, List, [], ◌∷◌, codes, replicate}
use Rattle.std.specs.Int.{w16, w32, w64, to_le_bytes}
use Rattle.std.specs.List.{concat}
use Rattle.limits.specs.declared.TheConstants.{BLOCK_BYTES, PARTITION_START, FORMAT_BLOCKS, FIRST_UNIQUE}
use Rattle.ecma.specs.Charspec.{cs0}
use Rattle.ecma.specs.EntityId.{developer, domain, entity, udf_suffix}

-- a lower-case hexadecimal digit, and the 16 digits of a number, the highest first
abbrev pub digit : ℕ → ℕ
digit n = if nat_lt n 10 then 48 + n else 87 + n

abbrev pub digits : ℕ → List ℕ
digits n =
    digit (n / 16 ^ 15 % 16) ∷ digit (n / 16 ^ 14 % 16) ∷ digit (n / 16 ^ 13 % 16) ∷ digit (n / 16 ^ 12 % 16)
    ∷ digit (n / 16 ^ 11 % 16) ∷ digit (n / 16 ^ 10 % 16) ∷ digit (n / 16 ^ 9 % 16) ∷ digit (n / 16 ^ 8 % 16)
    ∷ digit (n / 16 ^ 7 % 16) ∷ digit (n / 16 ^ 6 % 16) ∷ digit (n / 16 ^ 5 % 16) ∷ digit (n / 16 ^ 4 % 16)
    ∷ digit (n / 16 ^ 3 % 16) ∷ digit (n / 16 ^ 2 % 16) ∷ digit (n / 16 % 16) ∷ digit (n % 16) ∷ []

-- the primary volume descriptor (ECMA-167 3/10.1), of 512 bytes with its tag: with the dstrings of the volume and of the
-- volume set, and its timestamp
abbrev pub primary_fields : List ℕ → List ℕ → List ℕ → List ℕ
primary_fields volume set stamp = concat (
    to_le_bytes w32 1  -- 16 volume descriptor sequence number
    ∷ to_le_bytes w32 0  -- 20 primary volume descriptor number
    ∷ volume  -- 24 volume identifier
    ∷ to_le_bytes w16 1  -- 56 volume sequence number
    ∷ to_le_bytes w16 1  -- 58 maximum volume sequence number
    ∷ to_le_bytes w16 2  -- 60 interchange level
    ∷ to_le_bytes w16 3  -- 62 maximum interchange level
    ∷ to_le_bytes w32 1  -- 64 character set list
    ∷ to_le_bytes w32 1  -- 68 maximum character set list
    ∷ set  -- 72 volume set identifier
    ∷ cs0  -- 200 descriptor character set
    ∷ cs0  -- 264 explanatory character set
    ∷ replicate 48 0  -- 328 volume abstract, 336 volume copyright notice, 344 application identifier
    ∷ stamp  -- 376 recording date and time
    ∷ developer  -- 388 implementation identifier
    ∷ replicate 92 0  -- 420 implementation use, 484 predecessor volume descriptor sequence location, 488 flags, 490 reserved
    ∷ [])

-- the anchor (ECMA-167 3/10.2), of 512 bytes: the extents of both sequences
abbrev pub anchor_fields : List ℕ
anchor_fields = concat (
    to_le_bytes w32 32_768 ∷ to_le_bytes w32 32  -- 16 main volume descriptor sequence extent
    ∷ to_le_bytes w32 32_768 ∷ to_le_bytes w32 48  -- 24 reserve volume descriptor sequence extent
    ∷ replicate 480 0  -- 32 reserved
    ∷ [])

-- the implementation use volume descriptor (ECMA-167 3/10.4, UDF 2.01 2.2.7), of 512 bytes, with the dstring of the
-- logical volume
abbrev pub use_fields : List ℕ → List ℕ
use_fields volume = concat (
    to_le_bytes w32 2  -- 16 volume descriptor sequence number
    ∷ entity (codes "*UDF LV Info") udf_suffix  -- 20 implementation identifier
    ∷ cs0  -- 52 LVI charset
    ∷ volume  -- 116 logical volume identifier
    ∷ replicate 108 0  -- 244, 280, 316 LV info 1 to 3
    ∷ developer  -- 352 implementation ID
    ∷ replicate 128 0  -- 384 implementation use
    ∷ [])

-- the partition descriptor (ECMA-167 3/10.5), of 512 bytes
abbrev pub partition_fields : ℕ → List ℕ
partition_fields capacity = concat (
    to_le_bytes w32 3  -- 16 volume descriptor sequence number
    ∷ to_le_bytes w16 1  -- 20 partition flags: allocated
    ∷ to_le_bytes w16 0  -- 22 partition number
    ∷ entity (codes "+NSR03") (replicate 8 0)  -- 24 partition contents
    ∷ replicate 128 0  -- 56 partition contents use
    ∷ to_le_bytes w32 2  -- 184 access type: write once
    ∷ to_le_bytes w32 PARTITION_START  -- 188 partition starting location
    ∷ to_le_bytes w32 (capacity - PARTITION_START)  -- 192 partition length
    ∷ developer  -- 196 implementation identifier
    ∷ replicate 284 0  -- 228 implementation use, 356 reserved
    ∷ [])

-- the logical volume descriptor (ECMA-167 3/10.6), of 510 bytes, with the dstring of the logical volume
abbrev pub logical_fields : List ℕ → List ℕ
logical_fields volume = concat (
    to_le_bytes w32 4  -- 16 volume descriptor sequence number
    ∷ cs0  -- 20 descriptor character set
    ∷ volume  -- 84 logical volume identifier
    ∷ to_le_bytes w32 BLOCK_BYTES  -- 212 logical block size
    ∷ domain  -- 216 domain identifier
    ∷ to_le_bytes w32 BLOCK_BYTES ∷ to_le_bytes w32 0 ∷ to_le_bytes w16 1 ∷ replicate 6 0  -- 248 logical volume contents use: the file set descriptor
    ∷ to_le_bytes w32 70  -- 264 map table length
    ∷ to_le_bytes w32 2  -- 268 number of partition maps
    ∷ developer  -- 272 implementation identifier
    ∷ replicate 128 0  -- 304 implementation use
    ∷ to_le_bytes w32 8_192 ∷ to_le_bytes w32 64  -- 432 integrity sequence extent
    -- the physical partition's map (ECMA-167 3/10.7.2)
    ∷ (1 ∷ 6 ∷ [])  -- 440 partition map type, 441 partition map length
    ∷ to_le_bytes w16 1  -- 442 volume sequence number
    ∷ to_le_bytes w16 0  -- 444 partition number
    -- the virtual partition's map (UDF 2.01 2.2.8)
    ∷ (2 ∷ 64 ∷ [])  -- 446 partition map type, 447 partition map length
    ∷ to_le_bytes w16 0  -- 448 reserved
    ∷ entity (codes "*UDF Virtual Partition") udf_suffix  -- 450 partition type identifier
    ∷ to_le_bytes w16 1  -- 482 volume sequence number
    ∷ to_le_bytes w16 0  -- 484 partition number
    ∷ replicate 24 0  -- 486 reserved
    ∷ [])

-- the unallocated space descriptor (ECMA-167 3/10.8), of 24 bytes: with no extents
abbrev pub unallocated_fields : List ℕ
unallocated_fields = concat (
    to_le_bytes w32 5  -- 16 volume descriptor sequence number
    ∷ to_le_bytes w32 0  -- 20 number of allocation descriptors
    ∷ [])

-- the terminating descriptor (ECMA-167 3/10.9), of 512 bytes
abbrev pub terminating_fields : List ℕ
terminating_fields = replicate 496 0  -- 16 reserved

-- the logical volume integrity descriptor (ECMA-167 3/10.10, UDF 2.01 2.2.6), of 142 bytes
abbrev pub integrity_fields : List ℕ → ℕ → List ℕ
integrity_fields stamp capacity = concat (
    stamp  -- 16 recording date and time
    ∷ to_le_bytes w32 0  -- 28 integrity type: open
    ∷ replicate 8 0  -- 32 next integrity extent
    ∷ to_le_bytes w64 FIRST_UNIQUE ∷ replicate 24 0  -- 40 logical volume contents use: the next unique ID, 48 reserved
    ∷ to_le_bytes w32 2  -- 72 number of partitions
    ∷ to_le_bytes w32 46  -- 76 length of implementation use
    ∷ to_le_bytes w32 (capacity - FORMAT_BLOCKS) ∷ to_le_bytes w32 0xFFFF_FFFF  -- 80 free space table: the physical and the virtual partition
    ∷ to_le_bytes w32 (capacity - PARTITION_START) ∷ to_le_bytes w32 0xFFFF_FFFF  -- 88 size table: the physical and the virtual partition
    ∷ developer  -- 96 implementation ID
    ∷ to_le_bytes w32 0  -- 128 number of files
    ∷ to_le_bytes w32 1  -- 132 number of directories
    ∷ to_le_bytes w16 0x0201  -- 136 minimum UDF read revision
    ∷ to_le_bytes w16 0x0201  -- 138 minimum UDF write revision
    ∷ to_le_bytes w16 0x0201  -- 140 maximum UDF write revision
    ∷ [])
