-- What the hasher for names computes: all bytes but the last are mixed, and the last is added to the place that they give.
use Rattle.std.specs.Prelude.{ℕ, ◌+◌, ◌*◌, ◌/◌, ◌%◌, ◌^◌, List}
use Rattle.std.specs.List.{fold}
use Rattle.dl_lit.specs.declared.near.NearHasher.{NearHasher}

abbrev pub fresh : NearHasher
fresh = record { mixed = 0x243f_6a88_85a3_08d3; last = 0 }

-- a byte more: the one that was last is mixed in
abbrev pub after : NearHasher → ℕ → NearHasher
after h byte = record { mixed = ((h.mixed * 0x9e37_79b9_7f4a_7c15) % 2 ^ 64 + h.last) % 2 ^ 64; last = byte }

abbrev pub after_all : NearHasher → List ℕ → NearHasher
after_all = fold after

-- the upper half of what is mixed; the last byte moves it by a few places, and changes the eight bits that are kept as a tag
abbrev pub place : NearHasher → ℕ
place h = ((h.mixed * 0xd6e8_feb8_6659_fd93) % 2 ^ 64) / 2 ^ 32 + h.last * 2 ^ 24 + h.last / 2
