-- The header of a block request in memory.
use Rattle.std.specs.Prelude.{◌≡◌, ℕ, ◌<◌, ◌^◌, ◌++◌, List}
use Rattle.byteorder.specs.Endian.{little_bytes}
use Rattle.vd_num.specs.Field.{field_at}
use Rattle.blk_proto.specs.declared.header.Header.{Header}

-- the header's 16 bytes: type, a reserved word, and sector, each with its lowest byte first
unfoldable pub header_bytes : Header → List ℕ
header_bytes h = little_bytes 4 h.kind ++ (little_bytes 4 h.reserved ++ little_bytes 8 h.sector)

-- each field is the number at its offset
pub record IsAt (bytes : List ℕ) (h : Header) : Type 0 where
  pub kind : h.kind ≡ field_at 4 bytes 0
  pub reserved : h.reserved ≡ field_at 4 bytes 4
  pub sector : h.sector ≡ field_at 8 bytes 8

-- each field has a value that its bytes can hold
pub record Fits (h : Header) : Type 0 where
  pub kind : h.kind < 2 ^ 32
  pub reserved : h.reserved < 2 ^ 32
  pub sector : h.sector < 2 ^ 64
