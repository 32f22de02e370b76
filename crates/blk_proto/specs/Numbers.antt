-- The numbers of request types and of statuses.
use Rattle.std.specs.Prelude.{ℕ}
use Rattle.blk_proto.specs.declared.number.BlkType.{BlkType}
use Rattle.blk_proto.specs.declared.number.BlkType.TheVariants as kind
use Rattle.blk_proto.specs.declared.number.BlkStatus.{BlkStatus}
use Rattle.blk_proto.specs.declared.number.BlkStatus.TheVariants as status

-- VIRTIO_BLK_T_IN, _OUT, _FLUSH and _GET_ID
abbrev pub type_number : BlkType → ℕ
type_number kind.In = 0
type_number kind.Out = 1
type_number kind.Flush = 4
type_number kind.GetId = 8

-- VIRTIO_BLK_S_OK, _IOERR and _UNSUPP
abbrev pub status_number : BlkStatus → ℕ
status_number status.Ok = 0
status_number status.IoErr = 1
status_number status.Unsupp = 2
