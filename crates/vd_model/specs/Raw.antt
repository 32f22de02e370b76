-- The structs of linux/vduse.h that a line carries or is answered, as lists of bytes.
use Rattle.std.specs.Prelude.{ℕ, ◌+◌, ◌-◌, List, [], ◌∷◌, ◌++◌, length, drop, replicate, slice_range, Bool, ◌==◌, ◌&&◌, nat_le, if◌then◌else◌, Option, Some, None}
use Rattle.std.specs.List.{list_all, before_first}
use Rattle.std.specs.Int.{bytes_low_first}
use Rattle.vd_num.specs.Field.{field_at}
use Rattle.vd_model.specs.declared.message.Body.{Body}
use Rattle.vd_model.specs.declared.message.Body.TheVariants as body
use Rattle.vd_model.specs.declared.memory.Region.{Region}
use Rattle.vd_model.specs.declared.step.ControlStep.{ControlStep}
use Rattle.vd_model.specs.declared.step.ControlStep.TheVariants as control
use Rattle.vd_model.specs.declared.step.NodeStep.{NodeStep}
use Rattle.vd_model.specs.declared.step.NodeStep.TheVariants as node
use Rattle.vd_model.specs.declared.step.AreaStep.{AreaStep}
use Rattle.vd_model.specs.declared.step.AreaStep.TheVariants as area

-- the n bytes of a number, the lowest first
abbrev pub little_bytes : ℕ → ℕ → List ℕ
little_bytes n value = bytes_low_first 0 n value

-- each of the bytes is zero
abbrev pub are_zero : List ℕ → Bool
are_zero bytes = list_all (λ byte. byte == 0) bytes

-- the bytes with zeros behind them, n in all
abbrev pub with_padding : ℕ → List ℕ → List ℕ
with_padding n bytes = bytes ++ replicate (n - length bytes) 0

-- some value, where a test of the bytes holds
abbrev pub some_if : {X : Type 0} → Bool → X → Option X
some_if test value = if test then Some value else None

-- ---- messages

-- the type of a message, and what it has in its union
abbrev pub kind_of : Body → ℕ
kind_of (body.VqState index) = 0
kind_of (body.Status value) = 1
kind_of (body.Iotlb range) = 2

abbrev pub union_of : Body → List ℕ
union_of (body.VqState index) = little_bytes 4 index
union_of (body.Status value) = value ∷ []
union_of (body.Iotlb range) = little_bytes 8 range.start ++ little_bytes 8 range.last

-- struct vduse_dev_request: type, request_id, reserved, and the union
abbrev pub request_bytes : ℕ → Body → List ℕ
request_bytes id body = with_padding 152 (little_bytes 4 (kind_of body) ++ little_bytes 4 id ++ replicate 16 0 ++ union_of body)

-- struct vduse_dev_response: request_id, result, reserved, and the union with a queue's index and available index
abbrev pub response_step : List ℕ → NodeStep
response_step bytes = node.Answer (field_at 4 bytes 0) (field_at 4 bytes 4) (field_at 2 bytes 28)

-- ---- the control node

-- the name in a field of 256 bytes: up to the first zero, the last byte counting as zero
abbrev pub name_in : List ℕ → List ℕ
name_in bytes = before_first (λ byte. byte == 0) (slice_range bytes 0 255)

-- struct vduse_dev_config: its length is right and its reserved words are zero
abbrev pub is_config : List ℕ → Bool
is_config bytes = nat_le 336 (length bytes) && (length bytes == 336 + field_at 4 bytes 332) && are_zero (slice_range bytes 280 332)

abbrev pub config_step : List ℕ → ControlStep
config_step bytes =
    control.Create (name_in bytes) (field_at 4 bytes 256) (field_at 4 bytes 260) (field_at 8 bytes 264) (field_at 4 bytes 272) (field_at 4 bytes 276) (drop 336 bytes)

-- the plain line that a raw line of the control node stands for: a version, a creation or a destruction
abbrev pub control_step : ℕ → List ℕ → Option ControlStep
control_step number bytes =
    if number == 1 then some_if (length bytes == 8) (control.SetVersion (field_at 8 bytes 0))
    else if number == 2 then some_if (is_config bytes) (config_step bytes)
    else if number == 3 then some_if (length bytes == 256) (control.Destroy (name_in bytes))
    else if number == 0 then some_if (length bytes == 0) control.Version
    else None

-- ---- the device node

-- what an ioctl stands for: a plain line of the node or of the area, a look-up whose answer is a struct, or the
-- features as a number of eight bytes
pub data Ioctl : Type 0 where
  Plain_node : NodeStep → Ioctl
  Plain_area : AreaStep → Ioctl
  Find_entry : ℕ → ℕ → Ioctl
  Find_info : ℕ → ℕ → Ioctl
  Tell_features : Ioctl

-- struct vduse_config_data: offset, length, and the bytes
abbrev pub is_config_data : List ℕ → Bool
is_config_data bytes = nat_le 8 (length bytes) && (length bytes == 8 + field_at 4 bytes 4)

-- struct vduse_iova_umem and struct vduse_iova_info: three numbers and reserved words
abbrev pub is_three_numbers : List ℕ → Bool
is_three_numbers bytes = (length bytes == 48) && are_zero (drop 24 bytes)

abbrev pub ioctl_of : ℕ → List ℕ → Option Ioctl
ioctl_of number bytes =
    if number == 0x10 then some_if (length bytes == 32) (Find_entry (field_at 8 bytes 8) (field_at 8 bytes 16))
    else if number == 0x11 then some_if (length bytes == 0) Tell_features
    else if number == 0x12 then some_if (is_config_data bytes) (Plain_node (node.SetConfig (field_at 4 bytes 0) (drop 8 bytes)))
    else if number == 0x13 then some_if (length bytes == 0) (Plain_node node.ConfigIrq)
    else if number == 0x14 then some_if ((length bytes == 32) && are_zero (drop 6 bytes)) (Plain_node (node.VqSetup (field_at 4 bytes 0) (field_at 2 bytes 4)))
    else if number == 0x17 then some_if (length bytes == 4) (Plain_node (node.Irq (field_at 4 bytes 0)))
    else if number == 0x18 then some_if (is_three_numbers bytes) (Plain_area (area.RegUmem (field_at 8 bytes 0) (field_at 8 bytes 8) (field_at 8 bytes 16)))
    else if number == 0x19 then some_if (is_three_numbers bytes) (Plain_area (area.DeregUmem (field_at 8 bytes 8) (field_at 8 bytes 16)))
    else if number == 0x1a then some_if (is_three_numbers bytes) (Find_info (field_at 8 bytes 0) (field_at 8 bytes 8))
    else None

-- struct vduse_iotlb_entry: offset, start, last and permission
abbrev pub entry_bytes : Region → List ℕ
entry_bytes r = with_padding 32 (little_bytes 8 r.offset ++ little_bytes 8 r.start ++ little_bytes 8 r.last ++ r.perm ∷ [])

-- struct vduse_iova_info: start, last and capability
abbrev pub info_bytes : Region → ℕ → List ℕ
info_bytes r capability = with_padding 48 (little_bytes 8 r.start ++ little_bytes 8 r.last ++ little_bytes 8 capability)
