-- The structs and rest arguments of `linux/vduse.h`: the fields of each, in the order in which they
-- stand, and which bytes are one. What no field covers is padding, or a part of a union that this
-- value doesn't use.
use Rattle.std.specs.Prelude.{◌≡◌, ℕ, ◌+◌, ◌≤◌, ◌==◌, ◌&&◌, nat_le, if◌then◌else◌, Bool, List, [], ◌∷◌, length, drop, slice_range}
use Rattle.std.specs.List.{AllByRecursion}
use Rattle.vd_num.specs.Field.{field_at}
use Rattle.vd_model.specs.Raw.{are_zero}
use Rattle.vd_abi.specs.Layout.{StructField, number, text, rest, reserved}
use Rattle.vd_abi.specs.declared.control.ApiVersion.{ApiVersion}
use Rattle.vd_abi.specs.declared.control.DevName.{DevName}
use Rattle.vd_abi.specs.declared.control.DevConfig.{DevConfig}
use Rattle.vd_abi.specs.declared.device.ConfigData.{ConfigData}
use Rattle.vd_abi.specs.declared.device.VqConfig.{VqConfig}
use Rattle.vd_abi.specs.declared.iova.IotlbEntry.{IotlbEntry}
use Rattle.vd_abi.specs.declared.iova.IovaUmem.{IovaUmem}
use Rattle.vd_abi.specs.declared.iova.IovaInfo.{IovaInfo}
use Rattle.vd_abi.specs.declared.message.Request.{Request}
use Rattle.vd_abi.specs.declared.message.Response.{Response}

-- the argument of VDUSE_SET_API_VERSION
abbrev pub api_version : ApiVersion → List StructField
api_version v = number 0 8 v.version ∷ []

abbrev pub is_api_version : List ℕ → Bool
is_api_version bytes = length bytes == 8

-- the argument of VDUSE_DESTROY_DEV
abbrev pub dev_name : DevName → List StructField
dev_name d = text 0 256 d.name ∷ []

abbrev pub is_dev_name : List ℕ → Bool
is_dev_name bytes = length bytes == 256

-- struct vduse_dev_config
abbrev pub dev_config : DevConfig → List StructField
dev_config c =
    text 0 256 c.name
    ∷ number 256 4 c.vendor_id
    ∷ number 260 4 c.device_id
    ∷ number 264 8 c.features
    ∷ number 272 4 c.vq_num
    ∷ number 276 4 c.vq_align
    ∷ reserved 280 52
    ∷ number 332 4 (length c.config)
    ∷ rest 336 c.config
    ∷ []

abbrev pub is_dev_config : List ℕ → Bool
is_dev_config bytes =
    nat_le 336 (length bytes) && (length bytes == 336 + field_at 4 bytes 332) && are_zero (slice_range bytes 280 332)

-- struct vduse_config_data
abbrev pub config_data : ConfigData → List StructField
config_data c = number 0 4 c.offset ∷ number 4 4 (length c.bytes) ∷ rest 8 c.bytes ∷ []

-- struct vduse_vq_config
abbrev pub vq_config : VqConfig → List StructField
vq_config c = number 0 4 c.index ∷ number 4 2 c.max_size ∷ reserved 6 26 ∷ []

abbrev pub is_vq_config : List ℕ → Bool
is_vq_config bytes = (length bytes == 32) && are_zero (drop 6 bytes)

-- struct vduse_iotlb_entry
abbrev pub iotlb_entry : IotlbEntry → List StructField
iotlb_entry e = number 0 8 e.offset ∷ number 8 8 e.start ∷ number 16 8 e.last ∷ number 24 1 e.perm ∷ []

abbrev pub is_iotlb_entry : List ℕ → Bool
is_iotlb_entry bytes = length bytes == 32

-- struct vduse_iova_umem
abbrev pub iova_umem : IovaUmem → List StructField
iova_umem u = number 0 8 u.uaddr ∷ number 8 8 u.iova ∷ number 16 8 u.size ∷ reserved 24 24 ∷ []

abbrev pub is_iova_umem : List ℕ → Bool
is_iova_umem bytes = (length bytes == 48) && are_zero (drop 24 bytes)

-- struct vduse_iova_info
abbrev pub iova_info : IovaInfo → List StructField
iova_info i = number 0 8 i.start ∷ number 8 8 i.last ∷ number 16 8 i.capability ∷ reserved 24 24 ∷ []

abbrev pub is_iova_info : List ℕ → Bool
is_iova_info bytes = (length bytes == 48) && are_zero (drop 24 bytes)

-- the part of a request's union that its type uses: VDUSE_GET_VQ_STATE, VDUSE_SET_STATUS or
-- VDUSE_UPDATE_IOTLB
abbrev pub request_union : Request → List StructField
request_union r =
    if r.kind == 0 then number 24 4 r.index ∷ []
    else if r.kind == 1 then number 24 1 r.status ∷ []
    else number 24 8 r.start ∷ number 32 8 r.last ∷ []

-- struct vduse_dev_request
abbrev pub request : Request → List StructField
request r = number 0 4 r.kind ∷ number 4 4 r.request_id ∷ request_union r

abbrev pub is_request : List ℕ → Bool
is_request bytes = (length bytes == 152) && nat_le (field_at 4 bytes 0) 2

-- what the request keeps for the types that it isn't of
abbrev pub unused : Request → List ℕ
unused r =
    if r.kind == 0 then r.status ∷ r.start ∷ r.last ∷ []
    else if r.kind == 1 then r.index ∷ r.start ∷ r.last ∷ []
    else r.index ∷ r.status ∷ []

-- the type is one of the three, and what belongs to another is 0
pub record IsRequest (r : Request) : Type 0 where
  pub kind : r.kind ≤ 2
  pub others : AllByRecursion (λ n. n ≡ 0) (unused r)

-- struct vduse_dev_response
abbrev pub response : Response → List StructField
response r =
    number 0 4 r.request_id ∷ number 4 4 r.result ∷ number 24 4 r.index ∷ number 28 2 r.avail ∷ []

abbrev pub is_response : List ℕ → Bool
is_response bytes = length bytes == 152
