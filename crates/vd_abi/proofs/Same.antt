-- What is read in the bytes determines the value.
use Rattle.std.proofs.Common.{◌≡◌, ℕ, zero, suc, ◌≤◌, ◌⊎◌, inl, inr, List, sym, refl, ◌∙◌, arith, rules}
use Rattle.vd_abi.proofs.Layouts.{InOrder}
use Rattle.vd_abi.specs.Layout.{ShowsEach}
use Rattle.vd_abi.specs.Structs.{api_version, dev_name, dev_config, config_data, vq_config, iotlb_entry, iova_umem, iova_info, request, response, IsRequest}
use Rattle.vd_abi.specs.declared.control.ApiVersion.{ApiVersion}
use Rattle.vd_abi.specs.declared.control.DevName.{DevName}
use Rattle.vd_abi.specs.declared.control.DevConfig.{DevConfig}
use Rattle.vd_abi.specs.declared.device.ConfigData.{ConfigData}
use Rattle.vd_abi.specs.declared.device.VqConfig.{VqConfig}
use Rattle.vd_abi.specs.declared.iova.IotlbEntry.{IotlbEntry}
use Rattle.vd_abi.specs.declared.iova.IovaUmem.{IovaUmem}
use Rattle.vd_abi.specs.declared.iova.IovaInfo.{IovaInfo}
use Rattle.vd_abi.specs.declared.message.Request.{Request}
use Rattle.vd_abi.specs.declared.message.Response.{Response}

pub same_api_version : (xs : List ℕ) (a b : ApiVersion) → ShowsEach xs (api_version a) → ShowsEach xs (api_version b) → a ≡ b
same_api_version xs a b p q =
    let same : ◌≡◌ {A = ApiVersion} (record { version = a.version }) (record { version = b.version }) = cc in
    same

pub same_dev_name : (xs : List ℕ) (a b : DevName) → ShowsEach xs (dev_name a) → ShowsEach xs (dev_name b) → a ≡ b
same_dev_name xs a b p q =
    let same : ◌≡◌ {A = DevName} (record { name = a.name }) (record { name = b.name }) = cc in
    same

pub same_dev_config : (xs : List ℕ) (a b : DevConfig) → ShowsEach xs (dev_config a) → ShowsEach xs (dev_config b) → a ≡ b
same_dev_config xs a b p q =
    let same : ◌≡◌ {A = DevConfig} (record { name = a.name; vendor_id = a.vendor_id; device_id = a.device_id; features = a.features; vq_num = a.vq_num; vq_align = a.vq_align; config = a.config }) (record { name = b.name; vendor_id = b.vendor_id; device_id = b.device_id; features = b.features; vq_num = b.vq_num; vq_align = b.vq_align; config = b.config }) = cc in
    same

pub same_config_data : (xs : List ℕ) (a b : ConfigData) → ShowsEach xs (config_data a) → ShowsEach xs (config_data b) → a ≡ b
same_config_data xs a b p q =
    let same : ◌≡◌ {A = ConfigData} (record { offset = a.offset; bytes = a.bytes }) (record { offset = b.offset; bytes = b.bytes }) = cc in
    same

pub same_vq_config : (xs : List ℕ) (a b : VqConfig) → ShowsEach xs (vq_config a) → ShowsEach xs (vq_config b) → a ≡ b
same_vq_config xs a b p q =
    let same : ◌≡◌ {A = VqConfig} (record { index = a.index; max_size = a.max_size }) (record { index = b.index; max_size = b.max_size }) = cc in
    same

pub same_iotlb_entry : (xs : List ℕ) (a b : IotlbEntry) → ShowsEach xs (iotlb_entry a) → ShowsEach xs (iotlb_entry b) → a ≡ b
same_iotlb_entry xs a b p q =
    let same : ◌≡◌ {A = IotlbEntry} (record { offset = a.offset; start = a.start; last = a.last; perm = a.perm }) (record { offset = b.offset; start = b.start; last = b.last; perm = b.perm }) = cc in
    same

pub same_iova_umem : (xs : List ℕ) (a b : IovaUmem) → ShowsEach xs (iova_umem a) → ShowsEach xs (iova_umem b) → a ≡ b
same_iova_umem xs a b p q =
    let same : ◌≡◌ {A = IovaUmem} (record { uaddr = a.uaddr; iova = a.iova; size = a.size }) (record { uaddr = b.uaddr; iova = b.iova; size = b.size }) = cc in
    same

pub same_iova_info : (xs : List ℕ) (a b : IovaInfo) → ShowsEach xs (iova_info a) → ShowsEach xs (iova_info b) → a ≡ b
same_iova_info xs a b p q =
    let same : ◌≡◌ {A = IovaInfo} (record { start = a.start; last = a.last; capability = a.capability }) (record { start = b.start; last = b.last; capability = b.capability }) = cc in
    same

pub same_response : (xs : List ℕ) (a b : Response) → ShowsEach xs (response a) → ShowsEach xs (response b) → a ≡ b
same_response xs a b p q =
    let same : ◌≡◌ {A = Response} (record { request_id = a.request_id; result = a.result; index = a.index; avail = a.avail }) (record { request_id = b.request_id; result = b.result; index = b.index; avail = b.avail }) = cc in
    same

-- the three types of a request
three : (k : ℕ) → k ≤ 2 → (k ≡ 0) ⊎ (k ≡ 1) ⊎ (k ≡ 2)
three zero h = inl refl
three (suc zero) h = inr (inl refl)
three (suc (suc zero)) h = inr (inr refl)
three (suc (suc (suc k))) h = absurd (omega arith)

-- the fields of a request stand in order, whatever its type
pub request-in_order : (r : Request) → IsRequest r → InOrder 0 152 (request r)
request-in_order r is_one =
    elim (three r.kind is_one.kind) [
      | inl e ↦ rw e (search rules)
      | inr rest ↦ elim rest [ inl e ↦ rw e (search rules) | inr e ↦ rw e (search rules) ]
    ]

pub same_request : (xs : List ℕ) (a b : Request) → IsRequest a → IsRequest b → ShowsEach xs (request a) → ShowsEach xs (request b) → a ≡ b
same_request xs a b ia ib p q =
    let as_b : b.kind ≡ a.kind = q.0 ∙ sym p.0 in
    let same : ◌≡◌ {A = Request} (record { kind = a.kind; request_id = a.request_id; index = a.index; status = a.status; start = a.start; last = a.last }) (record { kind = b.kind; request_id = b.request_id; index = b.index; status = b.status; start = b.start; last = b.last }) =
    elim (three a.kind ia.kind) [
      | inl e ↦
          let f : b.kind ≡ 0 = as_b ∙ e in
          let pa = rw e at p in
          let qb = rw f at q in
          let ra = rw e at ia.others in
          let rb = rw f at ib.others in
          cc
      | inr rest ↦ elim rest [
        | inl e ↦
            let f : b.kind ≡ 1 = as_b ∙ e in
            let pa = rw e at p in
            let qb = rw f at q in
            let ra = rw e at ia.others in
            let rb = rw f at ib.others in
            cc
        | inr e ↦
            let f : b.kind ≡ 2 = as_b ∙ e in
            let pa = rw e at p in
            let qb = rw f at q in
            let ra = rw e at ia.others in
            let rb = rw f at ib.others in
            cc
      ]
    ] in
    same
