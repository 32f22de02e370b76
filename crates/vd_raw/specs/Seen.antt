-- What contracts see of the structs.
use Rattle.std.specs.Prelude.{ℕ}
use Rattle.vd_model.specs.declared.message.Body.{Body}
use Rattle.vd_model.specs.declared.message.Body.TheVariants as body
use Rattle.vd_model.specs.declared.step.NodeStep.{NodeStep}
use Rattle.vd_model.specs.declared.step.NodeStep.TheVariants as node
use Rattle.vd_model.specs.declared.memory.Region.{Region}
use Rattle.vd_model.specs.Raw as raw
use Rattle.vd_abi.specs.declared.message.Request.{Request}
use Rattle.vd_abi.specs.declared.message.Response.{Response}
use Rattle.vd_abi.specs.declared.iova.IotlbEntry.{IotlbEntry}
use Rattle.vd_abi.specs.declared.iova.IovaInfo.{IovaInfo}
use Rattle.vd_raw.specs.declared.ioctl.Ioctl.{Ioctl}
use Rattle.vd_raw.specs.declared.ioctl.Ioctl.TheVariants as code

-- what an ioctl stands for
abbrev pub seen_as : Ioctl → raw.Ioctl
seen_as (code.Node step) = raw.Plain_node step
seen_as (code.Area step) = raw.Plain_area step
seen_as (code.Entry start last) = raw.Find_entry start last
seen_as (code.Info start last) = raw.Find_info start last
seen_as code.Features = raw.Tell_features

-- a message as a struct
abbrev pub request_seen : ℕ → Body → Request
request_seen id (body.VqState index) = record { kind = 0; request_id = id; index = index; status = 0; start = 0; last = 0 }
request_seen id (body.Status value) = record { kind = 1; request_id = id; index = 0; status = value; start = 0; last = 0 }
request_seen id (body.Iotlb range) = record { kind = 2; request_id = id; index = 0; status = 0; start = range.start; last = range.last }

-- a region as a struct, and what it can do
abbrev pub entry_seen : Region → IotlbEntry
entry_seen r = record { offset = r.offset; start = r.start; last = r.last; perm = r.perm }

abbrev pub info_seen : Region → ℕ → IovaInfo
info_seen r capability = record { start = r.start; last = r.last; capability = capability }

-- a response as the plain line that answers a message
abbrev pub answer_in : Response → NodeStep
answer_in r = node.Answer r.request_id r.result r.avail
