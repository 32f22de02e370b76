-- The driver's lines on its buffers, mappings and coherent regions.
use Rattle.std.specs.Prelude.{ℕ, ◌+◌, ◌*◌, List, [], ◌∷◌, length, Bool, ◌==◌, nat_lt, not, Option, Some, None, is_some, find}
use Rattle.std.specs.List.{list_any}
use Rattle.std.specs.Option.{option_map_or}
use Rattle.vd_num.specs.Number.{pages_of}
use Rattle.vd_num.specs.declared.errno.Errno.TheVariants.{Noent, Busy, Inval, Nospc}
use Rattle.vd_model.specs.declared.memory.Dir.{Dir}
use Rattle.vd_model.specs.declared.memory.Want.{Want}
use Rattle.vd_model.specs.declared.step.DriverStep.{DriverStep}
use Rattle.vd_model.specs.declared.step.DriverStep.TheVariants as driver
use Rattle.vd_model.specs.declared.answer.Tag.TheVariants.{Iova}
use Rattle.vd_model.specs.declared.answer.Item.TheVariants.{Word, Number, Address, Text}
use Rattle.vd_model.specs.Setting.{Setting}
use Rattle.vd_model.specs.Acts.{Act, DriverAct, Streaming, Coherent, Buffer, Zeroed, Freed, Poked, Mapped, Unmapped, Synced_device, Synced_cpu, Region_made, Region_freed, Driver_put}
use Rattle.vd_model.specs.Live.{buffers, maps, regions, buffer_len, buffers_len, live_mappings, live_regions}
use Rattle.vd_model.specs.Place.{place_of, taken_slots}
use Rattle.vd_model.specs.Puts.{is_to_device, is_from_device, ram_bytes, bus_bytes}
use Rattle.vd_model.specs.Turn.{Turn, refusal_turn, done_with, refuse, refusal_if, range_refusal}

-- a device's buffers have at most 64 MiB together
abbrev pub buffer_limit : ℕ
buffer_limit = 67108864

abbrev pub buf_turn : List Act → List ℕ → Turn DriverAct
buf_turn done bytes =
    refuse (refusal_if (nat_lt buffer_limit (buffers_len done + length bytes)) Nospc)
    (done_with (Number (buffers done) ∷ []) (Buffer bytes ∷ []))

abbrev pub zeros_turn : List Act → ℕ → Turn DriverAct
zeros_turn done len =
    refuse (refusal_if (nat_lt buffer_limit (buffers_len done + len)) Nospc)
    (done_with (Number (buffers done) ∷ []) (Zeroed len ∷ []))

abbrev pub free_turn : List Act → ℕ → Turn DriverAct
free_turn done buffer =
    refuse (refusal_if (not (is_some (buffer_len done buffer))) Noent)
    (refuse (refusal_if (list_any (λ m. m.want.buffer == buffer) (live_mappings done)) Busy)
    (done_with [] (Freed buffer ∷ [])))

abbrev pub poke_turn : List Act → ℕ → ℕ → List ℕ → Turn DriverAct
poke_turn done buffer offset bytes =
    refuse (range_refusal (buffer_len done buffer) offset (length bytes))
    (done_with [] (Poked buffer offset bytes ∷ []))

abbrev pub peek_turn : Setting → List Act → ℕ → ℕ → ℕ → Turn DriverAct
peek_turn x done buffer offset len =
    refuse (range_refusal (buffer_len done buffer) offset len)
    (done_with (Text (ram_bytes x.per_page done buffer offset len) ∷ []) [])

-- the mapping at this slot
abbrev pub map_at : List Act → Want → ℕ → Turn DriverAct
map_at done want slot =
    done_with (Number (maps done) ∷ Word Iova ∷ Address (4096 * slot) ∷ [])
    (Mapped (record { number = maps done; slot = slot; want = want }) ∷ [])

abbrev pub map_turn : Setting → List Act → Want → Turn DriverAct
map_turn x done want =
    refuse (range_refusal (buffer_len done want.buffer) want.offset want.len)
    (option_map_or (map_at done want) (place_of (taken_slots done) (pages_of want.len) x.per_page x.bounce) (refusal_turn Nospc))

-- the turn of the live mapping of this number, and of the live region
abbrev pub on_mapping : List Act → ℕ → (Streaming → Turn DriverAct) → Turn DriverAct
on_mapping done number turn = option_map_or turn (find (λ m. m.number == number) (live_mappings done)) (refusal_turn Noent)

abbrev pub on_region : List Act → ℕ → (Coherent → Turn DriverAct) → Turn DriverAct
on_region done number turn = option_map_or turn (find (λ r. r.number == number) (live_regions done)) (refusal_turn Noent)

abbrev pub unmap_turn : Streaming → Turn DriverAct
unmap_turn m = done_with [] (Unmapped m ∷ [])

abbrev pub syncdev_turn : Streaming → Turn DriverAct
syncdev_turn m = refuse (refusal_if (not (is_to_device m.want.dir)) Inval) (done_with [] (Synced_device m ∷ []))

abbrev pub synccpu_turn : Streaming → Turn DriverAct
synccpu_turn m = refuse (refusal_if (not (is_from_device m.want.dir)) Inval) (done_with [] (Synced_cpu m ∷ []))

-- the coherent region at this slot
abbrev pub coherent_at : List Act → ℕ → ℕ → Turn DriverAct
coherent_at done len slot =
    done_with (Number (regions done) ∷ Word Iova ∷ Address (4096 * slot) ∷ [])
    (Region_made (record { number = regions done; slot = slot; len = len }) ∷ [])

abbrev pub coherent_turn : Setting → List Act → ℕ → Turn DriverAct
coherent_turn x done len =
    refuse (refusal_if (len == 0) Inval)
    (option_map_or (coherent_at done len) (place_of (taken_slots done) (pages_of len) x.bounce x.iova) (refusal_turn Nospc))

abbrev pub freecoherent_turn : Coherent → Turn DriverAct
freecoherent_turn r = done_with [] (Region_freed r ∷ [])

abbrev pub cput_turn : ℕ → List ℕ → Coherent → Turn DriverAct
cput_turn offset bytes r =
    refuse (refusal_if (nat_lt (4096 * pages_of r.len) (offset + length bytes)) Inval)
    (done_with [] (Driver_put (4096 * r.slot + offset) bytes ∷ []))

abbrev pub cget_turn : Setting → List Act → ℕ → ℕ → Coherent → Turn DriverAct
cget_turn x done offset len r =
    refuse (refusal_if (nat_lt (4096 * pages_of r.len) (offset + len)) Inval)
    (done_with (Text (bus_bytes x.per_page done (4096 * r.slot + offset) len) ∷ []) [])

abbrev pub want_of : ℕ → ℕ → ℕ → Dir → Want
want_of buffer offset len dir = record { buffer = buffer; offset = offset; len = len; dir = dir }

abbrev pub driver_turn : Setting → List Act → DriverStep → Turn DriverAct
driver_turn x done (driver.Buf bytes) = buf_turn done bytes
driver_turn x done (driver.Zeros len) = zeros_turn done len
driver_turn x done (driver.Free buffer) = free_turn done buffer
driver_turn x done (driver.Poke buffer offset bytes) = poke_turn done buffer offset bytes
driver_turn x done (driver.Peek buffer offset len) = peek_turn x done buffer offset len
driver_turn x done (driver.Map buffer offset len dir) = map_turn x done (want_of buffer offset len dir)
driver_turn x done (driver.Unmap mapping) = on_mapping done mapping unmap_turn
driver_turn x done (driver.SyncDev mapping) = on_mapping done mapping syncdev_turn
driver_turn x done (driver.SyncCpu mapping) = on_mapping done mapping synccpu_turn
driver_turn x done (driver.Coherent len) = coherent_turn x done len
driver_turn x done (driver.FreeCoherent region) = on_region done region freecoherent_turn
driver_turn x done (driver.Cput region offset bytes) = on_region done region (cput_turn offset bytes)
driver_turn x done (driver.Cget region offset len) = on_region done region (cget_turn x done offset len)
