use Rattle.std.proofs.Common.{◌≡◌, ℕ, refl, ap, ◌∙◌, arith}
use Rattle.std.specs.Prelude.{replicate}
use Rattle.vd_model.specs.Memory.{Memory, bytes_from}
use Rattle.vd_model.specs.declared.queue.RingPlace.{RingPlace}
use Rattle.vr_driver.specs.Side.{DriverSide}
use Rattle.vr_device.specs.Device.{resumed}
use Rattle.vr_pair.specs.QueueLists.{empty_lists}
use Rattle.vr_split_pair.specs.State.{memory_of}
use Rattle.vr_split_pair.proofs.Fresh.{IsFresh, fresh_at}
use Rattle.vr_split_pair.proofs.pair.SplitPair.new.Goals as goal

pub invariant_of-result-clause-room_for_taken : goal.invariant_of-result-clause-room_for_taken
invariant_of-result-clause-room_for_taken c =
    let room = c.in_ok-with_capacity.ensures.capacity in
    let size = ap (λ (d : DriverSide). d.place.size) c.in_ok-new.ensures in
    omega (arith, room, size)

pub invariant_of-result-clause-stood : goal.invariant_of-result-clause-stood
invariant_of-result-clause-stood c =
    let layout = c.layout_of-layout.ensures in
    let place : RingPlace = record { size = c.args.size; desc = 0; driver = c.layout_of-layout.result.driver_at; device = c.layout_of-layout.result.device_at } in
    let n : ℕ = c.layout_of-layout.result.bytes in
    let memory : Memory = memory_of c.resume-device.new.memory in
    let zeros : c.in_ok-vec.field-0.items ≡ replicate n 0 = c.in_ok-vec.ensures.items_if_clones_equal (λ y h. h) in
    let items : c.new-memory.result.bytes.items ≡ replicate n 0 = rw c.new-memory.ensures.bytes zeros in
    let made : memory ≡ bytes_from 0 (replicate n 0) =
    c.resume-device.ensures.memory ∙ ap (λ (b : ℕ). bytes_from b c.new-memory.result.bytes.items) c.new-memory.ensures.base ∙ ap (bytes_from 0) items in
    let fresh : IsFresh c.args.size n place memory c.resume-device.result = record {
      ring = c.requires;
      sized = refl;
      desc = refl;
      driver = layout.driver;
      low = (let driver = layout.driver in let behind = layout.behind in omega (arith, driver, behind));
      near = (let driver = layout.driver in let near = layout.near in omega (arith, driver, near));
      bytes = layout.bytes;
      zeros = made;
      resumes = ap (λ (m : Memory). resumed m place) c.resume-device.ensures.memory ∙ c.resume-device.ensures.device;
    } in
    ∣ record { lists = empty_lists c.args.size; stands = fresh_at c.args.size n place memory c.in_ok-new.field-0 c.resume-device.result c.in_ok-vec-2.field-0.items c.in_ok-with_capacity.field-0.items fresh c.in_ok-new.ensures (c.in_ok-vec-2.ensures.items_if_clones_equal (λ y h. h)) c.in_ok-with_capacity.ensures.items } ∣₁

pub returns-clause-lists : goal.returns-clause-lists
returns-clause-lists c =
    let layout = c.layout_of-layout.ensures in
    let place : RingPlace = record { size = c.args.size; desc = 0; driver = c.layout_of-layout.result.driver_at; device = c.layout_of-layout.result.device_at } in
    let n : ℕ = c.layout_of-layout.result.bytes in
    let memory : Memory = memory_of c.resume-device.new.memory in
    let zeros : c.in_ok-vec.field-0.items ≡ replicate n 0 = c.in_ok-vec.ensures.items_if_clones_equal (λ y h. h) in
    let items : c.new-memory.result.bytes.items ≡ replicate n 0 = rw c.new-memory.ensures.bytes zeros in
    let made : memory ≡ bytes_from 0 (replicate n 0) =
    c.resume-device.ensures.memory ∙ ap (λ (b : ℕ). bytes_from b c.new-memory.result.bytes.items) c.new-memory.ensures.base ∙ ap (bytes_from 0) items in
    let fresh : IsFresh c.args.size n place memory c.resume-device.result = record {
      ring = c.requires;
      sized = refl;
      desc = refl;
      driver = layout.driver;
      low = (let driver = layout.driver in let behind = layout.behind in omega (arith, driver, behind));
      near = (let driver = layout.driver in let near = layout.near in omega (arith, driver, near));
      bytes = layout.bytes;
      zeros = made;
      resumes = ap (λ (m : Memory). resumed m place) c.resume-device.ensures.memory ∙ c.resume-device.ensures.device;
    } in
    fresh_at c.args.size n place memory c.in_ok-new.field-0 c.resume-device.result c.in_ok-vec-2.field-0.items c.in_ok-with_capacity.field-0.items fresh c.in_ok-new.ensures (c.in_ok-vec-2.ensures.items_if_clones_equal (λ y h. h)) c.in_ok-with_capacity.ensures.items
