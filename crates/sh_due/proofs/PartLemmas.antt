-- What a request leaves of its driver's part of the image.
use Rattle.std.proofs.Common.{◌≡◌, ℕ, ◌+◌, ◌*◌, ◌<◌, ◌||◌, refl, sym, ap, ◌∙◌, subst, arith, Bool, true, false, List, [], drop, slice_index, Option, Some, None, zero-add, add-one, ◌-◌, ◌==◌, not, length}
use Rattle.std.specs.Prelude.{if◌then◌else◌}
use Rattle.std.specs.Option.{option_map}
use Rattle.vd_num.specs.Field.{field_at}
use Rattle.vd_model.specs.declared.memory.Window.{Window}
use Rattle.vd_model.specs.Creation.{has_feature}
use Rattle.vd_model.specs.Block.{Block, Disk, RequestResult, block_of, result_of, ends_with, read_result, write_result, id_result, is_outside_disk}
use Rattle.vd_model.specs.Queues.{Execution}
use Rattle.vd_model.specs.DaemonTurns.{Hand}
use Rattle.vd_io.specs.Sectors.{with_sectors}
use Rattle.vr_split.specs.MemLemmas.{tells}
use Rattle.blk_daemon.specs.Held.{Held, InHand, payload_in, to_execute, unless_executed}
use Rattle.blk_daemon.specs.Fetched.{TakesUp}
use Rattle.blk_daemon.specs.declared.request.Fetched.{Fetched}
use Rattle.blk_daemon.specs.declared.disk.Executed.{Executed}
use Rattle.blk_daemon.specs.Executed.{IsDisk, Executes, IsExecuted, content_after}
use Rattle.sh_workload.specs.declared.requests.WorkRequest.{WorkRequest}
use Rattle.sh_workload.specs.Requests as work
use Rattle.sh_workload.specs.Requests.{part_disk, offered, applied, part_after, request_at, answer_len}
use Rattle.sh_due.specs.Due.{IsHand, IsInHand}

-- a request that failed stores nothing
stores_either : (test : Bool) (x y : RequestResult) → x.stores ≡ false → y.stores ≡ false → (if test then x else y).stores ≡ false
stores_either true x y h g = h
stores_either false x y h g = g

stores_or : (test : Bool) (x y : RequestResult) → x.stores ≡ false → (if test || true then x else y).stores ≡ false
stores_or true x y h = h
stores_or false x y h = h

failed_stores : (disk : Disk) (b : Block) → (result_of disk b true).stores ≡ false
failed_stores disk b =
    let other : RequestResult = if b.kind == 8 then id_result disk b else ends_with b 2 in
    let flush : RequestResult = if b.kind == 4 then ends_with b 1 else other in
    let write : RequestResult = if b.kind == 1 then write_result disk b true else flush in
    let outside = is_outside_disk disk b.sector (b.writable - 1) in
    let closed = is_outside_disk disk b.sector (length b.payload) || has_feature disk.features 5 in
    stores_either (b.kind == 0) (read_result disk b true) write (stores_or outside (ends_with b 1) _ refl)
    (stores_either (b.kind == 1) (write_result disk b true) flush (stores_or closed (ends_with b 1) _ refl)
    (stores_either (b.kind == 4) (ends_with b 1) other refl
    (stores_either (b.kind == 8) (id_result disk b) (ends_with b 2) (stores_either (not (b.writable - 1 == 20)) (ends_with b 1) _ refl refl) refl)))

-- the whole of a driver's part
abbrev pub whole : Window
whole = record { first = 0; count = 128 }

pub part_is_disk : (part : List ℕ) → IsDisk (Some part) whole offered [] (part_disk part)
part_is_disk part = record {
  sectors = refl;
  features = refl;
  name_is = refl;
  bytes = tells (λ (c : List ℕ). (i : ℕ) → i < 512 * 128 → slice_index part i ≡ slice_index c (512 * 0 + i)) part
      (λ i lt. ap (slice_index part) (let e : i ≡ 512 * 0 + i = omega arith in e));
}

-- the request in hand is the block request that is due
pub hand_block : (r : WorkRequest) (h : Hand) → IsHand r h → block_of h.bytes h.writable ≡ work.asked_block r
hand_block r h is =
    rw (is.kind, is.sector, is.payload, is.writable) refl

content_stored : (stores : Bool) (b : Block) (sector : ℕ) (payload content : List ℕ) →
    (if stores then with_sectors (0 + sector) payload content else content) ≡ (if stores then with_sectors sector payload content else content)
content_stored stores b sector payload content = ap (λ (s : ℕ). if stores then with_sectors s payload content else content) (zero-add sector)

some_same : (xs ys : List ℕ) → Some xs ≡ Some ys → xs ≡ ys
some_same xs ys e = cc

-- what stands in the part after the request was carried out, and after it failed
pub executed_part : {I : Type 0} (r : WorkRequest) (h : Hand) (content : I → Option (List ℕ)) (faults flushes : I → ℕ) (old new : I) (part after : List ℕ) (end : Execution) →
    IsHand r h → content old ≡ Some part → content new ≡ Some after →
    Executes content faults flushes whole offered [] (block_of h.bytes h.writable) false old new end → after ≡ applied r part
executed_part r h content faults flushes old new part after end is before there done =
    let disk = part_is_disk part in
    let ends = (subst (λ (o : Option (List ℕ)). IsDisk o whole offered [] (part_disk part)) (sym before) disk) in
    let result = done.ends (part_disk part) ends in
    some_same _ _ (sym there ∙ result.after ∙ ap (option_map (content_after whole (block_of h.bytes h.writable) (result_of (part_disk part) (block_of h.bytes h.writable) false))) before
    ∙ ap (λ (b : Block). Some (content_after whole b (result_of (part_disk part) b false) part)) (hand_block r h is)
    ∙ ap Some (content_stored (result_of (part_disk part) (work.asked_block r) false).stores (work.asked_block r) r.sector r.bytes part))

pub failed_part : {I : Type 0} (b : Block) (content : I → Option (List ℕ)) (faults flushes : I → ℕ) (old new : I) (part after : List ℕ) (end : Execution) →
    content old ≡ Some part → content new ≡ Some after →
    Executes content faults flushes whole offered [] b true old new end → after ≡ part
failed_part b content faults flushes old new part after end before there done =
    let ends = (subst (λ (o : Option (List ℕ)). IsDisk o whole offered [] (part_disk part)) (sym before) (part_is_disk part)) in
    let result = done.ends (part_disk part) ends in
    some_same _ _ (sym there ∙ result.after ∙ ap (option_map (content_after whole b (result_of (part_disk part) b true))) before
    ∙ ap (λ (s : Bool). Some (if s then with_sectors (0 + b.sector) b.payload part else part)) (failed_stores (part_disk part) b))

-- one request more
pub part_more : (start driver place : ℕ) → part_after start driver (place + 1) ≡ applied (request_at start driver place) (part_after start driver place)
part_more start driver place = rw (add-one place) refl

-- what is executed is what is in hand
some_hand : (x y : Hand) → Some x ≡ Some y → x ≡ y
some_hand x y e = cc

unless_hand : (x : Hand) (o : Option Execution) (h : Hand) → unless_executed x o ≡ Some h → x ≡ h
unless_hand x None h e = some_hand x h e
unless_hand x (Some end) h e = absurd (cc)

pub hand_due : (r : WorkRequest) (o : Option InHand) (h : Hand) → IsInHand r o → to_execute o ≡ Some h → IsHand r h
hand_due r None h is e = absurd is
hand_due r (Some held) h is e = subst (IsHand r) (unless_hand held.hand held.outcome h e) is

-- what was fetched is the request that is due
pub fetched_due : {before after : Held} {f : Fetched} (r : WorkRequest) → TakesUp before after f → f.header.kind ≡ r.kind → f.header.sector ≡ r.sector →
    f.writable ≡ answer_len r → payload_in after.request ≡ r.bytes → IsInHand r after.request
fetched_due r takes kind sector writable payload =
    subst (IsInHand r) (sym takes.in_hand) (record {
      kind = sym takes.shows.header.kind ∙ kind;
      sector = sym takes.shows.header.sector ∙ sector;
      payload = sym (ap payload_in takes.in_hand) ∙ payload;
      writable = sym takes.shows.writable ∙ writable;
    })

-- what was executed is the request that is due, and the image didn't fail
pub executed_due : {I : Type 0} (r : WorkRequest) (held later : Held) (content : I → Option (List ℕ)) (faults flushes : I → ℕ) (old new : I) (part after : List ℕ) (x : Executed) →
    IsInHand r held.request → held.name ≡ [] → content old ≡ Some part → content new ≡ Some after → x.failed ≡ false →
    IsExecuted content faults flushes whole offered held old later new x → after ≡ applied r part
executed_due r held later content faults flushes old new part after x due nameless before there well h =
    let is = hand_due r held.request h.hand due h.in_hand in
    let P : List ℕ → Bool → Type 0 = λ n f. Executes content faults flushes whole offered n (block_of h.hand.bytes h.hand.writable) f old new h.outcome in
    let named : P [] x.failed = subst (λ (n : List ℕ). P n x.failed) nameless h.executes in
    executed_part r h.hand content faults flushes old new part after h.outcome is before there (subst (λ (f : Bool). P [] f) well named)

-- and where the image failed, the part is as before
pub failed_due : {I : Type 0} (held later : Held) (content : I → Option (List ℕ)) (faults flushes : I → ℕ) (old new : I) (part after : List ℕ) (x : Executed) →
    held.name ≡ [] → content old ≡ Some part → content new ≡ Some after → x.failed ≡ true →
    IsExecuted content faults flushes whole offered held old later new x → after ≡ part
failed_due held later content faults flushes old new part after x nameless before there ill h =
    let P : List ℕ → Bool → Type 0 = λ n f. Executes content faults flushes whole offered n (block_of h.hand.bytes h.hand.writable) f old new h.outcome in
    let named : P [] x.failed = subst (λ (n : List ℕ). P n x.failed) nameless h.executes in
    failed_part (block_of h.hand.bytes h.hand.writable) content faults flushes old new part after h.outcome before there (subst (λ (f : Bool). P [] f) ill named)
