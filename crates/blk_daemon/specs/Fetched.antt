-- What is fetched from a memory.
use Rattle.std.specs.Prelude.{ℕ, ◌≡◌, ◌≤◌, ◌<◌, length, ◌==◌, ◌||◌, nat_lt, if◌then◌else◌, Bool, true, false, List, Option, Some, None, Result, Ok, Err}
use Rattle.byteorder.specs.Endian.{little_bytes}
use Rattle.vd_num.specs.declared.number.Bus.{Bus as Unmapped}
use Rattle.vd_model.specs.Memory.{Memory, read, written}
use Rattle.vd_model.specs.Rings.{next16, available_event_at}
use Rattle.vd_model.specs.declared.queue.RingPlace.{RingPlace}
use Rattle.vd_model.specs.declared.parts.Chain.{Chain}
use Rattle.vd_model.specs.DaemonTurns.{Hand, readable_bytes}
use Rattle.vd_model.specs.Trace.{readable_len, writable_len}
use Rattle.vr_device.specs.Side.{Side}
use Rattle.vr_device.specs.Device.{next_of, resumed}
use Rattle.vr_device.specs.declared.error.PopError.{PopError}
use Rattle.blk_proto.specs.Headers.{IsAt}
use Rattle.blk_daemon.specs.declared.error.FetchError.{FetchError}
use Rattle.blk_daemon.specs.declared.error.FetchError.TheVariants.{Busy, Empty, Shape, Bus}
use Rattle.blk_daemon.specs.declared.request.Fetched.{Fetched}
use Rattle.blk_daemon.specs.Errors.{fetch_error}
use Rattle.blk_daemon.specs.Held.{Held, InHand, hand_with}

-- the bytes that were read, or the first address that can't be accessed
abbrev pub with_bytes : Chain → Result (List ℕ) ℕ → Result Hand FetchError
with_bytes chain (Ok bytes) = Ok (hand_with chain bytes)
with_bytes chain (Err at) = Err (Bus at)

-- a chain is a request where the device reads 16 bytes and writes one at least
abbrev pub request_in : Memory → Chain → Result Hand FetchError
request_in m chain =
    if nat_lt chain.readable 16 || (chain.writable == 0) then Err (Shape chain.readable chain.writable)
    else with_bytes chain (readable_bytes m chain.parts)

-- the request of the chain at the position, if one is available
abbrev pub request_by : Memory → Result (Option Chain) PopError → Result Hand FetchError
request_by m (Ok None) = Err Empty
request_by m (Ok (Some chain)) = request_in m chain
request_by m (Err e) = Err (fetch_error e)

-- it is the answer where the field can be accessed in which the driver is told of the position
abbrev pub where_read : Result (List ℕ) ℕ → Hand → Result Hand FetchError
where_read (Ok bytes) h = Ok h
where_read (Err at) h = Err (Bus at)

abbrev pub where_told : Memory → RingPlace → Bool → Hand → Result Hand FetchError
where_told m place false h = Ok h
where_told m place true h = where_read (read m (available_event_at place) 2) h

abbrev pub then_told : Memory → RingPlace → Bool → Result Hand FetchError → Result Hand FetchError
then_told m place event_idx (Ok h) = where_told m place event_idx h
then_told m place event_idx (Err e) = Err e

-- what is fetched at a position, with indirect tables and event indices or without
abbrev pub hand_at : Memory → Bool → Bool → Side → Result Hand FetchError
hand_at m indirect event_idx side = then_told m side.place event_idx (request_by m (next_of m side indirect))

-- the position told to the driver as the index that is to be told of
abbrev pub with_event : Bool → Side → Memory → Memory
with_event false side m = m
with_event true side m = written m (available_event_at side.place) (little_bytes 2 side.position)

-- A FETCH

-- the side with the position moved by one, and the request in hand
abbrev pub with_hand : Held → Side → Result Hand FetchError → Result Held FetchError
with_hand held side (Ok h) =
    Ok (record { name = held.name; side = Some (record side { position = next16 side.position }); request = Some (record { hand = h; outcome = None }) })
with_hand held side (Err e) = Err e

abbrev pub fetched_at : Memory → Bool → Bool → Held → Result Side Unmapped → Result Held FetchError
fetched_at m indirect event_idx held (Ok side) = with_hand held side (hand_at m indirect event_idx side)
fetched_at m indirect event_idx held (Err bus) = Err (Bus bus.at)

-- the side that is kept, or the ring taken up where its used index stands
abbrev pub side_or : Memory → RingPlace → Option Side → Result Side Unmapped
side_or m place (Some side) = Ok side
side_or m place None = resumed m place

abbrev pub unless_busy : Option InHand → Result Held FetchError → Result Held FetchError
unless_busy (Some r) answer = Err Busy
unless_busy None answer = answer

-- the queue after a fetch, or why nothing is fetched
abbrev pub fetched_of : Memory → RingPlace → Bool → Bool → Held → Result Held FetchError
fetched_of m place indirect event_idx held = unless_busy held.request (fetched_at m indirect event_idx held (side_or m place held.side))

-- what a fetch answers, with the queue after it
abbrev pub held_given : {T : Type 0} → Result T FetchError → Held → Result Held FetchError
held_given (Ok _) held = Ok held
held_given (Err e) held = Err e

abbrev pub hand_given : Result InHand FetchError → Result Hand FetchError
hand_given (Ok r) = Ok r.hand
hand_given (Err e) = Err e

abbrev pub held_with : Result InHand FetchError → Held → Result Held FetchError
held_with (Ok r) held = Ok (record held { request = Some r })
held_with (Err e) held = Err e

-- the position of a queue that has one, told to the driver
abbrev pub with_event_of : Bool → Option Side → Memory → Memory
with_event_of event_idx (Some side) m = with_event event_idx side m
with_event_of event_idx None m = m

-- the device reads a header at least, and all that it reads was read; it writes a status at least
pub record IsRequest (h : Hand) : Type 0 where
  pub has_header : 16 ≤ length h.bytes
  pub has_status : 0 < h.writable
  pub read : length h.bytes ≡ readable_len h.parts
  pub written : h.writable ≡ writable_len h.parts

-- what is told of a request
pub record Shows (h : Hand) (f : Fetched) : Type 0 where
  pub head : f.head ≡ h.head
  pub header : IsAt h.bytes f.header
  pub writable : f.writable ≡ h.writable
  pub request : IsRequest h

-- a request is in hand, and this is told of it
pub record TakesUp (old new : Held) (f : Fetched) : Type 0 where
  pub hand : Hand
  pub in_hand : new.request ≡ Some (record { hand = hand; outcome = None })
  pub name : new.name ≡ old.name
  pub shows : Shows hand f
