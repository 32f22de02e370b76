-- The trace of a chain (virtio 1.2, 2.7.5): the positions that its reader comes to, and how it ends.
use Rattle.std.specs.Prelude.{ℕ, zero, suc, Bool, not, ◌≡◌, ◌+◌, ◌*◌, ◌/◌, ◌%◌, ◌^◌, ◌==◌, ◌&&◌, ◌||◌, nat_lt, nat_le, if◌then◌else◌, bit_and, List, [], ◌∷◌, ◌++◌, sum_by, Option, Some, None, unwrap_or, Result, Ok, Err}
use Rattle.std.specs.List.{list_any}
use Rattle.vd_num.specs.Field.{field_at}
use Rattle.vd_model.specs.Memory.{Memory, read}
use Rattle.vd_model.specs.declared.queue.RingPlace.{RingPlace}
use Rattle.vd_model.specs.declared.parts.Part.{Part}
use Rattle.vd_model.specs.declared.parts.Chain.{Chain}
use Rattle.vd_model.specs.declared.answer.ChainFault.{ChainFault}
use Rattle.vd_model.specs.declared.answer.ChainKind.{ChainKind}
use Rattle.vd_model.specs.declared.answer.ChainKind.TheVariants.{Head, Loop, Next, Order, Shape, Nested, Long}
use Rattle.vd_model.specs.declared.descriptor.Descriptor.{Descriptor}
use Rattle.vd_model.specs.declared.descriptor.Position.{Position}

-- A DESCRIPTOR

-- its sixteen bytes: an address, a length, flags, and the index of the next one
abbrev pub descriptor_of : List ℕ → Descriptor
descriptor_of bytes = record { at = field_at 8 bytes 0; len = field_at 4 bytes 8; flags = field_at 2 bytes 12; next = field_at 2 bytes 14 }

-- flag 1: another one of its table comes next
abbrev pub has_next : Descriptor → Bool
has_next d = bit_and d.flags 1 == 1

-- flag 2: the device writes its bytes, and doesn't read them
abbrev pub is_writable : Descriptor → Bool
is_writable d = bit_and d.flags 2 == 2

-- flag 4: it names a table, and isn't itself part of the chain
abbrev pub is_indirect : Descriptor → Bool
is_indirect d = bit_and d.flags 4 == 4

abbrev pub descriptor_part : Descriptor → Part
descriptor_part d = record { at = d.at; len = d.len; writable = is_writable d }

-- A POSITION

-- the address of its descriptor, sixteen bytes for each one before it in the table
abbrev pub descriptor_address : Position → ℕ
descriptor_address p = (p.table.at + 16 * p.index) % 2 ^ 64

abbrev pub descriptor_from : Result (List ℕ) ℕ → Result Descriptor ℕ
descriptor_from (Ok bytes) = Ok (descriptor_of bytes)
descriptor_from (Err address) = Err address

-- the descriptor at a position, or the first address of it at which no byte stands
abbrev pub descriptor_at : Memory → Position → Result Descriptor ℕ
descriptor_at m p = descriptor_from (read m (descriptor_address p) 16)

-- the position after one with this descriptor: the start of the table that it names, or the next of its own table
abbrev pub position_after : Position → Descriptor → Option Position
position_after p d =
    if is_indirect d then Some (record { table = record { number = 1; at = d.at; entries = d.len / 16 }; index = 0 })
    else if has_next d then Some (record { table = p.table; index = d.next })
    else None

-- THE TESTS of a descriptor, after the parts before it

-- it names a table, and may not: tables weren't negotiated, another one comes next, or its length is that of no table
abbrev pub is_misshapen : Bool → Descriptor → Bool
is_misshapen negotiated d = not negotiated || has_next d || d.len == 0 || not (d.len % 16 == 0) || nat_lt 524288 d.len

-- it is readable, after a writable part
abbrev pub breaks_order : List Part → Descriptor → Bool
breaks_order parts d = not (is_writable d) && list_any (λ q. q.writable) parts

abbrev pub total_len : List Part → ℕ
total_len parts = sum_by (λ q. q.len) parts

-- the chain up to it has more than 16 MiB
abbrev pub is_long : List Part → Descriptor → Bool
is_long parts d = nat_lt 16777216 (total_len parts + d.len)

-- the next one is outside the table
abbrev pub leaves_table : Position → Descriptor → Bool
leaves_table p d = has_next d && nat_le p.table.entries d.next

-- an index of a table is among the positions
abbrev pub is_among : ℕ → ℕ → List Position → Bool
is_among number index positions = list_any (λ q. (q.table.number == number) && (q.index == index)) positions

-- the first test that holds; seen tells whether the next one of this table was visited
abbrev pub first_kind : Bool → List Part → Bool → Position → Descriptor → Option ChainKind
first_kind negotiated parts seen p d =
    if is_indirect d then
    if p.table.number == 1 then Some Nested else if is_misshapen negotiated d then Some Shape else None
    else if breaks_order parts d then Some Order
    else if is_long parts d then Some Long
    else if leaves_table p d then Some Next
    else if has_next d && seen then Some Loop
    else None

-- THE TRACE, a list of positions with the last one in front

-- where a trace starts: a ring, the head of a chain, and whether indirect tables were negotiated
pub record TraceStart : Type 0 where
  pub ring : RingPlace
  pub head : ℕ
  pub negotiated : Bool

abbrev pub trace_start : RingPlace → ℕ → Bool → TraceStart
trace_start ring head negotiated = record { ring = ring; head = head; negotiated = negotiated }

-- the head, in the ring's own table
abbrev pub first_position : TraceStart → Position
first_position s = record { table = record { number = 0; at = s.ring.desc; entries = s.ring.size }; index = s.head }

-- the parts, and that of a descriptor, unless it names a table
abbrev pub with_part : List Part → Descriptor → List Part
with_part parts d = if is_indirect d then parts else parts ++ descriptor_part d ∷ []

abbrev pub with_part_read : List Part → Result Descriptor ℕ → List Part
with_part_read parts (Ok d) = with_part parts d
with_part_read parts (Err address) = parts

-- the parts of the chain at these positions
abbrev pub parts_at : Memory → List Position → List Part
parts_at m [] = []
parts_at m (p ∷ before) = with_part_read (parts_at m before) (descriptor_at m p)

-- how a trace ends: with a chain, with a fault, or at an address at which no byte stands
pub data Ending : Type 0 where
  whole : Chain → Ending
  faulty : ChainFault → Ending
  missing : ℕ → Ending

abbrev pub fault_of : Position → ChainKind → Ending
fault_of p kind = faulty (record { kind = kind; table = p.table.number; index = p.index })

abbrev pub fault_by : Position → Option ChainKind → Option Ending
fault_by p None = None
fault_by p (Some kind) = Some (fault_of p kind)

abbrev pub fault_of_read : TraceStart → List Part → List Position → Position → Result Descriptor ℕ → Option Ending
fault_of_read s parts positions p (Err address) = Some (missing address)
fault_of_read s parts positions p (Ok d) = fault_by p (first_kind s.negotiated parts (is_among p.table.number d.next positions) p d)

-- the first test that holds at a position, which comes after others: the head is outside the ring, the descriptor isn't there, or a test of the descriptor
abbrev pub fault_at : TraceStart → Memory → List Position → Position → Option Ending
fault_at s m before p =
    if nat_le s.ring.size s.head then Some (fault_of p Head)
    else fault_of_read s (parts_at m before) (p ∷ before) p (descriptor_at m p)

abbrev pub after_read : Position → Result Descriptor ℕ → Option Position
after_read p (Ok d) = position_after p d
after_read p (Err address) = None

-- the position after p
abbrev pub next_position : Memory → Position → Option Position
next_position m p = after_read p (descriptor_at m p)

abbrev pub readable_len : List Part → ℕ
readable_len parts = sum_by (λ q. if q.writable then 0 else q.len) parts

abbrev pub writable_len : List Part → ℕ
writable_len parts = sum_by (λ q. if q.writable then q.len else 0) parts

-- a chain: its head, its parts, and how many of their bytes can be read and written
abbrev pub chain_of : ℕ → List Part → Chain
chain_of head parts = record { head = head; parts = parts; readable = readable_len parts; writable = writable_len parts }

abbrev pub ending_by : Option Ending → Option Position → Chain → Option Ending
ending_by (Some fault) next chain = Some fault
ending_by None None chain = Some (whole chain)
ending_by None (Some next) chain = None

-- how the trace ends at a position after others, if it ends there: by the first test that holds, or with the chain where none is next
unfoldable pub ending_at : TraceStart → Memory → List Position → Position → Option Ending
ending_at s m before p = ending_by (fault_at s m before p) (next_position m p) (chain_of s.head (parts_at m (p ∷ before)))

-- p follows the position r, at which the trace doesn't end
pub record Follows (s : TraceStart) (m : Memory) (before : List Position) (r p : Position) : Type 0 where
  pub goes_on : ending_at s m before r ≡ None
  pub next : next_position m r ≡ Some p

-- the first position is the head, and each other follows the one before it
abbrev pub IsTrace : TraceStart → Memory → List Position → Type 0
IsTrace s m [] = ⊥
IsTrace s m (p ∷ []) = p ≡ first_position s
IsTrace s m (p ∷ r ∷ before) = IsTrace s m (r ∷ before) × Follows s m before r p

-- the trace ends so
abbrev pub EndsAs : TraceStart → Memory → Ending → Type 0
EndsAs s m e = (p : Position) × (before : List Position) × IsTrace s m (p ∷ before) × (ending_at s m before p ≡ Some e)

-- how the trace that comes to a position after others ends, if it does within n positions
unfoldable pub ending_within : ℕ → TraceStart → Memory → List Position → Position → Option Ending
ending_within zero s m before p = None
ending_within (suc n) s m before p = elim (ending_at s m before p) [
  | Some end ↦ Some end
  | None ↦ elim (next_position m p) [
    | Some next ↦ ending_within n s m (p ∷ before) next
    | None ↦ None
  ]
]

-- how the trace ends, which it does before it has come to 65,537 positions and as many more as the ring has descriptors
abbrev pub ending_of : TraceStart → Memory → Ending
ending_of s m = unwrap_or (ending_within (65537 + s.ring.size) s m [] (first_position s)) (missing 0)
