-- Bytes that stand at an address, and what is read there.
use Rattle.std.proofs.Common.{◌≡◌, ℕ, suc, ◌+◌, ◌-◌, ◌%◌, ◌/◌, ◌<◌, ◌≤◌, true, refl, ap, ◌∙◌, arith, cond, None, Some, Ok, List, [], ◌∷◌, ◌++◌, length, get_or, unwrap_or}
use Rattle.std.specs.List.{slice_get}
use Rattle.std.specs.Option.{option_map}
use Rattle.std.proofs.lemmas.Bool.{le-leb}
use Rattle.std.proofs.lemmas.Option.{slice_get-get_or}
use Rattle.std.proofs.Math.Nat.{div-one}
use Rattle.byteorder.specs.Numbers.{little_from-bytes}
use Rattle.vd_num.specs.Field.{field_at}
use Rattle.vd_model.specs.declared.memory.Origin.{Origin}
use Rattle.vd_model.specs.declared.memory.Origin.TheVariants.{Daemon, Handed}
use Rattle.vd_model.specs.Setting.{Setting, bounce_size}
use Rattle.vd_model.specs.Acts.{Act, Node, Driver, Daemon_put, Driver_put}
use Rattle.vd_model.specs.Memory.{Memory, read, byte_then}
use Rattle.vd_model.specs.Rings.{number16, number16_of}
use Rattle.vd_model.specs.Raw.{little_bytes}
use Rattle.vd_model.specs.Puts.{Put, byte_in, shown_put, each_from}
use Rattle.vd_model.specs.AreaTurns.{is_accessible}
use Rattle.vd_model.specs.DaemonTurns.{daemon_memory}
use Rattle.vd_model.specs.RingTurns.{number_at}
use Rattle.vd_laws.specs.Runs.{IsAddressed, IsWhole}
use Rattle.vd_laws.proofs.Legal.{Legal}
use Rattle.vd_laws.proofs.Coherence.{high_shown}
use Rattle.vd_laws.proofs.Shown.{by_address}
use Rattle.vd_ring_bytes.specs.FirmLaw.{AllMiss, IsFirm}
use Rattle.vd_ring_bytes.proofs.FirmBytes.{all_kept}

-- the bytes are shown from this address on
abbrev pub Stands : Setting → List Act → ℕ → List ℕ → Type 0
Stands x acts at bytes = (i : ℕ) → i < length bytes → (shown_put x.per_page acts (at + i)).byte ≡ get_or bytes i 0

-- they stay while acts are done elsewhere
pub stand_still : (x : Setting) → IsAddressed x → IsWhole x → (new acts : List Act) (at : ℕ) (bytes : List ℕ) → Legal x (new ++ acts)
    → ((i : ℕ) → i < length bytes → AllMiss new (at + i)) → ((i : ℕ) → i < length bytes → IsFirm x acts (at + i)) → Stands x acts at bytes → Stands x (new ++ acts) at bytes
stand_still x small whole new acts at bytes legal miss firm stands = λ i low. ap (λ p. p.byte) (all_kept x small whole new acts (at + i) legal (miss i low) (firm i low)).1 ∙ stands i low

-- ---- puts

text_here : (bytes : List ℕ) (at i : ℕ) → i < length bytes → byte_in bytes at (at + i) ≡ Some (get_or bytes i 0)
text_here bytes at i low =
    ap (λ b. cond b (slice_get bytes (at + i - at)) None) (le-leb at (at + i) (omega arith)) ∙ (ap (slice_get bytes) (let e : at + i - at ≡ i = omega arith in e) ∙ slice_get-get_or bytes i 0 low)

text_now : (bytes : List ℕ) (at i : ℕ) (origin : Origin) (p : Put) → i < length bytes → (unwrap_or (option_map (λ b. record { byte = b; origin = origin }) (byte_in bytes at (at + i))) p).byte ≡ get_or bytes i 0
text_now bytes at i origin p low = ap (λ o. (unwrap_or (option_map (λ b. record { byte = b; origin = origin }) o) p).byte) (text_here bytes at i low)

-- what a daemon just put stands there
pub put_stands : (x : Setting) (acts : List Act) (at : ℕ) (bytes : List ℕ) → Stands x (Node (Daemon_put at bytes) ∷ acts) at bytes
put_stands x acts at bytes = λ i low.
    ap (λ p. p.byte) (by_address x.per_page acts (Node (Daemon_put at bytes)) (at + i) refl (λ b. refl) (λ p. refl)) ∙ text_now bytes at i Daemon (shown_put x.per_page acts (at + i)) low

-- and what the driver put past bounce memory
pub driver_stands : (x : Setting) → IsWhole x → (acts : List Act) (at : ℕ) (bytes : List ℕ) → bounce_size x ≤ at → Legal x (Driver (Driver_put at bytes) ∷ acts) → Stands x (Driver (Driver_put at bytes) ∷ acts) at bytes
driver_stands x whole acts at bytes high legal = λ i low.
    ap (λ p. p.byte) (high_shown x whole acts (at + i) (omega arith) (Driver (Driver_put at bytes)) legal) ∙ text_now bytes at i (Handed None) (shown_put x.per_page acts (at + i)) low

pub daemon_stands : (x : Setting) → IsWhole x → (acts : List Act) (at : ℕ) (bytes : List ℕ) → bounce_size x ≤ at → Legal x (Node (Daemon_put at bytes) ∷ acts) → Stands x (Node (Daemon_put at bytes) ∷ acts) at bytes
daemon_stands x whole acts at bytes high legal = λ i low.
    ap (λ p. p.byte) (high_shown x whole acts (at + i) (omega arith) (Node (Daemon_put at bytes)) legal) ∙ text_now bytes at i Daemon (shown_put x.per_page acts (at + i)) low

-- ---- reads

pub read_is : (m : Memory) (bytes : List ℕ) (at : ℕ) → ((i : ℕ) → i < length bytes → m (at + i) ≡ Some (get_or bytes i 0)) → read m at (length bytes) ≡ Ok bytes
unfolding read
read_is m [] at h = refl
read_is m (b ∷ bytes) at h =
    let first : m at ≡ Some b = ap m (let e : at ≡ at + 0 = omega arith in e) ∙ h 0 (omega arith) in
    let rest = read_is m bytes (at + 1) (λ i l. ap m (let e : at + 1 + i ≡ at + suc i = omega arith in e) ∙ h (suc i) (omega arith)) in
    ap (λ o. byte_then at o (read m (at + 1) (length bytes))) first ∙ ap (λ l. byte_then at (Some b) l) rest

-- a daemon that can access them reads them
pub daemon_reads : (x : Setting) (acts : List Act) (at : ℕ) (bytes : List ℕ) → Stands x acts at bytes → ((i : ℕ) → i < length bytes → is_accessible x acts (at + i) ≡ true) → read (daemon_memory x acts) at (length bytes) ≡ Ok bytes
daemon_reads x acts at bytes stands there = read_is (daemon_memory x acts) bytes at (λ i low.
    ap (λ b. cond b (Some (shown_put x.per_page acts (at + i)).byte) None) (there i low) ∙ ap Some (stands i low))

pub each_is : (f : ℕ → ℕ) (bytes : List ℕ) (at : ℕ) → ((i : ℕ) → i < length bytes → f (at + i) ≡ get_or bytes i 0) → each_from f at (length bytes) ≡ bytes
each_is f [] at h = refl
each_is f (b ∷ bytes) at h =
    let first : f at ≡ b = ap f (let e : at ≡ at + 0 = omega arith in e) ∙ h 0 (omega arith) in
    let rest = each_is f bytes (at + 1) (λ i l. ap f (let e : at + 1 + i ≡ at + suc i = omega arith in e) ∙ h (suc i) (omega arith)) in
    ap (λ c. c ∷ each_from f (at + 1) (length bytes)) first ∙ ap (λ l. b ∷ l) rest

-- ---- numbers of two bytes

pub number_back : (n : ℕ) → field_at 2 (little_bytes 2 n) 0 ≡ n % 65536
number_back n = little_from-bytes 2 0 n [] ∙ ap (λ (y : ℕ). y % 65536) (div-one n)

pub low_bytes : (n : ℕ) → little_bytes 2 (n % 65536) ≡ little_bytes 2 n
low_bytes n =
    let first : n % 65536 % 256 ≡ n % 256 = omega arith in
    let second : n % 65536 / 256 % 256 ≡ n / 256 % 256 = omega arith in
    ap (λ a. a ∷ (n % 65536 / 256 % 256) ∷ []) first ∙ ap (λ b. (n % 256) ∷ b ∷ []) second

-- the daemon and the driver read the number that stands
pub daemon_number : (x : Setting) (acts : List Act) (at n : ℕ) → Stands x acts at (little_bytes 2 n) → ((i : ℕ) → i < 2 → is_accessible x acts (at + i) ≡ true) → number16 (daemon_memory x acts) at ≡ Ok (n % 65536)
daemon_number x acts at n stands there = ap number16_of (daemon_reads x acts at (little_bytes 2 n) stands there) ∙ ap Ok (number_back n)

pub driver_number : (x : Setting) (acts : List Act) (at n : ℕ) → Stands x acts at (little_bytes 2 n) → number_at x acts at ≡ n % 65536
driver_number x acts at n stands = ap (λ l. field_at 2 l 0) (each_is (λ a. (shown_put x.per_page acts a).byte) (little_bytes 2 n) at stands) ∙ number_back n
