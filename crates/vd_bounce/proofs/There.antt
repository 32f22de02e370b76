-- A range whose pages are present ends within the pages.
use Rattle.std.proofs.Common.{◌≡◌, ℕ, zero, suc, ◌+◌, ◌-◌, ◌*◌, ◌/◌, ◌%◌, ◌<◌, ◌≤◌, refl, ap, ◌∙◌, arith, Bool, true, false, ◌&&◌, nat_lt, length, replicate, None}
use Rattle.std.proofs.lemmas.Bool.Decides.{nat_tests}
use Rattle.vd_pool.specs.Memory.{PoolMemory}
use Rattle.vd_bounce.specs.Frames.{frame_of, Holds}
use Rattle.vd_bounce.specs.Bounce.{Bounce, page_size, bounce_len, is_page_present, IsThere}
use Rattle.vd_bounce.proofs.Pages.{split, index_small, page_is, page_room}

left : (a b : Bool) → (a && b) ≡ true → a ≡ true
left true b e = refl
left false b e = e

pub there_end : (b : Bounce) (at len : ℕ) → 0 < b.per_page → 0 < len → IsThere b at len → at + len ≤ bounce_len b
there_end b at len some any there =
    let size = 4096 * b.per_page in
    let last = at + len - 1 in
    let pos : 0 < 4096 * b.per_page = omega arith in
    let test : nat_lt (last / size) (length b.frames) ≡ true = left (nat_lt (last / size) (length b.frames)) _ (there (at + len - 1) (omega arith) (omega arith)) in
    let inside : last / size < length b.frames = grind (arith, nat_tests) in
    let room = page_room size (last / size) (length b.frames) inside in
    let whole = split size last pos in
    let small = index_small size last pos in
    omega arith

-- what lies in one page is there where the page is
pub there_in_page : (b : Bounce) (at len : ℕ) → 0 < b.per_page → len ≤ page_size b - at % page_size b → is_page_present b (at / page_size b) ≡ true → IsThere b at len
there_in_page b at len some fits present a low high =
    let size = 4096 * b.per_page in
    let pos : 0 < 4096 * b.per_page = omega arith in
    let whole = split size at pos in
    let small = index_small size at pos in
    ap (λ p. is_page_present b p) (page_is size (at / size) a pos (omega arith) (omega arith)) ∙ present

pub page_end : (b : Bounce) (at len : ℕ) → 0 < b.per_page → len ≤ page_size b - at % page_size b → is_page_present b (at / page_size b) ≡ true → at + len ≤ bounce_len b
page_end b at len some fits present =
    let size = 4096 * b.per_page in
    let pos : 0 < 4096 * b.per_page = omega arith in
    let test : nat_lt (at / size) (length b.frames) ≡ true = left (nat_lt (at / size) (length b.frames)) _ present in
    let inside : at / size < length b.frames = grind (arith, nat_tests) in
    let room = page_room size (at / size) (length b.frames) inside in
    let whole = split size at pos in
    let small = index_small size at pos in
    omega arith

-- an empty row holds no frame
none_at : (n page : ℕ) → frame_of (replicate n None) page ≡ None
none_at zero page = refl
none_at (suc n) zero = refl
none_at (suc n) (suc page) = none_at n page

pub holds_none : (n : ℕ) (m : PoolMemory) → Holds (replicate n None) m
holds_none n m = record {
  out = λ page f e. let none = none_at n page in cc;
  apart = λ p q f e e'. let none = none_at n p in cc;
}
