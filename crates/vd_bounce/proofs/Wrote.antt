-- The bytes of a row after a write in the frame of one page.
use Rattle.std.proofs.Common.{◌≡◌, ◌≢◌, ℕ, ◌+◌, ◌-◌, ◌*◌, ◌/◌, ◌%◌, ◌<◌, ◌≤◌, ◌⊎◌, inl, inr, refl, ap, sym, ◌∙◌, List, length, true, false, ◌==◌, ◌&&◌, if◌then◌else◌, Option, Some, None}
use Rattle.std.specs.Option.{option_map_or}
use Rattle.std.specs.List.{slice_index}
use Rattle.vd_num.specs.Number.{is_within}
use Rattle.vd_pool.specs.Memory.{PoolMemory, byte_of, Writes}
use Rattle.vd_bounce.specs.Frames.{frame_of, frame_byte, Holds}
use Rattle.vd_bounce.proofs.Kept.{nat_tells, differ, same_test}
use Rattle.vd_bounce.proofs.Pages.{page_is, index_is, in_page, off_page, same_far}

pub wrote_bytes : (size : ℕ) (frames : List (Option ℕ)) (m n : PoolMemory) (at f : ℕ) (text : List ℕ) → 0 < size → Holds frames m → frame_of frames (at / size) ≡ Some f → at % size + length text ≤ size
    → Writes f (at % size) text m n
    → (a : ℕ) → frame_byte size frames n a ≡ (if is_within at (length text) a then slice_index text (a - at) else frame_byte size frames m a)
wrote_bytes size frames m n at f text some h e fits w a = by_frame (frame_of frames (a / size)) refl where
  by_frame : (o : Option ℕ) → frame_of frames (a / size) ≡ o → option_map_or (λ g. byte_of n g (a % size)) o 0 ≡ (if is_within at (length text) a then slice_index text (a - at) else option_map_or (λ g. byte_of m g (a % size)) o 0)
  by_frame None there =
      let off : is_within at (length text) a ≡ false = off_page size at (length text) a some fits (λ same. let x : frame_of frames (a / size) ≡ Some f = ap (λ p. frame_of frames p) same ∙ e in cc) in
      sym (ap (λ b. if b then slice_index text (a - at) else 0) off)
  by_frame (Some g) there = by_page (nat_tells (a / size) (at / size)) where
    by_page : ((a / size ≡ at / size) ⊎ (a / size ≢ at / size)) → byte_of n g (a % size) ≡ (if is_within at (length text) a then slice_index text (a - at) else byte_of m g (a % size))
    by_page (inl same) =
        let x : Some g ≡ Some f = sym there ∙ ap (λ p. frame_of frames p) same ∙ e in
        let gf : g ≡ f = cc in
        let yes : (g == f) ≡ true = ap (λ k. g == k) (sym gf) ∙ same_test g in
        w.bytes g (a % size)
        ∙ ap (λ b. if b && is_within (at % size) (length text) (a % size) then slice_index text (a % size - at % size) else byte_of m g (a % size)) yes
        ∙ ap (λ b. if b then slice_index text (a % size - at % size) else byte_of m g (a % size)) (sym (in_page size at (length text) a some fits same))
        ∙ ap (λ k. if is_within at (length text) a then slice_index text k else byte_of m g (a % size)) (same_far size at (length text) a some fits same)
    by_page (inr other) =
        let ne : g ≢ f = λ gf. other (h.apart (a / size) (at / size) g there (e ∙ ap (λ k. Some k) (sym gf))) in
        w.bytes g (a % size)
        ∙ ap (λ b. if b && is_within (at % size) (length text) (a % size) then slice_index text (a % size - at % size) else byte_of m g (a % size)) (differ g f ne)
        ∙ sym (ap (λ b. if b then slice_index text (a - at) else byte_of m g (a % size)) (off_page size at (length text) a some fits other))

-- a byte of a page is its frame's
pub byte_in : (size : ℕ) (frames : List (Option ℕ)) (m : PoolMemory) (page f a i : ℕ) → 0 < size → size * page ≤ a → a < size * page + size → frame_of frames page ≡ Some f → i ≡ a - size * page
    → frame_byte size frames m a ≡ byte_of m f i
byte_in size frames m page f a i some low high there at =
    ap (λ p. option_map_or (λ g. byte_of m g (a % size)) (frame_of frames p) 0) (page_is size page a some low high)
    ∙ ap (λ o. option_map_or (λ g. byte_of m g (a % size)) o 0) there
    ∙ ap (λ k. byte_of m f k) (index_is size page a some low high ∙ sym at)
