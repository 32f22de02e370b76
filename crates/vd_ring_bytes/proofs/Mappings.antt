-- The addresses of live mappings.
use Rattle.std.proofs.Common.{◌≡◌, ℕ, ◌/◌, ◌≤◌, Bool, true, false, refl, arith, List}
use Rattle.vd_model.specs.Setting.{Setting, bounce_size}
use Rattle.vd_model.specs.Acts.{Act, Streaming}
use Rattle.vd_model.specs.Live.{live_mappings, iova_of, maps_address}
use Rattle.vd_laws.specs.Among.{Among}
use Rattle.vd_laws.proofs.Sound.{Sound}
use Rattle.vd_laws.proofs.Ranges.{past_range}
use Rattle.vd_laws.proofs.Pages.{on_slot}

-- a live mapping has no address past bounce memory
pub past_map : (x : Setting) (acts : List Act) (m : Streaming) (a : ℕ) → Sound x acts → Among m (live_mappings acts) → bounce_size x ≤ a → maps_address m a ≡ false
past_map x acts m a s there high = let f = s.fits m there in past_range (iova_of m) m.want.len a (omega arith)

-- of two live mappings with a common address there is one
pub one_map : (x : Setting) (acts : List Act) (m n : Streaming) (a : ℕ) → Sound x acts → Among m (live_mappings acts) → Among n (live_mappings acts) → maps_address m a ≡ true → (m ≡ n → ⊥) → maps_address n a ≡ false
one_map x acts m n a s hm hn here other = by (maps_address n a) refl where
  by : (b : Bool) → maps_address n a ≡ b → b ≡ false
  by false e = refl
  by true e = absurd (other (s.one m n hm hn (a / 4096) (on_slot m a here) (on_slot n a e)))
