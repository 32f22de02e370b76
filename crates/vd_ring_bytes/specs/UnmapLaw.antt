-- What the ends of a request's mappings bring back to its buffers.
use Rattle.std.specs.Prelude.{ℕ, ◌+◌, ◌<◌, ◌≤◌, List, [], ◌∷◌, ◌++◌, length, map, false, get_or, ◌≡◌}
use Rattle.vd_model.specs.declared.memory.Dir.TheVariants.{From}
use Rattle.vd_model.specs.Setting.{Setting}
use Rattle.vd_model.specs.Acts.{Act, Driver, Streaming, Unmapped}
use Rattle.vd_model.specs.Live.{live_mappings, iova_of}
use Rattle.vd_model.specs.Puts.{ram, shown_put}
use Rattle.vd_model.specs.Direct.{brings_back}
use Rattle.vd_model.specs.History.{History}
use Rattle.vd_laws.specs.Among.{Among}
use Rattle.vd_laws.specs.Runs.{IsMoment, IsAddressed, IsWhole}
use Rattle.vd_ring_laws.specs.ChainLaw.{AreDistinct}

-- the ends of some mappings, the first of them the oldest
abbrev pub acts_of_unmaps : List Streaming → List Act
acts_of_unmaps [] = []
acts_of_unmaps (m ∷ ms) = acts_of_unmaps ms ++ Driver (Unmapped m) ∷ []

-- after the ends of some live mappings the buffer of each that comes from the device has the bytes that stood over it, where no other of them brings back the same bytes
abbrev pub UnmapLaw : Setting → History → Type 0
UnmapLaw x h = IsAddressed x → IsWhole x → (d : List ℕ) (ms : List Streaming) (acts : List Act) → IsMoment x h d acts
    → ((m : Streaming) → Among m ms → Among m (live_mappings acts)) → AreDistinct (map (λ m. m.number) ms)
    → (m : Streaming) → Among m ms → m.want.dir ≡ From → ((n : Streaming) → Among n ms → (n ≡ m → ⊥) → (i : ℕ) → brings_back n m.want.buffer i ≡ false)
    → (bytes : List ℕ) → length bytes ≤ m.want.len → ((i : ℕ) → i < length bytes → (shown_put x.per_page acts (iova_of m + i)).byte ≡ get_or bytes i 0)
    → (i : ℕ) → i < length bytes → ram x.per_page (acts_of_unmaps ms ++ acts) m.want.buffer (m.want.offset + i) ≡ get_or bytes i 0
