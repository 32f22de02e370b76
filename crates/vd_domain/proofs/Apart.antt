-- Live mappings lie in bounce memory, and live coherent regions behind it; and live mappings have numbers that were given out.
use Rattle.std.proofs.Common.{◌+◌, ◌<◌, ◌≤◌, ◌≡◌, ℕ, List, [], ◌∷◌, subst, arith}
use Rattle.std.specs.Prelude.{map}
use Rattle.std.specs.List.{All}
use Rattle.std.proofs.lemmas.List.Elements.{All-head, All-tail, All-cons, All-nil}
use Rattle.vd_num.specs.Number.{pages_of}
use Rattle.vd_pool.specs.Memory.{PoolMemory}
use Rattle.vd_iova.specs.Space.{Space}
use Rattle.vd_model.specs.Setting.{Setting}
use Rattle.vd_model.specs.Acts.{Act, Streaming, Coherent}
use Rattle.vd_model.specs.Live.{live_mappings, maps}
use Rattle.vd_domain.specs.Held.{Held, IsFit, IsTaken, mapping_holds, region_holds}
use Rattle.vd_domain.specs.Stands.{Stands}
use Rattle.vd_domain.specs.Apart.{AreApart}

lows : (space : Space) (made top : ℕ) → space.«end» ≡ top → (ms : List Streaming) → All (IsTaken space made) (map mapping_holds ms)
    → All (λ (m : Streaming). m.slot + pages_of m.want.len ≤ top) ms
lows space made top e [] all = All-nil (λ (m : Streaming). m.slot + pages_of m.want.len ≤ top)
lows space made top e (m ∷ ms) all =
    let high = (All-head (IsTaken space made) (mapping_holds m) (map mapping_holds ms) all).high in
    All-cons (λ (m : Streaming). m.slot + pages_of m.want.len ≤ top) m ms (omega (arith, high, e))
    (lows space made top e ms (All-tail (IsTaken space made) (mapping_holds m) (map mapping_holds ms) all))

highs : (space : Space) (made top : ℕ) → space.first ≡ top → (rs : List Coherent) → All (IsTaken space made) (map region_holds rs)
    → All (λ (r : Coherent). top ≤ r.slot) rs
highs space made top e [] all = All-nil (λ (r : Coherent). top ≤ r.slot)
highs space made top e (r ∷ rs) all =
    let low = (All-head (IsTaken space made) (region_holds r) (map region_holds rs) all).low in
    All-cons (λ (r : Coherent). top ≤ r.slot) r rs (omega (arith, low, e))
    (highs space made top e rs (All-tail (IsTaken space made) (region_holds r) (map region_holds rs) all))

pub are_apart : (x : Setting) (acts : List Act) (h : Held) (m : PoolMemory) → Stands x acts h m → (low high : Space) (uses : List ℕ) → IsFit h low high uses → AreApart x acts
are_apart x acts h m s low high uses fit =
    let e : low.«end» ≡ x.bounce = (let low_end = fit.low_end in let bounce = s.bounce in omega (arith, low_end, bounce)) in
    let f : high.first ≡ x.bounce = (let high_first = fit.high_first in let bounce = s.bounce in omega (arith, high_first, bounce)) in
    record {
      low = subst (λ (ms : List Streaming). All (λ (m : Streaming). m.slot + pages_of m.want.len ≤ x.bounce) ms) s.live (lows low h.maps x.bounce e h.live fit.maps.each);
      high = subst (λ (rs : List Coherent). All (λ (r : Coherent). x.bounce ≤ r.slot) rs) s.regions (highs high h.made x.bounce f h.regions fit.regions.each);
    }

below : (space : Space) (made : ℕ) (ms : List Streaming) → All (IsTaken space made) (map mapping_holds ms) → All (λ (m : Streaming). m.number < made) ms
below space made [] all = All-nil (λ (m : Streaming). m.number < made)
below space made (m ∷ ms) all =
    All-cons (λ (m : Streaming). m.number < made) m ms (All-head (IsTaken space made) (mapping_holds m) (map mapping_holds ms) all).number
    (below space made ms (All-tail (IsTaken space made) (mapping_holds m) (map mapping_holds ms) all))

pub are_numbered : (x : Setting) (acts : List Act) (h : Held) (m : PoolMemory) → Stands x acts h m → (low high : Space) (uses : List ℕ) → IsFit h low high uses
    → All (λ (m : Streaming). m.number < maps acts) (live_mappings acts)
are_numbered x acts h m s low high uses fit =
    subst (λ n. All (λ (m : Streaming). m.number < n) (live_mappings acts)) s.maps
    (subst (λ (ms : List Streaming). All (λ (m : Streaming). m.number < h.maps) ms) s.live (below low h.maps h.live fit.maps.each))
