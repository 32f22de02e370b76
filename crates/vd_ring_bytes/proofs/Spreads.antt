-- An answer's bytes, put over the mappings that the device writes, stand there.
use Rattle.std.proofs.Common.{◌≡◌, ℕ, zero, suc, ◌+◌, ◌<◌, ◌≤◌, Bool, true, false, refl, ap, subst, ◌∙◌, sym, arith, List, [], ◌∷◌, ◌++◌, length, get_or, take, drop, map, append_assoc, if◌then◌else◌, true≢false, inl, inr}
use Rattle.std.specs.List.{list_all}
use Rattle.std.proofs.lemmas.Bool.{and_parts}
use Rattle.vd_num.specs.Number.{is_within}
use Rattle.vd_model.specs.declared.parts.Part.{Part}
use Rattle.vd_model.specs.Setting.{Setting}
use Rattle.vd_model.specs.Acts.{Act, Node, Streaming, Daemon_put}
use Rattle.vd_model.specs.Live.{live_mappings, iova_of, maps_address}
use Rattle.vd_model.specs.Queues.{execution_of}
use Rattle.vd_model.specs.DaemonTurns.{spread_acts}
use Rattle.vd_model.specs.RingTurns.{mapping_part}
use Rattle.vd_model.specs.Puts.{is_from_device}
use Rattle.vd_laws.specs.Among.{Among}
use Rattle.vd_laws.specs.Runs.{IsAddressed, IsWhole}
use Rattle.vd_laws.proofs.Lists.{among_map}
use Rattle.vd_laws.proofs.Legal.{Distinct, Legal}
use Rattle.vd_laws.proofs.Sound.{sound, earlier_legal}
use Rattle.vd_laws.proofs.Ranges.{is_in, in_range}
use Rattle.vd_ring_laws.specs.ChainLaw.{AreDistinct}
use Rattle.vd_ring_laws.proofs.Fair.{is_put}
use Rattle.vd_ring_bytes.specs.FirmLaw.{AllMiss}
use Rattle.vd_ring_bytes.proofs.Mappings.{one_map}
use Rattle.vd_ring_bytes.proofs.Numbers.{among_drop}
use Rattle.vd_ring_bytes.proofs.StandingBytes.{Stands, put_stands}
use Rattle.vd_ring_bytes.proofs.RingMemory.{spread_over, short_take, map_still}
use Rattle.vd_ring_bytes.proofs.Wants.{map_take}

-- ---- lists

pub spread_onto : (parts : List Part) (bytes : List ℕ) (more : List Act) → spread_acts parts bytes more ≡ spread_acts parts bytes [] ++ more
spread_onto [] bytes more = refl
spread_onto (p ∷ parts) bytes more = by p.writable (λ bytes more. spread_onto parts bytes more) where
  by : (b : Bool) → ((bytes : List ℕ) (more : List Act) → spread_acts parts bytes more ≡ spread_acts parts bytes [] ++ more)
      → (if b then spread_acts parts (drop p.len bytes) (Node (Daemon_put p.at (take p.len bytes)) ∷ more) else spread_acts parts bytes more)
      ≡ (if b then spread_acts parts (drop p.len bytes) (Node (Daemon_put p.at (take p.len bytes)) ∷ []) else spread_acts parts bytes []) ++ more
  by true later =
      let put = Node (Daemon_put p.at (take p.len bytes)) in
      later (drop p.len bytes) (put ∷ more) ∙ (sym (append_assoc (spread_acts parts (drop p.len bytes) []) (put ∷ []) more) ∙ ap (λ l. l ++ more) (sym (later (drop p.len bytes) (put ∷ []))))
  by false later = later bytes more

among_front : (n k : ℕ) (ns : List ℕ) → Among k (take n ns) → Among k ns
among_front zero k ns h = absurd h
among_front (suc n) k [] h = absurd h
among_front (suc n) k (m ∷ ns) (inl e) = inl e
among_front (suc n) k (m ∷ ns) (inr h) = inr (among_front n k ns h)

front_distinct : (n : ℕ) (ns : List ℕ) → Distinct ns → Distinct (take n ns)
front_distinct zero ns d = tt
front_distinct (suc n) [] d = tt
front_distinct (suc n) (m ∷ ns) d = ((λ h. d.0 (among_front n m ns h)), front_distinct n ns d.1)

pub own_distinct : (n : ℕ) (ms : List Streaming) → Distinct (map (λ m. m.number) ms) → Distinct (map (λ m. m.number) (take n ms))
own_distinct n ms d = subst Distinct (sym (map_take (λ m. m.number) n ms)) (front_distinct n (map (λ m. m.number) ms) d)

-- of distinct numbers behind the first n no two are the same
pub distinct_at : (n j k : ℕ) (ns : List ℕ) → AreDistinct (drop n ns) → n ≤ j → j < k → k < length ns → get_or ns j 0 ≡ get_or ns k 0 → ⊥
distinct_at n j k [] d a b c e = absurd (omega arith)
distinct_at (suc n) zero k (m ∷ ns) d a b c e = absurd (omega arith)
distinct_at (suc n) (suc j) zero (m ∷ ns) d a b c e = absurd (omega arith)
distinct_at (suc n) (suc j) (suc k) (m ∷ ns) d a b c e = distinct_at n j k ns d (omega arith) (omega arith) (omega arith) e
distinct_at zero j zero (m ∷ ns) d a b c e = absurd (omega arith)
distinct_at zero zero (suc k) (m ∷ ns) d a b c e = d.0 (subst (λ i. Among i ns) (sym e) (among_drop 0 k ns (omega arith) (omega arith)))
distinct_at zero (suc j) (suc k) (m ∷ ns) d a b c e = distinct_at zero j k ns d.1 (omega arith) (omega arith) (omega arith) e

-- a put leaves how the request in hand was executed
put_executed : (act : Act) (acts : List Act) (q : ℕ) → is_put act ≡ true → execution_of (act ∷ acts) q ≡ execution_of acts q
put_executed (Node (Daemon_put at bytes)) acts q e = refl
put_executed (Node act) acts q e = cc
put_executed _ acts q e = cc

pub puts_executed : (puts acts : List Act) (q : ℕ) → list_all is_put puts ≡ true → execution_of (puts ++ acts) q ≡ execution_of acts q
puts_executed [] acts q e = refl
puts_executed (act ∷ puts) acts q e = let p = and_parts (is_put act) (list_all is_put puts) e in put_executed act (puts ++ acts) q p.0 ∙ puts_executed puts acts q p.1

-- ---- puts

narrow : (at n len a : ℕ) → n ≤ len → is_within at len a ≡ false → is_within at n a ≡ false
narrow at n len a le e = by (is_within at n a) refl where
  by : (b : Bool) → is_within at n a ≡ b → b ≡ false
  by false f = refl
  by true f =
      let r = is_in at n a f in
      let lo : at ≤ a = r.0 in
      let hi : a < at + n = r.1 in
      absurd (true≢false (sym (in_range at len a (omega arith) (omega arith)) ∙ e))

pub spread_misses : (ms : List Streaming) (bytes : List ℕ) (more : List Act) (a : ℕ) → ((n : Streaming) → Among n ms → maps_address n a ≡ false) → AllMiss more a → AllMiss (spread_acts (map mapping_part ms) bytes more) a
spread_misses [] bytes more a none h = h
spread_misses (m ∷ ms) bytes more a none h = by (is_from_device m.want.dir) (λ bytes more k. spread_misses ms bytes more a (λ n i. none n (inr i)) k) where
  by : (b : Bool) → ((bytes : List ℕ) (more : List Act) → AllMiss more a → AllMiss (spread_acts (map mapping_part ms) bytes more) a)
      → AllMiss (if b then spread_acts (map mapping_part ms) (drop m.want.len bytes) (Node (Daemon_put (iova_of m) (take m.want.len bytes)) ∷ more) else spread_acts (map mapping_part ms) bytes more) a
  by true later = later (drop m.want.len bytes) (Node (Daemon_put (iova_of m) (take m.want.len bytes)) ∷ more) (narrow (iova_of m) (length (take m.want.len bytes)) m.want.len a (short_take m.want.len bytes) (none m (inl refl)), h)
  by false later = later bytes more h

module _ (x : Setting) (small : IsAddressed x) (full : IsWhole x) where
  pub spread_stands : (ms : List Streaming) (bytes : List ℕ) (acts : List Act) → ((m : Streaming) → Among m ms → Among m (live_mappings acts)) → Distinct (map (λ m. m.number) ms)
      → Legal x (spread_acts (map mapping_part ms) bytes [] ++ acts) → (p : Streaming × List ℕ) → Among p (spread_over ms bytes) → Stands x (spread_acts (map mapping_part ms) bytes [] ++ acts) (iova_of p.0) p.1
  spread_stands [] bytes acts alive d legal p i = absurd i
  spread_stands (m ∷ ms) bytes acts alive d legal p i = by (is_from_device m.want.dir) legal i (λ bytes acts alive. spread_stands ms bytes acts alive d.1) where
    put : Act
    put = Node (Daemon_put (iova_of m) (take m.want.len bytes))

    by : (b : Bool) → Legal x ((if b then spread_acts (map mapping_part ms) (drop m.want.len bytes) (Node (Daemon_put (iova_of m) (take m.want.len bytes)) ∷ []) else spread_acts (map mapping_part ms) bytes []) ++ acts)
        → Among p (if b then (m, take m.want.len bytes) ∷ spread_over ms (drop m.want.len bytes) else spread_over ms bytes)
        → ((bytes : List ℕ) (acts : List Act) → ((m : Streaming) → Among m ms → Among m (live_mappings acts)) → Legal x (spread_acts (map mapping_part ms) bytes [] ++ acts) → (p : Streaming × List ℕ) → Among p (spread_over ms bytes) → Stands x (spread_acts (map mapping_part ms) bytes [] ++ acts) (iova_of p.0) p.1)
        → Stands x ((if b then spread_acts (map mapping_part ms) (drop m.want.len bytes) (Node (Daemon_put (iova_of m) (take m.want.len bytes)) ∷ []) else spread_acts (map mapping_part ms) bytes []) ++ acts) (iova_of p.0) p.1
    by false l i later = later bytes acts (λ n j. alive n (inr j)) l p i
    by true l i later =
        let last : Act = Node (Daemon_put (iova_of m) (take m.want.len bytes)) in
        let rest = spread_acts (map mapping_part ms) (drop m.want.len bytes) [] in
        let is : spread_acts (map mapping_part ms) (drop m.want.len bytes) (last ∷ []) ++ acts ≡ rest ++ last ∷ acts =
        ap (λ l. l ++ acts) (spread_onto (map mapping_part ms) (drop m.want.len bytes) (last ∷ [])) ∙ append_assoc rest (last ∷ []) acts in
        let moved = subst (Legal x) is l in
        subst (λ l. Stands x l (iova_of p.0) p.1) (sym is) (each i moved) where
          each : Among p ((m, take m.want.len bytes) ∷ spread_over ms (drop m.want.len bytes)) → Legal x (spread_acts (map mapping_part ms) (drop m.want.len bytes) [] ++ Node (Daemon_put (iova_of m) (take m.want.len bytes)) ∷ acts)
              → Stands x (spread_acts (map mapping_part ms) (drop m.want.len bytes) [] ++ Node (Daemon_put (iova_of m) (take m.want.len bytes)) ∷ acts) (iova_of p.0) p.1
          each (inl e) moved =
              let last : Act = Node (Daemon_put (iova_of m) (take m.want.len bytes)) in
              let rest = spread_acts (map mapping_part ms) (drop m.want.len bytes) [] in
              let s = sound x (last ∷ acts) (earlier_legal x rest (last ∷ acts) moved) in
              let there : Among m (live_mappings acts) = alive m (inl refl) in
              let short = short_take m.want.len bytes in
              let here : (i : ℕ) → i < length (take m.want.len bytes) → maps_address m (iova_of m + i) ≡ true = λ i lo. in_range (iova_of m) m.want.len (iova_of m + i) (omega arith) (omega arith) in
              subst (λ (p : Streaming × List ℕ). Stands x (rest ++ last ∷ acts) (iova_of p.0) p.1) (sym e)
              (map_still x small full rest (last ∷ acts) moved m there (iova_of m) (take m.want.len bytes) here
              (λ i lo. spread_misses ms (drop m.want.len bytes) [] (iova_of m + i) (λ n j. one_map x (last ∷ acts) m n (iova_of m + i) s there (alive n (inr j)) (here i lo)
              (λ is. d.0 (subst (λ k. Among k (map (λ m. m.number) ms)) (sym (ap (λ m. m.number) is)) (among_map (λ m. m.number) n ms j)))) tt)
              (put_stands x acts (iova_of m) (take m.want.len bytes)))
          each (inr j) moved = later (drop m.want.len bytes) (Node (Daemon_put (iova_of m) (take m.want.len bytes)) ∷ acts) (λ n j. alive n (inr j)) moved p j
