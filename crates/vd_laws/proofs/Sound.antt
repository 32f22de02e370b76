-- What holds of the mappings, regions and rings of legal acts.
use Rattle.std.proofs.Common.{◌≡◌, ℕ, ◌+◌, ◌<◌, ◌≤◌, Bool, true, false, ap, subst, ◌∙◌, sym, arith, cond, Option, None, Some, List, [], ◌∷◌, ◌++◌, ◌==◌, not, ◌⊎◌, inl, inr}
use Rattle.vd_num.specs.Number.{pages_of}
use Rattle.vd_model.specs.Setting.{Setting, bounce_size}
use Rattle.vd_model.specs.Acts.{Act, Node, Driver, Queue, Streaming, Coherent, Registered, Deregistered, Buffer, Zeroed, Mapped, Unmapped, Region_made, Region_freed, Ring_made, Ring_dropped}
use Rattle.vd_model.specs.declared.queue.RingPlace.{RingPlace}
use Rattle.vd_model.specs.Live.{Registration, buffers, maps, live_mappings, live_regions, registration_of}
use Rattle.vd_model.specs.Queues.{Ring, ring_of}
use Rattle.vd_laws.specs.Among.{Among}
use Rattle.vd_laws.proofs.Lists.{pushed, filtered}
use Rattle.vd_laws.proofs.Legal.{covers, IsFresh, IsHigh, Legal}

-- a registration is of the whole bounce memory, and made in pages that have slots
abbrev pub IsOurs : Setting → Option Registration → Type 0
IsOurs x None = Unit {0}
IsOurs x (Some r) = (r.size ≡ bounce_size x) × (0 < x.per_page)

-- what holds of what is live
pub record Sound (x : Setting) (acts : List Act) : Type 0 where
  pub numbers : (m : Streaming) → Among m (live_mappings acts) → m.number < maps acts
  pub buffers_there : (m : Streaming) → Among m (live_mappings acts) → m.want.buffer < buffers acts
  pub fits : (m : Streaming) → Among m (live_mappings acts) → m.slot + pages_of m.want.len ≤ x.bounce
  pub one : (m n : Streaming) → Among m (live_mappings acts) → Among n (live_mappings acts) → (slot : ℕ) → covers m slot ≡ true → covers n slot ≡ true → m ≡ n
  pub same : (m n : Streaming) → Among m (live_mappings acts) → Among n (live_mappings acts) → m.number ≡ n.number → m ≡ n
  pub regions_high : (r : Coherent) → Among r (live_regions acts) → x.bounce ≤ r.slot
  pub rings_high : (q : ℕ) (r : Ring) → ring_of acts q ≡ Some r → IsHigh x r.place
  pub ours : IsOurs x (registration_of acts)

mapped_sound : (x : Setting) (acts : List Act) (m : Streaming) → IsFresh x acts m → Sound x acts → Sound x (Driver (Mapped m) ∷ acts)
mapped_sound x acts m f s = record {
  numbers = λ l h. elim (pushed l m (live_mappings acts) h) [ inl k ↦ (let r = s.numbers l k in omega arith) | inr e ↦ (let r : l.number ≡ maps acts = ap (λ n. n.number) e ∙ f.number in omega arith) ];
  buffers_there = λ l h. elim (pushed l m (live_mappings acts) h) [ inl k ↦ s.buffers_there l k | inr e ↦ subst (λ n. n.want.buffer < buffers acts) (sym e) f.buffer ];
  fits = λ l h. elim (pushed l m (live_mappings acts) h) [ inl k ↦ s.fits l k | inr e ↦ subst (λ n. n.slot + pages_of n.want.len ≤ x.bounce) (sym e) f.fits ];
  one = λ l n hl hn slot cl cn. one l n (pushed l m (live_mappings acts) hl) (pushed n m (live_mappings acts) hn) slot cl cn;
  same = λ l n hl hn e. same l n (pushed l m (live_mappings acts) hl) (pushed n m (live_mappings acts) hn) e;
  regions_high = s.regions_high;
  rings_high = s.rings_high;
  ours = s.ours;
} where
  one : (l n : Streaming) → Among l (live_mappings acts) ⊎ (l ≡ m) → Among n (live_mappings acts) ⊎ (n ≡ m) → (slot : ℕ) → covers l slot ≡ true → covers n slot ≡ true → l ≡ n
  one l n (inl hl) (inl hn) slot cl cn = s.one l n hl hn slot cl cn
  one l n (inl hl) (inr e) slot cl cn = absurd (f.apart l hl slot (subst (λ k. covers k slot ≡ true) e cn) cl)
  one l n (inr e) (inl hn) slot cl cn = absurd (f.apart n hn slot (subst (λ k. covers k slot ≡ true) e cl) cn)
  one l n (inr d) (inr e) slot cl cn = d ∙ sym e

  same : (l n : Streaming) → Among l (live_mappings acts) ⊎ (l ≡ m) → Among n (live_mappings acts) ⊎ (n ≡ m) → l.number ≡ n.number → l ≡ n
  same l n (inl hl) (inl hn) e = s.same l n hl hn e
  same l n (inl hl) (inr d) e = let low = s.numbers l hl in let is : n.number ≡ maps acts = ap (λ k. k.number) d ∙ f.number in absurd (omega arith)
  same l n (inr d) (inl hn) e = let low = s.numbers n hn in let is : l.number ≡ maps acts = ap (λ k. k.number) d ∙ f.number in absurd (omega arith)
  same l n (inr c) (inr d) e = c ∙ sym d

-- fewer mappings
unmapped_sound : (x : Setting) (acts : List Act) (m : Streaming) → Sound x acts → Sound x (Driver (Unmapped m) ∷ acts)
unmapped_sound x acts m s = record {
  numbers = λ n k. s.numbers n (less n k);
  buffers_there = λ n k. s.buffers_there n (less n k);
  fits = λ n k. s.fits n (less n k);
  one = λ n l k j slot c d. s.one n l (less n k) (less l j) slot c d;
  same = λ n l k j e. s.same n l (less n k) (less l j) e;
  regions_high = s.regions_high;
  rings_high = s.rings_high;
  ours = s.ours;
} where
  less : (n : Streaming) → Among n (live_mappings (Driver (Unmapped m) ∷ acts)) → Among n (live_mappings acts)
  less n k = (filtered (λ l. not (l.number == m.number)) n (live_mappings acts) k).0

made_sound : (x : Setting) (acts : List Act) (q : ℕ) (place : RingPlace) (region : ℕ) → IsHigh x place → Sound x acts → Sound x (Queue (Ring_made q place region) ∷ acts)
made_sound x acts q place region high s = record { numbers = s.numbers; buffers_there = s.buffers_there; fits = s.fits; one = s.one; same = s.same; regions_high = s.regions_high; rings_high = λ k r e. by k r (q == k) e; ours = s.ours } where
  by : (k : ℕ) (r : Ring) (b : Bool) → cond b (Some (record { place = place; region = region })) (ring_of acts k) ≡ Some r → IsHigh x r.place
  by k r true e = let same : record { place = place; region = region } ≡ r = cc in subst (λ r. IsHigh x r.place) same high
  by k r false e = s.rings_high k r e

dropped_sound : (x : Setting) (acts : List Act) (q : ℕ) → Sound x acts → Sound x (Queue (Ring_dropped q) ∷ acts)
dropped_sound x acts q s = record { numbers = s.numbers; buffers_there = s.buffers_there; fits = s.fits; one = s.one; same = s.same; regions_high = s.regions_high; rings_high = λ k r e. by k r (q == k) e; ours = s.ours } where
  by : (k : ℕ) (r : Ring) (b : Bool) → cond b None (ring_of acts k) ≡ Some r → IsHigh x r.place
  by k r true e = cc
  by k r false e = s.rings_high k r e

pub next_sound : (x : Setting) (act : Act) (acts : List Act) → Legal x (act ∷ acts) → Sound x acts → Sound x (act ∷ acts)
next_sound x (Driver (Mapped m)) acts h s = mapped_sound x acts m h.0 s
next_sound x (Driver (Unmapped m)) acts h s = unmapped_sound x acts m s
next_sound x (Driver (Buffer bytes)) acts h s = record { numbers = s.numbers; buffers_there = λ n k. (let r = s.buffers_there n k in omega arith); fits = s.fits; one = s.one; same = s.same; regions_high = s.regions_high; rings_high = s.rings_high; ours = s.ours }
next_sound x (Driver (Zeroed len)) acts h s = record { numbers = s.numbers; buffers_there = λ n k. (let r = s.buffers_there n k in omega arith); fits = s.fits; one = s.one; same = s.same; regions_high = s.regions_high; rings_high = s.rings_high; ours = s.ours }
next_sound x (Driver (Region_made r)) acts h s =
    record { numbers = s.numbers; buffers_there = s.buffers_there; fits = s.fits; one = s.one; same = s.same; regions_high = λ q k. elim (pushed q r (live_regions acts) k) [ inl j ↦ s.regions_high q j | inr e ↦ subst (λ q. x.bounce ≤ q.slot) (sym e) h.0 ]; rings_high = s.rings_high; ours = s.ours }
next_sound x (Driver (Region_freed r)) acts h s =
    record { numbers = s.numbers; buffers_there = s.buffers_there; fits = s.fits; one = s.one; same = s.same; regions_high = λ q k. s.regions_high q (filtered (λ l. not (l.number == r.number)) q (live_regions acts) k).0; rings_high = s.rings_high; ours = s.ours }
next_sound x (Node (Registered base size)) acts h s = record { numbers = s.numbers; buffers_there = s.buffers_there; fits = s.fits; one = s.one; same = s.same; regions_high = s.regions_high; rings_high = s.rings_high; ours = (h.0.1, h.0.2) }
next_sound x (Node Deregistered) acts h s = record { numbers = s.numbers; buffers_there = s.buffers_there; fits = s.fits; one = s.one; same = s.same; regions_high = s.regions_high; rings_high = s.rings_high; ours = tt }
next_sound x (Queue (Ring_made q place region)) acts h s = made_sound x acts q place region h.0 s
next_sound x (Queue (Ring_dropped q)) acts h s = dropped_sound x acts q s
next_sound x _ acts h s = record {
  numbers = s.numbers;
  buffers_there = s.buffers_there;
  fits = s.fits;
  one = s.one;
  same = s.same;
  regions_high = s.regions_high;
  rings_high = s.rings_high;
  ours = s.ours;
}

pub sound : (x : Setting) (acts : List Act) → Legal x acts → Sound x acts
sound x [] h = record {
  numbers = λ m k. absurd k;
  buffers_there = λ m k. absurd k;
  fits = λ m k. absurd k;
  one = λ m n k l slot c d. absurd k;
  same = λ m n k l e. absurd k;
  regions_high = λ r k. absurd k;
  rings_high = λ q r e. cc;
  ours = tt;
}
sound x (act ∷ acts) h = next_sound x act acts h (sound x acts h.1)

-- the acts before any of them are legal too
pub earlier_legal : (x : Setting) (later acts : List Act) → Legal x (later ++ acts) → Legal x acts
earlier_legal x [] acts h = h
earlier_legal x (act ∷ later) acts h = earlier_legal x later acts h.1
