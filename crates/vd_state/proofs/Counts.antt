-- Counts stay within their bounds.
use mir.Val.{bool_byte}
use Rattle.std.proofs.Common.{◌≡◌, ℕ, ◌+◌, ◌<◌, ◌≤◌, ◌^◌, Bool, true, false, Option, Some, None, subst, sym, arith, cond, ◌&&◌, List, set, map, replicate}
use Rattle.std.specs.List.{slice_get}
use Rattle.std.specs.Option.{unwrap_or}
use Rattle.std.proofs.lemmas.Option.{get_or_from_slice_get}
use Rattle.std.proofs.lemmas.List.Elements.{All-set, All-weaker, All-map, All-replicate}
use Rattle.vd_state.specs.declared.queue.Queue.{Queue}
use Rattle.vd_state.specs.Kept.{Kept, CountsWithin, GenerationCanRise, GenerationsCanRise, new_queue, queue_after_reset, queue_with_kick, queue_after_kick, with_kick_file, queue_after_interrupt}
use Rattle.vd_state.proofs.Places.{inside_from}

abbrev KicksWithin : ℕ → Queue → Type 0
KicksWithin most q = unwrap_or q.kicks 0 ≤ most

abbrev InterruptsWithin : ℕ → Queue → Type 0
InterruptsWithin most q = q.interrupts ≤ most

abbrev GenerationWithin : ℕ → Queue → Type 0
GenerationWithin most q = q.generation ≤ most

module _ (most : ℕ) (s : Kept) (w : CountsWithin most s) where
  module _ (k : ℕ) (old : Queue) (there : slice_get s.queues k ≡ Some old) where
    pub old_kicks : unwrap_or old.kicks 0 ≤ most
    old_kicks = subst (KicksWithin most) (get_or_from_slice_get s.queues k old old there) (w.kicks k old (inside_from s.queues k old there))

    pub old_interrupts : old.interrupts ≤ most
    old_interrupts = subst (InterruptsWithin most) (get_or_from_slice_get s.queues k old old there) (w.queues k old (inside_from s.queues k old there))

    pub old_generation : old.generation ≤ most
    old_generation = subst (GenerationWithin most) (get_or_from_slice_get s.queues k old old there) (w.generations k old (inside_from s.queues k old there))

  -- a queue in place of another, its counts within a greater bound
  pub within_set : (n k : ℕ) (v : Queue) (qs : List Queue) → qs ≡ set s.queues k v → most ≤ n → unwrap_or v.kicks 0 ≤ n → v.interrupts ≤ n → v.generation ≤ n
      → CountsWithin n (record s { queues = qs })
  within_set n k v qs is more a b g = subst (λ l. CountsWithin n (record s { queues = l })) (sym is) (record {
    kicks = All-set (KicksWithin n) s.queues k v a (All-weaker (KicksWithin most) (KicksWithin n) (λ x h. omega arith) s.queues w.kicks);
    queues = All-set (InterruptsWithin n) s.queues k v b (All-weaker (InterruptsWithin most) (InterruptsWithin n) (λ x h. omega arith) s.queues w.queues);
    generations = All-set (GenerationWithin n) s.queues k v g (All-weaker (GenerationWithin most) (GenerationWithin n) (λ x h. omega arith) s.queues w.generations);
    config = let c = w.config in omega arith;
  })

pub queue_after_kick_within : (most : ℕ) (q : Queue) → unwrap_or q.kicks 0 ≤ most → q.interrupts ≤ most → q.generation ≤ most
    → (unwrap_or (queue_after_kick q).kicks 0 ≤ most + 1) × ((queue_after_kick q).interrupts ≤ most + 1) × ((queue_after_kick q).generation ≤ most + 1)
queue_after_kick_within most q a b g = by q.ready q.kicks a where
  by : (r : Bool) (o : Option ℕ) → unwrap_or o 0 ≤ most → (unwrap_or (cond r (queue_with_kick o (record q { kicks = o })) (record q { kicks = o })).kicks 0 ≤ most + 1) × ((cond r (queue_with_kick o (record q { kicks = o })) (record q { kicks = o })).interrupts ≤ most + 1)
      × ((cond r (queue_with_kick o (record q { kicks = o })) (record q { kicks = o })).generation ≤ most + 1)
  by true None c = (omega arith, omega arith, omega arith)
  by true (Some n) c = (omega arith, omega arith, omega arith)
  by false o c = (omega arith, omega arith, omega arith)

pub file_within : (most : ℕ) (on : Bool) (q : Queue) → q.interrupts ≤ most → q.generation ≤ most
    → (unwrap_or (with_kick_file on q).kicks 0 ≤ most + 1) × ((with_kick_file on q).interrupts ≤ most + 1) × ((with_kick_file on q).generation ≤ most + 1)
file_within most false q b g = (omega arith, omega arith, omega arith)
file_within most true q b g = by q.ready q.remembered where
  by : (r m : Bool) → (unwrap_or (cond r (record q { kicks = Some (cond m 1 0); remembered = false }) (record q { kicks = Some 0 })).kicks 0 ≤ most + 1) × ((cond r (record q { kicks = Some (cond m 1 0); remembered = false }) (record q { kicks = Some 0 })).interrupts ≤ most + 1)
      × ((cond r (record q { kicks = Some (cond m 1 0); remembered = false }) (record q { kicks = Some 0 })).generation ≤ most + 1)
  by true true = (omega arith, omega arith, omega arith)
  by true false = (omega arith, omega arith, omega arith)
  by false m = (omega arith, omega arith, omega arith)

pub queue_after_interrupt_within : (most : ℕ) (q : Queue) → unwrap_or q.kicks 0 ≤ most → q.interrupts ≤ most → q.generation ≤ most
    → (unwrap_or (queue_after_interrupt q).kicks 0 ≤ most + 1) × ((queue_after_interrupt q).interrupts ≤ most + 1) × ((queue_after_interrupt q).generation ≤ most + 1)
queue_after_interrupt_within most q a b g = by (q.ready && q.callback) where
  by : (t : Bool) → (unwrap_or (cond t (record q { interrupts = q.interrupts + 1 }) q).kicks 0 ≤ most + 1) × ((cond t (record q { interrupts = q.interrupts + 1 }) q).interrupts ≤ most + 1)
      × ((cond t (record q { interrupts = q.interrupts + 1 }) q).generation ≤ most + 1)
  by true = (omega arith, omega arith, omega arith)
  by false = (omega arith, omega arith, omega arith)

-- a reset leaves the generations alone, each one greater
pub queue_after_reset_within : (most : ℕ) (s : Kept) (qs : List Queue) → CountsWithin most s → qs ≡ map queue_after_reset s.queues
    → CountsWithin (most + 1) (record s { status = 0; features = 0; queues = qs; callback = false; interrupts = 0 })
queue_after_reset_within most s qs w is = subst (λ l. CountsWithin (most + 1) (record s { status = 0; features = 0; queues = l; callback = false; interrupts = 0 })) (sym is) (record {
  kicks = All-map (KicksWithin (most + 1)) queue_after_reset s.queues (λ i d inside. omega arith);
  queues = All-map (InterruptsWithin (most + 1)) queue_after_reset s.queues (λ i d inside. omega arith);
  generations = All-map (GenerationWithin (most + 1)) queue_after_reset s.queues
      (All-weaker (GenerationWithin most) (λ q. GenerationWithin (most + 1) (queue_after_reset q)) (λ q h. omega arith) s.queues w.generations);
  config = omega arith;
})

pub counts_inside : {most : ℕ} {h k : Kept} → h ≡ k → CountsWithin most k → CountsWithin most h
counts_inside {most} e w = subst (λ h. CountsWithin most h) (sym e) w

pub new_within : (n offered : ℕ) (qs : List Queue) → qs ≡ replicate n (new_queue 0) → CountsWithin 0 (record { status = 0; offered = offered; features = 0; queues = qs; callback = false; interrupts = 0 })
new_within n offered qs is = subst (λ l. CountsWithin 0 (record { status = 0; offered = offered; features = 0; queues = l; callback = false; interrupts = 0 })) (sym is) (record {
  kicks = All-replicate (KicksWithin 0) n (new_queue 0) (omega arith);
  queues = All-replicate (InterruptsWithin 0) n (new_queue 0) (omega arith);
  generations = All-replicate (GenerationWithin 0) n (new_queue 0) (omega arith);
  config = omega arith;
})

pub at_most_one : (b : Bool) (n : ℕ) → n ≡ bool_byte b → n ≤ 1
at_most_one true n e = omega arith
at_most_one false n e = omega arith

-- ---- room

-- where no count is at 2 ^ 62, each generation can be counted on
pub can_begin : (most : ℕ) (s : Kept) → most < 2 ^ 62 → CountsWithin most s → (k : ℕ) → GenerationCanRise s k
can_begin most s below w k = λ q there. let h = old_generation most s w k q there in omega arith

pub all_can_begin : (most : ℕ) (s : Kept) → most < 2 ^ 62 → CountsWithin most s → GenerationsCanRise s.queues
all_can_begin most s below w = All-weaker (GenerationWithin most) (λ q. q.generation < 2 ^ 62) (λ q h. omega arith) s.queues w.generations
