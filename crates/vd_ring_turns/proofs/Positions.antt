-- The used index from which the block daemon counts.
use Rattle.std.proofs.Common.{◌≡◌, ℕ, ◌+◌, ◌*◌, ◌%◌, ◌==◌, ◌<◌, ◌≤◌, Bool, true, false, refl, ap, subst, ◌∙◌, sym, arith, cond, Option, None, Some, is_some, Ok, List, [], ◌∷◌, ◌++◌, length, get_or, eqb-true, nat_lt, true≢false}
use Rattle.std.specs.Option.{option_map_or}
use Rattle.std.proofs.lemmas.Bool.{ltb-true, ltb-false}
use Rattle.std.proofs.lemmas.List.{length-append}
use Rattle.vd_ring_bytes.proofs.Numbers.{same_number, among_drop}
use Rattle.vd_model.specs.Setting.{Setting}
use Rattle.vd_model.specs.Acts.{Act, Queue, AddedChain, Fetched, Finished}
use Rattle.vd_model.specs.Queues.{Ring, chains_out, ends_position, before_first, fetches, finishes, in_hand}
use Rattle.vd_model.specs.Rings.{number16, used_index_at, available_index_at, available_slot_at}
use Rattle.vd_model.specs.AreaTurns.{is_accessible}
use Rattle.vd_model.specs.DaemonTurns.{daemon_memory, queue_place, first_used, index_after}
use Rattle.vd_laws.specs.Among.{Among}
use Rattle.vd_laws.specs.Runs.{IsAddressed}
use Rattle.vd_ring_laws.specs.Heads.{placed_heads, pushed_heads}
use Rattle.vd_ring_laws.proofs.Fair.{Fair}
use Rattle.vd_model.specs.History.{History}
use Rattle.vd_ring_laws.proofs.Fairs.{moment_fair}
use Rattle.vd_ring_turns.specs.FirstFetchLaw.{FirstFetchLaw}
use Rattle.vd_ring_laws.proofs.Hands.{position_after}
use Rattle.vd_ring_laws.proofs.Distincts.{among_head}
use Rattle.vd_ring_bytes.proofs.StandingBytes.{daemon_number}
use Rattle.vd_ring_bytes.proofs.RingLayout.{end_of, index_plain, used_plain, slot_plain, slot_low}
use Rattle.vd_ring_bytes.proofs.RingMemory.{course_of, slot_at}
use Rattle.vd_ring_bytes.proofs.ChainTraces.{ring_accessible}
use Rattle.vd_ring_turns.proofs.CalmRings.{HasRing}

either_some : (o : Option (List Act)) (acts : List Act) → cond (is_some o) o (Some acts) ≡ None → ⊥
either_some None acts e = cc
either_some (Some a) acts e = cc

-- before the first fetch nothing was finished
pub no_finishes : (acts : List Act) (q : ℕ) → Fair acts → before_first acts q ≡ None → finishes acts q ≡ 0
no_finishes [] q fair e = refl
no_finishes (Queue (Fetched k) ∷ acts) q fair e = by (k == q) e (no_finishes acts q fair.1) where
  by : (b : Bool) → cond b (cond (is_some (before_first acts q)) (before_first acts q) (Some acts)) (before_first acts q) ≡ None → (before_first acts q ≡ None → finishes acts q ≡ 0) → finishes acts q ≡ 0
  by true f later = absurd (either_some (before_first acts q) acts f)
  by false f later = later f
no_finishes (Queue (Finished k) ∷ acts) q fair e = by (k == q) refl (no_finishes acts q fair.1 e) where
  by : (b : Bool) → (k == q) ≡ b → finishes acts q ≡ 0 → cond b (finishes acts q + 1) (finishes acts q) ≡ 0
  by true f later =
      let there = (position_after acts q fair.1).there (subst (λ j. is_some (in_hand acts j) ≡ true) (eqb-true k q f) fair.0) in
      let not : false ≡ true = subst (λ o. is_some o ≡ true) e there in
      cc
  by false f later = later
no_finishes (act ∷ acts) q fair e = by (ends_position q act) e (no_finishes acts q fair.1) where
  by : (b : Bool) → cond b None (before_first acts q) ≡ None → (before_first acts q ≡ None → finishes acts q ≡ 0) → cond b 0 (finishes acts q) ≡ 0
  by true f later = refl
  by false f later = later f

pub first_fetch_law : (x : Setting) (h : History) → FirstFetchLaw x h
first_fetch_law x h d acts at q none = no_finishes acts q (moment_fair x h d acts at) none

pub record IsFirst (x : Setting) (acts : List Act) (q : ℕ) : Type 0 where
  pub from : ℕ
  pub is : first_used x acts q ≡ Ok from
  pub finished : index_after (finishes acts q) from ≡ length (pushed_heads x acts q) % 65536

module _ (x : Setting) (small : IsAddressed x) (acts : List Act) (fair : Fair acts) (q : ℕ) (ring : Ring) (h : HasRing x acts q ring) (same : queue_place acts q ≡ ring.place) where
  access : (a : ℕ) → ring.place.driver ≤ a → a < end_of ring.place → is_accessible x acts a ≡ true
  access a lo hi = ring_accessible x acts ring.place h.holds.held a (let d = h.holds.laid.driver in omega arith) hi

  used_now : number16 (daemon_memory x acts) (used_index_at (queue_place acts q)) ≡ Ok (length (pushed_heads x acts q) % 65536)
  used_now =
      ap (λ r. number16 (daemon_memory x acts) (used_index_at r)) same
      ∙ (ap (λ a. number16 (daemon_memory x acts) a) (used_plain x small ring.place h.holds.laid)
      ∙ daemon_number x acts (ring.place.device + 2) (length (pushed_heads x acts q)) h.holds.used (λ i lo. access (ring.place.device + 2 + i) (let d = h.holds.laid.device in omega arith) (let z = h.holds.laid.some in omega arith)))

  -- the used index that the first fetch loads or loaded, and one for each finish, is that of the pushed heads
  pub first_is : IsFirst x acts q
  first_is = by (before_first acts q) refl where
    by : (o : Option (List Act)) → before_first acts q ≡ o → IsFirst x acts q
    by None e = record {
      from = length (pushed_heads x acts q) % 65536;
      is = ap (λ o. option_map_or (λ earlier. number16 (daemon_memory x earlier) (used_index_at (queue_place earlier q))) o (number16 (daemon_memory x acts) (used_index_at (queue_place acts q)))) e ∙ used_now;
      finished = (let z = no_finishes acts q fair e in omega arith);
    }
    by (Some earlier) e =
        let p = h.position earlier e in
        record {
          from = p.from;
          is = ap (λ o. option_map_or (λ earlier. number16 (daemon_memory x earlier) (used_index_at (queue_place earlier q))) o (number16 (daemon_memory x acts) (used_index_at (queue_place acts q)))) e ∙ p.loaded;
          finished = ap (λ k. k % 65536) (let c : p.from + finishes acts q ≡ finishes acts q + p.from = omega arith in c) ∙ p.moved;
        }

  -- with nothing in hand it fetched as many
  pub fetched_is : in_hand acts q ≡ None → fetches acts q ≡ finishes acts q
  fetched_is none = (position_after acts q fair).counted ∙ (ap (λ o. finishes acts q + cond (is_some o) 1 0) none ∙ (let z : finishes acts q + 0 ≡ finishes acts q = omega arith in z))

  index_now : number16 (daemon_memory x acts) (available_index_at (queue_place acts q)) ≡ Ok (length (placed_heads acts q) % 65536)
  index_now =
      ap (λ r. number16 (daemon_memory x acts) (available_index_at r)) same
      ∙ (ap (λ a. number16 (daemon_memory x acts) a) (index_plain x small ring.place h.holds.laid)
      ∙ daemon_number x acts (ring.place.driver + 2) (length (placed_heads acts q)) h.holds.index (λ i lo. access (ring.place.driver + 2 + i) (omega arith) (let z = h.holds.laid.some in let d = h.holds.laid.device in omega arith)))

  pub placed_more : length (pushed_heads x acts q) ≤ length (placed_heads acts q)
  placed_more = let e = ap length h.holds.first in let l : length (pushed_heads x acts q ++ h.holds.rest) ≡ length (pushed_heads x acts q) + length h.holds.rest = length-append (pushed_heads x acts q) h.holds.rest in omega arith

  -- at the position of the pushed heads, the slot has the next head that was placed
  pub slot_now : (position : ℕ) → position ≡ length (pushed_heads x acts q) % 65536 → length (pushed_heads x acts q) < length (placed_heads acts q)
      → number16 (daemon_memory x acts) (available_slot_at (queue_place acts q) position) ≡ Ok (get_or (placed_heads acts q) (length (pushed_heads x acts q)) 0 % 65536)
  slot_now position is more =
      let r = ring.place in
      let n = length (pushed_heads x acts q) in
      let low = slot_low n r.size h.holds.laid.some in
      ap (λ r. number16 (daemon_memory x acts) (available_slot_at r position)) same
      ∙ (ap (λ a. number16 (daemon_memory x acts) a)
      (slot_plain x small r h.holds.laid position ∙ (ap (λ k. r.driver + (4 + 2 * (k % r.size))) is ∙ ap (λ k. r.driver + (4 + 2 * k)) (h.holds.laid.cyclic n)))
      ∙ daemon_number x acts (slot_at r n) (get_or (placed_heads acts q) n 0) (h.holds.slots n (omega arith) more) (λ i lo. access (slot_at r n + i) (omega arith) (let d = h.holds.laid.device in omega arith)))

  pub found_more : (found position : ℕ) → number16 (daemon_memory x acts) (available_index_at (queue_place acts q)) ≡ Ok found → position ≡ length (pushed_heads x acts q) % 65536 → (found == position) ≡ false
      → length (pushed_heads x acts q) < length (placed_heads acts q)
  found_more found position e is other =
      let both : Ok found ≡ Ok (length (placed_heads acts q) % 65536) = sym e ∙ index_now in
      let at : found ≡ length (placed_heads acts q) % 65536 = cc in
      let le = placed_more in
      by (nat_lt (length (pushed_heads x acts q)) (length (placed_heads acts q))) refl where
        by : (b : Bool) → nat_lt (length (pushed_heads x acts q)) (length (placed_heads acts q)) ≡ b → length (pushed_heads x acts q) < length (placed_heads acts q)
        by true f = ltb-true (length (pushed_heads x acts q)) (length (placed_heads acts q)) f
        by false f =
            let both : Ok found ≡ Ok (length (placed_heads acts q) % 65536) = sym e ∙ index_now in
            let at : found ≡ length (placed_heads acts q) % 65536 = cc in
            let le = placed_more in
            let ge = ltb-false (length (pushed_heads x acts q)) (length (placed_heads acts q)) f in
            let lengths : length (placed_heads acts q) ≡ length (pushed_heads x acts q) = omega arith in
            let same : found ≡ position = at ∙ (ap (λ k. k % 65536) lengths ∙ sym is) in
            absurd (true≢false (sym (subst (λ k. (found == k) ≡ true) same (same_number found)) ∙ other))

  -- the chain of the next head
  pub next_chain : length (pushed_heads x acts q) < length (placed_heads acts q) → (c : AddedChain) × Among c (chains_out acts q) × (get_or (placed_heads acts q) (length (pushed_heads x acts q)) 0 ≡ c.head)
  next_chain more = among_head (get_or (placed_heads acts q) (length (pushed_heads x acts q)) 0) (chains_out acts q)
      (subst (Among (get_or (placed_heads acts q) (length (pushed_heads x acts q)) 0)) (sym h.holds.outs) (among_drop (course_of x acts q).reclaimed (length (pushed_heads x acts q)) (placed_heads acts q) h.holds.back more))
