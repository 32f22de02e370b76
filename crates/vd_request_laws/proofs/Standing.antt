-- What each act on buffers and mappings leaves of what is some requests' own.
use Rattle.std.proofs.Common.{◌≡◌, ℕ, ◌+◌, ◌<◌, ◌≤◌, Bool, true, false, refl, ap, sym, ◌∙◌, subst, arith, List, [], ◌∷◌, ◌++◌, length, ◌==◌, not, if◌then◌else◌, Some, None, true≢false}
use Rattle.std.specs.List.{All, list_any, list_all}
use Rattle.std.proofs.lemmas.Bool.{and_parts}
use Rattle.std.proofs.lemmas.Bool.Decides.{nat_tests}
use Rattle.std.proofs.lemmas.List.Elements.{All-nil, All-cons, All-weaker, All-filter, All-push}
use Rattle.vd_model.specs.Acts.{Act, QueueAct, Node, Driver, Bus, Message_act, State, Queue, Disk_act, Streaming, Request, Buffer, Zeroed, Freed, Mapped, Unmapped}
use Rattle.vd_model.specs.Live.{buffers, maps, buffer_len, live_mappings}
use Rattle.vd_model.specs.Queues.{has_map, made_buffer}
use Rattle.vd_request_laws.specs.Owned.{IsOwned, AreOthers, AreOwn, is_quiet}
use Rattle.vd_request_laws.proofs.Lists.{equal, not_so, any_left, any_kept}

-- a mapping of one of its buffers is one of its mappings
abbrev pub IsIts : Request → Streaming → Type 0
IsIts r m = made_buffer m.want.buffer (Some r) ≡ true → has_map m.number (Some r) ≡ true

abbrev pub IsMade : List Act → Streaming → Type 0
IsMade acts m = m.want.buffer < buffers acts

-- its first buffer is one of its buffers
pub first_made : (r : Request) → 0 < r.buffers → made_buffer r.buffer (Some r) ≡ true
first_made r some = grind (arith, nat_tests, some)

pub turned : (r s : Request) → AreOthers r s → AreOthers s r
turned r s h = record {
  buffers = λ k e. not_so (made_buffer k (Some r)) (λ f. true≢false (sym e ∙ h.buffers k f));
  maps = λ n e. not_so (has_map n (Some r)) (λ f. true≢false (sym e ∙ h.maps n f));
}

-- ---- what leaves the buffers that were there and the mappings

module _ (before after : List Act) (len : (k : ℕ) → k < buffers before → buffer_len after k ≡ buffer_len before k)
    (more_buffers : buffers before ≤ buffers after) (more_maps : maps before ≤ maps after) (live : live_mappings after ≡ live_mappings before) where
  owned_same : (r : Request) → IsOwned before r → IsOwned after r
  owned_same r h = record {
    some = h.some;
    front = len r.buffer (let a = h.made in let b = h.some in omega (arith, a, b)) ∙ h.front;
    made = (let a = h.made in omega (arith, a, more_buffers));
    numbered = All-weaker (λ n. n < maps before) (λ n. n < maps after) (λ n below. omega (arith, below, more_maps)) r.maps h.numbered;
    mapped = subst (All (IsIts r)) (sym live) h.mapped;
    held = ap (list_any (λ (m : Streaming). m.want.buffer == r.buffer)) live ∙ h.held;
  }

  pub same_memory : (rs : List Request) → AreOwn before rs → AreOwn after rs
  same_memory rs h = record {
    each = All-weaker (IsOwned before) (IsOwned after) owned_same rs h.each;
    apart = h.apart;
    there = subst (All (IsMade after)) (sym live) (All-weaker (IsMade before) (IsMade after) (λ m below. omega (arith, below, more_buffers)) (live_mappings before) h.there);
  }

-- an act that looks at no buffer and no mapping
abbrev SameMemory : Act → List Act → Type 0
SameMemory act acts = (rs : List Request) → AreOwn acts rs → AreOwn (act ∷ acts) rs

new_buffer : (acts : List Act) (size k : ℕ) → k < buffers acts → (if k == buffers acts then Some size else buffer_len acts k) ≡ buffer_len acts k
new_buffer acts size k below =
    ap (λ t. if t then Some size else buffer_len acts k) (not_so (k == buffers acts) (λ e. let same = equal k (buffers acts) e in absurd (omega (arith, below, same))))

act_quiet : (act : Act) (acts : List Act) → is_quiet act ≡ true → SameMemory act acts
act_quiet (Driver (Buffer bytes)) acts e = same_memory acts (Driver (Buffer bytes) ∷ acts) (new_buffer acts (length bytes)) (omega arith) (omega arith) refl
act_quiet (Driver (Zeroed size)) acts e = same_memory acts (Driver (Zeroed size) ∷ acts) (new_buffer acts size) (omega arith) (omega arith) refl
act_quiet (Driver (Freed k)) acts e = absurd (true≢false (sym e))
act_quiet (Driver (Mapped m)) acts e = absurd (true≢false (sym e))
act_quiet (Driver (Unmapped m)) acts e = absurd (true≢false (sym e))
act_quiet (Driver act) acts e = same_memory acts (Driver act ∷ acts) (λ k below. refl) (omega arith) (omega arith) refl
act_quiet (Queue act) acts e = same_memory acts (Queue act ∷ acts) (λ k below. refl) (omega arith) (omega arith) refl
act_quiet (Node act) acts e = same_memory acts (Node act ∷ acts) (λ k below. refl) (omega arith) (omega arith) refl
act_quiet (Bus act) acts e = same_memory acts (Bus act ∷ acts) (λ k below. refl) (omega arith) (omega arith) refl
act_quiet (Message_act act) acts e = same_memory acts (Message_act act ∷ acts) (λ k below. refl) (omega arith) (omega arith) refl
act_quiet (State act) acts e = same_memory acts (State act ∷ acts) (λ k below. refl) (omega arith) (omega arith) refl
act_quiet (Disk_act act) acts e = same_memory acts (Disk_act act ∷ acts) (λ k below. refl) (omega arith) (omega arith) refl

pub queue_act : (act : QueueAct) (acts : List Act) (rs : List Request) → AreOwn acts rs → AreOwn (Queue act ∷ acts) rs
queue_act act acts rs h = same_memory acts (Queue act ∷ acts) (λ k below. refl) (omega arith) (omega arith) refl rs h

pub quiet_own : (more acts : List Act) (rs : List Request) → list_all is_quiet more ≡ true → AreOwn acts rs → AreOwn (more ++ acts) rs
quiet_own [] acts rs e h = h
quiet_own (act ∷ more) acts rs e h =
    let p = and_parts (is_quiet act) (list_all is_quiet more) e in
    act_quiet act (more ++ acts) p.0 rs (quiet_own more acts rs p.1 h)

-- one request that is owned is so alone
pub alone : (acts : List Act) (r : Request) → IsOwned acts r → All (IsMade acts) (live_mappings acts) → AreOwn acts (r ∷ [])
alone acts r h there = record {
  each = All-cons (IsOwned acts) r [] h (All-nil (IsOwned acts));
  apart = λ i j d below within. absurd (omega (arith, below, within));
  there = there;
}

-- ---- a mapping is made

module _ (acts : List Act) (m : Streaming) where
  owned_mapped : (r : Request) → made_buffer m.want.buffer (Some r) ≡ false → IsOwned acts r → IsOwned (Driver (Mapped m) ∷ acts) r
  owned_mapped r off h = record {
    some = h.some;
    front = h.front;
    made = h.made;
    numbered = All-weaker (λ n. n < maps acts) (λ n. n < maps acts + 1) (λ n below. omega (arith, below)) r.maps h.numbered;
    mapped = All-push (IsIts r) (live_mappings acts) m h.mapped (λ e. absurd (true≢false (sym e ∙ off)));
    held = any_left (λ (m : Streaming). m.want.buffer == r.buffer) (live_mappings acts) (m ∷ []) h.held;
  }

  pub mapped_own : (rs : List Request) → All (λ r. made_buffer m.want.buffer (Some r) ≡ false) rs → IsMade acts m → AreOwn acts rs → AreOwn (Driver (Mapped m) ∷ acts) rs
  mapped_own rs off made h = record {
    each = λ k d within. owned_mapped _ (off k d within) (h.each k d within);
    apart = h.apart;
    there = All-push (IsMade acts) (live_mappings acts) m h.there made;
  }

  -- ---- a mapping ends

  abbrev Stays : Streaming → Bool
  Stays l = not (l.number == m.number)

  kept : (r : Request) → has_map m.number (Some r) ≡ false → IsOwned acts r → (l : Streaming) → IsIts r l → (l.want.buffer == r.buffer) ≡ true → Stays l ≡ true
  kept r off h l its e = ap not (not_so (l.number == m.number) (λ same.
      true≢false (sym (its (ap (λ k. made_buffer k (Some r)) (equal l.want.buffer r.buffer e) ∙ first_made r h.some))
      ∙ ap (λ n. has_map n (Some r)) (equal l.number m.number same) ∙ off)))

  owned_unmapped : (r : Request) → has_map m.number (Some r) ≡ false → IsOwned acts r → IsOwned (Driver (Unmapped m) ∷ acts) r
  owned_unmapped r off h = record {
    some = h.some;
    front = h.front;
    made = h.made;
    numbered = h.numbered;
    mapped = All-filter Stays (IsIts r) (live_mappings acts) h.mapped;
    held =
        any_kept (λ (m : Streaming). m.want.buffer == r.buffer) Stays (live_mappings acts)
        (All-weaker (IsIts r) (λ (l : Streaming). (l.want.buffer == r.buffer) ≡ true → Stays l ≡ true) (kept r off h) (live_mappings acts) h.mapped)
        h.held;
  }

  pub unmapped_own : (rs : List Request) → All (λ r. has_map m.number (Some r) ≡ false) rs → AreOwn acts rs → AreOwn (Driver (Unmapped m) ∷ acts) rs
  unmapped_own rs off h = record {
    each = λ k d within. owned_unmapped _ (off k d within) (h.each k d within);
    apart = h.apart;
    there = All-filter Stays (IsMade acts) (live_mappings acts) h.there;
  }

-- ---- a buffer is freed

module _ (acts : List Act) (k : ℕ) where
  owned_freed : (r : Request) → (r.buffer == k) ≡ false → IsOwned acts r → IsOwned (Driver (Freed k) ∷ acts) r
  owned_freed r off h = record {
    some = h.some;
    front = ap (λ t. if t then None else buffer_len acts r.buffer) off ∙ h.front;
    made = h.made;
    numbered = h.numbered;
    mapped = h.mapped;
    held = h.held;
  }

  pub freed_own : (rs : List Request) → All (λ r. (r.buffer == k) ≡ false) rs → AreOwn acts rs → AreOwn (Driver (Freed k) ∷ acts) rs
  freed_own rs off h = record {
    each = λ i d within. owned_freed _ (off i d within) (h.each i d within);
    apart = h.apart;
    there = h.there;
  }
