-- A request's end leaves what is the others' own.
use Rattle.std.proofs.Common.{◌≡◌, ℕ, zero, suc, ◌+◌, ◌<◌, true, false, refl, ap, sym, ◌∙◌, subst, arith, List, [], ◌∷◌, ◌++◌, append_assoc, ◌==◌, Option, Some, None, find, true≢false}
use Rattle.std.specs.List.{All, list_any}
use Rattle.std.specs.Option.{option_map_or}
use Rattle.std.proofs.lemmas.Bool.Decides.{nat_tests}
use Rattle.std.proofs.lemmas.List.Elements.{All-nil, All-cons, All-head, All-tail, All-append}
use Rattle.vd_model.specs.Acts.{Act, Driver, Streaming, Request, AddedChain, Unmapped}
use Rattle.vd_model.specs.Queues.{has_map, made_buffer}
use Rattle.vd_model.specs.RingTurns.{unmap_act, unmap_acts, free_acts, request_end_acts, by_head, requests_end_acts}
use Rattle.vd_request_laws.specs.Owned.{IsOwned, AreOthers, AreOwn}
use Rattle.vd_request_laws.proofs.Lists.{itself, equal, not_so, or_left, or_right, found_passes, all_find}
use Rattle.vd_request_laws.proofs.Standing.{unmapped_own, freed_own, first_made}
use Rattle.vd_request_laws.proofs.Requests.{IsOf}

module _ (mappings : List Streaming) (rs : List Request) where
  -- mappings that none of the requests has
  abbrev AreForeign : List ℕ → Type 0
  AreForeign numbers = (n : ℕ) → list_any (λ k. k == n) numbers ≡ true → All (λ s. has_map n (Some s) ≡ false) rs

  unmap_own : (number : ℕ) (acts : List Act) → All (λ s. has_map number (Some s) ≡ false) rs → AreOwn acts rs → AreOwn (unmap_act mappings number ++ acts) rs
  unmap_own number acts off h = by (find (λ m. m.number == number) mappings) refl where
    by : (o : Option Streaming) → find (λ m. m.number == number) mappings ≡ o → AreOwn (option_map_or (λ m. Driver (Unmapped m) ∷ []) o [] ++ acts) rs
    by None e = h
    by (Some m) e =
        unmapped_own acts m rs
        (subst (λ n. All (λ s. has_map n (Some s) ≡ false) rs) (sym (equal m.number number (found_passes (λ (m : Streaming). m.number == number) mappings m e))) off) h

  unmaps_own : (numbers : List ℕ) (acts : List Act) → AreForeign numbers → AreOwn acts rs → AreOwn (unmap_acts mappings numbers ++ acts) rs
  unmaps_own [] acts off h = h
  unmaps_own (number ∷ numbers) acts off h =
      subst (λ l. AreOwn l rs) (sym (append_assoc (unmap_acts mappings numbers) (unmap_act mappings number) acts))
      (unmaps_own numbers (unmap_act mappings number ++ acts) (λ n e. off n (or_right (number == n) (list_any (λ k. k == n) numbers) e))
      (unmap_own number acts (off number (or_left (number == number) (list_any (λ k. k == number) numbers) (itself number))) h))

  frees_own : (buffer n : ℕ) (acts : List Act) → ((k : ℕ) → k < n → All (λ s. (s.buffer == buffer + k) ≡ false) rs) → AreOwn acts rs → AreOwn (free_acts buffer n ++ acts) rs
  frees_own buffer zero acts off h = h
  frees_own buffer (suc n) acts off h =
      freed_own (free_acts buffer n ++ acts) (buffer + n) rs (off n (omega arith)) (frees_own buffer n acts (λ k below. off k (omega (arith, below))) h)

  -- a request that shares nothing with them ends
  pub end_own : (r : Request) (acts : List Act) → All (AreOthers r) rs → AreOwn acts rs → AreOwn (request_end_acts mappings r ++ acts) rs
  end_own r acts others h =
      subst (λ l. AreOwn l rs) (sym (append_assoc (free_acts r.buffer r.buffers) (unmap_acts mappings r.maps) acts))
      (frees_own r.buffer r.buffers (unmap_acts mappings r.maps ++ acts)
      (λ k below i d within. apart k below _ (others i d within) (h.each i d within))
      (unmaps_own r.maps acts (λ n e i d within. let other = others i d within in other.maps n e) h)) where
        inside : (k : ℕ) → k < r.buffers → made_buffer (r.buffer + k) (Some r) ≡ true
        inside k below = grind (arith, nat_tests, below)

        apart : (k : ℕ) → k < r.buffers → (s : Request) → AreOthers r s → IsOwned acts s → (s.buffer == r.buffer + k) ≡ false
        apart k below s other owned = not_so (s.buffer == r.buffer + k) (λ e.
            true≢false (sym (ap (λ b. made_buffer b (Some s)) (sym (equal s.buffer (r.buffer + k) e)) ∙ first_made s owned.some) ∙ other.buffers (r.buffer + k) (inside k below)))

  -- and the requests of some chains, one after the other
  pub ends_own : (chains : List AddedChain) (acts : List Act) → All (IsOf (λ r. All (AreOthers r) rs)) chains → AreOwn acts rs → AreOwn (requests_end_acts mappings chains ++ acts) rs
  ends_own [] acts others h = h
  ends_own (chain ∷ chains) acts others h =
      subst (λ l. AreOwn l rs) (sym (append_assoc (requests_end_acts mappings chains) (option_map_or (request_end_acts mappings) chain.request []) acts))
      (ends_own chains (option_map_or (request_end_acts mappings) chain.request [] ++ acts) (All-tail (IsOf (λ r. All (AreOthers r) rs)) chain chains others)
      (by chain.request refl)) where
        by : (o : Option Request) → chain.request ≡ o → AreOwn (option_map_or (request_end_acts mappings) o [] ++ acts) rs
        by None e = h
        by (Some r) e = end_own r acts (All-head (IsOf (λ r. All (AreOthers r) rs)) chain chains others r e) h

-- what holds of each chain holds of those by head
pub by_head_all : (P : AddedChain → Type 0) (chains : List AddedChain) → All P chains → (n : ℕ) → All P (by_head chains n)
by_head_all P chains h zero = All-nil P
by_head_all P chains h (suc n) = by (find (λ chain. chain.head == n) chains) refl (by_head_all P chains h n) where
  by : (o : Option AddedChain) → find (λ chain. chain.head == n) chains ≡ o → All P (by_head chains n) → All P (by_head chains (suc n))
  by None e rest = rw e (All-append P (by_head chains n) [] rest (All-nil P))
  by (Some chain) e rest = rw e (All-append P (by_head chains n) (chain ∷ []) rest (All-cons P chain [] (all_find P (λ chain. chain.head == n) chains chain e h) (All-nil P)))
