-- A request that is submitted: its buffers and its mappings are new, and so its own.
use Rattle.std.proofs.Common.{◌≡◌, ℕ, ◌+◌, ◌<◌, ◌≤◌, Bool, true, false, refl, ap, sym, ◌∙◌, subst, arith, List, [], ◌∷◌, ◌++◌, length, map, ◌==◌, ◌||◌, if◌then◌else◌, Some, true≢false}
use Rattle.std.specs.List.{All, list_any, list_all}
use Rattle.std.proofs.lemmas.Bool.Decides.{nat_tests}
use Rattle.std.proofs.lemmas.List.Elements.{All-head, All-tail, All-append, All-weaker}
use Rattle.vd_model.specs.declared.memory.Want.{Want}
use Rattle.vd_model.specs.declared.parts.Part.{Part}
use Rattle.vd_model.specs.Acts.{Act, Streaming, Request}
use Rattle.vd_model.specs.Live.{buffers, maps, buffer_len, live_mappings}
use Rattle.vd_model.specs.Queues.{has_map, made_buffer}
use Rattle.vd_model.specs.RingTurns.{AskedRequest, header_and_status, table_bytes, part_wants, table_wants, buffer_acts, map_acts}
use Rattle.vd_request_laws.specs.Owned.{IsOwned, AreOthers, AreOwn, is_quiet}
use Rattle.vd_request_laws.proofs.Lists.{itself, equal, not_so, or_left, any_right}
use Rattle.vd_request_laws.proofs.Standing.{IsIts, IsMade}
use Rattle.vd_request_laws.proofs.Placed.{ArePlaced, IsAmong, numbers_among, own_number, live_mapped, maps_mapped, buffers_mapped, len_mapped}

abbrev pub count_of : Bool → ℕ
count_of indirect = if indirect then 2 else 1

-- the request of these mappings
abbrev pub new_request : List Act → Bool → List Streaming → ℕ → Request
new_request done indirect ms writable = record { buffer = buffers done; buffers = count_of indirect; maps = map (λ m. m.number) ms; writable = writable }

module _ (done : List Act) (indirect : Bool) (a : AskedRequest) (parts : List Part) where
  abbrev pub WithBuffers : List Act
  WithBuffers = buffer_acts indirect a parts ++ done

  pub buffers_quiet : list_all is_quiet (buffer_acts indirect a parts) ≡ true
  buffers_quiet = by indirect where
    by : (t : Bool) → list_all is_quiet (buffer_acts t a parts) ≡ true
    by true = refl
    by false = refl

  pub buffers_made : buffers WithBuffers ≡ buffers done + count_of indirect
  buffers_made = by indirect where
    by : (t : Bool) → buffers (buffer_acts t a parts ++ done) ≡ buffers done + count_of t
    by true = omega arith
    by false = refl

  pub maps_same : maps WithBuffers ≡ maps done
  maps_same = by indirect where
    by : (t : Bool) → maps (buffer_acts t a parts ++ done) ≡ maps done
    by true = refl
    by false = refl

  pub live_same : live_mappings WithBuffers ≡ live_mappings done
  live_same = by indirect where
    by : (t : Bool) → live_mappings (buffer_acts t a parts ++ done) ≡ live_mappings done
    by true = refl
    by false = refl

  first_len : buffer_len WithBuffers (buffers done) ≡ Some 17
  first_len = by indirect where
    first : (if buffers done == buffers done then Some (length (header_and_status a)) else buffer_len done (buffers done)) ≡ Some 17
    first = ap (λ t. if t then Some 17 else buffer_len done (buffers done)) (itself (buffers done))

    by : (t : Bool) → buffer_len (buffer_acts t a parts ++ done) (buffers done) ≡ Some 17
    by true =
        ap (λ t. if t then Some (length (table_bytes 0 parts)) else (if buffers done == buffers done then Some (length (header_and_status a)) else buffer_len done (buffers done)))
        (not_so (buffers done == buffers done + 1) (λ e. let same = equal (buffers done) (buffers done + 1) e in absurd (omega (arith, same))))
        ∙ first
    by false = first

  module _ (ms : List Streaming) (writable : ℕ) (p : ArePlaced (maps done) (part_wants (buffers done) a ++ table_wants indirect (buffers done) a) ms) (rs : List Request) (h : AreOwn done rs) where
    abbrev New : Request
    New = new_request done indirect ms writable

    abbrev pub After : List Act
    After = map_acts ms ++ WithBuffers

    held_first : (ms : List Streaming) → ArePlaced (maps done) (part_wants (buffers done) a ++ table_wants indirect (buffers done) a) ms → list_any (λ (m : Streaming). m.want.buffer == buffers done) ms ≡ true
    held_first [] q = absurd q
    held_first (m ∷ ms) q =
        or_left (m.want.buffer == buffers done) (list_any (λ (m : Streaming). m.want.buffer == buffers done) ms)
        (ap (λ (want : Want). want.buffer == buffers done) q.1 ∙ itself (buffers done))

    old_its : (m : Streaming) → IsMade done m → IsIts New m
    old_its m below e = absurd (true≢false (sym e ∙ grind (arith, nat_tests, below)))

    pub new_owned : IsOwned After New
    new_owned = record {
      some = by indirect;
      front = len_mapped ms WithBuffers (buffers done) ∙ first_len;
      made = (let a = buffers_mapped ms WithBuffers in let b = buffers_made in omega (arith, a, b));
      numbered = All-weaker (IsAmong (maps done) (length ms)) (λ n. n < maps After)
          (λ n k. (let high = k.1 in let e = maps_mapped ms WithBuffers in let f = maps_same in omega (arith, high, e, f)))
          (map (λ m. m.number) ms) (numbers_among (maps done) (part_wants (buffers done) a ++ table_wants indirect (buffers done) a) ms p);
      mapped = subst (All (IsIts New)) (sym (live_mapped ms WithBuffers ∙ ap (λ l. l ++ ms) live_same))
          (All-append (IsIts New) (live_mappings done) ms
          (All-weaker (IsMade done) (IsIts New) old_its (live_mappings done) h.there)
          (All-weaker (λ (m : Streaming). list_any (λ k. k == m.number) (map (λ m. m.number) ms) ≡ true) (IsIts New) (λ m e made. e) ms (own_number ms)));
      held = ap (list_any (λ (m : Streaming). m.want.buffer == buffers done)) (live_mapped ms WithBuffers)
          ∙ any_right (λ (m : Streaming). m.want.buffer == buffers done) (live_mappings WithBuffers) ms (held_first ms p);
    } where
      by : (t : Bool) → 0 < count_of t
      by true = omega arith
      by false = omega arith

    other : (s : Request) → IsOwned done s → AreOthers New s
    other s owned = record {
      buffers = λ k e. not_so (made_buffer k (Some s)) (λ f. past k e f);
      maps = λ n e. not_so (has_map n (Some s)) (λ f. older n (least n (map (λ m. m.number) ms) (numbers_among (maps done) (part_wants (buffers done) a ++ table_wants indirect (buffers done) a) ms p) e) s.maps owned.numbered f);
    } where
      past : (k : ℕ) → made_buffer k (Some New) ≡ true → made_buffer k (Some s) ≡ true → ⊥
      past k e f = (let made = owned.made in grind (arith, nat_tests, e, f, made))

      least : (n : ℕ) (ns : List ℕ) → All (IsAmong (maps done) (length ms)) ns → list_any (λ k. k == n) ns ≡ true → maps done ≤ n
      least n [] all e = absurd (true≢false (sym e))
      least n (k ∷ ks) all e = by (k == n) refl e (least n ks (All-tail (IsAmong (maps done) (length ms)) k ks all)) where
        by : (t : Bool) → (k == n) ≡ t → (t || list_any (λ k. k == n) ks) ≡ true → (list_any (λ k. k == n) ks ≡ true → maps done ≤ n) → maps done ≤ n
        by true is f rest = let same = equal k n is in let low = (All-head (IsAmong (maps done) (length ms)) k ks all).0 in omega (arith, same, low)
        by false is f rest = rest f

      older : (n : ℕ) → maps done ≤ n → (ns : List ℕ) → All (λ k. k < maps done) ns → list_any (λ k. k == n) ns ≡ true → ⊥
      older n low [] all e = true≢false (sym e)
      older n low (k ∷ ks) all e = by (k == n) refl e (older n low ks (All-tail (λ k. k < maps done) k ks all)) where
        by : (t : Bool) → (k == n) ≡ t → (t || list_any (λ k. k == n) ks) ≡ true → (list_any (λ k. k == n) ks ≡ true → ⊥) → ⊥
        by true is f rest = let same = equal k n is in let high = All-head (λ k. k < maps done) k ks all in omega (arith, same, high, low)
        by false is f rest = rest f

    pub new_others : All (AreOthers New) rs
    new_others = All-weaker (IsOwned done) (AreOthers New) other rs h.each
