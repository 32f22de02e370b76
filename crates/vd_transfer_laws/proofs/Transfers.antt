-- A byte that nobody else writes keeps its mark and its value.
use Rattle.std.proofs.Common.{◌≡◌, ℕ, ◌+◌, ◌-◌, ◌<◌, ◌≤◌, Bool, true, false, refl, ap, ◌∙◌, sym, arith, cond, None, Some, List, [], ◌∷◌, ◌++◌, length, ◌==◌, ◌&&◌, nat_lt, unwrap_or, append_assoc, inl, inr}
use Rattle.std.specs.Option.{option_and_then}
use Rattle.std.proofs.lemmas.Bool.{ne_eqb, eq-eqb, and_from}
use Rattle.vd_num.specs.Number.{is_within}
use Rattle.vd_model.specs.Setting.{Setting}
use Rattle.vd_model.specs.Acts.{Act, NodeAct, Streaming, Node, Driver, Buffer, Zeroed, Poked, Mapped, Unmapped, Synced_device}
use Rattle.vd_model.specs.Live.{buffers, maps, iova_of}
use Rattle.vd_model.specs.Puts.{byte_in, is_to_device, is_from_device}
use Rattle.vd_model.specs.Direct.{daemon_writes, brings_back, address_for, mapping_through, direct_byte, Known, Told, mark_if, told_after, is_marked}
use Rattle.vd_model.specs.History.{History}
use Rattle.vd_laws.specs.Runs.{IsMoment}
use Rattle.vd_laws.proofs.Legal.{IsFresh, Admits, Legal}
use Rattle.vd_laws.proofs.Sound.{sound, earlier_legal}
use Rattle.vd_laws.proofs.Ranges.{in_range}
use Rattle.vd_laws.proofs.Texts.{text_absent}
use Rattle.vd_laws.proofs.MemoryLaw.{moment_legal}
use Rattle.vd_laws.proofs.DirectLaw.{direct_law}
use Rattle.vd_transfer_laws.specs.TransferLaw.{IsUnwritten, IsUntouched, IsKept, AreAll, TransferLaw}

-- ---- numbers only rise

maps_rise : (later acts : List Act) → maps acts ≤ maps (later ++ acts)
maps_rise [] acts = omega arith
maps_rise (Driver (Mapped m) ∷ later) acts = let l = maps_rise later acts in omega arith
maps_rise (_ ∷ later) acts = maps_rise later acts

buffers_rise : (later acts : List Act) → buffers acts ≤ buffers (later ++ acts)
buffers_rise [] acts = omega arith
buffers_rise (Driver (Buffer bytes) ∷ later) acts = let l = buffers_rise later acts in omega arith
buffers_rise (Driver (Zeroed len) ∷ later) acts = let l = buffers_rise later acts in omega arith
buffers_rise (_ ∷ later) acts = buffers_rise later acts

module _ (x : Setting) (m : Streaming) (i : ℕ) where
  abbrev k : ℕ
  k = m.want.buffer

  abbrev j : ℕ
  j = m.want.offset + i

  -- the device keeps the value, and it stays
  abbrev Stays : List Act → Act → Type 0
  Stays done act = (is_marked (act ∷ done) (Told m i) ≡ is_marked done (Told m i)) × (direct_byte (act ∷ done) k j ≡ direct_byte done k j)

  poke_stays : (done : List Act) (buffer at : ℕ) (bytes : List ℕ) → ((k == buffer) && is_within at (length bytes) j) ≡ false → Stays done (Driver (Poked buffer at bytes))
  poke_stays done buffer at bytes e = by (k == buffer) e where
    by : (b : Bool) → (b && is_within at (length bytes) j) ≡ false
        → (unwrap_or (cond b (mark_if (is_within at (length bytes) j) false) None) (is_marked done (Told m i)) ≡ is_marked done (Told m i)) × (unwrap_or (cond b (byte_in bytes at j) None) (direct_byte done k j) ≡ direct_byte done k j)
    by true f = (ap (λ c. unwrap_or (mark_if c false) (is_marked done (Told m i))) f, ap (λ o. unwrap_or o (direct_byte done k j)) (text_absent bytes at j f))
    by false f = (refl, refl)

  node_stays : (done : List Act) (act : NodeAct) → IsUnwritten done act m i → Stays done (Node act)
  node_stays done act u = (
    ap (λ o. unwrap_or (told_after o (daemon_writes done (Node act) (iova_of m + i)) m) (is_marked done (Told m i))) u.through_none
        ∙ ap (λ w. unwrap_or (told_after None w m) (is_marked done (Told m i))) u.absent,
    ap (λ o. unwrap_or (option_and_then (λ l. daemon_writes done (Node act) (address_for l j)) o) (direct_byte done k j)) u.through_none,
  )

  left_stays : (done : List Act) (act : Act) → Admits x done act → m.number < maps done → k < buffers done → IsUntouched done act m i → Stays done act
  left_stays done (Driver (Buffer bytes)) a n b u = (refl, ap (λ c. unwrap_or (cond c (byte_in bytes 0 j) None) (direct_byte done k j)) (ne_eqb k (buffers done) (λ e. omega arith)))
  left_stays done (Driver (Zeroed len)) a n b u = (refl, ap (λ c. unwrap_or (cond (c && nat_lt j len) (Some 0) None) (direct_byte done k j)) (ne_eqb k (buffers done) (λ e. omega arith)))
  left_stays done (Driver (Poked buffer at bytes)) a n b u = poke_stays done buffer at bytes u
  left_stays done (Driver (Mapped l)) a n b u =
      (ap (λ c. unwrap_or (mark_if c (is_to_device l.want.dir && is_marked done (Known l.want.buffer (l.want.offset + i)))) (is_marked done (Told m i))) (ne_eqb l.number m.number (λ e. let f = a.number in omega arith)), refl)
  left_stays done (Driver (Synced_device l)) a n b u = (ap (λ c. unwrap_or (mark_if c (is_marked done (Known l.want.buffer (l.want.offset + i)))) (is_marked done (Told m i))) u, refl)
  left_stays done (Node act) a n b u = node_stays done act u
  left_stays done _ a n b u = (refl, refl)

  -- over all later acts
  all_stay : (later base : List Act) → Legal x (later ++ base) → m.number < maps base → k < buffers base → AreAll IsUntouched later base m i
      → (is_marked (later ++ base) (Told m i) ≡ is_marked base (Told m i)) × (direct_byte (later ++ base) k j ≡ direct_byte base k j)
  all_stay [] base legal n b u = (refl, refl)
  all_stay (act ∷ later) base legal n b u =
      let rest = all_stay later base legal.1 n b u.1 in
      let more = maps_rise later base in
      let wide = buffers_rise later base in
      let now = left_stays (later ++ base) act legal.0 (omega arith) (omega arith) u.0 in
      (now.0 ∙ rest.0, now.1 ∙ rest.1)

  -- the device's mark stays where the byte is written through this mapping alone
  kept_stays : (done : List Act) (act : Act) → Admits x done act → m.number < maps done → k < buffers done → IsKept done act m i → is_marked done (Told m i) ≡ true → is_marked (act ∷ done) (Told m i) ≡ true
  kept_stays done (Node act) a n b (inl u) mark = (node_stays done act u).0 ∙ mark
  kept_stays done (Node act) a n b (inr w) mark =
      ap (λ o. unwrap_or (told_after o (daemon_writes done (Node act) (iova_of m + i)) m) (is_marked done (Told m i))) w.1 ∙ eq-eqb w.0.number m.number w.2
  kept_stays done (Driver act) a n b u mark = (left_stays done (Driver act) a n b u).0 ∙ mark
  kept_stays done _ a n b u mark = mark

  all_kept : (later base : List Act) → Legal x (later ++ base) → m.number < maps base → k < buffers base → AreAll IsKept later base m i → is_marked base (Told m i) ≡ true → is_marked (later ++ base) (Told m i) ≡ true
  all_kept [] base legal n b u mark = mark
  all_kept (act ∷ later) base legal n b u mark =
      let more = maps_rise later base in
      let wide = buffers_rise later base in
      kept_stays (later ++ base) act legal.0 (omega arith) (omega arith) u.0 (all_kept later base legal.1 n b u.1 mark)

-- ---- the law

earlier_moment : (x : Setting) (h : History) (d : List ℕ) (later : List Act) (act : Act) (acts : List Act) → IsMoment x h d (later ++ act ∷ acts) → IsMoment x h d acts
earlier_moment x h d later act acts at =
    (at.0 ++ (later ++ act ∷ []), at.1 ∙ (ap (λ l. at.0 ++ l) (sym (append_assoc later (act ∷ []) acts)) ∙ sym (append_assoc at.0 (later ++ act ∷ []) acts)))

pub transfer_law : (x : Setting) (h : History) → TransferLaw x h
transfer_law x h = record {
  shows = λ small d m later acts at there to i low known left.
      (let base = Driver (Mapped m) ∷ acts in
      let legal = moment_legal x h d (later ++ base) at in
      let fresh : IsFresh x acts m = (earlier_legal x later base legal).0 in
      let number = fresh.number in
      let buffer = fresh.buffer in
      let all = all_stay x m i later base legal (omega arith) (omega arith) left in
      let handed : is_marked base (Told m i) ≡ true =
      ap (λ c. unwrap_or (mark_if c (is_to_device m.want.dir && is_marked acts (Known m.want.buffer (m.want.offset + i)))) (is_marked acts (Told m i))) (eq-eqb m.number m.number refl)
      ∙ and_from (is_to_device m.want.dir) (is_marked acts (Known m.want.buffer (m.want.offset + i))) to known in
      (direct_law x h).told small d (later ++ base) at m there i low (all.0 ∙ handed)
      ∙ (all.1 ∙ sym ((direct_law x h).known small d acts (earlier_moment x h d later (Driver (Mapped m)) acts at) m.want.buffer (m.want.offset + i) known)));
  gives = λ small d m later act acts at there from i low written kept.
      (let base = Node act ∷ acts in
      let k = m.want.buffer in
      let j = m.want.offset + i in
      let legal = (moment_legal x h d (Driver (Unmapped m) ∷ later ++ base) at).1 in
      let s = sound x acts (earlier_legal x later base legal).1 in
      let number = s.numbers m there in
      let buffer = s.buffers_there m there in
      let stored : is_marked base (Told m i) ≡ true =
      ap (λ o. unwrap_or (told_after o (daemon_writes acts (Node act) (iova_of m + i)) m) (is_marked acts (Told m i))) written.1 ∙ eq-eqb written.0.number m.number written.2 in
      let mark = all_kept x m i later base legal number buffer kept stored in
      let back : brings_back m k j ≡ true = and_from (is_from_device m.want.dir && (k == k)) (is_within m.want.offset m.want.len j) (and_from (is_from_device m.want.dir) (k == k) from (eq-eqb k k refl)) (in_range m.want.offset m.want.len j (omega arith) (omega arith)) in
      let index : j - m.want.offset ≡ i = omega arith in
      (direct_law x h).known small d (Driver (Unmapped m) ∷ later ++ base) at k j
      (ap (λ b. unwrap_or (mark_if b (is_marked (later ++ base) (Told m (j - m.want.offset)))) (is_marked (later ++ base) (Known k j))) back ∙ (ap (λ n. is_marked (later ++ base) (Told m n)) index ∙ mark)));
}
