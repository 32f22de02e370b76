-- The same mappings are made on both sides.
use Rattle.std.proofs.Common.{◌≡◌, ℕ, ◌+◌, ◌-◌, Bool, false, refl, ap, subst, sym, ◌∙◌, List, [], ◌∷◌, ◌++◌, append_assoc, ◌&&◌, ◌||◌, not, All}
use Rattle.std.proofs.lemmas.List.Elements.{All-head, All-tail, All-cons, All-nil}
use Rattle.vd_model.specs.Acts.{Act, Driver, Streaming, Mapped}
use Rattle.vd_model.specs.Live.{is_present, page_of, meets_page, maps_address, iova_of}
use Rattle.vd_model.specs.Puts.{ram, last_put, is_to_device}
use Rattle.vd_model.specs.RingTurns.{map_acts}
use Rattle.vd_request_acts.specs.Alike.{IsAlike}
use Rattle.vd_request_acts.proofs.Bytes.{mapped_byte, mapped_put, puts_of}
use Rattle.vd_request_acts.proofs.Alike.{Hole, no_hole, IsShaped, IsAlikeOff, off_nothing, alike_off, spots_step}

-- a mapping is handed no byte of the hole
abbrev pub MissesHole : Hole → Streaming → Type 0
MissesHole hole m = (i : ℕ) → hole m.want.buffer i ≡ false

-- the place in its buffer of the byte that a mapping hands to an address
abbrev pub index_of : Streaming → ℕ → ℕ
index_of m a = m.want.offset + (a - iova_of m)

-- a page that a mapping meets first has zeros
abbrev pub is_fresh : ℕ → List Act → Streaming → ℕ → Bool
is_fresh g acts m a = meets_page g (page_of g a) m && not (is_present g acts (page_of g a))

abbrev pub is_handed : Streaming → ℕ → Bool
is_handed m a = is_to_device m.want.dir && maps_address m a

pub mapped_puts : (g : ℕ) (acts : List Act) (m : Streaming) (a : ℕ)
    → puts_of g acts (Driver (Mapped m)) a ≡ mapped_byte (is_handed m a) (is_fresh g acts m a) (ram g acts m.want.buffer (index_of m a))
mapped_puts g acts m a = mapped_put (is_handed m a) (is_fresh g acts m a) (last_put g acts) m a

pub fresh_same : (g : ℕ) (more acts : List Act) (m : Streaming) (a : ℕ) → IsShaped g more acts → is_fresh g more m a ≡ is_fresh g acts m a
fresh_same g more acts m a e = ap (λ t. meets_page g (page_of g a) m && not t) (e.present (page_of g a))

pub mapped_shape : (g : ℕ) (more acts : List Act) (m : Streaming) → IsShaped g more acts → IsShaped g (Driver (Mapped m) ∷ more) (Driver (Mapped m) ∷ acts)
mapped_shape g more acts m e = record {
  mappings = ap (λ (ms : List Streaming). ms ++ m ∷ []) e.mappings;
  mapped = ap (λ n. n + 1) e.mapped;
  coherent = e.coherent;
  made = e.made;
  shown = refl;
  area = e.area;
  registered = e.registered;
  present = λ page. ap (λ t. meets_page g page m || t) (e.present page);
}

module _ (g : ℕ) (hole : Hole) where
  pub mapped_off : (more acts : List Act) (m : Streaming) → MissesHole hole m → IsAlikeOff g hole more acts
      → IsAlikeOff g hole (Driver (Mapped m) ∷ more) (Driver (Mapped m) ∷ acts)
  mapped_off more acts m misses e = record {
    shape = mapped_shape g more acts m e.shape;
    spots = spots_step g more acts (Mapped m) e.shape.registered e.spots same;
    count = e.count;
    lens = e.lens;
    total = e.total;
    rams = e.rams;
  } where
    same : (a : ℕ) → puts_of g more (Driver (Mapped m)) a ≡ puts_of g acts (Driver (Mapped m)) a
    same a =
        mapped_puts g more m a
        ∙ ap (λ t. mapped_byte (is_handed m a) t (ram g more m.want.buffer (index_of m a))) (fresh_same g more acts m a e.shape)
        ∙ ap (λ b. mapped_byte (is_handed m a) (is_fresh g acts m a) b) (e.rams m.want.buffer (index_of m a) (misses (index_of m a)))
        ∙ sym (mapped_puts g acts m a)

  pub maps_off : (more acts : List Act) (ms : List Streaming) → All (MissesHole hole) ms → IsAlikeOff g hole more acts
      → IsAlikeOff g hole (map_acts ms ++ more) (map_acts ms ++ acts)
  maps_off more acts [] all e = e
  maps_off more acts (m ∷ ms) all e =
      subst (λ (l : List Act). IsAlikeOff g hole l ((map_acts ms ++ Driver (Mapped m) ∷ []) ++ acts)) (sym (append_assoc (map_acts ms) (Driver (Mapped m) ∷ []) more))
      (subst (λ (l : List Act). IsAlikeOff g hole (map_acts ms ++ (Driver (Mapped m) ∷ more)) l) (sym (append_assoc (map_acts ms) (Driver (Mapped m) ∷ []) acts))
      (maps_off (Driver (Mapped m) ∷ more) (Driver (Mapped m) ∷ acts) ms (All-tail (MissesHole hole) m ms all)
      (mapped_off more acts m (All-head (MissesHole hole) m ms all) e)))

pub alike_mapped : (g : ℕ) (more acts : List Act) → IsAlike g more acts → (m : Streaming) → IsAlike g (Driver (Mapped m) ∷ more) (Driver (Mapped m) ∷ acts)
alike_mapped g more acts e m = alike_off g (Driver (Mapped m) ∷ more) (Driver (Mapped m) ∷ acts) (mapped_off g no_hole more acts m (λ i. refl) (off_nothing g more acts e))

miss_nothing : (ms : List Streaming) → All (MissesHole no_hole) ms
miss_nothing [] = All-nil (MissesHole no_hole)
miss_nothing (m ∷ ms) = All-cons (MissesHole no_hole) m ms (λ i. refl) (miss_nothing ms)

pub alike_maps : (g : ℕ) (more acts : List Act) → IsAlike g more acts → (ms : List Streaming) → IsAlike g (map_acts ms ++ more) (map_acts ms ++ acts)
alike_maps g more acts e ms = alike_off g (map_acts ms ++ more) (map_acts ms ++ acts) (maps_off g no_hole more acts ms (miss_nothing ms) (off_nothing g more acts e))

-- ---- what mappings leave

pub maps_ram : (g : ℕ) (acts : List Act) (ms : List Streaming) (k i : ℕ) → ram g (map_acts ms ++ acts) k i ≡ ram g acts k i
maps_ram g acts [] k i = refl
maps_ram g acts (m ∷ ms) k i = ap (λ (l : List Act). ram g l k i) (append_assoc (map_acts ms) (Driver (Mapped m) ∷ []) acts) ∙ maps_ram g (Driver (Mapped m) ∷ acts) ms k i

pub map_acts_last : (ms : List Streaming) (last : Streaming) → map_acts (ms ++ last ∷ []) ≡ Driver (Mapped last) ∷ map_acts ms
map_acts_last [] last = refl
map_acts_last (m ∷ ms) last = ap (λ (l : List Act). l ++ Driver (Mapped m) ∷ []) (map_acts_last ms last)
