-- A domain after the daemon's acts on its area and its registration.
use Rattle.std.proofs.Common.{◌≡◌, ℕ, ◌+◌, ◌-◌, ◌*◌, ◌/◌, ◌<◌, ◌≤◌, inl, inr, refl, ap, sym, subst, ◌∙◌, arith, Bool, true, false, if◌then◌else◌, ◌&&◌, nat_lt, List, [], ◌∷◌, length, Option, Some, None}
use Rattle.std.specs.Prelude.{unwrap_or, is_some}
use Rattle.std.proofs.lemmas.Bool.Decides.{nat_tests, leb_tells}
use Rattle.std.proofs.Math.Nat.{mul-le-mul_left}
use Rattle.std.specs.List.{slice_index, slice_index_or}
use Rattle.std.specs.Option.{option_map}
use Rattle.vd_num.specs.Number.{is_within}
use Rattle.vd_pool.specs.Memory.{PoolMemory}
use Rattle.vd_bounce.specs.Frames.{frame_of}
use Rattle.vd_bounce.specs.Bounce.{Bounce, Place, Iova, Area, value, home_place, home_by, over, is_page_present, page_size, bounce_len, SameShape}
use Rattle.vd_bounce.proofs.Pages.{within_low, within_high}
use Rattle.vd_model.specs.Setting.{Setting}
use Rattle.vd_model.specs.Setting as setting
use Rattle.vd_model.specs.Acts.{Act, Node, Area_put, Registered, Deregistered}
use Rattle.vd_model.specs.Live as model
use Rattle.vd_model.specs.Puts as puts
use Rattle.vd_domain.specs.Held.{Held, bounce_slots}
use Rattle.vd_domain.specs.Stands.{Stands, last_byte}
use Rattle.vd_domain.proofs.Presence.{area_length}
use Rattle.vd_domain.proofs.Putting.{quiet_iova, quiet_area, moved_put, text_put}

-- ---- what has the same shape

module _ (h : Held) (b : Bounce) (same : SameShape h.bounce b) where
  pub slots_kept : bounce_slots h ≡ bounce_slots (record h { bounce = b })
  slots_kept = rw (same.size, same.pages) refl

pub area_written : (x : Setting) (acts : List Act) (h : Held) (b : Bounce) (m : PoolMemory) (at : ℕ) (bytes : List ℕ) → Stands x acts h m
    → SameShape h.bounce b → b.frames ≡ h.bounce.frames → ((p : Place) → value b m p ≡ over (Area at) bytes p (value h.bounce m p))
    → Stands x (Node (Area_put at bytes) ∷ acts) (record h { bounce = b }) m
area_written x acts h b m at bytes s same frames put = record {
  bounce = s.bounce ∙ slots_kept h b same;
  iova = s.iova ∙ ap (λ n. n + length h.shared.frames) (slots_kept h b same);
  per_page = s.per_page ∙ sym same.size;
  live = s.live;
  maps = s.maps;
  regions = s.regions;
  made = s.made;
  is_shown = s.is_shown;
  area = same.area ∙ s.area;
  registered = s.registered ∙ ap (λ u. option_map (λ u. record { base = u; size = setting.bounce_size x }) u) (sym same.user);
  present = λ p below. rw (same.user, frames) (s.present p (subst (λ (fs : List (Option ℕ)). p < length fs) frames below));
  bytes = λ a free low there.
      put (Iova a) ∙ s.bytes a (sym same.user ∙ free) low there
      ∙ sym (quiet_iova (puts.is_moved (model.registration_of acts) a) x.per_page _ acts (Node (Area_put at bytes)) a (puts.Iova a) refl);
  area_bytes = λ o below.
      put (Area o)
      ∙ ap (λ v. if is_within at (length bytes) o then slice_index bytes (o - at) else v) (s.area_bytes o (inside o below))
      ∙ sym (text_put bytes at o _ (puts.last_put x.per_page acts) (puts.Area o));
  shared = λ a low there. s.shared a low there ∙ sym (quiet_iova (puts.is_moved (model.registration_of acts) a) x.per_page _ acts (Node (Area_put at bytes)) a (puts.Iova a) refl);
} where
  inside : (o : ℕ) → o < length (unwrap_or b.area []) → o < length (unwrap_or h.bounce.area [])
  inside o below = subst (λ (n : ℕ). o < n) (area_length b.area h.bounce.area same.area) below

-- ---- the registration

-- bounce memory has as many bytes for both
pub sizes_same : (x : Setting) (h : Held) → x.bounce ≡ bounce_slots h → setting.bounce_size x ≡ bounce_len h.bounce
sizes_same x h e = ap (λ n. 4096 * n) e ∙ (let whole : 4096 * (h.bounce.per_page * length h.bounce.frames) ≡ 4096 * h.bounce.per_page * length h.bounce.frames = omega arith in whole)

page_below : (size n a : ℕ) → a < size * n → a / size < n
page_below size n a below = elim (leb_tells n (a / size)) [
  | inl upto ↦
      (let u = upto.1 in
      let more : size * n ≤ size * (a / size) = mul-le-mul_left size u in
      absurd (omega arith))
  | inr past ↦ (let p = past.1 in omega arith)
]

pub area_registered : (x : Setting) (acts : List Act) (h : Held) (b : Bounce) (m n : PoolMemory) (base : ℕ) (flags : List Bool) → Stands x acts h m
    → h.bounce.user ≡ None → SameShape (record h.bounce { user = Some base }) b
    → ((p : ℕ) → p < length h.bounce.frames → slice_index_or flags p false ≡ model.is_in_use x.per_page acts p)
    → ((p : ℕ) → slice_index_or flags p false ≡ true → is_some (frame_of h.bounce.frames p) ≡ true)
    → ((o : ℕ) → value b n (Area o)
    ≡ (if is_within base (bounce_len h.bounce) o && slice_index_or flags ((o - base) / page_size h.bounce) false then value h.bounce m (Iova (o - base)) else value h.bounce m (Area o)))
    → Stands x (Node (Registered base (setting.bounce_size x)) ∷ acts) (record h { bounce = b }) n
area_registered x acts h b m n base flags s free same flag there moved = record {
  bounce = s.bounce ∙ slots;
  iova = s.iova ∙ ap (λ k. k + length h.shared.frames) slots;
  per_page = s.per_page ∙ sym same.size;
  live = s.live;
  maps = s.maps;
  regions = s.regions;
  made = s.made;
  is_shown = s.is_shown;
  area = same.area ∙ s.area;
  registered = rw same.user refl;
  present = λ p below. let low : nat_lt p (length b.frames) ≡ true = grind (arith, nat_tests, below) in rw (low, same.user) refl;
  bytes = λ a none low there. absurd (not_none (sym same.user ∙ none));
  area_bytes = λ o below.
      moved o
      ∙ ap (λ (k : ℕ). if is_within base k o && slice_index_or flags ((o - base) / page_size h.bounce) false then value h.bounce m (Iova (o - base)) else value h.bounce m (Area o)) (sym whole)
      ∙ by o (subst (λ (k : ℕ). o < k) (area_length b.area h.bounce.area same.area) below) (is_within base (setting.bounce_size x) o) refl
      ∙ sym (moved_put (is_within base (setting.bounce_size x) o && model.is_in_use x.per_page acts (model.page_of x.per_page (o - base))) (puts.last_put x.per_page acts) (puts.Iova (o - base)) (puts.Area o));
  shared = λ a low there. s.shared a low there ∙ sym (quiet_iova (puts.is_moved (model.registration_of acts) a) x.per_page _ acts (Node (Registered base (setting.bounce_size x))) a (puts.Iova a) refl);
} where
  slots : bounce_slots h ≡ bounce_slots (record h { bounce = b })
  slots = rw (same.size, same.pages) refl

  whole : setting.bounce_size x ≡ bounce_len h.bounce
  whole = sizes_same x h s.bounce

  not_none : {k : ℕ} → Some k ≡ None → ⊥
  not_none e = cc

  held : (p : ℕ) → p < length h.bounce.frames → is_some (frame_of h.bounce.frames p) ≡ true → is_page_present h.bounce p ≡ true
  held p below framed = let low : nat_lt p (length h.bounce.frames) ≡ true = grind (arith, nat_tests, below) in rw (low, free, framed) refl

  by : (o : ℕ) → o < length (unwrap_or h.bounce.area []) → (w : Bool) → is_within base (setting.bounce_size x) o ≡ w
      → (if w && slice_index_or flags ((o - base) / page_size h.bounce) false then value h.bounce m (Iova (o - base)) else value h.bounce m (Area o))
      ≡ (if w && model.is_in_use x.per_page acts (model.page_of x.per_page (o - base)) then last_byte x acts (puts.Iova (o - base)) else last_byte x acts (puts.Area o))
  by o below false e = s.area_bytes o below
  by o below true e =
      let low = within_low base (setting.bounce_size x) o e in
      let high = within_high base (setting.bounce_size x) o e in
      let inside : o - base < setting.bounce_size x = omega arith in
      let page : (o - base) / page_size h.bounce < length h.bounce.frames = page_below (page_size h.bounce) (length h.bounce.frames) (o - base) (subst (λ (k : ℕ). o - base < k) whole inside) in
      let same_page : (o - base) / page_size h.bounce ≡ model.page_of x.per_page (o - base) = ap (λ (g : ℕ). (o - base) / (4096 * g)) (sym s.per_page) in
      at o below inside ((o - base) / page_size h.bounce) page same_page (slice_index_or flags ((o - base) / page_size h.bounce) false) refl where
        at : (o : ℕ) → o < length (unwrap_or h.bounce.area []) → o - base < setting.bounce_size x → (p : ℕ) → p < length h.bounce.frames → p ≡ model.page_of x.per_page (o - base)
            → (f : Bool) → slice_index_or flags p false ≡ f
            → (if f then value h.bounce m (Iova (o - base)) else value h.bounce m (Area o))
            ≡ (if model.is_in_use x.per_page acts (model.page_of x.per_page (o - base)) then last_byte x acts (puts.Iova (o - base)) else last_byte x acts (puts.Area o))
        at o below inside p page same_page true e =
            let used : model.is_in_use x.per_page acts (model.page_of x.per_page (o - base)) ≡ true = ap (λ q. model.is_in_use x.per_page acts q) (sym same_page) ∙ sym (flag p page) ∙ e in
            let shown : model.is_present x.per_page acts (model.page_of x.per_page (o - base)) ≡ true = ap (λ q. model.is_present x.per_page acts q) (sym same_page) ∙ sym (s.present p page) ∙ held p page (there p e) in
            s.bytes (o - base) free inside shown
            ∙ sym (ap (λ (c : Bool). if c then last_byte x acts (puts.Iova (o - base)) else last_byte x acts (puts.Area o)) used)
        at o below inside p page same_page false e =
            let unused : model.is_in_use x.per_page acts (model.page_of x.per_page (o - base)) ≡ false = ap (λ q. model.is_in_use x.per_page acts q) (sym same_page) ∙ sym (flag p page) ∙ e in
            s.area_bytes o below
            ∙ sym (ap (λ (c : Bool). if c then last_byte x acts (puts.Iova (o - base)) else last_byte x acts (puts.Area o)) unused)

pub area_released : (x : Setting) (acts : List Act) (h : Held) (b : Bounce) (m n : PoolMemory) (user : ℕ) (flags : List Bool) → Stands x acts h m
    → h.bounce.user ≡ Some user → user + bounce_len h.bounce ≤ length (unwrap_or h.bounce.area []) → SameShape (record h.bounce { user = None }) b
    → ((p : ℕ) → p < length h.bounce.frames → slice_index_or flags p false ≡ model.is_in_use x.per_page acts p)
    → ((p : ℕ) → is_page_present b p ≡ slice_index_or flags p false)
    → ((a : ℕ) → value b n (Iova a) ≡ (if slice_index_or flags (a / page_size h.bounce) false then value h.bounce m (home_place h.bounce a) else 0))
    → ((o : ℕ) → value b n (Area o) ≡ value h.bounce m (Area o))
    → Stands x (Node Deregistered ∷ acts) (record h { bounce = b }) n
area_released x acts h b m n user flags s held room same flag shown bounce area = record {
  bounce = s.bounce ∙ slots;
  iova = s.iova ∙ ap (λ k. k + length h.shared.frames) slots;
  per_page = s.per_page ∙ sym same.size;
  live = s.live;
  maps = s.maps;
  regions = s.regions;
  made = s.made;
  is_shown = s.is_shown;
  area = same.area ∙ s.area;
  registered = rw same.user refl;
  present = λ p below. shown p ∙ flag p (subst (λ (k : ℕ). p < k) same.pages below);
  bytes = λ a none low there.
      let page : a / page_size h.bounce < length h.bounce.frames = page_below (page_size h.bounce) (length h.bounce.frames) a (subst (λ (k : ℕ). a < k) whole low) in
      let same_page : a / page_size h.bounce ≡ model.page_of x.per_page a = ap (λ (g : ℕ). a / (4096 * g)) (sym s.per_page) in
      let used : slice_index_or flags (a / page_size h.bounce) false ≡ true = flag (a / page_size h.bounce) page ∙ ap (λ q. model.is_in_use x.per_page acts q) same_page ∙ there in
      let inside : user + a < length (unwrap_or h.bounce.area []) = (let fits = subst (λ (k : ℕ). a < k) whole low in omega (arith, fits, room)) in
      let test : (nat_lt a (setting.bounce_size x) && model.is_in_use x.per_page acts (model.page_of x.per_page a)) ≡ true = (let small : nat_lt a (setting.bounce_size x) ≡ true = grind (arith, nat_tests, low) in rw (small, there) refl) in
      bounce a ∙ ap (λ (c : Bool). if c then value h.bounce m (home_place h.bounce a) else 0) used
      ∙ ap (λ u. value h.bounce m (home_by u a)) held
      ∙ s.area_bytes (user + a) inside
      ∙ sym (ap (λ (c : Bool). if c then last_byte x acts (puts.Area (user + a)) else last_byte x acts (puts.Iova a)) test)
      ∙ sym (moved_put (nat_lt a (setting.bounce_size x) && model.is_in_use x.per_page acts (model.page_of x.per_page a)) (puts.last_put x.per_page acts) (puts.Area (user + a)) (puts.Iova a))
      ∙ sym (ap (λ r. (puts.put_or (puts.returned_put x.per_page (puts.last_put x.per_page acts) acts r a) (puts.last_put x.per_page acts) (puts.Iova a)).byte) stands);
  area_bytes = λ o below.
      area o ∙ s.area_bytes o (subst (λ (k : ℕ). o < k) (area_length b.area h.bounce.area same.area) below)
      ∙ sym (quiet_area (puts.area_address (model.registration_of acts) o) x.per_page (puts.last_put x.per_page acts) acts (Node Deregistered) (puts.Area o) (λ a. refl));
  shared = λ a low there.
      let test : (nat_lt a (setting.bounce_size x) && model.is_in_use x.per_page acts (model.page_of x.per_page a)) ≡ false = (let past : nat_lt a (setting.bounce_size x) ≡ false = grind (arith, nat_tests, low) in rw past refl) in
      s.shared a low there
      ∙ sym (ap (λ (c : Bool). if c then last_byte x acts (puts.Area (user + a)) else last_byte x acts (puts.Iova a)) test)
      ∙ sym (moved_put (nat_lt a (setting.bounce_size x) && model.is_in_use x.per_page acts (model.page_of x.per_page a)) (puts.last_put x.per_page acts) (puts.Area (user + a)) (puts.Iova a))
      ∙ sym (ap (λ r. (puts.put_or (puts.returned_put x.per_page (puts.last_put x.per_page acts) acts r a) (puts.last_put x.per_page acts) (puts.Iova a)).byte) stands);
} where
  slots : bounce_slots h ≡ bounce_slots (record h { bounce = b })
  slots = rw (same.size, same.pages) refl

  whole : setting.bounce_size x ≡ bounce_len h.bounce
  whole = sizes_same x h s.bounce

  stands : model.registration_of acts ≡ Some (record { base = user; size = setting.bounce_size x })
  stands = s.registered ∙ ap (λ u. option_map (λ u. record { base = u; size = setting.bounce_size x }) u) held
