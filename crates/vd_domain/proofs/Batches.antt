-- Wants that are given places one after another.
use Rattle.std.proofs.Common.{◌≡◌, ℕ, suc, ◌+◌, ◌<◌, ◌≤◌, refl, subst, ap, sym, ◌∙◌, arith, Bool, true, false, true≢false, ◌||◌, ◌==◌, List, [], ◌∷◌, ◌++◌, length, Option, Some, None, Result, Ok, Err, ◌-◌}
use Rattle.std.proofs.lemmas.Bool.Decides.{nat_tests}
use Rattle.std.specs.List.{list_any}
use Rattle.std.specs.Option.{option_map}
use Rattle.std.specs.Result.{is_err, OnErr}
use Rattle.vd_num.specs.Number.{pages_of}
use Rattle.vd_iova.specs.Space.{Space, taken_of}
use Rattle.vd_model.specs.declared.memory.Want.{Want}
use Rattle.vd_model.specs.Setting.{Setting}
use Rattle.vd_model.specs.Acts.{Streaming}
use Rattle.vd_model.specs.Place.{Slots, place_of, meets}
use Rattle.vd_model.specs.RingTurns.{placed_mappings, placed_mapping}
use Rattle.vd_domain.specs.declared.booking.Booked.{Booked}
use Rattle.vd_domain.specs.Held.{Holding, AreTaken}
use Rattle.vd_domain.specs.declared.streaming.Bounced.{Bounced}
use Rattle.vd_domain.specs.Lists.{mapping_at, mappings_of}
use Rattle.vd_domain.specs.Placing.{IsGiven, AreGiven, IsSeen, streamings, entries_of}
use Rattle.vd_domain.proofs.Holdings.{Gains, taken_more, meets_are, place_same, place_clear, any_more}

pub pages_some : (len : ℕ) → 0 < len → 0 < pages_of len
pages_some len some = omega arith

abbrev pub holding_of : Want → Booked → Holding
holding_of want b = record { number = b.number; slot = b.slot; count = pages_of want.len }

pub gains_of : (g : ℕ) (low next : Space) (made : ℕ) (want : Want) (b : Booked) → IsGiven g low made want b next → Gains (holding_of want b) low next
gains_of g low next made want b given = record {
  first = given.first;
  top = given.top;
  low = given.low;
  high = given.high;
  fresh = given.fresh;
  taken = given.taken;
  clear = place_clear (taken_of low) (pages_of want.len) low.first low.«end» b.slot given.place;
}

module _ (x : Setting) (low : Space) (made : ℕ) (holds : List Holding) (held : List Slots) (per_page : x.per_page ≡ low.first) (bounce : x.bounce ≡ low.«end»)
    (taken : AreTaken low made holds) (seen : IsSeen low holds held) where
  -- a place is the same by what is held as by what the space tells
  pub place_seen : (n : ℕ) → place_of held n x.per_page x.bounce ≡ place_of (taken_of low) n low.first low.«end»
  place_seen n =
      ap (λ k. place_of held n k x.bounce) per_page ∙ ap (λ k. place_of held n low.first k) bounce
      ∙ place_same held (taken_of low) n low.first low.«end» (λ s below above. seen s n below above ∙ sym (meets_are low made holds taken s n))

  pub none_placed : (want : Want) (wants : List Want) → None ≡ place_of (taken_of low) (pages_of want.len) low.first low.«end» → placed_mappings x held made (want ∷ wants) ≡ None
  none_placed want wants none =
      ap (λ o. placed_mapping want made o (λ slot. placed_mappings x (held ++ record { start = slot; count = pages_of want.len } ∷ []) (made + 1) wants))
      (place_seen (pages_of want.len) ∙ sym none)

  module _ (g : ℕ) (want : Want) (b : Booked) (next : Space) (given : IsGiven g low made want b next) (some : 0 < want.len) where
    pub taken_next : AreTaken next (made + 1) (holds ++ holding_of want b ∷ [])
    taken_next = taken_more low next made holds (holding_of want b) taken given.number (pages_some want.len some) (gains_of g low next made want b given)

    pub seen_next : IsSeen next (holds ++ holding_of want b ∷ []) (held ++ record { start = b.slot; count = pages_of want.len } ∷ [])
    seen_next start n low_end high_end =
        any_more (meets start n) held (record { start = b.slot; count = pages_of want.len } ∷ [])
        ∙ ap (λ t. t || (meets start n (record { start = b.slot; count = pages_of want.len }) || false))
        (seen start n (subst (λ k. k ≤ start) given.first low_end) (subst (λ k. start + n ≤ k) given.top high_end))
        ∙ sym (any_more (λ (h : Holding). meets start n (record { start = h.slot; count = h.count })) holds (holding_of want b ∷ []))

    pub placed_next : (wants : List Want) → placed_mappings x held made (want ∷ wants)
        ≡ option_map (λ ms. record { number = made; slot = b.slot; want = want } ∷ ms) (placed_mappings x (held ++ record { start = b.slot; count = pages_of want.len } ∷ []) (made + 1) wants)
    placed_next wants =
        ap (λ o. placed_mapping want made o (λ slot. placed_mappings x (held ++ record { start = slot; count = pages_of want.len } ∷ []) (made + 1) wants))
        (place_seen (pages_of want.len) ∙ sym given.place)

pub err_same : {A E : Type 0} {e f : E} → (let r : Result A E = Err e in r) ≡ Err f → e ≡ f
err_same h = cc

pub first_some : (want : Want) (wants : List Want) → list_any (λ (w : Want). w.len == 0) (want ∷ wants) ≡ false → 0 < want.len
first_some want wants e = by (want.len == 0) refl e where
  by : (t : Bool) → (want.len == 0) ≡ t → (t || list_any (λ (w : Want). w.len == 0) wants) ≡ false → 0 < want.len
  by true h e = absurd (true≢false e)
  by false h e = grind (arith, nat_tests)

pub one_less : (k : ℕ) → k + 1 - 1 ≡ k
one_less k = omega arith

pub err_use : {A E : Type 0} (r : Result A E) (P : Type 0) → is_err r ≡ true → OnErr r P → P
err_use (Ok a) P e h = absurd (true≢false (sym e))
err_use (Err f) P e h = h

pub err_given : {A E : Type 0} (r : Result A E) (P : Type 0) → P → OnErr r P
err_given (Ok a) P h = tt
err_given (Err f) P h = h

pub rest_some : (want : Want) (wants : List Want) → list_any (λ (w : Want). w.len == 0) (want ∷ wants) ≡ false → list_any (λ (w : Want). w.len == 0) wants ≡ false
rest_some want wants e = by (want.len == 0) e where
  by : (t : Bool) → (t || list_any (λ (w : Want). w.len == 0) wants) ≡ false → list_any (λ (w : Want). w.len == 0) wants ≡ false
  by true e = absurd (true≢false e)
  by false e = e

-- where each was given what it has, that is where they are placed
pub all_placed : (x : Setting) (g : ℕ) (low after : Space) (made : ℕ) (holds : List Holding) (held : List Slots) (wants : List Want) (bs : List Booked)
    → x.per_page ≡ low.first → x.bounce ≡ low.«end» → AreTaken low made holds → IsSeen low holds held → list_any (λ (w : Want). w.len == 0) wants ≡ false
    → AreGiven g low made wants bs after → placed_mappings x held made wants ≡ Some (streamings wants bs)
all_placed x g low after made holds held [] [] pp bb taken seen none given = refl
all_placed x g low after made holds held [] (b ∷ bs) pp bb taken seen none given = absurd given
all_placed x g low after made holds held (want ∷ wants) [] pp bb taken seen none given = absurd given
all_placed x g low after made holds held (want ∷ wants) (b ∷ bs) pp bb taken seen none given =
    let some : 0 < want.len = first_some want wants none in
    let rest : list_any (λ (w : Want). w.len == 0) wants ≡ false = rest_some want wants none in
    placed_next x low made holds held pp bb taken seen g want b given.0 given.1 some wants
    ∙ ap (λ (o : Option (List Streaming)). option_map (λ ms. record { number = made; slot = b.slot; want = want } ∷ ms) o)
    (all_placed x g given.0 after (made + 1) (holds ++ holding_of want b ∷ []) (held ++ record { start = b.slot; count = pages_of want.len } ∷ []) wants bs
    (pp ∙ sym given.1.first) (bb ∙ sym given.1.top)
    (taken_next x low made holds held pp bb taken seen g want b given.0 given.1 some)
    (seen_next x low made holds held pp bb taken seen g want b given.0 given.1 some) rest given.2)
    ∙ ap (λ (k : ℕ). Some (record { number = k; slot = b.slot; want = want } ∷ streamings wants bs)) (sym given.1.number)

pub given_long : (g : ℕ) (low after : Space) (made : ℕ) (wants : List Want) (bs : List Booked) → AreGiven g low made wants bs after → length (streamings wants bs) ≡ length wants
given_long g low after made [] [] given = refl
given_long g low after made [] (b ∷ bs) given = absurd given
given_long g low after made (want ∷ wants) [] given = absurd given
given_long g low after made (want ∷ wants) (b ∷ bs) given = ap (λ k. suc k) (given_long g given.0 after (made + 1) wants bs given.2)

given_mapped : (wants : List Want) (bs : List Booked) → mappings_of (entries_of wants bs) ≡ streamings wants bs
given_mapped [] bs = refl
given_mapped (want ∷ wants) [] = refl
given_mapped (want ∷ wants) (b ∷ bs) = ap (λ (ms : List Streaming). record { number = b.number; slot = b.slot; want = want } ∷ ms) (given_mapped wants bs)

-- the mappings that are live with the new ones
pub all_mapped : (es : List (ℕ × Bounced)) (wants : List Want) (bs : List Booked) → mappings_of (es ++ entries_of wants bs) ≡ mappings_of es ++ streamings wants bs
all_mapped [] wants bs = given_mapped wants bs
all_mapped (e ∷ es) wants bs = ap (λ (ms : List Streaming). mapping_at e ∷ ms) (all_mapped es wants bs)

pub some_same : {A : Type 0} {a b : A} → Some a ≡ Some b → a ≡ b
some_same e = cc
