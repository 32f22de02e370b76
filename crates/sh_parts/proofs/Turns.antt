-- What is kept after a step still agrees, and stands for the step's acts.
use Rattle.std.proofs.Common.{◌≡◌, ◌≢◌, ℕ, ◌+◌, ◌-◌, ◌*◌, ◌<◌, ◌≤◌, ◌⊎◌, ⊎_elim, inl, inr, refl, subst, ap, sym, ◌∙◌, arith, Bool, true, false, ◌==◌, not, ◌&&◌, nat_le, nat_lt, cond, if◌then◌else◌, List, [], ◌∷◌, ◌++◌, Option, Some, None, map, filter, find, true≢false}
use Rattle.std.specs.Option.{option_map, option_map_or}
use Rattle.std.proofs.lemmas.List.{map-append}
use Rattle.std.proofs.lemmas.Bool.Decides.{nat_tests}
use Rattle.std.specs.Prelude.{Result, Ok, Err, is_err, OnOk, OnErr}
use Rattle.vd_model.specs.declared.memory.Region.{Region}
use Rattle.vd_model.specs.Acts.{Act}
use Rattle.vd_model.specs.Live.{live_mappings, live_regions, is_bounce_live}
use Rattle.vd_model.specs.AreaTurns.{read_write, overlaps, lowest, first_region, daemon_regions, region_of}
use Rattle.vd_model.specs.Place.{place_of, taken_slots, mapping_slots}
use Rattle.vd_regions.specs.Ordered.{with_region}
use Rattle.vd_iova.specs.Space.{Space, taken_of, taken_at}
use Rattle.sh_parts.specs.declared.memory.Live.{Live}
use Rattle.sh_parts.specs.declared.memory.Memory.{Memory}
use Rattle.sh_parts.specs.declared.entry.DomainAnswer.{DomainAnswer}
use Rattle.sh_parts.specs.Legal.{Numbers, DomainTurn, domain_turn, setting_of, domain_refusal, domain_found}
use Rattle.sh_parts.specs.declared.entry.DomainStep.TheVariants as asks
use Rattle.vd_num.specs.declared.number.Range.{Range}
use Rattle.vd_num.specs.declared.errno.Errno.TheVariants.{Inval}
use Rattle.sh_parts.specs.Memory.{kept_mapping, kept_region, slots_of, range_of, AreApart, count_at, IsKept, IsIn, HaveSame, IsSound, Stands}
use Rattle.sh_parts.proofs.Kept.{has, lacks, is_same, some_is, apart_later, apart_push, count_push, filter_new, finds}
use Rattle.sh_parts.proofs.Places.{find_map_is, filter_map_is, map_twice, low_place, high_place}
use Rattle.sh_parts.proofs.Regions.{in_push, in_placed, in_filter, start_is, new_range, first_same, ranges_apart}

pub kept_later : (n m lo hi : ℕ) (ks : List Live) (s : Space) → n ≤ m → IsKept n lo hi ks s → IsKept m lo hi ks s
kept_later n m lo hi ks s le a = record { apart = apart_later n m lo hi ks le a.apart; counts = a.counts; first = a.first; last = a.last }

pub kept_push : (n lo hi : ℕ) (ks ls : List Live) (s t : Space) (k : Live) → ls ≡ ks ++ k ∷ [] → IsKept n lo hi ks s → k.number ≡ n → 0 < k.count → lo ≤ k.page → k.page + k.count ≤ hi → taken_at s k.page ≡ 0
    → t.first ≡ s.first → t.«end» ≡ s.«end» → ((q : ℕ) → taken_at t q ≡ (if q == k.page then k.count else taken_at s q)) → IsKept (n + 1) lo hi ls t
kept_push n lo hi ks ls s t k more a is some low high free first last taken =
    let none : count_at ks k.page ≡ 0 = sym (a.counts k.page) ∙ free in
    record {
      apart = subst (AreApart (n + 1) lo hi) (sym more) (apart_push n lo hi k ks a.apart is some low high none);
      counts = λ q. taken q ∙ ap (λ c. if q == k.page then k.count else c) (a.counts q) ∙ sym (ap (λ l. count_at l q) more ∙ count_push n lo hi k ks a.apart none q);
      first = first ∙ a.first;
      last = last ∙ a.last;
    }

pub kept_drop : (n lo hi number : ℕ) (ks ls : List Live) (s t : Space) (k : Live) → ls ≡ filter (lacks number) ks → IsKept n lo hi ks s → find (has number) ks ≡ Some k
    → t.first ≡ s.first → t.«end» ≡ s.«end» → ((q : ℕ) → taken_at t q ≡ (if q == k.page then 0 else taken_at s q)) → IsKept n lo hi ls t
kept_drop n lo hi number ks ls s t k fewer a e first last taken =
    let f = finds n lo hi number ks k a.apart e in
    record {
      apart = subst (AreApart n lo hi) (sym fewer) f.rest;
      counts = λ q. taken q ∙ ap (λ c. if q == k.page then 0 else c) (a.counts q) ∙ sym (ap (λ l. count_at l q) fewer ∙ f.counts q);
      first = first ∙ a.first;
      last = last ∙ a.last;
    }

-- a take that is undone
pub kept_back : (n lo hi : ℕ) (ks : List Live) (s t u : Space) (page count : ℕ) → IsKept n lo hi ks s → taken_at s page ≡ 0 → t.first ≡ s.first → t.«end» ≡ s.«end» → u.first ≡ t.first → u.«end» ≡ t.«end»
    → ((q : ℕ) → taken_at t q ≡ (if q == page then count else taken_at s q)) → ((q : ℕ) → taken_at u q ≡ (if q == page then 0 else taken_at t q)) → IsKept n lo hi ks u
kept_back n lo hi ks s t u page count a free tf tl uf ul taken given = record {
  apart = a.apart;
  counts = λ q. given q ∙ by q (q == page) refl ∙ a.counts q;
  first = uf ∙ tf ∙ a.first;
  last = ul ∙ tl ∙ a.last;
} where
  by : (q : ℕ) (b : Bool) → (q == page) ≡ b → (if q == page then 0 else taken_at t q) ≡ taken_at s q
  by q true e =
      let is : q ≡ page = grind (arith, nat_tests) in
      ap (λ b. if b then 0 else taken_at t q) e ∙ sym free ∙ ap (taken_at s) (sym is)
  by q false e = ap (λ b. if b then 0 else taken_at t q) e ∙ taken q ∙ ap (λ b. if b then count else taken_at s q) e

pub found_taken : (n lo hi number : ℕ) (ks : List Live) (s : Space) (k : Live) → IsKept n lo hi ks s → find (has number) ks ≡ Some k → 0 < taken_at s k.page
found_taken n lo hi number ks s k a e =
    let f = finds n lo hi number ks k a.apart e in
    subst (λ c. 0 < c) (sym (a.counts k.page ∙ f.count)) f.some

-- ---- what is found among the acts' own

pub record Among {A : Type 0} (number_of : A → ℕ) (sought : ℕ) (xs : List A) : Type 0 where
  pub one : A
  pub found : find (λ x. number_of x == sought) xs ≡ Some one
  pub number : number_of one ≡ sought

module _ {A : Type 0} (keep : A → Live) (number : ℕ) (xs : List A) where
  pub none_among : (ks : List Live) → ks ≡ map keep xs → find (has number) ks ≡ None → find (λ x. (keep x).number == number) xs ≡ None
  none_among ks is e = by (find (λ x. (keep x).number == number) xs) refl where
    by : (o : Option A) → find (λ x. (keep x).number == number) xs ≡ o → find (λ x. (keep x).number == number) xs ≡ None
    by None f = f
    by (Some x) f = absurd (cc (sym e ∙ ap (find (has number)) is ∙ find_map_is (has number) keep xs ∙ ap (option_map keep) f))

  pub some_among : (ks : List Live) (k : Live) → ks ≡ map keep xs → find (has number) ks ≡ Some k → Among (λ x. (keep x).number) number xs
  some_among ks k is e = by (find (λ x. (keep x).number == number) xs) refl where
    passes : (ys : List A) (y : A) → find (λ x. (keep x).number == number) ys ≡ Some y → (keep y).number ≡ number
    passes [] y f = absurd (cc f)
    passes (z ∷ ys) y f = at ((keep z).number == number) refl (passes ys y) where
      at : (b : Bool) → ((keep z).number == number) ≡ b → (find (λ x. (keep x).number == number) ys ≡ Some y → (keep y).number ≡ number) → (keep y).number ≡ number
      at true h later =
          let is : z ≡ y = cc (sym (ap (λ b. cond b (Some z) (find (λ x. (keep x).number == number) ys)) h) ∙ f) in
          let num : (keep z).number ≡ number = grind (arith, nat_tests) in
          ap (λ x. (keep x).number) (sym is) ∙ num
      at false h later = later (sym (ap (λ b. cond b (Some z) (find (λ x. (keep x).number == number) ys)) h) ∙ f)

    by : (o : Option A) → find (λ x. (keep x).number == number) xs ≡ o → Among (λ x. (keep x).number) number xs
    by None f = absurd (cc (sym e ∙ ap (find (has number)) is ∙ find_map_is (has number) keep xs ∙ ap (option_map keep) f))
    by (Some x) f = record { one = x; found = f; number = passes xs x f }

  pub lacking : (ks : List Live) (m : ℕ) → ks ≡ map keep xs → m ≡ number → filter (lacks number) ks ≡ map keep (filter (λ x. not ((keep x).number == m)) xs)
  lacking ks m is e = ap (filter (lacks number)) is ∙ filter_map_is (lacks number) keep xs ∙ ap (λ n. map keep (filter (λ x. not ((keep x).number == n)) xs)) (sym e)

  pub adding : (ks : List Live) (k : Live) (x : A) → ks ≡ map keep xs → k ≡ keep x → ks ++ k ∷ [] ≡ map keep (xs ++ x ∷ [])
  adding ks k x is e = ap (λ l. l ++ k ∷ []) is ∙ ap (λ y. map keep xs ++ y ∷ []) e ∙ sym (map-append keep xs (x ∷ []))

-- ---- the place

module _ (x : Numbers) (done : List Act) (m : Memory) (sound : IsSound m) (s : Stands x done m) (n : ℕ) where
  all_taken : map slots_of m.mappings.items ++ map slots_of m.areas.items ≡ taken_slots done
  all_taken =
      ap (λ l. l ++ map slots_of m.areas.items) (ap (map slots_of) s.mappings ∙ map_twice slots_of kept_mapping (live_mappings done))
      ∙ ap (λ l. map mapping_slots (live_mappings done) ++ l) (ap (map slots_of) s.areas ∙ map_twice slots_of kept_region (live_regions done))

  pub bounce_place : place_of (taken_of m.bounce) n m.bounce.first m.bounce.«end» ≡ place_of (taken_slots done) n 1 x.bounce
  bounce_place =
      low_place m.next 1 m.bounce_pages m.coherent.«end» m.mappings.items m.areas.items m.bounce m.coherent sound.mappings sound.areas n
      ∙ ap (λ l. place_of l n 1 m.bounce_pages) all_taken ∙ ap (place_of (taken_slots done) n 1) s.bounce

  pub coherent_place : place_of (taken_of m.coherent) n m.coherent.first m.coherent.«end» ≡ place_of (taken_slots done) n x.bounce x.pages
  coherent_place =
      high_place m.next 1 m.bounce_pages m.coherent.«end» m.mappings.items m.areas.items m.bounce m.coherent sound.mappings sound.areas n
      ∙ ap (λ l. place_of l n m.bounce_pages m.coherent.«end») all_taken
      ∙ ap (λ lo. place_of (taken_slots done) n lo m.coherent.«end») s.bounce ∙ ap (place_of (taken_slots done) n x.bounce) s.pages

-- ---- the regions

pub same_push : (qs ps : List Region) (ks ls : List Live) (k : Live) → HaveSame qs (map range_of ks) → ps ≡ with_region (range_of k) qs → ls ≡ ks ++ k ∷ [] → HaveSame ps (map range_of ls)
same_push qs ps ks ls k same is more =
    let seen : map range_of ls ≡ map range_of ks ++ range_of k ∷ [] = ap (map range_of) more ∙ map-append range_of ks (k ∷ []) in
    λ r. (
      (λ i. subst (IsIn r) (sym seen) ((in_push r (range_of k) (map range_of ks)).1 (⊎_elim (λ (e : range_of k ≡ r). inl e) (λ (j : IsIn r qs). inr ((same r).0 j)) ((in_placed r (range_of k) qs).0 (subst (IsIn r) is i))))),
      (λ i. subst (IsIn r) (sym is) ((in_placed r (range_of k) qs).1 (⊎_elim (λ (e : range_of k ≡ r). inl e) (λ (j : IsIn r (map range_of ks)). inr ((same r).1 j)) ((in_push r (range_of k) (map range_of ks)).0 (subst (IsIn r) seen i))))),
    )

-- a test of what is not equal
isnt : (m n : ℕ) → not (m == n) ≡ true → m ≢ n
isnt m n e is = let same : (m == n) ≡ true = grind (arith, nat_tests) in true≢false (sym e ∙ ap not same)

is_not : (m n : ℕ) → m ≢ n → not (m == n) ≡ true
is_not m n ne = let other : (m == n) ≡ false = grind (arith, nat_tests) in ap not other

Dropped : (number : ℕ) → List Live → Live → Region → Type 0
Dropped number ks k r =
    (IsIn r (map range_of (filter (lacks number) ks)) → IsIn r (map range_of ks) × (r.start ≢ 4096 * k.page))
    × (IsIn r (map range_of ks) × (r.start ≢ 4096 * k.page) → IsIn r (map range_of (filter (lacks number) ks)))

drop_ranges : (n lo hi number : ℕ) (ks : List Live) (k : Live) → AreApart n lo hi ks → find (has number) ks ≡ Some k → (r : Region) → Dropped number ks k r
unfolding Dropped
drop_ranges n lo hi number [] k a e r = absurd (cc e)
drop_ranges n lo hi number (j ∷ ks) k a e r = by (j.number == number) refl (λ f. drop_ranges n lo hi number ks k a.5 f r) where
  by : (b : Bool) → (j.number == number) ≡ b → (find (has number) ks ≡ Some k → Dropped number ks k r) → Dropped number (j ∷ ks) k r
  by true h later =
      let is : j ≡ k = some_is j k (sym (ap (λ b. cond b (Some j) (find (has number) ks)) h) ∙ e) in
      let num : j.number ≡ number = is_same j.number number h in
      let whole : filter (lacks number) (j ∷ ks) ≡ ks =
      ap (λ b. cond (not b) (j ∷ filter (lacks number) ks) (filter (lacks number) ks)) h
      ∙ ap (λ m. filter (lacks m) ks) (sym num) ∙ filter_new j ks a.4 in
      let page : 4096 * j.page ≡ 4096 * k.page = ap (λ (l : Live). 4096 * l.page) is in (
        (λ i. let w = subst (λ l. IsIn r (map range_of l)) whole i in (inr w, λ at. new_range j ks r a.4 w (at ∙ sym page))),
        (λ i. subst (λ l. IsIn r (map range_of l)) (sym whole) (⊎_elim (λ (x : range_of j ≡ r). absurd (i.1 (start_is j r x ∙ page))) (λ (w : IsIn r (map range_of ks)). w) i.0)),
      )
  by false h later =
      let found = sym (ap (λ b. cond b (Some j) (find (has number) ks)) h) ∙ e in
      let d = later found in
      let ne = ((finds n lo hi number ks k a.5 found).differs j a.4).0 in
      let whole : filter (lacks number) (j ∷ ks) ≡ j ∷ filter (lacks number) ks = ap (λ b. cond (not b) (j ∷ filter (lacks number) ks) (filter (lacks number) ks)) h in (
        (λ i. ⊎_elim
            (λ (x : range_of j ≡ r). (inl x, λ at. ne (let y = start_is j r x in omega arith)))
            (λ (w : IsIn r (map range_of (filter (lacks number) ks))). let y = d.0 w in (inr y.0, y.1))
            (subst (λ l. IsIn r (map range_of l)) whole i)),
        (λ i. subst (λ l. IsIn r (map range_of l)) (sym whole) (⊎_elim (λ (x : range_of j ≡ r). inl x) (λ (w : IsIn r (map range_of ks)). inr (d.1 (w, i.1))) i.0)),
      )

pub same_drop : (n lo hi number : ℕ) (qs ps : List Region) (ks ls : List Live) (k : Live) → AreApart n lo hi ks → find (has number) ks ≡ Some k → HaveSame qs (map range_of ks)
    → ps ≡ filter (λ (r : Region). not (r.start == 4096 * k.page)) qs → ls ≡ filter (lacks number) ks → HaveSame ps (map range_of ls)
unfolding Dropped
same_drop n lo hi number qs ps ks ls k a e same is fewer =
    let test : Region → Bool = λ r. not (r.start == 4096 * k.page) in
    λ r. (
      (λ i. let f = (in_filter test r qs).0 (subst (IsIn r) is i) in
          subst (λ l. IsIn r (map range_of l)) (sym fewer) ((drop_ranges n lo hi number ks k a e r).1 ((same r).0 f.0, isnt (r.start) (4096 * k.page) f.1))),
      (λ i. let d = (drop_ranges n lo hi number ks k a e r).0 (subst (λ l. IsIn r (map range_of l)) fewer i) in
          subst (IsIn r) (sym is) ((in_filter test r qs).1 ((same r).1 d.0, is_not (r.start) (4096 * k.page) d.1))),
    )

-- ---- results

pub told_ok : {A E : Type 0} (r : Result A E) (P : Type 0) → is_err r ≡ false → OnOk r P → P
told_ok (Ok a) P e o = o
told_ok (Err x) P e o = absurd (true≢false e)

pub told_err : {A E : Type 0} (r : Result A E) (P : Type 0) → is_err r ≡ true → OnErr r P → P
told_err (Ok a) P e o = absurd (true≢false (sym e))
told_err (Err x) P e o = o

-- a turn that is known
pub by_turn : (x : Numbers) (done : List Act) (t u : DomainTurn) (answer : DomainAnswer) (m : Memory) → t ≡ u → answer ≡ u.answer → Stands x (u.acts ++ done) m → (answer ≡ t.answer) × Stands x (t.acts ++ done) m
by_turn x done t u answer m e says stands = subst (λ (v : DomainTurn). (answer ≡ v.answer) × Stands x (v.acts ++ done) m) (sym e) (says, stands)

-- ---- lookups

-- a lookup is no act
pub lookup_acts : (x : Numbers) (done : List Act) (range : Range) → (domain_turn x done (asks.Lookup range)).acts ≡ []
lookup_acts x done range = by (nat_lt range.last range.start) (first_region (daemon_regions (setting_of x) done) range.start range.last) where
  by : (b : Bool) (o : Option Region) → (if b then domain_refusal Inval else option_map_or domain_found o (domain_refusal Inval)).acts ≡ []
  by true o = refl
  by false None = refl
  by false (Some r) = refl

module _ (x : Numbers) (done : List Act) (m : Memory) (sound : IsSound m) (s : Stands x done m) (start last : ℕ) where
  regions_are : map range_of m.areas.items ≡ map region_of (live_regions done)
  regions_are = ap (map range_of) s.areas ∙ map_twice range_of kept_region (live_regions done)

  skip : (m.mapped ≡ false) ⊎ (4096 * m.bounce_pages ≤ start) → (b : Bool) → is_bounce_live done ≡ b → first_region (daemon_regions (setting_of x) done) start last ≡ first_region (map region_of (live_regions done)) start last
  skip other false e = ap (λ b. first_region ((if b then bounce ∷ [] else []) ++ map region_of (live_regions done)) start last) e
    where
      bounce : Region
      bounce = record { start = 0; last = 4096 * x.bounce - 1; offset = 0; perm = read_write }
  skip (inl never) true e = absurd (true≢false (sym e ∙ sym s.mapped ∙ never))
  skip (inr past) true e = ap (λ b. first_region ((if b then bounce ∷ [] else []) ++ map region_of (live_regions done)) start last) e ∙ ap (λ b. lowest (cond b (bounce ∷ rest) rest)) (outside past sound.some s.bounce) where
    bounce : Region
    bounce = record { start = 0; last = 4096 * x.bounce - 1; offset = 0; perm = read_write }

    rest : List Region
    rest = filter (overlaps start last) (map region_of (live_regions done))

    outside : 4096 * m.bounce_pages ≤ start → 2 ≤ m.bounce_pages → m.bounce_pages ≡ x.bounce → (nat_le 0 last && nat_le start (4096 * x.bounce - 1)) ≡ false
    outside past some is =
        let no : nat_le start (4096 * x.bounce - 1) ≡ false = grind (arith, nat_tests) in
        ap (λ b. nat_le 0 last && b) no ∙ both (nat_le 0 last) where
          both : (b : Bool) → (b && false) ≡ false
          both true = refl
          both false = refl

  pub lookup_first : (m.mapped ≡ false) ⊎ (4096 * m.bounce_pages ≤ start) → first_region m.regions start last ≡ first_region (daemon_regions (setting_of x) done) start last
  lookup_first other =
      first_same m.regions (map range_of m.areas.items) start last sound.regions (ranges_apart m.next m.bounce_pages m.coherent.«end» m.areas.items sound.areas.apart)
      ∙ ap (λ l. first_region l start last) regions_are
      ∙ sym (skip other (is_bounce_live done) refl)
