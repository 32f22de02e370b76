-- The first chain that was used is reclaimed: what that leaves stands for the lists after it.
use Rattle.std.proofs.Common.{◌≡◌, ℕ, suc, ◌+◌, ◌%◌, ◌^◌, ◌<◌, ◌≤◌, ◌==◌, ◌&&◌, Bool, true, false, if◌then◌else◌, nat_lt, List, [], ◌∷◌, length, get_or, Option, Some, None, Result, Ok, Err, refl, sym, ap, subst, ◌∙◌, arith}
use Rattle.std.specs.Result.{result_unwrap_or}
use Rattle.byteorder.specs.Endian.{little_bytes}
use Rattle.byteorder.specs.Numbers.{little_number-reads_back}
use Rattle.vd_num.specs.Field.{field_at}
use Rattle.vd_model.specs.Memory.{read}
use Rattle.vd_model.specs.Rings.{minus16, used_index_at, used_element_at}
use Rattle.vr_driver.specs.Side.{DriverSide, without_owner, without_chain, waiting, is_owner, is_waiting}
use Rattle.vr_driver.specs.Driver.{next_completion, by_index, by_element, number16_or_zero}
use Rattle.vr_driver.specs.declared.completion.Completion.{Completion}
use Rattle.vr_driver.specs.declared.completion.UsedError.{UsedError}
use Rattle.vr_driver.specs.declared.completion.UsedError.TheVariants.{BadId, TooFarAhead}
use Rattle.vr_device.specs.Device.{element_bytes}
use Rattle.vr_pair.specs.QueueLists.{FinishedChain, QueueLists, count_parts, finished_chains, with_reclaimed}
use Rattle.vr_split_pair.specs.Lies.{UsedLie, IsKnown, Known, heads_of, taken_heads, one_if, occurs}
use Rattle.vr_split_pair.specs.Split.{Sides, SplitStands}
use Rattle.vr_split_pair.proofs.Fields.{element-same}
use Rattle.vr_split_pair.proofs.Owners.{same-number, other-number, length-back, free-back, held-back, owner-stays, owner-was}
use Rattle.vr_split_pair.proofs.Chains.{waits-kept, HeadStays, known-kept, one-same, others-differ}
use Rattle.vr_split_pair.proofs.Added.{owner_below}
use Rattle.vr_split_pair.proofs.Taken.{number-back, few, not_less}

-- the first of the chains that were used
pub record UsedFront (s : Sides) (index : ℕ) (done : FinishedChain) (rest : List FinishedChain) (heads : List ℕ) : Type 0 where
  pub head : ℕ
  pub others : List ℕ
  pub are : heads ≡ head ∷ others
  pub lies : read s.memory (used_element_at s.driver.place index) 8 ≡ Ok (element_bytes head done.len)
  pub short : done.len < 2 ^ 32
  pub lie_rest : UsedLie s.memory s.driver.place (index + 1) rest others
  pub known : IsKnown s.driver.owners s.driver.announced s.numbers done.chain head
  pub known_rest : Known s.driver.owners s.driver.announced s.numbers (finished_chains rest) others

used_front_of : (s : Sides) (index : ℕ) (done : FinishedChain) (rest : List FinishedChain) (heads : List ℕ)
    → UsedLie s.memory s.driver.place index (done ∷ rest) heads → Known s.driver.owners s.driver.announced s.numbers (finished_chains (done ∷ rest)) heads → UsedFront s index done rest heads
used_front_of s index done rest [] u k = absurd u
used_front_of s index done rest (x ∷ heads) u k = record { head = x; others = heads; are = refl; lies = u.0; short = u.1; lie_rest = u.2; known = k.0; known_rest = k.1 }

pub used_front : (s : Sides) (q : QueueLists) (h : SplitStands s q) (done : FinishedChain) (rest : List FinishedChain) → q.used ≡ done ∷ rest → UsedFront s h.course.reclaimed done rest h.used_heads
used_front s q h done rest e =
    used_front_of s h.course.reclaimed done rest h.used_heads
    (subst (λ (l : List FinishedChain). UsedLie s.memory s.driver.place h.course.reclaimed l h.used_heads) e h.uses)
    (subst (λ (l : List FinishedChain). Known s.driver.owners s.driver.announced s.numbers (finished_chains l) h.used_heads) e h.known_used)

-- THE CHAIN IS RECLAIMED

abbrev pub reclaimed_sides : Sides → ℕ → Sides
reclaimed_sides s head = record s { driver = without_chain s.driver head }

module _ (s : Sides) (q : QueueLists) (h : SplitStands s q) (done : FinishedChain) (rest : List FinishedChain) (e : q.used ≡ done ∷ rest) where
  abbrev f : UsedFront s h.course.reclaimed done rest h.used_heads
  f = used_front s q h done rest e

  abbrev left_owners : List (Option ℕ)
  left_owners = without_owner s.driver.owners f.head

  -- the head is that of one chain alone
  lone : (occurs f.head (heads_of h.descriptors) ≡ 0) × (occurs f.head (taken_heads s.taken) ≡ 0) × (occurs f.head f.others ≡ 0)
  lone =
      let once = h.once f.head in
      let all : occurs f.head h.used_heads ≡ one_if (f.head == f.head) + occurs f.head f.others = ap (occurs f.head) f.are in
      let one = one-same f.head in
      (omega (arith, once, all, one), omega (arith, once, all, one), omega (arith, once, all, one))

  kept_owner : (d x : ℕ) → (x ≡ f.head → ⊥) → get_or s.driver.owners d None ≡ Some x → get_or left_owners d None ≡ Some x
  kept_owner d x other owns = owner-stays s.driver.owners f.head d x other owns

  stays : (x : ℕ) → (x ≡ f.head → ⊥) → get_or s.driver.owners x None ≡ Some x → get_or s.driver.announced x false ≡ true → HeadStays s.driver.owners left_owners s.driver.announced s.driver.announced s.numbers s.numbers x
  stays x other owns told = record {
    owner = kept_owner x x other owns;
    told = told;
    number = refl;
    count = held-back s.driver.owners f.head x other;
  }

  left_once : (d : ℕ) → occurs d (heads_of h.descriptors) + (occurs d (taken_heads s.taken) + occurs d f.others) ≤ 1
  left_once d =
      let old = h.once d in
      let all : occurs d h.used_heads ≡ one_if (f.head == d) + occurs d f.others = ap (occurs d) f.are in
      omega (arith, old, all)

  left_headed : (d x : ℕ) → get_or left_owners d None ≡ Some x → get_or left_owners x None ≡ Some x
  left_headed d x owns =
      let was = owner-was s.driver.owners f.head d x owns in
      kept_owner x x was.1 (h.owners.headed d x was.0)

  pub reclaimed_stands : SplitStands (reclaimed_sides s f.head) (with_reclaimed q rest)
  reclaimed_stands =
      let c = h.counts in
      let one : length q.used ≡ suc (length rest) = ap (λ (l : List FinishedChain). length l) e in
      let parts : count_parts (finished_chains q.used) ≡ length done.chain.parts + count_parts (finished_chains rest) = ap (λ (l : List FinishedChain). count_parts (finished_chains l)) e in
      let finished = c.finished in
      record {
        descriptors = h.descriptors;
        used_heads = f.others;
        course = record h.course { reclaimed = h.course.reclaimed + 1 };
        laid = h.laid;
        there = h.there;
        counts = record {
          size = c.size;
          same_place = c.same_place;
          added = c.added;
          placed = c.placed;
          few = c.few;
          bound = c.bound;
          finished = omega (arith, finished, one);
          given = c.given;
          waiting = c.waiting;
          driver_added = c.driver_added;
          driver_published = c.driver_published;
          driver_reclaimed = (let r = c.driver_reclaimed in omega (arith, r));
          device_position = c.device_position;
          device_used = c.device_used;
        };
        indices = h.indices;
        waits = waits-kept s.memory s.memory s.driver.place s.driver.owners left_owners h.course.given q.waiting h.descriptors (record {
          slots = λ k from to. refl;
          tables = λ d x inside i owns. refl;
          owned = λ d x i owns. kept_owner d x (others-differ f.head x (heads_of h.descriptors) lone.0 i) owns;
        }) h.waits;
        takes = h.takes;
        uses = f.lie_rest;
        known_waiting = known-kept s.driver.owners left_owners s.driver.announced s.driver.announced s.numbers s.numbers q.waiting (heads_of h.descriptors)
            (λ x i owns told. stays x (others-differ f.head x (heads_of h.descriptors) lone.0 i) owns told) h.known_waiting;
        known_taken = known-kept s.driver.owners left_owners s.driver.announced s.driver.announced s.numbers s.numbers q.taken (taken_heads s.taken)
            (λ x i owns told. stays x (others-differ f.head x (taken_heads s.taken) lone.1 i) owns told) h.known_taken;
        known_used = known-kept s.driver.owners left_owners s.driver.announced s.driver.announced s.numbers s.numbers (finished_chains rest) f.others
            (λ x i owns told. stays x (others-differ f.head x f.others lone.2 i) owns told) f.known_rest;
        once = left_once;
        owners = record {
          owners_len = length-back s.driver.owners f.head ∙ h.owners.owners_len;
          announced_len = h.owners.announced_len;
          numbers_len = h.owners.numbers_len;
          headed = left_headed;
          free = (let all = h.owners.free in let back = free-back s.driver.owners 0 f.head in let count = f.known.count in omega (arith, all, back, count, parts));
        };
      }

-- WHAT THE DRIVER FINDS

used_number : (s : Sides) (q : QueueLists) (h : SplitStands s q) → number16_or_zero s.memory (used_index_at s.driver.place) ≡ h.course.finished % 65536
used_number s q h = ap (λ (r : Result ℕ ℕ). result_unwrap_or r 0) (number-back s.memory (used_index_at s.driver.place) h.course.finished h.indices.used)

-- the answer by the tests of the index that was found, and of the element's id
abbrev judged : DriverSide → ℕ → Result (List ℕ) ℕ → Bool → Bool → Result (Option Completion) UsedError
judged side found element same far = if same then Ok None else if far then Err (TooFarAhead found side.published) else by_element side element

abbrev entered_as : ℕ → ℕ → Bool → Result (Option Completion) UsedError
entered_as id len waits = if waits then Ok (Some (record { head = id; len = len })) else Err (BadId id)

-- no chain, where none was used
pub none_done : (s : Sides) (q : QueueLists) → SplitStands s q → q.used ≡ [] → next_completion s.memory s.driver ≡ Ok None
none_done s q h e =
    let c = h.counts in
    let none : length q.used ≡ 0 = ap (λ (l : List FinishedChain). length l) e in
    let finished = c.finished in
    let reclaimed = c.driver_reclaimed in
    let element = read s.memory (used_element_at s.driver.place s.driver.reclaimed) 8 in
    let counted : h.course.finished ≡ h.course.reclaimed = omega (arith, finished, none) in
    let same : h.course.finished % 65536 ≡ s.driver.reclaimed = ap (λ (n : ℕ). n % 65536) counted ∙ sym reclaimed in
    ap (λ (n : ℕ). by_index s.driver n element) (used_number s q h)
    ∙ ap (λ (b : Bool). judged s.driver (h.course.finished % 65536) element b (nat_lt (waiting s.driver) (minus16 (h.course.finished % 65536) s.driver.reclaimed))) (same-number (h.course.finished % 65536) s.driver.reclaimed same)

-- how far both indices are ahead of a third
ahead_by : (published finished reclaimed n more : ℕ) → reclaimed + n ≡ finished → finished + more ≡ published → 0 < n → n + more ≤ 32768
    → (finished % 65536 ≡ reclaimed % 65536 → ⊥) × (minus16 (finished % 65536) (reclaimed % 65536) ≡ n) × (minus16 (published % 65536) (reclaimed % 65536) ≡ n + more)
ahead_by published finished reclaimed n more e g some few = ((λ same. omega (arith, e, some, few, same)), omega (arith, e, some, few), omega (arith, e, g, some, few))

-- the first chain, where one was used
pub one_done : (s : Sides) (q : QueueLists) (h : SplitStands s q) (done : FinishedChain) (rest : List FinishedChain) (e : q.used ≡ done ∷ rest)
    → next_completion s.memory s.driver ≡ Ok (Some (record { head = (used_front s q h done rest e).head; len = done.len }))
one_done s q h done rest e =
    let c = h.counts in
    let f = used_front s q h done rest e in
    let one : length q.used ≡ suc (length rest) = ap (λ (l : List FinishedChain). length l) e in
    let finished = c.finished in
    let given = c.given in
    let added = c.waiting in
    let reclaimed : s.driver.reclaimed ≡ h.course.reclaimed % 65536 = c.driver_reclaimed in
    let published : s.driver.published ≡ s.added % 65536 = c.driver_published in
    let fits = few s q h in
    let all = fits.all in
    let small = fits.small in
    let ahead = ahead_by s.added h.course.finished h.course.reclaimed (length q.used) (length q.taken + length q.waiting) finished (omega (arith, given, added)) (omega (arith, one)) (omega (arith, all, small)) in
    let element = read s.memory (used_element_at s.driver.place s.driver.reclaimed) 8 in
    let differs : h.course.finished % 65536 ≡ s.driver.reclaimed → ⊥ = λ same. ahead.0 (same ∙ reclaimed) in
    let by : minus16 (h.course.finished % 65536) s.driver.reclaimed ≡ length q.used = ap (minus16 (h.course.finished % 65536)) reclaimed ∙ ahead.1 in
    let out : waiting s.driver ≡ length q.used + (length q.taken + length q.waiting) = ap (λ (p : ℕ). minus16 p s.driver.reclaimed) published ∙ ap (minus16 (s.added % 65536)) reclaimed ∙ ahead.2 in
    let near : nat_lt (waiting s.driver) (minus16 (h.course.finished % 65536) s.driver.reclaimed) ≡ false = not_less (waiting s.driver) (minus16 (h.course.finished % 65536) s.driver.reclaimed) (omega (arith, by, out)) in
    let lies : element ≡ Ok (element_bytes f.head done.len) =
    ap (λ (k : ℕ). read s.memory (used_element_at s.driver.place k) 8) reclaimed ∙ ap (λ (at : ℕ). read s.memory at 8) (element-same s.driver.place h.laid h.course.reclaimed) ∙ f.lies in
    let inside = owner_below s.driver.owners f.head f.head f.known.owner in
    let whole = h.owners.owners_len in
    let head_small : f.head < 256 ^ 4 = omega (arith, inside, whole, small) in
    let len_small : done.len < 256 ^ 4 = f.short in
    let id : field_at 4 (element_bytes f.head done.len) 0 ≡ f.head = little_number-reads_back 4 f.head (little_bytes 4 done.len) head_small in
    let len : field_at 4 (element_bytes f.head done.len) 4 ≡ done.len = little_number-reads_back 4 done.len [] len_small in
    let waits : is_waiting s.driver f.head ≡ true = ap (λ (o : Option ℕ). is_owner f.head o && get_or s.driver.announced f.head false) f.known.owner ∙ ap (λ (b : Bool). (f.head == f.head) && b) f.known.told ∙ ap (λ (b : Bool). b && true) (same-number f.head f.head refl) in
    ap (λ (n : ℕ). by_index s.driver n element) (used_number s q h)
    ∙ ap (λ (b : Bool). judged s.driver (h.course.finished % 65536) element b (nat_lt (waiting s.driver) (minus16 (h.course.finished % 65536) s.driver.reclaimed))) (other-number (h.course.finished % 65536) s.driver.reclaimed differs)
    ∙ ap (judged s.driver (h.course.finished % 65536) element false) near
    ∙ ap (by_element s.driver) lies
    ∙ ap (λ (i : ℕ). entered_as i (field_at 4 (element_bytes f.head done.len) 4) (is_waiting s.driver i)) id
    ∙ ap (λ (n : ℕ). entered_as f.head n (is_waiting s.driver f.head)) len
    ∙ ap (entered_as f.head done.len) waits
