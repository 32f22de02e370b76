-- The daemon's lines on its area and on regions.
use Rattle.std.proofs.Common.{◌≡◌, ℕ, ◌-◌, ◌%◌, ◌<◌, ◌≤◌, Bool, true, false, refl, ap, subst, ◌∙◌, sym, arith, Option, None, Some, Result, Ok, Err, MatchResult, OnErr, List, [], ◌∷◌, ◌++◌, ◌==◌, ◌&&◌, ◌||◌, length, map, not, nat_lt, ◌⊎◌, inl, inr, is_some}
use Rattle.std.specs.Option.{option_map, option_map_or}
use Rattle.std.proofs.lemmas.Bool.Decides.{nat_tests}
use Rattle.vd_num.specs.declared.errno.Errno.{Errno}
use Rattle.vd_num.specs.declared.errno.Errno.TheVariants.{Noent, Busy, Exist, Inval}
use Rattle.vd_pool.specs.Memory.{PoolMemory as Pool}
use Rattle.vd_model.specs.declared.memory.Region.{Region}
use Rattle.vd_model.specs.declared.answer.Answer.{Answer}
use Rattle.vd_model.specs.declared.answer.Answer.TheVariants as answer
use Rattle.vd_model.specs.declared.answer.Item.TheVariants.{Word, Address, Text}
use Rattle.vd_model.specs.declared.answer.Tag.TheVariants.{Base}
use Rattle.vd_model.specs.Setting.{Setting, bounce_size}
use Rattle.vd_model.specs.Acts.{Act, Node, NodeAct, Area_made, Area_put, Registered, Deregistered}
use Rattle.vd_model.specs.Live.{live_mappings, area_len, registration_of, Registration}
use Rattle.vd_model.specs.Puts.{area_bytes}
use Rattle.vd_model.specs.Turn.{Turn, lift, refuse, refusal_turn, refusal_if, done_with}
use Rattle.vd_model.specs.AreaTurns.{first_region, daemon_regions, found_or, new_area_turn, area_limit, area_start, part_refusal, areaput_turn, areaget_turn, may_register, regumem_turn, deregumem_turn}
use Rattle.vd_domain.specs.Held.{Held}
use Rattle.vd_domain.specs.Stands as domain
use Rattle.vd_answers.specs.Tells.{Tells, answer_of}
use Rattle.vd_answers.proofs.Telling.{tells_by}
use Rattle.vd_memory_lines.specs.declared.memory.Memory.{Memory}
use Rattle.vd_memory_lines.specs.Stands.{Stands}
use Rattle.vd_memory_lines.proofs.Parts.{domain_act}

not_true : (t : Bool) → ((t ≡ true) → ⊥) → t ≡ false
not_true true never = absurd (never refl)
not_true false never = refl

module _ (x : Setting) (acts : List Act) (k : Memory) (p : Pool) (s : Stands x acts k p) (heard : Answer → Type 0) where
  node_act : (act : NodeAct) (d : Held) (q : Pool) → live_mappings (Node act ∷ acts) ≡ live_mappings acts → domain.Stands x (Node act ∷ acts) d q → Stands x (Node act ∷ acts) (record k { domain = d }) q
  node_act act d q same stands = domain_act x acts k p s (Node act) d q refl same stands

  stays : (d : Held) (q : Pool) → (d ≡ k.domain) × (q ≡ p) → Stands x acts (record k { domain = d }) q
  stays d q same = subst (λ (t : Held). Stands x acts (record k { domain = t }) q) (sym same.0) (subst (λ (t : Pool). Stands x acts k t) (sym same.1) s)

  -- ---- look-ups

  pub found : (start last : ℕ) (turn : Region → Turn NodeAct) (r : Region) → (start ≤ last) × (first_region (daemon_regions x acts) start last ≡ Some r) → found_or x acts start last turn ≡ turn r
  found start last turn r h =
      let low : nat_lt last start ≡ false = (let t = h.0 in grind (arith, nat_tests)) in
      ap (λ t. refuse (refusal_if t Inval) (option_map_or turn (first_region (daemon_regions x acts) start last) (refusal_turn Inval))) low
      ∙ ap (λ o. option_map_or turn o (refusal_turn Inval)) h.1

  pub not_found : (start last : ℕ) (turn : Region → Turn NodeAct) (e : Errno) → (e ≡ Inval) × ((last < start) ⊎ (first_region (daemon_regions x acts) start last ≡ None)) → found_or x acts start last turn ≡ refusal_turn e
  not_found start last turn e h = (elim h.1 [
    | inl below ↦ (let low : nat_lt last start ≡ true = grind (arith, nat_tests, below) in
        ap (λ t. refuse (refusal_if t Inval) (option_map_or turn (first_region (daemon_regions x acts) start last) (refusal_turn Inval))) low)
    | inr none ↦ (ap (λ o. refuse (refusal_if (nat_lt last start) Inval) (option_map_or turn o (refusal_turn Inval))) none ∙ either (nat_lt last start))
  ]) ∙ ap refusal_turn (sym h.0) where
    either : (t : Bool) → refuse {A = NodeAct} (refusal_if t Inval) (refusal_turn Inval) ≡ refusal_turn Inval
    either true = refl
    either false = refl

  -- what is found, or the refusal, whatever turn is made of a region
  pub region_found : (start last : ℕ) (r : Result Region Errno)
      → MatchResult r (λ region. (start ≤ last) × (first_region (daemon_regions x acts) start last ≡ Some region)) (λ e. (e ≡ Inval) × ((last < start) ⊎ (first_region (daemon_regions x acts) start last ≡ None)))
      → MatchResult r (λ region. (turn : Region → Turn NodeAct) → found_or x acts start last turn ≡ turn region) (λ e. (turn : Region → Turn NodeAct) → found_or x acts start last turn ≡ refusal_turn e)
  region_found start last (Ok region) h = λ turn. found start last turn region h
  region_found start last (Err e) h = λ turn. not_found start last turn e h

  pub found_line : (start last : ℕ) (turn : Region → Turn NodeAct) (r : Region) → (start ≤ last) × (first_region (daemon_regions x acts) start last ≡ Some r) → (turn r).acts ≡ [] → heard (turn r).answer
      → Tells heard (lift Node (found_or x acts start last turn)) (λ more. Stands x (more ++ acts) k p)
  found_line start last turn r h none t = tells_by (ap (lift Node) (found start last turn r h)) refl t (subst (λ (made : List NodeAct). Stands x (map Node made ++ acts) k p) (sym none) s)

  pub not_found_line : (start last : ℕ) (turn : Region → Turn NodeAct) (e : Errno) → (e ≡ Inval) × ((last < start) ⊎ (first_region (daemon_regions x acts) start last ≡ None)) → heard (answer.Err e)
      → Tells heard (lift Node (found_or x acts start last turn)) (λ more. Stands x (more ++ acts) k p)
  not_found_line start last turn e h t = tells_by (ap (lift Node) (not_found start last turn e h)) refl t s

  -- ---- the area

  pub area_turn : (bytes : ℕ) (bad busy : Bool) → ((bytes == 0) || not ((bytes % 4096) == 0) || nat_lt area_limit bytes) ≡ bad → is_some (registration_of acts) ≡ busy
      → lift Node (new_area_turn acts bytes) ≡ lift Node (refuse (refusal_if bad Inval) (refuse (refusal_if busy Busy) (done_with (Word Base ∷ Address area_start ∷ []) (Area_made bytes ∷ []))))
  area_turn bytes bad busy e f =
      ap (λ t. lift Node (refuse (refusal_if t Inval) (refuse (refusal_if (is_some (registration_of acts)) Busy) (done_with (Word Base ∷ Address area_start ∷ []) (Area_made bytes ∷ []))))) e
      ∙ ap (λ t. lift Node (refuse (refusal_if bad Inval) (refuse (refusal_if t Busy) (done_with (Word Base ∷ Address area_start ∷ []) (Area_made bytes ∷ []))))) f

  is_registered : is_some (registration_of acts) ≡ is_some k.domain.bounce.user
  is_registered = ap is_some s.domain.registered ∙ by k.domain.bounce.user where
    as_registration : ℕ → Registration
    as_registration u = record { base = u; size = bounce_size x }

    by : (o : Option ℕ) → is_some (option_map as_registration o) ≡ is_some o
    by None = refl
    by (Some u) = refl

  pub area_refused : (bytes : ℕ) → ((bytes == 0) || not ((bytes % 4096) == 0) || nat_lt area_limit bytes) ≡ true → heard (answer.Err Inval) → Tells heard (lift Node (new_area_turn acts bytes)) (λ more. Stands x (more ++ acts) k p)
  area_refused bytes e h = tells_by (area_turn bytes true (is_some (registration_of acts)) e refl) refl h s

  pub area_busy : (bytes : ℕ) (d : Held) → ((bytes == 0) || not ((bytes % 4096) == 0) || nat_lt area_limit bytes) ≡ false → is_some k.domain.bounce.user ≡ true → d ≡ k.domain → heard (answer.Err Busy)
      → Tells heard (lift Node (new_area_turn acts bytes)) (λ more. Stands x (more ++ acts) (record k { domain = d }) p)
  area_busy bytes d e busy same h = tells_by (area_turn bytes false true e (is_registered ∙ busy)) refl h (stays d p (same, refl))

  pub area_made : (bytes : ℕ) (d : Held) → ((bytes == 0) || not ((bytes % 4096) == 0) || nat_lt area_limit bytes) ≡ false → ((is_some k.domain.bounce.user ≡ true) → ⊥) → domain.Stands x (Node (Area_made bytes) ∷ acts) d p
      → heard (answer.Done (Word Base ∷ Address area_start ∷ [])) → Tells heard (lift Node (new_area_turn acts bytes)) (λ more. Stands x (more ++ acts) (record k { domain = d }) p)
  area_made bytes d e free stands h = tells_by (area_turn bytes false false e (is_registered ∙ not_true (is_some k.domain.bounce.user) free)) refl h (node_act (Area_made bytes) d p refl stands)

  part_is : (o : Option ℕ) (at len : ℕ) → option_map length k.domain.bounce.area ≡ o → part_refusal (area_len acts) at len ≡ part_refusal o at len
  part_is o at len e = ap (λ o. part_refusal o at len) (sym s.domain.area ∙ e)

  pub areaput_refused : (at : ℕ) (bytes : List ℕ) (o : Option ℕ) (errno : Errno) → option_map length k.domain.bounce.area ≡ o → part_refusal o at (length bytes) ≡ Some errno → heard (answer.Err errno)
      → Tells heard (lift Node (areaput_turn acts at bytes)) (λ more. Stands x (more ++ acts) k p)
  areaput_refused at bytes o errno e f h = tells_by (ap (λ o. lift Node (refuse o (done_with [] (Area_put at bytes ∷ [])))) (part_is o at (length bytes) e ∙ f)) refl h s

  pub areaput_done : (at : ℕ) (bytes : List ℕ) (o : Option ℕ) (d : Held) → option_map length k.domain.bounce.area ≡ o → part_refusal o at (length bytes) ≡ None → domain.Stands x (Node (Area_put at bytes) ∷ acts) d p → heard (answer.Done [])
      → Tells heard (lift Node (areaput_turn acts at bytes)) (λ more. Stands x (more ++ acts) (record k { domain = d }) p)
  areaput_done at bytes o d e f stands h =
      tells_by (ap (λ o. lift Node (refuse o (done_with [] (Area_put at bytes ∷ [])))) (part_is o at (length bytes) e ∙ f)) refl h (node_act (Area_put at bytes) d p refl stands)

  pub areaget_is : (at len : ℕ) (o : Option ℕ) (refusal : Option Errno) → option_map length k.domain.bounce.area ≡ o → part_refusal o at len ≡ refusal
      → lift Node (areaget_turn x acts at len) ≡ lift Node (refuse refusal (done_with (Text (area_bytes x.per_page acts at len) ∷ []) []))
  areaget_is at len o refusal e f = ap (λ o. lift Node (refuse o (done_with (Text (area_bytes x.per_page acts at len) ∷ []) []))) (part_is o at len e ∙ f)

  -- ---- registration

  reg_is : (uaddr iova size : ℕ) (may has : Bool) → may_register x acts uaddr iova size ≡ may → is_some (registration_of acts) ≡ has
      → lift Node (regumem_turn x acts uaddr iova size) ≡ lift Node (refuse (refusal_if (not may) Inval) (refuse (refusal_if has Exist) (done_with [] (Registered (uaddr - area_start) (bounce_size x) ∷ []))))
  reg_is uaddr iova size may has e f =
      ap (λ b. lift Node (refuse (refusal_if (not b) Inval) (refuse (refusal_if (is_some (registration_of acts)) Exist) (done_with [] (Registered (uaddr - area_start) (bounce_size x) ∷ []))))) e
      ∙ ap (λ b. lift Node (refuse (refusal_if (not may) Inval) (refuse (refusal_if b Exist) (done_with [] (Registered (uaddr - area_start) (bounce_size x) ∷ []))))) f

  pub reg_line : (uaddr iova size : ℕ) (r : Result (Unit {0}) Errno) (d : Held) (q : Pool) → heard (answer_of r)
      → MatchResult r (λ _. (may_register x acts uaddr iova size ≡ true) × (registration_of acts ≡ None) × domain.Stands x (Node (Registered (uaddr - area_start) (bounce_size x)) ∷ acts) d q)
      (λ e. ((e ≡ Inval) × (may_register x acts uaddr iova size ≡ false)) ⊎ ((e ≡ Exist) × (may_register x acts uaddr iova size ≡ true) × (is_some (registration_of acts) ≡ true)))
      → OnErr r ((d ≡ k.domain) × (q ≡ p)) → Tells heard (lift Node (regumem_turn x acts uaddr iova size)) (λ more. Stands x (more ++ acts) (record k { domain = d }) q)
  reg_line uaddr iova size (Ok u) d q h t same = tells_by (reg_is uaddr iova size true false t.0 (ap is_some t.1)) refl h (node_act (Registered (uaddr - area_start) (bounce_size x)) d q refl t.2)
  reg_line uaddr iova size (Err e) d q h t same = elim t [
    | inl bad ↦ tells_by (reg_is uaddr iova size false (is_some (registration_of acts)) bad.1 refl) (ap answer.Err bad.0) h (stays d q same)
    | inr there ↦ tells_by (reg_is uaddr iova size true true there.1 there.2) (ap answer.Err there.0) h (stays d q same)
  ]

  dereg_is : (iova size : ℕ) (has may : Bool) → is_some (registration_of acts) ≡ has → ((iova == 0) && (size == bounce_size x)) ≡ may
      → lift Node (deregumem_turn x acts iova size) ≡ lift Node (refuse (refusal_if (not has) Noent) (refuse (refusal_if (not may) Inval) (done_with [] (Deregistered ∷ []))))
  dereg_is iova size has may e f =
      ap (λ b. lift Node (refuse (refusal_if (not b) Noent) (refuse (refusal_if (not ((iova == 0) && (size == bounce_size x))) Inval) (done_with [] (Deregistered ∷ []))))) e
      ∙ ap (λ b. lift Node (refuse (refusal_if (not has) Noent) (refuse (refusal_if (not b) Inval) (done_with [] (Deregistered ∷ []))))) f

  pub dereg_line : (iova size : ℕ) (r : Result (Unit {0}) Errno) (d : Held) (q : Pool) → heard (answer_of r)
      → MatchResult r (λ _. (is_some (registration_of acts) ≡ true) × (iova ≡ 0) × (size ≡ bounce_size x) × domain.Stands x (Node Deregistered ∷ acts) d q)
      (λ e. ((e ≡ Noent) × (registration_of acts ≡ None)) ⊎ ((e ≡ Inval) × (is_some (registration_of acts) ≡ true) × (((iova == 0) && (size == bounce_size x)) ≡ false)))
      → OnErr r ((d ≡ k.domain) × (q ≡ p)) → Tells heard (lift Node (deregumem_turn x acts iova size)) (λ more. Stands x (more ++ acts) (record k { domain = d }) q)
  dereg_line iova size (Ok u) d q h t same =
      let whole : ((iova == 0) && (size == bounce_size x)) ≡ true = (let zero_is = t.1 in let size_is = t.2 in grind (arith, nat_tests)) in
      tells_by (dereg_is iova size true true t.0 whole) refl h (node_act Deregistered d q refl t.3)
  dereg_line iova size (Err e) d q h t same = elim t [
    | inl none ↦ tells_by (dereg_is iova size false ((iova == 0) && (size == bounce_size x)) (ap is_some none.1) refl) (ap answer.Err none.0) h (stays d q same)
    | inr bad ↦ tells_by (dereg_is iova size true false bad.1 bad.2) (ap answer.Err bad.0) h (stays d q same)
  ]
