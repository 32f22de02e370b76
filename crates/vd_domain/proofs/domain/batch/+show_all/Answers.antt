use Rattle.std.proofs.Common.{◌≡◌, ℕ, ◌+◌, ◌<◌, ◌≤◌, ◌^◌, List, ◌∷◌, ◌++◌, refl, ap, sym, subst, ◌∙◌, arith, false, ◌==◌, length, drop}
use Rattle.std.specs.List.{list_any}
use Rattle.vd_model.specs.declared.memory.Want.{Want}
use Rattle.vd_model.specs.Acts.{Driver, Mapped, Streaming}
use Rattle.vd_model.specs.RingTurns.{map_acts}
use Rattle.vd_domain.specs.declared.booking.Booked.{Booked}
use Rattle.vd_domain.specs.Held.{IsFit}
use Rattle.vd_domain.specs.Handed.{AreOf, bytes_of}
use Rattle.vd_domain.specs.Stands.{Stands}
use Rattle.vd_domain.specs.Placing.{AreGiven, IsReady, streamings, with_mappings, pages_met}
use Rattle.vd_domain.proofs.Batches.{first_some, rest_some}
use Rattle.vd_domain.proofs.Shows.{mapping_given, one_more, are_of_next, first_given, first_fit, first_stands, rest_fit, rest_stands}
use Rattle.vd_domain.proofs.domain.batch.+show_all.Goals as goal

pub show_all-requires : goal.show_all-requires
show_all-requires n c =
    let want : Want = c.in-Some.parts.0.now in
    let wants : List Want = c.in-Some.parts.1.now in
    let b : Booked = c.in-Some-split_first.parts.0.now in
    let bs : List Booked = c.in-Some-split_first.parts.1.now in
    let all : c.args.wants.now ≡ want ∷ wants = c.in-Some.ensures.cases.0 in
    let both : c.args.booked.now ≡ b ∷ bs = c.in-Some-split_first.ensures.cases.0 in
    let none : list_any (λ (w : Want). w.len == 0) (want ∷ wants) ≡ false = ap (λ (ws : List Want). list_any (λ (w : Want). w.len == 0) ws) (sym all) ∙ c.requires.some in
    let some : 0 < want.len = first_some want wants none in
    let r : IsReady c.args.bounce.now c.args.uses.now c.args.wants.now c.args.booked.now = c.requires.ready in
    let given : AreGiven r.domain.bounce.per_page r.low r.domain.maps (want ∷ wants) (b ∷ bs) r.after =
    subst (λ (ws : List Want). AreGiven r.domain.bounce.per_page r.low r.domain.maps ws (b ∷ bs) r.after) all
    (subst (λ (ks : List Booked). AreGiven r.domain.bounce.per_page r.low r.domain.maps c.args.wants.now ks r.after) both r.given) in
    let count : length wants + 1 ≡ length c.args.wants.now = c.in-Some.ensures.cases.1 in
    let few : r.domain.maps + length c.args.wants.now ≤ 2 ^ 62 = r.few in
    let long : length c.args.bytes.now ≡ want.len + bytes_of wants = c.requires.text ∙ ap bytes_of all in
    let back = c.split_at.ensures.back_len in
    let met : b.pages.count + pages_met bs ≤ c.args.pool.now.spare = subst (λ (ks : List Booked). pages_met ks ≤ c.args.pool.now.spare) both c.requires.spare in
    let left = c.show.ensures.spare in (
      omega (arith, count),
      (
        c.show.ensures.kept.holds,
        (
          c.show.ensures.kept.size ∙ c.requires.size ∙ sym c.show.ensures.same.size,
          (
            rest_some want wants none,
            (
              omega (arith, long, back),
              (
                record {
                  domain = one_more r.domain c.show.new.map (mapping_given want b);
                  low = given.0;
                  high = r.high;
                  after = r.after;
                  bounce = refl;
                  fit = first_fit r.domain c.args.bounce.now r.bounce r.low r.high r.after c.args.uses.now r.fit want wants b bs given some c.show.new.map c.show.ensures.same c.show.ensures.frames c.enter.new.self c.enter.ensures.counts c.enter.ensures.len;
                  given = first_given r.domain c.args.bounce.now r.bounce r.low r.high r.after c.args.uses.now r.fit want wants b bs given some c.show.new.map c.show.ensures.same c.show.ensures.frames;
                  few = omega (arith, few, count);
                },
                omega (arith, met, left),
              ),
            ),
          ),
        ),
      ),
    )

pub returns-clause-fit : goal.returns-clause-fit
returns-clause-fit n c = λ h low high after named fit told.
    let want : Want = c.in-Some.parts.0.now in
    let wants : List Want = c.in-Some.parts.1.now in
    let b : Booked = c.in-Some-split_first.parts.0.now in
    let bs : List Booked = c.in-Some-split_first.parts.1.now in
    let all : c.args.wants.now ≡ want ∷ wants = c.in-Some.ensures.cases.0 in
    let both : c.args.booked.now ≡ b ∷ bs = c.in-Some-split_first.ensures.cases.0 in
    let none : list_any (λ (w : Want). w.len == 0) (want ∷ wants) ≡ false = ap (λ (ws : List Want). list_any (λ (w : Want). w.len == 0) ws) (sym all) ∙ c.requires.some in
    let some : 0 < want.len = first_some want wants none in
    let given : AreGiven h.bounce.per_page low h.maps (want ∷ wants) (b ∷ bs) after =
    subst (λ (ws : List Want). AreGiven h.bounce.per_page low h.maps ws (b ∷ bs) after) all
    (subst (λ (ks : List Booked). AreGiven h.bounce.per_page low h.maps c.args.wants.now ks after) both told) in
    let same : streamings (want ∷ wants) (b ∷ bs) ≡ streamings c.args.wants.now c.args.booked.now =
    ap (λ (ws : List Want). streamings ws (b ∷ bs)) (sym all) ∙ ap (λ (ks : List Booked). streamings c.args.wants.now ks) (sym both) in
    subst (λ (ms : List Streaming). IsFit (with_mappings h c.show_all.new.bounce ms) after high c.show_all.new.uses) same
    (rest_fit h c.args.bounce.now named low high after c.args.uses.now fit want wants b bs given some c.show.new.map c.show.ensures.same c.show.ensures.frames c.show_all.new.bounce c.show_all.new.uses
    (c.show_all.ensures.fit (one_more h c.show.new.map (mapping_given want b)) given.0 high after refl
    (first_fit h c.args.bounce.now named low high after c.args.uses.now fit want wants b bs given some c.show.new.map c.show.ensures.same c.show.ensures.frames c.enter.new.self c.enter.ensures.counts c.enter.ensures.len)
    (first_given h c.args.bounce.now named low high after c.args.uses.now fit want wants b bs given some c.show.new.map c.show.ensures.same c.show.ensures.frames)))

pub returns-clause-stands : goal.returns-clause-stands
returns-clause-stands n c = λ h low high after named fit told x acts s of.
    let want : Want = c.in-Some.parts.0.now in
    let wants : List Want = c.in-Some.parts.1.now in
    let b : Booked = c.in-Some-split_first.parts.0.now in
    let bs : List Booked = c.in-Some-split_first.parts.1.now in
    let all : c.args.wants.now ≡ want ∷ wants = c.in-Some.ensures.cases.0 in
    let both : c.args.booked.now ≡ b ∷ bs = c.in-Some-split_first.ensures.cases.0 in
    let none : list_any (λ (w : Want). w.len == 0) (want ∷ wants) ≡ false = ap (λ (ws : List Want). list_any (λ (w : Want). w.len == 0) ws) (sym all) ∙ c.requires.some in
    let some : 0 < want.len = first_some want wants none in
    let given : AreGiven h.bounce.per_page low h.maps (want ∷ wants) (b ∷ bs) after =
    subst (λ (ws : List Want). AreGiven h.bounce.per_page low h.maps ws (b ∷ bs) after) all
    (subst (λ (ks : List Booked). AreGiven h.bounce.per_page low h.maps c.args.wants.now ks after) both told) in
    let same : streamings (want ∷ wants) (b ∷ bs) ≡ streamings c.args.wants.now c.args.booked.now =
    ap (λ (ws : List Want). streamings ws (b ∷ bs)) (sym all) ∙ ap (λ (ks : List Booked). streamings c.args.wants.now ks) (sym both) in
    let texts : AreOf x.per_page acts (want ∷ wants) c.args.bytes.now = subst (λ (ws : List Want). AreOf x.per_page acts ws c.args.bytes.now) all of in
    let m : Streaming = mapping_given want b in
    subst (λ (ms : List Streaming). Stands x (map_acts ms ++ acts) (with_mappings h c.show_all.new.bounce ms) c.show_all.new.pool) same
    (rest_stands h c.args.bounce.now named low high after c.args.uses.now fit want wants b bs given some c.show.new.map c.show.ensures.same c.show.ensures.frames x acts c.show_all.new.bounce c.show_all.new.pool
    (c.show_all.ensures.stands (one_more h c.show.new.map m) given.0 high after refl
    (first_fit h c.args.bounce.now named low high after c.args.uses.now fit want wants b bs given some c.show.new.map c.show.ensures.same c.show.ensures.frames c.enter.new.self c.enter.ensures.counts c.enter.ensures.len)
    (first_given h c.args.bounce.now named low high after c.args.uses.now fit want wants b bs given some c.show.new.map c.show.ensures.same c.show.ensures.frames)
    x (Driver (Mapped m) ∷ acts)
    (first_stands h c.args.bounce.now named low high after c.args.uses.now fit want wants b bs given some c.show.new.map c.show.ensures.same c.show.ensures.frames x acts c.args.pool.now c.show.new.pool c.split_at.result.0.now s
    (c.split_at.ensures.front ∙ texts.0) c.split_at.ensures.front_len c.show.ensures.bytes)
    (subst (λ (t : List ℕ). AreOf x.per_page (Driver (Mapped m) ∷ acts) wants t) (sym c.split_at.ensures.back) (are_of_next x.per_page acts m wants (drop want.len c.args.bytes.now) texts.1))))
