use Rattle.std.proofs.Common.{◌≡◌, ℕ, ◌+◌, ◌<◌, List, [], ◌∷◌, ◌++◌, Option, ◌-◌, true, ap, sym, subst, ◌∙◌, ◌==◌}
use Rattle.std.specs.List.{list_any, slice_set}
use Rattle.std.specs.Option.{option_map}
use Rattle.vd_num.specs.Number.{pages_of}
use Rattle.vd_iova.specs.Space.{Space}
use Rattle.vd_model.specs.declared.memory.Want.{Want}
use Rattle.vd_model.specs.Acts.{Streaming}
use Rattle.vd_model.specs.RingTurns.{placed_mappings}
use Rattle.std.specs.Result.{is_err}
use Rattle.vd_domain.specs.Numbered.{Numbered}
use Rattle.vd_domain.specs.declared.streaming.Bounced.{Bounced}
use Rattle.vd_domain.specs.Held.{AreTaken}
use Rattle.vd_domain.specs.Placing.{IsGiven}
use Rattle.vd_domain.proofs.Batches.{holding_of, none_placed, taken_next, seen_next, placed_next, err_same, err_use, err_given, first_some, one_less}
use Rattle.vd_domain.proofs.Spans.{set_back}
use Rattle.vd_domain.proofs.domain.batch.+book_all.Goals as goal
use Rattle.vd_domain.proofs.domain.batch.+book_all.Goals.{in-Some-checked_add, in-None-checked_add}

pub returns-in-Err-clause-full : goal.returns-in-Err-clause-full
returns-in-Err-clause-full n c = λ e x holds held per_page bounce taken seen.
    ap (λ (ws : List Want). placed_mappings x held c.args.mappings.now.made ws) c.in-Some.ensures.cases.0
    ∙ none_placed x c.args.low.now c.args.mappings.now.made holds held per_page bounce taken seen c.in-Some.parts.0.now c.in-Some.parts.1.now (c.in-Err.ensures.place (err_same e))

pub returns-then-is_err-clause-full : goal.returns-then-is_err-clause-full
returns-then-is_err-clause-full n c = λ e x holds held per_page bounce taken seen.
    let want : Want = c.in-Some.parts.0.now in
    let wants : List Want = c.in-Some.parts.1.now in
    let low : Space = c.args.low.now in
    let made : ℕ = c.args.mappings.now.made in
    let given : IsGiven c.args.per_page low made want c.in-Ok.given c.book.new.low = record {
      number = c.in-Ok.ensures.numbered.0;
      place = c.in-Ok.ensures.place;
      first = c.book.ensures.ends.0;
      top = c.book.ensures.ends.1;
      low = c.in-Ok.ensures.within.0;
      high = c.in-Ok.ensures.within.1;
      fresh = c.in-Ok.ensures.taken.0;
      taken = c.in-Ok.ensures.taken.1;
      pages = c.in-Ok.ensures.pages;
      inside = c.in-Ok.ensures.inside;
    } in
    let some : 0 < want.len = first_some want wants (ap (λ (ws : List Want). list_any (λ (w : Want). w.len == 0) ws) (sym c.in-Some.ensures.cases.0) ∙ c.requires.some) in
    let next : c.book.new.mappings.made ≡ made + 1 = ap (λ m. m.made) c.in-Ok.ensures.numbered.1 ∙ ap (λ k. k + 1) c.in-Ok.ensures.numbered.0 in
    elim c.match-checked_add.branch [
      | in-Some-checked_add w ↦
          (let rest = w.book_all-booked.ensures.full (sym w.booked2-is ∙ e) x (holds ++ holding_of want c.in-Ok.given ∷ [])
          (held ++ record { start = c.in-Ok.given.slot; count = pages_of want.len } ∷ [])
          (per_page ∙ sym given.first) (bounce ∙ sym given.top)
          (subst (λ k. AreTaken c.book.new.low k (holds ++ holding_of want c.in-Ok.given ∷ [])) (sym next)
          (taken_next x low made holds held per_page bounce taken seen c.args.per_page want c.in-Ok.given c.book.new.low given some))
          (seen_next x low made holds held per_page bounce taken seen c.args.per_page want c.in-Ok.given c.book.new.low given some) in
          ap (λ (ws : List Want). placed_mappings x held made ws) c.in-Some.ensures.cases.0
          ∙ placed_next x low made holds held per_page bounce taken seen c.args.per_page want c.in-Ok.given c.book.new.low given some wants
          ∙ ap (λ (o : Option (List Streaming)). option_map (λ ms. record { number = made; slot = c.in-Ok.given.slot; want = want } ∷ ms) o)
          (ap (λ k. placed_mappings x (held ++ record { start = c.in-Ok.given.slot; count = pages_of want.len } ∷ []) k wants) (sym next) ∙ rest))
      | in-None-checked_add w ↦ absurd (let no = err_same (sym w.booked2-is ∙ e) in cc)
    ]

pub returns-then-is_err-clause-err : goal.returns-then-is_err-clause-err
returns-then-is_err-clause-err n c =
    let slot : ℕ = c.in-Ok.given.slot in
    let low : Space = c.args.low.now in
    let old : Numbered Bounced = c.args.mappings.now in
    let fails : is_err c.match-checked_add.booked2 ≡ true = sym c.if-is_err.ensures.value in
    let restored : (c.match-checked_add.low ≡ c.book.new.low) × (c.match-checked_add.mappings ≡ c.book.new.mappings) =
    elim c.match-checked_add.branch [
      | in-Some-checked_add w ↦
          (let back = err_use w.book_all-booked.result _ (ap is_err (sym w.booked2-is) ∙ fails) w.book_all-booked.ensures.err in
          (w.low-is ∙ back.0, w.mappings-is ∙ back.1))
      | in-None-checked_add w ↦ (w.low-is, w.mappings-is)
    ] in
    let booked : c.match-checked_add.mappings ≡ record { entries = old.entries ++ (c.in-Ok.given.number, record { slot = slot; want = c.in-Some.parts.0.now }) ∷ []; made = c.in-Ok.given.number + 1 } =
    restored.1 ∙ c.in-Ok.ensures.numbered.1 in
    let number : c.match-checked_add.mappings.made - 1 ≡ c.in-Ok.given.number = ap (λ (m : Numbered Bounced). m.made - 1) booked ∙ one_less c.in-Ok.given.number in
    let last : c.match-checked_add.mappings.entries ≡ old.entries ++ (c.match-checked_add.mappings.made - 1, record { slot = slot; want = c.in-Some.parts.0.now }) ∷ [] =
    ap (λ (m : Numbered Bounced). m.entries) booked
    ∙ ap (λ (k : ℕ). old.entries ++ (k, record { slot = slot; want = c.in-Some.parts.0.now }) ∷ []) (sym number) in
    err_given c.match-checked_add.booked2 _ (
      c.give.ensures.new
          ∙ ap (λ (s : Space). record s { counts = slice_set s.counts slot 0 }) (restored.0 ∙ c.in-Ok.ensures.space)
          ∙ ap (λ (xs : List ℕ). record low { counts = xs }) (set_back low.counts slot (pages_of c.in-Some.parts.0.now.len) c.in-Ok.ensures.taken.0),
      c.undo.ensures.last old.entries (record { slot = slot; want = c.in-Some.parts.0.now }) last
          ∙ ap (λ (k : ℕ). record { entries = old.entries; made = k }) (number ∙ c.in-Ok.ensures.numbered.0),
    )
