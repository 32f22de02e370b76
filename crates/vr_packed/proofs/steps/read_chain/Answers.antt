use Rattle.std.proofs.Common.{◌≡◌, ◌+◌, ◌++◌, ◌∷◌, [], Bool, List, take, get_or, true, false, sym, ap, ◌∙◌}
use Rattle.std.proofs.lemmas.List.{take_all}
use Rattle.vd_model.specs.declared.parts.Part.{Part}
use Rattle.vr_slots.specs.declared.slot.Slot.{Slot}
use Rattle.vr_slots.specs.Slots.{slot_at, slot_goes_on}
use Rattle.vr_packed.proofs.Loops.{read_part, read-more, record_part, part_with, no_part, next_is, ends_is}
use Rattle.vr_packed.proofs.steps.read_chain.Goals as goal

pub loop-i-preserved : goal.loop-i-preserved
loop-i-preserved c = λ id parts some fits lies.
    let before = c.loop-i.invariant id parts some fits lies in
    let r = read_part c.args.slots.now c.args.place id parts c.loop-i.i before.0 before.2 in
    let more : slot_goes_on (slot_at c.args.slots.now (c.args.place + c.loop-i.i)) ≡ true = sym (ap slot_goes_on c.get-slot.ensures) ∙ sym c.has_next.ensures ∙ c.if-not-has_next.false in
    let part : record_part c.get-slot.result ≡ get_or parts c.loop-i.i no_part = ap record_part c.get-slot.ensures ∙ r.part in
    let pushed : c.push.new.self ≡ c.loop-i.into ++ record_part c.get-slot.result ∷ [] =
    c.in_ok-push.ensures.ok ∙ ap (λ (b : Bool). c.loop-i.into ++ part_with (record_part c.get-slot.result) b ∷ []) c.is_writable.ensures in (
      next_is c.loop-i.i parts (sym r.more ∙ more),
      read-more c.args.into.now c.push.new.self c.loop-i.into parts c.loop-i.i (record_part c.get-slot.result) before.0 part before.1 pushed,
      r.rest,
    )

pub returns-then-not-has_next : goal.returns-then-not-has_next
returns-then-not-has_next c = λ id parts some fits lies.
    let before = c.loop-i.invariant id parts some fits lies in
    let r = read_part c.args.slots.now c.args.place id parts c.loop-i.i before.0 before.2 in
    let last : slot_goes_on (slot_at c.args.slots.now (c.args.place + c.loop-i.i)) ≡ false = sym (ap slot_goes_on c.get-slot.ensures) ∙ sym c.has_next.ensures ∙ c.if-not-has_next.true in
    let part : record_part c.get-slot.result ≡ get_or parts c.loop-i.i no_part = ap record_part c.get-slot.ensures ∙ r.part in
    let pushed : c.push.new.self ≡ c.loop-i.into ++ record_part c.get-slot.result ∷ [] =
    c.in_ok-push.ensures.ok ∙ ap (λ (b : Bool). c.loop-i.into ++ part_with (record_part c.get-slot.result) b ∷ []) c.is_writable.ensures in
    let read : c.push.new.self ≡ c.args.into.now ++ take (c.loop-i.i + 1) parts =
    read-more c.args.into.now c.push.new.self c.loop-i.into parts c.loop-i.i (record_part c.get-slot.result) before.0 part before.1 pushed in
    let all : take (c.loop-i.i + 1) parts ≡ parts = take_all (c.loop-i.i + 1) parts (ends_is c.loop-i.i parts (sym r.more ∙ last)) in
    (ap (λ (x : Slot). x.id) c.get-slot.ensures ∙ r.id_is, read ∙ ap (λ (l : List Part). c.args.into.now ++ l) all)
