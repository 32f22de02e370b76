use Rattle.std.proofs.Common.{◌≡◌, Some, Result, Ok, Err, refl, sym, ap, subst, ◌∙◌}
use Rattle.std.specs.Prelude.{OnErr}
use Rattle.std.specs.Option.{ForSome}
use Rattle.std.proofs.lemmas.Result.{err_from_is_err_and}
use Rattle.vd_model.specs.Creation.{has_feature}
use Rattle.vr_device.specs.Device.{next_of}
use Rattle.blk_daemon.specs.Errors.{IsUnlessMemory}
use Rattle.blk_daemon.specs.Fetched.{hand_at, hand_given}
use Rattle.blk_daemon.specs.Held.{InHand}
use Rattle.blk_daemon.specs.declared.error.FetchError.{FetchError}
use Rattle.blk_daemon.proofs.WholeLemmas.{next_has_lens}
use Rattle.blk_daemon.proofs.TakeLemmas.{not_read, taken_as, not_told, is_told}
use Rattle.blk_daemon.proofs.fetch.take.Goals as goal

pub returns-in_err-request-clause-taken : goal.returns-in_err-request-clause-taken
returns-in_err-request-clause-taken g c m told =
    let p = err_from_is_err_and c.from_residual-in_err-request.result c.from_residual-in_err-request.ensures.1 in
    let indirect = has_feature c.args.features 28 in
    let next = sym (ap Ok c.in-Some.is) ∙ c.in_ok-chain.ensures.next m told ∙ ap (next_of m c.args.ring.now) c.has_feature-indirect.ensures in
    let read = c.in_err-request.ensures.read (next_has_lens m c.args.ring.now indirect c.in-Some.chain next) m (c.in_ok-chain.ensures.memory.same_told ∙ told) in
    subst (λ (r : Result InHand FetchError). IsUnlessMemory (hand_given r) (hand_at m indirect (has_feature c.args.features 29) c.args.ring.now)) (sym (p.1 ∙ ap Err p.2))
    (not_read m indirect (has_feature c.args.features 29) c.args.ring.now c.in-Some.chain c.in_err-request.field-0.0 next read)

pub returns-in_err-accept-clause-taken : goal.returns-in_err-accept-clause-taken
returns-in_err-accept-clause-taken g c m told =
    let p = err_from_is_err_and c.from_residual-in_err-accept.result c.from_residual-in_err-accept.ensures.1 in
    let indirect = has_feature c.args.features 28 in
    let event_idx = has_feature c.args.features 29 in
    let next = sym (ap Ok c.in-Some.is) ∙ c.in_ok-chain.ensures.next m told ∙ ap (next_of m c.args.ring.now) c.has_feature-indirect.ensures in
    let second = c.in_ok-chain.ensures.memory.same_told ∙ told in
    let read = c.in_ok-request.ensures.read (next_has_lens m c.args.ring.now indirect c.in-Some.chain next) m second in
    let third = c.in_ok-request.ensures.memory.same_told ∙ second in
    let failed = not_told m c.args.ring.now event_idx c.in_err-accept.field-0.0 (g.M.Mem.told c.accept.new.mem) c.in_ok-request.request.hand (record {
      event = λ e. c.in_err-accept.ensures.event (c.has_feature.ensures ∙ e) m third;
      no_event = λ e. absurd (cc (c.in_err-accept.ensures.no_event (c.has_feature.ensures ∙ e)));
    }) in
    subst (λ (r : Result InHand FetchError). IsUnlessMemory (hand_given r) (hand_at m indirect event_idx c.args.ring.now)) (sym (p.1 ∙ ap Err p.2))
    (sym (taken_as m indirect event_idx c.args.ring.now c.in-Some.chain c.in_ok-request.request.hand next read ∙ failed.0))

pub returns-in_err-accept-clause-memory_stays : goal.returns-in_err-accept-clause-memory_stays
returns-in_err-accept-clause-memory_stays g c =
    let p = err_from_is_err_and c.from_residual-in_err-accept.result c.from_residual-in_err-accept.ensures.1 in
    subst (λ (r : Result InHand FetchError). OnErr r (ForSome (g.M.Mem.told c.args.mem.now) (λ m. g.M.Mem.told c.accept.new.mem ≡ Some m))) (sym p.1)
    (λ m told.
    let third = c.in_ok-request.ensures.memory.same_told ∙ c.in_ok-chain.ensures.memory.same_told ∙ told in
    (not_told m c.args.ring.now (has_feature c.args.features 29) c.in_err-accept.field-0.0 (g.M.Mem.told c.accept.new.mem) c.in_ok-request.request.hand (record {
      event = λ e. c.in_err-accept.ensures.event (c.has_feature.ensures ∙ e) m third;
      no_event = λ e. absurd (cc (c.in_err-accept.ensures.no_event (c.has_feature.ensures ∙ e)));
    })).1)

pub returns-clause-taken : goal.returns-clause-taken
returns-clause-taken g c m told =
    let indirect = has_feature c.args.features 28 in
    let event_idx = has_feature c.args.features 29 in
    let next = sym (ap Ok c.in-Some.is) ∙ c.in_ok-chain.ensures.next m told ∙ ap (next_of m c.args.ring.now) c.has_feature-indirect.ensures in
    let second = c.in_ok-chain.ensures.memory.same_told ∙ told in
    let read = c.in_ok-request.ensures.read (next_has_lens m c.args.ring.now indirect c.in-Some.chain next) m second in
    let third = c.in_ok-request.ensures.memory.same_told ∙ second in
    let works = is_told m c.args.ring.now c.accept.new.self event_idx c.in_ok-accept.field-0 (g.M.Mem.told c.accept.new.mem) c.in_ok-request.request.hand c.in_ok-accept.ensures.moved (record {
      event = λ e. c.in_ok-accept.ensures.event (c.has_feature.ensures ∙ e) m third;
      no_event = λ e. (refl, c.in_ok-accept.ensures.no_event_told (c.has_feature.ensures ∙ e) ∙ third);
    }) in
    sym (taken_as m indirect event_idx c.args.ring.now c.in-Some.chain c.in_ok-request.request.hand next read ∙ works.0)

pub returns-clause-event : goal.returns-clause-event
returns-clause-event g c m told =
    let event_idx = has_feature c.args.features 29 in
    let third = c.in_ok-request.ensures.memory.same_told ∙ c.in_ok-chain.ensures.memory.same_told ∙ told in
    (is_told m c.args.ring.now c.accept.new.self event_idx c.in_ok-accept.field-0 (g.M.Mem.told c.accept.new.mem) c.in_ok-request.request.hand c.in_ok-accept.ensures.moved (record {
      event = λ e. c.in_ok-accept.ensures.event (c.has_feature.ensures ∙ e) m third;
      no_event = λ e. (refl, c.in_ok-accept.ensures.no_event_told (c.has_feature.ensures ∙ e) ∙ third);
    })).1
