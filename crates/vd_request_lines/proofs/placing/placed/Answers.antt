use Rattle.std.proofs.Common.{◌≡◌, refl, ◌+◌, ◌≤◌, ◌++◌, Bool, length, ap, subst, ◌∙◌, arith}
use Rattle.vd_model.specs.Creation.{has_feature}
use Rattle.vd_model.specs.DriverTurns.{buffer_limit}
use Rattle.vd_model.specs.RingTurns.{made_len}
use Rattle.vd_model.specs.Live.{buffers}
use Rattle.vd_domain.specs.Seen.{ring_map}
use Rattle.vd_buffers.specs.Places.{total_of}
use Rattle.vd_memory_lines.specs.declared.memory.Memory.{Memory}
use Rattle.vd_memory_lines.specs.Stands.{Stands}
use Rattle.blk_driver.specs.Asked.{asked_in, draft_of}
use Rattle.vd_request_lines.specs.Submitting.{made_acts, made_count, IsSubmitted}
use Rattle.vd_request_lines.proofs.Results.{if_ok, if_none}
use Rattle.vd_request_lines.proofs.Returns.{left_of, left_count, taken_back, not_placed}
use Rattle.vd_request_lines.proofs.placing.placed.Goals as goal

pub returns-in_err-make_buffers-clause-stays : goal.returns-in_err-make_buffers-clause-stays
returns-in_err-make_buffers-clause-stays c = λ x acts s none. c.in_err-make_buffers.ensures.none x acts c.args.pool.now s

pub submitted-requires-clause-reached : goal.submitted-requires-clause-reached
submitted-requires-clause-reached c =
    let h = c.requires.known in
    let s = c.in_ok-make_buffers.ensures.made h.setting h.acts c.args.pool.now h.stands in
    record {
      setting = h.setting;
      acts = made_acts c.has_indirect-indirect.result c.args.ask.now ++ h.acts;
      stands = s;
      apart = c.keeps_apart.ensures h.setting (made_acts c.has_indirect-indirect.result c.args.ask.now ++ h.acts) c.args.pool.now s.domain;
    }

pub take_back-requires : goal.take_back-requires
take_back-requires c =
    let h = c.requires.known in
    let i = c.has_indirect-indirect.result in
    let s = c.in_ok-make_buffers.ensures.made h.setting h.acts c.args.pool.now h.stands in
    let left = left_of h.setting h.acts i c.args.ask.now c.make_buffers.new.memory c.submitted.new.memory c.args.pool.now c.submitted.new.pool c.count.result (c.count.ensures.count ∙ h.stands.buffers.count) s c.in-Err.error
    c.in-Err.ensures.untouched c.in-Err.ensures.filled in
    let count : length c.submitted.new.memory.buffers ≡ buffers h.acts + made_count i = left_count h.setting h.acts i c.args.ask.now c.submitted.new.memory c.submitted.new.pool left in
    omega (arith, count)

pub returns-in-Err-clause-stays : goal.returns-in-Err-clause-stays
returns-in-Err-clause-stays c = λ x acts s none.
    let i = c.has_indirect-indirect.result in
    let t = c.in_ok-make_buffers.ensures.made x acts c.args.pool.now s in
    let left = left_of x acts i c.args.ask.now c.make_buffers.new.memory c.submitted.new.memory c.args.pool.now c.submitted.new.pool c.count.result (c.count.ensures.count ∙ s.buffers.count) t c.in-Err.error
    c.in-Err.ensures.untouched c.in-Err.ensures.filled in
    taken_back x acts i c.args.ask.now c.submitted.new.memory c.submitted.new.pool s.inside left c.take_back.new.buffers c.take_back.ensures

pub returns-in-Err-clause-none : goal.returns-in-Err-clause-none
returns-in-Err-clause-none c = λ x acts s.
    let t : Stands x (made_acts (has_feature c.args.features 28) c.args.ask.now ++ acts) c.make_buffers.new.memory c.args.pool.now =
    subst (λ (i : Bool). Stands x (made_acts i c.args.ask.now ++ acts) c.make_buffers.new.memory c.args.pool.now) c.has_indirect-indirect.ensures (c.in_ok-make_buffers.ensures.made x acts c.args.pool.now s) in
    if_ok c.not_placed.result c.not_placed.ensures.memory (λ found is other none.
    not_placed x acts (has_feature c.args.features 28) (has_feature c.args.features 29) c.args.ask.now c.make_buffers.new.memory c.args.pool.now c.count.result _ (c.count.ensures.count ∙ s.buffers.count) t c.in-Err.error other
    c.in-Err.ensures.full.0 c.in-Err.ensures.no_space)

pub returns-in-Err-clause-placed : goal.returns-in-Err-clause-placed
returns-in-Err-clause-placed c = if_ok c.not_placed.result c.not_placed.ensures.none (λ found is none. if_none _ found none)

pub returns-in-Ok-clause-placed : goal.returns-in-Ok-clause-placed
returns-in-Ok-clause-placed c = record {
  room = subst (λ (i : Bool). total_of c.args.memory.now.buffers + made_len i (asked_in c.args.ask.now) ≤ buffer_limit) c.has_indirect-indirect.ensures
      (subst (λ n. total_of c.args.memory.now.buffers + n ≤ buffer_limit) c.made_len.ensures (c.if-not-has_room.ensures.0 refl));
  made = c.make_buffers.new.memory;
  makes = λ x acts s. subst (λ (i : Bool). Stands x (made_acts i c.args.ask.now ++ acts) c.make_buffers.new.memory c.args.pool.now) c.has_indirect-indirect.ensures (c.in_ok-make_buffers.ensures.made x acts c.args.pool.now s);
  same_told = ap (λ (k : Memory). ring_map k.domain) c.make_buffers.ensures.rest;
  submits = subst (λ n. IsSubmitted c.make_buffers.new.memory c.args.pool.now (draft_of c.args.ask.now n c.args.features) c.args.driver.now c.submitted.new.driver c.in-Ok.submitted c.submitted.new.memory c.submitted.new.pool) c.count.ensures.count
      c.in-Ok.ensures.submitted;
}
