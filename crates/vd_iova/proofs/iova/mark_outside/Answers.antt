use Rattle.std.proofs.Common.{◌≡◌, ◌+◌, ◌-◌, ◌*◌, ◌/◌, ◌≤◌, ap, sym, subst, ◌∙◌, length, if◌then◌else◌}
use Rattle.vd_num.specs.Number.{is_within}
use Rattle.vd_iova.specs.Bits.{bit}
use Rattle.vd_iova.proofs.Summaries.{outside_sums}
use Rattle.vd_iova.proofs.iova.mark_outside.Goals as goal

pub returns-clause-summary : goal.returns-clause-summary
returns-clause-summary g c =
    let size : length c.mark-2.new.words ≡ length c.args.words.now = c.mark-2.ensures.len ∙ c.mark.ensures.len in
    let sizes : length c.mark-4.new.words ≡ length c.args.full.now = c.mark-4.ensures.len ∙ c.mark-3.ensures.len in
    let len : length c.mark-2.new.words ≡ 64 * length c.mark-4.new.words = size ∙ c.requires.len ∙ ap (λ k. 64 * k) (sym sizes) in
    let room : c.args.«end» ≤ 64 * length c.mark-2.new.words = subst (λ k. c.args.«end» ≤ 64 * k) (sym size) c.requires.inside in
    let counted : c.len.result ≡ length c.mark-2.new.words = c.len.ensures ∙ sym c.mark-2.ensures.len in
    let counted_too : c.len-2.result ≡ length c.mark-2.new.words = c.len-2.ensures in
    let high = c.words_for-high.ensures in
    outside_sums c.mark-2.new.words c.mark-4.new.words c.args.first c.args.«end» c.requires.order room len
    (λ p. c.mark-2.ensures.bits p
    ∙ ap (λ k. if is_within c.args.«end» (64 * k - c.args.«end») p then 1 else bit c.mark.new.words p) counted
    ∙ ap (λ x. if is_within c.args.«end» (64 * length c.mark-2.new.words - c.args.«end») p then 1 else x)
    (c.mark.ensures.bits p ∙ ap (λ x. if is_within 0 c.args.first p then 1 else x) (c.requires.clear p)))
    (λ w. c.mark-4.ensures.bits w
    ∙ ap (λ k. if is_within c.words_for-high.result (k - c.words_for-high.result) w then 1 else bit c.mark-3.new.words w) counted_too
    ∙ ap (λ h. if is_within h (length c.mark-2.new.words - h) w then 1 else bit c.mark-3.new.words w) high
    ∙ ap (λ x. if is_within ((c.args.«end» + 63) / 64) (length c.mark-2.new.words - (c.args.«end» + 63) / 64) w then 1 else x)
    (c.mark-3.ensures.bits w ∙ ap (λ x. if is_within 0 (c.args.first / 64) w then 1 else x) (c.requires.clear_too w)))
