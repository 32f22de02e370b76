use Rattle.std.proofs.Common.{subst, sym, ap, ◌∙◌, arith, true}
use Rattle.std.specs.Prelude.{find}
use Rattle.std.specs.List.{list_any}
use Rattle.std.specs.Option.{option_map}
use Rattle.vd_engine.specs.Machine.{FirstIs, NoneIs}
use Rattle.vd_engine.specs.Windows.{has_window, given_window, shares_sector}
use Rattle.vd_engine.proofs.Refusals.{none_of, some_of, unfound, image_absent, image_had, image_empty, image_beyond, image_met, image_free}
use Rattle.vd_engine.proofs.engine.Engine.check_window.Goals as goal

pub returns-then-is_none-clause-refusal : goal.returns-then-is_none-clause-refusal
returns-then-is_none-clause-refusal c = λ x done s.
    let none = none_of _ (λ i. FirstIs c.args.name.now c.deref.result.now i) c.place_of.result c.place_of.ensures c.if-is_none.ensures in
    image_absent x done c.args.self.now s c.args.name.now c.args.first c.args.count (subst (λ l. NoneIs c.args.name.now l) c.deref.ensures.value none)

pub returns-then-is_some-clause-refusal : goal.returns-then-is_some-clause-refusal
returns-then-is_some-clause-refusal c = λ x done s.
    let found = some_of _ (λ i. FirstIs c.args.name.now c.deref.result.now i) c.place_of.result c.place_of.ensures c.if-is_none.ensures in
    let there = subst (λ l. FirstIs c.args.name.now l found.0) c.deref.ensures.value found.1 in
    let is = c.window_of.ensures ∙ ap (λ l. option_map given_window (find (has_window c.args.name.now) l)) c.deref-2.ensures.value in
    image_had x done c.args.self.now s c.args.name.now c.args.first c.args.count found.0 there c.window_of.result is (sym c.if-is_some.ensures)

pub returns-then-count-eq0-clause-refusal : goal.returns-then-count-eq0-clause-refusal
returns-then-count-eq0-clause-refusal c = λ x done s.
    let found = some_of _ (λ i. FirstIs c.args.name.now c.deref.result.now i) c.place_of.result c.place_of.ensures c.if-is_none.ensures in
    let there = subst (λ l. FirstIs c.args.name.now l found.0) c.deref.ensures.value found.1 in
    let is = c.window_of.ensures ∙ ap (λ l. option_map given_window (find (has_window c.args.name.now) l)) c.deref-2.ensures.value in
    image_empty x done c.args.self.now s c.args.name.now c.args.first c.args.count found.0 there c.window_of.result is (sym c.if-is_some.ensures) c.if-count-eq0.true

pub returns-then-is_beyond-clause-refusal : goal.returns-then-is_beyond-clause-refusal
returns-then-is_beyond-clause-refusal c = λ x done s.
    let found = some_of _ (λ i. FirstIs c.args.name.now c.deref.result.now i) c.place_of.result c.place_of.ensures c.if-is_none.ensures in
    let there = subst (λ l. FirstIs c.args.name.now l found.0) c.deref.ensures.value found.1 in
    let is = c.window_of.ensures ∙ ap (λ l. option_map given_window (find (has_window c.args.name.now) l)) c.deref-2.ensures.value in
    image_beyond x done c.args.self.now s c.args.name.now c.args.first c.args.count found.0 there c.window_of.result is (sym c.if-is_some.ensures) (omega arith) (sym c.if-is_beyond.ensures)

pub returns-then-is_taken-clause-refusal : goal.returns-then-is_taken-clause-refusal
returns-then-is_taken-clause-refusal c = λ x done s.
    let found = some_of _ (λ i. FirstIs c.args.name.now c.deref.result.now i) c.place_of.result c.place_of.ensures c.if-is_none.ensures in
    let there = subst (λ l. FirstIs c.args.name.now l found.0) c.deref.ensures.value found.1 in
    let is = c.window_of.ensures ∙ ap (λ l. option_map given_window (find (has_window c.args.name.now) l)) c.deref-2.ensures.value in
    image_met x done c.args.self.now s c.args.name.now c.args.first c.args.count found.0 there c.window_of.result is (sym c.if-is_some.ensures) (omega arith) (sym c.if-is_beyond.ensures) (sym (c.if-is_taken.ensures ∙ ap (list_any (shares_sector c.args.first c.args.count)) c.deref-3.ensures.value))

pub returns-clause-refusal : goal.returns-clause-refusal
returns-clause-refusal c = λ x done s.
    let found = some_of _ (λ i. FirstIs c.args.name.now c.deref.result.now i) c.place_of.result c.place_of.ensures c.if-is_none.ensures in
    let there = subst (λ l. FirstIs c.args.name.now l found.0) c.deref.ensures.value found.1 in
    let is = c.window_of.ensures ∙ ap (λ l. option_map given_window (find (has_window c.args.name.now) l)) c.deref-2.ensures.value in
    image_free x done c.args.self.now s c.args.name.now c.args.first c.args.count found.0 there c.window_of.result is (sym c.if-is_some.ensures) (omega arith) (sym c.if-is_beyond.ensures) (sym (c.if-is_taken.ensures ∙ ap (list_any (shares_sector c.args.first c.args.count)) c.deref-3.ensures.value))

pub returns-clause-none : goal.returns-clause-none
returns-clause-none c =
    let is = c.window_of.ensures ∙ ap (λ l. option_map given_window (find (has_window c.args.name.now) l)) c.deref-2.ensures.value in
    unfound (find (has_window c.args.name.now) c.args.self.now.windows.items) c.window_of.result is (sym c.if-is_some.ensures)
