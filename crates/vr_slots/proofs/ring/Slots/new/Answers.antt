use Rattle.std.proofs.Common.{◌≡◌, ◌++◌, ◌∷◌, [], List, ℕ, length, map, refl, ap, subst, sym, ◌∙◌, rules}
use Rattle.std.proofs.lemmas.List.Elements.{All-push}
use Rattle.vr_slots.specs.Slots.{slot_of}
use Rattle.vr_slots.proofs.SlotLemmas.{zeros-more}
use Rattle.std.specs.List.{All}
use Rattle.vr_slots.proofs.ring.Slots.new.Goals as goal

abbrev zeros : List ℕ
zeros = 0 ∷ 0 ∷ 0 ∷ 0 ∷ 0 ∷ 0 ∷ 0 ∷ 0 ∷ 0 ∷ 0 ∷ 0 ∷ 0 ∷ 0 ∷ 0 ∷ 0 ∷ 0 ∷ []

pub loop-i-preserved : goal.loop-i-preserved
loop-i-preserved c =
    let items : c.push.new.self.items ≡ c.loop-i.held.items ++ zeros ∷ [] = c.in_ok-push.ensures.items in
    record {
      zeros = ap (λ (l : List (List ℕ)). map slot_of l) items ∙ zeros-more c.loop-i.held.items zeros c.loop-i.i refl c.loop-i.invariant.zeros;
      len = search rules;
      whole = subst (λ (l : List (List ℕ)). All (λ b. length b ≡ 16) l) (sym items) (All-push (λ b. length b ≡ 16) c.loop-i.held.items zeros c.loop-i.invariant.whole refl);
    }
