-- Calls on the config space as lines.
use Rattle.std.proofs.Common.{◌≡◌, ◌==◌, ℕ, ◌+◌, ◌≤◌, Bool, true, false, ◌||◌, List, [], ◌∷◌, ◌++◌, length, take, drop, Result, Ok, Err, refl, sym, ap, ◌∙◌, subst, arith}
use Rattle.std.specs.Prelude.{◌↔◌, IsTrue, OnOk, OnErr, IfErr, nat_lt, slice_range}
use Rattle.std.proofs.lemmas.Bool.{ltb-false}
use Rattle.std.proofs.lemmas.List.{length-append, length-take, length-drop}
use Rattle.vd_num.specs.declared.errno.Errno.{Errno}
use Rattle.vd_num.specs.declared.errno.Errno.TheVariants.{Inval}
use Rattle.vd_model.specs.declared.answer.Answer.{Answer}
use Rattle.vd_model.specs.declared.answer.Answer.TheVariants as answer
use Rattle.vd_model.specs.declared.answer.Item.TheVariants.{Text}
use Rattle.vd_model.specs.Creation.{Creation}
use Rattle.vd_model.specs.Acts.{Act, Node, Config_put}
use Rattle.vd_model.specs.Turn.{refuse, refusal_if, done_with}
use Rattle.vd_model.specs.BusTurns.{config_of, getconfig_turn, is_outside_config, overlay}
use Rattle.vd_model.specs.NodeTurns.{setconfig_turn}
use Rattle.vd_answers.specs.Tells.{Tells, answer_of}
use Rattle.vd_answers.proofs.Telling.{tells_by}
use Rattle.vd_config_lines.specs.After.{ConfigBefore, ConfigAfter}

-- what is outside the space is outside the one that was made
pub same_outside : (made : Creation) (acts : List Act) (space : List ℕ) (at len : ℕ) → ConfigBefore made acts space → is_outside_config made.config at len ≡ is_outside_config space at len
same_outside made acts space at len s = ap (λ n. (len == 0) || nat_lt n (at + len)) (sym s.size)

-- a test that is true exactly where a call is refused is false where it isn't
pub not_refused : {X : Type 0} (value : X) (test : Bool) → ((Ok value ≡ Err Inval) ↔ IsTrue test) → test ≡ false
not_refused value false refused = refl
not_refused value true refused = absurd (let h : Ok value ≡ Err Inval = refused.1 refl in cc)

either_false : (a b : Bool) → (a || b) ≡ false → b ≡ false
either_false false b h = h
either_false true b h = absurd (cc)

-- bytes within a space leave its length
pub length-overlaid : (space : List ℕ) (at : ℕ) (bytes : List ℕ) → is_outside_config space at (length bytes) ≡ false → length (overlay space at bytes) ≡ length space
length-overlaid space at bytes inside =
    let within : at + length bytes ≤ length space = ltb-false (length space) (at + length bytes) (either_false (length bytes == 0) _ inside) in
    omega
    (arith, length-append (take at space) (bytes ++ drop (at + length bytes) space), length-append bytes (drop (at + length bytes) space), length-take at space, length-drop (at + length bytes) space)

-- the space stands for what it stood for
pub stays : (made : Creation) (acts : List Act) (space : List ℕ) → ConfigBefore made acts space → ConfigAfter made acts space []
stays made acts space s = record { only = refl; stands = s }

-- a write of the space as a line
pub set_line : {heard : Answer → Type 0} (made : Creation) (acts : List Act) (old new : List ℕ) (at : ℕ) (bytes : List ℕ) (r : Result (Unit {0}) Errno) → ConfigBefore made acts old
    → ((r ≡ Err Inval) ↔ IsTrue (is_outside_config old at (length bytes))) → IfErr r (λ e. e ≡ Inval) → OnOk r (new ≡ overlay old at bytes) → OnErr r (new ≡ old) → heard (answer_of r)
    → Tells heard (setconfig_turn made at bytes) (ConfigAfter made acts new)
set_line made acts old new at bytes (Ok u) s refused only ok err h =
    let inside = not_refused u (is_outside_config old at (length bytes)) refused in
    tells_by
    (ap (λ b. refuse (refusal_if b Inval) (done_with [] (Node (Config_put at bytes) ∷ []))) (same_outside made acts old at (length bytes) s ∙ inside))
    refl h
    (record {
      only = refl;
      stands = record {
        bytes = ok ∙ ap (λ held. overlay held at bytes) s.bytes;
        size = ap length ok ∙ length-overlaid old at bytes inside ∙ s.size;
      };
    })
set_line {heard} made acts old new at bytes (Err e) s refused only ok err h =
    tells_by
    (ap (λ b. refuse (refusal_if b Inval) (done_with [] (Node (Config_put at bytes) ∷ []))) (same_outside made acts old at (length bytes) s ∙ refused.0 (ap Err only)))
    (ap answer.Err only) h
    (subst (λ held. ConfigAfter made acts held []) (sym err) (stays made acts old s))

-- a look at the space as a turn
pub told_turn : (made : Creation) (acts : List Act) (space : List ℕ) (at len : ℕ) → ConfigBefore made acts space → is_outside_config space at len ≡ false
    → getconfig_turn made acts at len ≡ done_with (Text (slice_range space at (at + len)) ∷ []) []
told_turn made acts space at len s inside =
    ap (λ b. refuse (refusal_if b Inval) (done_with (Text (slice_range (config_of made.config acts) at (at + len)) ∷ []) [])) (same_outside made acts space at len s ∙ inside)
    ∙ ap (λ held. done_with (Text (slice_range held at (at + len)) ∷ []) []) (sym s.bytes)

pub refused_turn : (made : Creation) (acts : List Act) (space : List ℕ) (at len : ℕ) → ConfigBefore made acts space → is_outside_config space at len ≡ true
    → getconfig_turn made acts at len ≡ record { answer = answer.Err Inval; acts = [] }
refused_turn made acts space at len s outside =
    ap (λ b. refuse (refusal_if b Inval) (done_with (Text (slice_range (config_of made.config acts) at (at + len)) ∷ []) [])) (same_outside made acts space at len s ∙ outside)
