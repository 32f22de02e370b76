use Rattle.std.proofs.Common.{◌≡◌, ℕ, List, ◌+◌, ◌<◌, ◌≤◌, true, length, eq-eqb, le-leb, rules, arith, sym, ap, subst, ◌∙◌, Some}
use Rattle.std.proofs.lemmas.Bool.{false≢true}
use Rattle.std.specs.Prelude.{slice_range}
use Rattle.vd_num.specs.Field.{field_at}
use Rattle.std.proofs.lemmas.List.{length-drop}
use Rattle.vd_model.specs.Raw.{are_zero}
use Rattle.vd_abi.specs.Structs.{dev_config, is_dev_config}
use Rattle.vd_abi.proofs.Layouts.{shows-laid_out, length-laid_out}
use Rattle.vd_abi.proofs.Same.{same_dev_config}
use Rattle.vd_abi.proofs.control.DevConfig.read.Goals as goal
use Rattle.vd_abi.proofs.control.DevConfig.read.Goals.{then-from-config_size-via-then-from-config_size, then-from-config_size-via-else-from-config_size+then-not-are_zero}

pub returns-then-from-lt-LEN-clause-again : goal.returns-then-from-lt-LEN-clause-again
returns-then-from-lt-LEN-clause-again c = λ e fits is.
    let len = length-laid_out _ (336 + length e.config) (dev_config e) (search rules) fits is in
    absurd (omega (arith, len, c.if-from-lt-LEN.true))

pub returns-then-from-config_size-clause-again : goal.returns-then-from-config_size-clause-again
returns-then-from-config_size-clause-again c = λ e fits is.
    let len = length-laid_out _ (336 + length e.config) (dev_config e) (search rules) fits is in
    let shown = shows-laid_out _ (336 + length e.config) (dev_config e) (search rules) fits is in
    let same : length e.config ≡ c.get32-config_size.result = shown.1.1.1.1.1.1.1.0 ∙ sym c.get32-config_size.ensures in
    elim c.then-from-config_size.branch [
      | then-from-config_size-via-then-from-config_size w ↦
          absurd (w.if-from-config_size.true (len ∙ ap (λ n. 336 + n) same))
      | then-from-config_size-via-else-from-config_size+then-not-are_zero w ↦
          absurd (false≢true (sym w.if-not-are_zero.true ∙ w.are_zero.ensures ∙ shown.1.1.1.1.1.1.0))
    ]

-- the bytes that are kept are as many as the struct says
config_len : (c : goal.After-get32-4) → length c.in_ok-config.config ≡ c.get32-config_size.result
config_len c =
    omega (arith, ap length c.in_ok-config.ensures, length-drop 336 c.args.from.now, c.if-from-config_size.false)

pub returns-clause-fields : goal.returns-clause-fields
returns-clause-fields c =
    (c.in_ok-name.ensures.value, (c.get32.ensures, (c.get32-2.ensures, (c.get64.ensures, (c.get32-3.ensures, (c.get32-4.ensures, (sym c.are_zero.ensures ∙ c.if-not-are_zero.false, (config_len c ∙ c.get32-config_size.ensures, (c.in_ok-config.ensures, tt)))))))))

pub returns-clause-writable : goal.returns-clause-writable
returns-clause-writable c =
    let small = subst (λ (n : ℕ). n < 4294967296) (sym (config_len c)) c.get32-config_size.type_inv in
    (c.in_ok-name.ensures.text, (c.get32.type_inv, (c.get32-2.type_inv, (c.get64.type_inv, (c.get32-3.type_inv, (c.get32-4.type_inv, (tt, (small, (tt, tt)))))))))

-- bytes that passed each test are a config
is_config : (xs : List ℕ) (n : ℕ) → 336 ≤ length xs → length xs ≡ 336 + n → n ≡ field_at 4 xs 332 → are_zero (slice_range xs 280 332) ≡ true → is_dev_config xs ≡ true
is_config xs n long exact size zero =
    let a = le-leb 336 (length xs) long in
    let b = eq-eqb (length xs) (336 + field_at 4 xs 332) (exact ∙ ap (λ (k : ℕ). 336 + k) size) in
    cc

pub returns-clause-refused : goal.returns-clause-refused
returns-clause-refused c = λ bad.
    absurd
    (false≢true
    (sym bad ∙ is_config c.args.from.now _ c.if-from-lt-LEN.false c.if-from-config_size.false c.get32-config_size.ensures (sym c.are_zero.ensures ∙ c.if-not-are_zero.false)))

pub returns-clause-again : goal.returns-clause-again
returns-clause-again c = λ e fits is.
    ap Some (same_dev_config c.args.from.now _ e (returns-clause-fields c) (shows-laid_out _ (336 + length e.config) (dev_config e) (search rules) fits is))
