-- The law of isolation is met: another device acts between, and nothing of it shows; and only a line that shares a limit shows it.
use Rattle.std.specs.Prelude.{[], ◌∷◌, true, false, ◌≡◌, ◌≢◌, length}
use Rattle.vd_num.specs.declared.errno.Errno.TheVariants.{Busy}
use Rattle.vd_model.specs.declared.answer.Item.TheVariants.{Text}
use Rattle.vd_model.specs.declared.answer.Answer.TheVariants.{Done, Err}
use Rattle.vd_model.specs.History.{History, reply}
use Rattle.vd_model.specs.Agree.{Agree, is_private}
use Rattle.vd_laws.specs.Small.{small_setting, v, w, history_of, dev, image, buf, peek, setstatus, recv}

-- what v did alone, and with lines of w between
abbrev pub history_alone : History
history_alone = history_of (buf v (7 ∷ 8 ∷ []) ∷ dev v ∷ [])

abbrev pub history_between : History
history_between = history_of (image w 0 8 ∷ recv w ∷ buf v (7 ∷ 8 ∷ []) ∷ setstatus w 1 ∷ buf w (9 ∷ 9 ∷ []) ∷ dev w ∷ dev v ∷ [])

pub record IsolationInstances : Type 0 where
  -- the two agree on v, though w acts in one of them
  pub agree : Agree small_setting v history_between history_alone
  pub differ : length history_between ≢ length history_alone
  -- a private line of v is answered alike
  pub peek_is_private : is_private v (peek v 0 0 2) ≡ true
  pub with_others : reply small_setting history_between (peek v 0 0 2) false ≡ Done (Text (7 ∷ 8 ∷ []) ∷ [])
  pub without_others : reply small_setting history_alone (peek v 0 0 2) false ≡ Done (Text (7 ∷ 8 ∷ []) ∷ [])
  -- a line that asks for sectors isn't private, and shows that w has them
  pub image_is_shared : is_private v (image v 0 8) ≡ false
  pub image_is_busy : reply small_setting history_between (image v 0 8) false ≡ Err Busy
  pub image_is_free : reply small_setting history_alone (image v 0 8) false ≡ Done []
