-- For callers: which words may be put and copied after a step.
use Rattle.std.proofs.Common.{◌≡◌, ◌≢◌, ℕ, sym, subst}
use Rattle.std.specs.Prelude.{Contains}
use Rattle.sh_cells.specs.declared.word.Word.{Word}
use Rattle.sh_cells.specs.declared.word.Side.{Side}
use Rattle.sh_cells.specs.declared.view.Entry.{Entry}
use Rattle.sh_cells.specs.declared.view.Access.{Access}
use Rattle.sh_cells.specs.declared.view.View.{View}
use Rattle.sh_cells.specs.Words.{zero_word}
use Rattle.sh_cells.specs.Views.{access, with_entry, with_put, with_read}
use Rattle.sh_cells.specs.Backed.{Covers, MayPut, MayCopy}
use Rattle.sh_cells.proofs.Told.{contains_last}

-- right after a draw, each word that the entry covers may be put
pub just_drew : (v w : View) (e : Entry) (at : ℕ) (word : Word) → w ≡ with_entry v e → Covers e at word → MayPut w at word
just_drew v w e at word is covers = (e, subst (λ (y : View). Contains y.entries e) (sym is) (contains_last v.entries e), covers)

-- right after a put, the view has it
pub just_put : (v w : View) (p : Access) → w ≡ with_put v p → Contains w.puts p
just_put v w p is = subst (λ (y : View). Contains y.puts p) (sym is) (contains_last v.puts p)

-- right after a read, the word may be copied where it is not zero
pub just_read : (v w : View) (side : Side) (at : ℕ) (word : Word) → w ≡ with_read v (access side at word) → word ≢ zero_word → MayCopy w at word
just_read v w side at word is not_zero =
    (side, subst (λ (y : View). Contains y.reads (access side at word)) (sym is) (contains_last v.reads (access side at word)), not_zero)
