-- A run over a cache that read nothing for want of memory.
use Rattle.std.proofs.Common.{◌≡◌, ℕ, ◌+◌, ◌≤◌, ◌<◌, ◌∙◌, inl, refl, ap, sym, subst, true, false, arith, List, [], ◌∷◌, ◌++◌, append-nil, Option, Some, None, take, length}
use Rattle.vd_model.specs.Setting.{Setting}
use Rattle.vd_model.specs.History.{deeds_of}
use Rattle.vd_output.specs.Out.{good_lines, history_after, output_from, script_output}
use Rattle.vd_engine.specs.Image.{IsImage}
use Rattle.vd_loop.specs.declared.progress.Stop.TheVariants.{Memory}
use Rattle.vd_top.specs.Executes.{AreFailures, AreUpTo}
use Rattle.vd_loop.specs.Written.{Appended}
use Rattle.vd_top.specs.Written.{AppendedFront, AppendedLines, WritesBy}
use Rattle.vd_cached.specs.Ends.{DiskAt, stop_of_cached}

none_written : (x : Setting) (text : List ℕ) (held : Option (List ℕ)) → Appended held held (output_from [] x 1 [] (take 0 (good_lines text)))
unfolding output_from
none_written x text None = tt
none_written x text (Some base) = ap Some (sym (append-nil base))

front_written : (bytes : List ℕ) (held : Option (List ℕ)) → AppendedFront held held bytes
front_written bytes None = tt
front_written bytes (Some base) = ([], bytes, refl, ap Some (sym (append-nil base)))

pub nothing_written : (x : Setting) (text : List ℕ) (held : Option (List ℕ)) → AppendedLines x text [] 0 held held
nothing_written x text held = record { there = omega arith; written = none_written x text held; front = front_written (script_output x text []) held }

pub no_failures : (lines : List (List ℕ)) → AreFailures lines []
no_failures lines = record {
  each = λ n failed. let no : false ≡ true = failed in absurd (cc);
  ascending = λ i j a b less one other. let no : None ≡ Some a = one in absurd (cc);
}

pub no_later : (last : ℕ) → AreUpTo last []
no_later last n failed = let no : false ≡ true = failed in absurd (cc)

pub disk_unread : (x : Setting) (text : List ℕ) (size : ℕ) (content : Option (List ℕ)) → IsImage x [] size content → DiskAt x text [] Memory 0 size content
unfolding history_after deeds_of
disk_unread x text size content is = record { run = 0; near = inl refl; there = omega arith; holds = is }

module _ (x : Setting) (text failures : List ℕ) (status lines : ℕ) (five : status ≡ 5) (none : lines ≡ 0) (empty : failures ≡ []) where
  pub unread_written : (held : Option (List ℕ)) → WritesBy x text failures (stop_of_cached status) lines held held
  unread_written held =
      subst (λ n. WritesBy x text failures (stop_of_cached n) lines held held) (sym five)
      (subst (λ n. WritesBy x text failures Memory n held held) (sym none)
      (subst (λ fs. WritesBy x text fs Memory 0 held held) (sym empty) (nothing_written x text held)))

  pub unread_holds : (size : ℕ) (content : Option (List ℕ)) → IsImage x [] size content → DiskAt x text failures (stop_of_cached status) lines size content
  unread_holds size content is =
      subst (λ n. DiskAt x text failures (stop_of_cached n) lines size content) (sym five)
      (subst (λ n. DiskAt x text failures Memory n size content) (sym none)
      (subst (λ fs. DiskAt x text fs Memory 0 size content) (sym empty) (disk_unread x text size content is)))
